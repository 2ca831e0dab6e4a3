-- Equal hash inputs have equal parts.
use Rattle.std.proofs.Common.{◌≡◌, ℕ, zero, suc, ◌^◌, ◌<◌, List, [], ◌∷◌, ◌++◌, length, take, drop, refl, sym, ◌∙◌, ap, subst, arith, length-append}
use Rattle.std.specs.Int.{w64, from_be_bytes}
use Rattle.std.specs.List.{Contains, flat_map}
use Rattle.std.proofs.Math.Seq.{take-append_seam, drop-append_seam}
use Rattle.std.proofs.lemmas.List.Elements.{Contains-append_left, Contains-append_right}
use Rattle.std.proofs.lemmas.Nat.{from_be_bytes-to_be_bytes_8}
use Rattle.tree_shape.specs.declared.bagging.Bagging.{Bagging}
use Rattle.tree_shape.specs.Hashing.{Hashing, number, leaf_input, node_input, fold_input}
use Rattle.tree_shape.specs.Root.{bagging_byte, root_input}

-- equal joined lists whose first parts have one length
pub split : {X : Type 0} (xs ys us vs : List X) → length xs ≡ length us → xs ++ ys ≡ us ++ vs → (xs ≡ us) × (ys ≡ vs)
split xs ys us vs l e =
    let a : xs ≡ take (length xs) (us ++ vs) = sym (take-append_seam xs ys) ∙ ap (take (length xs)) e in
    let b : ys ≡ drop (length xs) (us ++ vs) = sym (drop-append_seam xs ys) ∙ ap (drop (length xs)) e in
    (a ∙ ap (λ n. take n (us ++ vs)) l ∙ take-append_seam us vs, b ∙ ap (λ n. drop n (us ++ vs)) l ∙ drop-append_seam us vs)

length-number : (n : ℕ) → length (number n) ≡ 8
unfolding number
length-number n = refl

number_is : (m n : ℕ) → m < 2 ^ 64 → n < 2 ^ 64 → number m ≡ number n → m ≡ n
unfolding number
number_is m n fm fn e = sym (from_be_bytes-to_be_bytes_8 m fm) ∙ ap (from_be_bytes w64) e ∙ from_be_bytes-to_be_bytes_8 n fn

pub leaf_input_same : (position : ℕ) (x y : List ℕ) → leaf_input position x ≡ leaf_input position y → x ≡ y
leaf_input_same position x y e = (split (0 ∷ number position) x (0 ∷ number position) y refl e).1

module _ {D : Type 0} (h : Hashing D) (exact : (a b : D) → h.bytes a ≡ h.bytes b → a ≡ b) where
  pub node_input_same : (pos : ℕ) (l r l1 r1 : D) → length (h.bytes l) ≡ length (h.bytes l1) → node_input h pos l r ≡ node_input h pos l1 r1 → (l ≡ l1) × (r ≡ r1)
  node_input_same pos l r l1 r1 sized e =
      let front = 1 ∷ number pos in
      let two = split (front ++ h.bytes l) (h.bytes r) (front ++ h.bytes l1) (h.bytes r1) (omega (arith, length-append front (h.bytes l), length-append front (h.bytes l1), sized)) e in
      let one = split front (h.bytes l) front (h.bytes l1) refl two.0 in
      (exact l l1 one.1, exact r r1 two.1)

  pub fold_input_same : (p q p1 q1 : D) → length (h.bytes p) ≡ length (h.bytes p1) → fold_input h p q ≡ fold_input h p1 q1 → (p ≡ p1) × (q ≡ q1)
  fold_input_same p q p1 q1 sized e =
      let t = split (2 ∷ h.bytes p) (h.bytes q) (2 ∷ h.bytes p1) (h.bytes q1) (omega (arith, sized)) e in
      (exact p p1 (ap (drop 1) t.0), exact q q1 t.1)

pub record SameRoots (m n j k : ℕ) (xs ys : List ℕ) : Type 0 where
  pub leaves : m ≡ n
  pub inactive : j ≡ k
  pub folded : xs ≡ ys

pub root_input_same : (m n j k : ℕ) (b : Bagging) (xs ys : List ℕ) → m < 2 ^ 64 → n < 2 ^ 64 → j < 2 ^ 64 → k < 2 ^ 64 → root_input m j b xs ≡ root_input n k b ys → SameRoots m n j k xs ys
root_input_same m n j k b xs ys fm fn fj fk e =
    let lm = length-number m in
    let ln = length-number n in
    let lj = length-number j in
    let lk = length-number k in
    let one = split (((3 ∷ number m) ++ number j) ++ (bagging_byte b ∷ [])) xs (((3 ∷ number n) ++ number k) ++ (bagging_byte b ∷ [])) ys
    (omega (arith, lm, ln, lj, lk, length-append ((3 ∷ number m) ++ number j) (bagging_byte b ∷ []), length-append ((3 ∷ number n) ++ number k) (bagging_byte b ∷ []), length-append (3 ∷ number m) (number j), length-append (3 ∷ number n) (number k))) e in
    let two = split ((3 ∷ number m) ++ number j) (bagging_byte b ∷ []) ((3 ∷ number n) ++ number k) (bagging_byte b ∷ [])
    (omega (arith, lm, ln, lj, lk, length-append (3 ∷ number m) (number j), length-append (3 ∷ number n) (number k))) one.0 in
    let three = split (3 ∷ number m) (number j) (3 ∷ number n) (number k) (omega (arith, lm, ln)) two.0 in
    let tail : number m ≡ number n = ap (drop 1) three.0 in
    record { leaves = number_is m n fm fn tail; inactive = number_is j k fj fk three.1; folded = one.1 }

-- an input among those of one member is among those of all
pub in_flat_map : {X A : Type 0} (f : X → List A) (xs : List X) (x : X) (a : A) → Contains xs x → Contains (f x) a → Contains (flat_map f xs) a
in_flat_map f [] x a (k, within, is) c = absurd (omega (arith, within))
in_flat_map f (y ∷ ys) x a (zero, within, is) c = Contains-append_left (f y) (flat_map f ys) a (subst (λ z. Contains (f z) a) (sym is) c)
in_flat_map f (y ∷ ys) x a (suc k, within, is) c = Contains-append_right (f y) (flat_map f ys) a (in_flat_map f ys x a (k, omega (arith, within), is) c)
