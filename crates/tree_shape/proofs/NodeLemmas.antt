-- Nodes by their halves, and peaks one after another.
use Rattle.std.proofs.Common.{◌≡◌, ℕ, zero, suc, ◌+◌, ◌-◌, ◌^◌, ◌<◌, ◌≤◌, List, [], ◌∷◌, ◌++◌, length, drop, get_or, refl, sym, ◌∙◌, ap, arith, add-one, drop-cons}
use Rattle.std.proofs.lemmas.Option.{slice_get_read, get_or_from_slice_get}
use Rattle.std.proofs.lemmas.Nat.{pow_below}
use Rattle.std.proofs.lemmas.Bool.Decides.{eqb_tells}
use Rattle.std.proofs.Common.{true, false, le-leb}
use Rattle.std.proofs.lemmas.Bool.{lt-leb}
use Rattle.std.proofs.Common.{inl, inr}
use Rattle.tree_shape.specs.Hashing.{Hashing, node_input}
use Rattle.tree_shape.specs.Shape.{Shape, PeaksStand}
use Rattle.tree_shape.specs.Slow.{leaf_at, node, node_of, peak_digests}
use Rattle.tree_shape.specs.Shape.{peaks, peaks_down, ends_by}
use Rattle.std.proofs.Common.{map, reverse}
use Rattle.std.specs.Prelude.{Bool, cond, count_by, nat_le}
use Rattle.std.proofs.lemmas.List.Recursion.{is_count_by}
use Rattle.std.proofs.lemmas.List.{map-append, reverse-append}
use Rattle.std.proofs.lemmas.List.{length-reverse}

pub node-from_halves : {D : Type 0} (s : Shape) (h : Hashing D) (leaves : List D) (x k : ℕ) → 0 < k
    → h.digest (node_input h (s.position x k) (node s h leaves x (k - 1)) (node s h leaves (x + 2 ^ (k - 1)) (k - 1))) ≡ node s h leaves x k
unfolding node
node-from_halves s h leaves x zero lt = absurd (omega arith)
node-from_halves s h leaves x (suc k) lt = let e : suc k - 1 ≡ k = omega arith in rw e refl

-- an element read from a list is that of any default
pub read-get_or : {D : Type 0} (xs : List D) (i : ℕ) (x d : D) → i < length xs → x ≡ get_or xs i x → x ≡ get_or xs i d
read-get_or xs i x d lt e = sym (get_or_from_slice_get xs i x d (slice_get_read xs (length xs) i x refl lt e))

pub node-leaf : {D : Type 0} (s : Shape) (h : Hashing D) (leaves : List D) (x k : ℕ) → k ≡ 0 → leaf_at h leaves x ≡ node s h leaves x k
unfolding node
node-leaf s h leaves x k z = rw z refl

pub low_height : (h n : ℕ) → 2 ^ h ≤ n → n ≤ 2 ^ 62 → h < 63
low_height h n le few = elim (eqb_tells (h - 62) 0) [
  | inl e ↦ omega (arith, e.1)
  | inr e ↦ let past : 62 < h = omega (arith, e.1) in let more : 2 ^ 62 < 2 ^ h = pow_below 62 h past in absurd (omega arith)
]

-- the next peak of those that are left
pub next_peak : (s : Shape) (cs : List (ℕ × ℕ)) (e i : ℕ) (hs : List ℕ) → i < length hs → PeaksStand s cs e (drop i hs)
    → (2 ^ get_or hs i 0 ≤ e) × PeaksStand s cs (e - 2 ^ get_or hs i 0) (drop (i + 1) hs)
next_peak s cs e i hs lt p = let q : PeaksStand s cs e (get_or hs i 0 ∷ drop (i + 1) hs) = rw add-one (rw (drop-cons hs i 0) at p) in (q.0, q.2)

pub length-peak_digests : {D : Type 0} (s : Shape) (h : Hashing D) (leaves : List D) (e : ℕ) (hs : List ℕ) → length (peak_digests s h leaves e hs) ≡ length hs
length-peak_digests s h leaves e [] = refl
length-peak_digests s h leaves e (k ∷ ks) = ap suc (length-peak_digests s h leaves (e - 2 ^ k) ks)

-- the peaks that are left end below the leaves
pub peak_room : (s : Shape) (cs : List (ℕ × ℕ)) (e n i : ℕ) (hs : List ℕ) → e ≤ n → n ≤ 2 ^ 62 → i < length hs → PeaksStand s cs e (drop i hs)
    → (get_or hs i 0 < 63) × (2 ^ get_or hs i 0 ≤ e)
peak_room s cs e n i hs le few lt p = let q = next_peak s cs e i hs lt p in (low_height (get_or hs i 0) n (omega (arith, q.0)) few, q.0)

pub map-reverse : {A B : Type 0} (f : A → B) (xs : List A) → map f (reverse xs) ≡ reverse (map f xs)
map-reverse f [] = refl
map-reverse f (x ∷ xs) =
    ap (map f) (reverse-append (x ∷ []) xs) ∙ map-append f (reverse xs) (x ∷ []) ∙ ap (λ ys. ys ++ (f x ∷ [])) (map-reverse f xs)
    ∙ sym (reverse-append (f x ∷ []) (map f xs))

-- the number of peaks, in either order
pub length-peaks : {D : Type 0} (s : Shape) (h : Hashing D) (leaves : List D) (n : ℕ) → length (map (node_of s h leaves) (peaks s n)) ≡ length (s.heights n)
length-peaks s h leaves n = ap length (map-reverse (node_of s h leaves) (peaks_down n (s.heights n))) ∙ length-reverse (peak_digests s h leaves n (s.heights n)) ∙ length-peak_digests s h leaves n (s.heights n)

-- the count by recursion
abbrev counted : {X : Type 0} → (X → Bool) → List X → ℕ
counted p [] = 0
counted p (x ∷ xs) = cond (p x) (1 + counted p xs) (counted p xs)

counted_is : {X : Type 0} (p : X → Bool) (xs : List X) → counted p xs ≡ count_by p xs
counted_is p xs = is_count_by (counted p) p refl (λ x ys. refl) xs

past_counted : (f e i : ℕ) (hs : List ℕ) → i < length hs → 2 ^ get_or hs i 0 ≤ e → f < e
    → counted (ends_by f) (peaks_down e (drop i hs)) ≡ counted (ends_by f) (peaks_down (e - 2 ^ get_or hs i 0) (drop (i + 1) hs))
past_counted f e i hs lt le past =
    let t : nat_le (e - 2 ^ get_or hs i 0 + 2 ^ get_or hs i 0) f ≡ false = lt-leb _ _ (omega arith) in
    ap (λ ks. counted (ends_by f) (peaks_down e ks)) (drop-cons hs i 0 lt) ∙ rw (add-one, t) refl

-- where the next peak ends past f, it doesn't count
pub past_count : (f e i : ℕ) (hs : List ℕ) → i < length hs → 2 ^ get_or hs i 0 ≤ e → f < e
    → count_by (ends_by f) (peaks_down e (drop i hs)) ≡ count_by (ends_by f) (peaks_down (e - 2 ^ get_or hs i 0) (drop (i + 1) hs))
past_count f e i hs lt le past =
    sym (counted_is (ends_by f) (peaks_down e (drop i hs))) ∙ past_counted f e i hs lt le past
    ∙ counted_is (ends_by f) (peaks_down (e - 2 ^ get_or hs i 0) (drop (i + 1) hs))

all_counted : (s : Shape) (cs : List (ℕ × ℕ)) (f e : ℕ) (hs : List ℕ) → e ≤ f → PeaksStand s cs e hs → counted (ends_by f) (peaks_down e hs) ≡ length hs
all_counted s cs f e [] le p = refl
all_counted s cs f e (k ∷ ks) le p =
    let t : nat_le (e - 2 ^ k + 2 ^ k) f ≡ true = le-leb _ _ (omega (arith, p.0)) in
    let rest = all_counted s cs f (e - 2 ^ k) ks (omega arith) p.2 in
    rw (t, rest) (omega arith)

-- where the newest ends at or below f, all do
pub all_count : (s : Shape) (cs : List (ℕ × ℕ)) (f e : ℕ) (hs : List ℕ) → e ≤ f → PeaksStand s cs e hs → count_by (ends_by f) (peaks_down e hs) ≡ length hs
all_count s cs f e hs le p = sym (counted_is (ends_by f) (peaks_down e hs)) ∙ all_counted s cs f e hs le p
