-- The nodes that the walk has put so far.
use Rattle.std.proofs.Common.{◌≡◌, ℕ, zero, suc, ◌+◌, ◌-◌, ◌^◌, ◌<◌, true, false, List, [], ◌∷◌, ◌++◌, length, map, drop, get_or, Option, None, Some, inl, inr, refl, sym, ◌∙◌, ap, arith, drop-cons, append_assoc, length-append}
use Rattle.std.specs.Prelude.{◌==◌, ◌↔◌, IsTrue, IfSome, IfNone}
use Rattle.std.proofs.lemmas.Bool.Decides.{eqb_tells}
use Rattle.std.proofs.lemmas.List.{map-append}
use Rattle.tree_shape.specs.Hashing.{Hashing, node_input}
use Rattle.tree_shape.specs.Shape.{Shape, peaks}
use Rattle.tree_proof.specs.Cover.{Opened, cover_in, cover_over, cover}
use Rattle.tree_proof.proofs.CoverSteps.{cover_in-outside, cover_in-leaf, cover_in-halves}
use Rattle.tree_verification.specs.Told.{told_in, told_over, told_nodes, in_tree, IsHashed, entries, found, Puts}
use Rattle.tree_verification.proofs.FoundLemmas.{found-append}

-- ---- how many nodes the cover has inside one node, by cases

pub count-outside : (met : Opened) (x k : ℕ) → met x k ≡ false → length (cover_in met x k) ≡ 1
count-outside met x k out = ap length (cover_in-outside met x k out)

pub count-leaf : (met : Opened) (x k : ℕ) → met x k ≡ true → k ≡ 0 → length (cover_in met x k) ≡ 0
count-leaf met x k inside z = ap length (cover_in-leaf met x k inside z)

pub count-halves : (met : Opened) (x k half : ℕ) → met x k ≡ true → 0 < k → half ≡ 2 ^ (k - 1) → length (cover_in met x k) ≡ length (cover_in met x (k - 1)) + length (cover_in met (x + half) (k - 1))
count-halves met x k half inside lt he = ap length (cover_in-halves met x k half inside lt he) ∙ length-append (cover_in met x (k - 1)) (cover_in met (x + half) (k - 1))

-- ---- the nodes that are told inside one node, by cases

told_in-outside : (met : Opened) (x k : ℕ) → met x k ≡ false → told_in met x k ≡ (x, k) ∷ []
unfolding told_in
told_in-outside met x zero e = refl
told_in-outside met x (suc k) e = rw e refl

told_in-leaf : (met : Opened) (x k : ℕ) → k ≡ 0 → told_in met x k ≡ (x, k) ∷ []
unfolding told_in
told_in-leaf met x zero z = refl
told_in-leaf met x (suc k) z = absurd (omega arith)

told_in-halves : (met : Opened) (x k half : ℕ) → met x k ≡ true → 0 < k → half ≡ 2 ^ (k - 1) → told_in met x k ≡ (told_in met x (k - 1) ++ told_in met (x + half) (k - 1)) ++ ((x, k) ∷ [])
unfolding told_in
told_in-halves met x zero half e lt he = absurd (omega arith)
told_in-halves met x (suc k) half e lt he = let one : suc k - 1 ≡ k = omega arith in rw (e, he, one) refl

module _ {D : Type 0} (s : Shape) (h : Hashing D) (met : Opened) (leaf_of : ℕ → D) (tree : ℕ → ℕ → D) where
  found-three : (p : ℕ) (o : Option D) (ls bs cs : List (ℕ × ℕ)) → found p o (entries s tree ((ls ++ bs) ++ cs)) ≡ found p (found p (found p o (entries s tree ls)) (entries s tree bs)) (entries s tree cs)
  found-three p o ls bs cs =
      let f : ℕ × ℕ → ℕ × D = λ q. (s.position q.0 q.1, tree q.0 q.1) in
      ap (found p o) (map-append f (ls ++ bs) cs ∙ ap (λ es. es ++ map f cs) (map-append f ls bs))
      ∙ found-append p o (map f ls ++ map f bs) (map f cs)
      ∙ ap (λ q. found p q (map f cs)) (found-append p o (map f ls) (map f bs))

  pub puts-outside : (x k at : ℕ) (ds rest : List D) (old new : ℕ → Option D) (d : D) → met x k ≡ false → at < length ds → d ≡ get_or ds at d
      → ((p : ℕ) → new p ≡ found p (old p) ((s.position x k, d) ∷ [])) → drop at ds ≡ map (in_tree tree) (cover_in met x k) ++ rest → Puts s met tree x k old new d (drop (at + 1) ds) rest
  puts-outside x k at ds rest old new d out lt is put told =
      let here : get_or ds at d ∷ drop (suc at) ds ≡ tree x k ∷ rest = sym (drop-cons ds at d lt) ∙ told ∙ ap (λ ps. map (in_tree tree) ps ++ rest) (cover_in-outside met x k out) in
      let first : d ≡ tree x k = is ∙ ap (λ (zs : List D). get_or zs 0 d) here in
      let up : suc at ≡ at + 1 = omega arith in
      record {
        digest = first;
        taken = ap (λ j. drop j ds) (sym up) ∙ ap (drop 1) here;
        nodes = λ p. put p ∙ ap (λ e. found p (old p) ((s.position x k, e) ∷ [])) first ∙ ap (λ ps. found p (old p) (entries s tree ps)) (sym (told_in-outside met x k out));
      }

  pub puts-leaf : (x k at : ℕ) (ds rest : List D) (old new : ℕ → Option D) (d : D) → IsHashed s h met leaf_of tree → met x k ≡ true → k ≡ 0 → d ≡ leaf_of x
      → ((p : ℕ) → new p ≡ found p (old p) ((s.position x k, d) ∷ [])) → drop at ds ≡ map (in_tree tree) (cover_in met x k) ++ rest → Puts s met tree x k old new d (drop at ds) rest
  puts-leaf x k at ds rest old new d hashed inside z is put told =
      let met_leaf : met x 0 ≡ true = ap (met x) (sym z) ∙ inside in
      let first : d ≡ tree x k = is ∙ sym (hashed.leaves x met_leaf) ∙ ap (tree x) (sym z) in
      record {
        digest = first;
        taken = told ∙ ap (λ ps. map (in_tree tree) ps ++ rest) (cover_in-leaf met x k inside z);
        nodes = λ p. put p ∙ ap (λ e. found p (old p) ((s.position x k, e) ∷ [])) first ∙ ap (λ ps. found p (old p) (entries s tree ps)) (sym (told_in-leaf met x k z));
      }

  -- the digests of the left half stand before those of the right one
  pub taken-halves : (x k half at : ℕ) (ds rest : List D) → met x k ≡ true → 0 < k → half ≡ 2 ^ (k - 1) → drop at ds ≡ map (in_tree tree) (cover_in met x k) ++ rest
      → drop at ds ≡ map (in_tree tree) (cover_in met x (k - 1)) ++ (map (in_tree tree) (cover_in met (x + half) (k - 1)) ++ rest)
  taken-halves x k half at ds rest inside lt he told =
      let l = cover_in met x (k - 1) in
      let r = cover_in met (x + half) (k - 1) in
      told ∙ ap (λ ps. map (in_tree tree) ps ++ rest) (cover_in-halves met x k half inside lt he)
      ∙ ap (λ ds. ds ++ rest) (map-append (in_tree tree) l r) ∙ append_assoc (map (in_tree tree) l) (map (in_tree tree) r) rest

  parent-is : (x k half : ℕ) → IsHashed s h met leaf_of tree → met x k ≡ true → 0 < k → half ≡ 2 ^ (k - 1) → tree x k ≡ h.digest (node_input h (s.position x k) (tree x (k - 1)) (tree (x + half) (k - 1)))
  parent-is x zero half hashed inside lt he = absurd (omega arith)
  parent-is x (suc k) half hashed inside lt he = let one : suc k - 1 ≡ k = omega arith in rw (he, one) (hashed.parents x k inside)

  pub puts-parent : (x k half : ℕ) (old mid more new : ℕ → Option D) (left right d : D) (ds es fs rest : List D) → IsHashed s h met leaf_of tree → met x k ≡ true → 0 < k → half ≡ 2 ^ (k - 1)
      → Puts s met tree x (k - 1) old mid left ds es → Puts s met tree (x + half) (k - 1) mid more right fs rest → d ≡ h.digest (node_input h (s.position x k) left right)
      → ((p : ℕ) → new p ≡ found p (more p) ((s.position x k, d) ∷ [])) → Puts s met tree x k old new d fs rest
  puts-parent x k half old mid more new left right d ds es fs rest hashed inside lt he l r is put =
      let first : d ≡ tree x k = is ∙ ap (λ a. h.digest (node_input h (s.position x k) a right)) l.digest ∙ ap (λ b. h.digest (node_input h (s.position x k) (tree x (k - 1)) b)) r.digest ∙ sym (parent-is x k half hashed inside lt he) in
      let ls = told_in met x (k - 1) in
      let bs = told_in met (x + half) (k - 1) in
      record {
        digest = first;
        taken = r.taken;
        nodes = λ p.
            put p ∙ ap (λ e. found p (more p) ((s.position x k, e) ∷ [])) first
            ∙ ap (λ o. found p o ((s.position x k, tree x k) ∷ [])) (r.nodes p ∙ ap (λ o. found p o (entries s tree bs)) (l.nodes p))
            ∙ sym (found-three p (old p) ls bs ((x, k) ∷ [])) ∙ ap (λ ps. found p (old p) (entries s tree ps)) (sym (told_in-halves met x k half inside lt he));
      }

  -- ---- over the peaks

  -- the digests from here on are those of the cover inside the nodes that are left, and the nodes so far and those told
  -- inside these are all
  pub record IsLeft (n : ℕ) (left : List (ℕ × ℕ)) (nodes : ℕ → Option D) (ds : List D) : Type 0 where
    pub digests : ds ≡ map (in_tree tree) (cover_over met left)
    pub told : (p : ℕ) → found p (nodes p) (entries s tree (told_over met left))
        ≡ found p None (entries s tree (told_nodes s met n))

  pub left_first : (n : ℕ) (left : List (ℕ × ℕ)) (nodes : ℕ → Option D) (ds : List D) → left ≡ peaks s n
      → ((p : ℕ) → nodes p ≡ None) → ds ≡ map (in_tree tree) (cover s met n) → IsLeft n left nodes ds
  left_first n left nodes ds e none is = record {
    digests = is ∙ ap (λ ps. map (in_tree tree) (cover_over met ps)) (sym e);
    told = λ p. ap (λ o. found p o (entries s tree (told_over met left))) (none p) ∙ ap (λ ps. found p None (entries s tree (told_over met ps))) e;
  }

  pub left_digests : (n : ℕ) (left later : List (ℕ × ℕ)) (x k : ℕ) (nodes : ℕ → Option D) (ds : List D)
      → IsLeft n left nodes ds → left ≡ (x, k) ∷ later
      → ds ≡ map (in_tree tree) (cover_in met x k) ++ map (in_tree tree) (cover_over met later)
  left_digests n left later x k nodes ds l are =
      l.digests ∙ ap (λ ps. map (in_tree tree) (cover_over met ps)) are ∙ map-append (in_tree tree) (cover_in met x k) (cover_over met later)

  pub left_next : (n : ℕ) (left later : List (ℕ × ℕ)) (x k : ℕ) (nodes more : ℕ → Option D) (d : D) (ds es : List D)
      → IsLeft n left nodes ds → left ≡ (x, k) ∷ later
      → Puts s met tree x k nodes more d es (map (in_tree tree) (cover_over met later)) → IsLeft n later more es
  left_next n left later x k nodes more d ds es l are puts =
      let f : ℕ × ℕ → ℕ × D = λ q. (s.position q.0 q.1, tree q.0 q.1) in
      let ls = told_in met x k in
      let bs = told_over met later in
      record {
        digests = puts.taken;
        told = λ p.
            ap (λ o. found p o (map f bs)) (puts.nodes p) ∙ sym (found-append p (nodes p) (map f ls) (map f bs)) ∙ ap (found p (nodes p)) (sym (map-append f ls bs))
            ∙ ap (λ ps. found p (nodes p) (entries s tree (told_over met ps))) (sym are) ∙ l.told p;
      }

  pub left_none : (n : ℕ) (left : List (ℕ × ℕ)) (nodes : ℕ → Option D) (ds : List D) → IsLeft n left nodes ds → left ≡ []
      → (p : ℕ) → nodes p ≡ found p None (entries s tree (told_nodes s met n))
  left_none n left nodes ds l z p = ap (λ ps. found p (nodes p) (entries s tree (told_over met ps))) (sym z) ∙ l.told p

-- the nodes of the cover inside the nodes that are left
pub count-next : (met : Opened) (left later : List (ℕ × ℕ)) (x k : ℕ) → left ≡ (x, k) ∷ later
    → length (cover_over met left) ≡ length (cover_in met x k) + length (cover_over met later)
count-next met left later x k are = ap (λ ps. length (cover_over met ps)) are ∙ length-append (cover_in met x k) (cover_over met later)

pub count-all : (s : Shape) (met : Opened) (n : ℕ) (left : List (ℕ × ℕ)) → left ≡ peaks s n
    → length (cover_over met left) ≡ length (cover s met n)
count-all s met n left e = ap (λ ps. length (cover_over met ps)) e

pub count-none : (met : Opened) (left : List (ℕ × ℕ)) → left ≡ [] → length (cover_over met left) ≡ 0
count-none met left z = ap (λ ps. length (cover_over met ps)) z

-- what is left behind two halves
pub count-some : (r : Option ℕ) (d m n a b : ℕ) → n ≡ a + b → d ≡ a + m → IfSome r (λ left. m ≡ b + left) → IfSome r (λ left. d ≡ n + left)
count-some None d m n a b e f t = t
count-some (Some left) d m n a b e f t = omega (arith, e, f, t)

pub count-few : (r : Option ℕ) (d m n a b : ℕ) → n ≡ a + b → d ≡ a + m → IfNone r (m < b) → IfNone r (d < n)
count-few None d m n a b e f t = omega (arith, e, f, t)
count-few (Some left) d m n a b e f t = t

-- nothing is left exactly where the counts are the same
pub all-counted : (left d n : ℕ) → d ≡ left + n → IsTrue (left == 0) ↔ (d ≡ n)
all-counted left d n e = elim (eqb_tells left 0) [
  | inl t ↦ (λ b. omega (arith, t.1, e), λ q. t.0)
  | inr t ↦ (λ b. absurd (let same : false ≡ true = sym t.0 ∙ b in cc), λ q. absurd (t.1 (omega (arith, q, e))))
]
