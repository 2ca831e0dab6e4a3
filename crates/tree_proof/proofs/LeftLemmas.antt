-- The nodes of a cover that stand left of its range.
use Rattle.std.proofs.Common.{◌≡◌, ℕ, zero, suc, ◌+◌, ◌-◌, ◌^◌, ◌<◌, ◌≤◌, Bool, true, false, cond, List, [], ◌∷◌, ◌++◌, refl, sym, ◌∙◌, ap, subst, arith, append_assoc}
use Rattle.std.specs.Prelude.{All, nat_le, if◌then◌else◌}
use Rattle.std.proofs.lemmas.Bool.Decides.{nat_tests}
use Rattle.std.proofs.lemmas.List.Elements.{filter-append}
use Rattle.std.proofs.lemmas.Nat.{pow_pos}
use Rattle.tree_shape.specs.Shape.{ends_by}
use Rattle.tree_proof.specs.Cover.{Opened, meets, cover_in, cover_over}
use Rattle.tree_proof.specs.Pinned.{left_of}
use Rattle.tree_proof.proofs.CoverSteps.{cover_in-outside, cover_in-halves}
use Rattle.tree_shape.proofs.PeakLemmas.{all-append, EndBy, small}
use Rattle.tree_proof.proofs.RebuildLemmas.{append_nil}

-- ---- one node, by cases

-- the nodes under one node that end by a and aren't under another such node
unfoldable pub left_in : ℕ → ℕ → ℕ → List (ℕ × ℕ)
left_in a x zero = if nat_le (x + 1) a then ((x, 0) ∷ []) else []
left_in a x (suc k) = if nat_le (x + 2 ^ suc k) a then ((x, suc k) ∷ []) else (if nat_le a x then [] else (left_in a x k ++ left_in a (x + 2 ^ k) k))

pub left-here : (a x k : ℕ) → x + 2 ^ k ≤ a → left_in a x k ≡ (x, k) ∷ []
unfolding left_in
left-here a x zero le = let yes : nat_le (x + 1) a ≡ true = grind (arith, nat_tests) in rw yes refl
left-here a x (suc k) le = let yes : nat_le (x + 2 ^ suc k) a ≡ true = grind (arith, nat_tests) in rw yes refl

pub left-none : (a x k : ℕ) → a < x + 2 ^ k → a ≤ x → left_in a x k ≡ []
unfolding left_in
left-none a x zero lt le = let no : nat_le (x + 1) a ≡ false = grind (arith, nat_tests) in rw no refl
left-none a x (suc k) lt le =
    let no : nat_le (x + 2 ^ suc k) a ≡ false = grind (arith, nat_tests) in
    let yes : nat_le a x ≡ true = grind (arith, nat_tests) in
    rw (no, yes) refl

pub left-both : (a x k half : ℕ) → a < x + 2 ^ k → x < a → 0 < k → half ≡ 2 ^ (k - 1) → left_in a x k ≡ left_in a x (k - 1) ++ left_in a (x + half) (k - 1)
unfolding left_in
left-both a x zero half lt past pos e = absurd (omega arith)
left-both a x (suc k) half lt past pos e =
    let no : nat_le (x + 2 ^ suc k) a ≡ false = grind (arith, nat_tests) in
    let also : nat_le a x ≡ false = grind (arith, nat_tests) in
    let one : suc k - 1 ≡ k = omega arith in
    rw (no, also, e, one) refl

pub left-halves : (a x k half : ℕ) (old mid more : List (ℕ × ℕ)) → a < x + 2 ^ k → x < a → 0 < k → half ≡ 2 ^ (k - 1)
    → mid ≡ old ++ left_in a x (k - 1) → more ≡ mid ++ left_in a (x + half) (k - 1) → more ≡ old ++ left_in a x k
left-halves a x k half old mid more lt past pos e l r =
    r ∙ ap (λ ps. ps ++ left_in a (x + half) (k - 1)) l ∙ append_assoc old (left_in a x (k - 1)) (left_in a (x + half) (k - 1)) ∙ ap (λ ps. old ++ ps) (sym (left-both a x k half lt past pos e))

-- ---- they are those of the cover

-- nothing from a leaf on ends before it
nothing-left : (met : Opened) (a x k : ℕ) → a ≤ x → left_of a (cover_in met x k) ≡ []
unfolding cover_in
nothing-left met a x zero le = at (met x 0)
  where
    at : (m : Bool) → left_of a (cond m [] ((x, 0) ∷ [])) ≡ []
    at true = refl
    at false = let no : nat_le (x + 1) a ≡ false = grind (arith, nat_tests) in rw no refl
nothing-left met a x (suc k) le = at (met x (suc k)) (nothing-left met a x k le) (nothing-left met a (x + 2 ^ k) k (omega arith))
  where
    at : (m : Bool) → left_of a (cover_in met x k) ≡ [] → left_of a (cover_in met (x + 2 ^ k) k) ≡ [] → left_of a (cond m (cover_in met x k ++ cover_in met (x + 2 ^ k) k) ((x, suc k) ∷ [])) ≡ []
    at true l r = filter-append (ends_by a) (cover_in met x k) (cover_in met (x + 2 ^ k) k) ∙ ap (λ ps. ps ++ left_of a (cover_in met (x + 2 ^ k) k)) l ∙ r
    at false l r =
        let pos = pow_pos (suc k) in
        let no : nat_le (x + 2 ^ suc k) a ≡ false = grind (arith, nat_tests) in
        rw no refl

module _ (a b : ℕ) (some : a < b) where
  -- a node that ends by a isn't met
  ended : (x k : ℕ) → x + 2 ^ k ≤ a → left_of a (cover_in (meets a b) x k) ≡ left_in a x k
  ended x k le =
      let out : meets a b x k ≡ false = grind (arith, nat_tests) in
      let yes : nat_le (x + 2 ^ k) a ≡ true = grind (arith, nat_tests) in
      ap (left_of a) (cover_in-outside (meets a b) x k out) ∙ rw yes refl ∙ sym (left-here a x k le)

  past : (x k : ℕ) → a < x + 2 ^ k → a ≤ x → left_of a (cover_in (meets a b) x k) ≡ left_in a x k
  past x k lt le = nothing-left (meets a b) a x k le ∙ sym (left-none a x k lt le)

  halves : (x k : ℕ) → a < x + 2 ^ suc k → x < a → left_of a (cover_in (meets a b) x k) ≡ left_in a x k → left_of a (cover_in (meets a b) (x + 2 ^ k) k) ≡ left_in a (x + 2 ^ k) k
      → left_of a (cover_in (meets a b) x (suc k)) ≡ left_in a x (suc k)
  halves x k lt before l r =
      let in_it : meets a b x (suc k) ≡ true = grind (arith, nat_tests) in
      let one : suc k - 1 ≡ k = omega arith in
      ap (left_of a) (cover_in-halves (meets a b) x (suc k) (2 ^ k) in_it (omega arith) (rw one refl)) ∙ rw one refl
      ∙ filter-append (ends_by a) (cover_in (meets a b) x k) (cover_in (meets a b) (x + 2 ^ k) k)
      ∙ ap (λ ps. ps ++ left_of a (cover_in (meets a b) (x + 2 ^ k) k)) l ∙ ap (λ ps. left_in a x k ++ ps) r
      ∙ sym (left-both a x (suc k) (2 ^ k) lt before (omega arith) (rw one refl) ∙ rw one refl)

  left-is : (x k : ℕ) → left_of a (cover_in (meets a b) x k) ≡ left_in a x k
  left-is x zero = at (nat_le (x + 2 ^ 0) a) refl
    where
      at : (m : Bool) → nat_le (x + 2 ^ 0) a ≡ m → left_of a (cover_in (meets a b) x 0) ≡ left_in a x 0
      at true t = ended x 0 (grind (arith, nat_tests))
      at false t = let lt : a < x + 2 ^ 0 = grind (arith, nat_tests) in past x 0 lt (omega (arith, lt))
  left-is x (suc k) = at (nat_le (x + 2 ^ suc k) a) (nat_le a x) refl refl (left-is x k) (left-is (x + 2 ^ k) k)
    where
      at : (m n : Bool) → nat_le (x + 2 ^ suc k) a ≡ m → nat_le a x ≡ n → left_of a (cover_in (meets a b) x k) ≡ left_in a x k → left_of a (cover_in (meets a b) (x + 2 ^ k) k) ≡ left_in a (x + 2 ^ k) k
          → left_of a (cover_in (meets a b) x (suc k)) ≡ left_in a x (suc k)
      at true n t u l r = ended x (suc k) (grind (arith, nat_tests))
      at false true t u l r = past x (suc k) (grind (arith, nat_tests)) (grind (arith, nat_tests))
      at false false t u l r = halves x k (grind (arith, nat_tests)) (grind (arith, nat_tests)) l r

pub to-cover : (a x k : ℕ) (old new : List (ℕ × ℕ)) → new ≡ old ++ left_in a x k → (b : ℕ) → a < b → new ≡ old ++ left_of a (cover_in (meets a b) x k)
to-cover a x k old new e b some = e ∙ ap (λ ps. old ++ ps) (sym (left-is a b some x k))

pub of-cover : (a x k : ℕ) (old new : List (ℕ × ℕ)) → ((b : ℕ) → a < b → new ≡ old ++ left_of a (cover_in (meets a b) x k)) → new ≡ old ++ left_in a x k
of-cover a x k old new e = let some : a < a + 1 = omega arith in e (a + 1) some ∙ ap (λ ps. old ++ ps) (left-is a (a + 1) some x k)

-- under these nodes, one after another
abbrev pub left_over : ℕ → List (ℕ × ℕ) → List (ℕ × ℕ)
left_over a [] = []
left_over a (p ∷ ps) = left_in a p.0 p.1 ++ left_over a ps

pub left-cover : (a b : ℕ) → a < b → (ps : List (ℕ × ℕ)) → left_over a ps ≡ left_of a (cover_over (meets a b) ps)
left-cover a b some [] = refl
left-cover a b some (p ∷ ps) =
    sym (filter-append (ends_by a) (cover_in (meets a b) p.0 p.1) (cover_over (meets a b) ps) ∙ ap (λ qs. qs ++ left_of a (cover_over (meets a b) ps)) (left-is a b some p.0 p.1)
    ∙ ap (λ qs. left_in a p.0 p.1 ++ qs) (sym (left-cover a b some ps)))

-- ---- they are small

left-ends : (a x k : ℕ) → EndBy a (left_in a x k)
unfolding left_in
left-ends a x zero = at (nat_le (x + 1) a) refl
  where
    at : (m : Bool) → nat_le (x + 1) a ≡ m → EndBy a (cond m ((x, 0) ∷ []) [])
    at true t = (grind (arith, nat_tests), tt)
    at false t = tt
left-ends a x (suc k) = at (nat_le (x + 2 ^ suc k) a) (nat_le a x) refl (left-ends a x k) (left-ends a (x + 2 ^ k) k)
  where
    at : (m n : Bool) → nat_le (x + 2 ^ suc k) a ≡ m → EndBy a (left_in a x k) → EndBy a (left_in a (x + 2 ^ k) k) → EndBy a (cond m ((x, suc k) ∷ []) (cond n [] (left_in a x k ++ left_in a (x + 2 ^ k) k)))
    at true n t l r = (grind (arith, nat_tests), tt)
    at false true t l r = tt
    at false false t l r = all-append (λ p. p.0 + 2 ^ p.1 ≤ a) (left_in a x k) (left_in a (x + 2 ^ k) k) l r

pub over-ends : (a : ℕ) (ps : List (ℕ × ℕ)) → EndBy a (left_over a ps)
over-ends a [] = tt
over-ends a (p ∷ ps) = all-append (λ p. p.0 + 2 ^ p.1 ≤ a) (left_in a p.0 p.1) (left_over a ps) (left-ends a p.0 p.1) (over-ends a ps)

pub left-small : (a : ℕ) (ps qs : List (ℕ × ℕ)) → a ≤ 2 ^ 62 → qs ≡ left_over a ps → All (λ p. (p.0 + 2 ^ p.1 ≤ 2 ^ 62) × (p.1 < 63)) qs
left-small a ps qs few e = subst (All (λ p. (p.0 + 2 ^ p.1 ≤ 2 ^ 62) × (p.1 < 63))) (sym e) (small a (left_over a ps) few (over-ends a ps))

-- ---- the walk

module _ (a : ℕ) (all : List (ℕ × ℕ)) where
  -- those so far, and those under the nodes that are left, are all
  abbrev pub Gone : List (ℕ × ℕ) → List (ℕ × ℕ) → Type 0
  Gone acc left = acc ++ left_over a left ≡ left_over a all

  pub gone_next : (acc more left later : List (ℕ × ℕ)) (x k : ℕ) → Gone acc left → left ≡ (x, k) ∷ later
      → more ≡ acc ++ left_in a x k → Gone more later
  gone_next acc more left later x k g are m =
      ap (λ ps. ps ++ left_over a later) m ∙ append_assoc acc (left_in a x k) (left_over a later)
      ∙ ap (λ ps. acc ++ left_over a ps) (sym are) ∙ g

  pub gone_all : (acc left : List (ℕ × ℕ)) → Gone acc left → left ≡ [] → acc ≡ left_over a all
  gone_all acc left g z = sym (ap (λ ps. acc ++ left_over a ps) z ∙ append_nil acc) ∙ g
