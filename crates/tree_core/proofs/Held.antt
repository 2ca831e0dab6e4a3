-- Nodes read from the peaks of a mark, or from what was made since.
use Rattle.std.proofs.Common.{◌≡◌, ℕ, zero, suc, ◌+◌, ◌-◌, ◌^◌, ◌<◌, ◌≤◌, ◌⊎◌, inl, inr, true, false, List, [], ◌∷◌, length, map, take, drop, get_or, Some, refl, sym, ◌∙◌, ap, arith}
use Rattle.std.specs.Prelude.{◌==◌, ◌&&◌, slice_get, IsSome, nat_le}
use Rattle.std.specs.Option.{option_map}
use Rattle.std.proofs.lemmas.Bool.Decides.{eqb_tells, leb_tells}
use Rattle.std.proofs.lemmas.Option.{slice_get-map}
use Rattle.tree_shape.specs.Hashing.{Hashing}
use Rattle.tree_shape.specs.Shape.{Shape, made, IsLawful}
use Rattle.tree_shape.specs.Kept.{PeakIn, IsPeakOrLater}
use Rattle.tree_shape.specs.Slow.{node, node_of, peak_digests}
use Rattle.tree_core.proofs.MemLemmas.{get-take}
use Rattle.tree_core.specs.Pruned.{peaks_at, peak_found, held_at}
use Rattle.tree_shape.proofs.NeededLemmas.{leaf_position}

-- one peak further
pub step_found : {D : Type 0} (e i : ℕ) (hs : List ℕ) (ps : List D) (x k : ℕ) → i < length hs → length ps ≡ length hs
    → ((e - 2 ^ get_or hs i 0) == x && get_or hs i 0 == k) ≡ false
    → peak_found e (drop i hs) (drop i ps) x k ≡ peak_found (e - 2 ^ get_or hs i 0) (drop (suc i) hs) (drop (suc i) ps) x k
step_found e i [] ps x k lt l f = absurd (omega arith)
step_found e i (c ∷ cs) [] x k lt l f = absurd (omega arith)
step_found e zero (c ∷ cs) (d ∷ ds) x k lt l f = rw f refl
step_found e (suc i) (c ∷ cs) (d ∷ ds) x k lt l f = step_found e i cs ds x k (omega arith) (omega arith) f

-- a peak is found
pub found : {D : Type 0} (s : Shape) (h : Hashing D) (leaves : List D) (e : ℕ) (hs : List ℕ) (x k : ℕ) → PeakIn e hs x k
    → peak_found e hs (peak_digests s h leaves e hs) x k ≡ Some (node s h leaves x k)
found s h leaves e [] x k p = absurd p
found s h leaves e (c ∷ cs) x k p = elim (eqb_tells (e - 2 ^ c) x) [
  | inl a ↦ elim (eqb_tells c k) [
    | inl b ↦ rw (a.0, b.0) (ap (λ y. Some (node s h leaves y c)) a.1 ∙ ap (λ j. Some (node s h leaves x j)) b.1)
    | inr b ↦ rw (a.0, b.0) (elim p [
      | inl here ↦ absurd (b.1 (sym here.1))
      | inr there ↦ found s h leaves (e - 2 ^ c) cs x k there
    ])
  ]
  | inr a ↦ rw a.0 (elim p [
    | inl here ↦ absurd (a.1 (sym here.0))
    | inr there ↦ found s h leaves (e - 2 ^ c) cs x k there
  ])
]

pub is_found : {D : Type 0} (e : ℕ) (hs : List ℕ) (ps : List D) (x k : ℕ) → length ps ≡ length hs → PeakIn e hs x k → IsSome (peak_found e hs ps x k)
is_found e [] ps x k l p = absurd p
is_found e (c ∷ cs) [] x k l p = absurd (omega arith)
is_found e (c ∷ cs) (d ∷ ds) x k l p = elim (eqb_tells (e - 2 ^ c) x) [
  | inl a ↦ elim (eqb_tells c k) [
    | inl b ↦ rw (a.0, b.0) refl
    | inr b ↦ rw (a.0, b.0) (elim p [
      | inl here ↦ absurd (b.1 (sym here.1))
      | inr there ↦ is_found (e - 2 ^ c) cs ds x k (omega arith) there
    ])
  ]
  | inr a ↦ rw a.0 (elim p [
    | inl here ↦ absurd (a.1 (sym here.0))
    | inr there ↦ is_found (e - 2 ^ c) cs ds x k (omega arith) there
  ])
]

le_tells : (m n : ℕ) → ((nat_le m n ≡ true) × (m ≤ n)) ⊎ ((nat_le m n ≡ false) × (n < m))
le_tells m n = leb_tells m n

pub get_is_some : {X : Type 0} (xs : List X) (i : ℕ) → i < length xs → IsSome (slice_get xs i)
get_is_some [] i lt = absurd (omega arith)
get_is_some (x ∷ xs) zero lt = refl
get_is_some (x ∷ xs) (suc i) lt = get_is_some xs i (omega arith)

-- what is at hand is held
pub is_held : {D : Type 0} (s : Shape) (b : ℕ) (ps since : List D) (x k : ℕ) → IsLawful s → length ps ≡ length (s.heights b) → IsPeakOrLater s b x k
    → s.position x k < length (made s b) + length since → IsSome (held_at s b ps since x k)
is_held s b ps since x k w l a lt = elim (le_tells (length (made s b)) (s.position x k)) [
  | inl t ↦ rw t.0 (get_is_some since (s.position x k - length (made s b)) (omega (arith, t.1)))
  | inr t ↦ rw t.0 (elim a [
    | inl late ↦ absurd (let p = leaf_position s w b in omega (arith, late, p, t.1))
    | inr peak ↦ is_found b (s.heights b) ps x k l peak
  ])
]

-- and is the slow node
pub held_right : {D : Type 0} (s : Shape) (h : Hashing D) (leaves : List D) (b : ℕ) (ps since : List D) (cs : List (ℕ × ℕ)) (x k : ℕ) → IsLawful s
    → ps ≡ peaks_at s h leaves b → since ≡ map (node_of s h leaves) (take (length since) cs)
    → IsPeakOrLater s b x k → s.position x k < length (made s b) + length since
    → (length (made s b) ≤ s.position x k → slice_get cs (s.position x k - length (made s b)) ≡ Some (x, k))
    → held_at s b ps since x k ≡ Some (node s h leaves x k)
held_right s h leaves b ps since cs x k w ep told a lt at = elim (le_tells (length (made s b)) (s.position x k)) [
  | inl t ↦ rw t.0 (
      let i = s.position x k - length (made s b) in
      ap (λ ys. slice_get ys (s.position x k - length (made s b))) told
      ∙ slice_get-map (node_of s h leaves) (take (length since) cs) (s.position x k - length (made s b))
      ∙ ap (option_map (node_of s h leaves)) (get-take cs (length since) (s.position x k - length (made s b)) (omega (arith, t.1)) ∙ at t.1))
  | inr t ↦ rw t.0 (elim a [
    | inl late ↦ absurd (let p = leaf_position s w b in omega (arith, late, p, t.1))
    | inr peak ↦ ap (λ ds. peak_found b (s.heights b) ds x k) ep ∙ found s h leaves b (s.heights b) x k peak
  ])
]
