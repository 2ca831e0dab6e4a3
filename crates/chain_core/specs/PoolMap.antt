-- How a pool keeps its slots: a map from the numbers of the batches that are alive, and how many numbers were drawn.
use Rattle.std.specs.Prelude.{◌≡◌, ◌≢◌, ℕ, zero, ◌<◌, suc, List, [], ◌∷◌, ◌++◌, Option, Some}
use Rattle.std.specs.Option.{ForSome}
use Rattle.std.specs.Ordering.{nat_cmp}
use Rattle.std.specs.BTreeMap.{BTreeMap, get}
use Rattle.chain_core.specs.declared.pool.HeldBatch.{HeldBatch}

-- The first n values of a function.
abbrev pub values_below : {X : Type 0} → (ℕ → X) → ℕ → List X
values_below f zero = []
values_below f (suc n) = values_below f n ++ (f n ∷ [])

-- The slots of the numbers that were drawn.
abbrev pub slots_of : {T : Type 0} → BTreeMap ℕ (HeldBatch T) → ℕ → List (Option (HeldBatch T))
slots_of batches drawn = values_below (get nat_cmp batches) drawn

-- A batch that is kept is held, and stands under a number that was drawn, after that of its parent.
pub record IsKeptAt {T : Type 0} (drawn k : ℕ) (b : HeldBatch T) : Type 0 where
  pub below : k < drawn
  pub held : 0 < b.holds
  pub after : ForSome b.parent (λ p. p < k)

abbrev pub IsKept : {T : Type 0} → BTreeMap ℕ (HeldBatch T) → ℕ → Type 0
IsKept {T} batches drawn = (k : ℕ) (b : HeldBatch T) → get nat_cmp batches k ≡ Some b → IsKeptAt drawn k b

-- Under k stands w, and under every other number what stood there.
abbrev pub SetsAt : {T : Type 0} → BTreeMap ℕ (HeldBatch T) → BTreeMap ℕ (HeldBatch T) → ℕ → Option (HeldBatch T)
    → Type 0
SetsAt old new k w = (get nat_cmp new k ≡ w) × ((q : ℕ) → q ≢ k → get nat_cmp new q ≡ get nat_cmp old q)
