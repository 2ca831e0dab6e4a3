-- Nodes read from memory, and peaks read one by one.
use Rattle.std.specs.Prelude.{◌≡◌, ◌⊎◌, ℕ, ◌-◌, ◌<◌, List, length, Option, Some, IsSome, Result, Err, IfErr, slice_index_or}
use Rattle.tree_shape.specs.Shape.{Shape}
use Rattle.tree_shape.specs.Kept.{PeakOf}
use Rattle.tree_shape.specs.Pins.{base}
use Rattle.tree_store.specs.declared.error.Error.{Error}
use Rattle.tree_store.specs.declared.error.Error.TheVariants.{Memory}

-- it is refused only as these tests say, or for want of memory
abbrev pub OnlyRefusedBy : {F T : Type 0} → Result (Unit {0}) (Error F) → Result T (Error F) → Type 0
OnlyRefusedBy answer result = IfErr result (λ e. (answer ≡ Err e) ⊎ (e ≡ Memory))

-- t tells each peak of n leaves
abbrev pub TellsPeaks : {D : Type 0} → Shape → ℕ → (ℕ → ℕ → Option D) → Type 0
TellsPeaks s n t = (x k : ℕ) → PeakOf s n x k → IsSome (t x k)

-- the peaks of n leaves, the oldest first, are these
pub record ArePeaks {D : Type 0} (s : Shape) (n : ℕ) (t : ℕ → ℕ → Option D) (ds : List D) : Type 0 where
  pub counted : length ds ≡ length (s.heights n)
  pub told : let hs = s.heights n in
      (j : ℕ) (d : D) → j < length hs →
      t (base n hs (length hs - j)) (slice_index_or hs (length hs - 1 - j) 0) ≡ Some (slice_index_or ds j d)
