-- Which nodes later appends read: peaks, and what stands behind them.
use Rattle.std.specs.Prelude.{◌≡◌, ◌==◌, ◌⊎◌, ◌&&◌, ◌||◌, ℕ, suc, ◌+◌, ◌-◌, ◌^◌, ◌≤◌, Bool, false, List, [], ◌∷◌, Some, slice_get}
use Rattle.tree_shape.specs.Shape.{Shape}

-- the node of height h over x is one of these peaks, the newest of which ends at e
abbrev pub PeakIn : ℕ → List ℕ → ℕ → ℕ → Type 0
PeakIn e [] x h = ⊥
PeakIn e (k ∷ ks) x h = ((x ≡ e - 2 ^ k) × (h ≡ k)) ⊎ PeakIn (e - 2 ^ k) ks x h

abbrev pub PeakOf : Shape → ℕ → ℕ → ℕ → Type 0
PeakOf s n x h = PeakIn n (s.heights n) x h

-- the test of it
abbrev pub is_peak : ℕ → List ℕ → ℕ → ℕ → Bool
is_peak e [] x k = false
is_peak e (j ∷ js) x k = ((x == e - 2 ^ j) && (k == j)) || is_peak (e - 2 ^ j) js x k

-- it is a peak of n leaves, or stands behind their nodes
abbrev pub IsPeakOrLater : Shape → ℕ → ℕ → ℕ → Type 0
IsPeakOrLater s n x h = (s.position n 0 ≤ s.position x h) ⊎ PeakOf s n x h

pub record KeepsPeaks (s : Shape) : Type 0 where
  -- a peak after an append is new, or was a peak before
  pub peaks : (n x h : ℕ) → PeakOf s (suc n) x h → IsPeakOrLater s n x h
  -- an append reads peaks and what it has made
  pub left : (n i x k : ℕ) → slice_get (s.parents n) i ≡ Some (x, suc k) → IsPeakOrLater s n x k
  pub right : (n i x k : ℕ) → slice_get (s.parents n) i ≡ Some (x, suc k) → IsPeakOrLater s n (x + 2 ^ k) k
