-- Nodes with their positions: pins before a position, and behind them a run from it on.
use Rattle.std.specs.Prelude.{ℕ, suc, ◌+◌, ◌-◌, ◌^◌, ◌<◌, ◌≤◌, List, [], ◌∷◌, ◌++◌, Option, Some, None}
use Rattle.std.specs.Map.{lookup}
use Rattle.std.specs.BTreeMap.{is_at}
use Rattle.std.specs.Ordering.{nat_cmp}
use Rattle.tree_shape.specs.Shape.{Shape}

-- the node at a position
abbrev pub entry_at : {D : Type 0} → List (ℕ × D) → ℕ → Option D
entry_at entries p = lookup (is_at (nat_cmp p)) entries

-- these nodes, the first at this position and each at the next
abbrev pub placed : {D : Type 0} → ℕ → List D → List (ℕ × D)
placed first [] = []
placed first (d ∷ ds) = (first, d) ∷ placed (suc first) ds

-- each stands before this position
abbrev pub AreBefore : {D : Type 0} → ℕ → List (ℕ × D) → Type 0
AreBefore first [] = Unit {0}
AreBefore first (e ∷ es) = (e.0 < first) × AreBefore first es

-- a table of this capacity takes, behind so many pins, the peaks of two numbers of leaves; and so it does behind as many
abbrev pub HasRoom : ℕ → ℕ → Type 0
HasRoom count capacity = (count + 128 ≤ capacity) × (256 ≤ capacity)

-- the node at a position, where there is one
abbrev pub found_at : {D : Type 0} → ℕ → Option D → List (ℕ × D)
found_at p None = []
found_at p (Some d) = (p, d) ∷ []

-- those nodes that stand at peaks of these heights, the newest of which ends at e
abbrev pub peaks_found : {D : Type 0} → Shape → (ℕ → Option D) → ℕ → List ℕ → List (ℕ × D)
peaks_found s f e [] = []
peaks_found s f e (k ∷ ks) =
    let p = s.position (e - 2 ^ k) k in
    found_at p (f p) ++ peaks_found s f (e - 2 ^ k) ks
