-- What a crash leaves of a tree that is taken away.
use Rattle.std.specs.Prelude.{◌≡◌, ◌⊎◌, List, ℕ, None}
use Rattle.std.specs.FinMap as finmap
use Rattle.volume_base.specs.Log.{Log, end_of, Vanishes}
use Rattle.volume_base.specs.Volume.{State, Map}
use Rattle.tree_shape.specs.Hashing.{Hashing}
use Rattle.tree_shape.specs.Shape.{Shape}
use Rattle.tree_store.specs.Stored.{boundary_key, TreeStands}
use Rattle.merkle_full.specs.Preparing.{log_kept}

-- Of a log beside a map that was left before: both as they were; or no map, beside what is left of the log as it is
-- taken away.
pub record IsRemnant (old : State) (one two : List ℕ) (log : Log) (m : Map) : Type 0 where
  pub was : Log
  pub was_left : old.log_left old.clock one was
  pub had : Map
  pub had_left : old.map_left old.clock two had
  pub now : ((log ≡ was) × (m ≡ had)) ⊎ ((m ≡ finmap.empty) × Vanishes was log)

-- An opening of a log beside a map finds the empty tree: no boundary is stored, and of the log no node is kept.
abbrev pub OpensEmpty : Log → Map → Type 0
OpensEmpty log m = (finmap.get m boundary_key ≡ None) × (end_of (log_kept None log) ≡ 0)

-- The log is one that was left before, and beside the map it stands for a list of leaf digests; or an opening of both
-- finds the empty tree.
abbrev pub StandsOrEmpty : {D : Type 0} → Shape → Hashing D → (D → List ℕ) → List D → ℕ → ℕ → State → List ℕ → Log → Map
    → Type 0
StandsOrEmpty s h spelling all durable top old one log m =
    (old.log_left old.clock one log × TreeStands s h spelling all durable top log m) ⊎ OpensEmpty log m
