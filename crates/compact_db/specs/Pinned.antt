-- What the pins of a witness tell of its tree, and what the proof of its commit is.
use Rattle.std.specs.Prelude.{◌≡◌, ℕ, ◌-◌, List, [], ◌∷◌, ◌++◌, length, map, zip, Option}
use Rattle.tree_shape.specs.Hashing.{Hashing}
use Rattle.tree_shape.specs.Pins.{pins}
use Rattle.tree_shape.specs.Shape.{Shape, peaks, inactive}
use Rattle.tree_shape.specs.Slow.{leaf, node_of}
use Rattle.tree_proof.specs.Cover.{meets}
use Rattle.tree_proof.specs.SlowProof.{proof_of}
use Rattle.tree_proof.specs.declared.proof.Proof.{Proof}
use Rattle.tree_store.specs.Stores.{IsFirstAbsent}
use Rattle.tree_verification.specs.Ranges.{HasForm, cover_positions}
use Rattle.tree_core.specs.KeptNodes.{entry_at}
use Rattle.witness_store.specs.declared.witness.Witness.{Witness}

-- What stands at a position, of these peaks of so many leaves, the oldest first.
abbrev pub pin_at : {D : Type 0} → Shape → ℕ → List D → ℕ → Option D
pin_at s n ds p = entry_at (zip (pins s n) ds) p

-- At this position stands the first node that the proof of a witness's commit takes and that isn't one of the witness's
-- pins.
abbrev pub IsUnpinned : {F D : Type 0} → Shape → Witness F D → ℕ → Type 0
IsUnpinned s w p =
    IsFirstAbsent (pin_at s (w.size - 1) w.pinned_nodes) (cover_positions s (meets (w.size - 1) w.size) w.size) p

-- It is the proof of a witness's commit under this floor: it has the form of one, and it is the proof of the last leaf
-- of each tree that the commit ends and whose peaks before the commit are the pins.
pub record ProvesCommit {F D : Type 0} (s : Shape) (h : Hashing D) (w : Witness F D) (floor : ℕ)
    (proof : Proof F D) : Type 0 where
  pub form : HasForm s w.size (inactive s w.size floor) (meets (w.size - 1) w.size) proof
  pub proves : (all : List D) → w.size - 1 ≡ length all →
      w.pinned_nodes ≡ map (node_of s h all) (peaks s (w.size - 1)) →
      proof ≡ proof_of s h (all ++ (leaf s h (length all) w.op_bytes ∷ [])) (inactive s w.size floor)
      (meets (w.size - 1) w.size)
