-- Why batches of the full side aren't read, by what is in memory alone.
use Rattle.std.specs.Prelude.{◌≡◌, ◌⊎◌, ℕ, ◌∷◌, nat_lt, List, slice_index_or, Option, Some, None, Contains, if◌then◌else◌}
use Rattle.std.specs.Option.{option_map}
use Rattle.chain_core.specs.Reached.{item_at}
use Rattle.chain_core.specs.declared.commitment.Commitment.{Commitment}
use Rattle.chain_core.specs.declared.pool.HeldBatch.{HeldBatch}
use Rattle.keyless_db.specs.DbView.{floor_in}
use Rattle.keyless_db.specs.Reading.{location_refusal, floored_refusal, read_floor, read_states}
use Rattle.log_model.specs.declared.refusal.Refusal.{Refusal}
use Rattle.log_model.specs.declared.refusal.Refusal.TheVariants.{NoBatch, StaleRead}
use Rattle.tree_shape.specs.declared.mmr.Mmr.{Mmr}
use Rattle.tree_shape.specs.declared.sha256.Sha256Digest.{Sha256Digest}
use Rattle.list_machine.specs.Operation.{meaning}
use Rattle.twin_batches.specs.Kind.{size_of}
use Rattle.twin_batches.specs.declared.numbers.Batch.{Batch}
use Rattle.twin_batches.specs.declared.numbers.Batch.TheVariants.{Unsealed, Sealed, Gone}
use Rattle.twin_batches.specs.declared.numbers.Numbers.{Numbers}
use Rattle.twin_databases.specs.FullKind.{FullView, SealedView, UnsealedView, full_kind}

-- How many operations a batch's list has, the floor from which on it is read, and the states of the log at which it is.
pub record ReadBounds : Type 0 where
  pub size : ℕ
  pub floor : ℕ
  pub states : List (Commitment Mmr Sha256Digest)

-- Those of a sealed batch; and those of an unsealed one, by its parent, or else by the log on which it stands.
abbrev pub of_sealed : SealedView → ReadBounds
of_sealed x = record {
  size = x.bounds.tip.size;
  floor = x.bounds.inactivity_floor;
  states = x.bounds.tip ∷ x.bounds.db ∷ x.bounds.ancestors;
}

abbrev pub of_unsealed : FullView → List (Option (HeldBatch SealedView)) → UnsealedView → ReadBounds
of_unsealed db pool u = record {
  size = size_of full_kind u;
  floor = read_floor pool u (floor_in meaning db);
  states = read_states pool u;
}

-- Those of the batch of a number, where it is unsealed or held.
abbrev pub bounds_at : FullView → List (Option (HeldBatch SealedView)) → Batch UnsealedView → Option ReadBounds
bounds_at db pool (Unsealed u) = Some (of_unsealed db pool u)
bounds_at db pool (Sealed k) = if nat_lt 0 k.holds then option_map of_sealed (item_at pool k.id) else None
bounds_at db pool Gone = None

abbrev pub read_bounds : FullView → Numbers SealedView UnsealedView → ℕ → Option ReadBounds
read_bounds db n b = bounds_at db n.pool (slice_index_or n.batches.items b Gone)

-- It isn't read here, or what is asked for is refused for this reason.
abbrev pub IsReadRefusedBy : (Here : Type 0) → (asked : Option Refusal) → Refusal → Type 0
IsReadRefusedBy Here asked why = ((Here → ⊥) × (why ≡ StaleRead)) ⊎ (Here × (asked ≡ Some why))

-- A read of batch b is refused for this reason: there is no such batch, the log stands at no state at which it is read,
-- or its bounds refuse what is asked for.
abbrev pub IsReadRefused : FullView → ℕ → (ReadBounds → Option Refusal) → Option ReadBounds → Refusal → Type 0
IsReadRefused db b asked None why = why ≡ NoBatch b
IsReadRefused db b asked (Some r) why = IsReadRefusedBy (Contains r.states db.state) (asked r) why

-- So it is at one location, and at several.
abbrev pub IsReadRefusedAt : FullView → Numbers SealedView UnsealedView → (b l : ℕ) → Refusal → Type 0
IsReadRefusedAt db n b l why = IsReadRefused db b (λ r. location_refusal r.size r.floor l) (read_bounds db n b) why

abbrev pub AreReadsRefusedAt : FullView → Numbers SealedView UnsealedView → (b : ℕ) → (ls : List ℕ) → Refusal → Type 0
AreReadsRefusedAt db n b ls why = IsReadRefused db b (λ r. floored_refusal r.size r.floor ls) (read_bounds db n b) why
