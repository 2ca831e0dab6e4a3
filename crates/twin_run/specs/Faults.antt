-- Which fault an error of a database is, and which one it is where both databases of a run differ.
use Rattle.std.specs.Prelude.{◌≡◌, ◌≢◌, ◌⊎◌, ℕ, Option, Some, None, Result, IfOk, IfErr, MatchOption}
use Rattle.chain_core.specs.Answers.{IsOutside}
use Rattle.chain_core.specs.declared.commitment.Commitment.{Commitment}
use Rattle.chain_core.specs.declared.error.Error.{Error}
use Rattle.chain_core.specs.declared.error.Error.TheVariants as error
use Rattle.log_model.specs.declared.refusal.Refusal.{Refusal}
use Rattle.log_model.specs.declared.refusal.Refusal.TheVariants as refusal
use Rattle.tree_shape.specs.declared.mmr.Mmr.{Mmr}
use Rattle.tree_shape.specs.declared.sha256.Sha256Digest.{Sha256Digest}
use Rattle.tree_store.specs.declared.error.Error.TheVariants as tree_error
use Rattle.list_machine.specs.Config.{Config}
use Rattle.twin_databases.specs.OpeningErrors.{IsOfFullOpening, IsOfCompactOpening}
use Rattle.twin_run.specs.declared.ending.Fault.{Fault}
use Rattle.twin_run.specs.declared.ending.Fault.TheVariants.{Volume, Corrupt, Memory}
use Rattle.twin_run.specs.declared.ending.CorruptAt.TheVariants.{Full, Compact, Sizes, Roots}

-- The fault that an error of the full database is: what doesn't come from outside lies in the contents.
abbrev pub full_fault : Error Mmr → Fault
full_fault error.Volume = Volume
full_fault error.Memory = Memory
full_fault e = Corrupt (Full e)

-- The fault that an error of the compact database is.
abbrev pub compact_fault : Error Mmr → Fault
compact_fault error.Volume = Volume
compact_fault error.Memory = Memory
compact_fault e = Corrupt (Compact e)

-- The volume holds no valid state.
abbrev pub IsCorrupt : Fault → Type 0
IsCorrupt (Corrupt at) = Unit {0}
IsCorrupt Volume = ⊥
IsCorrupt Memory = ⊥

-- Where a fault is told of contents, its error is none of the volume and no want of memory, and its sizes or roots
-- differ.
abbrev pub IsOwnFault : Fault → Type 0
IsOwnFault (Corrupt (Full e)) = IsOutside e → ⊥
IsOwnFault (Corrupt (Compact e)) = IsOutside e → ⊥
IsOwnFault (Corrupt (Sizes full compact)) = full ≢ compact
IsOwnFault (Corrupt (Roots full compact)) = full ≢ compact
IsOwnFault Volume = Unit {0}
IsOwnFault Memory = Unit {0}

-- ---- openings

-- Where an opening of both databases ends with what a database keeps, the error is one of that database's opening; of
-- the full one's under a cap of 0 only where the volume doesn't tell its contents.
pub record IsOfOpenings (tells : Type 0) (config : Config) (fault : Fault) : Type 0 where
  pub full : (e : Error Mmr) → fault ≡ Corrupt (Full e)
      → (cap : Option ℕ) × (tells → cap ≢ Some 0) × IsOfFullOpening cap e
  pub compact : (e : Error Mmr) → fault ≡ Corrupt (Compact e)
      → (cap : Option ℕ) × (cap ≢ Some 0) × IsOfCompactOpening config cap e

-- ---- both databases

-- The error that a refusal of a command on batches or of a prune is; of one that no database has, that a batch doesn't
-- fit.
abbrev pub error_of : Refusal → Error Mmr
error_of (refusal.LocationOverflow size) = error.Merkle (tree_error.LocationOverflow size)
error_of (refusal.FloorRegressed floor below) = error.FloorRegressed floor below
error_of (refusal.FloorBeyondSize floor location) = error.FloorBeyondSize floor location
error_of (refusal.PruneBeyondMinRequired location floor) = error.PruneBeyondMinRequired location floor
error_of _ = error.StaleBatch

-- A fault tells of two answers that refuse unlike, one alone or each for a reason of its own: it is the compact
-- database's refusal where there is one, and else the full one's.
abbrev pub TellsRefusal : (full compact : Option Refusal) → Fault → Type 0
TellsRefusal full compact fault =
    MatchOption compact (MatchOption full ⊥ (λ why. fault ≡ Corrupt (Full (error_of why))))
    (λ why. (full ≢ Some why) × (fault ≡ Corrupt (Compact (error_of why))))

-- What both databases refuse: the same, or nothing; or a fault tells that they refuse unlike.
pub record AreAlike (full compact : Option Refusal) (r : Result (Option Refusal) Fault) : Type 0 where
  pub alike : IfOk r (λ refused. (refused ≡ full) × (full ≡ compact))
  pub unlike : IfErr r (TellsRefusal full compact)

-- A fault tells of two states that their sizes differ, or where these are one their roots.
abbrev pub TellsUnlike : (full compact : Commitment Mmr Sha256Digest) → Fault → Type 0
TellsUnlike full compact fault =
    ((fault ≡ Corrupt (Sizes full.size compact.size)) × (full.size ≢ compact.size))
    ⊎ ((fault ≡ Corrupt (Roots full.root compact.root)) × (full.size ≡ compact.size) × (full.root ≢ compact.root))
