-- Which faults the errors of both databases are, and what a call counts that ends with one.
use Rattle.std.proofs.Common.{◌≡◌, ◌≢◌, inl, inr, ℕ, Option, Some, refl, sym, ◌∙◌, ap, subst}
use Rattle.std.specs.Prelude.{Result, Err}
use Rattle.volume_base.specs.Volume.{State, Changes}
use Rattle.volume_base.proofs.JoinLemmas.{Went, changes_joins}
use Rattle.tree_shape.specs.declared.mmr.Mmr.{Mmr}
use Rattle.chain_core.specs.Answers.{IsOutside}
use Rattle.chain_core.specs.declared.error.Error.{Error}
use Rattle.chain_core.specs.declared.error.Error.TheVariants as error
use Rattle.tree_shape.specs.declared.sha256.Sha256Digest.{Sha256Digest}
use Rattle.chain_core.specs.declared.commitment.Commitment.{Commitment}
use Rattle.list_machine.specs.Config.{Config}
use Rattle.twin_databases.specs.OpeningErrors.{IsOfCompactOpening, IsOfFullOpening}
use Rattle.twin_run.specs.Faults.{IsCorrupt, IsOfOpenings, IsOwnFault, TellsUnlike, compact_fault, full_fault}
use Rattle.twin_run.specs.declared.ending.Fault.{Fault}
use Rattle.twin_run.specs.declared.ending.Fault.TheVariants as fault
use Rattle.twin_run.specs.declared.ending.CorruptAt.TheVariants as at

-- what comes from outside lies in no contents
pub full_outside : (e : Error Mmr) → IsOutside e → IsCorrupt (full_fault e) → ⊥
full_outside error.Volume is corrupt = corrupt
full_outside error.Memory is corrupt = corrupt
full_outside _ is corrupt = is

pub compact_outside : (e : Error Mmr) → IsOutside e → IsCorrupt (compact_fault e) → ⊥
compact_outside error.Volume is corrupt = corrupt
compact_outside error.Memory is corrupt = corrupt
compact_outside _ is corrupt = is

pub full_own : (e : Error Mmr) → IsOwnFault (full_fault e)
full_own error.Volume = tt
full_own error.Memory = tt
full_own _ = λ is. is

pub compact_own : (e : Error Mmr) → IsOwnFault (compact_fault e)
compact_own error.Volume = tt
compact_own error.Memory = tt
compact_own _ = λ is. is

-- it is the volume's where the error is
pub full_volume : (e : Error Mmr) → full_fault e ≡ fault.Volume → e ≡ error.Volume
full_volume error.Volume is = refl
full_volume error.Memory is = absurd cc
full_volume _ is = absurd cc

pub compact_volume : (e : Error Mmr) → compact_fault e ≡ fault.Volume → e ≡ error.Volume
compact_volume error.Volume is = refl
compact_volume error.Memory is = absurd cc
compact_volume _ is = absurd cc

-- ---- a fault that tells two states apart

pub unlike_own : (full compact : Commitment Mmr Sha256Digest) (f : Fault) → TellsUnlike full compact f → IsOwnFault f
unlike_own full compact f (inl (is, differ)) = subst IsOwnFault (sym is) differ
unlike_own full compact f (inr (is, same, differ)) = subst IsOwnFault (sym is) differ

-- it is told of no two that are one
pub unlike_same : (full compact : Commitment Mmr Sha256Digest) (f : Fault) → TellsUnlike full compact f
    → full ≡ compact → ⊥
unlike_same full compact f (inl (is, differ)) same = differ (ap (λ (c : Commitment Mmr Sha256Digest). c.size) same)
unlike_same full compact f (inr (is, size, differ)) same =
    differ (ap (λ (c : Commitment Mmr Sha256Digest). c.root) same)

pub unlike_volume : (full compact : Commitment Mmr Sha256Digest) (f : Fault) → TellsUnlike full compact f
    → f ≡ fault.Volume → ⊥
unlike_volume full compact f (inl (is, differ)) volume = absurd (let both = sym is ∙ volume in cc)
unlike_volume full compact f (inr (is, same, differ)) volume = absurd (let both = sym is ∙ volume in cc)

-- ---- what is counted

module _ {T U : Type 0} (tells : Type 0) (a b c : State) (e : Error Mmr) (f : Fault) where
  pub changes_full : f ≡ full_fault e → Went tells a b
      → Changes tells error.Volume b c (let r : Result T (Error Mmr) = Err e in r)
      → Changes tells fault.Volume a c (let r : Result U Fault = Err f in r)
  changes_full is went changes =
      changes_joins tells error.Volume fault.Volume a b c (Err e) (Err f) went changes
      (λ last. let same : f ≡ fault.Volume = cc in ap Err (full_volume e (sym is ∙ same))) tt

  pub changes_compact : f ≡ compact_fault e → Went tells a b
      → Changes tells error.Volume b c (let r : Result T (Error Mmr) = Err e in r)
      → Changes tells fault.Volume a c (let r : Result U Fault = Err f in r)
  changes_compact is went changes =
      changes_joins tells error.Volume fault.Volume a b c (Err e) (Err f) went changes
      (λ last. let same : f ≡ fault.Volume = cc in ap Err (compact_volume e (sym is ∙ same))) tt

-- ---- which error the fault of an opening carries

full_is : (e d : Error Mmr) → full_fault e ≡ fault.Corrupt (at.Full d) → e ≡ d
full_is error.Volume d is = absurd cc
full_is error.Memory d is = absurd cc
full_is _ d is = cc

full_alone : (e d : Error Mmr) → full_fault e ≡ fault.Corrupt (at.Compact d) → ⊥
full_alone error.Volume d is = cc
full_alone error.Memory d is = cc
full_alone _ d is = cc

compact_is : (e d : Error Mmr) → compact_fault e ≡ fault.Corrupt (at.Compact d) → e ≡ d
compact_is error.Volume d is = absurd cc
compact_is error.Memory d is = absurd cc
compact_is _ d is = cc

compact_alone : (e d : Error Mmr) → compact_fault e ≡ fault.Corrupt (at.Full d) → ⊥
compact_alone error.Volume d is = cc
compact_alone error.Memory d is = cc
compact_alone _ d is = cc

module _ (tells : Type 0) (config : Config) (f : Fault) where
  pub full_cause : (cap : Option ℕ) (e : Error Mmr) → f ≡ full_fault e → (tells → cap ≢ Some 0)
      → IsOfFullOpening cap e → IsOfOpenings tells config f
  full_cause cap e is some of = record {
    full = λ d same. (cap, some, subst (IsOfFullOpening cap) (full_is e d (sym is ∙ same)) of);
    compact = λ d same. absurd (full_alone e d (sym is ∙ same));
  }

  pub compact_cause : (cap : Option ℕ) (e : Error Mmr) → f ≡ compact_fault e → cap ≢ Some 0
      → IsOfCompactOpening config cap e → IsOfOpenings tells config f
  compact_cause cap e is some of = record {
    full = λ d same. absurd (compact_alone e d (sym is ∙ same));
    compact = λ d same. (cap, some, subst (IsOfCompactOpening config cap) (compact_is e d (sym is ∙ same)) of);
  }

  pub unlike_cause : (full compact : Commitment Mmr Sha256Digest) → TellsUnlike full compact f
      → IsOfOpenings tells config f
  unlike_cause full compact (inl (is, differ)) = record {
    full = λ d same. absurd (let both = sym is ∙ same in cc);
    compact = λ d same. absurd (let both = sym is ∙ same in cc);
  }
  unlike_cause full compact (inr (is, size, differ)) = record {
    full = λ d same. absurd (let both = sym is ∙ same in cc);
    compact = λ d same. absurd (let both = sym is ∙ same in cc);
  }
