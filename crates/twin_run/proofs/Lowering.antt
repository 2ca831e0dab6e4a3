-- The full database that is opened again at a lesser size.
use Rattle.std.proofs.Common.{◌≡◌, ◌≢◌, inl, ℕ, ◌<◌, ◌≤◌, List, [], length, take, get_or, Some, sym, ◌∙◌, ap, subst, arith}
use Rattle.std.specs.Prelude.{Result, Ok, Err, IfOk, IfErr}
use Rattle.std.proofs.lemmas.List.{take_all}
use Rattle.volume_base.specs.Moments.{present}
use Rattle.volume_base.specs.Names.{Names}
use Rattle.volume_base.specs.Volume.{State}
use Rattle.tree_shape.specs.Mmr.{mmr}
use Rattle.tree_shape.specs.declared.mmr.Mmr.{Mmr}
use Rattle.tree_shape.specs.declared.sha256.Sha256Digest.{Sha256Digest}
use Rattle.merkle_full.specs.Full.{Rests}
use Rattle.chain_core.specs.Answers.{IsOutside}
use Rattle.chain_core.specs.declared.commitment.Commitment.{Commitment}
use Rattle.chain_core.specs.declared.error.Error.{Error}
use Rattle.list_machine.specs.Config.{Config}
use Rattle.list_machine.specs.Operation.{Operation}
use Rattle.list_machine.specs.Starts.{full_names}
use Rattle.twin_databases.specs.FullKind.{FullView, IsFullDbOf, IsFullStart, full_end, full_kind, kept_full, opened_list}
use Rattle.twin_databases.specs.Reopening.{OpensAgain}
use Rattle.twin_run.proofs.FullAgain.{again}
use Rattle.twin_run.proofs.Realigning.{opened_some}

module _ (config : Config) (size : ℕ) (old : State) (full : FullView) (named : full_kind.names full ≡ full_names config)
    (rests : Rests mmr full.journal.tree) (list : List Operation) (sizes : List ℕ) (start wstart : ℕ)
    (is : IsFullDbOf (kept_full list sizes start wstart) (present old) full)
    (opens : OpensAgain config start size list) where
  lower_start : IsFullStart config (present old) (Some size) list
  lower_start =
      again config (kept_full list sizes start wstart) (present old) full is rests named (Some size) opens.allowed
      (inl (subst (λ (n : ℕ). start < n) (sym opens.ends) opens.later))

  lower_list : opened_list (full_end (Some size) list) list ≡ take size list
  lower_list =
      ap (λ (n : ℕ). opened_list n list) opens.ends
      ∙ opened_some size list (let later = opens.later in omega (arith, later))

  same_start : (old.log config.log).start ≡ start
  same_start =
      let name : config.log ≡ full.journal.items.name = sym (ap (λ (n : Names). get_or n.logs 0 []) named) in
      ap (λ (name : List ℕ). (old.log name).start) name ∙ is.begins

module _ (tells : Type 0) (config : Config) (size : ℕ) (old : State) (full : FullView)
    (named : full_kind.names full ≡ full_names config) (rests : Rests mmr full.journal.tree) where
  pub lower_opened : (new : State) (r : Result FullView (Error Mmr))
      → IfOk r (λ db. tells → (list : List Operation) (sizes : List ℕ) (wstart : ℕ)
      → IsFullStart config (present old) (Some size) list
      → IsFullDbOf (kept_full (opened_list (full_end (Some size) list) list) sizes (old.log config.log).start wstart)
      (present new) db)
      → IfOk r (λ db. tells → (list : List Operation) (sizes : List ℕ) (start wstart : ℕ)
      → IsFullDbOf (kept_full list sizes start wstart) (present old) full → OpensAgain config start size list
      → IsFullDbOf (kept_full (take size list) sizes start wstart) (present new) db)
  lower_opened new (Ok db) opened = λ told list sizes start wstart is opens.
      let lower = opened told list sizes wstart
      (lower_start config size old full named rests list sizes start wstart is opens) in
      let listed = subst
      (λ (ops : List Operation). IsFullDbOf (kept_full ops sizes (old.log config.log).start wstart) (present new) db)
      (lower_list config size old full named rests list sizes start wstart is opens) lower in
      subst (λ (n : ℕ). IsFullDbOf (kept_full (take size list) sizes n wstart) (present new) db)
      (same_start config size old full named rests list sizes start wstart is opens) listed
  lower_opened new (Err e) opened = tt

  pub lower_standing : (r : Result FullView (Error Mmr))
      → (Some size ≢ Some 0
      → IfErr r (λ e. tells → (list : List Operation) → IsFullStart config (present old) (Some size) list
      → IsOutside e))
      → IfErr r (λ e. tells → (list : List Operation) (sizes : List ℕ) (start wstart : ℕ)
      → IsFullDbOf (kept_full list sizes start wstart) (present old) full → OpensAgain config start size list
      → IsOutside e)
  lower_standing (Ok db) standing = tt
  lower_standing (Err e) standing = λ told list sizes start wstart is opens.
      standing
      (λ none. absurd (let zero_size : size ≡ 0 = cc in let later = opens.later in omega (arith, zero_size, later)))
      told list (lower_start config size old full named rests list sizes start wstart is opens)

-- what is durable of it needs nothing of what was
pub lower_durable : (tells was : Type 0) (now : FullView → Type 0) (r : Result FullView (Error Mmr))
    → IfOk r (λ db. tells → now db) → IfOk r (λ db. tells → was → now db)
lower_durable tells was now (Ok db) durable = λ told before. durable told
lower_durable tells was now (Err e) durable = tt

-- ---- at its own size it is itself

pub lower_same : (size : ℕ) (old : State) (full : FullView) → full.state.size ≤ size → (list : List Operation)
    (sizes : List ℕ) (start wstart : ℕ) → IsFullDbOf (kept_full list sizes start wstart) (present old) full
    → IsFullDbOf (kept_full (take size list) sizes start wstart) (present old) full
lower_same size old full le list sizes start wstart is =
    let count : full.state.size ≡ length list = ap (λ (c : Commitment Mmr Sha256Digest). c.size)
    (full_kind.state_is (kept_full list sizes start wstart) (present old) full is) in
    subst (λ (ops : List Operation). IsFullDbOf (kept_full ops sizes start wstart) (present old) full)
    (sym (take_all size list (omega (arith, le, count)))) is
