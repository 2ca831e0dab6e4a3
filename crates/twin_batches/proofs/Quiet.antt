-- Commands that leave the volume and both databases, and steps under the names of their commands.
use Rattle.std.proofs.Common.{◌≡◌, ℕ, Some, None, refl, sym, ap, subst}
use Rattle.std.specs.Prelude.{Result}
use Rattle.volume_base.specs.Volume as volume
use Rattle.volume_base.specs.Volume.{Reads}
use Rattle.volume_base.proofs.MomentLemmas.{past_same}
use Rattle.log_model.specs.StateBatches.{Batch, Unsealed, Sealed, Gone, is_held}
use Rattle.log_model.specs.Machine.{State, batch_at}
use Rattle.log_model.specs.Reach.{may_apply}
use Rattle.log_model.specs.Refusals.{prune_refusal}
use Rattle.log_model.specs.declared.refusal.Refusal.{Refusal}
use Rattle.command_text.specs.declared.command.Answer.TheVariants as answer
use Rattle.command_text.specs.declared.command.Command.{Command}
use Rattle.command_text.specs.declared.command.Command.TheVariants as command
use Rattle.list_machine.specs.Config.{Config}
use Rattle.list_machine.specs.Operation.{Operation, meaning, one_list}
use Rattle.list_machine.specs.Step.{Outcome, step, apply, refused, refusal_in, prove_commit, prune, prune_unless}
use Rattle.list_machine.proofs.RunLaws.{either, answered_keeps, unless_keeps, batch_get_keeps, batch_get_many_keeps}
use Rattle.twin_batches.specs.Kind.{Kind}
use Rattle.twin_batches.specs.About.{StaysStill, IsQuiet, NeedsNoItem, IsDurableFor, about_of}
use Rattle.twin_batches.specs.declared.about.Topic.{Topic}
use Rattle.twin_batches.specs.declared.about.Topic.TheVariants.{Apply, Question, CommitProof, Storage, Prune}

-- ---- what asks changes nothing

pub asked_same : (s : State Operation) (config : Config) (c : Command) → about_of c ≡ Question
    → (step config s c).1 ≡ s
asked_same s config (command.Get l) e = answered_keeps s _ _
asked_same s config (command.GetMany ls) e = answered_keeps s _ _
asked_same s config (command.BatchGet b l) e = batch_get_keeps s b l (batch_at s b)
asked_same s config (command.BatchGetMany b ls) e = batch_get_many_keeps s b ls (batch_at s b)
asked_same s config command.Size e = refl
asked_same s config command.Metadata e = refl
asked_same s config (command.Proof n a count) e = unless_keeps s _ _
asked_same s config _ e = absurd (cc)

pub proved_same : (s : State Operation) (n : ℕ) → (prove_commit s n).1 ≡ s
proved_same s n = unless_keeps s _ _

-- ---- nor does what is refused

module _ (s : State Operation) (why : Refusal) where
  abbrev IsRefused : Outcome → Type 0
  IsRefused o = refusal_in o.0 ≡ Some why → o ≡ refused s why

  same_why : (r : Refusal) → Some r ≡ Some why → refused s r ≡ refused s why
  same_why r e =
      let same : r ≡ why = cc in
      ap (refused s) same

  refused_batch : (b : ℕ) (x : Batch Operation) → IsRefused (apply s b x)
  refused_batch b (Sealed c) = either IsRefused (is_held c) _ _
      (λ h. either IsRefused (may_apply one_list s c) _ _ (λ m e. absurd (cc)) (λ m. same_why _)) (λ h. same_why _)
  refused_batch b (Unsealed u) = same_why _
  refused_batch b Gone = same_why _

  pub apply_kept : (b : ℕ) → Some why ≡ refusal_in (apply s b (batch_at s b)).0
      → apply s b (batch_at s b) ≡ refused s why
  apply_kept b e = refused_batch b (batch_at s b) (sym e)

  pub prune_kept : (log_blob witness_blob l : ℕ) → Some why ≡ prune_refusal meaning s l
      → prune log_blob witness_blob s l ≡ refused s why
  prune_kept log_blob witness_blob l e = ap (prune_unless log_blob witness_blob s l) (sym e)

-- an apply that nothing refuses is done

abbrev IsDone : Outcome → Type 0
IsDone o = refusal_in o.0 ≡ None → answer.Applied ≡ o.0

done_batch : (s : State Operation) (b : ℕ) (x : Batch Operation) → IsDone (apply s b x)
done_batch s b (Sealed c) = either IsDone (is_held c) _ _
    (λ h. either IsDone (may_apply one_list s c) _ _ (λ m e. refl) (λ m e. absurd (cc))) (λ h e. absurd (cc))
done_batch s b (Unsealed u) = λ e. absurd (cc)
done_batch s b Gone = λ e. absurd (cc)

pub apply_done : (s : State Operation) (b : ℕ) → None ≡ refusal_in (apply s b (batch_at s b)).0
    → answer.Applied ≡ (apply s b (batch_at s b)).0
apply_done s b none = done_batch s b (batch_at s b) (sym none)

-- ---- steps under the names of their commands

pub named_apply : (config : Config) (s : State Operation) (c : Command) (b : ℕ) → about_of c ≡ Apply b
    → step config s c ≡ apply s b (batch_at s b)
named_apply config s (command.Apply d) b e =
    let same : d ≡ b = cc in
    ap (λ n. apply s n (batch_at s n)) same
named_apply config s _ b e = absurd (cc)

pub named_proof : (config : Config) (s : State Operation) (c : Command) (n : ℕ) → about_of c ≡ CommitProof n
    → step config s c ≡ prove_commit s n
named_proof config s (command.CommitProof m) n e =
    let same : m ≡ n = cc in
    ap (prove_commit s) same
named_proof config s _ n e = absurd (cc)

pub named_prune : (config : Config) (s : State Operation) (c : Command) (l : ℕ) → about_of c ≡ Prune l
    → step config s c ≡ prune config.log_blob config.witness_blob s l
named_prune config s (command.Prune m) l e =
    let same : m ≡ l = cc in
    ap (prune config.log_blob config.witness_blob s) same
named_prune config s _ l e = absurd (cc)

-- ---- a volume that stays

pub still_same : (tells : Type 0) (a : volume.State) → StaysStill tells a a
still_same tells a = record {
  clock = refl;
  contents = λ told. record { logs = λ name. refl; maps = λ name. refl };
  images = λ told. past_same a;
}

pub still_read : {T E : Type 0} (tells : Type 0) (f : E) (a b : volume.State) (r : Result T E) → Reads tells f a b r
    → StaysStill tells a b
still_read tells f a b r read = record { clock = read.clock; contents = read.contents; images = read.past }

-- ---- what leaves the volume is no apply, no prune, and not on what is durable

abbrev LeavesVolume : Topic → Type 0
LeavesVolume (Apply b) = ⊥
LeavesVolume Storage = ⊥
LeavesVolume (Prune l) = ⊥
LeavesVolume _ = Unit {0}

leaves : (c : Command) → IsQuiet c → LeavesVolume (about_of c)
leaves (command.Apply b) quiet = quiet
leaves command.Commit quiet = quiet
leaves command.Sync quiet = quiet
leaves command.StartSync quiet = quiet
leaves (command.Prune l) quiet = quiet
leaves _ quiet = tt

pub never_quiet : (c : Command) (t : Topic) → about_of c ≡ t → IsQuiet c → LeavesVolume t
never_quiet c t e quiet = subst LeavesVolume e (leaves c quiet)

-- ---- what is a prune is about one

abbrev IsOnPrune : Topic → Type 0
IsOnPrune (Prune l) = Unit {0}
IsOnPrune _ = ⊥

pub on_prune : (c : Command) (t : Topic) → about_of c ≡ t → (l : ℕ) → c ≡ command.Prune l → IsOnPrune t
on_prune c t e l named =
    subst IsOnPrune e (subst (λ (d : Command). IsOnPrune (about_of d)) (sym named) tt)

-- ---- nothing is to be durable after a command that makes nothing so

pub nothing_durable : {Db S U : Type 0} (k : Kind Db S U) (c : Command) → (about_of c ≡ Storage → ⊥) → (db : Db)
    (v : volume.State) → IsDurableFor k c db v
nothing_durable k command.Commit not db v = absurd (not refl)
nothing_durable k command.Sync not db v = absurd (not refl)
nothing_durable k command.StartSync not db v = absurd (not refl)
nothing_durable k _ not db v = tt

-- ---- a proof of a commit reads, and so does a prune

pub proof_reads : (c : Command) (n : ℕ) → about_of c ≡ CommitProof n → NeedsNoItem c → ⊥
proof_reads (command.CommitProof m) n e none = none
proof_reads _ n e none = cc

pub prune_reads : (c : Command) (l : ℕ) → about_of c ≡ Prune l → NeedsNoItem c → ⊥
prune_reads (command.Prune m) l e none = none
prune_reads _ l e none = cc
