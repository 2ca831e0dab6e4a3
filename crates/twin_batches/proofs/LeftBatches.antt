-- What a refused command leaves of the batches of a side.
use Rattle.std.proofs.Common.{◌≡◌, ℕ, Bool, true, false, List, Option, Some, None, refl, sym, ◌∙◌, ap, subst}
use Rattle.std.specs.Prelude.{Result, IfOk, slice_index_or, slice_set}
use Rattle.chain_core.specs.Slots.{link_released}
use Rattle.chain_core.specs.declared.pool.HeldBatch.{HeldBatch}
use Rattle.log_model.specs.declared.refusal.Refusal.{Refusal}
use Rattle.command_text.specs.declared.command.Answer.{Answer}
use Rattle.command_text.specs.declared.command.Answer.TheVariants as answer
use Rattle.command_text.specs.declared.command.Command.{Command}
use Rattle.command_text.specs.declared.command.Command.TheVariants as command
use Rattle.twin_batches.specs.Kind.{Kind}
use Rattle.list_machine.specs.Laws.{loses_batch}
use Rattle.twin_batches.specs.About.{about_of}
use Rattle.twin_batches.specs.declared.about.Topic.TheVariants.{Batches}
use Rattle.twin_batches.specs.Leaving.{KeepsBatches, LosesBatch, LeavesUnsealed, LeavesBatches}
use Rattle.twin_batches.specs.declared.numbers.Batch.TheVariants.{Gone}
use Rattle.twin_batches.specs.declared.numbers.Numbers.{Numbers}

-- a reason is the one that is told
told_why : (x why : Refusal) → answer.Refused x ≡ answer.Refused why → x ≡ why
told_why x why is = cc

never_both : (b : Bool) → b ≡ true → b ≡ false → ⊥
never_both b loses keeps = let both : true ≡ false = sym loses ∙ keeps in cc

module _ {Db S U : Type 0} (k : Kind Db S U) where
  -- what a refusal says of the batches, under the name of the command
  abbrev pub IsLeft : {E : Type 0} → Result Answer E → Numbers S U → Numbers S U → Command → Type 0
  IsLeft r old new c = IfOk r (λ a. (why : Refusal) → a ≡ answer.Refused why → LeavesBatches k c why old new)

  pub named_left : {E : Type 0} (r : Result Answer E) (old new : Numbers S U) (c d : Command) → c ≡ d
      → IsLeft r old new d → IsLeft r old new c
  named_left r old new c d e is = subst (IsLeft r old new) (sym e) is

  -- of a command that is on no batches nothing is lost
  pub left_same : (n : Numbers S U) (c : Command) (why : Refusal) → (about_of c ≡ Batches → ⊥)
      → LeavesBatches k c why n n
  left_same n (command.Seal b metadata floor) why other = absurd (other refl)
  left_same n _ why other = (refl, refl)

  -- ---- seals that are refused

  pub unsealed_stays : (b : ℕ) (n : Numbers S U) (x why : Refusal) → loses_batch x ≡ false
      → answer.Refused x ≡ answer.Refused why → LeavesUnsealed k b why n n
  unsealed_stays b n x why keeps is =
      let told = subst (λ (r : Refusal). loses_batch r ≡ false) (told_why x why is) keeps in record {
        lost = λ loses. absurd (never_both (loses_batch why) loses told);
        kept = λ kept. (refl, refl);
      }

  pub unsealed_lost : (b : ℕ) (old new : Numbers S U) (x why : Refusal) → loses_batch x ≡ true
      → answer.Refused x ≡ answer.Refused why → LosesBatch k b old new → LeavesUnsealed k b why old new
  unsealed_lost b old new x why loses is lost =
      let told = subst (λ (r : Refusal). loses_batch r ≡ true) (told_why x why is) loses in record {
        lost = λ again. lost;
        kept = λ kept. absurd (never_both (loses_batch why) told kept);
      }

  -- behind what left them already
  module _ (old mid new : Numbers S U) (batches : mid.batches ≡ old.batches) (pool : mid.pool ≡ old.pool) where
    kept_behind : KeepsBatches mid new → KeepsBatches old new
    kept_behind kept = (kept.0 ∙ ap (λ v. v.items) batches, kept.1 ∙ pool)

    lost_behind : (b : ℕ) → LosesBatch k b mid new → LosesBatch k b old new
    lost_behind b lost = record {
      batch = lost.batch;
      was = ap (λ v. slice_index_or v.items b Gone) (sym batches) ∙ lost.was;
      gone = lost.gone ∙ ap (λ v. slice_set v.items b Gone) batches;
      released = lost.released
          ∙ ap (λ (p : List (Option (HeldBatch S))). link_released p (k.parent lost.batch)) pool;
    }

    pub left_behind : (c : Command) (why : Refusal) → LeavesBatches k c why mid new → LeavesBatches k c why old new
    left_behind (command.Seal b metadata floor) why left = record {
      lost = λ loses. lost_behind b (left.lost loses);
      kept = λ keeps. kept_behind (left.kept keeps);
    }
    left_behind _ why left = kept_behind left
