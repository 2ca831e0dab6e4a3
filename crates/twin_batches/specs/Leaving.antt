-- What a command that was refused leaves of the batches of a side.
use Rattle.std.specs.Prelude.{◌≡◌, ℕ, true, false, slice_index_or, slice_set}
use Rattle.chain_core.specs.Slots.{link_released}
use Rattle.command_text.specs.declared.command.Command.{Command}
use Rattle.command_text.specs.declared.command.Command.TheVariants as command
use Rattle.log_model.specs.declared.refusal.Refusal.{Refusal}
use Rattle.list_machine.specs.Laws.{loses_batch}
use Rattle.twin_batches.specs.Kind.{Kind}
use Rattle.twin_batches.specs.declared.numbers.Numbers.{Numbers}
use Rattle.twin_batches.specs.declared.numbers.Batch.TheVariants.{Unsealed, Gone}

-- Each batch is as before.
abbrev pub KeepsBatches : {S U : Type 0} → Numbers S U → Numbers S U → Type 0
KeepsBatches old new = (new.batches.items ≡ old.batches.items) × (new.pool ≡ old.pool)

module _ {Db S U : Type 0} (k : Kind Db S U) where
  -- Batch b, which was unsealed, is gone, and so is its hold on its parent. Each other batch is as before.
  pub record LosesBatch (b : ℕ) (old new : Numbers S U) : Type 0 where
    pub batch : U
    pub was : slice_index_or old.batches.items b Gone ≡ Unsealed batch
    pub gone : new.batches.items ≡ slice_set old.batches.items b Gone
    pub released : new.pool ≡ link_released old.pool (k.parent batch)

  -- A seal of batch b that was refused has lost it where the reason is one that loses a batch, and else each batch is as
  -- before.
  pub record LeavesUnsealed (b : ℕ) (why : Refusal) (old new : Numbers S U) : Type 0 where
    pub lost : loses_batch why ≡ true → LosesBatch b old new
    pub kept : loses_batch why ≡ false → KeepsBatches old new

  -- A command that was refused for this reason leaves each batch, but a seal its own where the reason loses it.
  abbrev pub LeavesBatches : Command → Refusal → Numbers S U → Numbers S U → Type 0
  LeavesBatches (command.Seal b metadata floor) why old new = LeavesUnsealed b why old new
  LeavesBatches _ why old new = KeepsBatches old new
