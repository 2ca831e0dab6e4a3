use Rattle.std.proofs.Common.{◌≤◌, ◌<◌, ℕ, subst}
use Rattle.std.specs.Prelude.{IsErrOf}
use Rattle.volume_base.specs.Log.{end_of}
use Rattle.volume_base.specs.declared.error.JournalError.TheVariants.{ItemPruned, ItemOutOfRange}
use Rattle.journal_base.specs.Items.{items_of}
use Rattle.journal_base.specs.Reads.{IsFirstFailing}
use Rattle.journal_base.specs.View.{log_of}
use Rattle.auth_journal.specs.Joined.{Joined, log_view}
use Rattle.auth_journal.proofs.contiguous.JournalContiguous.read_many.Goals as goal

pub returns-clause-pruned : goal.returns-clause-pruned
returns-clause-pruned g c =
    let state = g.V.Volume.state c.args.vol.now in
    subst (λ (j : Joined g.row.H-Digest.Denot g.row.C-Item-Cfg.Denot). g.V.Volume.tells → (p : ℕ) → IsErrOf c.read_many.result (ItemPruned p) →
    IsFirstFailing (items_of g.C.Item.Spelled.spelling g.C.Item.Read.admits (log_view j) state) c.args.positions.now p × (p < (log_of (log_view j) state).start)) c.self.view_is c.read_many.ensures.pruned

pub returns-clause-out_of_range : goal.returns-clause-out_of_range
returns-clause-out_of_range g c =
    let state = g.V.Volume.state c.args.vol.now in
    subst (λ (j : Joined g.row.H-Digest.Denot g.row.C-Item-Cfg.Denot). g.V.Volume.tells → (p : ℕ) → IsErrOf c.read_many.result (ItemOutOfRange p) →
    IsFirstFailing (items_of g.C.Item.Spelled.spelling g.C.Item.Read.admits (log_view j) state) c.args.positions.now p × (end_of (log_of (log_view j) state) ≤ p)) c.self.view_is c.read_many.ensures.out_of_range
