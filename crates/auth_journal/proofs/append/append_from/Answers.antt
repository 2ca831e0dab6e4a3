use Rattle.volume_base.specs.declared.error.JournalError.TheVariants as journal
use Rattle.auth_journal.proofs.AppendLemmas.{appends_none}
use Rattle.auth_journal.proofs.append.append_from.Goals as goal

pub returns-in-Err-clause-appends : goal.returns-in-Err-clause-appends
returns-in-Err-clause-appends g c = appends_none g.V.Volume.tells g.C.Item.Spelled.spelling _ _ (g.V.Volume.state c.args.vol.now) (g.V.Volume.state c.args.vol.now) journal.Volume _ journal.Memory (λ is. cc)
