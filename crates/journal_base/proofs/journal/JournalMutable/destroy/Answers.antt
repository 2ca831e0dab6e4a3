use Rattle.journal_base.proofs.journal.JournalMutable.destroy.Goals as goal

pub returns-clause-durable : goal.returns-clause-durable
returns-clause-durable g c told = let only = rw c.as_str.ensures.value at (c.in_ok-log_remove.ensures.durable told) in only
