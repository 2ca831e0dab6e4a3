use Rattle.std.proofs.Common.{Err, ◌∙◌, ap, subst}
use Rattle.volume_base.specs.Log.{Advances}
use Rattle.volume_base.specs.Volume.{LogCall}
use Rattle.volume_base.specs.declared.error.JournalError.TheVariants as journal
use Rattle.volume_base.proofs.JoinLemmas.{writes_joins}
use Rattle.journal_base.specs.View.{View, IsDurable, prune_point}
use Rattle.auth_journal.specs.Errors.{IsOutside, from_journal}
use Rattle.auth_journal.specs.Joined.{Joined}
use Rattle.auth_journal.specs.declared.error.Error.TheVariants as joined
use Rattle.auth_journal.proofs.DurableLemmas.{err_and, err_not_ok, fault_below, writes_done}
use Rattle.auth_journal.proofs.ErrorLemmas.{log_outside, volume_from}
use Rattle.auth_journal.proofs.PruneLemmas.{cut_call}
use Rattle.auth_journal.proofs.journal.Journal.prune_items.Goals as goal

pub returns-in_err-journal-clause-log : goal.returns-in_err-journal-clause-log
returns-in_err-journal-clause-log g c tells =
    let a = g.V.Volume.state c.args.vol.now in
    let b = g.V.Volume.state c.prune.new.vol in
    let d = g.V.Volume.state c.sync.new.vol in
    let view = g.C.Contiguous.view c.self.inside.journal in
    let next = g.C.Contiguous.view c.in_ok-pruned.pruned in
    let pruned = c.in_ok-pruned.ensures {u = tt} in
    let synced = c.in_err-journal.ensures {u = tt} in
    subst (λ (j : Joined g.row.H-Digest.Denot g.row.C-Item-Cfg.Denot). LogCall j.items.name (Advances (prune_point j.items c.args.loc a)) a d) c.self.view_is
    (cut_call view next c.as_u64.result c.args.loc a b d c.as_u64.ensures pruned.made (pruned.log g.met.C.Backing.is_one_log tells) (synced.log g.met.C.Backing.is_one_log tells))

pub returns-in_err-journal-clause-writes : goal.returns-in_err-journal-clause-writes
returns-in_err-journal-clause-writes g c sound =
    let a = g.V.Volume.state c.args.vol.now in
    let b = g.V.Volume.state c.prune.new.vol in
    let d = g.V.Volume.state c.sync.new.vol in
    let failed = c.self.invariant.items (ap (λ (k : Joined g.row.H-Digest.Denot g.row.C-Item-Cfg.Denot). k.failed) c.self.view_is ∙ sound) in
    let pruned = c.in_ok-pruned.ensures {u = tt} in
    let synced = c.in_err-journal.ensures {u = tt} in
    let e = c.in_err-journal.field-0.0 in
    let result = c.from_residual-in_err-journal.result in
    let is = c.from_residual-in_err-journal.ensures.1 in
    writes_joins g.V.Volume.tells journal.Volume journal.Volume joined.Volume a b d _ (Err e) result (pruned.writes g.met.C.Backing.is_one_log failed)
    (synced.writes (ap (λ (v : View g.row.C-Item-Cfg.Denot). v.failed) pruned.made ∙ failed)) (fault_below from_journal joined.Volume journal.Volume result e volume_from is) (λ kept. err_not_ok result _ _ is)

pub returns-clause-log : goal.returns-clause-log
returns-clause-log g c tells =
    let a = g.V.Volume.state c.args.vol.now in
    let b = g.V.Volume.state c.prune.new.vol in
    let d = g.V.Volume.state c.sync.new.vol in
    let view = g.C.Contiguous.view c.self.inside.journal in
    let next = g.C.Contiguous.view c.in_ok-pruned.pruned in
    let pruned = c.in_ok-pruned.ensures {u = tt} in
    let synced = c.in_ok-journal.ensures {u = tt} in
    subst (λ (j : Joined g.row.H-Digest.Denot g.row.C-Item-Cfg.Denot). LogCall j.items.name (Advances (prune_point j.items c.args.loc a)) a d) c.self.view_is
    (cut_call view next c.as_u64.result c.args.loc a b d c.as_u64.ensures pruned.made (pruned.log g.met.C.Backing.is_one_log tells) (synced.log g.met.C.Backing.is_one_log tells))

pub returns-in_err-pruned-clause-writes : goal.returns-in_err-pruned-clause-writes
returns-in_err-pruned-clause-writes g c sound =
    let failed = c.self.invariant.items (ap (λ (k : Joined g.row.H-Digest.Denot g.row.C-Item-Cfg.Denot). k.failed) c.self.view_is ∙ sound) in
    let e = c.in_err-pruned.field-0.0 in
    let result = c.from_residual.result in
    let is = c.from_residual.ensures.1 in
    let w = (c.in_err-pruned.ensures {u = tt}).writes g.met.C.Backing.is_one_log failed in
    record {
      later = w.later;
      still = w.still;
      reads = w.reads;
      faults = w.faults;
      failed = λ at. w.failed (fault_below from_journal joined.Volume journal.Volume result e volume_from is at);
      kept = err_not_ok result _ _ is;
      steady = w.steady;
    }

pub returns-in_err-journal-clause-outside : goal.returns-in_err-journal-clause-outside
returns-in_err-journal-clause-outside g c =
    let e = c.in_err-journal.field-0.0 in
    err_and _ (from_journal e) IsOutside c.from_residual-in_err-journal.ensures.1 (log_outside g.row.F.Denot e ((c.in_err-journal.ensures {u = tt}).errors g.met.C.Backing.is_one_log))

pub returns-clause-durable : goal.returns-clause-durable
returns-clause-durable g c tells =
    let d = g.V.Volume.state c.sync.new.vol in
    let pruned = c.in_ok-pruned.ensures {u = tt} in
    let only = subst (λ (v : View g.row.C-Item-Cfg.Denot). IsDurable v d) pruned.made ((c.in_ok-journal.ensures {u = tt}).durable tells) in
    subst (λ (k : Joined g.row.H-Digest.Denot g.row.C-Item-Cfg.Denot). IsDurable k.items d) c.self.view_is only

pub returns-clause-writes : goal.returns-clause-writes
returns-clause-writes g c sound =
    let a = g.V.Volume.state c.args.vol.now in
    let b = g.V.Volume.state c.prune.new.vol in
    let d = g.V.Volume.state c.sync.new.vol in
    let failed = c.self.invariant.items (ap (λ (k : Joined g.row.H-Digest.Denot g.row.C-Item-Cfg.Denot). k.failed) c.self.view_is ∙ sound) in
    let pruned = c.in_ok-pruned.ensures {u = tt} in
    writes_done g.V.Volume.tells journal.Volume journal.Volume joined.Volume a b d _ c.in_ok-journal.journal _ (pruned.writes g.met.C.Backing.is_one_log failed)
    ((c.in_ok-journal.ensures {u = tt}).writes (ap (λ (v : View g.row.C-Item-Cfg.Denot). v.failed) pruned.made ∙ failed))
