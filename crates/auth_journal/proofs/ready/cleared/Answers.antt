use Rattle.std.proofs.Common.{◌≡◌, min, ap, subst}
use Rattle.journal_base.specs.View.{View, IsHeld}
use Rattle.volume_base.specs.Log.{end_of, cleared_at, Shrinks, BecomesOneOf}
use Rattle.volume_base.specs.Volume.{LogMoves}
use Rattle.auth_journal.proofs.ReadyLemmas.{keeps_follows, emptied_both}
use Rattle.auth_journal.proofs.ready.cleared.Goals as goal

pub returns-clause-held : goal.returns-clause-held
returns-clause-held g c told =
    subst (λ (v : View g.row.C-Item-Cfg.Denot). IsHeld v (g.V.Volume.state c.finish.new.vol)) (g.met.C.Backing.opened_is c.in_ok-journal.journal) ((c.in_ok-journal.ensures {u = tt}).held told)

pub returns-in_err-empty-clause-log : goal.returns-in_err-empty-clause-log
returns-in_err-empty-clause-log g c told =
    let first = g.C.Backing.config c.args.cfg in
    keeps_follows first.name (BecomesOneOf (cleared_at c.args.size)) (g.V.Volume.state c.args.vol.now) (g.V.Volume.state c.clear.new.vol) (c.in_err-empty.ensures.clears.call.log told).images

pub returns-in_err-journal-clause-log : goal.returns-in_err-journal-clause-log
returns-in_err-journal-clause-log g c told =
    let first = g.C.Backing.config c.args.cfg in
    let s0 = g.V.Volume.state c.args.vol.now in
    let s1 = g.V.Volume.state c.clear.new.vol in
    let s2 = g.V.Volume.state c.finish.new.vol in
    let empty = c.in_ok-empty.ensures {u = tt} in
    let view = g.C.Recovery.BackingRecovery.view c.in_ok-empty.empty in
    let name : view.name ≡ first.name = ap (λ (v : View g.row.C-Item-Cfg.Denot). v.name) empty.made in
    let end = min c.args.size (end_of (s1.log view.name)) in
    emptied_both first.name c.args.size end s0 s1 s2 (empty.clears.call.log told).images (empty.clears.durable told) (subst (λ n. LogMoves n (Shrinks end) s1 s2) name (c.in_err-journal.ensures.call.log told).images)

pub returns-clause-log : goal.returns-clause-log
returns-clause-log g c told =
    let first = g.C.Backing.config c.args.cfg in
    let s0 = g.V.Volume.state c.args.vol.now in
    let s1 = g.V.Volume.state c.clear.new.vol in
    let s2 = g.V.Volume.state c.finish.new.vol in
    let empty = c.in_ok-empty.ensures {u = tt} in
    let view = g.C.Recovery.BackingRecovery.view c.in_ok-empty.empty in
    let name : view.name ≡ first.name = ap (λ (v : View g.row.C-Item-Cfg.Denot). v.name) empty.made in
    let end = min c.args.size (end_of (s1.log view.name)) in
    emptied_both first.name c.args.size end s0 s1 s2 (empty.clears.call.log told).images (empty.clears.durable told) (subst (λ n. LogMoves n (Shrinks end) s1 s2) name ((c.in_ok-journal.ensures {u = tt}).call.log told).images)
