use Rattle.std.proofs.Common.{min, subst}
use Rattle.volume_base.specs.Log.{Log, end_of}
use Rattle.volume_base.specs.Moments.{LogKeeps}
use Rattle.volume_base.specs.Volume.{Follows}
use Rattle.volume_base.proofs.JoinLemmas.{on_ok}
use Rattle.auth_journal.specs.Searching.{Trims}
use Rattle.auth_journal.proofs.ReadyLemmas.{covers_here, trimmed_none, follows_idle}
use Rattle.auth_journal.proofs.ready.init_sync.Goals as goal

pub returns-in_err-first-clause-log : goal.returns-in_err-first-clause-log
returns-in_err-first-clause-log g c told covers =
    let first = g.C.Backing.config c.args.cfg in
    let s0 = g.V.Volume.state c.args.vol.now in
    let answers = c.in_err-first.ensures.answers in
    trimmed_none (min c.args.end (end_of (s0.log first.name))) c.args.start first.name s0 (g.V.Volume.state c.span.new.vol) answers.clock (answers.past told)

pub returns-then-covers-clause-cleared : goal.returns-then-covers-clause-cleared
returns-then-covers-clause-cleared g c =
    let first = g.C.Backing.config c.args.cfg in
    let s0 = g.V.Volume.state c.args.vol.now in
    let seen = c.in_ok-first.ensures in
    on_ok c.keep_between.result _ _ (λ kept told not. absurd (not (covers_here (s0.log first.name) c.in_ok-first.first c.in_ok-first.last c.args.start (seen.start told) (seen.end told) (c.covers.ensures.0 c.if-covers.true)))) c.keep_between.ensures.kept

pub returns-then-covers-clause-ends : goal.returns-then-covers-clause-ends
returns-then-covers-clause-ends g c = on_ok c.keep_between.result _ _ (λ ends told covers log left. ends told log left) c.keep_between.ensures.ends

pub returns-then-covers-clause-log : goal.returns-then-covers-clause-log
returns-then-covers-clause-log g c told covers =
    let first = g.C.Backing.config c.args.cfg in
    let s0 = g.V.Volume.state c.args.vol.now in
    let s1 = g.V.Volume.state c.span.new.vol in
    let s2 = g.V.Volume.state c.keep_between.new.vol in
    let answers = c.in_ok-first.ensures.answers in
    let least = min c.args.end (end_of (s0.log first.name)) in
    let kept = subst (λ (l : Log). LogKeeps first.name (Follows (s1.log_left s1.clock first.name) (Trims (min c.args.end (end_of l)) c.args.start)) s1 s2) ((answers.contents told).logs first.name) (c.keep_between.ensures.log told) in
    follows_idle first.name (Trims least c.args.start) s0 s1 s2 answers.clock (answers.past told) kept
