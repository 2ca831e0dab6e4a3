use Rattle.std.proofs.Common.{inl, refl, ◌∙◌, ap}
use Rattle.std.specs.Prelude.{string_bytes}
use Rattle.journal_base.specs.View.{View}
use Rattle.volume_base.specs.Names.{log_alone}
use Rattle.volume_base.proofs.CallLemmas.{names_call_log}
use Rattle.merkle_full.proofs.RunLemmas.{names_then_log, renamed_durable}
use Rattle.merkle_full.proofs.LiftedLemmas.{err_lifted}
use Rattle.merkle_full.proofs.sync_log.trimmed_log.Goals as goal

pub returns-in_err-kept-clause-names : goal.returns-in_err-kept-clause-names
returns-in_err-kept-clause-names g c told =
    let s0 = g.V.Volume.state c.args.vol.now in
    let s1 = g.V.Volume.state c.truncate.new.vol in
    let s2 = g.V.Volume.state c.prune.new.vol in
    let name = string_bytes c.args.nodes.seen.name in
    let names = log_alone name in
    let cut = c.in_ok-cut.ensures {u = tt} in
    names_then_log names name _ _ s0 s1 s2 (inl refl) (ap (λ (v : View _). v.name) cut.made) (names_call_log names name _ s0 s1 (inl refl) (cut.call.log told)) (c.in_err-kept.ensures.call.log told)

pub returns-in_err-journal-clause-names : goal.returns-in_err-journal-clause-names
returns-in_err-journal-clause-names g c told =
    let s0 = g.V.Volume.state c.args.vol.now in
    let s1 = g.V.Volume.state c.truncate.new.vol in
    let s2 = g.V.Volume.state c.prune.new.vol in
    let name = string_bytes c.args.nodes.seen.name in
    let names = log_alone name in
    let cut = c.in_ok-cut.ensures {u = tt} in
    let kept = c.in_ok-kept.ensures {u = tt} in
    let named = ap (λ (v : View _). v.name) cut.made in
    let two = names_then_log names name _ _ s0 s1 s2 (inl refl) named (names_call_log names name _ s0 s1 (inl refl) (cut.call.log told)) (kept.call.log told) in
    names_then_log names name _ _ s0 s2 (g.V.Volume.state c.finish.new.vol) (inl refl) (ap (λ (v : View _). v.name) kept.made ∙ named) two (c.in_err-journal.ensures.call.log told)

pub returns-clause-durable : goal.returns-clause-durable
returns-clause-durable g c told =
    renamed_durable (string_bytes c.args.nodes.seen.name) _ (g.V.Volume.state c.finish.new.vol)
    (ap (λ (v : View _). v.name) (c.in_ok-kept.ensures {u = tt}).made ∙ ap (λ (v : View _). v.name) (c.in_ok-cut.ensures {u = tt}).made) ((c.in_ok-journal.ensures {u = tt}).durable told)

pub returns-clause-names : goal.returns-clause-names
returns-clause-names g c told =
    let s0 = g.V.Volume.state c.args.vol.now in
    let s1 = g.V.Volume.state c.truncate.new.vol in
    let s2 = g.V.Volume.state c.prune.new.vol in
    let name = string_bytes c.args.nodes.seen.name in
    let names = log_alone name in
    let cut = c.in_ok-cut.ensures {u = tt} in
    let kept = c.in_ok-kept.ensures {u = tt} in
    let named = ap (λ (v : View _). v.name) cut.made in
    let two = names_then_log names name _ _ s0 s1 s2 (inl refl) named (names_call_log names name _ s0 s1 (inl refl) (cut.call.log told)) (kept.call.log told) in
    names_then_log names name _ _ s0 s2 (g.V.Volume.state c.finish.new.vol) (inl refl) (ap (λ (v : View _). v.name) kept.made ∙ named) two ((c.in_ok-journal.ensures {u = tt}).call.log told)

pub returns-in_err-cut-clause-errors : goal.returns-in_err-cut-clause-errors
returns-in_err-cut-clause-errors g c = err_lifted c.from_residual.result c.in_err-cut.field-0.0 c.from_residual.ensures.1

pub returns-in_err-kept-clause-errors : goal.returns-in_err-kept-clause-errors
returns-in_err-kept-clause-errors g c = err_lifted c.from_residual-in_err-kept.result c.in_err-kept.field-0.0 c.from_residual-in_err-kept.ensures.1

pub returns-in_err-journal-clause-errors : goal.returns-in_err-journal-clause-errors
returns-in_err-journal-clause-errors g c = err_lifted c.from_residual-in_err-journal.result c.in_err-journal.field-0.0 c.from_residual-in_err-journal.ensures.1
