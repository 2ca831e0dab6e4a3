use Rattle.std.proofs.Common.{subst}
use Rattle.volume_base.specs.Volume.{Map}
use Rattle.journal_base.specs.View.{IsWithin}
use Rattle.merkle_full.specs.Recovering.{source_of, IsRecovered, NotAllRecovered}
use Rattle.merkle_full.proofs.GrownLemmas.{err_same}
use Rattle.merkle_full.proofs.ReopenLemmas.{known_before, first_before}
use Rattle.volume_base.specs.Errors.{as_journal_error}
use Rattle.merkle_full.specs.Lifted.{IsLifted}
use Rattle.merkle_full.proofs.GrownLemmas.{err_same}
use Rattle.merkle_full.proofs.LiftedLemmas.{err_lifted, not_all_lifted}
use Rattle.merkle_full.proofs.sync_pins.stored_pins.Goals as goal

pub returns-in_err-pins-clause-refused : goal.returns-in_err-pins-clause-refused
returns-in_err-pins-clause-refused g c told =
    let view = g.R.BackingRecovery.view c.args.log.now in
    let old = g.V.Volume.state c.args.vol.now in
    let new = g.V.Volume.state c.map_get.new.self in
    let known = g.V.Volume.tells × IsWithin view old in
    let spelling = g.D.Spelled.spelling in
    let got = c.in_ok-read.ensures {u = tt} in
    let e = c.in_err-pins.field-0.0 in
    let lost = first_before g.V.Volume.tells spelling g.D.Read.admits c.in_ok-read.read view old new got.answers.contents c.args.positions.now e c.in_err-pins.ensures.refused in
    err_same _ e (NotAllRecovered known (source_of spelling g.D.Read.admits (old.map c.args.metadata.now) view old) c.args.positions.now) c.from_residual-in_err-pins.ensures.1
    (subst (λ (m : Map). NotAllRecovered known (source_of spelling g.D.Read.admits m view old) c.args.positions.now e) (got.map told) lost)

pub returns-clause-nodes : goal.returns-clause-nodes
returns-clause-nodes g c told i p d at is =
    let view = g.R.BackingRecovery.view c.args.log.now in
    let old = g.V.Volume.state c.args.vol.now in
    let new = g.V.Volume.state c.map_get.new.self in
    let known = g.V.Volume.tells × IsWithin view old in
    let spelling = g.D.Spelled.spelling in
    let got = c.in_ok-read.ensures {u = tt} in
    let here = known_before g.V.Volume.tells spelling g.D.Read.admits c.in_ok-read.read view old new got.answers.contents p d ((c.in_ok-pins.ensures {u = tt}).nodes i p d at is) in
    subst (λ (m : Map). IsRecovered known (source_of spelling g.D.Read.admits m view old) p d) (got.map told) here

pub returns-in_err-read-clause-errors : goal.returns-in_err-read-clause-errors
returns-in_err-read-clause-errors g c = err_lifted c.from_residual.result (as_journal_error c.in_err-read.field-0.0) c.from_residual.ensures.1

pub returns-in_err-pins-clause-errors : goal.returns-in_err-pins-clause-errors
returns-in_err-pins-clause-errors g c = let e = c.in_err-pins.field-0.0 in err_same c.from_residual-in_err-pins.result e IsLifted c.from_residual-in_err-pins.ensures.1 (not_all_lifted _ _ _ e c.in_err-pins.ensures.refused)
