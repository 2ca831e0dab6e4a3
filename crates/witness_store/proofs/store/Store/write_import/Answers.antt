use Rattle.std.proofs.Common.{◌≡◌, max, ◌∙◌, ap, subst, string_bytes}
use Rattle.journal_base.specs.View.{View}
use Rattle.volume_base.specs.Moments.{LogHas}
use Rattle.volume_base.specs.Volume.{LogCall}
use Rattle.witness_store.specs.StoreView.{IsRestarted, Restarts}
use Rattle.witness_store.specs.Witness.{text_of}
use Rattle.witness_store.proofs.StoreLemmas.{restart_read, restart_call, restart_left, whatever}
use Rattle.witness_store.proofs.store.Store.write_import.Goals as goal

pub returns-in_err-end-clause-log : goal.returns-in_err-end-clause-log
returns-in_err-end-clause-log g c told = restart_read _ _ _ _ _ _ _ _ c.span.ensures.answers told

pub returns-clause-log : goal.returns-clause-log
returns-clause-log g c told =
    let text = text_of g.D.Spelled.spelling c.args.witness.now in
    let name_is : string_bytes c.in_ok-journal.journal.name ≡ string_bytes c.args.cfg.name = ap (λ (v : View (Unit {0})). v.name) c.in_ok-journal.ensures.made in
    let place_is = c.max.ensures ∙ ap (λ e. max e 1) (c.in_ok-end.ensures.end told) in
    let grown = rw name_is at (c.append.ensures.log told) in
    subst (λ p. LogCall (string_bytes c.args.cfg.name) (Restarts p text) (g.V.Volume.state c.args.vol.now) (g.V.Volume.state c.append.new.vol)) place_is
    (restart_call _ _ _ c.max.result text _ _ _ _ _ c.span.ensures.answers told (c.cleared.ensures.clears.call.log told) (c.in_ok-journal.ensures.clears.cleared told) grown)

pub returns-clause-left : goal.returns-clause-left
returns-clause-left g c = whatever c.append.result _ (λ told.
    let text = text_of g.D.Spelled.spelling c.args.witness.now in
    let name_is : string_bytes c.in_ok-journal.journal.name ≡ string_bytes c.args.cfg.name = ap (λ (v : View (Unit {0})). v.name) c.in_ok-journal.ensures.made in
    let place_is = c.max.ensures ∙ ap (λ e. max e 1) (c.in_ok-end.ensures.end told) in
    let grown = rw name_is at (c.append.ensures.log told) in
    subst (λ p. LogHas (g.V.Volume.state c.append.new.vol) (string_bytes c.args.cfg.name) (IsRestarted p text)) place_is
    (restart_left _ c.max.result text _ _ (c.in_ok-journal.ensures.clears.durable told) (c.in_ok-journal.ensures.clears.cleared told) grown))
