use Rattle.std.proofs.Common.{◌≡◌, ◌≤◌, ◌⊎◌, Err, sym, ap, subst, arith}
use Rattle.std.specs.Prelude.{IfErr}
use Rattle.volume_base.specs.declared.error.JournalError.{JournalError}
use Rattle.journal_base.specs.Items.{items_of, Spells}
use Rattle.journal_base.specs.View.{IsHeld, log_of}
use Rattle.merkle_full.proofs.PrepareLemmas.{held_within}
use Rattle.auth_journal.specs.Errors.{from_journal, IsOutside, IsLifted}
use Rattle.auth_journal.specs.Opening.{Readied}
use Rattle.auth_journal.specs.Searching.{IsUnreadWithin}
use Rattle.auth_journal.specs.declared.error.Error.TheVariants as joined
use Rattle.auth_journal.proofs.DurableLemmas.{err_and}
use Rattle.auth_journal.proofs.OpenedLemmas.{log_lifted}
use Rattle.auth_journal.proofs.OpeningLemmas.{read_refused}
use Rattle.auth_journal.proofs.recovery.Recovery.read.Goals as goal

pub returns-in_err-item-clause-refused : goal.returns-in_err-item-clause-refused
returns-in_err-item-clause-refused g c told held =
    let state = g.V.Volume.state c.args.vol.now in
    let spelling = g.C.Item.Spelled.spelling in
    let admits = g.C.Item.Read.admits in
    let view = g.C.Recovery.BackingRecovery.view c.self.inside.journal in
    let p = c.args.position in
    let here : IsHeld view state = subst (λ (v : Readied g.row.H-Digest.Denot g.row.C-Item-Cfg.Denot). IsHeld v.items state) (sym c.self.view_is) held in
    let within = held_within view state here in
    let did = c.in_err-item.ensures {u = tt} in
    subst (λ (v : Readied g.row.H-Digest.Denot g.row.C-Item-Cfg.Denot). IfErr c.from_residual.result (λ e. IsOutside e ⊎ ((d : JournalError) × IsUnreadWithin (items_of spelling admits v.items state) v.end p d × (e ≡ joined.Journal d)))) c.self.view_is
    (read_refused (items_of spelling admits view state) view.start c.self.inside.end view.end p c.in_err-item.field-0.0 c.from_residual.result c.from_residual.ensures.1 here.start_is c.self.invariant.within (omega (arith, c.if-position-self.false))
    (λ q is. let y = did.pruned q (ap Err is) in (y.0, y.1 told within)) (λ q is. let y = did.out_of_range q (ap Err is) in (y.0, y.1 told within)) (λ q is. let y = did.corrupt q (ap Err is) in (y.0, y.1, y.3 told)) did.errors)

pub returns-clause-listed : goal.returns-clause-listed
returns-clause-listed g c told held list x run low at allowed =
    let state = g.V.Volume.state c.args.vol.now in
    let spelling = g.C.Item.Spelled.spelling in
    let view = g.C.Recovery.BackingRecovery.view c.self.inside.journal in
    let back = sym c.self.view_is in
    let here : IsHeld view state = subst (λ (v : Readied g.row.H-Digest.Denot g.row.C-Item-Cfg.Denot). IsHeld v.items state) back held in
    (c.in_ok-item.ensures {u = tt}).listed told (held_within view state here) list x
    (subst (λ (v : Readied g.row.H-Digest.Denot g.row.C-Item-Cfg.Denot). Spells spelling list (log_of v.items state)) back run)
    (subst (λ (v : Readied g.row.H-Digest.Denot g.row.C-Item-Cfg.Denot). (log_of v.items state).start ≤ c.args.position) back low) at
    (subst (λ (v : Readied g.row.H-Digest.Denot g.row.C-Item-Cfg.Denot). g.C.Item.Read.admits v.items.codec x) back allowed)

pub returns-in_err-item-clause-lifted : goal.returns-in_err-item-clause-lifted
returns-in_err-item-clause-lifted g c =
    let e = c.in_err-item.field-0.0 in
    err_and _ (from_journal e) IsLifted c.from_residual.ensures.1 (log_lifted g.row.F.Denot e)
