use Rattle.std.proofs.Common.{◌≡◌, length, Some, None, inr, refl, sym, ◌∙◌, ap}
use Rattle.journal_base.specs.Items.{items_of}
use Rattle.auth_journal.specs.Kept.{kept_item}
use Rattle.chain_core.specs.declared.commitment.Commitment.{Commitment}
use Rattle.keyless_db.specs.Batches.{MerkleizedView}
use Rattle.keyless_db.specs.Reading.{kept_over, floored_refusal}
use Rattle.keyless_db.proofs.FaultLemmas.{locations_not_stale, reads_not_stale}
use Rattle.keyless_db.proofs.KeptLemmas.{batch_many_fit, batch_many_unfit, floored_within, chain_here}
use Rattle.keyless_db.proofs.SeveralLemmas.{answers_by, fit_ok, unfit_err}
use Rattle.keyless_db.proofs.batch.MerkleizedBatch.get_many.Goals as goal

pub returns-in-Ok-check_locations_from-clause-answer : goal.returns-in-Ok-check_locations_from-clause-answer
returns-in-Ok-check_locations_from-clause-answer g c tells chain ops list held all front of =
    let b = c.args.self.now in
    let locs = c.args.locs.now in
    let size : c.as_u64-size.result ≡ length list = c.as_u64-size.ensures ∙ ap (λ (x : MerkleizedView g.row.F.Denot g.row.D.Denot g.row.O.Denot). x.bounds.tip.size) c.self.view_is
    ∙ ap (λ (x : Commitment g.row.F.Denot g.row.D.Denot). x.size) of.batch.bounds.tip in
    let floor : c.as_u64-floor.result ≡ b.bounds.inactivity_floor =
    c.as_u64-floor.ensures ∙ ap (λ (x : MerkleizedView g.row.F.Denot g.row.D.Denot g.row.O.Denot). x.bounds.inactivity_floor) c.self.view_is in
    let fit : floored_refusal (length list) b.bounds.inactivity_floor locs ≡ None =
    ap (λ n. floored_refusal n b.bounds.inactivity_floor locs) (sym size) ∙ ap (λ n. floored_refusal c.as_u64-size.result n locs) (sym floor)
    ∙ fit_ok g.row.F.Denot (floored_refusal c.as_u64-size.result c.as_u64-floor.result locs) tt c.in-Ok-check_locations_from.ensures in
    answers_by _ _ _ c.chain_values.result (sym (batch_many_fit g.O.Logged.meaning list (kept_over b.tree.nodes.first c.args.db.now) b.bounds.inactivity_floor locs fit))
    (c.chain_values.ensures.listed tells ops list held all front of.tree (floored_within (length list) b.bounds.inactivity_floor locs fit))

pub returns-in-Err-check_locations_from-clause-stale : goal.returns-in-Err-check_locations_from-clause-stale
returns-in-Err-check_locations_from-clause-stale g c off =
    absurd (off (chain_here c.self.view_is c.commitment.ensures (c.in-Ok.ensures.in_chain.0 refl)))

pub returns-in-Err-check_locations_from-clause-answer : goal.returns-in-Err-check_locations_from-clause-answer
returns-in-Err-check_locations_from-clause-answer g c tells chain ops list held all front of =
    let b = c.args.self.now in
    let locs = c.args.locs.now in
    let size : c.as_u64-size.result ≡ length list = c.as_u64-size.ensures ∙ ap (λ (x : MerkleizedView g.row.F.Denot g.row.D.Denot g.row.O.Denot). x.bounds.tip.size) c.self.view_is
    ∙ ap (λ (x : Commitment g.row.F.Denot g.row.D.Denot). x.size) of.batch.bounds.tip in
    let floor : c.as_u64-floor.result ≡ b.bounds.inactivity_floor =
    c.as_u64-floor.ensures ∙ ap (λ (x : MerkleizedView g.row.F.Denot g.row.D.Denot g.row.O.Denot). x.bounds.inactivity_floor) c.self.view_is in
    let why = unfit_err (Unit {0}) (floored_refusal c.as_u64-size.result c.as_u64-floor.result locs) c.in-Err-check_locations_from.error c.in-Err-check_locations_from.ensures in
    let is : floored_refusal (length list) b.bounds.inactivity_floor locs ≡ Some why.0 =
    ap (λ n. floored_refusal n b.bounds.inactivity_floor locs) (sym size) ∙ ap (λ n. floored_refusal c.as_u64-size.result n locs) (sym floor) ∙ why.1 in
    inr (why.0, batch_many_unfit g.O.Logged.meaning list (kept_over b.tree.nodes.first c.args.db.now) b.bounds.inactivity_floor locs why.0 is, why.2)

pub returns-in-Ok-check_locations_from-clause-stale_only : goal.returns-in-Ok-check_locations_from-clause-stale_only
returns-in-Ok-check_locations_from-clause-stale_only g c at here =
    let db = c.args.db.now in
    let items = items_of g.O.Spelled.spelling g.O.Read.admits db.journal.items (g.V.Volume.state c.args.vol.now) in
    reads_not_stale g.V.Volume.tells items db.state.size (λ l. kept_item c.args.self.now.tree l) c.args.locs.now c.chain_values.result c.chain_values.ensures.fault at

pub returns-in-Err-check_locations_from-clause-stale_only : goal.returns-in-Err-check_locations_from-clause-stale_only
returns-in-Err-check_locations_from-clause-stale_only g c at here =
    locations_not_stale (Unit {0}) c.in-Err-check_locations_from.error at c.as_u64-size.result c.as_u64-floor.result c.args.locs.now c.in-Err-check_locations_from.ensures

pub returns-in-Err-clause-stale_only : goal.returns-in-Err-clause-stale_only
returns-in-Err-clause-stale_only g c at here =
    let there = c.in-Err.ensures.in_chain.1 (chain_here (sym c.self.view_is) (sym c.commitment.ensures) here) in
    cc
