use Rattle.std.proofs.Common.{◌≡◌, ◌++◌, length, Some, None, inr, sym, ◌∙◌, ap, arith}
use Rattle.std.proofs.lemmas.List.{length-append}
use Rattle.journal_base.specs.Items.{items_of}
use Rattle.chain_core.specs.declared.commitment.Commitment.{Commitment}
use Rattle.chain_core.specs.declared.error.Error.TheVariants.{Volume}
use Rattle.keyless_db.specs.DbView.{floor_in}
use Rattle.keyless_db.specs.Reading.{chain_start, kept_over, floored_refusal, pending_item, read_floor}
use Rattle.keyless_db.proofs.FaultLemmas.{locations_not_stale, reads_not_stale}
use Rattle.keyless_db.proofs.KeptLemmas.{batch_many_fit, batch_many_unfit}
use Rattle.keyless_db.proofs.SeveralLemmas.{answers_by, fit_ok, unfit_err, named_never}
use Rattle.keyless_db.proofs.StillLemmas.{reads_none}
use Rattle.keyless_db.proofs.batch.UnmerkleizedBatch.get_many.Goals as goal

pub returns-in-Ok-check_locations_from-clause-answer : goal.returns-in-Ok-check_locations_from-clause-answer
returns-in-Ok-check_locations_from-clause-answer g c tells stands ops list held all front of parents =
    let b = c.args.self.now in
    let m = g.O.Logged.meaning in
    let locs = c.args.locs.now in
    let longer = list ++ b.tree.items in
    let count : b.base.size ≡ length list = ap (λ (x : Commitment g.row.F.Denot g.row.H-Digest.Denot). x.size) of.base in
    let size : c.as_u64-size.result ≡ length longer = omega (arith, c.as_u64-size.ensures, c.size.ensures.size, count, length-append list b.tree.items) in
    let below = read_floor c.args.pool.now b (floor_in m c.args.db.now) in
    let fit : floored_refusal (length longer) below locs ≡ None =
    ap (λ n. floored_refusal n below locs) (sym size) ∙ ap (λ n. floored_refusal c.as_u64-size.result n locs) (sym c.in-Ok.ensures.floor)
    ∙ fit_ok g.row.F.Denot (floored_refusal c.as_u64-size.result c.in-Ok.floor locs) tt c.in-Ok-check_locations_from.ensures in
    answers_by _ _ _ c.own_values.result (sym (batch_many_fit m longer (kept_over (chain_start c.args.pool.now b) c.args.db.now) below locs fit)) (c.own_values.ensures.listed tells ops list held all front of parents)

pub returns-in-Err-check_locations_from-clause-answer : goal.returns-in-Err-check_locations_from-clause-answer
returns-in-Err-check_locations_from-clause-answer g c tells stands ops list held all front of parents =
    let b = c.args.self.now in
    let m = g.O.Logged.meaning in
    let locs = c.args.locs.now in
    let longer = list ++ b.tree.items in
    let count : b.base.size ≡ length list = ap (λ (x : Commitment g.row.F.Denot g.row.H-Digest.Denot). x.size) of.base in
    let size : c.as_u64-size.result ≡ length longer = omega (arith, c.as_u64-size.ensures, c.size.ensures.size, count, length-append list b.tree.items) in
    let below = read_floor c.args.pool.now b (floor_in m c.args.db.now) in
    let why = unfit_err (Unit {0}) (floored_refusal c.as_u64-size.result c.in-Ok.floor locs) c.in-Err-check_locations_from.error c.in-Err-check_locations_from.ensures in
    let is : floored_refusal (length longer) below locs ≡ Some why.0 =
    ap (λ n. floored_refusal n below locs) (sym size) ∙ ap (λ n. floored_refusal c.as_u64-size.result n locs) (sym c.in-Ok.ensures.floor) ∙ why.1 in
    inr (why.0, batch_many_unfit m longer (kept_over (chain_start c.args.pool.now b) c.args.db.now) below locs why.0 is, why.2)

pub returns-in-Err-check_locations_from-clause-reads : goal.returns-in-Err-check_locations_from-clause-reads
returns-in-Err-check_locations_from-clause-reads g c =
    let why = unfit_err (Unit {0}) (floored_refusal c.as_u64-size.result c.in-Ok.floor c.args.locs.now) c.in-Err-check_locations_from.error c.in-Err-check_locations_from.ensures in
    reads_none g.V.Volume.tells Volume _ _ (named_never c.in-Err-check_locations_from.error why.0 why.2)

pub returns-in-Ok-check_locations_from-clause-stale_only : goal.returns-in-Ok-check_locations_from-clause-stale_only
returns-in-Ok-check_locations_from-clause-stale_only g c at here =
    let db = c.args.db.now in
    let items = items_of g.O.Spelled.spelling g.O.Read.admits db.journal.items (g.V.Volume.state c.args.vol.now) in
    reads_not_stale g.V.Volume.tells items db.state.size (λ l. pending_item c.args.pool.now c.args.self.now l) c.args.locs.now c.own_values.result c.own_values.ensures.fault at

pub returns-in-Err-check_locations_from-clause-stale_only : goal.returns-in-Err-check_locations_from-clause-stale_only
returns-in-Err-check_locations_from-clause-stale_only g c at here =
    locations_not_stale (Unit {0}) c.in-Err-check_locations_from.error at c.as_u64-size.result c.in-Ok.floor c.args.locs.now c.in-Err-check_locations_from.ensures
