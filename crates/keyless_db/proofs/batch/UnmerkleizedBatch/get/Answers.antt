use Rattle.std.proofs.Common.{◌≡◌, ◌++◌, length, Some, None, Option, inr, sym, ◌∙◌, ap, subst, arith}
use Rattle.std.proofs.lemmas.List.{length-append}
use Rattle.journal_base.specs.Items.{items_of}
use Rattle.chain_core.specs.declared.commitment.Commitment.{Commitment}
use Rattle.keyless_db.specs.DbView.{floor_in}
use Rattle.keyless_db.specs.Reading.{AnswersAs, IsReadable, chain_start, kept_over, kept_value, location_refusal, pending_item, read_floor}
use Rattle.keyless_db.proofs.FaultLemmas.{location_not_stale, read_not_stale}
use Rattle.keyless_db.proofs.KeptLemmas.{batch_fit, batch_unfit}
use Rattle.keyless_db.proofs.SeveralLemmas.{answers_by, fit_ok, unfit_err}
use Rattle.keyless_db.proofs.batch.UnmerkleizedBatch.get.Goals as goal

pub returns-in-Err-check_location-clause-answer : goal.returns-in-Err-check_location-clause-answer
returns-in-Err-check_location-clause-answer g c tells stands ops list held all front of parents =
    let b = c.args.self.now in
    let m = g.O.Logged.meaning in
    let l = c.args.loc in
    let longer = list ++ b.tree.items in
    let count : b.base.size ≡ length list = ap (λ (x : Commitment g.row.F.Denot g.row.H-Digest.Denot). x.size) of.base in
    let size : c.as_u64-size.result ≡ length longer = omega (arith, c.as_u64-size.ensures, c.size.ensures.size, count, length-append list b.tree.items) in
    let below = read_floor c.args.pool.now b (floor_in m c.args.db.now) in
    let why = unfit_err (Unit {0}) (location_refusal c.as_u64-size.result c.in-Ok.floor c.as_u64-location.result) c.in-Err-check_location.error c.in-Err-check_location.ensures in
    let is : location_refusal (length longer) below l ≡ Some why.0 =
    ap (λ n. location_refusal n below l) (sym size) ∙ ap (λ n. location_refusal c.as_u64-size.result n l) (sym c.in-Ok.ensures.floor)
    ∙ ap (λ n. location_refusal c.as_u64-size.result c.in-Ok.floor n) (sym c.as_u64-location.ensures) ∙ why.1 in
    inr (why.0, batch_unfit m longer (kept_over (chain_start c.args.pool.now b) c.args.db.now) l below why.0 is, why.2)

pub returns-in-Ok-check_location-clause-stale_only : goal.returns-in-Ok-check_location-clause-stale_only
returns-in-Ok-check_location-clause-stale_only g c at here =
    let db = c.args.db.now in
    let items = items_of g.O.Spelled.spelling g.O.Read.admits db.journal.items (g.V.Volume.state c.args.vol.now) in
    let l = c.as_u64-location.result in
    read_not_stale g.V.Volume.tells items db.state.size (pending_item c.args.pool.now c.args.self.now l) l c.own_value.result c.own_value.ensures.fault at

pub returns-in-Err-check_location-clause-stale_only : goal.returns-in-Err-check_location-clause-stale_only
returns-in-Err-check_location-clause-stale_only g c at here =
    location_not_stale (Unit {0}) c.in-Err-check_location.error at c.as_u64-size.result c.in-Ok.floor c.as_u64-location.result c.in-Err-check_location.ensures

pub returns-in-Ok-check_location-clause-answer : goal.returns-in-Ok-check_location-clause-answer
returns-in-Ok-check_location-clause-answer g c tells stands ops list held all front of parents =
    let b = c.args.self.now in
    let m = g.O.Logged.meaning in
    let l = c.args.loc in
    let pool = c.args.pool.now in
    let db = c.args.db.now in
    let longer = list ++ b.tree.items in
    let same : c.as_u64-location.result ≡ l = c.as_u64-location.ensures in
    let count : b.base.size ≡ length list = ap (λ (x : Commitment g.row.F.Denot g.row.H-Digest.Denot). x.size) of.base in
    let size : c.as_u64-size.result ≡ length longer = omega (arith, c.as_u64-size.ensures, c.size.ensures.size, count, length-append list b.tree.items) in
    let below = read_floor pool b (floor_in m db) in
    let kept = kept_over (chain_start pool b) db in
    let fit : location_refusal (length longer) below l ≡ None =
    ap (λ n. location_refusal n below l) (sym size) ∙ ap (λ n. location_refusal c.as_u64-size.result n l) (sym c.in-Ok.ensures.floor) ∙ ap (λ n. location_refusal c.as_u64-size.result c.in-Ok.floor n) (sym same)
    ∙ fit_ok g.row.F.Denot (location_refusal c.as_u64-size.result c.in-Ok.floor c.as_u64-location.result) tt c.in-Ok-check_location.ensures in
    let readable = subst (λ n. IsReadable (g.O.Read.admits db.journal.items.codec) ops (pending_item pool b n) n) (sym same) all in
    answers_by (λ (v : Option g.row.O-Value.Denot). v) _ _ c.own_value.result (sym (batch_fit m longer kept l below fit))
    (subst (λ n. AnswersAs (λ (v : Option g.row.O-Value.Denot). v) (kept_value m longer kept n) c.own_value.result) same (c.own_value.ensures.listed tells ops list held readable front of parents))
