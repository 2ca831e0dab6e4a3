use Rattle.std.proofs.Common.{◌≡◌, ◌<◌, length, None, Option, refl, sym, ◌∙◌, ap, subst}
use Rattle.std.specs.Prelude.{IfErr, IfOk}
use Rattle.journal_base.specs.Items.{items_of}
use Rattle.auth_journal.specs.Kept.{kept_item}
use Rattle.chain_core.specs.declared.commitment.Commitment.{Commitment}
use Rattle.keyless_db.specs.Batches.{MerkleizedView}
use Rattle.keyless_db.specs.Reading.{AnswersAs, IsChainFault, IsReadable, IsReadBelow, kept_over, kept_value, location_refusal}
use Rattle.keyless_db.proofs.FaultLemmas.{location_not_stale, read_not_stale}
use Rattle.keyless_db.proofs.KeptLemmas.{batch_fit, fit_below, chain_here}
use Rattle.keyless_db.proofs.SeveralLemmas.{answers_by, fit_ok}
use Rattle.keyless_db.proofs.batch.MerkleizedBatch.get.Goals as goal

pub returns-in-Ok-check_location-clause-answer : goal.returns-in-Ok-check_location-clause-answer
returns-in-Ok-check_location-clause-answer g c tells chain ops list held all front of =
    let b = c.args.self.now in
    let l = c.args.loc in
    let kept = kept_over b.tree.nodes.first c.args.db.now in
    let same : c.as_u64-location.result ≡ l = c.as_u64-location.ensures in
    let size : c.as_u64-size.result ≡ length list = c.as_u64-size.ensures ∙ ap (λ (x : MerkleizedView g.row.F.Denot g.row.D.Denot g.row.O.Denot). x.bounds.tip.size) c.self.view_is
    ∙ ap (λ (x : Commitment g.row.F.Denot g.row.D.Denot). x.size) of.batch.bounds.tip in
    let floor : c.as_u64-floor.result ≡ b.bounds.inactivity_floor =
    c.as_u64-floor.ensures ∙ ap (λ (x : MerkleizedView g.row.F.Denot g.row.D.Denot g.row.O.Denot). x.bounds.inactivity_floor) c.self.view_is in
    let fit : location_refusal (length list) b.bounds.inactivity_floor l ≡ None =
    ap (λ n. location_refusal n b.bounds.inactivity_floor l) (sym size) ∙ ap (λ n. location_refusal c.as_u64-size.result n l) (sym floor) ∙ ap (λ n. location_refusal c.as_u64-size.result c.as_u64-floor.result n) (sym same)
    ∙ fit_ok g.row.F.Denot (location_refusal c.as_u64-size.result c.as_u64-floor.result c.as_u64-location.result) tt c.in-Ok-check_location.ensures in
    let readable = subst (λ n. IsReadable (g.O.Read.admits c.args.db.now.journal.items.codec) ops (kept_item b.tree n) n) (sym same) all in
    let within : c.as_u64-location.result < length list = subst (λ n. n < length list) (sym same) (fit_below (length list) b.bounds.inactivity_floor l fit) in
    answers_by (λ (v : Option g.row.O-Value.Denot). v) _ _ c.chain_value.result (sym (batch_fit g.O.Logged.meaning list kept l b.bounds.inactivity_floor fit))
    (subst (λ n. AnswersAs (λ (v : Option g.row.O-Value.Denot). v) (kept_value g.O.Logged.meaning list kept n) c.chain_value.result) same (c.chain_value.ensures.listed tells ops list held readable front of.tree within))

pub returns-in-Err-check_location-clause-stale : goal.returns-in-Err-check_location-clause-stale
returns-in-Err-check_location-clause-stale g c off =
    absurd (off (chain_here c.self.view_is c.commitment.ensures (c.in-Ok.ensures.in_chain.0 refl)))

pub returns-in-Ok-check_location-clause-chain : goal.returns-in-Ok-check_location-clause-chain
returns-in-Ok-check_location-clause-chain g c op here fit at =
    c.chain_value.ensures.chain op (ap (λ n. kept_item c.args.self.now.tree n) c.as_u64-location.ensures ∙ at)

pub returns-in-Ok-check_location-clause-fault : goal.returns-in-Ok-check_location-clause-fault
returns-in-Ok-check_location-clause-fault g c here fit =
    let db = c.args.db.now in
    let tree = c.args.self.now.tree in
    let items = items_of g.O.Spelled.spelling g.O.Read.admits db.journal.items (g.V.Volume.state c.args.vol.now) in
    subst (λ n. IfErr c.chain_value.result (IsChainFault g.V.Volume.tells items db.state.size (kept_item tree n) n)) c.as_u64-location.ensures c.chain_value.ensures.fault

pub returns-in-Ok-check_location-clause-stale_only : goal.returns-in-Ok-check_location-clause-stale_only
returns-in-Ok-check_location-clause-stale_only g c at here =
    let db = c.args.db.now in
    let items = items_of g.O.Spelled.spelling g.O.Read.admits db.journal.items (g.V.Volume.state c.args.vol.now) in
    let l = c.as_u64-location.result in
    read_not_stale g.V.Volume.tells items db.state.size (kept_item c.args.self.now.tree l) l c.chain_value.result c.chain_value.ensures.fault at

pub returns-in-Err-check_location-clause-stale_only : goal.returns-in-Err-check_location-clause-stale_only
returns-in-Err-check_location-clause-stale_only g c at here =
    location_not_stale (Unit {0}) c.in-Err-check_location.error at c.as_u64-size.result c.as_u64-floor.result c.as_u64-location.result c.in-Err-check_location.ensures

pub returns-in-Err-clause-stale_only : goal.returns-in-Err-clause-stale_only
returns-in-Err-clause-stale_only g c at here =
    let there = c.in-Err.ensures.in_chain.1 (chain_here (sym c.self.view_is) (sym c.commitment.ensures) here) in
    cc

pub returns-in-Ok-check_location-clause-told : goal.returns-in-Ok-check_location-clause-told
returns-in-Ok-check_location-clause-told g c =
    let db = c.args.db.now in
    let tree = c.args.self.now.tree in
    let items = items_of g.O.Spelled.spelling g.O.Read.admits db.journal.items (g.V.Volume.state c.args.vol.now) in
    subst (λ n. IfOk c.chain_value.result (λ v. IsReadBelow g.O.Logged.meaning g.V.Volume.tells items db.state.size (kept_item tree n) n v)) c.as_u64-location.ensures c.chain_value.ensures.told
