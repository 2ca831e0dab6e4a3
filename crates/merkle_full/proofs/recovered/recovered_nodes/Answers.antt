use Rattle.std.proofs.Common.{◌≡◌, inl, inr, ℕ, [], ◌∷◌, Some, length, length-append, refl, sym, ◌∙◌, ap, subst, arith}
use Rattle.std.proofs.lemmas.Bool.{cases_lt}
use Rattle.std.proofs.lemmas.Option.{slice_get_read, slice_get_within, same_Some}
use Rattle.std.specs.Prelude.{slice_get}
use Rattle.tree_shape.specs.Slow.{nodes}
use Rattle.tree_store.specs.Stored.{TreeStands}
use Rattle.volume_base.specs.Log.{Log}
use Rattle.volume_base.proofs.ReadLemmas.{only_read_joins}
use Rattle.journal_base.specs.View.{IsWithin}
use Rattle.merkle_full.specs.Recovering.{source_of, IsRecovered, NotRecovered, NotAllRecovered}
use Rattle.merkle_full.proofs.GrownLemmas.{err_same}
use Rattle.merkle_full.proofs.ReopenLemmas.{more_each, recovered_before, lost_before}
use Rattle.merkle_full.proofs.recovered.recovered_nodes.Goals as goal

pub loop-i-preserved : goal.loop-i-preserved
loop-i-preserved g c =
    let at = slice_get_read c.args.positions.now (length c.args.positions.now) c.loop-i.i c.index-positions-i.result refl c.loop-i-test.true c.index-positions-i.is in
    let place : c.as_u64-position.result ≡ c.index-positions-i.result = c.as_u64-position.ensures in
    let pushed = (c.in_ok-push.ensures {u = tt}).items in
    let did = c.in_ok-node.ensures {u = tt} in
    let tells = g.V.Volume.tells in
    let view = g.R.BackingRecovery.view c.args.log.now in
    let old = g.V.Volume.state c.args.vol.now in
    let new = g.V.Volume.state c.loop-i.vol in
    record {
      so_far = only_read_joins _ _ _ _ _ _ c.loop-i.invariant.so_far did.reads;
      counted = omega (arith, ap length pushed, length-append c.loop-i.found.items (c.in_ok-node.node ∷ []), c.loop-i.invariant.counted);
      list = λ told h all durable top stands.
          let log = (c.loop-i.invariant.so_far.contents told).logs view.name in
          let now = subst (λ (l : Log). TreeStands g.F.Family.shape h g.D.Spelled.spelling all durable top l c.args.map.now) (sym log) stands in
          more_each (λ p d. slice_get (nodes g.F.Family.shape h all) p ≡ Some d) c.args.positions.now c.loop-i.found.items _ c.loop-i.i c.as_u64-position.result c.in_ok-node.node c.loop-i.invariant.counted pushed (at ∙ ap Some (sym place))
          (did.list told h all durable top now) (c.loop-i.invariant.list told h all durable top stands);
      each = more_each (λ p d. IsRecovered (tells × IsWithin view old) (source_of g.D.Spelled.spelling g.D.Read.admits c.args.map.now view old) p d) c.args.positions.now c.loop-i.found.items _ c.loop-i.i c.as_u64-position.result c.in_ok-node.node
          c.loop-i.invariant.counted pushed (at ∙ ap Some (sym place)) (recovered_before tells g.D.Spelled.spelling g.D.Read.admits c.args.map.now view old new c.loop-i.invariant.so_far.contents c.as_u64-position.result c.in_ok-node.node did.node) c.loop-i.invariant.each;
      recovered = λ i p lt is. elim (cases_lt i c.loop-i.i) [
        | inl before ↦ c.loop-i.invariant.recovered i p before is
        | inr here ↦
            let same : i ≡ c.loop-i.i = omega (arith, here, lt) in
            let q : c.as_u64-position.result ≡ p = place ∙ same_Some c.index-positions-i.result p (sym at ∙ ap (slice_get c.args.positions.now) (sym same) ∙ is) in (
              c.in_ok-node.node,
              subst (λ (r : ℕ). IsRecovered (tells × IsWithin view old) (source_of g.D.Spelled.spelling g.D.Read.admits c.args.map.now view old) r c.in_ok-node.node) q
                  (recovered_before tells g.D.Spelled.spelling g.D.Read.admits c.args.map.now view old new c.loop-i.invariant.so_far.contents c.as_u64-position.result c.in_ok-node.node did.node),
            )
      ];
    }

pub returns-in_err-node-clause-refused : goal.returns-in_err-node-clause-refused
returns-in_err-node-clause-refused g c =
    let at = slice_get_read c.args.positions.now (length c.args.positions.now) c.loop-i.i c.index-positions-i.result refl c.loop-i-test.true c.index-positions-i.is in
    let tells = g.V.Volume.tells in
    let view = g.R.BackingRecovery.view c.args.log.now in
    let old = g.V.Volume.state c.args.vol.now in
    let new = g.V.Volume.state c.loop-i.vol in
    let e = c.in_err-node.field-0.0 in
    let source = source_of g.D.Spelled.spelling g.D.Read.admits c.args.map.now view old in
    let why : NotRecovered (tells × IsWithin view old) source c.as_u64-position.result e = lost_before tells g.D.Spelled.spelling g.D.Read.admits c.args.map.now view old new c.loop-i.invariant.so_far.contents c.as_u64-position.result e c.in_err-node.ensures.refused in
    err_same _ e (NotAllRecovered (tells × IsWithin view old) source c.args.positions.now) c.from_residual.ensures.1
    (inr (record { index = c.loop-i.i; position = c.as_u64-position.result; here = at ∙ ap Some (sym c.as_u64-position.ensures); before = c.loop-i.invariant.recovered; why = why }))

pub returns-clause-recovered : goal.returns-clause-recovered
returns-clause-recovered g c i p is = c.loop-i.invariant.recovered i p (let lt = slice_get_within c.args.positions.now i p is in omega (arith, lt, c.loop-i-test.false)) is
