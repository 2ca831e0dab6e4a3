use Rattle.std.proofs.Common.{length, Some, refl, sym, ◌∙◌, ap, arith}
use Rattle.std.proofs.lemmas.Option.{slice_get_within, slice_get_read}
use Rattle.merkle_full.proofs.RepinLemmas.{more_among, more_all}
use Rattle.merkle_full.proofs.repin.pin_map.Goals as goal

pub loop-i-preserved : goal.loop-i-preserved
loop-i-preserved g c =
    let puts = (c.in_ok-insert.ensures {u = tt}).updates.0 in
    let place = c.new.ensures ∙ c.as_u64.ensures in
    let at = slice_get_read c.args.positions.now (length c.args.positions.now) c.loop-i.i c.index-positions-i.result refl c.loop-i-test.true c.index-positions-i.is in
    let v = slice_get_read c.args.digests.now (length c.args.positions.now) c.loop-i.i c.index-digests-i.result c.requires c.loop-i-test.true c.index-digests-i.is in
    record {
      among = more_among c.args.positions.now c.args.digests.now c.loop-i.i c.new.result c.index-digests-i.result _ _ puts (at ∙ ap Some (sym place)) v c.loop-i.invariant.among;
      all = more_all c.args.positions.now c.loop-i.i c.new.result c.index-digests-i.result _ _ puts (at ∙ ap Some (sym place)) c.loop-i.invariant.all;
    }

pub returns-clause-all : goal.returns-clause-all
returns-clause-all g c i p is = c.loop-i.invariant.all i p (let lt = slice_get_within c.args.positions.now i p is in let f = c.loop-i-test.false in omega (arith, lt, f)) is
