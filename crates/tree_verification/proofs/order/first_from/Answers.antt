use Rattle.std.proofs.Common.{◌+◌, ◌-◌, ◌/◌, arith}
use Rattle.tree_verification.proofs.SeveralLemmas.{up-to, from-on}
use Rattle.tree_verification.proofs.order.first_from.Goals as goal

pub loop-low-preserved-then-as_u64-x : goal.loop-low-preserved-then-as_u64-x
loop-low-preserved-then-as_u64-x g c =
    let middle = c.loop-low.low + (c.loop-low.high - c.loop-low.low) / 2 in
    record {
      order = omega arith;
      within = c.loop-low.invariant.within;
      before = up-to c.args.locations.now c.args.x middle c.index-locations-middle.result c.requires (omega (arith, c.loop-low.invariant.within)) c.index-locations-middle.is (omega (arith, c.as_u64.ensures, c.if-as_u64-x.true));
      since = c.loop-low.invariant.since;
    }

pub loop-low-preserved : goal.loop-low-preserved
loop-low-preserved g c =
    let middle = c.loop-low.low + (c.loop-low.high - c.loop-low.low) / 2 in
    record {
      order = omega arith;
      within = omega (arith, c.loop-low.invariant.within);
      before = c.loop-low.invariant.before;
      since = from-on c.args.locations.now c.args.x middle c.index-locations-middle.result c.requires (omega (arith, c.loop-low.invariant.within)) c.index-locations-middle.is (omega (arith, c.as_u64.ensures, c.if-as_u64-x.false));
    }
