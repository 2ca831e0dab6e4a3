use Rattle.std.proofs.Common.{◌≡◌, ◌<◌, ◌++◌, length, take, refl, sym, ◌∙◌, ap, subst, arith, length-append}
use Rattle.std.proofs.lemmas.List.{take-append-le, drop_all}
use Rattle.tree_shape.specs.Shape.{made}
use Rattle.tree_shape.proofs.NodeLemmas.{next_peak, peak_room}
use Rattle.tree_core.specs.KeptNodes.{entry_at, placed, AreBefore, found_at}
use Rattle.tree_core.proofs.FoundLemmas.{found_next, found_last, found_one}
use Rattle.tree_core.proofs.kept.push_peaks.Goals as goal

pub width-end-requires : goal.width-end-requires
width-end-requires g c =
    let s = g.F.Family.shape in let n = c.args.leaves in
    let lt : c.loop-i.i < length (s.heights n) = omega (arith, c.loop-i-test.true, c.peak_count-peaks.ensures) in
    let r = peak_room s (made s n) c.loop-i.end n c.loop-i.i (s.heights n) c.loop-i.invariant.within c.requires.few lt c.loop-i.invariant.stand in
    omega (arith, r.0, c.peak_height-height.ensures)

pub loop-i-init : goal.loop-i-init
loop-i-init g c =
    let s = g.F.Family.shape in let n = c.args.leaves in
    let room = c.requires.room in
    record {
      told = refl;
      front = refl;
      long = c.requires.within;
      room = omega (arith, room);
      capacity = omega arith;
      stand = g.met.F.Family.lawful.peaks n;
      within = omega arith;
    }

pub node_among-found-requires-clause-before : goal.node_among-found-requires-clause-before
node_among-found-requires-clause-before g c = subst (AreBefore c.args.first) (sym (ap (take c.args.count) c.deref.ensures.value ∙ c.loop-i.invariant.front)) c.requires.before

pub push_found-requires : goal.push_found-requires
push_found-requires g c =
    let lt : c.loop-i.i < length (g.F.Family.shape.heights c.args.leaves) = omega (arith, c.loop-i-test.true, c.peak_count-peaks.ensures) in
    let room = c.loop-i.invariant.room in
    omega (arith, lt, room, c.loop-i.pins.ok.0)

pub loop-i-preserved : goal.loop-i-preserved
loop-i-preserved g c =
    let s = g.F.Family.shape in let n = c.args.leaves in let hs = s.heights c.args.leaves in
    let i = c.loop-i.i in
    let inv = c.loop-i.invariant in
    let lt : i < length hs = omega (arith, c.loop-i-test.true, c.peak_count-peaks.ensures) in
    let r = next_peak s (made s n) c.loop-i.end i hs lt inv.stand in
    let p = c.position-position.result in
    let o = c.node_among-found.result in
    let es = c.loop-i.pins.items in
    let f = entry_at (take c.args.count c.args.pins.now.items ++ placed c.args.first c.args.nodes.now) in
    let pushed = c.push_found.ensures.pins in
    let node : o ≡ f p = c.node_among-found.ensures ∙ ap (λ xs. entry_at (xs ++ placed c.args.first c.args.nodes.now) p) (ap (take c.args.count) c.deref.ensures.value ∙ inv.front) in
    let long = ap length pushed ∙ length-append es (found_at p o) in
    let one = found_one p o in
    let count = inv.long in
    let room = inv.room in
    let first = inv.capacity in
    let within = inv.within in
    let grown = c.push_found.ensures.room in
    record {
      told = found_next s f c.loop-i.end i c.peak_height-height.result c.width-end.result p hs o es c.push_found.new.pins.items _ lt inv.told c.peak_height-height.ensures c.width-end.ensures c.position-position.ensures node pushed;
      front = ap (take c.args.count) pushed ∙ take-append-le c.args.count es (found_at p o) count ∙ inv.front;
      long = omega (arith, long, count);
      room = omega (arith, long, one, room, lt, grown);
      capacity = omega (arith, first, grown);
      stand = rw (c.width-end.ensures, c.peak_height-height.ensures) r.1;
      within = omega (arith, within);
    }

pub returns : goal.returns
returns g c =
    let s = g.F.Family.shape in let hs = s.heights c.args.leaves in
    let none = drop_all c.loop-i.i hs (omega (arith, c.loop-i-test.false, c.peak_count-peaks.ensures)) in
    record {
      pins = found_last s (entry_at (take c.args.count c.args.pins.now.items ++ placed c.args.first c.args.nodes.now)) c.loop-i.end _ c.loop-i.pins.items _ c.loop-i.invariant.told none;
      room = c.loop-i.invariant.capacity;
    }
