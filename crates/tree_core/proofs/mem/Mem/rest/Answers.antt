use Rattle.std.proofs.Common.{◌≡◌, ◌≤◌, ◌++◌, length, take, refl, sym, ◌∙◌, ap, subst, arith, cond, None, length-append}
use Rattle.std.proofs.lemmas.List.{take-append-le}
use Rattle.tree_shape.specs.Shape.{made}
use Rattle.tree_core.specs.KeptNodes.{entry_at, placed, AreBefore, peaks_found}
use Rattle.tree_core.specs.Tree.{Tree, IsOf, IsRested, rests, stored_tree}
use Rattle.tree_core.proofs.KeptNodesLemmas.{whole_before}
use Rattle.tree_core.proofs.FoundLemmas.{found_few, rerested, rested_at, rested_before}
use Rattle.tree_core.proofs.RestLemmas.{rested_pruned, rested_tree}
use Rattle.tree_core.proofs.mem.Mem.rest.Goals as goal

pub push_peaks-requires-clause-within : goal.push_peaks-requires-clause-within
push_peaks-requires-clause-within g c = omega (arith, c.len-count.ensures, c.self.inside.pins.ok.0)

pub push_peaks-requires-clause-before : goal.push_peaks-requires-clause-before
push_peaks-requires-clause-before g c =
    let pins = c.self.inside.pins.items in
    whole_before pins pins (length (made g.F.Family.shape c.self.inside.boundary)) c.size-first.result c.len-count.result refl (omega (arith, c.len-count.ensures, c.self.inside.pins.ok.0)) c.size-first.ensures c.self.invariant.before

pub push_peaks-requires-clause-room : goal.push_peaks-requires-clause-room
push_peaks-requires-clause-room g c =
    let few = g.met.F.Family.few_peaks c.self.inside.leaves c.self.invariant.sound.few in
    let room = c.self.invariant.room.0 in
    omega (arith, few, room)

pub push_peaks-requires-2-clause-within : goal.push_peaks-requires-2-clause-within
push_peaks-requires-2-clause-within g c =
    let pushed = ap length c.push_peaks.ensures.pins ∙ length-append c.self.inside.pins.items _ in
    omega (arith, pushed, c.len-count.ensures, c.self.inside.pins.ok.0)

pub push_peaks-requires-2-clause-before : goal.push_peaks-requires-2-clause-before
push_peaks-requires-2-clause-before g c =
    let pins = c.self.inside.pins.items in
    let count : c.len-count.result ≤ length pins = omega (arith, c.len-count.ensures, c.self.inside.pins.ok.0) in
    let front : take c.len-count.result c.push_peaks.new.pins.items ≡ take c.len-count.result pins = ap (take c.len-count.result) c.push_peaks.ensures.pins ∙ take-append-le c.len-count.result pins _ count in
    subst (AreBefore c.size-first.result) (sym front) (whole_before pins pins (length (made g.F.Family.shape c.self.inside.boundary)) c.size-first.result c.len-count.result refl (omega (arith, c.len-count.ensures, c.self.inside.pins.ok.0)) c.size-first.ensures c.self.invariant.before)

pub push_peaks-requires-2-clause-room : goal.push_peaks-requires-2-clause-room
push_peaks-requires-2-clause-room g c =
    let s = g.F.Family.shape in
    let few = g.met.F.Family.few_peaks c.self.inside.leaves c.self.invariant.sound.few in
    let others = g.met.F.Family.few_peaks c.as_u64-kept.result (omega (arith, c.requires, c.as_u64-kept.ensures)) in
    let pushed = ap length c.push_peaks.ensures.pins ∙ length-append c.self.inside.pins.items _ in
    let found = found_few s (entry_at (take c.len-count.result c.self.inside.pins.items ++ placed c.size-first.result c.deref.result.now)) c.self.inside.leaves (s.heights c.self.inside.leaves) in
    let room = c.self.invariant.room.0 in
    let grown = c.push_peaks.ensures.room in
    omega (arith, few, others, pushed, found, room, grown)

pub drop_front-requires : goal.drop_front-requires
drop_front-requires g c =
    let pushed = ap length c.push_peaks.ensures.pins ∙ length-append c.self.inside.pins.items _ in
    let further = ap length c.push_peaks-2.ensures.pins ∙ length-append c.push_peaks.new.pins.items _ in
    omega (arith, pushed, further, c.len-count.ensures, c.self.inside.pins.ok.0)

pub invariant_of-self : goal.invariant_of-self
invariant_of-self g c =
    let s = g.F.Family.shape in
    let n = c.self.inside.leaves in
    let b = c.as_u64-kept.result in
    let pins = c.self.inside.pins.items in
    let run = c.self.inside.nodes.items in
    let first = length (made s c.self.inside.boundary) in
    let f = entry_at (pins ++ placed first run) in
    let count : c.len-count.result ≡ length pins = omega (arith, c.len-count.ensures, c.self.inside.pins.ok.0) in
    let table : c.drop_front.new.items.items ≡ peaks_found s f n (s.heights n) ++ peaks_found s f b (s.heights b) = rerested s pins run c.deref.result.now c.deref-2.result.now first c.size-first.result c.len-count.result n b c.push_peaks.new.pins.items c.push_peaks-2.new.pins.items c.drop_front.new.items.items c.deref.ensures.value c.deref-2.ensures.value c.size-first.ensures count c.push_peaks.ensures.pins c.push_peaks-2.ensures.pins c.drop_front.ensures.items in
    let none = c.clear.ensures.items in
    let last = c.drop_front.new.items.items in
    let tail = c.clear.new.self.items in
    let at = rested_at s n b (length (made s n)) f last tail table none in
    let few = g.met.F.Family.few_peaks n c.self.invariant.sound.few in
    let others = g.met.F.Family.few_peaks b (omega (arith, c.requires, c.as_u64-kept.ensures)) in
    let short = ap length table ∙ length-append (peaks_found s f n (s.heights n)) (peaks_found s f b (s.heights b)) in
    let found = found_few s f n (s.heights n) in
    let beside = found_few s f b (s.heights b) in
    let room = c.self.invariant.room.1 in
    let grown = c.push_peaks.ensures.room in
    let further = c.push_peaks-2.ensures.room in
    let same = c.drop_front.ensures.room in
    let long = ap length none in
    record {
      sound = record {
        few = c.self.invariant.sound.few;
        within = omega arith;
        held = rested_pruned s n c.self.inside.boundary b f (entry_at (last ++ placed (length (made s n)) tail)) g.met.F.Family.lawful g.met.F.Family.keeps c.self.invariant.sound.held c.self.invariant.sound.within at;
      };
      before = subst (AreBefore (length (made s n))) (sym table) (rested_before s n b (length (made s n)) f c.self.invariant.sound.held.ended);
      room = (omega (arith, few, others, short, found, beside, room, grown, further, same), omega (arith, room, grown, further, same));
      ended = omega (arith, long);
    }

pub returns-clause-rested : goal.returns-clause-rested
returns-clause-rested g c =
    let s = g.F.Family.shape in
    let n = c.self.inside.leaves in
    let b = c.as_u64-kept.result in
    let pins = c.self.inside.pins.items in
    let run = c.self.inside.nodes.items in
    let first = length (made s c.self.inside.boundary) in
    let f = entry_at (pins ++ placed first run) in
    let count : c.len-count.result ≡ length pins = omega (arith, c.len-count.ensures, c.self.inside.pins.ok.0) in
    let table : c.drop_front.new.items.items ≡ peaks_found s f n (s.heights n) ++ peaks_found s f b (s.heights b) = rerested s pins run c.deref.result.now c.deref-2.result.now first c.size-first.result c.len-count.result n b c.push_peaks.new.pins.items c.push_peaks-2.new.pins.items c.drop_front.new.items.items c.deref.ensures.value c.deref-2.ensures.value c.size-first.ensures count c.push_peaks.ensures.pins c.push_peaks-2.ensures.pins c.drop_front.ensures.items in
    let none = c.clear.ensures.items in
    let last = c.drop_front.new.items.items in
    let tail = c.clear.new.self.items in
    let at = rested_at s n b (length (made s n)) f last tail table none in
    subst (λ (t : Tree g.row.D.Denot). IsRested s c.args.boundary t (stored_tree s n n last tail)) c.self.view_is (record {
      leaves = refl;
      boundary = refl;
      nodes = λ p. at p ∙ ap (λ k. cond (rests s n k p) (f p) None) c.as_u64-kept.ensures;
    })

pub returns-clause-tree : goal.returns-clause-tree
returns-clause-tree g c h all of =
    let s = g.F.Family.shape in
    let n = c.self.inside.leaves in
    let b = c.as_u64-kept.result in
    let pins = c.self.inside.pins.items in
    let run = c.self.inside.nodes.items in
    let first = length (made s c.self.inside.boundary) in
    let f = entry_at (pins ++ placed first run) in
    let count : c.len-count.result ≡ length pins = omega (arith, c.len-count.ensures, c.self.inside.pins.ok.0) in
    let table : c.drop_front.new.items.items ≡ peaks_found s f n (s.heights n) ++ peaks_found s f b (s.heights b) = rerested s pins run c.deref.result.now c.deref-2.result.now first c.size-first.result c.len-count.result n b c.push_peaks.new.pins.items c.push_peaks-2.new.pins.items c.drop_front.new.items.items c.deref.ensures.value c.deref-2.ensures.value c.size-first.ensures count c.push_peaks.ensures.pins c.push_peaks-2.ensures.pins c.drop_front.ensures.items in
    let none = c.clear.ensures.items in
    let last = c.drop_front.new.items.items in
    let tail = c.clear.new.self.items in
    let at = rested_at s n b (length (made s n)) f last tail table none in
    let before : IsOf s h all (stored_tree s n c.self.inside.boundary pins run) = subst (λ (t : Tree g.row.D.Denot). IsOf s h all t) (sym c.self.view_is) of in
    rested_tree s h all n (rests s n b) f (entry_at (last ++ placed (length (made s n)) tail)) at before

pub returns-clause-sound : goal.returns-clause-sound
returns-clause-sound g c = let stored = invariant_of-self g c in stored.sound
