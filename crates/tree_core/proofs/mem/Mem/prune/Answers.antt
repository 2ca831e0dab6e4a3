use Rattle.std.proofs.Common.{◌≡◌, ◌≤◌, ◌+◌, ◌-◌, ◌++◌, length, drop, refl, sym, ◌∙◌, ap, subst, arith, length-append, length-drop}
use Rattle.tree_shape.specs.Shape.{made}
use Rattle.tree_shape.proofs.NeededLemmas.{made_le}
use Rattle.tree_core.specs.Pruned.{pruned}
use Rattle.tree_core.specs.KeptNodes.{entry_at, placed, AreBefore, peaks_found}
use Rattle.tree_core.specs.Tree.{Tree, IsOf, IsPrunedTo, stored_tree}
use Rattle.tree_core.proofs.PrunedLemmas.{pruned_again, pruned_tree}
use Rattle.tree_core.proofs.KeptNodesLemmas.{whole_before}
use Rattle.tree_core.proofs.FoundLemmas.{found_few, repinned, pruned_at, pruned_before}
use Rattle.tree_core.proofs.mem.Mem.prune.Goals as goal

pub overflow_sub-gone : goal.overflow_sub-gone
overflow_sub-gone g c =
    let s = g.F.Family.shape in
    let m = c.as_u64-boundary.result in
    let pins = c.self.inside.pins.items in
    let run = c.self.inside.nodes.items in
    let first = length (made s c.self.inside.boundary) in
    let f = entry_at (pins ++ placed first run) in
    let within : m ≤ c.self.inside.leaves = omega (arith, c.as_u64-2.ensures, c.as_u64-boundary.ensures, c.if-as_u64-leaves.false) in
    let above : c.self.inside.boundary ≤ m = omega (arith, c.as_u64-3.ensures, c.as_u64-boundary.ensures, c.if-as_u64-self.false) in
    let low = made_le s c.self.inside.boundary m above in
    omega (arith, low, c.size.ensures, c.size-first.ensures)

pub push_peaks-requires-clause-within : goal.push_peaks-requires-clause-within
push_peaks-requires-clause-within g c = omega (arith, c.len-count.ensures, c.self.inside.pins.ok.0)

pub push_peaks-requires-clause-before : goal.push_peaks-requires-clause-before
push_peaks-requires-clause-before g c =
    let pins = c.self.inside.pins.items in
    whole_before pins pins (length (made g.F.Family.shape c.self.inside.boundary)) c.size-first.result c.len-count.result refl (omega (arith, c.len-count.ensures, c.self.inside.pins.ok.0)) c.size-first.ensures c.self.invariant.before

pub push_peaks-requires-clause-room : goal.push_peaks-requires-clause-room
push_peaks-requires-clause-room g c =
    let s = g.F.Family.shape in
    let m = c.as_u64-boundary.result in
    let pins = c.self.inside.pins.items in
    let run = c.self.inside.nodes.items in
    let first = length (made s c.self.inside.boundary) in
    let f = entry_at (pins ++ placed first run) in
    let within : m ≤ c.self.inside.leaves = omega (arith, c.as_u64-2.ensures, c.as_u64-boundary.ensures, c.if-as_u64-leaves.false) in
    let above : c.self.inside.boundary ≤ m = omega (arith, c.as_u64-3.ensures, c.as_u64-boundary.ensures, c.if-as_u64-self.false) in
    let few = g.met.F.Family.few_peaks m (omega (arith, within, c.self.invariant.sound.few)) in
    let room = c.self.invariant.room.0 in
    omega (arith, few, room)

pub drop_front-requires : goal.drop_front-requires
drop_front-requires g c =
    let pushed = ap length c.push_peaks.ensures.pins ∙ length-append c.self.inside.pins.items _ in
    omega (arith, pushed, c.len-count.ensures, c.self.inside.pins.ok.0)

pub drop_front-requires-2 : goal.drop_front-requires-2
drop_front-requires-2 g c =
    let s = g.F.Family.shape in
    let m = c.as_u64-boundary.result in
    let pins = c.self.inside.pins.items in
    let run = c.self.inside.nodes.items in
    let first = length (made s c.self.inside.boundary) in
    let f = entry_at (pins ++ placed first run) in
    let within : m ≤ c.self.inside.leaves = omega (arith, c.as_u64-2.ensures, c.as_u64-boundary.ensures, c.if-as_u64-leaves.false) in
    let above : c.self.inside.boundary ≤ m = omega (arith, c.as_u64-3.ensures, c.as_u64-boundary.ensures, c.if-as_u64-self.false) in
    let low = made_le s c.self.inside.boundary m above in
    let high = made_le s m c.self.inside.leaves within in
    omega (arith, low, high, c.size.ensures, c.size-first.ensures, c.self.invariant.ended)

pub invariant_of-self : goal.invariant_of-self
invariant_of-self g c =
    let s = g.F.Family.shape in
    let m = c.as_u64-boundary.result in
    let pins = c.self.inside.pins.items in
    let run = c.self.inside.nodes.items in
    let first = length (made s c.self.inside.boundary) in
    let f = entry_at (pins ++ placed first run) in
    let within : m ≤ c.self.inside.leaves = omega (arith, c.as_u64-2.ensures, c.as_u64-boundary.ensures, c.if-as_u64-leaves.false) in
    let above : c.self.inside.boundary ≤ m = omega (arith, c.as_u64-3.ensures, c.as_u64-boundary.ensures, c.if-as_u64-self.false) in
    let count : c.len-count.result ≡ length pins = omega (arith, c.len-count.ensures, c.self.inside.pins.ok.0) in
    let low = made_le s c.self.inside.boundary m above in
    let gone = c.size.result - c.size-first.result in
    let sum : first + gone ≡ length (made s m) = omega (arith, low, c.size.ensures, c.size-first.ensures) in
    let table : c.drop_front.new.items.items ≡ peaks_found s f m (s.heights m) = repinned s pins run c.deref.result.now first c.size-first.result c.len-count.result m c.push_peaks.new.pins.items c.drop_front.new.items.items c.deref.ensures.value c.size-first.ensures count c.push_peaks.ensures.pins c.drop_front.ensures.items in
    let left : c.drop_front-2.new.items.items ≡ drop gone run = c.drop_front-2.ensures.items in
    let at = pruned_at s m first gone pins c.drop_front.new.items.items run c.drop_front-2.new.items.items g.met.F.Family.lawful c.self.invariant.before sum table left in
    let few = g.met.F.Family.few_peaks m (omega (arith, within, c.self.invariant.sound.few)) in
    let short = ap length table in
    let found = found_few s f m (s.heights m) in
    let room = c.self.invariant.room.1 in
    let grown = c.push_peaks.ensures.room in
    let same = c.drop_front.ensures.room in
    let long = ap length left ∙ length-drop gone run in
    let high = made_le s m c.self.inside.leaves within in
    record {
      sound = record {
        few = c.self.invariant.sound.few;
        within = within;
        held = pruned_again s c.self.inside.leaves c.self.inside.boundary m f (entry_at (c.drop_front.new.items.items ++ placed (length (made s m)) c.drop_front-2.new.items.items)) g.met.F.Family.lawful g.met.F.Family.keeps c.self.invariant.sound.held above within at;
      };
      before = subst (AreBefore (length (made s m))) (sym table) (pruned_before s f m g.met.F.Family.lawful);
      room = (omega (arith, few, short, found, room, grown, same), omega (arith, room, grown, same));
      ended = omega (arith, long, high, sum, c.self.invariant.ended);
    }

pub returns-clause-above : goal.returns-clause-above
returns-clause-above g c lt =
    let s = g.F.Family.shape in
    let m = c.as_u64-boundary.result in
    let pins = c.self.inside.pins.items in
    let run = c.self.inside.nodes.items in
    let first = length (made s c.self.inside.boundary) in
    let f = entry_at (pins ++ placed first run) in
    let within : m ≤ c.self.inside.leaves = omega (arith, c.as_u64-2.ensures, c.as_u64-boundary.ensures, c.if-as_u64-leaves.false) in
    let above : c.self.inside.boundary ≤ m = omega (arith, c.as_u64-3.ensures, c.as_u64-boundary.ensures, c.if-as_u64-self.false) in
    let count : c.len-count.result ≡ length pins = omega (arith, c.len-count.ensures, c.self.inside.pins.ok.0) in
    let low = made_le s c.self.inside.boundary m above in
    let gone = c.size.result - c.size-first.result in
    let sum : first + gone ≡ length (made s m) = omega (arith, low, c.size.ensures, c.size-first.ensures) in
    let table : c.drop_front.new.items.items ≡ peaks_found s f m (s.heights m) = repinned s pins run c.deref.result.now first c.size-first.result c.len-count.result m c.push_peaks.new.pins.items c.drop_front.new.items.items c.deref.ensures.value c.size-first.ensures count c.push_peaks.ensures.pins c.drop_front.ensures.items in
    let left : c.drop_front-2.new.items.items ≡ drop gone run = c.drop_front-2.ensures.items in
    let at = pruned_at s m first gone pins c.drop_front.new.items.items run c.drop_front-2.new.items.items g.met.F.Family.lawful c.self.invariant.before sum table left in
    subst (λ (t : Tree g.row.D.Denot). IsPrunedTo s c.args.loc t (stored_tree s c.self.inside.leaves m c.drop_front.new.items.items c.drop_front-2.new.items.items)) c.self.view_is (record {
      leaves = refl;
      boundary = c.as_u64-boundary.ensures;
      nodes = λ p. at p ∙ ap (λ k. pruned s k f p) c.as_u64-boundary.ensures;
    })

pub returns-clause-tree : goal.returns-clause-tree
returns-clause-tree g c h all of =
    let s = g.F.Family.shape in
    let m = c.as_u64-boundary.result in
    let pins = c.self.inside.pins.items in
    let run = c.self.inside.nodes.items in
    let first = length (made s c.self.inside.boundary) in
    let f = entry_at (pins ++ placed first run) in
    let within : m ≤ c.self.inside.leaves = omega (arith, c.as_u64-2.ensures, c.as_u64-boundary.ensures, c.if-as_u64-leaves.false) in
    let above : c.self.inside.boundary ≤ m = omega (arith, c.as_u64-3.ensures, c.as_u64-boundary.ensures, c.if-as_u64-self.false) in
    let count : c.len-count.result ≡ length pins = omega (arith, c.len-count.ensures, c.self.inside.pins.ok.0) in
    let low = made_le s c.self.inside.boundary m above in
    let gone = c.size.result - c.size-first.result in
    let sum : first + gone ≡ length (made s m) = omega (arith, low, c.size.ensures, c.size-first.ensures) in
    let table : c.drop_front.new.items.items ≡ peaks_found s f m (s.heights m) = repinned s pins run c.deref.result.now first c.size-first.result c.len-count.result m c.push_peaks.new.pins.items c.drop_front.new.items.items c.deref.ensures.value c.size-first.ensures count c.push_peaks.ensures.pins c.drop_front.ensures.items in
    let left : c.drop_front-2.new.items.items ≡ drop gone run = c.drop_front-2.ensures.items in
    let at = pruned_at s m first gone pins c.drop_front.new.items.items run c.drop_front-2.new.items.items g.met.F.Family.lawful c.self.invariant.before sum table left in
    let before : IsOf s h all (stored_tree s c.self.inside.leaves c.self.inside.boundary pins run) = subst (λ (t : Tree g.row.D.Denot). IsOf s h all t) (sym c.self.view_is) of in
    pruned_tree s h all c.self.inside.leaves m f (entry_at (c.drop_front.new.items.items ++ placed (length (made s m)) c.drop_front-2.new.items.items)) at before
