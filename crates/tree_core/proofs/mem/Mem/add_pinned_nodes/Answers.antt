use Rattle.std.proofs.Common.{◌≡◌, ◌<◌, ◌++◌, ℕ, length, Some, refl, sym, ◌∙◌, ap, subst, append_assoc}
use Rattle.std.specs.Prelude.{filter}
use Rattle.std.specs.BTreeMap.{get}
use Rattle.std.specs.Ordering.{nat_cmp}
use Rattle.tree_shape.specs.Shape.{made}
use Rattle.tree_core.specs.KeptNodes.{entry_at, placed, AreBefore}
use Rattle.tree_core.specs.Tree.{Tree, IsOf, IsPinned, stored_tree}
use Rattle.tree_core.proofs.PinningLemmas.{is_free, pinned_table, joined_pinned, free_before, pinned_pruned, pinned_tree}
use Rattle.tree_core.proofs.KeptNodesLemmas.{before_joined}
use Rattle.tree_core.proofs.mem.Mem.add_pinned_nodes.Goals as goal

pub with_pins-requires : goal.with_pins-requires
with_pins-requires g c =
    let first = length (made g.F.Family.shape c.self.inside.boundary) in
    subst (λ n. AreBefore n c.deref.result.now) (sym c.size-first.ensures) (subst (AreBefore first) (sym c.deref.ensures.value) c.self.invariant.before)

pub invariant_of-self : goal.invariant_of-self
invariant_of-self g c =
    let s = g.F.Family.shape in
    let es = c.self.inside.pins.items in
    let run = c.self.inside.nodes.items in
    let first = length (made s c.self.inside.boundary) in
    let old = es ++ placed first run in
    let fs = c.in_ok-table.table.items in
    let pins = c.args.pins.entries in
    let joined : fs ≡ filter (is_free old) pins ++ es = pinned_table pins es fs run c.deref.result.now c.deref-2.result.now first c.size-first.result c.deref.ensures.value c.deref-2.ensures.value c.size-first.ensures c.in_ok-table.ensures.pins in
    let whole : fs ++ placed first run ≡ filter (is_free old) pins ++ old = ap (λ xs. xs ++ placed first run) joined ∙ append_assoc (filter (is_free old) pins) es (placed first run) in
    let n : c.args.self.now.leaves ≡ c.self.inside.leaves = sym (ap (λ (t : Tree g.row.D.Denot). t.leaves) c.self.view_is) in
    let low = λ (p : ℕ) (d : g.row.D.Denot) (is : entry_at pins p ≡ Some d). subst (λ (m : ℕ). p < length (made s m)) n (c.requires p d is) in
    let free = free_before old first (length (made s c.self.inside.leaves)) pins c.self.invariant.sound.held.since low in
    record {
      sound = record {
        few = c.self.invariant.sound.few;
        within = c.self.invariant.sound.within;
        held = pinned_pruned s c.self.inside.leaves c.self.inside.boundary (entry_at old) (entry_at (fs ++ placed first run)) (entry_at pins) c.self.invariant.sound.held (joined_pinned old pins (fs ++ placed first run) whole) low;
      };
      before = subst (AreBefore first) (sym joined) (before_joined (filter (is_free old) pins) es first free c.self.invariant.before);
      room = c.in_ok-table.ensures.room;
      ended = c.self.invariant.ended;
    }

pub returns-clause-ok : goal.returns-clause-ok
returns-clause-ok g c =
    let s = g.F.Family.shape in
    let es = c.self.inside.pins.items in
    let run = c.self.inside.nodes.items in
    let first = length (made s c.self.inside.boundary) in
    let old = es ++ placed first run in
    let fs = c.in_ok-table.table.items in
    let pins = c.args.pins.entries in
    let joined : fs ≡ filter (is_free old) pins ++ es = pinned_table pins es fs run c.deref.result.now c.deref-2.result.now first c.size-first.result c.deref.ensures.value c.deref-2.ensures.value c.size-first.ensures c.in_ok-table.ensures.pins in
    let whole : fs ++ placed first run ≡ filter (is_free old) pins ++ old = ap (λ xs. xs ++ placed first run) joined ∙ append_assoc (filter (is_free old) pins) es (placed first run) in
    subst (λ (t : Tree g.row.D.Denot). IsPinned (get nat_cmp c.args.pins) t (stored_tree s c.self.inside.leaves c.self.inside.boundary fs run)) c.self.view_is (record {
      leaves = refl;
      boundary = refl;
      nodes = joined_pinned old pins (fs ++ placed first run) whole;
    })

pub returns-clause-tree : goal.returns-clause-tree
returns-clause-tree g c h all of right =
    let s = g.F.Family.shape in
    let es = c.self.inside.pins.items in
    let run = c.self.inside.nodes.items in
    let first = length (made s c.self.inside.boundary) in
    let old = es ++ placed first run in
    let fs = c.in_ok-table.table.items in
    let pins = c.args.pins.entries in
    let joined : fs ≡ filter (is_free old) pins ++ es = pinned_table pins es fs run c.deref.result.now c.deref-2.result.now first c.size-first.result c.deref.ensures.value c.deref-2.ensures.value c.size-first.ensures c.in_ok-table.ensures.pins in
    let whole : fs ++ placed first run ≡ filter (is_free old) pins ++ old = ap (λ xs. xs ++ placed first run) joined ∙ append_assoc (filter (is_free old) pins) es (placed first run) in
    let before : IsOf s h all (stored_tree s c.self.inside.leaves c.self.inside.boundary es run) = subst (λ (t : Tree g.row.D.Denot). IsOf s h all t) (sym c.self.view_is) of in
    pinned_tree s h all c.self.inside.leaves (entry_at old) (entry_at (fs ++ placed first run)) (get nat_cmp c.args.pins) (joined_pinned old pins (fs ++ placed first run) whole) right before
