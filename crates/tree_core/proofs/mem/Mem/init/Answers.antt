use Rattle.std.proofs.Common.{rules, ◌≤◌, ℕ, ◌+◌, ◌++◌, List, length, refl, sym, subst}
use Rattle.tree_shape.specs.Shape.{made}
use Rattle.tree_shape.specs.Sizes.{HasSize}
use Rattle.tree_core.specs.Pruned.{Extends}
use Rattle.tree_core.specs.Reading.{ArePeaks}
use Rattle.tree_core.specs.KeptNodes.{entry_at, placed}
use Rattle.tree_core.specs.Tree.{Tree, IsBuilt}
use Rattle.tree_core.proofs.PinnedLemmas.{pins_below}
use Rattle.tree_core.proofs.BuiltLemmas.{built_pruned, sizes_apart, is_built, built_tree}
use Rattle.tree_core.proofs.KeptNodesLemmas.{extends_placed}
use Rattle.tree_core.proofs.mem.Mem.init.Goals as goal

pub invariant_of-result : goal.invariant_of-result
invariant_of-result g c =
    let s = g.F.Family.shape in
    let b = c.as_u64-loc.result in
    let n = c.in_ok-leaves.leaves in
    let size : HasSize s n (length (made s b) + length c.args.nodes.items) = subst (λ (m : ℕ). HasSize s n (length (made s b) + m)) (search rules) c.in_ok-leaves.ensures.found in
    let es = c.in_ok-pins.pins.items in
    let pins : ArePeaks s b (λ x k. entry_at es (s.position x k)) c.args.pinned.items = subst (λ (ds : List g.row.D.Denot). ArePeaks s b (λ x k. entry_at es (s.position x k)) ds) c.deref.ensures.value c.in_ok-pins.ensures.pins in
    let fs = es ++ placed (length (made s b)) c.args.nodes.items in
    let none = λ (p : ℕ) (le : length (made s b) ≤ p). c.in_ok-pins.ensures.others p (pins_below s (made s b) b (s.heights b) p (g.met.F.Family.lawful.peaks b) le) in
    let more : Extends (entry_at es) (entry_at fs) (length (made s b)) c.args.nodes.items = extends_placed (length (made s b)) es fs c.args.nodes.items none refl in
    record {
      sound = record {
        few = size.0;
        within = sizes_apart s n b (length c.args.nodes.items) size.1;
        held = built_pruned s n b (entry_at es) (entry_at fs) c.args.nodes.items c.args.pinned.items g.met.F.Family.lawful size.1 pins more;
      };
      before = c.in_ok-pins.ensures.before;
      room = c.in_ok-pins.ensures.room;
      ended = sym size.1;
    }

pub returns-clause-built : goal.returns-clause-built
returns-clause-built g c =
    let s = g.F.Family.shape in
    let b = c.as_u64-loc.result in
    let n = c.in_ok-leaves.leaves in
    let size : HasSize s n (length (made s b) + length c.args.nodes.items) = subst (λ (m : ℕ). HasSize s n (length (made s b) + m)) (search rules) c.in_ok-leaves.ensures.found in
    let es = c.in_ok-pins.pins.items in
    let pins : ArePeaks s b (λ x k. entry_at es (s.position x k)) c.args.pinned.items = subst (λ (ds : List g.row.D.Denot). ArePeaks s b (λ x k. entry_at es (s.position x k)) ds) c.deref.ensures.value c.in_ok-pins.ensures.pins in
    let fs = es ++ placed (length (made s b)) c.args.nodes.items in
    let none = λ (p : ℕ) (le : length (made s b) ≤ p). c.in_ok-pins.ensures.others p (pins_below s (made s b) b (s.heights b) p (g.met.F.Family.lawful.peaks b) le) in
    let more : Extends (entry_at es) (entry_at fs) (length (made s b)) c.args.nodes.items = extends_placed (length (made s b)) es fs c.args.nodes.items none refl in
    let made_tree : Tree g.row.D.Denot = record { leaves = n; boundary = b; kept = fs } in
    subst (λ (m : ℕ). IsBuilt s m c.args.nodes.items c.args.pinned.items made_tree) c.as_u64-loc.ensures
    (is_built s b (entry_at es) made_tree c.args.nodes.items c.args.pinned.items g.met.F.Family.lawful size refl pins c.in_ok-pins.ensures.others more)

pub returns-clause-tree : goal.returns-clause-tree
returns-clause-tree g c h all count pinned since =
    let s = g.F.Family.shape in
    let b = c.as_u64-loc.result in
    let n = c.in_ok-leaves.leaves in
    let size : HasSize s n (length (made s b) + length c.args.nodes.items) = subst (λ (m : ℕ). HasSize s n (length (made s b) + m)) (search rules) c.in_ok-leaves.ensures.found in
    let es = c.in_ok-pins.pins.items in
    let pins : ArePeaks s b (λ x k. entry_at es (s.position x k)) c.args.pinned.items = subst (λ (ds : List g.row.D.Denot). ArePeaks s b (λ x k. entry_at es (s.position x k)) ds) c.deref.ensures.value c.in_ok-pins.ensures.pins in
    let fs = es ++ placed (length (made s b)) c.args.nodes.items in
    let none = λ (p : ℕ) (le : length (made s b) ≤ p). c.in_ok-pins.ensures.others p (pins_below s (made s b) b (s.heights b) p (g.met.F.Family.lawful.peaks b) le) in
    let more : Extends (entry_at es) (entry_at fs) (length (made s b)) c.args.nodes.items = extends_placed (length (made s b)) es fs c.args.nodes.items none refl in
    let made_tree : Tree g.row.D.Denot = record { leaves = n; boundary = b; kept = fs } in
    let built = is_built s b (entry_at es) made_tree c.args.nodes.items c.args.pinned.items g.met.F.Family.lawful size refl pins c.in_ok-pins.ensures.others more in
    built_tree s h all b made_tree c.args.nodes.items c.args.pinned.items g.met.F.Family.lawful built count (rw c.as_u64-loc.ensures pinned) (rw c.as_u64-loc.ensures since)
