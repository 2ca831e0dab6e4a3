use Rattle.std.proofs.Common.{◌≡◌, ℕ, ◌+◌, ◌-◌, ◌≤◌, ◌^◌, List, length, sym, ◌∙◌, ap, arith, length-append}
use Rattle.std.specs.Prelude.{slice_get}
use Rattle.tree_shape.specs.Places.{get-append}
use Rattle.tree_core.proofs.HashedLemmas.{parent_hashed}
use Rattle.tree_core.proofs.MemLemmas.{none_left, some_left}
use Rattle.tree_core.proofs.Since.{children_since, within_since, child_held, next_since, all_since, length-made_from_suc}
use Rattle.tree_core.proofs.growth.push_parents.Goals as goal

all_made : (i m n len p : ℕ) → len ≡ m + 1 + i → i ≤ p → p ≤ i → n ≡ m + 1 + p → len ≡ n
all_made i m n len p a b d e = omega arith

pub node_since-left-requires-clause-small : goal.node_since-left-requires-clause-small
node_since-left-requires-clause-small g c =
    let w = within_since g.F.Family.shape c.args.mark.now.leaves c.args.later c.loop-start.i c.in-Some.start c.in-Some.height g.met.F.Family.lawful (c.in-Some.ensures {u = tt}).value in
    omega (arith, w, c.half_width-half.ensures.half, c.half_width-half.ensures.whole, c.requires.few)

pub node_since-left-requires-clause-there : goal.node_since-left-requires-clause-there
node_since-left-requires-clause-there g c =
    let s = g.F.Family.shape in
    let k = children_since s c.args.mark.now.leaves c.args.later c.loop-start.i c.in-Some.start c.in-Some.height (length c.loop-start.since.items) g.met.F.Family.lawful g.met.F.Family.keeps (c.in-Some.ensures {u = tt}).value c.loop-start.invariant.counted (c.in-Some.ensures {u = tt}).low.1 in
    rw c.deref.ensures.value (child_held s c.args.mark.now.leaves c.args.later c.in-Some.start (c.in-Some.height - 1) c.args.mark.now.peaks.items c.loop-start.since.items g.met.F.Family.lawful c.args.mark.now.counted k.0)

pub overflow_add-start : goal.overflow_add-start
overflow_add-start g c =
    let w = within_since g.F.Family.shape c.args.mark.now.leaves c.args.later c.loop-start.i c.in-Some.start c.in-Some.height g.met.F.Family.lawful (c.in-Some.ensures {u = tt}).value in
    omega (arith, w, c.half_width-half.ensures.whole, c.requires.few)

pub node_since-right-requires-clause-small : goal.node_since-right-requires-clause-small
node_since-right-requires-clause-small g c =
    let w = within_since g.F.Family.shape c.args.mark.now.leaves c.args.later c.loop-start.i c.in-Some.start c.in-Some.height g.met.F.Family.lawful (c.in-Some.ensures {u = tt}).value in
    omega (arith, w, c.half_width-half.ensures.half, c.half_width-half.ensures.whole, c.requires.few)

pub node_since-right-requires-clause-there : goal.node_since-right-requires-clause-there
node_since-right-requires-clause-there g c =
    let s = g.F.Family.shape in
    let k = children_since s c.args.mark.now.leaves c.args.later c.loop-start.i c.in-Some.start c.in-Some.height (length c.loop-start.since.items) g.met.F.Family.lawful g.met.F.Family.keeps (c.in-Some.ensures {u = tt}).value c.loop-start.invariant.counted (c.in-Some.ensures {u = tt}).low.1 in
    rw (c.deref-in-Some.ensures.value, c.half_width-half.ensures.half) (child_held s c.args.mark.now.leaves c.args.later (c.in-Some.start + 2 ^ (c.in-Some.height - 1)) (c.in-Some.height - 1) c.args.mark.now.peaks.items c.loop-start.since.items g.met.F.Family.lawful c.args.mark.now.counted k.1)

pub loop-start-preserved : goal.loop-start-preserved
loop-start-preserved g c =
    let s = g.F.Family.shape in
    let value = (c.in-Some.ensures {u = tt}).value in
    let low = (c.in-Some.ensures {u = tt}).low in
    let longer = ap length c.in_ok-push.ensures.items ∙ length-append c.loop-start.since.items _ in
    record {
      counted = omega (arith, longer, c.loop-start.invariant.counted);
      parents = (let l = some_left (s.parents (c.args.mark.now.leaves + c.args.later)) c.loop-start.i (c.in-Some.start, c.in-Some.height) value in omega (arith, l));
      low = omega (arith, low.0);
      told = λ leaves peaks begun. rw (c.in_ok-push.ensures.items, c.node_digest-parent.ensures, c.new-place.ensures, c.len.ensures, c.size-size.ensures)
          (next_since s g.H.Hasher.hash leaves c.args.mark.now.leaves c.args.later c.loop-start.i c.in-Some.start c.in-Some.height c.half_width-half.result _ c.args.mark.now.peaks.items c.loop-start.since.items
          c.node_since-left.result c.node_since-right.result g.met.F.Family.lawful g.met.F.Family.keeps value c.loop-start.since.ok.0 (c.loop-start.since.ok.0 ∙ c.loop-start.invariant.counted) low.1 c.half_width-half.ensures.half
          (rw c.deref.ensures.value at c.node_since-left.ensures) (rw c.deref-in-Some.ensures.value at c.node_since-right.ensures) peaks (c.loop-start.invariant.told leaves peaks begun));
      front = λ i d is. ap (λ (l : List _). slice_get l i) c.in_ok-push.ensures.items ∙ get-append c.loop-start.since.items _ i d (c.loop-start.invariant.front i d is);
      hashed = λ begun. rw (c.in_ok-push.ensures.items, c.node_digest-parent.ensures, c.new-place.ensures, c.len.ensures, c.size-size.ensures)
          (parent_hashed s g.H.Hasher.hash c.args.mark.now.leaves c.args.mark.now.peaks.items c.args.later c.loop-start.i c.in-Some.start c.in-Some.height c.half_width-half.result _ c.loop-start.since.items
          c.node_since-left.result c.node_since-right.result value c.loop-start.since.ok.0 (c.loop-start.since.ok.0 ∙ c.loop-start.invariant.counted) c.half_width-half.ensures.half
          (rw c.deref.ensures.value at c.node_since-left.ensures) (rw c.deref-in-Some.ensures.value at c.node_since-right.ensures) (c.loop-start.invariant.hashed begun));
    }

pub returns-clause-counted : goal.returns-clause-counted
returns-clause-counted g c =
    let s = g.F.Family.shape in
    let none = none_left (s.parents (c.args.mark.now.leaves + c.args.later)) c.loop-start.i (sym c.in_default.is ∙ c.parent.ensures.value) in
    all_made _ _ _ _ _ c.loop-start.invariant.counted c.loop-start.invariant.parents none (length-made_from_suc s c.args.mark.now.leaves c.args.later)

pub returns-clause-nodes : goal.returns-clause-nodes
returns-clause-nodes g c leaves peaks begun =
    let s = g.F.Family.shape in
    let none = none_left (s.parents (c.args.mark.now.leaves + c.args.later)) c.loop-start.i (sym c.in_default.is ∙ c.parent.ensures.value) in
    let all = all_made _ _ _ _ _ c.loop-start.invariant.counted c.loop-start.invariant.parents none (length-made_from_suc s c.args.mark.now.leaves c.args.later) in
    all_since s g.H.Hasher.hash leaves c.args.mark.now.leaves c.args.later c.loop-start.since.items all (c.loop-start.invariant.told leaves peaks begun)
