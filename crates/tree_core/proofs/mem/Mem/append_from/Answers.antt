use Rattle.std.proofs.Common.{◌≡◌, ℕ, ◌+◌, ◌-◌, ◌++◌, length, drop, refl, sym, ◌∙◌, ap, subst, arith, length-append}
use Rattle.tree_shape.specs.Shape.{made}
use Rattle.tree_core.specs.KeptNodes.{entry_at, placed}
use Rattle.tree_core.specs.Links.{joined_nodes}
use Rattle.tree_core.specs.Pruned.{made_from, IsPruned}
use Rattle.tree_core.specs.Tree.{Tree, IsGrown}
use Rattle.tree_core.proofs.Later.{length-split}
use Rattle.tree_core.proofs.LinkLemmas.{mark_within}
use Rattle.tree_core.proofs.ApplyLemmas.{fits_mark, fitting}
use Rattle.tree_core.proofs.PrunedLemmas.{pruned_grown}
use Rattle.tree_core.proofs.KeptNodesLemmas.{run_grown, extends_placed}
use Rattle.tree_core.proofs.mem.Mem.append_from.Goals as goal

pub push_nodes-requires : goal.push_nodes-requires
push_nodes-requires g c =
    let mark = fits_mark g.F.Family.shape c.args.self.now c.args.batch.now c.args.place c.requires in
    omega (arith, mark_within c.args.batch.now.links c.args.place c.args.self.now.leaves mark.0 mark.1)

pub invariant_of-self-2 : goal.invariant_of-self-2
invariant_of-self-2 g c =
    let s = g.F.Family.shape in
    let t = c.args.self.now in
    let b = c.args.batch.now in
    let pins = c.self.inside.pins.items in
    let run = c.self.inside.nodes.items in
    let first = length (made s c.self.inside.boundary) in
    let end = length (made s c.self.inside.leaves) in
    let es = pins ++ placed first run in
    let fs = pins ++ placed first c.push_nodes.new.nodes.items in
    let later = b.leaves - t.leaves in
    let more = joined_nodes (drop c.args.place b.links) in
    let n : c.self.inside.leaves ≡ t.leaves = ap (λ (t : Tree g.row.D.Denot). t.leaves) c.self.view_is in
    let mark = fits_mark s t b c.args.place c.requires in
    let fit = fitting s b c.args.place t.leaves mark.0 c.leaves.ensures.sound mark.1 in
    let counted : length (joined_nodes (drop c.args.place b.links)) ≡ length (made_from s c.self.inside.leaves (b.leaves - t.leaves)) = fit.1 ∙ ap (λ m. length (made_from s m (b.leaves - t.leaves))) (sym n) in
    let all : c.self.inside.leaves + (b.leaves - t.leaves) ≡ c.as_u64-leaves.result = omega (arith, fit.0, n, c.as_u64-leaves.ensures, c.leaves.ensures.leaves) in
    let within = c.self.invariant.sound.within in
    let grown : fs ≡ es ++ placed end more = ap (λ ds. pins ++ placed first ds) c.in_ok-push_nodes.ensures.ok ∙ run_grown pins run more first end c.self.invariant.ended in
    let long = ap length c.in_ok-push_nodes.ensures.ok ∙ length-append run more in
    let size = ap (λ m. length (made s m)) all in
    record {
      sound = record {
        few = omega (arith, c.leaves.ensures.valid, c.as_u64-leaves.ensures);
        within = omega (arith, within, all);
        held = subst (λ (m : ℕ). IsPruned s m c.self.inside.boundary (entry_at fs)) all
            (pruned_grown s c.self.inside.leaves c.self.inside.boundary later (entry_at es) (entry_at fs) more g.met.F.Family.lawful within c.self.invariant.sound.held counted
            (extends_placed end es fs more c.self.invariant.sound.held.ended grown));
      };
      before = c.self.invariant.before;
      room = c.self.invariant.room;
      ended = omega (arith, long, counted, c.self.invariant.ended, length-split s c.self.inside.leaves later, size);
    }

pub returns-clause-ok : goal.returns-clause-ok
returns-clause-ok g c =
    let s = g.F.Family.shape in
    let t = c.args.self.now in
    let b = c.args.batch.now in
    let pins = c.self.inside.pins.items in
    let run = c.self.inside.nodes.items in
    let first = length (made s c.self.inside.boundary) in
    let end = length (made s c.self.inside.leaves) in
    let es = pins ++ placed first run in
    let fs = pins ++ placed first c.push_nodes.new.nodes.items in
    let more = joined_nodes (drop c.args.place b.links) in
    let n : c.self.inside.leaves ≡ t.leaves = ap (λ (t : Tree g.row.D.Denot). t.leaves) c.self.view_is in
    let mark = fits_mark s t b c.args.place c.requires in
    let fit = fitting s b c.args.place t.leaves mark.0 c.leaves.ensures.sound mark.1 in
    let all : c.as_u64-leaves.result ≡ c.self.inside.leaves + (b.leaves - t.leaves) = omega (arith, fit.0, n, c.as_u64-leaves.ensures, c.leaves.ensures.leaves) in
    let grown : fs ≡ es ++ placed end more = ap (λ ds. pins ++ placed first ds) c.in_ok-push_nodes.ensures.ok ∙ run_grown pins run more first end c.self.invariant.ended in
    subst (λ (u : Tree g.row.D.Denot). IsGrown s (b.leaves - t.leaves) more u (record { leaves = c.as_u64-leaves.result; boundary = c.self.inside.boundary; kept = fs })) c.self.view_is (record {
      leaves = all;
      boundary = refl;
      nodes = extends_placed end es fs more c.self.invariant.sound.held.ended grown;
    })
