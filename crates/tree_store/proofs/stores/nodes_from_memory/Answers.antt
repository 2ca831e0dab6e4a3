use Rattle.std.proofs.Common.{◌≡◌, ℕ, [], ◌∷◌, length, length-append, refl, sym, ◌∙◌, ap, subst, arith}
use Rattle.std.proofs.lemmas.Option.{slice_get_read}
use Rattle.tree_store.specs.Stores.{IsFirstAbsent}
use Rattle.tree_store.proofs.StoreLemmas.{first_absent, told-next}
use Rattle.tree_store.proofs.stores.nodes_from_memory.Goals as goal

pub returns-in-None-clause-unread : goal.returns-in-None-clause-unread
returns-in-None-clause-unread g c =
    let told = g.R.Readable.told c.args.memory.now in
    let place : c.new.result ≡ c.index-positions-i.result = c.new.ensures ∙ c.as_u64-position.ensures in
    let at = slice_get_read c.args.positions.now (length c.args.positions.now) c.loop-i.i c.index-positions-i.result refl c.loop-i-test.true c.index-positions-i.is in
    let none = ap told (sym place) ∙ sym c.get_node.ensures ∙ c.in-None.is in
    subst (λ (p : ℕ). IsFirstAbsent told c.args.positions.now p) (sym (c.new-in-None.ensures ∙ c.as_u64-position.ensures))
    (first_absent told c.args.positions.now c.loop-i.i c.index-positions-i.result c.loop-i.nodes.items c.loop-i.invariant.nodes at none)

pub loop-i-preserved : goal.loop-i-preserved
loop-i-preserved g c =
    let told = g.R.Readable.told c.args.memory.now in
    let place : c.new.result ≡ c.index-positions-i.result = c.new.ensures ∙ c.as_u64-position.ensures in
    let at = slice_get_read c.args.positions.now (length c.args.positions.now) c.loop-i.i c.index-positions-i.result refl c.loop-i-test.true c.index-positions-i.is in
    let some = sym c.in-Some.is ∙ c.get_node.ensures ∙ ap told place in
    record {
      counted = omega (arith, ap length (c.in_ok-push-in-Some.ensures {u = tt}).items, length-append c.loop-i.nodes.items (c.in-Some.node ∷ []), c.loop-i.invariant.counted);
      nodes = told-next told c.loop-i.nodes.items _ c.args.positions.now c.loop-i.i c.index-positions-i.result c.in-Some.node c.loop-i.invariant.nodes at some (c.in_ok-push-in-Some.ensures {u = tt}).items;
    }
