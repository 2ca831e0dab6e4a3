use Rattle.std.proofs.Common.{rules, ◌≡◌, ◌≤◌, ◌++◌, map, Some, sym, ◌∙◌, ap, subst, arith}
use Rattle.tree_shape.specs.Pins.{pins}
use Rattle.log_model.specs.Operations.{leaves_from}
use Rattle.tree_core.specs.Tree.{Tree, IsOf, IsSound}
use Rattle.compact_db.specs.Batches.{MerkleizedView, IsMerkleizedOf}
use Rattle.compact_db.specs.DbView.{DbView}
use Rattle.compact_db.specs.Proving.{node_over}
use Rattle.compact_db.proofs.ProvingLemmas.{own_pins, memory_unread, none_absent}
use Rattle.compact_db.proofs.batch.MerkleizedBatch.pinned_nodes.Goals as goal

pub returns-in-Ok-pins_over-clause-list : goal.returns-in-Ok-pins_over-clause-list
returns-in-Ok-pins_over-clause-list g c ops more of made =
    let s = g.F.Family.shape in
    let h = g.H.Hasher.hash in
    let m = g.O.Logged.meaning in
    let list = ops ++ more in
    let tree_is : c.args.db.now.tree ≡ c.mem.result.now = ap (λ (d : DbView g.row.F.Denot g.row.D.Denot g.row.O.Denot g.row.O-Cfg.Denot). d.tree) (sym c.db.view_is) ∙ sym c.mem.ensures in
    let tree_of = subst (IsOf s h (leaves_from s h m 0 ops)) tree_is of.tree_of in
    let own = subst (λ (b : MerkleizedView g.row.F.Denot g.row.D.Denot g.row.O.Denot). IsMerkleizedOf s h m list b) (sym c.self.view_is) made in
    let base : c.new-before.result ≡ c.args.self.now.bounds.base.size = c.new-before.ensures ∙ c.as_u64.ensures ∙ ap (λ (b : MerkleizedView g.row.F.Denot g.row.D.Denot g.row.O.Denot). b.bounds.base.size) c.self.view_is in
    let same = subst (λ n. map Some c.in-Ok-pins_over.nodes.items ≡ map (node_over s c.self.inside.tree c.mem.result.now) (pins s n)) base c.in-Ok-pins_over.ensures.nodes in
    own_pins s h m ops more c.self.inside.tree c.mem.result.now c.args.self.now.bounds.base.size c.in-Ok-pins_over.nodes.items g.met.F.Family.lawful tree_of own.tree
    made.batch.bounds.base.0 same

pub returns-in-Err-pins_over-clause-stale : goal.returns-in-Err-pins_over-clause-stale
returns-in-Err-pins_over-clause-stale g c off = absurd (off (search rules))

pub returns-in-Err-pins_over-clause-kept : goal.returns-in-Err-pins_over-clause-kept
returns-in-Err-pins_over-clause-kept g c chain low reach =
    let s = g.F.Family.shape in
    let b = c.self.inside.tree in
    let t = c.mem.result.now in
    let n = c.new-before.result in
    let tree_is : c.args.db.now.tree ≡ c.mem.result.now = ap (λ (d : DbView g.row.F.Denot g.row.D.Denot g.row.O.Denot g.row.O-Cfg.Denot). d.tree) (sym c.db.view_is) ∙ sym c.mem.ensures in
    let count = ap (λ (x : Tree g.row.D.Denot). x.leaves) tree_is in
    let began = ap (λ (x : MerkleizedView g.row.F.Denot g.row.D.Denot g.row.O.Denot). x.tree.first) c.self.view_is in
    let base : n ≡ c.args.self.now.bounds.base.size = c.new-before.ensures ∙ c.as_u64.ensures ∙ ap (λ (x : MerkleizedView g.row.F.Denot g.row.D.Denot g.row.O.Denot). x.bounds.base.size) c.self.view_is in
    let own : n ≡ c.self.inside.bounds.base.size = c.new-before.ensures ∙ c.as_u64.ensures in
    let high : n ≤ b.leaves = omega (arith, own, c.self.invariant.tip, c.self.invariant.own) in
    let behind : t.leaves ≤ n = omega (arith, low, count, base) in
    let after : b.first ≤ t.leaves = omega (arith, reach, count, began) in
    let sound = subst (IsSound s) (sym c.mem.ensures) c.leaves-sound.ensures.sound in
    c.from.ensures ∙ memory_unread (node_over s b t) (pins s n) c.in-Err-pins_over.error
    (λ p first. none_absent s b t g.met.F.Family.lawful g.met.F.Family.keeps c.leaves-few.ensures.sound sound after (omega (arith, behind, high)) n p behind high first)
    c.in-Err-pins_over.ensures.unread
