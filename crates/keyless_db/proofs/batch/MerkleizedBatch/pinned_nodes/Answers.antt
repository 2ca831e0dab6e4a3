use Rattle.std.proofs.Common.{◌≡◌, ◌-◌, length, sym, ◌∙◌, map, ap, subst, arith}
use Rattle.tree_shape.specs.Shape.{peaks}
use Rattle.tree_shape.specs.Slow.{node_of}
use Rattle.tree_core.specs.Batches.{IsSealedOf}
use Rattle.tree_core.specs.Tree.{IsOf}
use Rattle.auth_journal.specs.Batched.{own_length}
use Rattle.auth_journal.specs.Joined.{leaves_of}
use Rattle.log_model.specs.Operations.{leaves_from}
use Rattle.chain_core.specs.declared.commitment.Commitment.{Commitment}
use Rattle.keyless_db.specs.Batches.{MerkleizedView}
use Rattle.keyless_db.specs.DbView.{DbView}
use Rattle.keyless_db.proofs.SealLemmas.{leaves_are}
use Rattle.keyless_db.proofs.SealedLemmas.{front_alike, lifts_made}
use Rattle.keyless_db.proofs.batch.MerkleizedBatch.pinned_nodes.Goals as goal

pub returns-in-Ok-speculative_pinned_nodes-clause-list : goal.returns-in-Ok-speculative_pinned_nodes-clause-list
returns-in-Ok-speculative_pinned_nodes-clause-list g c ops list image held front of =
    let s = g.F.Family.shape in
    let h = g.H.Hasher.hash in
    let m = g.O.Logged.meaning in
    let spelling = g.O.Spelled.spelling in
    let b = c.self.inside in
    let all = leaves_of s h spelling ops in
    let made = leaves_of s h spelling list in
    let tree : IsOf s h all c.db.inside.journal.tree.tree =
    subst (λ (d : DbView g.row.F.Denot g.row.D.Denot g.row.O.Denot g.row.O-Cfg.Denot). IsOf s h all d.journal.tree.tree) (sym c.db.view_is) held.journal.tree.tree in
    let sealed : IsSealedOf s h made b.tree.nodes =
    subst (λ (x : MerkleizedView g.row.F.Denot g.row.D.Denot g.row.O.Denot). IsSealedOf s h made x.tree.nodes) (sym c.self.view_is) of.tree.nodes in
    let size : b.bounds.tip.size ≡ length list = ap (λ (x : MerkleizedView g.row.F.Denot g.row.D.Denot g.row.O.Denot). x.bounds.tip.size) c.self.view_is
    ∙ ap (λ (x : Commitment g.row.F.Denot g.row.D.Denot). x.size) of.batch.bounds.tip in
    let end : b.tree.nodes.leaves ≡ length list = c.self.invariant.tip ∙ size in
    let base : b.bounds.base.size ≡ c.args.self.now.bounds.base.size = ap (λ (x : MerkleizedView g.row.F.Denot g.row.D.Denot g.row.O.Denot). x.bounds.base.size) c.self.view_is in
    let start : b.tree.nodes.leaves - own_length b.tree ≡ c.args.self.now.bounds.base.size = omega (arith, c.self.invariant.tip, c.self.invariant.own, base) in
    let leaves : made ≡ leaves_from s h m 0 list = leaves_are s h m spelling g.met.O.Logged.spelled list in
    let alike = front_alike s h m spelling g.met.O.Logged.spelled ops list front in
    let lifts = c.in-Ok-speculative_pinned_nodes.ensures in
    let is = lifts_made _ c.in-Ok-speculative_pinned_nodes.found lifts.below lifts.is lifts.says.list h all made tree sealed alike in
    is ∙ ap (λ ls. map (node_of s h ls) (peaks s (b.tree.nodes.leaves - own_length b.tree))) leaves ∙ ap (λ n. map (node_of s h (leaves_from s h m 0 list)) (peaks s n)) start
