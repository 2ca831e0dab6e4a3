use Rattle.std.proofs.Common.{rules, Option, sym, subst}
use Rattle.std.specs.Prelude.{IsSome}
use Rattle.tree_core.specs.Batches.{Sealed, IsSoundSealed}
use Rattle.tree_core.proofs.OverlayLemmas.{sealed-told, sealed-since}
use Rattle.tree_core.proofs.sealed.MerkleizedBatch.get_node.Goals as goal

pub returns-clause-told : goal.returns-clause-told
returns-clause-told g c = search rules

pub returns-clause-node : goal.returns-clause-node
returns-clause-node g c = sealed-told g.F.Family.shape c.args.self.now c.args.pos c.node_in.result (returns-clause-told g c)

pub returns-clause-since : goal.returns-clause-since
returns-clause-since g c from below =
    let s = g.F.Family.shape in
    let sound : IsSoundSealed s c.args.self.now = subst (λ (b : Sealed g.row.D.Denot). IsSoundSealed s b) c.self.view_is c.self.invariant in
    subst (λ (o : Option g.row.D.Denot). IsSome o) (sym (returns-clause-told g c)) (sealed-since s c.args.self.now c.args.pos sound from below)
