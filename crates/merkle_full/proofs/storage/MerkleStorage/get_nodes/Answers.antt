use Rattle.std.proofs.Common.{length}
use Rattle.volume_base.specs.Moments.{present}
use Rattle.tree_shape.specs.Shape.{made}
use Rattle.tree_store.specs.Stores.{IsOutsideOr}
use Rattle.merkle_full.specs.Full.{told_at}
use Rattle.merkle_full.proofs.GrownLemmas.{err_same}
use Rattle.merkle_full.proofs.ReadLemmas.{first_within}
use Rattle.merkle_full.proofs.storage.MerkleStorage.get_nodes.Goals as goal

pub returns-in_err-nodes-clause-outside : goal.returns-in_err-nodes-clause-outside
returns-in_err-nodes-clause-outside g c below tells held =
    let told = told_at (g.D.Read.reads tt) c.args.self.now (present (g.V.Volume.state c.args.vol.now)) in
    let e = c.in_err-nodes.field-0.0 in
    err_same _ e (IsOutsideOr told c.args.positions.now) c.from_residual.ensures.1
    (first_within told (length (made g.F.Family.shape c.args.self.now.tree.leaves)) c.args.positions.now e below (c.in_err-nodes.ensures.first tells held))
