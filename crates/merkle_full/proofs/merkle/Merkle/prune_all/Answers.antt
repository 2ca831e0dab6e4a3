use Rattle.std.proofs.Common.{◌≡◌, max, ℕ, length, ◌∙◌, ap, subst, arith}
use Rattle.journal_base.specs.Blobs.{blob_start}
use Rattle.journal_base.specs.Items.{items_of}
use Rattle.tree_shape.specs.Pins.{pins}
use Rattle.tree_shape.specs.Shape.{made}
use Rattle.tree_store.specs.Stores.{IsOutside}
use Rattle.merkle_full.specs.Flushing.{AllStand}
use Rattle.merkle_full.specs.Full.{Full}
use Rattle.merkle_full.specs.Pruning.{KeepsOthers, StandsWhilePruned, IsOfPrune}
use Rattle.merkle_full.proofs.GrownLemmas.{err_same}
use Rattle.merkle_full.proofs.PruneRun.{can_prune}
use Rattle.merkle_full.proofs.merkle.Merkle.prune_all.Goals as goal

pub returns-in_err-pruned-clause-outside : goal.returns-in_err-pruned-clause-outside
returns-in_err-pruned-clause-outside g c tells h all full =
    let leaves = ap (λ (t : Full g.row.D.Denot). t.tree.leaves) c.self.view_is in
    err_same _ c.in_err-pruned.field-0.0 IsOutside c.from_residual.ensures.1 (c.in_err-pruned.ensures.outside (can_prune c.args.self.tree.leaves c.leaves-leaves.result (omega (arith, leaves, c.leaves-leaves.ensures.leaves))) tells h all full)

pub returns-clause-start : goal.returns-clause-start
returns-clause-start g c above tells h all full =
    let at : c.leaves-leaves.result ≡ c.args.self.tree.leaves = c.leaves-leaves.ensures.leaves ∙ ap (λ (t : Full g.row.D.Denot). t.tree.leaves) c.self.view_is in
    (c.in_ok-pruned.ensures {u = tt}).start (omega (arith, above, at)) tells h all full ∙ ap (λ (k : ℕ). max c.args.self.log.start (blob_start c.args.self.log.blob (length (made g.F.Family.shape k)))) at

pub returns-in_err-pruned-clause-images : goal.returns-in_err-pruned-clause-images
returns-in_err-pruned-clause-images g c tells h all durable top full stand =
    let at : c.leaves-leaves.result ≡ c.args.self.tree.leaves = c.leaves-leaves.ensures.leaves ∙ ap (λ (t : Full g.row.D.Denot). t.tree.leaves) c.self.view_is in
    subst (λ (k : ℕ). StandsWhilePruned g.F.Family.shape h g.D.Spelled.spelling all durable top k c.args.self (g.V.Volume.state c.args.vol.now) (g.V.Volume.state c.prune.new.vol)) at
    (c.in_err-pruned.ensures.images tells h all durable top full stand)

pub returns-clause-images : goal.returns-clause-images
returns-clause-images g c tells h all durable top full stand =
    let at : c.leaves-leaves.result ≡ c.args.self.tree.leaves = c.leaves-leaves.ensures.leaves ∙ ap (λ (t : Full g.row.D.Denot). t.tree.leaves) c.self.view_is in
    subst (λ (k : ℕ). StandsWhilePruned g.F.Family.shape h g.D.Spelled.spelling all durable top k c.args.self (g.V.Volume.state c.args.vol.now) (g.V.Volume.state c.prune.new.vol)) at
    ((c.in_ok-pruned.ensures {u = tt}).images tells h all durable top full stand)

pub returns-clause-settled : goal.returns-clause-settled
returns-clause-settled g c above tells h all durable top full stand =
    let at : c.leaves-leaves.result ≡ c.args.self.tree.leaves = c.leaves-leaves.ensures.leaves ∙ ap (λ (t : Full g.row.D.Denot). t.tree.leaves) c.self.view_is in
    subst (λ (k : ℕ). AllStand g.F.Family.shape h g.D.Spelled.spelling all (length all) (max top k) c.args.self (g.V.Volume.state c.prune.new.vol)) at
    ((c.in_ok-pruned.ensures {u = tt}).settled (omega (arith, above, at)) tells h all durable top full stand)

pub returns-in_err-pruned-clause-errors : goal.returns-in_err-pruned-clause-errors
returns-in_err-pruned-clause-errors g c =
    let at : c.leaves-leaves.result ≡ c.args.self.tree.leaves = c.leaves-leaves.ensures.leaves ∙ ap (λ (t : Full g.row.D.Denot). t.tree.leaves) c.self.view_is in
    let items = items_of g.D.Spelled.spelling g.D.Read.admits c.args.self.log (g.V.Volume.state c.prune.new.vol) in
    let e = c.in_err-pruned.field-0.0 in
    err_same _ e (IsOfPrune g.F.Family.shape g.V.Volume.tells c.args.self items c.args.self.tree.leaves) c.from_residual.ensures.1
    (subst (λ (k : ℕ). IsOfPrune g.F.Family.shape g.V.Volume.tells c.args.self items k e) at
    (c.in_err-pruned.ensures.errors (can_prune c.args.self.tree.leaves c.leaves-leaves.result (omega (arith, at)))))

pub returns-clause-others : goal.returns-clause-others
returns-clause-others g c tells =
    let t = c.args.self in
    let at : c.leaves-leaves.result ≡ t.tree.leaves = c.leaves-leaves.ensures.leaves ∙ ap (λ (u : Full g.row.D.Denot). u.tree.leaves) c.self.view_is in
    subst (λ (k : ℕ). KeepsOthers (pins g.F.Family.shape k) ((g.V.Volume.state c.args.vol.now).map t.metadata) ((g.V.Volume.state c.prune.new.vol).map t.metadata)) at ((c.in_ok-pruned.ensures {u = tt}).others tells)
