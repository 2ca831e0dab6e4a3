use Rattle.std.proofs.Common.{max, ℕ, length, refl, ◌∙◌, ap, subst}
use Rattle.journal_base.specs.Blobs.{blob_start}
use Rattle.journal_base.specs.Items.{items_of}
use Rattle.tree_shape.specs.Pins.{pins}
use Rattle.tree_shape.specs.Shape.{made}
use Rattle.merkle_full.specs.Flushing.{AllStand}
use Rattle.merkle_full.specs.Pruning.{KeepsOthers, StandsWhilePruned, IsOfPrune}
use Rattle.merkle_full.proofs.GrownLemmas.{err_same}
use Rattle.merkle_full.proofs.PruneRun.{stays_before}
use Rattle.merkle_full.proofs.merkle.Merkle.prune.Goals as goal

pub returns-then-keeps_failure-clause-images : goal.returns-then-keeps_failure-clause-images
returns-then-keeps_failure-clause-images g c tells h all durable top full stand = stays_before g.F.Family.shape h g.D.Spelled.spelling all durable top c.args.loc c.args.self (g.V.Volume.state c.args.vol.now) stand

pub returns-then-leaves-gt-MAX_LEAVES-clause-images : goal.returns-then-leaves-gt-MAX_LEAVES-clause-images
returns-then-leaves-gt-MAX_LEAVES-clause-images g c tells h all durable top full stand = stays_before g.F.Family.shape h g.D.Spelled.spelling all durable top c.args.loc c.args.self (g.V.Volume.state c.args.vol.now) stand

pub returns-then-leaves-as_u64-clause-images : goal.returns-then-leaves-as_u64-clause-images
returns-then-leaves-as_u64-clause-images g c tells h all durable top full stand = stays_before g.F.Family.shape h g.D.Spelled.spelling all durable top c.args.loc c.args.self (g.V.Volume.state c.args.vol.now) stand

pub returns-then-leaves-self-clause-images : goal.returns-then-leaves-self-clause-images
returns-then-leaves-self-clause-images g c tells h all durable top full stand = stays_before g.F.Family.shape h g.D.Spelled.spelling all durable top c.args.loc c.args.self (g.V.Volume.state c.args.vol.now) stand

pub returns-in_err-pruned-clause-images : goal.returns-in_err-pruned-clause-images
returns-in_err-pruned-clause-images g c tells h all durable top full stand =
    subst (λ (k : ℕ). StandsWhilePruned g.F.Family.shape h g.D.Spelled.spelling all durable top k c.args.self (g.V.Volume.state c.args.vol.now) (g.V.Volume.state c.prune_above.new.vol)) (c.new-2.ensures ∙ c.as_u64-leaves.ensures)
    (c.in_err-pruned.ensures.images tells h all durable top full stand)

pub returns-clause-images : goal.returns-clause-images
returns-clause-images g c tells h all durable top full stand =
    subst (λ (k : ℕ). StandsWhilePruned g.F.Family.shape h g.D.Spelled.spelling all durable top k c.args.self (g.V.Volume.state c.args.vol.now) (g.V.Volume.state c.prune_above.new.vol)) (c.new-2.ensures ∙ c.as_u64-leaves.ensures)
    ((c.in_ok-pruned.ensures {u = tt}).images tells h all durable top full stand)

pub returns-clause-start : goal.returns-clause-start
returns-clause-start g c above tells h all full =
    (c.in_ok-pruned.ensures {u = tt}).start tells h all full ∙ ap (λ (k : ℕ). max c.args.self.log.start (blob_start c.args.self.log.blob (length (made g.F.Family.shape k)))) (c.new-2.ensures ∙ c.as_u64-leaves.ensures)

pub returns-clause-settled : goal.returns-clause-settled
returns-clause-settled g c above tells h all durable top full stand =
    subst (λ (k : ℕ). AllStand g.F.Family.shape h g.D.Spelled.spelling all (length all) (max top k) c.args.self (g.V.Volume.state c.prune_above.new.vol)) (c.new-2.ensures ∙ c.as_u64-leaves.ensures)
    ((c.in_ok-pruned.ensures {u = tt}).settled tells h all durable top full stand)

pub returns-then-leaves-self-clause-pins : goal.returns-then-leaves-self-clause-pins
returns-then-leaves-self-clause-pins g c tells p has = has

pub returns-in_err-pruned-clause-errors : goal.returns-in_err-pruned-clause-errors
returns-in_err-pruned-clause-errors g c within =
    let items = items_of g.D.Spelled.spelling g.D.Read.admits c.args.self.log (g.V.Volume.state c.prune_above.new.vol) in
    let e = c.in_err-pruned.field-0.0 in
    err_same _ e (IsOfPrune g.F.Family.shape g.V.Volume.tells c.args.self items c.args.loc) c.from_residual.ensures.1
    (subst (λ (k : ℕ). IsOfPrune g.F.Family.shape g.V.Volume.tells c.args.self items k e) (c.new-2.ensures ∙ c.as_u64-leaves.ensures) c.in_err-pruned.ensures.errors)

pub returns-then-leaves-self-clause-others : goal.returns-then-leaves-self-clause-others
returns-then-leaves-self-clause-others g c tells key apart not = refl

pub returns-clause-others : goal.returns-clause-others
returns-clause-others g c tells =
    let t = c.args.self in
    subst (λ (k : ℕ). KeepsOthers (pins g.F.Family.shape k) ((g.V.Volume.state c.args.vol.now).map t.metadata) ((g.V.Volume.state c.prune_above.new.vol).map t.metadata)) (c.new-2.ensures ∙ c.as_u64-leaves.ensures) ((c.in_ok-pruned.ensures {u = tt}).others tells)
