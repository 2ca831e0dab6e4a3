use Rattle.std.proofs.Common.{length, drop, refl, sym, subst}
use Rattle.tree_core.specs.Tree.{IsOf}
use Rattle.tree_core.specs.Applied.{Refused}
use Rattle.merkle_full.specs.Full.{Full}
use Rattle.merkle_full.specs.Lists.{IsFullOf}
use Rattle.merkle_full.proofs.GrownLemmas.{err_same, grown_kept, grown_full}
use Rattle.merkle_full.proofs.merkle.Merkle.apply_batch.Goals as goal

pub returns-in_err-apply_batch-clause-refused : goal.returns-in_err-apply_batch-clause-refused
returns-in_err-apply_batch-clause-refused g c =
    err_same _ c.in_err-apply_batch.field-0.0 _ c.from_residual.ensures.1 (λ h all.
    subst (λ (t : Full g.row.D.Denot). IsOf g.F.Family.shape h all t.tree → Refused g.F.Family.shape h all t.tree.leaves c.args.batch.now c.in_err-apply_batch.field-0.0) c.self.view_is (c.in_err-apply_batch.ensures.refused h all))

pub invariant_of-result : goal.invariant_of-result
invariant_of-result g c = grown_kept g.F.Family.shape c.args.batch.now.leaves _ _ c.self.invariant (c.in_ok-apply_batch.ensures {u = tt}).longer c.leaves-leaves.ensures.sound refl

pub returns-clause-full : goal.returns-clause-full
returns-clause-full g c h all made image full batch digests =
    let s = g.F.Family.shape in
    let here = subst (λ (t : Full g.row.D.Denot). IsFullOf s h g.D.Spelled.spelling (g.D.Read.admits tt) all t image) (sym c.self.view_is) full in
    let did = c.in_ok-apply_batch.ensures {u = tt} in
    grown_full s h g.D.Spelled.spelling (g.D.Read.admits tt) all (drop (length all) made) c.args.batch.now.leaves _ _ image g.met.F.Family.lawful c.self.invariant did.longer
    (record { boundary = refl; log = refl; metadata = refl }) digests (did.tree h all made here.tree batch) here
