use Rattle.std.proofs.Common.{◌∷◌, ◌∙◌, subst}
use Rattle.std.specs.Prelude.{Contains}
use Rattle.auth_journal.specs.Batched.{own_length}
use Rattle.chain_core.specs.Reached.{item_at}
use Rattle.chain_core.specs.declared.commitment.Commitment.{Commitment}
use Rattle.keyless_db.specs.Batches.{MerkleizedView, IsSoundMerkleized, bounds_of}
use Rattle.keyless_db.proofs.ApplyLemmas.{one_item}
use Rattle.keyless_db.proofs.LawLemmas.{never_at_tip}
use Rattle.keyless_db.proofs.database.Keyless.validate_batch.Goals as goal

pub returns-clause-own_tip : goal.returns-clause-own_tip
returns-clause-own_tip g c b at marked here ok =
    let pool = c.args.pool.now in
    let id = c.args.id in
    let same = c.behind-pool.view_is ∙ one_item (item_at pool id) c.item.result.now b c.item.ensures at in
    let stands = c.validate_apply_to.ensures.at_boundary_or_ancestor.0 ok in
    let there = subst (λ (x : MerkleizedView g.row.F.Denot g.row.H-Digest.Denot g.row.O.Denot). Contains (x.bounds.db ∷ x.bounds.ancestors) c.commitment.result) same stands in
    let tip = subst (λ (k : Commitment g.row.F.Denot g.row.H-Digest.Denot). Contains (b.bounds.db ∷ b.bounds.ancestors) k) (c.commitment.ensures ∙ here) there in
    let sound = subst (λ (x : MerkleizedView g.row.F.Denot g.row.H-Digest.Denot g.row.O.Denot). IsSoundMerkleized x.tree x.bounds) same c.behind-pool.invariant in
    never_at_tip bounds_of pool id b (own_length b.tree) at marked sound.own sound.snapshot_db tip
