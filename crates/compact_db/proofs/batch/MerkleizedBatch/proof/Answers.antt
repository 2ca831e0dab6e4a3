use Rattle.std.proofs.Common.{rules, ◌≡◌, ◌++◌, length, sym, ◌∙◌, ap, subst}
use Rattle.log_model.specs.Operations.{floor_of, leaves_from}
use Rattle.chain_core.specs.declared.commitment.Commitment.{Commitment}
use Rattle.tree_core.specs.Tree.{IsOf}
use Rattle.compact_db.specs.Batches.{MerkleizedView, IsMerkleizedOf}
use Rattle.compact_db.specs.DbView.{DbView}
use Rattle.compact_db.proofs.PinLemmas.{inactive_fits}
use Rattle.compact_db.proofs.ProvingLemmas.{proof_is, leaves_alike}
use Rattle.compact_db.proofs.batch.MerkleizedBatch.proof.Goals as goal

pub range_proof-requires : goal.range_proof-requires
range_proof-requires g c =
    inactive_fits g.F.Family.shape c.self.inside.tree.leaves _ _ _ (c.new.ensures ∙ c.as_u64-end.ensures ∙ c.leaves.ensures.leaves) c.inactive_peaks-inactive.ensures

pub returns-in-Ok-range_proof-clause-list : goal.returns-in-Ok-range_proof-clause-list
returns-in-Ok-range_proof-clause-list g c ops more of made =
    let s = g.F.Family.shape in
    let h = g.H.Hasher.hash in
    let m = g.O.Logged.meaning in
    let list = ops ++ more in
    let tree_is : c.args.db.now.tree ≡ c.mem.result.now = ap (λ (d : DbView g.row.F.Denot g.row.D.Denot g.row.O.Denot g.row.O-Cfg.Denot). d.tree) (sym c.db.view_is) ∙ sym c.mem.ensures in
    let all = leaves_from s h m 0 ops in
    let tree_of = subst (IsOf s h all) tree_is of.tree_of in
    let own = subst (λ (b : MerkleizedView g.row.F.Denot g.row.D.Denot g.row.O.Denot). IsMerkleizedOf s h m list b) (sym c.self.view_is) made in
    let count : c.leaves.result ≡ length list = c.leaves.ensures.leaves ∙ c.self.invariant.tip ∙ ap (λ (x : Commitment g.row.F.Denot g.row.D.Denot). x.size) own.batch.bounds.tip in
    let base : c.new-start.result ≡ c.args.self.now.bounds.base.size = c.new-start.ensures ∙ c.as_u64-2.ensures ∙ ap (λ (b : MerkleizedView g.row.F.Denot g.row.D.Denot g.row.O.Denot). b.bounds.base.size) c.self.view_is in
    let is = c.in-Ok-range_proof.ensures.batch h all (leaves_from s h m 0 list) tree_of own.tree (leaves_alike s h m ops more) in
    proof_is s h (leaves_from s h m 0 list) c.in-Ok-range_proof.proof _ _ _ c.new.result c.new-floor.result c.args.self.now.bounds.base.size (length list) (floor_of m list) is
    c.inactive_peaks-inactive.ensures (c.new.ensures ∙ c.as_u64-end.ensures ∙ count) (c.new-floor.ensures ∙ c.as_u64.ensures ∙ own.batch.floor) base
    (c.new-2.ensures ∙ c.as_u64-end.ensures ∙ count)

pub returns-in-Err-range_proof-clause-stale : goal.returns-in-Err-range_proof-clause-stale
returns-in-Err-range_proof-clause-stale g c off = absurd (off (search rules))
