use Rattle.std.proofs.Common.{◌≡◌, ◌-◌, ◌≤◌, length, sym, ◌∙◌, ap, subst, arith}
use Rattle.tree_shape.specs.Shape.{inactive}
use Rattle.tree_proof.specs.Cover.{meets}
use Rattle.tree_proof.specs.SlowProof.{proof_of}
use Rattle.tree_core.specs.Batches.{IsSealedOf}
use Rattle.tree_core.specs.Tree.{IsOf}
use Rattle.auth_journal.specs.Batched.{own_length}
use Rattle.auth_journal.specs.Joined.{leaves_of}
use Rattle.log_model.specs.Operations.{floor_of, leaves_from}
use Rattle.log_model.proofs.OperationLemmas.{inactive-within}
use Rattle.chain_core.specs.declared.commitment.Commitment.{Commitment}
use Rattle.keyless_db.specs.Batches.{MerkleizedView}
use Rattle.keyless_db.specs.DbView.{DbView}
use Rattle.keyless_db.proofs.SealLemmas.{leaves_are}
use Rattle.keyless_db.proofs.SealedLemmas.{front_alike, lifts_made}
use Rattle.keyless_db.proofs.batch.MerkleizedBatch.proof.Goals as goal

pub speculative_proof-requires : goal.speculative_proof-requires
speculative_proof-requires g c =
    let s = g.F.Family.shape in
    let leaves = c.self.inside.tree.nodes.leaves in
    let k : c.inactive_peaks-inactive.result ≡ inactive s leaves c.new-floor.result = c.inactive_peaks-inactive.ensures ∙ ap (λ n. inactive s n c.new-floor.result) (c.new.ensures ∙ c.size-end.ensures.size) in
    subst (λ n. n ≤ length (s.heights leaves)) (sym k) (inactive-within s leaves c.new-floor.result)

pub returns-in-Ok-speculative_proof-clause-list : goal.returns-in-Ok-speculative_proof-clause-list
returns-in-Ok-speculative_proof-clause-list g c ops list image held front of =
    let s = g.F.Family.shape in
    let h = g.H.Hasher.hash in
    let m = g.O.Logged.meaning in
    let spelling = g.O.Spelled.spelling in
    let b = c.self.inside in
    let all = leaves_of s h spelling ops in
    let made = leaves_of s h spelling list in
    let tree : IsOf s h all c.db.inside.journal.tree.tree =
    subst (λ (d : DbView g.row.F.Denot g.row.D.Denot g.row.O.Denot g.row.O-Cfg.Denot). IsOf s h all d.journal.tree.tree) (sym c.db.view_is) held.journal.tree.tree in
    let sealed : IsSealedOf s h made b.tree.nodes =
    subst (λ (x : MerkleizedView g.row.F.Denot g.row.D.Denot g.row.O.Denot). IsSealedOf s h made x.tree.nodes) (sym c.self.view_is) of.tree.nodes in
    let size : b.bounds.tip.size ≡ length list = ap (λ (x : MerkleizedView g.row.F.Denot g.row.D.Denot g.row.O.Denot). x.bounds.tip.size) c.self.view_is
    ∙ ap (λ (x : Commitment g.row.F.Denot g.row.D.Denot). x.size) of.batch.bounds.tip in
    let end : b.tree.nodes.leaves ≡ length list = c.self.invariant.tip ∙ size in
    let base : b.bounds.base.size ≡ c.args.self.now.bounds.base.size = ap (λ (x : MerkleizedView g.row.F.Denot g.row.D.Denot g.row.O.Denot). x.bounds.base.size) c.self.view_is in
    let start : b.tree.nodes.leaves - own_length b.tree ≡ c.args.self.now.bounds.base.size = omega (arith, c.self.invariant.tip, c.self.invariant.own, base) in
    let leaves : made ≡ leaves_from s h m 0 list = leaves_are s h m spelling g.met.O.Logged.spelled list in
    let alike = front_alike s h m spelling g.met.O.Logged.spelled ops list front in
    let lifts = c.in-Ok-speculative_proof.ensures in
    let is = lifts_made _ c.in-Ok-speculative_proof.proof lifts.below lifts.is lifts.says.batch h all made tree sealed alike in
    let floor : c.new-floor.result ≡ floor_of m list =
    c.new-floor.ensures ∙ c.as_u64.ensures ∙ ap (λ (x : MerkleizedView g.row.F.Denot g.row.D.Denot g.row.O.Denot). x.bounds.inactivity_floor) c.self.view_is ∙ of.batch.floor in
    let k : c.inactive_peaks-inactive.result ≡ inactive s (length list) (floor_of m list) =
    c.inactive_peaks-inactive.ensures ∙ ap (λ n. inactive s n c.new-floor.result) (c.new.ensures ∙ c.size-end.ensures.size ∙ end) ∙ ap (inactive s (length list)) floor in
    is ∙ ap (λ ls. proof_of s h ls c.inactive_peaks-inactive.result (meets (b.tree.nodes.leaves - own_length b.tree) b.tree.nodes.leaves)) leaves
    ∙ ap (λ n. proof_of s h (leaves_from s h m 0 list) n (meets (b.tree.nodes.leaves - own_length b.tree) b.tree.nodes.leaves)) k
    ∙ ap (λ n. proof_of s h (leaves_from s h m 0 list) (inactive s (length list) (floor_of m list)) (meets n b.tree.nodes.leaves)) start
    ∙ ap (λ n. proof_of s h (leaves_from s h m 0 list) (inactive s (length list) (floor_of m list)) (meets c.args.self.now.bounds.base.size n)) end
