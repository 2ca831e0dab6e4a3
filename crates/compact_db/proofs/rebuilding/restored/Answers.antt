use Rattle.std.proofs.Common.{◌≡◌, ◌+◌, ◌-◌, ◌∙◌, subst, arith}
use Rattle.compact_db.specs.Derived.{ArePinsIn}
use Rattle.compact_db.proofs.DerivedLemmas.{witness_by}
use Rattle.compact_db.proofs.rebuilding.restored.Goals as goal

pub returns-clause-list : goal.returns-clause-list
returns-clause-list g c all count pins =
    let behind = c.in_ok-merkle.ensures.list all count pins in
    (c.in_ok-tip.ensures.verified _ behind, c.prune_to_frontier.ensures.tree g.H.Hasher.hash _ behind)

pub returns-clause-witness : goal.returns-clause-witness
returns-clause-witness g c =
    let d = c.in_ok-tip.ensures.derived in
    let new = c.in_ok-merkle.ensures.leaves in
    let last : c.in_ok-merkle.merkle.leaves - 1 ≡ c.args.before = omega (arith, new) in
    let read = subst (λ n. ArePinsIn g.F.Family.shape c.in_ok-merkle.merkle n c.in_ok-tip.tip.witness.pinned_nodes) last d.pinned in
    witness_by c.in_ok-tip.tip.witness c.args.op_bytes (c.args.before + 1) c.args.pins.items d.bytes_are (d.size ∙ new) (c.in_ok-merkle.ensures.pins _ read)
