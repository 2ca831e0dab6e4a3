use Rattle.chain_core.specs.Commitments.{is_same_equivalence, is_same-exact}
use Rattle.chain_core.proofs.Among.{list_any-Decides}
use Rattle.chain_core.proofs.bounds.is_among.Goals as goal

pub returns : goal.returns
returns g c =
    rw c.contains.ensures.value
    (list_any-Decides (is_same_equivalence g.D.Digest.bytes) (is_same-exact g.D.Digest.bytes g.met.D.Digest.exact) c.args.state.now c.args.states.now)
