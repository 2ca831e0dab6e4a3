use Rattle.std.proofs.Common.{◌-◌, refl, arith}
use Rattle.tree_shape.specs.Slow.{leaf_digests}
use Rattle.tree_proof.specs.SlowProof.{slow_proof}
use Rattle.tree_proof.proofs.PinsComplete.{slow-pins}
use Rattle.tree_proof.proofs.laws.slow_pins_law.Goals as goal

pub returns : goal.returns
returns g c elements inactive a b r =
    let s = g.F.Family.shape in
    let h = g.H.Hasher.hash in
    slow-pins s h g.met.F.Family.lawful g.met.F.Family.keeps (leaf_digests s h elements) (slow_proof s h elements inactive a b) a b (b - a) r.some (omega (arith, r.some, r.within)) (omega (arith, r.some)) refl
