use Rattle.compact_db.specs.Verified.{verified_leaves}
use Rattle.compact_db.proofs.DerivedLemmas.{verified_by}
use Rattle.compact_db.proofs.verified.witness_under.Goals as goal

pub returns-clause-verified : goal.returns-clause-verified
returns-clause-verified g c all of root =
    verified_by c.in_ok-shown.shown.witness c.args.root c.in_ok-shown.shown.proof (verified_leaves g.F.Family.shape g.H.Hasher.hash all c.args.op_bytes c.args.floor)
    (c.in_ok-shown.ensures.verified all of) root
