use Rattle.std.proofs.Common.{sym, ◌∙◌}
use Rattle.tree_proof.proofs.OneRoot.{one_root}
use Rattle.tree_proof.proofs.laws.one_root_law.Goals as goal

pub returns : goal.returns
returns g c bagging first second j k few_first few_second le_j le_k e =
    one_root g.F.Family.shape g.H.Hasher.hash g.H.Digest.FixedSize.width
    (λ a b q. g.met.H.Digest.Digest.exact a b (sym (g.met.H.Hasher.same_bytes a) ∙ q ∙ g.met.H.Hasher.same_bytes b))
    g.met.H.Hasher.one_size (λ n. g.met.F.Family.lawful.peaks n) bagging first second j k few_first few_second le_j le_k e
