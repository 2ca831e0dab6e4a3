use Rattle.std.proofs.Common.{ap, ◌∙◌, sym}
use Rattle.twin_side.specs.Proving.{outside_refusal}
use Rattle.twin_side.proofs.CompactProving.{size_here, refused_outside}
use Rattle.twin_side.proofs.compact_proofs.Side+Compact.prove_commit.Goals as goal

pub returns-in-Some-clause-ok : goal.returns-in-Some-clause-ok
returns-in-Some-clause-ok g c told config s good =
    refused_outside s c.args.n c.in-Some.refusal
    (ap (λ k. outside_refusal k c.args.n)
    (sym (size_here config _ c.args.self.now.db c.args.self.now.numbers s good) ∙ sym (c.as_u64.ensures ∙ c.size.ensures))
    ∙ sym c.outside_refusal.ensures ∙ c.in-Some.is)
