use Rattle.std.proofs.Common.{◌∙◌}
use Rattle.compact_db.proofs.ApplyLemmas.{both}
use Rattle.compact_db.proofs.DerivedLemmas.{root_over_is, root_under_is}
use Rattle.compact_db.proofs.PinLemmas.{inactive_fits}
use Rattle.compact_db.proofs.verified.build_witness.Goals as goal

pub root-requires : goal.root-requires
root-requires g c =
    inactive_fits g.F.Family.shape c.args.merkle.now.leaves _ _ _
    (c.new.ensures ∙ c.as_u64-size.ensures ∙ c.leaves.ensures.leaves) c.inactive_peaks-inactive.ensures

pub returns-clause-verified : goal.returns-clause-verified
returns-clause-verified g c = both c.witness_under.result _ _ _ c.witness_under.ensures.verified c.witness_under.ensures.verified (λ v told again all of.
    told all of (root_under_is g.F.Family.shape g.H.Hasher.hash all c.new-below.result c.args.floor c.inactive_peaks-inactive.result c.new.result _ c.in_ok-root.root
    c.inactive_peaks-inactive.ensures (c.new.ensures ∙ c.as_u64-size.ensures ∙ c.leaves.ensures.leaves ∙ of.count) (c.new-below.ensures ∙ c.as_u64.ensures)
    c.new-hasher.ensures (c.in_ok-root.ensures.root all of)))

pub returns-clause-derived : goal.returns-clause-derived
returns-clause-derived g c = both c.witness_under.result _ _ _ c.witness_under.ensures.derived c.witness_under.ensures.derived (λ v told again.
    told (root_over_is g.F.Family.shape g.H.Hasher.hash c.args.merkle.now c.new-below.result c.args.floor c.inactive_peaks-inactive.result c.new.result _ c.in_ok-root.root
    c.inactive_peaks-inactive.ensures (c.new.ensures ∙ c.as_u64-size.ensures ∙ c.leaves.ensures.leaves) (c.new-below.ensures ∙ c.as_u64.ensures)
    c.new-hasher.ensures c.in_ok-root.ensures.peaks))
