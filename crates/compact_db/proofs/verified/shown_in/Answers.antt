use Rattle.std.proofs.Common.{◌≤◌, length, sym, subst, ◌∙◌}
use Rattle.tree_core.specs.Tree.{Tree}
use Rattle.compact_db.proofs.PinLemmas.{inactive_fits}
use Rattle.compact_db.proofs.verified.shown_in.Goals as goal

pub proof-requires : goal.proof-requires
proof-requires g c =
    let fits = inactive_fits g.F.Family.shape c.args.merkle.now.leaves _ _ _
    (c.new.ensures ∙ c.as_u64-size.ensures ∙ c.leaves.ensures.leaves) c.inactive_peaks-inactive.ensures in
    subst (λ (t : Tree g.row.H-Digest.Denot). c.inactive_peaks-inactive.result ≤ length (g.F.Family.shape.heights t.leaves))
    (sym c.mem-2.ensures) fits
