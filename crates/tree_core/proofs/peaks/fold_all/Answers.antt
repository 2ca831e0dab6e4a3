use Rattle.std.proofs.Common.{sym, ◌∙◌, arith}
use Rattle.tree_core.proofs.FoldLemmas.{forward_bytes, backward_bytes, joined_bytes, mixed_bytes}
use Rattle.tree_core.proofs.peaks.fold_all.Goals as goal

pub returns-in-ForwardFold : goal.returns-in-ForwardFold
returns-in-ForwardFold g c ds p = forward_bytes g.F.Family.shape c.args.leaves (g.P.Peaks.told c.args.peaks.now) g.H.Hasher.hash c.args.hasher.now c.args.inactive c.peak_count-count.result ds _ (sym c.root_bagging.ensures ∙ c.in-ForwardFold.is) c.requires.some c.peak_count-count.ensures p c.fold_first.ensures

pub returns-then-inactive-eq0 : goal.returns-then-inactive-eq0
returns-then-inactive-eq0 g c ds p = backward_bytes g.F.Family.shape c.args.leaves (g.P.Peaks.told c.args.peaks.now) g.H.Hasher.hash c.args.hasher.now c.args.inactive ds _ (sym c.root_bagging.ensures ∙ c.in-BackwardFold.is) c.requires.some c.if-inactive-eq0.true p c.fold_last.ensures

pub returns-then-inactive-count : goal.returns-then-inactive-count
returns-then-inactive-count g c ds p = joined_bytes g.F.Family.shape c.args.leaves (g.P.Peaks.told c.args.peaks.now) g.H.Hasher.hash c.args.hasher.now c.args.inactive ds _ (sym c.root_bagging.ensures ∙ c.in-BackwardFold.is) c.requires.some (c.if-inactive-count.true ∙ c.peak_count-count.ensures) p c.fold_first-joined.ensures

pub returns-else-inactive-count : goal.returns-else-inactive-count
returns-else-inactive-count g c ds p =
    rw c.fold.ensures (mixed_bytes g.F.Family.shape c.args.leaves (g.P.Peaks.told c.args.peaks.now) g.H.Hasher.hash c.args.hasher.now c.args.inactive ds _ _ (sym c.root_bagging.ensures ∙ c.in-BackwardFold.is) (omega arith) (omega (arith, c.requires.within, c.peak_count-count.ensures)) p c.fold_first-joined.ensures c.fold_last-in-BackwardFold.ensures)
