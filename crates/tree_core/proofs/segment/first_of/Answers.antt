use Rattle.std.proofs.Common.{length, refl, ◌∙◌, ap}
use Rattle.std.proofs.lemmas.Option.{slice_get_read}
use Rattle.tree_core.specs.Links.{ChainSegment}
use Rattle.tree_core.proofs.LinkLemmas.{first_here}
use Rattle.tree_core.proofs.segment.first_of.Goals as goal

pub returns-then-place-segments : goal.returns-then-place-segments
returns-then-place-segments g c =
    let read = slice_get_read c.args.segments.now (length c.args.segments.now) c.args.place c.index-segments-place.result refl c.if-place-segments.true c.index-segments-place.is in
    c.first.ensures ∙ ap (λ (l : ChainSegment g.row.D.Denot). l.leaves) c.deref.ensures ∙ first_here _ c.args.segments.now c.args.place c.args.end c.index-segments-place.result read
