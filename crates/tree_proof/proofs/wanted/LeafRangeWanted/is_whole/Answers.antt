use Rattle.std.proofs.Common.{◌+◌, ◌^◌, ◌≤◌, inl, inr, arith}
use Rattle.std.proofs.lemmas.Bool.Decides.{leb_tells}
use Rattle.tree_proof.specs.Cover.{meets}
use Rattle.tree_proof.proofs.CoverSteps.{whole-none, meets-inside}
use Rattle.tree_proof.proofs.wanted.LeafRangeWanted.is_whole.Goals as goal

pub returns-then-self-x : goal.returns-then-self-x
returns-then-self-x c high =
    let range = c.args.self.now in
    let end : c.args.x + 2 ^ c.args.height ≤ range.end = elim (leb_tells (c.args.x + c.width.result) range.end) [
      | inl t ↦ omega (arith, t.1, c.width.ensures)
      | inr u ↦ absurd (let no = rw u.0 at high in cc)
    ] in
    whole-none (meets range.start range.end) c.args.x c.args.height (meets-inside range.start range.end c.args.x c.args.height c.if-self-x.true end)
