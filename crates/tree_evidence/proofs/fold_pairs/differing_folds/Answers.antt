use Rattle.std.proofs.Common.{rules, length, sym, ◌∙◌, ap}
use Rattle.tree_proof.proofs.InputLemmas.{fold_input_same}
use Rattle.tree_evidence.proofs.fold_pairs.differing_folds.Goals.{else-is_same-via-then-is_same+else-is_same-2, else-is_same-via-else-is_same}
use Rattle.tree_evidence.proofs.fold_pairs.differing_folds.Goals as goal

pub returns : goal.returns
returns g c =
    let h = g.H.Hasher.hash in
    let l = c.args.left in
    let r = c.args.right in
    let sized = ap length (g.met.H.Hasher.same_bytes l.one) ∙ c.is_same.ensures.sized ∙ sym (ap length (g.met.H.Hasher.same_bytes l.other)) in (
      c.in_ok-first.ensures,
      c.in_ok-second.ensures,
      λ e.
          let t = fold_input_same h (λ a b q. g.met.H.Digest.Digest.exact a b (sym (g.met.H.Hasher.same_bytes a) ∙ q ∙ g.met.H.Hasher.same_bytes b)) l.one r.one l.other r.other sized (sym c.in_ok-first.ensures ∙ e ∙ c.in_ok-second.ensures) in
          elim c.else-is_same.branch [
            | else-is_same-via-then-is_same+else-is_same-2 w ↦ search (w.if-is_same-2, w.is_same-then-is_same.ensures.same.1 t.1, rules)
            | else-is_same-via-else-is_same w ↦ search (w.if-is_same, c.is_same.ensures.same.1 t.0, rules)
          ],
    )
