use Rattle.std.proofs.Common.{◌≡◌, inl, inr, ℕ, List, [], ◌∷◌, ◌++◌, Some, length, refl, sym, ◌∙◌, ap, arith}
use Rattle.std.specs.Prelude.{slice_get}
use Rattle.std.proofs.lemmas.Bool.{cases_lt}
use Rattle.std.proofs.lemmas.Option.{slice_get_read, slice_get_within, same_Some}
use Rattle.tree_shape.specs.Places.{get-append, get-behind}
use Rattle.tree_core.specs.Pruned.{made_from}
use Rattle.tree_core.proofs.HashedLemmas.{nothing_hashed, leaf_hashed}
use Rattle.tree_core.proofs.Since.{nothing_since, leaf_since}
use Rattle.tree_core.proofs.growth.nodes_after.Goals as goal

pub loop-i-init : goal.loop-i-init
loop-i-init g c = record {
  counted = ap length c.in_ok-since.ensures.items ∙ (nothing_since g.F.Family.shape g.H.Hasher.hash [] c.args.mark.now.leaves).1;
  told = λ all peaks more. c.in_ok-since.ensures.items ∙ (nothing_since g.F.Family.shape g.H.Hasher.hash all c.args.mark.now.leaves).0;
  leaves = λ i d lt is. absurd (omega (arith, lt));
  hashed = nothing_hashed g.F.Family.shape g.H.Hasher.hash c.args.mark.now.leaves c.args.mark.now.peaks.items 0 c.in_ok-since.since.items c.in_ok-since.ensures.items;
}

pub loop-i-preserved : goal.loop-i-preserved
loop-i-preserved g c = record {
  counted = c.in_ok-push_parents.ensures.counted;
  told = λ all peaks more. c.in_ok-push_parents.ensures.nodes all peaks (rw c.in_ok-push.ensures.items
      (leaf_since g.F.Family.shape g.H.Hasher.hash all c.args.mark.now.leaves c.loop-i.i c.loop-i.since.items _ c.loop-i.invariant.counted
      (more.1 c.loop-i.i ∙ slice_get_read c.args.digests.now (length c.args.digests.now) c.loop-i.i _ refl c.loop-i-test.true c.index-digests-i.is) (c.loop-i.invariant.told all peaks more)));
  leaves = λ j d lt is.
      let s = g.F.Family.shape in
      let b = c.args.mark.now.leaves in
      let since = c.loop-i.since.items in
      let y = c.index-digests-i.result in
      let pushed = c.in_ok-push.ensures.items in
      let place = length (made_from s b j) in
      elim (cases_lt j c.loop-i.i) [
        | inl before ↦ c.in_ok-push_parents.ensures.front place d
            (ap (λ (l : List _). slice_get l place) pushed ∙ get-append since (y ∷ []) place d (c.loop-i.invariant.leaves j d before is))
        | inr here ↦
            let same : j ≡ c.loop-i.i = omega (arith, here, lt) in
            let at = slice_get_read c.args.digests.now (length c.args.digests.now) c.loop-i.i y refl c.loop-i-test.true c.index-digests-i.is in
            let is_d : y ≡ d = same_Some y d (sym at ∙ ap (slice_get c.args.digests.now) (sym same) ∙ is) in
            let end : place ≡ length since = ap (λ (k : ℕ). length (made_from s b k)) same ∙ sym c.loop-i.invariant.counted in
            c.in_ok-push_parents.ensures.front place d
            (ap (λ (l : List _). slice_get l place) pushed ∙ ap (slice_get (since ++ (y ∷ []))) end ∙ get-behind since [] y ∙ ap Some is_d)
      ];
  hashed = c.in_ok-push_parents.ensures.hashed (rw c.in_ok-push.ensures.items
      (leaf_hashed g.F.Family.shape g.H.Hasher.hash c.args.mark.now.leaves c.args.mark.now.peaks.items c.loop-i.i c.loop-i.since.items _ c.loop-i.invariant.counted c.loop-i.invariant.hashed));
}

pub returns-clause-leaves : goal.returns-clause-leaves
returns-clause-leaves g c i d is =
    let lt = slice_get_within c.args.digests.now i d is in
    c.loop-i.invariant.leaves i d (omega (arith, lt, c.loop-i-test.false)) is
