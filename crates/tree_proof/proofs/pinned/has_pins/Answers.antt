use Rattle.std.proofs.Common.{◌≡◌, ◌+◌, Some, length, take, sym, ◌∙◌, ap, arith}
use Rattle.std.specs.Option.{option_map}
use Rattle.tree_proof.proofs.PinnedLemmas.{no_pins, has_pins, are_front}
use Rattle.tree_proof.proofs.pinned.has_pins.Goals as goal

pub returns-in-None : goal.returns-in-None
returns-in-None g c count some =
    let s = g.F.Family.shape in
    let h = g.H.Hasher.hash in
    let a = c.args.start in
    let nodes = c.deref.ensures.value ∙ c.in_ok-nodes.ensures.nodes (a + count) (omega (arith, some)) in
    let rebuilt = ap (option_map (λ v. v.items)) (sym c.in-None.is) ∙ c.in_ok-rebuild_nodes.ensures in
    let none = rw c.new.ensures at rebuilt in (
      λ no. absurd (cc),
      λ has. absurd (no_pins s h c.args.proof.now a count c.args.pinned.now c.deref.result.now (rw c.as_u64.ensures at nodes) none has),
    )

pub returns : goal.returns
returns g c count some =
    let s = g.F.Family.shape in
    let h = g.H.Hasher.hash in
    let a = c.args.start in
    let nodes = c.deref.ensures.value ∙ c.in_ok-nodes.ensures.nodes (a + count) (omega (arith, some)) in
    let ds = c.deref-in-Some.result.now in
    let rebuilt = ap Some c.deref-in-Some.ensures.value ∙ ap (option_map (λ v. v.items)) (sym c.in-Some.is) ∙ c.in_ok-rebuild_nodes.ensures in
    let here = rw c.new.ensures at rebuilt in
    let counted : length c.args.pinned.now ≡ length (s.heights a) = omega (arith, c.if-pinned-from.false, c.from.ensures, c.peak_count.ensures) in
    let left = rw c.as_u64.ensures at nodes in (
      λ yes. has_pins s h c.args.proof.now a count c.args.pinned.now c.deref.result.now ds left here counted (c.begins_with.ensures.0 yes ∙ ap (take (length ds)) c.as_slice.ensures),
      λ has. c.begins_with.ensures.1 (are_front s h c.args.proof.now a count c.args.pinned.now c.deref.result.now ds left here has ∙ sym (ap (take (length ds)) c.as_slice.ensures)),
    )
