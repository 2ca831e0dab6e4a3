use Rattle.std.proofs.Common.{rules, ◌≡◌, ℕ, List, length, get_or, sym, ◌∙◌, ap, subst}
use Rattle.std.specs.Prelude.{IsTrue}
use Rattle.std.specs.List.{All}
use Rattle.std.proofs.lemmas.List.Elements.{recursion_from_All}
use Rattle.tree_proof.specs.Check.{Checks}
use Rattle.tree_proof.specs.Pinned.{HasPins}
use Rattle.tree_proof.proofs.PinsSound.{pins-sound}
use Rattle.tree_proof.proofs.pinned.verify_proof_and_pinned_nodes.Goals as goal

pub returns-clause-sound : goal.returns-clause-sound
returns-clause-sound g c t all inactive few le e =
    let s = g.F.Family.shape in
    let h = g.H.Hasher.hash in
    let size = g.H.Digest.FixedSize.width in
    let proof = c.args.proof.now in
    let items = c.args.elements.now in
    let pins = c.args.pinned.now in
    let yes : IsTrue c.in_ok-verify.field-0 = search (c.if-not-branch.false, rules) in
    let checks = (c.in_ok-verify.ensures {u = tt}).checks.0 yes in
    let shown = (c.in_ok-verify.ensures {u = tt}).sound yes all inactive few le e in
    let has = subst (λ (a : ℕ). HasPins s h proof a (length items) pins) c.as_u64-from.ensures ((c.in_ok-has_pins.ensures {u = tt} (length items) checks.bounds.some).0 t) in
    let sized = subst (λ (ds : List g.row.H-Digest.Denot). All (λ d. length (g.H.Digest.Digest.bytes d) ≡ size) ds) c.as_slice.ensures c.look_at_all.ensures.sized in
    let whole = recursion_from_All (λ d. length (h.bytes d) ≡ size) proof.digests (λ i d lt. ap length (g.met.H.Hasher.same_bytes (get_or proof.digests i d)) ∙ sized i d lt) in
    let whole_pins = recursion_from_All (λ d. length (h.bytes d) ≡ size) pins (λ i d lt. ap length (g.met.H.Hasher.same_bytes (get_or pins i d)) ∙ c.look_at_all-2.ensures.sized i d lt) in (
      shown,
      pins-sound s g.met.F.Family.lawful g.met.F.Family.keeps h size (λ a b q. g.met.H.Digest.Digest.exact a b (sym (g.met.H.Hasher.same_bytes a) ∙ q ∙ g.met.H.Hasher.same_bytes b))
          g.met.H.Hasher.one_size c.args.hasher.now all inactive proof c.args.start items pins few le whole whole_pins (subst (λ r. Checks s h c.args.hasher.now proof c.args.start items r) e checks) has,
    )
