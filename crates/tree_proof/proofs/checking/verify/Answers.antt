use Rattle.std.proofs.Common.{◌≡◌, ℕ, List, length, get_or, sym, ◌∙◌, ap, subst}
use Rattle.std.specs.List.{All}
use Rattle.std.proofs.lemmas.List.Elements.{recursion_from_All}
use Rattle.tree_proof.specs.Check.{Checks}
use Rattle.tree_proof.proofs.Soundness.{sound}
use Rattle.tree_proof.proofs.checking.verify.Goals as goal

pub returns-clause-sound : goal.returns-clause-sound
returns-clause-sound g c t all inactive few le e =
    let s = g.F.Family.shape in
    let h = g.H.Hasher.hash in
    let shown = (c.in_ok-shown.ensures {u = tt}).0 t in
    let sized = subst (λ (ds : List g.row.H-Digest.Denot). All (λ d. length (g.H.Digest.Digest.bytes d) ≡ g.H.Digest.FixedSize.width) ds) c.as_slice.ensures c.look_at_all.ensures.sized in
    let whole = recursion_from_All (λ d. length (h.bytes d) ≡ g.H.Digest.FixedSize.width) c.args.proof.now.digests
    (λ i d lt. ap length (g.met.H.Hasher.same_bytes (get_or c.args.proof.now.digests i d)) ∙ sized i d lt) in
    sound s h g.H.Digest.FixedSize.width
    (λ a b q. g.met.H.Digest.Digest.exact a b (sym (g.met.H.Hasher.same_bytes a) ∙ q ∙ g.met.H.Hasher.same_bytes b))
    g.met.H.Hasher.one_size (λ n. g.met.F.Family.lawful.peaks n)
    c.args.hasher.now all inactive c.args.proof.now c.args.start c.args.elements.now few le whole
    (subst (λ r. Checks s h c.args.hasher.now c.args.proof.now c.args.start c.args.elements.now r) e
    (subst (λ (a : ℕ). Checks s h c.args.hasher.now c.args.proof.now a c.args.elements.now c.args.root.now) c.as_u64.ensures shown))
