use Rattle.std.proofs.Common.{◌≡◌, ◌≤◌, List, length, map, take, drop, refl, sym, ◌∙◌, ap, subst, arith}
use Rattle.std.specs.Prelude.{ℕ, slice_range}
use Rattle.std.proofs.lemmas.List.{length-map, length-take-le, drop-map, take-map, take-take}
use Rattle.tree_shape.specs.Slow.{leaf_digests}
use Rattle.tree_shape.specs.Shape.{inactive}
use Rattle.tree_shape.specs.declared.bagging.Bagging.TheVariants.{ForwardFold}
use Rattle.tree_shape.proofs.InactiveLemmas.{inactive-within}
use Rattle.tree_proof.specs.Check.{Checks}
use Rattle.tree_proof.specs.Cover.{meets}
use Rattle.tree_proof.specs.SlowProof.{IsRange, proof_of}
use Rattle.log_model.specs.Operations.{floor_of, root_of}
use Rattle.log_model.specs.Proofs.{proof_end}
use Rattle.log_model.proofs.OperationLemmas.{root_of-parts}
use Rattle.keyless_db.proofs.LawLemmas.{spelled_all}
use Rattle.keyless_db.proofs.ProofLemmas.{between, provable_at}
use Rattle.keyless_db.proofs.laws.answers_verify_law.Goals as goal

pub returns : goal.returns
returns g c ops start n a most few some fit =
    let s = g.F.Family.shape in
    let h = g.H.Hasher.hash in
    let m = g.O.Logged.meaning in
    let spelling = g.O.Spelled.spelling in
    let p = provable_at m ops start n a fit in
    let front = take n ops in
    let elements = map m.encoding front in
    let e = proof_end n a most in
    let floor = floor_of m front in
    let off = inactive s n floor in
    let count : length front ≡ n = length-take-le n ops p.high in
    let size : length elements ≡ n = length-map front m.encoding ∙ count in
    let range : IsRange s elements off a e = record {
      some = omega (arith, p.low, some);
      within = omega (arith, size);
      few = omega (arith, size, p.high, few);
      peaks = subst (λ k. off ≤ length (s.heights k)) (sym size) (inactive-within s n floor);
    } in
    let checks = c.range_proofs_check.ensures ForwardFold elements off a e range in
    let proof = proof_of {F = g.row.F.Denot} s h (leaf_digests s h elements) off (meets a e) in
    let rooted = root_of-parts s h m front (leaf_digests s h elements) n floor off refl (sym count) refl refl in
    let shown : slice_range elements a e ≡ map spelling (drop a (take e ops)) =
    between elements a e (omega (arith, p.low)) ∙ ap (drop a) (take-map m.encoding e front) ∙ drop-map m.encoding a (take e front) ∙ ap (λ (xs : List g.row.O.Denot). map m.encoding (drop a xs)) (take-take e n ops (omega arith))
    ∙ spelled_all m.encoding spelling g.met.O.Logged.spelled (drop a (take e ops)) in
    subst (λ (items : List (List ℕ)). Checks s h ForwardFold proof a items (root_of s h m front)) shown (subst (λ (r : g.row.H-Digest.Denot). Checks s h ForwardFold proof a (slice_range elements a e) r) rooted checks)
