use Rattle.std.proofs.Common.{◌≡◌, Some, None, Option, sym, ◌∙◌, ap, subst, arith}
use Rattle.std.specs.Prelude.{IfSome}
use Rattle.std.proofs.lemmas.Option.{same_Some}
use Rattle.merkle_full.proofs.OpeningLemmas.{node_in_map, node_in_log}
use Rattle.merkle_full.proofs.recovered.recovered_node.Goals as goal

pub returns-in-Some-clause-list : goal.returns-in-Some-clause-list
returns-in-Some-clause-list g c tells h all durable top stands =
    let did = c.in_ok-digest.ensures {u = tt} in
    node_in_map g.F.Family.shape h g.D.Spelled.spelling all durable top c.args.position _ c.args.map.now c.in-Some.digest
    (λ a b same. g.met.D.Digest.exact a b (sym (g.met.D.Digest.spelled a) ∙ same ∙ g.met.D.Digest.spelled b)) (let fits = c.ranges.position.fits in omega (arith, fits)) stands
    (λ bytes is. let x = did.pin bytes is in (x.0, sym c.in-Some.is ∙ x.1, x.2)) (λ is. sym c.in-Some.is ∙ did.none is)

pub returns-in-Ok-clause-list : goal.returns-in-Ok-clause-list
returns-in-Ok-clause-list g c tells h all durable top stands =
    node_in_log g.F.Family.shape h g.D.Spelled.spelling all durable top c.args.position _ c.args.map.now c.in-Ok.digest
    (λ a b same. g.met.D.Digest.exact a b (sym (g.met.D.Digest.spelled a) ∙ same ∙ g.met.D.Digest.spelled b)) stands (c.in-Ok.ensures.item tells)

pub returns-in-Some-clause-node : goal.returns-in-Some-clause-node
returns-in-Some-clause-node g c =
    let did = c.in_ok-digest.ensures {u = tt} in
    record {
      allowed = subst (λ (o : Option _). IfSome o (g.D.Read.admits tt)) c.in-Some.is did.allowed;
      pinned = λ bytes is.
          let x = did.pin bytes is in
          x.2 ∙ ap g.D.Spelled.spelling (sym (same_Some _ _ (sym c.in-Some.is ∙ x.1)));
      logged = λ none told. absurd (let bad : Some c.in-Some.digest ≡ None = sym c.in-Some.is ∙ did.none none in cc);
    }
