use Rattle.std.proofs.Common.{◌-◌, min, max, ◌∙◌, ap, refl}
use Rattle.witness_store.proofs.KeptLemmas.{kept_place}
use Rattle.witness_store.proofs.SearchLemmas.{within_of_held}
use Rattle.witness_store.proofs.pruning.kept_start.Goals as goal

pub returns-clause-place : goal.returns-clause-place
returns-clause-place g c told held ws keeps =
    let first = c.in_ok-found.ensures.found told (within_of_held _ _ held) in
    kept_place g.D.Spelled.spelling (g.D.Read.admits tt) (g.D.Read.reads tt) (g.met.D.Read.lawful tt) _ _ ws held keeps c.args.boundary c.in_ok-found.found first _ _
    (c.min.ensures ∙ ap (λ e. min c.in_ok-found.found.position (e - 1)) (c.max.ensures ∙ ap (λ e. max e 1) c.bounds-end.ensures.end)) refl
