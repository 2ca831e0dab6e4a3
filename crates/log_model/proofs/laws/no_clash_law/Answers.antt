use Rattle.std.proofs.Common.{sym, ◌∙◌}
use Rattle.log_model.proofs.HashedLemmas.{lists_are_one}
use Rattle.log_model.proofs.laws.no_clash_law.Goals as goal

pub returns : goal.returns
returns g c =
    lists_are_one g.F.Family.shape g.H.Hasher.hash g.O.Logged.meaning (g.O.Read.admits c.args.cfg.now)
    (λ a b pa pb q. c.spelling_laws.ensures.one_value a b pa pb (sym (g.met.O.Logged.spelled a) ∙ q ∙ g.met.O.Logged.spelled b))
    c.encodings_law.ensures
