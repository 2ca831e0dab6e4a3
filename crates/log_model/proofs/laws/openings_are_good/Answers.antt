use Rattle.std.proofs.Common.{◌≡◌, true}
use Rattle.log_model.specs.Good.{AnyList}
use Rattle.log_model.proofs.OpeningLemmas.{opens_past, opens_good, opens_some, opens_at_cap}
use Rattle.log_model.proofs.RealignLemmas as realign
use Rattle.log_model.proofs.laws.openings_are_good.Goals as goal

pub returns-clause-good : goal.returns-clause-good
returns-clause-good g c = λ admits first names state image good stands.
    let s = g.F.Family.shape in
    let h = g.H.Hasher.hash in
    let m = g.O.Logged.meaning in
    record {
      past = opens_past s h g.H.Digest.Spelled.spelling m AnyList (λ v. admits v ≡ true) first names state image good stands;
      good = record {
        good = opens_good s h g.H.Digest.Spelled.spelling m AnyList (λ v. admits v ≡ true) first names state image AnyList good stands tt;
        some = opens_some s h g.H.Digest.Spelled.spelling m AnyList (λ v. admits v ≡ true) first names state image good;
      };
      cap = opens_at_cap m first names state image good.log;
    }

pub returns-clause-realign : goal.returns-clause-realign
returns-clause-realign g c = λ admits first names state image good stands.
    realign.realigned g.F.Family.shape g.H.Hasher.hash g.H.Digest.Spelled.spelling g.O.Logged.meaning AnyList (λ v. admits v ≡ true) first names state image good.good stands good.some
