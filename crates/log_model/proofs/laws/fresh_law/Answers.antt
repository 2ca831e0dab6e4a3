use Rattle.std.proofs.Common.{◌≡◌, true, refl}
use Rattle.log_model.specs.Good.{AnyList}
use Rattle.log_model.proofs.StoredLemmas.{fresh_stands, good_fresh}
use Rattle.log_model.proofs.laws.fresh_law.Goals as goal

pub returns-clause-images : goal.returns-clause-images
returns-clause-images g c = λ admits first names lists is value clash empty. record {
  good = good_fresh g.O.Logged.meaning AnyList (λ v. admits v ≡ true) first tt is value;
  still = refl;
  stands = λ image left. fresh_stands g.F.Family.shape g.H.Hasher.hash g.H.Digest.Spelled.spelling g.O.Logged.meaning g.met.F.Family.lawful names first image (empty image left);
  clash = clash;
}

pub returns-clause-contents : goal.returns-clause-contents
returns-clause-contents g c = λ admits first names lists is value clash empty. record {
  good = good_fresh g.O.Logged.meaning AnyList (λ v. admits v ≡ true) first tt is value;
  still = refl;
  stands = fresh_stands g.F.Family.shape g.H.Hasher.hash g.H.Digest.Spelled.spelling g.O.Logged.meaning g.met.F.Family.lawful names first _ empty;
  clash = clash;
}
