use Rattle.codec_base.specs.PartsLaws.{whole_again}
use Rattle.codec_base.specs.Reads.{one_value, no_front}
use Rattle.codec_base.proofs.lawful.spelling_laws.Goals as goal

pub returns-clause-one_value : goal.returns-clause-one_value
returns-clause-one_value g c = one_value _ _ _ (g.met.T.Read.lawful c.args.cfg.now)

pub returns-clause-no_front : goal.returns-clause-no_front
returns-clause-no_front g c = no_front _ _ _ (g.met.T.Read.lawful c.args.cfg.now)

pub returns-clause-exact : goal.returns-clause-exact
returns-clause-exact g c = (g.met.T.Read.lawful c.args.cfg.now).exact

pub returns-clause-decoded : goal.returns-clause-decoded
returns-clause-decoded g c = whole_again _ _ _ (g.met.T.Read.lawful c.args.cfg.now)
