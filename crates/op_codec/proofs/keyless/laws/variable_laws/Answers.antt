use Rattle.op_codec.proofs.KeylessExact.{variable_exact}
use Rattle.op_codec.proofs.keyless.laws.variable_laws.Goals as goal

pub returns : goal.returns
returns g c = variable_exact _ _ _ _ g.V.Spelled.spelling (g.V.Read.admits c.args.cfg.now) (g.V.Read.reads c.args.cfg.now) (g.met.V.Read.lawful c.args.cfg.now)
