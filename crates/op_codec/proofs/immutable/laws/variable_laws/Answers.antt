use Rattle.op_codec.proofs.ImmutableExact.{variable_exact}
use Rattle.op_codec.proofs.immutable.laws.variable_laws.Goals as goal

pub returns : goal.returns
returns g c =
    variable_exact _ _ _ _ _ _ g.K.Spelled.spelling (g.K.Read.admits c.args.cfg.now.0) (g.K.Read.reads c.args.cfg.now.0) (g.met.K.Read.lawful c.args.cfg.now.0)
    g.V.Spelled.spelling (g.V.Read.admits c.args.cfg.now.1) (g.V.Read.reads c.args.cfg.now.1) (g.met.V.Read.lawful c.args.cfg.now.1)
