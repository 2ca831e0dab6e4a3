use Rattle.op_codec.proofs.ImmutableExact.{fixed_exact}
use Rattle.op_codec.proofs.immutable.laws.fixed_laws.Goals as goal

pub returns : goal.returns
returns g c =
    fixed_exact _ _ _ _ _ _ g.K.Spelled.spelling (g.K.Read.admits c.args.cfg.now.0) (g.K.Read.reads c.args.cfg.now.0) (g.met.K.Read.lawful c.args.cfg.now.0)
    g.V.Spelled.spelling (g.V.Read.admits c.args.cfg.now.1) (g.V.Read.reads c.args.cfg.now.1) (g.met.V.Read.lawful c.args.cfg.now.1)
    g.K.FixedSize.width g.V.FixedSize.width (g.met.K.FixedSize.one_width c.args.cfg.now.0) (g.met.V.FixedSize.one_width c.args.cfg.now.1)
