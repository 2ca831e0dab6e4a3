use Rattle.std.proofs.Common.{◌∙◌, ap}
use Rattle.compact_db.specs.Immutable.{sets_key}
use Rattle.compact_db.proofs.SetLemmas.{sets_lookup}
use Rattle.compact_db.proofs.immutable.crate+UnmerkleizedBatch+F+Operation+F+K+V+H.has_key.Goals as goal

pub returns : goal.returns
returns g c =
    c.has.ensures ∙ sets_lookup _ _ _ _ _ _ g.K.Ord.cmp c.self.inside.pending.values.entries c.args.key.now
    ∙ ap (λ v. sets_key g.K.Ord.cmp c.args.key.now v.pending) c.self.view_is
