use Rattle.std.proofs.Common.{sym, ◌∙◌, subst}
use Rattle.auth_journal.specs.Joined.{IsJoinedOf}
use Rattle.keyless_db.specs.DbView.{DbView}
use Rattle.keyless_db.proofs.database.Keyless.new_batch.Goals as goal

pub returns-clause-list : goal.returns-clause-list
returns-clause-list g c ops image held =
    let journal : IsJoinedOf g.F.Family.shape g.H.Hasher.hash g.H.Digest.Spelled.spelling (g.H.Digest.Read.admits tt) g.O.Spelled.spelling ops c.self.inside.journal image =
    subst (λ (d : DbView g.row.F.Denot g.row.H-Digest.Denot g.row.O.Denot g.row.O-Cfg.Denot).
    IsJoinedOf g.F.Family.shape g.H.Hasher.hash g.H.Digest.Spelled.spelling (g.H.Digest.Read.admits tt) g.O.Spelled.spelling ops d.journal image)
    (sym c.self.view_is) held.journal in
    record { base = c.commitment.ensures ∙ held.db_of.state_is; tree = c.in-Ok.ensures.batch ops image journal }
