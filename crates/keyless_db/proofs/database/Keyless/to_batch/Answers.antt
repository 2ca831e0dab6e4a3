use Rattle.std.proofs.Common.{◌≡◌, sym, ◌∙◌, ap, subst}
use Rattle.auth_journal.specs.Joined.{IsJoinedOf}
use Rattle.chain_core.proofs.ChainLemmas.{bounds_by}
use Rattle.chain_core.specs.declared.bounds.Bounds.{Bounds}
use Rattle.keyless_db.specs.DbView.{DbView, snapshot_of}
use Rattle.keyless_db.proofs.DbLemmas.{snapshot_is}
use Rattle.keyless_db.proofs.MarkLemmas.{snapshot_marks}
use Rattle.keyless_db.proofs.database.Keyless.to_batch.Goals as goal

pub returns-in-Ok-insert-clause-inserted : goal.returns-in-Ok-insert-clause-inserted
returns-in-Ok-insert-clause-inserted g c =
    let bounds : c.in_ok-bounds.bounds ≡ snapshot_of g.O.Logged.meaning c.args.self.now =
    bounds_by _ c.in_ok-bounds.bounds _ _ _ _ c.in_ok-bounds.ensures c.commitment.ensures c.inactivity_floor_loc-floor.ensures in (
      _,
      c.in-Ok-insert.ensures.ok,
      c.in-Ok.ensures.empty.1,
      bounds,
      snapshot_marks g.F.Family.shape c.self.inside.journal.tree.tree c.in-Ok.tree.nodes c.in_ok-bounds.bounds c.in-Ok.ensures.stands c.in-Ok.ensures.marked.1
          (c.self.invariant.size ∙ ap (λ (d : DbView g.row.F.Denot g.row.H-Digest.Denot g.row.O.Denot g.row.O-Cfg.Denot). d.state.size) c.self.view_is
          ∙ sym (ap (λ (b : Bounds g.row.F.Denot g.row.H-Digest.Denot). b.db.size) bounds))
          (ap (λ (b : Bounds g.row.F.Denot g.row.H-Digest.Denot). b.ancestors) bounds),
      λ ops image held.
          let journal : IsJoinedOf g.F.Family.shape g.H.Hasher.hash g.H.Digest.Spelled.spelling (g.H.Digest.Read.admits tt) g.O.Spelled.spelling ops c.self.inside.journal image =
          subst (λ (d : DbView g.row.F.Denot g.row.H-Digest.Denot g.row.O.Denot g.row.O-Cfg.Denot).
          IsJoinedOf g.F.Family.shape g.H.Hasher.hash g.H.Digest.Spelled.spelling (g.H.Digest.Read.admits tt) g.O.Spelled.spelling ops d.journal image)
          (sym c.self.view_is) held.journal in
          snapshot_is g.F.Family.shape g.H.Hasher.hash g.O.Logged.meaning g.O.Spelled.spelling ops c.args.self.now held.db_of _ c.in-Ok.ensures.empty.1 bounds
          (c.in-Ok.ensures.batch ops image journal),
    )
