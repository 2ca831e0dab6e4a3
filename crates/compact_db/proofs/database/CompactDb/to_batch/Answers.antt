use Rattle.std.proofs.Common.{◌≡◌, refl, ◌∙◌, ap, sym, subst}
use Rattle.log_model.specs.Operations.{leaves_from}
use Rattle.tree_core.specs.Tree.{Tree, IsOf}
use Rattle.compact_db.specs.DbView.{DbView, snapshot_of}
use Rattle.chain_core.specs.declared.bounds.Bounds.{Bounds}
use Rattle.compact_db.proofs.DbLemmas.{snapshot_is, bounds_by}
use Rattle.compact_db.proofs.MarkLemmas.{snapshot_marks}
use Rattle.compact_db.proofs.database.CompactDb.to_batch.Goals as goal

pub returns-in-Ok-clause-inserted : goal.returns-in-Ok-clause-inserted
returns-in-Ok-clause-inserted g c =
    let bounds : c.in_ok-bounds.bounds ≡ snapshot_of g.O.Logged.meaning c.args.self.now =
    bounds_by _ c.in_ok-bounds.bounds _ _ _ _ c.in_ok-bounds.ensures c.commitment.ensures c.inactivity_floor_loc.ensures in (
      _,
      c.in-Ok.ensures.ok,
      c.new.ensures,
      bounds,
      snapshot_marks g.F.Family.shape c.self.inside.merkle c.in_ok-tree.tree c.in_ok-bounds.bounds c.in_ok-tree.ensures.stands c.in_ok-tree.ensures.marked.1
          (c.self.invariant.size ∙ ap (λ (d : DbView g.row.F.Denot g.row.H-Digest.Denot g.row.O.Denot g.row.O-Cfg.Denot). d.tip.witness.size) c.self.view_is ∙ sym (ap (λ (b : Bounds g.row.F.Denot g.row.H-Digest.Denot). b.db.size) bounds))
          (ap (λ (b : Bounds g.row.F.Denot g.row.H-Digest.Denot). b.ancestors) bounds),
      λ list told.
          let tree : IsOf g.F.Family.shape g.H.Hasher.hash (leaves_from g.F.Family.shape g.H.Hasher.hash g.O.Logged.meaning 0 list) c.self.inside.merkle =
          subst (λ (t : Tree g.row.H-Digest.Denot). IsOf g.F.Family.shape g.H.Hasher.hash (leaves_from g.F.Family.shape g.H.Hasher.hash g.O.Logged.meaning 0 list) t)
          (sym (ap (λ (d : DbView g.row.F.Denot g.row.H-Digest.Denot g.row.O.Denot g.row.O-Cfg.Denot). d.tree) c.self.view_is)) told.tree_of in
          snapshot_is g.F.Family.shape g.H.Hasher.hash g.O.Logged.meaning list _ _ _ told _
          (record { size = c.args.self.now.tip.witness.size; root = c.args.self.now.tip.root }) refl refl c.new.ensures bounds
          (c.in_ok-tree.ensures.batch g.H.Hasher.hash _ tree),
    )
