use Rattle.std.proofs.Common.{ap, sym, subst}
use Rattle.chain_core.specs.declared.commitment.Commitment.{Commitment}
use Rattle.log_model.specs.Operations.{leaves_from}
use Rattle.tree_core.specs.Tree.{Tree, IsOf}
use Rattle.compact_db.specs.DbView.{DbView}
use Rattle.compact_db.proofs.DbLemmas.{state_of_list}
use Rattle.compact_db.proofs.database.CompactDb.new_batch.Goals as goal

pub returns-clause-list : goal.returns-clause-list
returns-clause-list g c list told =
    let tree : IsOf g.F.Family.shape g.H.Hasher.hash (leaves_from g.F.Family.shape g.H.Hasher.hash g.O.Logged.meaning 0 list) c.self.inside.merkle =
    subst (λ (t : Tree g.row.H-Digest.Denot). IsOf g.F.Family.shape g.H.Hasher.hash (leaves_from g.F.Family.shape g.H.Hasher.hash g.O.Logged.meaning 0 list) t)
    (sym (ap (λ (d : DbView g.row.F.Denot g.row.H-Digest.Denot g.row.O.Denot g.row.O-Cfg.Denot). d.tree) c.self.view_is)) told.tree_of in
    record {
      base = state_of_list g.F.Family.shape g.H.Hasher.hash g.O.Logged.meaning list _ _ _ told c.commitment.result
          (ap (λ (x : Commitment g.row.F.Denot g.row.H-Digest.Denot). x.size) c.commitment.ensures)
          (ap (λ (x : Commitment g.row.F.Denot g.row.H-Digest.Denot). x.root) c.commitment.ensures);
      tree = c.in_ok-tree.ensures.batch g.H.Hasher.hash _ tree;
    }
