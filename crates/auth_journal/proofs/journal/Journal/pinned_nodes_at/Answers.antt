use Rattle.std.proofs.Common.{sym, subst}
use Rattle.std.specs.Prelude.{Result}
use Rattle.std.specs.Global.{Vec}
use Rattle.volume_base.specs.Volume.{Reads}
use Rattle.auth_journal.specs.Joined.{Joined}
use Rattle.auth_journal.specs.Proving.{ArePeaksAt}
use Rattle.auth_journal.specs.declared.error.Error.{Error}
use Rattle.auth_journal.specs.declared.error.Error.TheVariants as joined
use Rattle.auth_journal.proofs.ProofLemmas.{reads_lifted}
use Rattle.auth_journal.proofs.journal.Journal.pinned_nodes_at.Goals as goal

pub returns-clause-peaks : goal.returns-clause-peaks
returns-clause-peaks g c =
    let did = c.pinned_nodes_at.ensures in
    record {
      below = c.pinned_nodes_at.result;
      is = c.lift.ensures;
      says = subst (λ (j : Joined g.row.H-Digest.Denot g.row.C-Item-Cfg.Denot). ArePeaksAt g.V.Volume.tells g.F.Family.shape g.H.Digest.Spelled.spelling g.H.Digest.Read.admits (g.H.Digest.Read.reads tt) j.tree (g.V.Volume.state c.args.vol.now) c.args.loc c.pinned_nodes_at.result) c.self.view_is
          (record { refused = λ e is. (did.answer e is).0; within = did.within; counted = did.counted; told = did.told; nodes = did.nodes; kept = did.kept; first = did.first; unread = did.refused });
    }

pub returns-clause-reads : goal.returns-clause-reads
returns-clause-reads g c =
    let a = g.V.Volume.state c.args.vol.now in
    let b = g.V.Volume.state c.pinned_nodes_at.new.vol in
    subst (λ (r : Result (Vec g.row.H-Digest.Denot) (Error g.row.F.Denot)). Reads g.V.Volume.tells joined.Volume a b r) (sym c.lift.ensures) (reads_lifted g.V.Volume.tells a b c.pinned_nodes_at.result c.pinned_nodes_at.ensures.reads)
