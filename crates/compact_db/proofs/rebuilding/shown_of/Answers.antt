use Rattle.std.proofs.Common.{sym, ◌∙◌, subst}
use Rattle.std.proofs.lemmas.Option.{same_Some}
use Rattle.compact_db.specs.Pinned.{ProvesCommit}
use Rattle.compact_db.proofs.RebuildLemmas.{parted, last_is, shown_is, commit_last}
use Rattle.compact_db.proofs.rebuilding.shown_of.Goals as goal

pub returns-clause-proof : goal.returns-clause-proof
returns-clause-proof g c floor is =
    subst (λ f. ProvesCommit g.F.Family.shape g.H.Hasher.hash c.args.witness f c.in_ok-shown.shown.proof)
    (same_Some c.in_ok-commit.floor floor (sym c.in_ok-commit.ensures.floor ∙ is)) c.in_ok-shown.ensures.proof

pub returns-clause-list : goal.returns-clause-list
returns-clause-list g c ops ends few all is =
    let s = g.F.Family.shape in
    let h = g.H.Hasher.hash in
    let m = g.O.Logged.meaning in
    let w = c.args.witness in
    let admits = g.O.Read.admits c.args.codec.now in
    let last = parted s h m admits ops ends few all w is in
    let bytes = last_is s h m admits ops ends few all w is ∙ g.met.O.Logged.spelled last.last in
    let here = c.in_ok-commit.ensures.only last.last last.allowed bytes in (
      shown_is s h m admits ops ends few all w is g.met.F.Family.lawful c.in_ok-commit.commit c.in_ok-commit.floor c.in_ok-shown.shown.witness c.in_ok-shown.shown.proof
          here c.in_ok-commit.ensures.floor c.in_ok-shown.ensures.witness c.in_ok-shown.ensures.proof,
      commit_last s h m admits ops ends few all w is c.in_ok-commit.commit here,
    )
