use Rattle.std.proofs.Common.{◌≤◌, length, sym, ◌∙◌, ap, subst}
use Rattle.tree_shape.specs.Shape.{inactive}
use Rattle.auth_journal.specs.Batched.{UnsealedItems}
use Rattle.log_model.proofs.OperationLemmas.{inactive-within}
use Rattle.keyless_db.proofs.SealLemmas.{from_ended, list_ended, root_ended}
use Rattle.keyless_db.proofs.sealing.hashed.Goals as goal

pub merkleize-requires : goal.merkleize-requires
merkleize-requires g c =
    subst (λ (u : UnsealedItems g.row.H-Digest.Denot g.row.O.Denot). c.args.reached ≤ length u.kept) (sym c.in-Ok.ensures.ok) c.requires.reached

pub root-requires : goal.root-requires
root-requires g c =
    let n = c.size-leaves.ensures.size in
    let few = inactive-within g.F.Family.shape c.in-Ok-merkleize.sealed.nodes.leaves c.args.floor in
    subst (λ k. k ≤ length (g.F.Family.shape.heights c.in-Ok-merkleize.sealed.nodes.leaves))
    (sym (c.inactive_peaks-inactive.ensures ∙ ap (λ k. inactive g.F.Family.shape k c.args.floor) (c.new.ensures ∙ n))) few

pub returns-clause-sealed : goal.returns-clause-sealed
returns-clause-sealed g c =
    from_ended g.F.Family.shape g.H.Hasher.hash g.O.Logged.meaning g.O.Spelled.spelling c.args.tree c.args.commit
    c.add.new.self c.in-Ok.ensures.ok c.args.reached c.in-Ok-merkleize.sealed c.in-Ok-merkleize.ensures.sealed

pub returns-clause-list : goal.returns-clause-list
returns-clause-list g c list of =
    list_ended g.F.Family.shape g.H.Hasher.hash g.O.Logged.meaning g.O.Spelled.spelling c.args.tree c.args.commit
    c.add.new.self c.in-Ok.ensures.ok c.args.reached c.in-Ok-merkleize.sealed c.in-Ok-merkleize.ensures.sealed
    c.in-Ok-merkleize.ensures.batch list of

pub returns-clause-root : goal.returns-clause-root
returns-clause-root g c list of count below =
    let sealed = list_ended g.F.Family.shape g.H.Hasher.hash g.O.Logged.meaning g.O.Spelled.spelling c.args.tree c.args.commit
    c.add.new.self c.in-Ok.ensures.ok c.args.reached c.in-Ok-merkleize.sealed c.in-Ok-merkleize.ensures.sealed
    c.in-Ok-merkleize.ensures.batch list of in
    root_ended g.F.Family.shape g.H.Hasher.hash g.O.Logged.meaning g.O.Spelled.spelling c.args.tree c.args.commit
    c.add.new.self c.in-Ok.ensures.ok c.args.reached c.in-Ok-merkleize.sealed c.in-Ok-merkleize.ensures.sealed g.met.O.Logged.spelled
    list count sealed c.args.floor _ c.inactive_peaks-inactive.result c.in-Ok-root.root _
    (c.new.ensures ∙ c.size-leaves.ensures.size) below c.inactive_peaks-inactive.ensures c.new-hasher.ensures
    c.in-Ok-root.ensures.root
