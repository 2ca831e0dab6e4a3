use Rattle.std.proofs.Common.{length, sym, ◌∙◌, ap, subst, arith}
use Rattle.std.specs.Option.{ForSome}
use Rattle.chain_core.specs.Chains.{IsSealedAt}
use Rattle.chain_core.specs.Slots.{IsAlive}
use Rattle.chain_core.specs.declared.commitment.Commitment.{Commitment}
use Rattle.chain_core.proofs.ChainLemmas.{link_below, put_is, released_count}
use Rattle.keyless_db.specs.Batches.{UnmerkleizedView, bounds_of, sealing_of}
use Rattle.keyless_db.specs.DbView.{floor_in}
use Rattle.keyless_db.proofs.batch.UnmerkleizedBatch.merkleize.Goals as goal

pub release_link-requires : goal.release_link-requires
release_link-requires g c =
    record {
      alive = subst (λ (b : UnmerkleizedView g.row.F.Denot g.row.H-Digest.Denot g.row.O.Denot). ForSome b.parent (IsAlive c.args.pool.now)) (sym c.self.view_is) c.requires.parent;
    }

pub insert-requires-clause-after : goal.insert-requires-clause-after
insert-requires-clause-after g c x is =
    let same = ap (λ (b : UnmerkleizedView g.row.F.Denot g.row.H-Digest.Denot g.row.O.Denot). b.parent) c.self.view_is in
    let below = link_below c.args.pool.now c.args.self.parent c.self.inside.parent same c.requires.parent x is in
    let n = ap length c.release_link.ensures in
    omega (arith, below, n)

pub returns-in-Ok-insert-clause-number : goal.returns-in-Ok-insert-clause-number
returns-in-Ok-insert-clause-number g c =
    c.in-Ok-insert.ensures.number ∙ ap length c.release_link.ensures ∙ released_count c.args.pool.now c.self.inside.parent

pub returns-in-Ok-insert-clause-inserted : goal.returns-in-Ok-insert-clause-inserted
returns-in-Ok-insert-clause-inserted g c =
    let same = ap (λ (b : UnmerkleizedView g.row.F.Denot g.row.H-Digest.Denot g.row.O.Denot). b.parent) c.self.view_is in (
      c.in-Ok.batch,
      put_is c.args.pool.now _ _ c.self.inside.parent c.args.self.parent c.in-Ok.batch c.in-Ok-insert.ensures.ok c.release_link.ensures same,
      subst (λ (x : Commitment g.row.F.Denot g.row.H-Digest.Denot). IsSealedAt bounds_of g.H.Digest.Digest.bytes c.args.pool.now (sealing_of c.args.self) x (floor_in g.O.Logged.meaning c.args.db.now) c.args.inactivity_floor c.in-Ok.batch.bounds)
          c.commitment.ensures
          (subst (λ n. IsSealedAt bounds_of g.H.Digest.Digest.bytes c.args.pool.now (sealing_of c.args.self) c.commitment.result n c.args.inactivity_floor c.in-Ok.batch.bounds)
          c.inactivity_floor_loc-below.ensures c.in-Ok.ensures.sealed),
      c.in-Ok.ensures.tree,
      c.in-Ok.ensures.list,
      c.in-Ok.ensures.marks,
    )

pub insert-requires-clause-room : goal.insert-requires-clause-room
insert-requires-clause-room g c =
    let n = ap length c.release_link.ensures in
    let count = released_count c.args.pool.now c.self.inside.parent in
    let room = c.requires.room in
    omega (arith, n, count, room)
