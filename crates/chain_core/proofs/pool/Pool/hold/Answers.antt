use Rattle.std.proofs.Common.{arith}
use Rattle.std.proofs.Common.{refl}
use Rattle.std.specs.Option.{option_map}
use Rattle.chain_core.specs.Slots.{with_hold}
use Rattle.chain_core.proofs.SlotLemmas.{slot_at-found, holds_of-found, slots-changed, dead-kept, on_ok}
use Rattle.chain_core.proofs.pool.Pool.hold.Goals as goal

pub hold_at-requires : goal.hold_at-requires
hold_at-requires g c = record {
  room = λ b e.
      omega (arith, c.requires.room, holds_of-found c.self.inside.batches c.self.inside.drawn c.args.self.now c.self.view_is c.self.invariant c.id.inside.number c.args.id c.id.view_is b e);
}

pub returns-clause-alive : goal.returns-clause-alive
returns-clause-alive g c = rw (slot_at-found c.self.inside.batches c.self.inside.drawn c.args.self.now c.self.view_is c.self.invariant c.id.inside.number c.args.id c.id.view_is) c.hold_at.ensures.alive

pub returns-clause-ok : goal.returns-clause-ok
returns-clause-ok g c =
    on_ok c.hold_at.result
    (slots-changed c.self.inside.batches c.self.inside.drawn c.args.self.now c.self.view_is c.self.invariant c.id.inside.number c.args.id c.id.view_is c.hold_at.new.batches (option_map with_hold) c.hold_at.ensures.more)

pub returns-clause-for_ever : goal.returns-clause-for_ever
returns-clause-for_ever g c =
    dead-kept c.self.inside.batches c.self.inside.drawn c.args.self.now c.self.view_is c.self.invariant c.id.inside.number c.args.id c.id.view_is c.hold_at.new.batches (option_map with_hold) c.hold_at.ensures.more refl
