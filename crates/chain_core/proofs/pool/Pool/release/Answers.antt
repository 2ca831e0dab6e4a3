use Rattle.std.proofs.Common.{refl}
use Rattle.std.specs.Option.{option_and_then}
use Rattle.chain_core.specs.Slots.{without_hold}
use Rattle.chain_core.proofs.SlotLemmas.{slot_at-found, slots-changed, dead-kept, on_ok}
use Rattle.chain_core.proofs.pool.Pool.release.Goals as goal

pub release_at-requires : goal.release_at-requires
release_at-requires g c = record { held = λ b e. (c.self.invariant c.id.inside.number b e).held }

pub returns-clause-alive : goal.returns-clause-alive
returns-clause-alive g c = rw (slot_at-found c.self.inside.batches c.self.inside.drawn c.args.self.now c.self.view_is c.self.invariant c.id.inside.number c.args.id c.id.view_is) c.release_at.ensures.alive

pub returns-clause-ok : goal.returns-clause-ok
returns-clause-ok g c =
    on_ok c.release_at.result
    (slots-changed c.self.inside.batches c.self.inside.drawn c.args.self.now c.self.view_is c.self.invariant c.id.inside.number c.args.id c.id.view_is c.release_at.new.batches (option_and_then without_hold) c.release_at.ensures.less)

pub returns-clause-for_ever : goal.returns-clause-for_ever
returns-clause-for_ever g c =
    dead-kept c.self.inside.batches c.self.inside.drawn c.args.self.now c.self.view_is c.self.invariant c.id.inside.number c.args.id c.id.view_is c.release_at.new.batches (option_and_then without_hold) c.release_at.ensures.less refl
