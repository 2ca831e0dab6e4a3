use Rattle.list_machine.specs.Step.{step}
use Rattle.twin_run.proofs.BothFaults.{full_is_own, full_is_outside, full_writes, compact_is_own, compact_is_outside, compact_writes, writes_fail, writes_done}
use Rattle.twin_run.proofs.BothSides.{next_good, on_settled, full_called, compact_waits, full_durable, both_called, called_twins}
use Rattle.twin_run.proofs.BothMoments.{store_stops, store_goes, takes_ok, takes_err}
use Rattle.twin_run.proofs.BothStates.{stored_less}
use Rattle.twin_run.proofs.sides.Twins.store.Goals as goal

pub returns-in-Err-clause-corrupt : goal.returns-in-Err-clause-corrupt
returns-in-Err-clause-corrupt g c = λ told config s of.
    full_is_outside c.in-Err.error _ c.full_fault.ensures (c.in-Err.ensures.errors told s of.full)

pub returns-in-Err-clause-own : goal.returns-in-Err-clause-own
returns-in-Err-clause-own g c = full_is_own c.in-Err.error _ c.full_fault.ensures

pub returns-in-Err-clause-names : goal.returns-in-Err-clause-names
returns-in-Err-clause-names g c = λ told. full_called c.args.self c.requires.shaped _ _ (c.in-Err.ensures.names told)

pub returns-in-Err-clause-writes : goal.returns-in-Err-clause-writes
returns-in-Err-clause-writes g c = full_writes c.in-Err.error _ c.full_fault.ensures _ _ _ c.in-Err.ensures.writes

pub returns-in-Ok-store-clause-settled : goal.returns-in-Ok-store-clause-settled
returns-in-Ok-store-clause-settled g c =
    let full = c.in-Ok.ensures in
    let compact = c.in-Ok-store.ensures in record {
      full = full.settled;
      compact = compact.settled;
      full_numbers = full.numbers;
      compact_numbers = compact.numbers;
      full_limit = full.limit;
      compact_limit = compact.limit;
    }

pub returns-in-Ok-store-clause-ok : goal.returns-in-Ok-store-clause-ok
returns-in-Ok-store-clause-ok g c = λ told config s of.
    let full = c.in-Ok.ensures in
    let compact = c.in-Ok-store.ensures in
    called_twins config _ _ _ c.args.self _ s (step config s c.args.command.now).1 c.requires.shaped
    (on_settled _ _ (returns-in-Ok-store-clause-settled g c)) (full.names told) (compact.names told) of
    (next_good config s c.args.command.now of.good) (full.state told config s of.full) (compact.state told config s)

pub returns-in-Ok-store-clause-durable : goal.returns-in-Ok-store-clause-durable
returns-in-Ok-store-clause-durable g c = λ told.
    let full = c.in-Ok.ensures in
    let compact = c.in-Ok-store.ensures in (
      full_durable c.args.self c.requires.shaped _ _ (compact.names told) _ full.settled.names c.args.command.now
          (full.durable told),
      compact.durable told,
    )

pub returns-in-Ok-store-clause-names : goal.returns-in-Ok-store-clause-names
returns-in-Ok-store-clause-names g c = λ told.
    both_called c.args.self c.requires.shaped _ _ _ (c.in-Ok.ensures.names told) (c.in-Ok-store.ensures.names told)

pub returns-in-Ok-store-clause-writes : goal.returns-in-Ok-store-clause-writes
returns-in-Ok-store-clause-writes g c =
    writes_done _ _ _ _ _ _ _ _ c.in-Ok.ensures.writes c.in-Ok-store.ensures.writes

pub returns-in-Err-store-clause-corrupt : goal.returns-in-Err-store-clause-corrupt
returns-in-Err-store-clause-corrupt g c = λ told config s of.
    compact_is_outside c.in-Err-store.error _ c.compact_fault.ensures (c.in-Err-store.ensures.errors told s
    (compact_waits c.args.self c.requires.shaped _ _ (c.in-Ok.ensures.names told) s of.compact))

pub returns-in-Err-store-clause-own : goal.returns-in-Err-store-clause-own
returns-in-Err-store-clause-own g c = compact_is_own c.in-Err-store.error _ c.compact_fault.ensures

pub returns-in-Err-store-clause-names : goal.returns-in-Err-store-clause-names
returns-in-Err-store-clause-names g c = λ told.
    both_called c.args.self c.requires.shaped _ _ _ (c.in-Ok.ensures.names told) (c.in-Err-store.ensures.names told)

pub returns-in-Err-store-clause-writes : goal.returns-in-Err-store-clause-writes
returns-in-Err-store-clause-writes g c = writes_fail _ _ _ _ _ _ _ c.in-Ok.ensures.writes
    (compact_writes c.in-Err-store.error _ c.compact_fault.ensures _ _ _ c.in-Err-store.ensures.writes)

pub returns-in-Err-clause-images : goal.returns-in-Err-clause-images
returns-in-Err-clause-images g c = λ told config s of.
    let full = c.in-Err.ensures in
    let good = of.good.good.log in
    store_stops config c.args.self c.requires.shaped of.of s (step config s c.args.command.now).1 _ _
    (g.met.V.Volume.contents_left c.args.volume.now told) (full.names told)
    (stored_less s good config c.args.command.now c.requires.about c.args.self.full.db) c.in-Err.error _
    (full.images told config s good of.full)

pub returns-in-Ok-store-clause-images : goal.returns-in-Ok-store-clause-images
returns-in-Ok-store-clause-images g c = λ told config s of.
    let full = c.in-Ok.ensures in
    let compact = c.in-Ok-store.ensures in
    let good = of.good.good.log in
    let next = (step config s c.args.command.now).1 in
    takes_ok config s next _ _ c.in-Ok-store.compact _
    (store_goes config c.args.self c.requires.shaped of.of s next _ _
    (g.met.V.Volume.contents_left c.args.volume.now told) (full.names told)
    (stored_less s good config c.args.command.now c.requires.about c.args.self.full.db) c.in-Ok.full _ _
    (compact.names told) (full.images told config s good of.full) (compact.images told config s good
    (compact_waits c.args.self c.requires.shaped _ _ (full.names told) s of.compact)))

pub returns-in-Err-store-clause-images : goal.returns-in-Err-store-clause-images
returns-in-Err-store-clause-images g c = λ told config s of.
    let full = c.in-Ok.ensures in
    let compact = c.in-Err-store.ensures in
    let good = of.good.good.log in
    let next = (step config s c.args.command.now).1 in
    takes_err config s next _ _ c.in-Err-store.error _
    (store_goes config c.args.self c.requires.shaped of.of s next _ _
    (g.met.V.Volume.contents_left c.args.volume.now told) (full.names told)
    (stored_less s good config c.args.command.now c.requires.about c.args.self.full.db) c.in-Ok.full _ _
    (compact.names told) (full.images told config s good of.full) (compact.images told config s good
    (compact_waits c.args.self c.requires.shaped _ _ (full.names told) s of.compact)))
