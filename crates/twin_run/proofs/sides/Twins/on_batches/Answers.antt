use Rattle.twin_run.specs.Twins.{AreKept}
use Rattle.twin_run.specs.declared.sides.Twins.{Twins}
use Rattle.twin_run.proofs.BothFaults.{full_is_own, full_is_memory, compact_is_own, compact_is_memory, memory_untold, memory_other, other_failed}
use Rattle.twin_run.proofs.BothSides.{on_kept, batches_shaped, agreed_meet, agreed_sound, if_ok}
use Rattle.twin_run.proofs.Left.{agreed_left}
use Rattle.twin_run.proofs.sides.Twins.on_batches.Goals as goal

pub returns-in-Err-clause-corrupt : goal.returns-in-Err-clause-corrupt
returns-in-Err-clause-corrupt c = λ config image s told of. memory_untold _
    (full_is_memory c.in-Err.error _ c.full_fault.ensures c.in-Err.ensures.memory)

pub returns-in-Err-clause-own : goal.returns-in-Err-clause-own
returns-in-Err-clause-own c = full_is_own c.in-Err.error _ c.full_fault.ensures

pub returns-in-Err-clause-unfailed : goal.returns-in-Err-clause-unfailed
returns-in-Err-clause-unfailed c = other_failed _ (memory_other _
    (full_is_memory c.in-Err.error _ c.full_fault.ensures c.in-Err.ensures.memory))

pub returns-in-Ok-on_batches-clause-kept : goal.returns-in-Ok-on_batches-clause-kept
returns-in-Ok-on_batches-clause-kept c =
    if_ok c.agreed.result _ (record { full = c.in-Ok.ensures.db; compact = c.in-Ok-on_batches.ensures.db })

pub returns-in-Ok-on_batches-clause-refused : goal.returns-in-Ok-on_batches-clause-refused
returns-in-Ok-on_batches-clause-refused c = agreed_left c.args.command.now c.args.self.now (record {
  full = c.on_batches.new.self;
  compact = c.on_batches-2.new.self;
}) c.in-Ok.answer c.in-Ok-on_batches.other c.agreed.result c.agreed.ensures.full c.agreed.ensures.both
    c.in-Ok.ensures.refused c.in-Ok-on_batches.ensures.refused

pub returns-in-Ok-on_batches-clause-goes_on : goal.returns-in-Ok-on_batches-clause-goes_on
returns-in-Ok-on_batches-clause-goes_on c =
    let full = c.in-Ok.ensures in
    let compact = c.in-Ok-on_batches.ensures in
    if_ok c.agreed.result _ (on_kept c.args.self.now (record {
      full = c.on_batches.new.self;
      compact = c.on_batches-2.new.self;
    }) c.requires.shaped.sound (record { full = full.db; compact = compact.db }) full.limit compact.limit full.taken
    compact.taken)

pub returns-in-Ok-on_batches-clause-shaped : goal.returns-in-Ok-on_batches-clause-shaped
returns-in-Ok-on_batches-clause-shaped c =
    let full = c.in-Ok.ensures in
    let compact = c.in-Ok-on_batches.ensures in
    let old = c.args.self.now in
    let new : Twins = record { full = c.on_batches.new.self; compact = c.on_batches-2.new.self } in
    let kept : AreKept old new = record { full = full.db; compact = compact.db } in
    let on = on_kept old new c.requires.shaped.sound kept full.limit compact.limit full.taken compact.taken in
    if_ok c.agreed.result _ (batches_shaped old new c.args.command.now c.in-Ok.answer c.in-Ok-on_batches.other kept on
    full.ok compact.ok c.requires.shaped)

pub returns-in-Ok-on_batches-clause-ok : goal.returns-in-Ok-on_batches-clause-ok
returns-in-Ok-on_batches-clause-ok c =
    let full = c.in-Ok.ensures in
    let compact = c.in-Ok-on_batches.ensures in
    let old = c.args.self.now in
    let new : Twins = record { full = c.on_batches.new.self; compact = c.on_batches-2.new.self } in
    let kept : AreKept old new = record { full = full.db; compact = compact.db } in
    let on = on_kept old new c.requires.shaped.sound kept full.limit compact.limit full.taken compact.taken in
    agreed_meet old new c.args.command.now c.in-Ok.answer c.in-Ok-on_batches.other kept on full.ok compact.ok
    c.agreed.result c.agreed.ensures.full

pub returns-in-Ok-on_batches-clause-corrupt : goal.returns-in-Ok-on_batches-clause-corrupt
returns-in-Ok-on_batches-clause-corrupt c =
    let full = c.in-Ok.ensures in
    let compact = c.in-Ok-on_batches.ensures in
    let old = c.args.self.now in
    let new : Twins = record { full = c.on_batches.new.self; compact = c.on_batches-2.new.self } in
    let kept : AreKept old new = record { full = full.db; compact = compact.db } in
    let on = on_kept old new c.requires.shaped.sound kept full.limit compact.limit full.taken compact.taken in
    agreed_sound old new c.args.command.now c.in-Ok.answer c.in-Ok-on_batches.other kept on full.ok compact.ok
    c.agreed.result c.agreed.ensures.same

pub returns-in-Err-on_batches-clause-corrupt : goal.returns-in-Err-on_batches-clause-corrupt
returns-in-Err-on_batches-clause-corrupt c = λ config image s told of. memory_untold _
    (compact_is_memory c.in-Err-on_batches.error _ c.compact_fault.ensures c.in-Err-on_batches.ensures.memory)

pub returns-in-Err-on_batches-clause-own : goal.returns-in-Err-on_batches-clause-own
returns-in-Err-on_batches-clause-own c = compact_is_own c.in-Err-on_batches.error _ c.compact_fault.ensures

pub returns-in-Err-on_batches-clause-unfailed : goal.returns-in-Err-on_batches-clause-unfailed
returns-in-Err-on_batches-clause-unfailed c = other_failed _ (memory_other _
    (compact_is_memory c.in-Err-on_batches.error _ c.compact_fault.ensures c.in-Err-on_batches.ensures.memory))
