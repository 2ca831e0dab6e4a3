use Rattle.std.proofs.Common.{◌+◌, ◌∙◌, refl, sym, ap, arith}
use Rattle.volume_base.specs.Moments.{present}
use Rattle.list_machine.specs.Step.{step}
use Rattle.twin_batches.proofs.Handlers.{counted_shape, counted_room}
use Rattle.twin_batches.proofs.LeftBatches.{left_behind}
use Rattle.twin_databases.specs.CompactKind.{compact_kind}
use Rattle.twin_databases.specs.FullKind.{full_kind}
use Rattle.twin_run.specs.Twins.{reply_of}
use Rattle.twin_run.proofs.BothSides.{are_of, called_config, counted_of, counted_twins, made_reply, one_root}
use Rattle.twin_run.proofs.BothMoments.{takes_ok, takes_err}
use Rattle.twin_run.proofs.sides.Twins.step.Goals as goal

pub answer-requires-clause-shaped : goal.answer-requires-clause-shaped
answer-requires-clause-shaped g c =
    let shaped = c.requires.shaped in
    let full = c.count.ensures in
    let compact = c.count-2.ensures in record {
      full = counted_shape full_kind c.args.self.full.numbers _ full.batches full.pool shaped.full full.taken;
      compact = counted_shape compact_kind c.args.self.compact.numbers _ compact.batches compact.pool shaped.compact
          compact.taken;
      even = compact.taken ∙ ap (λ n. n + 1) shaped.even ∙ sym full.taken;
      sound = shaped.sound;
      apart = shaped.apart;
      equal = shaped.equal;
    }

pub answer-requires-clause-room : goal.answer-requires-clause-room
answer-requires-clause-room g c =
    let shaped = c.requires.shaped in
    let full = c.count.ensures in
    let compact = c.count-2.ensures in
    let even = shaped.even in
    let taken = c.requires.taken in
    let full_taken = full.taken in
    let compact_taken = compact.taken in record {
      full = counted_room full_kind c.args.self.full.numbers _ full.batches full.pool shaped.full full.taken
          (omega (arith, taken, full_taken));
      compact = counted_room compact_kind c.args.self.compact.numbers _ compact.batches compact.pool shaped.compact
          compact.taken (omega (arith, taken, even, compact_taken));
    }

pub returns-in-Ok-clause-taken : goal.returns-in-Ok-clause-taken
returns-in-Ok-clause-taken g c = c.in-Ok.ensures.goes_on.full_taken ∙ c.count.ensures.taken

pub returns-in-Ok-clause-ok : goal.returns-in-Ok-clause-ok
returns-in-Ok-clause-ok g c = λ told config s lists of.
    let image = present (g.V.Volume.state c.args.volume.now) in
    let counted = counted_twins c.args.self _ refl refl c.count.ensures.batches c.count.ensures.pool
    c.count-2.ensures.batches c.count-2.ensures.pool config image s of in
    let done = c.in-Ok.ensures.ok told config s lists counted in (
      c.reply-reply.ensures
          ∙ made_reply config _ c.in-Ok.twins (step config s c.args.command.now) c.in-Ok.answer done.0 done.1,
      done.1,
    )

pub returns-in-Ok-clause-pruned : goal.returns-in-Ok-clause-pruned
returns-in-Ok-clause-pruned g c = λ told config s of location start named is.
    let image = present (g.V.Volume.state c.args.volume.now) in
    let counted = counted_twins c.args.self _ refl refl c.count.ensures.batches c.count.ensures.pool
    c.count-2.ensures.batches c.count-2.ensures.pool config image s of in
    c.in-Ok.ensures.pruned told config s counted location start named
    (sym (ap (λ r. r.answer) c.reply-reply.ensures) ∙ is)

pub returns-in-Ok-clause-roots : goal.returns-in-Ok-clause-roots
returns-in-Ok-clause-roots g c =
    let told = c.reply-reply.ensures in
    told ∙ ap (reply_of c.in-Ok.twins) (sym (ap (λ r. r.answer) told))

pub returns-in-Ok-clause-equal : goal.returns-in-Ok-clause-equal
returns-in-Ok-clause-equal g c =
    let told = c.reply-reply.ensures in
    ap (λ r. r.full_root) told ∙ one_root c.in-Ok.twins c.in-Ok.answer c.in-Ok.ensures.shaped.equal
    ∙ sym (ap (λ r. r.compact_root) told)

pub returns-in-Ok-clause-kept : goal.returns-in-Ok-clause-kept
returns-in-Ok-clause-kept g c = λ quiet.
    let kept = c.in-Ok.ensures.kept quiet in
    record { full = kept.full; compact = kept.compact }

pub returns-in-Ok-clause-refused : goal.returns-in-Ok-clause-refused
returns-in-Ok-clause-refused g c = λ why is.
    let refused = c.in-Ok.ensures.refused why (sym (ap (λ r. r.answer) c.reply-reply.ensures) ∙ is) in
    (record { full = refused.0.full; compact = refused.0.compact }, refused.1)

pub returns-in-Ok-clause-left : goal.returns-in-Ok-clause-left
returns-in-Ok-clause-left g c = λ why is.
    let left = c.in-Ok.ensures.left why (sym (ap (λ r. r.answer) c.reply-reply.ensures) ∙ is) in record {
      full = left_behind full_kind c.args.self.full.numbers c.count.new.self c.in-Ok.twins.full.numbers
          c.count.ensures.batches c.count.ensures.pool c.args.command.now why left.full;
      compact = left_behind compact_kind c.args.self.compact.numbers c.count-2.new.self c.in-Ok.twins.compact.numbers
          c.count-2.ensures.batches c.count-2.ensures.pool c.args.command.now why left.compact;
    }

pub returns-in-Ok-clause-of : goal.returns-in-Ok-clause-of
returns-in-Ok-clause-of g c = λ config of. are_of _ _ config c.in-Ok.ensures.goes_on
    (counted_of c.args.self _ refl refl c.count.ensures.batches c.count.ensures.pool c.count-2.ensures.batches
    c.count-2.ensures.pool config of)

pub returns-in-Ok-clause-own_names : goal.returns-in-Ok-clause-own_names
returns-in-Ok-clause-own_names g c = c.in-Ok.ensures.names

pub returns-in-Ok-clause-names : goal.returns-in-Ok-clause-names
returns-in-Ok-clause-names g c = λ told config of.
    called_config config c.args.self _ _ of (c.in-Ok.ensures.names told)

pub returns-in-Err-clause-corrupt : goal.returns-in-Err-clause-corrupt
returns-in-Err-clause-corrupt g c = λ told config s lists of.
    let image = present (g.V.Volume.state c.args.volume.now) in
    c.in-Err.ensures.corrupt told config s lists (counted_twins c.args.self _ refl refl c.count.ensures.batches
    c.count.ensures.pool c.count-2.ensures.batches c.count-2.ensures.pool config image s of)

pub returns-in-Err-clause-own_names : goal.returns-in-Err-clause-own_names
returns-in-Err-clause-own_names g c = c.in-Err.ensures.names

pub returns-in-Err-clause-names : goal.returns-in-Err-clause-names
returns-in-Err-clause-names g c = λ told config of.
    called_config config c.args.self _ _ of (c.in-Err.ensures.names told)

pub returns-in-Ok-clause-images : goal.returns-in-Ok-clause-images
returns-in-Ok-clause-images g c = λ told config s lists of.
    let image = present (g.V.Volume.state c.args.volume.now) in
    let counted = counted_twins c.args.self _ refl refl c.count.ensures.batches c.count.ensures.pool
    c.count-2.ensures.batches c.count-2.ensures.pool config image s of in
    takes_ok config s (step config s c.args.command.now).1 _ _ (c.in-Ok.twins, c.in-Ok.answer) _
    (c.in-Ok.ensures.images told config s lists counted)

pub returns-in-Err-clause-images : goal.returns-in-Err-clause-images
returns-in-Err-clause-images g c = λ told config s lists of.
    let image = present (g.V.Volume.state c.args.volume.now) in
    takes_err config s (step config s c.args.command.now).1 _ _ c.in-Err.fault _
    (c.in-Err.ensures.images told config s lists (counted_twins c.args.self _ refl refl c.count.ensures.batches
    c.count.ensures.pool c.count-2.ensures.batches c.count-2.ensures.pool config image s of))
