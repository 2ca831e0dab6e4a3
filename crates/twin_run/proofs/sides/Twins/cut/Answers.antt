use Rattle.std.proofs.Common.{◌≤◌, ℕ, sym, subst}
use Rattle.command_text.specs.declared.command.Command.TheVariants as command
use Rattle.log_model.specs.Machine.{committed, pruned}
use Rattle.volume_base.specs.Names.{Names, NamesCall}
use Rattle.volume_base.proofs.CallLemmas.{names_call_joins}
use Rattle.volume_base.proofs.JoinLemmas.{changes_of_writes}
use Rattle.twin_batches.specs.Kind.{kept_of}
use Rattle.twin_databases.specs.FullKind.{full_kind}
use Rattle.twin_run.proofs.BothFaults.{full_is_own, full_is_outside, full_changes, compact_is_own, compact_is_outside, compact_changes, changes_fail, changes_done, changes_went}
use Rattle.twin_run.proofs.BothSides.{on_settled, shaped_settled, settled_joins, names_settled, pruned_good, full_called, full_durable, compact_waits, compact_lasts, both_called, called_twins}
use Rattle.twin_run.proofs.BothMoments.{prune_goes, prune_ends, takes_ok, takes_err, takes_back}
use Rattle.twin_run.proofs.BothStates.{committed_less, pruned_wider}
use Rattle.twin_run.proofs.sides.Twins.cut.Goals as goal

pub prune-requires-clause-sound : goal.prune-requires-clause-sound
prune-requires-clause-sound g c = c.in-Ok.ensures.settled.full.sound

pub prune-requires-clause-low : goal.prune-requires-clause-low
prune-requires-clause-low g c =
    subst (λ (n : ℕ). c.args.location ≤ n) (sym c.in-Ok.ensures.settled.full.floor) c.requires.full_low

pub prune-requires-2-clause-sound : goal.prune-requires-2-clause-sound
prune-requires-2-clause-sound g c = c.in-Ok.ensures.settled.compact.sound

pub prune-requires-2-clause-low : goal.prune-requires-2-clause-low
prune-requires-2-clause-low g c =
    subst (λ (n : ℕ). c.args.location ≤ n) (sym c.in-Ok.ensures.settled.compact.floor) c.requires.compact_low

pub returns-in-Err-clause-changes : goal.returns-in-Err-clause-changes
returns-in-Err-clause-changes g c = changes_of_writes _ _ _ _ _ c.in-Err.ensures.writes

pub returns-in-Err-prune-clause-corrupt : goal.returns-in-Err-prune-clause-corrupt
returns-in-Err-prune-clause-corrupt g c = λ told config s of.
    let here = c.in-Ok.ensures.ok told config s of in
    full_is_outside c.in-Err-prune.error _ c.full_fault.ensures
    (c.in-Err-prune.ensures.errors told (committed s) here.full)

pub returns-in-Err-prune-clause-own : goal.returns-in-Err-prune-clause-own
returns-in-Err-prune-clause-own g c = full_is_own c.in-Err-prune.error _ c.full_fault.ensures

pub returns-in-Err-prune-clause-names : goal.returns-in-Err-prune-clause-names
returns-in-Err-prune-clause-names g c = λ told.
    let made = c.in-Ok.twins in
    let settled = c.in-Ok.ensures.settled in
    let shaped = shaped_settled c.args.self made c.requires.shaped settled in
    names_call_joins _ _ _ _ (c.in-Ok.ensures.names told) (subst (λ (n : Names). NamesCall n
    (g.V.Volume.state c.store.new.volume) (g.V.Volume.state c.prune.new.volume))
    (names_settled c.args.self made settled) (full_called made shaped _ _ (c.in-Err-prune.ensures.names told)))

pub returns-in-Err-prune-clause-changes : goal.returns-in-Err-prune-clause-changes
returns-in-Err-prune-clause-changes g c = changes_fail _ _ _ _ _ _ _
    (changes_of_writes _ _ _ _ _ c.in-Ok.ensures.writes)
    (full_changes c.in-Err-prune.error _ c.full_fault.ensures _ _ _ c.in-Err-prune.ensures.changes)

pub returns-in-Ok-prune-2-clause-settled : goal.returns-in-Ok-prune-2-clause-settled
returns-in-Ok-prune-2-clause-settled g c =
    let made = c.in-Ok.twins in
    let full = c.in-Ok-prune.ensures in
    let compact = c.in-Ok-prune-2.ensures in
    settled_joins c.args.self made _ c.in-Ok.ensures.settled (record {
      full = full.settled;
      compact = compact.settled;
      full_numbers = full.numbers;
      compact_numbers = compact.numbers;
      full_limit = full.limit;
      compact_limit = compact.limit;
    })

pub returns-in-Ok-prune-2-clause-ok : goal.returns-in-Ok-prune-2-clause-ok
returns-in-Ok-prune-2-clause-ok g c = λ told config s of.
    let made = c.in-Ok.twins in
    let full = c.in-Ok-prune.ensures in
    let compact = c.in-Ok-prune-2.ensures in
    let here = c.in-Ok.ensures.ok told config s of in
    let shaped = shaped_settled c.args.self made c.requires.shaped c.in-Ok.ensures.settled in
    let low = subst (λ (n : ℕ). c.args.location ≤ n)
    (full_kind.floor_is (kept_of s) _ c.args.self.full.db of.full.log) c.requires.full_low in
    let on = on_settled made _ (record {
      full = full.settled;
      compact = compact.settled;
      full_numbers = full.numbers;
      compact_numbers = compact.numbers;
      full_limit = full.limit;
      compact_limit = compact.limit;
    }) in
    called_twins config _ _ _ made _ (committed s)
    (pruned config.log_blob config.witness_blob s c.args.location) shaped on (full.names told) (compact.names told)
    here (pruned_good config s c.args.location low of.good)
    (full.state told config (committed s) here.of.under.full_under here.good here.full)
    (compact.state told config (committed s) here.of.under.compact_under here.good)

pub returns-in-Ok-prune-2-clause-durable : goal.returns-in-Ok-prune-2-clause-durable
returns-in-Ok-prune-2-clause-durable g c = λ told config s of.
    let made = c.in-Ok.twins in
    let full = c.in-Ok-prune.ensures in
    let compact = c.in-Ok-prune-2.ensures in
    let here = c.in-Ok.ensures.ok told config s of in
    let shaped = shaped_settled c.args.self made c.requires.shaped c.in-Ok.ensures.settled in (
      full_durable made shaped _ _ (compact.names told) c.in-Ok-prune.full.db full.settled.names command.Commit
          (full.durable told (committed s) here.full),
      compact.durable told (committed s)
          (compact_waits made shaped _ _ (full.names told) (committed s) here.compact),
    )

pub returns-in-Ok-prune-2-clause-names : goal.returns-in-Ok-prune-2-clause-names
returns-in-Ok-prune-2-clause-names g c = λ told.
    let made = c.in-Ok.twins in
    let settled = c.in-Ok.ensures.settled in
    let shaped = shaped_settled c.args.self made c.requires.shaped settled in
    names_call_joins _ _ _ _ (c.in-Ok.ensures.names told) (subst (λ (n : Names). NamesCall n
    (g.V.Volume.state c.store.new.volume) (g.V.Volume.state c.prune-2.new.volume))
    (names_settled c.args.self made settled) (both_called made shaped _ _ _ (c.in-Ok-prune.ensures.names told)
    (c.in-Ok-prune-2.ensures.names told)))

pub returns-in-Ok-prune-2-clause-changes : goal.returns-in-Ok-prune-2-clause-changes
returns-in-Ok-prune-2-clause-changes g c = changes_went _ _ _ _ _ _ _
    (changes_of_writes _ _ _ _ _ c.in-Ok.ensures.writes)
    (changes_done _ _ _ _ _ _ _ _ c.in-Ok-prune.ensures.changes c.in-Ok-prune-2.ensures.changes)

pub returns-in-Err-prune-2-clause-corrupt : goal.returns-in-Err-prune-2-clause-corrupt
returns-in-Err-prune-2-clause-corrupt g c = λ told config s of.
    let made = c.in-Ok.twins in
    let here = c.in-Ok.ensures.ok told config s of in
    let shaped = shaped_settled c.args.self made c.requires.shaped c.in-Ok.ensures.settled in
    compact_is_outside c.in-Err-prune-2.error _ c.compact_fault.ensures (c.in-Err-prune-2.ensures.errors told
    (committed s) (compact_waits made shaped _ _ (c.in-Ok-prune.ensures.names told) (committed s) here.compact))

pub returns-in-Err-prune-2-clause-own : goal.returns-in-Err-prune-2-clause-own
returns-in-Err-prune-2-clause-own g c = compact_is_own c.in-Err-prune-2.error _ c.compact_fault.ensures

pub returns-in-Err-prune-2-clause-names : goal.returns-in-Err-prune-2-clause-names
returns-in-Err-prune-2-clause-names g c = λ told.
    let made = c.in-Ok.twins in
    let settled = c.in-Ok.ensures.settled in
    let shaped = shaped_settled c.args.self made c.requires.shaped settled in
    names_call_joins _ _ _ _ (c.in-Ok.ensures.names told) (subst (λ (n : Names). NamesCall n
    (g.V.Volume.state c.store.new.volume) (g.V.Volume.state c.prune-2.new.volume))
    (names_settled c.args.self made settled) (both_called made shaped _ _ _ (c.in-Ok-prune.ensures.names told)
    (c.in-Err-prune-2.ensures.names told)))

pub returns-in-Err-prune-2-clause-changes : goal.returns-in-Err-prune-2-clause-changes
returns-in-Err-prune-2-clause-changes g c = changes_fail _ _ _ _ _ _ _
    (changes_of_writes _ _ _ _ _ c.in-Ok.ensures.writes)
    (changes_fail _ _ _ _ _ _ _ c.in-Ok-prune.ensures.changes
    (compact_changes c.in-Err-prune-2.error _ c.compact_fault.ensures _ _ _ c.in-Err-prune-2.ensures.changes))

pub returns-in-Err-clause-images : goal.returns-in-Err-clause-images
returns-in-Err-clause-images g c = λ told config s of.
    takes_back config s (committed s) (pruned config.log_blob config.witness_blob s c.args.location) _ _ c.in-Err.fault
    _ (committed_less s of.good.good.log config) (c.in-Err.ensures.images told config s of)

pub returns-in-Err-prune-clause-images : goal.returns-in-Err-prune-clause-images
returns-in-Err-prune-clause-images g c = λ told config s of.
    let made = c.in-Ok.twins in
    let here = c.in-Ok.ensures.ok told config s of in
    let shaped = shaped_settled c.args.self made c.requires.shaped c.in-Ok.ensures.settled in
    let next = pruned config.log_blob config.witness_blob s c.args.location in
    let good = here.good.good.log in
    let full = c.in-Err-prune.ensures in
    takes_err config s next _ _ c.in-Err-prune.error _
    (prune_goes config made shaped here.of s (committed s) next _ _ _
    (g.met.V.Volume.contents_left c.store.new.volume told) (full.names told)
    (committed_less s of.good.good.log config) (pruned_wider config s c.args.location made.compact.db) made _
    (c.in-Ok.ensures.images told config s of) (full.images told (c.in-Ok.ensures.durable told).0 config (committed s) good here.full))

pub returns-in-Ok-prune-2-clause-images : goal.returns-in-Ok-prune-2-clause-images
returns-in-Ok-prune-2-clause-images g c = λ told config s of.
    let made = c.in-Ok.twins in
    let here = c.in-Ok.ensures.ok told config s of in
    let shaped = shaped_settled c.args.self made c.requires.shaped c.in-Ok.ensures.settled in
    let next = pruned config.log_blob config.witness_blob s c.args.location in
    let good = here.good.good.log in
    let full = c.in-Ok-prune.ensures in
    let compact = c.in-Ok-prune-2.ensures in
    takes_ok config s next _ _ c.in-Ok-prune-2.compact _
    (prune_ends config made shaped here.of s (committed s) next _ _ _
    (g.met.V.Volume.contents_left c.store.new.volume told) (full.names told)
    (committed_less s of.good.good.log config) (pruned_wider config s c.args.location made.compact.db) made
    c.in-Ok-prune.full _ _ (compact.names told) (c.in-Ok.ensures.images told config s of)
    (full.images told (c.in-Ok.ensures.durable told).0 config (committed s) good here.full) (compact.images told
    (compact_lasts made shaped _ _ (full.names told) (c.in-Ok.ensures.durable told).1) config (committed s) good
    (compact_waits made shaped _ _ (full.names told) (committed s) here.compact)))

pub returns-in-Err-prune-2-clause-images : goal.returns-in-Err-prune-2-clause-images
returns-in-Err-prune-2-clause-images g c = λ told config s of.
    let made = c.in-Ok.twins in
    let here = c.in-Ok.ensures.ok told config s of in
    let shaped = shaped_settled c.args.self made c.requires.shaped c.in-Ok.ensures.settled in
    let next = pruned config.log_blob config.witness_blob s c.args.location in
    let good = here.good.good.log in
    let full = c.in-Ok-prune.ensures in
    let compact = c.in-Err-prune-2.ensures in
    takes_err config s next _ _ c.in-Err-prune-2.error _
    (prune_ends config made shaped here.of s (committed s) next _ _ _
    (g.met.V.Volume.contents_left c.store.new.volume told) (full.names told)
    (committed_less s of.good.good.log config) (pruned_wider config s c.args.location made.compact.db) made
    c.in-Ok-prune.full _ _ (compact.names told) (c.in-Ok.ensures.images told config s of)
    (full.images told (c.in-Ok.ensures.durable told).0 config (committed s) good here.full) (compact.images told
    (compact_lasts made shaped _ _ (full.names told) (c.in-Ok.ensures.durable told).1) config (committed s) good
    (compact_waits made shaped _ _ (full.names told) (committed s) here.compact)))
