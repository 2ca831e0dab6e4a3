use Rattle.std.proofs.Common.{◌≡◌, Some, None, [], get_or, sym, ◌∙◌, ap, subst}
use Rattle.volume_base.specs.Moments.{present}
use Rattle.volume_base.specs.Names.{Names}
use Rattle.volume_base.specs.Volume.{OnlyLeft}
use Rattle.volume_base.proofs.CallLemmas.{names_call_joins}
use Rattle.volume_base.proofs.JoinLemmas.{went_joins, went_none, went_of}
use Rattle.chain_core.specs.declared.commitment.Commitment.{Commitment}
use Rattle.chain_core.specs.declared.error.Error.TheVariants as error
use Rattle.tree_shape.specs.declared.mmr.Mmr.{Mmr}
use Rattle.tree_shape.specs.declared.sha256.Sha256Digest.{Sha256Digest}
use Rattle.list_machine.specs.Starts.{opened_from, twin_names}
use Rattle.twin_databases.proofs.WentLemmas.{changes_err, changes_ok}
use Rattle.twin_run.specs.Faults.{IsCorrupt, IsOwnFault}
use Rattle.twin_run.specs.declared.ending.Fault.TheVariants as fault
use Rattle.twin_run.proofs.BothOpened.{both_opened, compact_call, compact_size, compact_synced, full_call, full_synced, is_again, kept_over, most_low, most_past, one_state, opens_again, some_cap, witnesses, witnesses_over}
use Rattle.twin_run.proofs.FaultLemmas.{changes_compact, changes_full, compact_cause, compact_outside, compact_own, full_cause, full_outside, full_own, unlike_cause, unlike_own, unlike_same, unlike_volume}
use Rattle.twin_run.proofs.Realigning.{Listed, first_start}
use Rattle.twin_run.proofs.RealignMoments.{along_err, along_first, along_ok, along_second, along_third, full_now, opens_size, settled_third, witness_now}
use Rattle.twin_run.proofs.opening.realign.Goals as goal

-- ---- the full database isn't opened

pub returns-in-Err-clause-corrupt : goal.returns-in-Err-clause-corrupt
returns-in-Err-clause-corrupt g c told s start corrupt =
    let config = c.args.config.now in
    let image = present (g.V.Volume.state c.args.volume.now) in
    let small = c.limit_within.ensures in
    full_outside c.in-Err.error
    (c.in-Err.ensures.standing (λ none. cc) told (Listed config s image start small)
    (first_start config s image start small))
    (subst IsCorrupt c.full_fault.ensures corrupt)

pub returns-in-Err-clause-own : goal.returns-in-Err-clause-own
returns-in-Err-clause-own g c = subst IsOwnFault (sym c.full_fault.ensures) (full_own c.in-Err.error)

pub returns-in-Err-clause-causes : goal.returns-in-Err-clause-causes
returns-in-Err-clause-causes g c =
    full_cause g.V.Volume.tells c.args.config.now c.full_fault.result None c.in-Err.error c.full_fault.ensures
    (λ told none. cc) c.in-Err.ensures.errors

pub returns-in-Err-clause-names : goal.returns-in-Err-clause-names
returns-in-Err-clause-names g c told =
    full_call c.args.config.now (g.V.Volume.state c.args.volume.now) (g.V.Volume.state c.open_full_under.new.volume)
    (c.in-Err.ensures.names told)

pub returns-in-Err-clause-changes : goal.returns-in-Err-clause-changes
returns-in-Err-clause-changes g c =
    let old = g.V.Volume.state c.args.volume.now in
    changes_full g.V.Volume.tells old old (g.V.Volume.state c.open_full_under.new.volume) c.in-Err.error
    c.full_fault.result c.full_fault.ensures (went_none g.V.Volume.tells old) c.in-Err.ensures.changes

-- ---- the compact database isn't opened

pub returns-in-Err-open_compact_under-clause-corrupt : goal.returns-in-Err-open_compact_under-clause-corrupt
returns-in-Err-open_compact_under-clause-corrupt g c told s start corrupt =
    let config = c.args.config.now in
    let old = g.V.Volume.state c.args.volume.now in
    let mid = g.V.Volume.state c.open_full_under.new.volume in
    let small = c.limit_within.ensures in
    let full = c.in-Ok.full in
    let first = c.in-Ok.ensures in
    let most : c.as_u64-most.result ≡ full.state.size =
    c.as_u64-most.ensures ∙ ap (λ (k : Commitment Mmr Sha256Digest). k.size) c.commitment.ensures in
    let opens = first.opened told in
    let names = first.names told in
    compact_outside c.in-Err-open_compact_under.error
    (c.in-Err-open_compact_under.ensures.standing told s full.state.size (ap Some most)
    (most_low config c.names_apart.ensures small s old mid start full opens first.same_names names)
    (most_past config c.names_apart.ensures small s old mid start full opens first.same_names names) start.good
    (witnesses config c.names_apart.ensures small s old mid start full opens first.same_names names))
    (subst IsCorrupt c.compact_fault.ensures corrupt)

pub returns-in-Err-open_compact_under-clause-own : goal.returns-in-Err-open_compact_under-clause-own
returns-in-Err-open_compact_under-clause-own g c =
    subst IsOwnFault (sym c.compact_fault.ensures) (compact_own c.in-Err-open_compact_under.error)

pub returns-in-Err-open_compact_under-clause-causes : goal.returns-in-Err-open_compact_under-clause-causes
returns-in-Err-open_compact_under-clause-causes g c =
    let most : c.as_u64-most.result ≡ c.in-Ok.full.state.size =
    c.as_u64-most.ensures ∙ ap (λ (k : Commitment Mmr Sha256Digest). k.size) c.commitment.ensures in
    let some = some_cap c.as_u64-most.result c.in-Ok.full.state.size most c.in-Ok.ensures.some in
    compact_cause g.V.Volume.tells c.args.config.now c.compact_fault.result (Some c.as_u64-most.result)
    c.in-Err-open_compact_under.error c.compact_fault.ensures some (c.in-Err-open_compact_under.ensures.errors some)

pub returns-in-Err-open_compact_under-clause-names : goal.returns-in-Err-open_compact_under-clause-names
returns-in-Err-open_compact_under-clause-names g c told =
    let config = c.args.config.now in
    let old = g.V.Volume.state c.args.volume.now in
    let mid = g.V.Volume.state c.open_full_under.new.volume in
    let next = g.V.Volume.state c.open_compact_under.new.volume in
    names_call_joins (twin_names config) old mid next (full_call config old mid (c.in-Ok.ensures.names told))
    (compact_call config mid next (c.in-Err-open_compact_under.ensures.names told))

pub returns-in-Err-open_compact_under-clause-changes : goal.returns-in-Err-open_compact_under-clause-changes
returns-in-Err-open_compact_under-clause-changes g c =
    let old = g.V.Volume.state c.args.volume.now in
    let mid = g.V.Volume.state c.open_full_under.new.volume in
    changes_compact g.V.Volume.tells old mid (g.V.Volume.state c.open_compact_under.new.volume)
    c.in-Err-open_compact_under.error c.compact_fault.result c.compact_fault.ensures
    (went_of g.V.Volume.tells error.Volume old mid c.in-Ok.full c.in-Ok.ensures.changes)
    c.in-Err-open_compact_under.ensures.changes

-- ---- the full database isn't opened again

pub lowered-requires-clause-names : goal.lowered-requires-clause-names
lowered-requires-clause-names g c = c.in-Ok.ensures.same_names

pub lowered-requires-clause-under : goal.lowered-requires-clause-under
lowered-requires-clause-under g c = c.in-Ok.ensures.under

pub lowered-requires-clause-sound : goal.lowered-requires-clause-sound
lowered-requires-clause-sound g c = c.in-Ok.ensures.sound

pub lowered-requires-clause-rests : goal.lowered-requires-clause-rests
lowered-requires-clause-rests g c = c.in-Ok.ensures.rests

pub returns-in-Err-lowered-clause-corrupt : goal.returns-in-Err-lowered-clause-corrupt
returns-in-Err-lowered-clause-corrupt g c told s start corrupt =
    let config = c.args.config.now in
    let old = g.V.Volume.state c.args.volume.now in
    let mid = g.V.Volume.state c.open_full_under.new.volume in
    let next = g.V.Volume.state c.open_compact_under.new.volume in
    let small = c.limit_within.ensures in
    let full = c.in-Ok.full in
    let first = c.in-Ok.ensures in
    let compact = c.in-Ok-open_compact_under.compact in
    let second = c.in-Ok-open_compact_under.ensures in
    let most : c.as_u64-most.result ≡ full.state.size =
    c.as_u64-most.ensures ∙ ap (λ (k : Commitment Mmr Sha256Digest). k.size) c.commitment.ensures in
    let size = c.as_u64-size.ensures ∙ ap (λ (k : Commitment Mmr Sha256Digest). k.size) c.commitment-2.ensures in
    let opens = first.opened told in
    let names = first.names told in
    full_outside c.in-Err-lowered.error
    (c.in-Err-lowered.ensures.standing told _ _ _ _
    (is_again config c.names_apart.ensures small s old mid start full opens first.same_names names next compact
    (Some c.as_u64-most.result) (ap Some most) (second.opened told) (second.names told) [] 0)
    (opens_again config c.names_apart.ensures small s old mid start full opens first.same_names names next compact
    (Some c.as_u64-most.result) (ap Some most) (second.opened told) (second.names told) c.as_u64-size.result size))
    (subst IsCorrupt c.full_fault-in-Err-lowered.ensures corrupt)

pub returns-in-Err-lowered-clause-own : goal.returns-in-Err-lowered-clause-own
returns-in-Err-lowered-clause-own g c =
    subst IsOwnFault (sym c.full_fault-in-Err-lowered.ensures) (full_own c.in-Err-lowered.error)

pub returns-in-Err-lowered-clause-causes : goal.returns-in-Err-lowered-clause-causes
returns-in-Err-lowered-clause-causes g c =
    let compact = c.in-Ok-open_compact_under.compact in
    let most : c.as_u64-most.result ≡ c.in-Ok.full.state.size =
    c.as_u64-most.ensures ∙ ap (λ (k : Commitment Mmr Sha256Digest). k.size) c.commitment.ensures in
    let size : c.as_u64-size.result ≡ compact.tip.witness.size =
    c.as_u64-size.ensures ∙ ap (λ (k : Commitment Mmr Sha256Digest). k.size) c.commitment-2.ensures in
    let keeps = c.in-Ok-open_compact_under.ensures.witnesses
    (some_cap c.as_u64-most.result c.in-Ok.full.state.size most c.in-Ok.ensures.some) in
    full_cause g.V.Volume.tells c.args.config.now c.full_fault-in-Err-lowered.result (Some c.as_u64-size.result)
    c.in-Err-lowered.error c.full_fault-in-Err-lowered.ensures
    (λ told. some_cap c.as_u64-size.result compact.tip.witness.size size (keeps told).some)
    c.in-Err-lowered.ensures.errors

pub returns-in-Err-lowered-clause-names : goal.returns-in-Err-lowered-clause-names
returns-in-Err-lowered-clause-names g c told =
    let config = c.args.config.now in
    let old = g.V.Volume.state c.args.volume.now in
    let mid = g.V.Volume.state c.open_full_under.new.volume in
    let next = g.V.Volume.state c.open_compact_under.new.volume in
    let new = g.V.Volume.state c.lowered.new.volume in
    names_call_joins (twin_names config) old next new
    (names_call_joins (twin_names config) old mid next (full_call config old mid (c.in-Ok.ensures.names told))
    (compact_call config mid next (c.in-Ok-open_compact_under.ensures.names told)))
    (full_call config next new (c.in-Err-lowered.ensures.names told))

pub returns-in-Err-lowered-clause-changes : goal.returns-in-Err-lowered-clause-changes
returns-in-Err-lowered-clause-changes g c =
    let old = g.V.Volume.state c.args.volume.now in
    let mid = g.V.Volume.state c.open_full_under.new.volume in
    let next = g.V.Volume.state c.open_compact_under.new.volume in
    changes_full g.V.Volume.tells old next (g.V.Volume.state c.lowered.new.volume) c.in-Err-lowered.error
    c.full_fault-in-Err-lowered.result c.full_fault-in-Err-lowered.ensures
    (went_joins g.V.Volume.tells old mid next
    (went_of g.V.Volume.tells error.Volume old mid c.in-Ok.full c.in-Ok.ensures.changes)
    (went_of g.V.Volume.tells error.Volume mid next c.in-Ok-open_compact_under.compact
    c.in-Ok-open_compact_under.ensures.changes))
    c.in-Err-lowered.ensures.changes

-- ---- both are opened

pub returns-in-Ok-check_same-clause-equal : goal.returns-in-Ok-check_same-clause-equal
returns-in-Ok-check_same-clause-equal g c =
    sym c.commitment-3.ensures ∙ c.in-Ok-check_same.ensures.same ∙ c.commitment-4.ensures

pub returns-in-Ok-check_same-clause-opened : goal.returns-in-Ok-check_same-clause-opened
returns-in-Ok-check_same-clause-opened g c told s start =
    let config = c.args.config.now in
    let old = g.V.Volume.state c.args.volume.now in
    let mid = g.V.Volume.state c.open_full_under.new.volume in
    let next = g.V.Volume.state c.open_compact_under.new.volume in
    let new = g.V.Volume.state c.lowered.new.volume in
    let small = c.limit_within.ensures in
    let full = c.in-Ok.full in
    let first = c.in-Ok.ensures in
    let compact = c.in-Ok-open_compact_under.compact in
    let second = c.in-Ok-open_compact_under.ensures in
    let third = c.in-Ok-lowered.ensures in
    let most : c.as_u64-most.result ≡ full.state.size =
    c.as_u64-most.ensures ∙ ap (λ (k : Commitment Mmr Sha256Digest). k.size) c.commitment.ensures in
    let size = c.as_u64-size.ensures ∙ ap (λ (k : Commitment Mmr Sha256Digest). k.size) c.commitment-2.ensures in
    both_opened config c.names_apart.ensures small s old mid start full (first.opened told) first.same_names
    (first.names told) next compact (Some c.as_u64-most.result) (ap Some most) (second.opened told) (second.names told)
    c.as_u64-size.result size new c.in-Ok-lowered.full (third.opened told) (third.names told) second.same_names

pub returns-in-Ok-check_same-clause-under : goal.returns-in-Ok-check_same-clause-under
returns-in-Ok-check_same-clause-under g c = record {
  full_names_are = c.in-Ok-lowered.ensures.same_names;
  full_under = c.in-Ok-lowered.ensures.under;
  compact_names_are = c.in-Ok-open_compact_under.ensures.same_names;
  compact_under = c.in-Ok-open_compact_under.ensures.under;
}

pub returns-in-Ok-check_same-clause-sound : goal.returns-in-Ok-check_same-clause-sound
returns-in-Ok-check_same-clause-sound g c = record {
  full = c.in-Ok-lowered.ensures.sound;
  compact = c.in-Ok-open_compact_under.ensures.sound;
}

pub returns-in-Ok-check_same-clause-operations : goal.returns-in-Ok-check_same-clause-operations
returns-in-Ok-check_same-clause-operations g c told =
    let config = c.args.config.now in
    let old = g.V.Volume.state c.args.volume.now in
    let mid = g.V.Volume.state c.open_full_under.new.volume in
    let next = g.V.Volume.state c.open_compact_under.new.volume in
    let new = g.V.Volume.state c.lowered.new.volume in
    let full = c.in-Ok.full in
    let lower = c.in-Ok-lowered.full in
    let size = c.as_u64-size.ensures ∙ ap (λ (k : Commitment Mmr Sha256Digest). k.size) c.commitment-2.ensures in
    let one = sym c.commitment-3.ensures ∙ c.in-Ok-check_same.ensures.same ∙ c.commitment-4.ensures in
    let same : lower.state.size ≡ c.as_u64-size.result =
    ap (λ (k : Commitment Mmr Sha256Digest). k.size) one ∙ sym size in
    kept_over config c.names_apart.ensures old mid next (c.in-Ok-open_compact_under.ensures.names told)
    config.value_limit full.state.size lower.state.size c.as_u64-size.result (new.log config.log)
    (λ first. c.in-Ok-lowered.ensures.operations told first same) same (c.in-Ok.ensures.operations told)

pub returns-in-Ok-check_same-clause-witnesses : goal.returns-in-Ok-check_same-clause-witnesses
returns-in-Ok-check_same-clause-witnesses g c told =
    let config = c.args.config.now in
    let old = g.V.Volume.state c.args.volume.now in
    let mid = g.V.Volume.state c.open_full_under.new.volume in
    let next = g.V.Volume.state c.open_compact_under.new.volume in
    let new = g.V.Volume.state c.lowered.new.volume in
    let most : c.as_u64-most.result ≡ c.in-Ok.full.state.size =
    c.as_u64-most.ensures ∙ ap (λ (k : Commitment Mmr Sha256Digest). k.size) c.commitment.ensures in
    witnesses_over config c.names_apart.ensures old mid next new (c.in-Ok.ensures.names told)
    (c.in-Ok-lowered.ensures.names told) config.value_limit c.as_u64-most.result c.in-Ok.full.state.size
    c.in-Ok-open_compact_under.compact.tip.witness.size most (c.in-Ok.ensures.operations told)
    (c.in-Ok-open_compact_under.ensures.witnesses
    (some_cap c.as_u64-most.result c.in-Ok.full.state.size most c.in-Ok.ensures.some) told)

pub returns-in-Ok-check_same-clause-durable : goal.returns-in-Ok-check_same-clause-durable
returns-in-Ok-check_same-clause-durable g c told =
    let config = c.args.config.now in
    let mid = g.V.Volume.state c.open_full_under.new.volume in
    let next = g.V.Volume.state c.open_compact_under.new.volume in
    let new = g.V.Volume.state c.lowered.new.volume in
    let first = c.in-Ok.ensures in
    let second = c.in-Ok-open_compact_under.ensures in
    let third = c.in-Ok-lowered.ensures in (
      third.durable told
          (full_synced config c.names_apart.ensures mid next (second.names told) c.in-Ok.full first.same_names
          (first.durable told)),
      compact_synced config c.names_apart.ensures next new (third.names told) c.in-Ok-open_compact_under.compact
          second.same_names (second.durable told),
    )

pub returns-in-Ok-check_same-clause-names : goal.returns-in-Ok-check_same-clause-names
returns-in-Ok-check_same-clause-names g c told =
    let config = c.args.config.now in
    let old = g.V.Volume.state c.args.volume.now in
    let mid = g.V.Volume.state c.open_full_under.new.volume in
    let next = g.V.Volume.state c.open_compact_under.new.volume in
    let new = g.V.Volume.state c.lowered.new.volume in
    names_call_joins (twin_names config) old next new
    (names_call_joins (twin_names config) old mid next (full_call config old mid (c.in-Ok.ensures.names told))
    (compact_call config mid next (c.in-Ok-open_compact_under.ensures.names told)))
    (full_call config next new (c.in-Ok-lowered.ensures.names told))

pub returns-in-Ok-check_same-clause-changes : goal.returns-in-Ok-check_same-clause-changes
returns-in-Ok-check_same-clause-changes g c =
    let old = g.V.Volume.state c.args.volume.now in
    let mid = g.V.Volume.state c.open_full_under.new.volume in
    let next = g.V.Volume.state c.open_compact_under.new.volume in
    let new = g.V.Volume.state c.lowered.new.volume in
    changes_ok g.V.Volume.tells fault.Volume old new (c.in-Ok-lowered.full, c.in-Ok-open_compact_under.compact)
    (went_joins g.V.Volume.tells old next new
    (went_joins g.V.Volume.tells old mid next
    (went_of g.V.Volume.tells error.Volume old mid c.in-Ok.full c.in-Ok.ensures.changes)
    (went_of g.V.Volume.tells error.Volume mid next c.in-Ok-open_compact_under.compact
    c.in-Ok-open_compact_under.ensures.changes))
    (went_of g.V.Volume.tells error.Volume next new c.in-Ok-lowered.full c.in-Ok-lowered.ensures.changes))

-- ---- both are opened, and differ

pub returns-in-Err-check_same-clause-corrupt : goal.returns-in-Err-check_same-clause-corrupt
returns-in-Err-check_same-clause-corrupt g c told s start corrupt =
    let config = c.args.config.now in
    let old = g.V.Volume.state c.args.volume.now in
    let mid = g.V.Volume.state c.open_full_under.new.volume in
    let next = g.V.Volume.state c.open_compact_under.new.volume in
    let new = g.V.Volume.state c.lowered.new.volume in
    let small = c.limit_within.ensures in
    let full = c.in-Ok.full in
    let first = c.in-Ok.ensures in
    let compact = c.in-Ok-open_compact_under.compact in
    let second = c.in-Ok-open_compact_under.ensures in
    let third = c.in-Ok-lowered.ensures in
    let most : c.as_u64-most.result ≡ full.state.size =
    c.as_u64-most.ensures ∙ ap (λ (k : Commitment Mmr Sha256Digest). k.size) c.commitment.ensures in
    let size = c.as_u64-size.ensures ∙ ap (λ (k : Commitment Mmr Sha256Digest). k.size) c.commitment-2.ensures in
    let one = one_state config c.names_apart.ensures small s old mid start full (first.opened told) first.same_names
    (first.names told) next compact (Some c.as_u64-most.result) (ap Some most) (second.opened told) (second.names told)
    c.as_u64-size.result size new c.in-Ok-lowered.full (third.opened told) (third.names told) second.same_names in
    unlike_same c.commitment-3.result c.commitment-4.result c.in-Err-check_same.fault
    c.in-Err-check_same.ensures.unlike (c.commitment-3.ensures ∙ one ∙ sym c.commitment-4.ensures)

pub returns-in-Err-check_same-clause-own : goal.returns-in-Err-check_same-clause-own
returns-in-Err-check_same-clause-own g c =
    unlike_own c.commitment-3.result c.commitment-4.result c.in-Err-check_same.fault c.in-Err-check_same.ensures.unlike

pub returns-in-Err-check_same-clause-causes : goal.returns-in-Err-check_same-clause-causes
returns-in-Err-check_same-clause-causes g c =
    unlike_cause g.V.Volume.tells c.args.config.now c.in-Err-check_same.fault c.commitment-3.result
    c.commitment-4.result c.in-Err-check_same.ensures.unlike

pub returns-in-Err-check_same-clause-names : goal.returns-in-Err-check_same-clause-names
returns-in-Err-check_same-clause-names g c told =
    let config = c.args.config.now in
    let old = g.V.Volume.state c.args.volume.now in
    let mid = g.V.Volume.state c.open_full_under.new.volume in
    let next = g.V.Volume.state c.open_compact_under.new.volume in
    let new = g.V.Volume.state c.lowered.new.volume in
    names_call_joins (twin_names config) old next new
    (names_call_joins (twin_names config) old mid next (full_call config old mid (c.in-Ok.ensures.names told))
    (compact_call config mid next (c.in-Ok-open_compact_under.ensures.names told)))
    (full_call config next new (c.in-Ok-lowered.ensures.names told))

pub returns-in-Err-check_same-clause-changes : goal.returns-in-Err-check_same-clause-changes
returns-in-Err-check_same-clause-changes g c =
    let old = g.V.Volume.state c.args.volume.now in
    let mid = g.V.Volume.state c.open_full_under.new.volume in
    let next = g.V.Volume.state c.open_compact_under.new.volume in
    let new = g.V.Volume.state c.lowered.new.volume in
    changes_err g.V.Volume.tells fault.Volume c.in-Err-check_same.fault old new
    (unlike_volume c.commitment-3.result c.commitment-4.result c.in-Err-check_same.fault
    c.in-Err-check_same.ensures.unlike)
    (went_joins g.V.Volume.tells old next new
    (went_joins g.V.Volume.tells old mid next
    (went_of g.V.Volume.tells error.Volume old mid c.in-Ok.full c.in-Ok.ensures.changes)
    (went_of g.V.Volume.tells error.Volume mid next c.in-Ok-open_compact_under.compact
    c.in-Ok-open_compact_under.ensures.changes))
    (went_of g.V.Volume.tells error.Volume next new c.in-Ok-lowered.full c.in-Ok-lowered.ensures.changes))

-- ---- what a crash leaves

pub returns-in-Err-clause-images : goal.returns-in-Err-clause-images
returns-in-Err-clause-images g c told s start each =
    let config = c.args.config.now in
    let old = g.V.Volume.state c.args.volume.now in
    let mid = g.V.Volume.state c.open_full_under.new.volume in
    let small = c.limit_within.ensures in
    let left = g.met.V.Volume.contents_left c.args.volume.now told in
    let opened = opened_from config s (present old) in
    along_err config s opened old mid c.full_fault.result
    (along_first config c.names_apart.ensures small s old start left each mid (c.in-Err.ensures.names told)
    (c.in-Err.ensures.images told))

pub returns-in-Err-open_compact_under-clause-images : goal.returns-in-Err-open_compact_under-clause-images
returns-in-Err-open_compact_under-clause-images g c told s start each =
    let config = c.args.config.now in
    let old = g.V.Volume.state c.args.volume.now in
    let mid = g.V.Volume.state c.open_full_under.new.volume in
    let next = g.V.Volume.state c.open_compact_under.new.volume in
    let small = c.limit_within.ensures in
    let left = g.met.V.Volume.contents_left c.args.volume.now told in
    let opened = opened_from config s (present old) in
    let full = c.in-Ok.full in
    let first = c.in-Ok.ensures in
    let most : c.as_u64-most.result ≡ full.state.size =
    c.as_u64-most.ensures ∙ ap (λ (k : Commitment Mmr Sha256Digest). k.size) c.commitment.ensures in
    let opens = first.opened told in
    let names = first.names told in
    let cap = ap Some most in
    let low = most_low config c.names_apart.ensures small s old mid start full opens first.same_names names in
    let past = most_past config c.names_apart.ensures small s old mid start full opens first.same_names names in
    let there = witnesses config c.names_apart.ensures small s old mid start full opens first.same_names names in
    along_err config s opened old next c.compact_fault.result
    (along_second config c.names_apart.ensures small s old start left each mid names (first.images told) next
    (c.in-Err-open_compact_under.ensures.names told)
    (c.in-Err-open_compact_under.ensures.images told s full.state.size cap low past start.good there))

pub returns-in-Err-lowered-clause-images : goal.returns-in-Err-lowered-clause-images
returns-in-Err-lowered-clause-images g c told s start each =
    let config = c.args.config.now in
    let old = g.V.Volume.state c.args.volume.now in
    let mid = g.V.Volume.state c.open_full_under.new.volume in
    let next = g.V.Volume.state c.open_compact_under.new.volume in
    let new = g.V.Volume.state c.lowered.new.volume in
    let small = c.limit_within.ensures in
    let left = g.met.V.Volume.contents_left c.args.volume.now told in
    let opened = opened_from config s (present old) in
    let full = c.in-Ok.full in
    let first = c.in-Ok.ensures in
    let most : c.as_u64-most.result ≡ full.state.size =
    c.as_u64-most.ensures ∙ ap (λ (k : Commitment Mmr Sha256Digest). k.size) c.commitment.ensures in
    let opens = first.opened told in
    let names = first.names told in
    let cap = ap Some most in
    let low = most_low config c.names_apart.ensures small s old mid start full opens first.same_names names in
    let past = most_past config c.names_apart.ensures small s old mid start full opens first.same_names names in
    let there = witnesses config c.names_apart.ensures small s old mid start full opens first.same_names names in
    let compact = c.in-Ok-open_compact_under.compact in
    let second = c.in-Ok-open_compact_under.ensures in
    let size = c.as_u64-size.ensures ∙ ap (λ (k : Commitment Mmr Sha256Digest). k.size) c.commitment-2.ensures in
    let size_is = size ∙ compact_size config c.names_apart.ensures small s old mid start full opens first.same_names names
    next compact (Some c.as_u64-most.result) cap (second.opened told) (second.names told) in
    let lower = opens_size config small s old start c.as_u64-size.result size_is in
    along_err config s opened old new c.full_fault-in-Err-lowered.result
    (along_third config c.names_apart.ensures small s old start left each mid names (first.images told) next
    (second.names told) (second.images told s full.state.size cap low past start.good there) new
    (c.in-Err-lowered.ensures.names told) c.as_u64-size.result lower (c.in-Err-lowered.ensures.images told))

pub returns-in-Err-check_same-clause-images : goal.returns-in-Err-check_same-clause-images
returns-in-Err-check_same-clause-images g c told s start each =
    let config = c.args.config.now in
    let old = g.V.Volume.state c.args.volume.now in
    let mid = g.V.Volume.state c.open_full_under.new.volume in
    let next = g.V.Volume.state c.open_compact_under.new.volume in
    let new = g.V.Volume.state c.lowered.new.volume in
    let small = c.limit_within.ensures in
    let left = g.met.V.Volume.contents_left c.args.volume.now told in
    let opened = opened_from config s (present old) in
    let full = c.in-Ok.full in
    let first = c.in-Ok.ensures in
    let most : c.as_u64-most.result ≡ full.state.size =
    c.as_u64-most.ensures ∙ ap (λ (k : Commitment Mmr Sha256Digest). k.size) c.commitment.ensures in
    let opens = first.opened told in
    let names = first.names told in
    let cap = ap Some most in
    let low = most_low config c.names_apart.ensures small s old mid start full opens first.same_names names in
    let past = most_past config c.names_apart.ensures small s old mid start full opens first.same_names names in
    let there = witnesses config c.names_apart.ensures small s old mid start full opens first.same_names names in
    let compact = c.in-Ok-open_compact_under.compact in
    let second = c.in-Ok-open_compact_under.ensures in
    let size = c.as_u64-size.ensures ∙ ap (λ (k : Commitment Mmr Sha256Digest). k.size) c.commitment-2.ensures in
    let size_is = size ∙ compact_size config c.names_apart.ensures small s old mid start full opens first.same_names names
    next compact (Some c.as_u64-most.result) cap (second.opened told) (second.names told) in
    let lower = opens_size config small s old start c.as_u64-size.result size_is in
    along_err config s opened old new c.in-Err-check_same.fault
    (along_third config c.names_apart.ensures small s old start left each mid names (first.images told) next
    (second.names told) (second.images told s full.state.size cap low past start.good there) new
    (c.in-Ok-lowered.ensures.names told) c.as_u64-size.result lower (c.in-Ok-lowered.ensures.images told))

pub returns-in-Ok-check_same-clause-images : goal.returns-in-Ok-check_same-clause-images
returns-in-Ok-check_same-clause-images g c told s start each =
    let config = c.args.config.now in
    let old = g.V.Volume.state c.args.volume.now in
    let mid = g.V.Volume.state c.open_full_under.new.volume in
    let next = g.V.Volume.state c.open_compact_under.new.volume in
    let new = g.V.Volume.state c.lowered.new.volume in
    let small = c.limit_within.ensures in
    let left = g.met.V.Volume.contents_left c.args.volume.now told in
    let opened = opened_from config s (present old) in
    let full = c.in-Ok.full in
    let first = c.in-Ok.ensures in
    let most : c.as_u64-most.result ≡ full.state.size =
    c.as_u64-most.ensures ∙ ap (λ (k : Commitment Mmr Sha256Digest). k.size) c.commitment.ensures in
    let opens = first.opened told in
    let names = first.names told in
    let cap = ap Some most in
    let low = most_low config c.names_apart.ensures small s old mid start full opens first.same_names names in
    let past = most_past config c.names_apart.ensures small s old mid start full opens first.same_names names in
    let there = witnesses config c.names_apart.ensures small s old mid start full opens first.same_names names in
    let compact = c.in-Ok-open_compact_under.compact in
    let second = c.in-Ok-open_compact_under.ensures in
    let size = c.as_u64-size.ensures ∙ ap (λ (k : Commitment Mmr Sha256Digest). k.size) c.commitment-2.ensures in
    let size_is = size ∙ compact_size config c.names_apart.ensures small s old mid start full opens first.same_names names
    next compact (Some c.as_u64-most.result) cap (second.opened told) (second.names told) in
    let lower = opens_size config small s old start c.as_u64-size.result size_is in
    let third = c.in-Ok-lowered.ensures in
    let both = returns-in-Ok-check_same-clause-opened g c told s start in
    let synced = returns-in-Ok-check_same-clause-durable g c told in
    let settled = settled_third config c.names_apart.ensures small s old start left each mid names (first.images told)
    next (second.names told) (second.images told s full.state.size cap low past start.good there) new
    (third.names told) c.as_u64-size.result lower (third.images told) full.state.size c.in-Ok-lowered.full.state.size
    (first.settled told) (third.settled told) in
    let only = subst (λ (n : Names). OnlyLeft (new.log_left new.clock (get_or n.logs 0 []))
    (new.log (get_or n.logs 0 []))) second.same_names synced.1 in
    along_ok config s opened old new (c.in-Ok-lowered.full, compact)
    (along_third config c.names_apart.ensures small s old start left each mid names (first.images told) next
    (second.names told) (second.images told s full.state.size cap low past start.good there) new
    (c.in-Ok-lowered.ensures.names told) c.as_u64-size.result lower (c.in-Ok-lowered.ensures.images told))
    (full_now config s old new start c.in-Ok-lowered.full compact both settled)
    (witness_now config s old new start c.in-Ok-lowered.full compact both third.same_names second.same_names only)
