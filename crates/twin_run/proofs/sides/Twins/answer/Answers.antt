use Rattle.std.proofs.Common.{refl, sym, ◌∙◌, ap, subst}
use Rattle.std.specs.Prelude.{Err}
use Rattle.std.proofs.lemmas.Result.{IfOk-weaker}
use Rattle.volume_base.proofs.CallLemmas.{names_call_none, names_call_idle}
use Rattle.volume_base.proofs.JoinLemmas.{changes_of_reads, changes_of_writes, went_none}
use Rattle.list_machine.specs.Step.{step, prove_commit}
use Rattle.twin_batches.specs.About.{StaysStill}
use Rattle.twin_batches.proofs.Quiet.{asked_same, proved_same, named_apply, named_proof, named_prune, never_quiet, still_same, still_read, nothing_durable, on_prune, proof_reads, prune_reads}
use Rattle.twin_databases.specs.CompactKind.{compact_kind}
use Rattle.twin_databases.specs.FullKind.{full_kind}
use Rattle.twin_databases.proofs.WentLemmas.{changes_ok, changes_err}
use Rattle.twin_run.proofs.BothFaults.{full_is_own, full_is_outside, full_changes, compact_is_own, compact_is_outside, compact_changes, fault_as, changes_as}
use Rattle.twin_run.proofs.BothSides.{full_stands, compact_stands, twins_over, named_meet, kept_meet, each_ok, kept_same, on_same, on_settled, shaped_settled}
use Rattle.twin_run.proofs.Left.{both_left}
use Rattle.twin_run.proofs.BothMoments.{takes_ok, takes_err, takes_here, takes_idle, takes_named}
use Rattle.twin_run.proofs.BothStates.{in_batches, stands_beside, stands_same}
use Rattle.twin_run.proofs.sides.Twins.answer.Goals as goal

-- ---- batches

pub returns-in-Ok-clause-ok : goal.returns-in-Ok-clause-ok
returns-in-Ok-clause-ok g c = λ told config s lists of. c.in-Ok.ensures.ok config _ s lists of

pub returns-in-Ok-clause-durable : goal.returns-in-Ok-clause-durable
returns-in-Ok-clause-durable g c = λ told. (
  nothing_durable full_kind c.args.command.now
      (λ e. let both = sym (sym c.topic_of.ensures ∙ c.in-Batches.is) ∙ e in cc) _ _,
  nothing_durable compact_kind c.args.command.now
      (λ e. let both = sym (sym c.topic_of.ensures ∙ c.in-Batches.is) ∙ e in cc) _ _,
)

pub returns-in-Ok-clause-pruned : goal.returns-in-Ok-clause-pruned
returns-in-Ok-clause-pruned g c = λ told config s of location start named is. absurd
    (on_prune c.args.command.now _ (sym c.topic_of.ensures ∙ c.in-Batches.is) location named)

pub returns-in-Ok-clause-quiet : goal.returns-in-Ok-clause-quiet
returns-in-Ok-clause-quiet g c = λ quiet. still_same _ _

pub returns-in-Ok-clause-refused : goal.returns-in-Ok-clause-refused
returns-in-Ok-clause-refused g c = λ why is. (c.in-Ok.ensures.kept, still_same _ _)

pub returns-in-Ok-clause-left : goal.returns-in-Ok-clause-left
returns-in-Ok-clause-left g c = c.in-Ok.ensures.refused

pub returns-in-Ok-clause-names : goal.returns-in-Ok-clause-names
returns-in-Ok-clause-names g c = λ told. names_call_none _ _

pub returns-in-Ok-clause-changes : goal.returns-in-Ok-clause-changes
returns-in-Ok-clause-changes g c = changes_ok _ _ _ _ _ (went_none _ _)

pub returns-in-Err-clause-corrupt : goal.returns-in-Err-clause-corrupt
returns-in-Err-clause-corrupt g c = λ told config s lists of. c.in-Err.ensures.corrupt config _ s lists of

pub returns-in-Err-clause-quiet : goal.returns-in-Err-clause-quiet
returns-in-Err-clause-quiet g c = λ quiet. still_same _ _

pub returns-in-Err-clause-names : goal.returns-in-Err-clause-names
returns-in-Err-clause-names g c = λ told. names_call_none _ _

pub returns-in-Err-clause-changes : goal.returns-in-Err-clause-changes
returns-in-Err-clause-changes g c = changes_err _ _ _ _ _ (λ is. c.in-Err.ensures.unfailed (ap Err is)) (went_none _ _)

-- ---- an apply

pub returns-in-Apply-clause-ok : goal.returns-in-Apply-clause-ok
returns-in-Apply-clause-ok g c = IfOk-weaker c.apply.result _ _ (λ r ok told config s lists of.
    named_meet config _ r.0 s r.1 _ _
    (named_apply config s c.args.command.now c.in-Apply.b (sym c.topic_of.ensures ∙ c.in-Apply.is))
    (ok told config s lists of)) c.apply.ensures.ok

pub returns-in-Apply-clause-durable : goal.returns-in-Apply-clause-durable
returns-in-Apply-clause-durable g c = each_ok c.apply.result _ (λ r told. (
  nothing_durable full_kind c.args.command.now
      (λ e. let both = sym (sym c.topic_of.ensures ∙ c.in-Apply.is) ∙ e in cc) _ _,
  nothing_durable compact_kind c.args.command.now
      (λ e. let both = sym (sym c.topic_of.ensures ∙ c.in-Apply.is) ∙ e in cc) _ _,
))

pub returns-in-Apply-clause-pruned : goal.returns-in-Apply-clause-pruned
returns-in-Apply-clause-pruned g c = each_ok c.apply.result _ (λ r told config s of location start named is.
    absurd (on_prune c.args.command.now _ (sym c.topic_of.ensures ∙ c.in-Apply.is) location named))

pub returns-in-Apply-clause-quiet : goal.returns-in-Apply-clause-quiet
returns-in-Apply-clause-quiet g c = λ quiet.
    absurd (never_quiet c.args.command.now _ (sym c.topic_of.ensures ∙ c.in-Apply.is) quiet)

pub returns-in-Apply-clause-kept : goal.returns-in-Apply-clause-kept
returns-in-Apply-clause-kept g c = each_ok c.apply.result _ (λ r quiet.
    absurd (never_quiet c.args.command.now _ (sym c.topic_of.ensures ∙ c.in-Apply.is) quiet))

pub returns-in-Apply-clause-refused : goal.returns-in-Apply-clause-refused
returns-in-Apply-clause-refused g c = IfOk-weaker c.apply.result _ _ (λ r kept why is.
    let same = kept why is in (
      kept_same c.args.self r.0 same.0,
      subst (λ v. StaysStill g.V.Volume.tells (g.V.Volume.state c.args.volume.now) (g.V.Volume.state v)) (sym same.1)
          (still_same _ _),
    )) c.apply.ensures.refused

pub returns-in-Apply-clause-left : goal.returns-in-Apply-clause-left
returns-in-Apply-clause-left g c = IfOk-weaker c.apply.result _ _ (λ r kept why is.
    both_left c.args.command.now why c.args.self r.0
    (λ e. let both = sym (sym c.topic_of.ensures ∙ c.in-Apply.is) ∙ e in cc) (kept why is).0) c.apply.ensures.refused

pub returns-in-Apply-clause-no_item : goal.returns-in-Apply-clause-no_item
returns-in-Apply-clause-no_item g c = λ none. c.apply.ensures.writes.reads

pub returns-in-Apply-clause-changes : goal.returns-in-Apply-clause-changes
returns-in-Apply-clause-changes g c = changes_of_writes _ _ _ _ _ c.apply.ensures.writes

-- ---- a question

pub returns-in-Ok-ask-clause-ok : goal.returns-in-Ok-ask-clause-ok
returns-in-Ok-ask-clause-ok g c = λ told config s lists of.
    let about = sym c.topic_of.ensures ∙ c.in-Question.is in
    kept_meet config _ c.args.self s c.in-Ok-ask.answer (step config s c.args.command.now)
    (asked_same s config c.args.command.now about)
    (c.in-Ok-ask.ensures.ok told config s lists (full_stands config _ c.args.self s of))
    (twins_over config _ _ c.args.self s (c.in-Ok-ask.ensures.reads.contents told) of)

pub returns-in-Ok-ask-clause-goes_on : goal.returns-in-Ok-ask-clause-goes_on
returns-in-Ok-ask-clause-goes_on g c = on_same c.args.self c.requires.shaped

pub returns-in-Ok-ask-clause-durable : goal.returns-in-Ok-ask-clause-durable
returns-in-Ok-ask-clause-durable g c = λ told. (
  nothing_durable full_kind c.args.command.now
      (λ e. let both = sym (sym c.topic_of.ensures ∙ c.in-Question.is) ∙ e in cc) _ _,
  nothing_durable compact_kind c.args.command.now
      (λ e. let both = sym (sym c.topic_of.ensures ∙ c.in-Question.is) ∙ e in cc) _ _,
)

pub returns-in-Ok-ask-clause-pruned : goal.returns-in-Ok-ask-clause-pruned
returns-in-Ok-ask-clause-pruned g c = λ told config s of location start named is. absurd
    (on_prune c.args.command.now _ (sym c.topic_of.ensures ∙ c.in-Question.is) location named)

pub returns-in-Ok-ask-clause-quiet : goal.returns-in-Ok-ask-clause-quiet
returns-in-Ok-ask-clause-quiet g c = λ quiet. still_read _ _ _ _ _ c.in-Ok-ask.ensures.reads

pub returns-in-Ok-ask-clause-kept : goal.returns-in-Ok-ask-clause-kept
returns-in-Ok-ask-clause-kept g c = λ quiet. kept_same c.args.self c.args.self refl

pub returns-in-Ok-ask-clause-refused : goal.returns-in-Ok-ask-clause-refused
returns-in-Ok-ask-clause-refused g c = λ why is. (
  kept_same c.args.self c.args.self refl,
  still_read _ _ _ _ _ c.in-Ok-ask.ensures.reads,
)

pub returns-in-Ok-ask-clause-left : goal.returns-in-Ok-ask-clause-left
returns-in-Ok-ask-clause-left g c = λ why is. both_left c.args.command.now why c.args.self c.args.self
    (λ e. let both = sym (sym c.topic_of.ensures ∙ c.in-Question.is) ∙ e in cc) refl

pub returns-in-Ok-ask-clause-names : goal.returns-in-Ok-ask-clause-names
returns-in-Ok-ask-clause-names g c = λ told.
    let read = c.in-Ok-ask.ensures.reads in
    names_call_idle _ _ _ read.clock (read.past told) (read.contents told)

pub returns-in-Ok-ask-clause-changes : goal.returns-in-Ok-ask-clause-changes
returns-in-Ok-ask-clause-changes g c =
    changes_as _ _ _ _ _ _ _ (λ is. absurd (cc)) (changes_of_reads _ _ _ _ _ c.in-Ok-ask.ensures.reads) (λ kept. kept)

pub returns-in-Err-ask-clause-corrupt : goal.returns-in-Err-ask-clause-corrupt
returns-in-Err-ask-clause-corrupt g c = λ told config s lists of.
    full_is_outside c.in-Err-ask.error _ c.full_fault.ensures
    (c.in-Err-ask.ensures.errors told config s lists (full_stands config _ c.args.self s of))

pub returns-in-Err-ask-clause-own : goal.returns-in-Err-ask-clause-own
returns-in-Err-ask-clause-own g c = full_is_own c.in-Err-ask.error _ c.full_fault.ensures

pub returns-in-Err-ask-clause-quiet : goal.returns-in-Err-ask-clause-quiet
returns-in-Err-ask-clause-quiet g c = λ quiet. still_read _ _ _ _ _ c.in-Err-ask.ensures.reads

pub returns-in-Err-ask-clause-names : goal.returns-in-Err-ask-clause-names
returns-in-Err-ask-clause-names g c = λ told.
    let read = c.in-Err-ask.ensures.reads in
    names_call_idle _ _ _ read.clock (read.past told) (read.contents told)

pub returns-in-Err-ask-clause-changes : goal.returns-in-Err-ask-clause-changes
returns-in-Err-ask-clause-changes g c = full_changes c.in-Err-ask.error _ c.full_fault.ensures _ _ _
    (changes_of_reads _ _ _ _ _ c.in-Err-ask.ensures.reads)

-- ---- a proof of a commit

pub returns-in-Ok-prove_commit-clause-ok : goal.returns-in-Ok-prove_commit-clause-ok
returns-in-Ok-prove_commit-clause-ok g c = λ told config s lists of.
    let about = sym c.topic_of.ensures ∙ c.in-CommitProof.is in
    named_meet config _ c.args.self s c.in-Ok-prove_commit.answer _ _
    (named_proof config s c.args.command.now c.in-CommitProof.n about)
    (kept_meet config _ c.args.self s c.in-Ok-prove_commit.answer (prove_commit s c.in-CommitProof.n)
    (proved_same s c.in-CommitProof.n)
    (c.in-Ok-prove_commit.ensures.ok told config s (compact_stands config _ c.args.self s of))
    (twins_over config _ _ c.args.self s (c.in-Ok-prove_commit.ensures.reads.contents told) of))

pub returns-in-Ok-prove_commit-clause-goes_on : goal.returns-in-Ok-prove_commit-clause-goes_on
returns-in-Ok-prove_commit-clause-goes_on g c = on_same c.args.self c.requires.shaped

pub returns-in-Ok-prove_commit-clause-durable : goal.returns-in-Ok-prove_commit-clause-durable
returns-in-Ok-prove_commit-clause-durable g c = λ told. (
  nothing_durable full_kind c.args.command.now
      (λ e. let both = sym (sym c.topic_of.ensures ∙ c.in-CommitProof.is) ∙ e in cc) _ _,
  nothing_durable compact_kind c.args.command.now
      (λ e. let both = sym (sym c.topic_of.ensures ∙ c.in-CommitProof.is) ∙ e in cc) _ _,
)

pub returns-in-Ok-prove_commit-clause-pruned : goal.returns-in-Ok-prove_commit-clause-pruned
returns-in-Ok-prove_commit-clause-pruned g c = λ told config s of location start named is. absurd
    (on_prune c.args.command.now _ (sym c.topic_of.ensures ∙ c.in-CommitProof.is) location named)

pub returns-in-Ok-prove_commit-clause-quiet : goal.returns-in-Ok-prove_commit-clause-quiet
returns-in-Ok-prove_commit-clause-quiet g c = λ quiet. still_read _ _ _ _ _ c.in-Ok-prove_commit.ensures.reads

pub returns-in-Ok-prove_commit-clause-kept : goal.returns-in-Ok-prove_commit-clause-kept
returns-in-Ok-prove_commit-clause-kept g c = λ quiet. kept_same c.args.self c.args.self refl

pub returns-in-Ok-prove_commit-clause-refused : goal.returns-in-Ok-prove_commit-clause-refused
returns-in-Ok-prove_commit-clause-refused g c = λ why is. (
  kept_same c.args.self c.args.self refl,
  still_read _ _ _ _ _ c.in-Ok-prove_commit.ensures.reads,
)

pub returns-in-Ok-prove_commit-clause-left : goal.returns-in-Ok-prove_commit-clause-left
returns-in-Ok-prove_commit-clause-left g c = λ why is.
    both_left c.args.command.now why c.args.self c.args.self
    (λ e. let both = sym (sym c.topic_of.ensures ∙ c.in-CommitProof.is) ∙ e in cc) refl

pub returns-in-Ok-prove_commit-clause-no_item : goal.returns-in-Ok-prove_commit-clause-no_item
returns-in-Ok-prove_commit-clause-no_item g c = λ none. absurd (proof_reads c.args.command.now c.in-CommitProof.n
    (sym c.topic_of.ensures ∙ c.in-CommitProof.is) none)

pub returns-in-Ok-prove_commit-clause-names : goal.returns-in-Ok-prove_commit-clause-names
returns-in-Ok-prove_commit-clause-names g c = λ told.
    let read = c.in-Ok-prove_commit.ensures.reads in
    names_call_idle _ _ _ read.clock (read.past told) (read.contents told)

pub returns-in-Ok-prove_commit-clause-changes : goal.returns-in-Ok-prove_commit-clause-changes
returns-in-Ok-prove_commit-clause-changes g c = changes_as _ _ _ _ _ _ _ (λ is. absurd (cc))
    (changes_of_reads _ _ _ _ _ c.in-Ok-prove_commit.ensures.reads) (λ kept. kept)

pub returns-in-Err-prove_commit-clause-corrupt : goal.returns-in-Err-prove_commit-clause-corrupt
returns-in-Err-prove_commit-clause-corrupt g c = λ told config s lists of.
    compact_is_outside c.in-Err-prove_commit.error _ c.compact_fault.ensures
    (c.in-Err-prove_commit.ensures.errors told config s (compact_stands config _ c.args.self s of))

pub returns-in-Err-prove_commit-clause-own : goal.returns-in-Err-prove_commit-clause-own
returns-in-Err-prove_commit-clause-own g c = compact_is_own c.in-Err-prove_commit.error _ c.compact_fault.ensures

pub returns-in-Err-prove_commit-clause-quiet : goal.returns-in-Err-prove_commit-clause-quiet
returns-in-Err-prove_commit-clause-quiet g c = λ quiet. still_read _ _ _ _ _ c.in-Err-prove_commit.ensures.reads

pub returns-in-Err-prove_commit-clause-no_item : goal.returns-in-Err-prove_commit-clause-no_item
returns-in-Err-prove_commit-clause-no_item g c = λ none. absurd (proof_reads c.args.command.now c.in-CommitProof.n
    (sym c.topic_of.ensures ∙ c.in-CommitProof.is) none)

pub returns-in-Err-prove_commit-clause-names : goal.returns-in-Err-prove_commit-clause-names
returns-in-Err-prove_commit-clause-names g c = λ told.
    let read = c.in-Err-prove_commit.ensures.reads in
    names_call_idle _ _ _ read.clock (read.past told) (read.contents told)

pub returns-in-Err-prove_commit-clause-changes : goal.returns-in-Err-prove_commit-clause-changes
returns-in-Err-prove_commit-clause-changes g c =
    compact_changes c.in-Err-prove_commit.error _ c.compact_fault.ensures _ _ _
    (changes_of_reads _ _ _ _ _ c.in-Err-prove_commit.ensures.reads)

-- ---- what is made durable

pub returns-in-Ok-store-clause-ok : goal.returns-in-Ok-store-clause-ok
returns-in-Ok-store-clause-ok g c = λ told config s lists of.
    (c.stored_answer.ensures.machine config s, c.in-Ok-store.ensures.ok told config s of)

pub returns-in-Ok-store-clause-shaped : goal.returns-in-Ok-store-clause-shaped
returns-in-Ok-store-clause-shaped g c =
    shaped_settled c.args.self c.in-Ok-store.twins c.requires.shaped c.in-Ok-store.ensures.settled

pub returns-in-Ok-store-clause-goes_on : goal.returns-in-Ok-store-clause-goes_on
returns-in-Ok-store-clause-goes_on g c = on_settled c.args.self c.in-Ok-store.twins c.in-Ok-store.ensures.settled

pub returns-in-Ok-store-clause-pruned : goal.returns-in-Ok-store-clause-pruned
returns-in-Ok-store-clause-pruned g c = λ told config s of location start named is. absurd
    (on_prune c.args.command.now _ (sym c.topic_of.ensures ∙ c.in-Storage.is) location named)

pub returns-in-Ok-store-clause-quiet : goal.returns-in-Ok-store-clause-quiet
returns-in-Ok-store-clause-quiet g c = λ quiet.
    absurd (never_quiet c.args.command.now _ (sym c.topic_of.ensures ∙ c.in-Storage.is) quiet)

pub returns-in-Ok-store-clause-kept : goal.returns-in-Ok-store-clause-kept
returns-in-Ok-store-clause-kept g c = λ quiet.
    absurd (never_quiet c.args.command.now _ (sym c.topic_of.ensures ∙ c.in-Storage.is) quiet)

pub returns-in-Ok-store-clause-refused : goal.returns-in-Ok-store-clause-refused
returns-in-Ok-store-clause-refused g c = λ why is. absurd (c.stored_answer.ensures.done why is)

pub returns-in-Ok-store-clause-left : goal.returns-in-Ok-store-clause-left
returns-in-Ok-store-clause-left g c = λ why is. absurd (c.stored_answer.ensures.done why is)

pub returns-in-Ok-store-clause-no_item : goal.returns-in-Ok-store-clause-no_item
returns-in-Ok-store-clause-no_item g c = λ none. c.in-Ok-store.ensures.writes.reads

pub returns-in-Ok-store-clause-changes : goal.returns-in-Ok-store-clause-changes
returns-in-Ok-store-clause-changes g c = changes_as _ _ _ _ _ _ _ (λ is. absurd (cc))
    (changes_of_writes _ _ _ _ _ c.in-Ok-store.ensures.writes) (λ kept. kept)

pub returns-in-Err-store-clause-corrupt : goal.returns-in-Err-store-clause-corrupt
returns-in-Err-store-clause-corrupt g c = λ told config s lists of. c.in-Err-store.ensures.corrupt told config s of

pub returns-in-Err-store-clause-quiet : goal.returns-in-Err-store-clause-quiet
returns-in-Err-store-clause-quiet g c = λ quiet.
    absurd (never_quiet c.args.command.now _ (sym c.topic_of.ensures ∙ c.in-Storage.is) quiet)

pub returns-in-Err-store-clause-no_item : goal.returns-in-Err-store-clause-no_item
returns-in-Err-store-clause-no_item g c = λ none. c.in-Err-store.ensures.writes.reads

pub returns-in-Err-store-clause-changes : goal.returns-in-Err-store-clause-changes
returns-in-Err-store-clause-changes g c = changes_as _ _ _ _ _ _ _
    (fault_as c.in-Err-store.fault) (changes_of_writes _ _ _ _ _ c.in-Err-store.ensures.writes)
    (λ kept. tt)

-- ---- a prune

pub returns-in-Prune-clause-ok : goal.returns-in-Prune-clause-ok
returns-in-Prune-clause-ok g c = IfOk-weaker c.prune.result _ _ (λ r ok told config s lists of.
    named_meet config _ r.0 s r.1 _ _
    (named_prune config s c.args.command.now c.in-Prune.location (sym c.topic_of.ensures ∙ c.in-Prune.is))
    (ok told config s lists of)) c.prune.ensures.ok

pub returns-in-Prune-clause-durable : goal.returns-in-Prune-clause-durable
returns-in-Prune-clause-durable g c = each_ok c.prune.result _ (λ r told. (
  nothing_durable full_kind c.args.command.now
      (λ e. let both = sym (sym c.topic_of.ensures ∙ c.in-Prune.is) ∙ e in cc) _ _,
  nothing_durable compact_kind c.args.command.now
      (λ e. let both = sym (sym c.topic_of.ensures ∙ c.in-Prune.is) ∙ e in cc) _ _,
))

pub returns-in-Prune-clause-pruned : goal.returns-in-Prune-clause-pruned
returns-in-Prune-clause-pruned g c = IfOk-weaker c.prune.result _ _ (λ r durable told config s of location start named.
    durable told config s of start) c.prune.ensures.durable

pub returns-in-Prune-clause-quiet : goal.returns-in-Prune-clause-quiet
returns-in-Prune-clause-quiet g c = λ quiet.
    absurd (never_quiet c.args.command.now _ (sym c.topic_of.ensures ∙ c.in-Prune.is) quiet)

pub returns-in-Prune-clause-kept : goal.returns-in-Prune-clause-kept
returns-in-Prune-clause-kept g c = each_ok c.prune.result _ (λ r quiet.
    absurd (never_quiet c.args.command.now _ (sym c.topic_of.ensures ∙ c.in-Prune.is) quiet))

pub returns-in-Prune-clause-refused : goal.returns-in-Prune-clause-refused
returns-in-Prune-clause-refused g c = IfOk-weaker c.prune.result _ _ (λ r kept why is.
    let same = kept why is in (
      kept_same c.args.self r.0 same.0,
      subst (λ v. StaysStill g.V.Volume.tells (g.V.Volume.state c.args.volume.now) (g.V.Volume.state v)) (sym same.1)
          (still_same _ _),
    )) c.prune.ensures.refused

pub returns-in-Prune-clause-left : goal.returns-in-Prune-clause-left
returns-in-Prune-clause-left g c = IfOk-weaker c.prune.result _ _ (λ r kept why is.
    both_left c.args.command.now why c.args.self r.0
    (λ e. let both = sym (sym c.topic_of.ensures ∙ c.in-Prune.is) ∙ e in cc) (kept why is).0) c.prune.ensures.refused

pub returns-in-Prune-clause-no_item : goal.returns-in-Prune-clause-no_item
returns-in-Prune-clause-no_item g c = λ none. absurd (prune_reads c.args.command.now c.in-Prune.location
    (sym c.topic_of.ensures ∙ c.in-Prune.is) none)

-- ---- what a crash leaves

pub returns-in-Ok-clause-images : goal.returns-in-Ok-clause-images
returns-in-Ok-clause-images g c = λ told config s lists of.
    let about = sym c.topic_of.ensures ∙ c.in-Batches.is in
    let next = (step config s c.args.command.now).1 in
    takes_here config s next _ _
    (stands_beside config s next (in_batches s config c.args.command.now about))

pub returns-in-Err-clause-images : goal.returns-in-Err-clause-images
returns-in-Err-clause-images g c = λ told config s lists of.
    let about = sym c.topic_of.ensures ∙ c.in-Batches.is in
    let next = (step config s c.args.command.now).1 in
    takes_here config s next _ _
    (stands_beside config s next (in_batches s config c.args.command.now about))

pub returns-in-Apply-clause-images : goal.returns-in-Apply-clause-images
returns-in-Apply-clause-images g c = λ told config s lists of.
    let about = sym c.topic_of.ensures ∙ c.in-Apply.is in
    takes_named config s _ _ _ _ (step config s c.args.command.now)
    (ap (λ o. o.1) (named_apply config s c.args.command.now c.in-Apply.b about))
    (c.apply.ensures.images told config s lists of)

pub returns-in-Ok-ask-clause-images : goal.returns-in-Ok-ask-clause-images
returns-in-Ok-ask-clause-images g c = λ told config s lists of.
    let about = sym c.topic_of.ensures ∙ c.in-Question.is in
    let next = (step config s c.args.command.now).1 in
    let read = c.in-Ok-ask.ensures.reads in
    takes_idle config s next _ _ _ read.clock (read.past told)
    (stands_same config s next (asked_same s config c.args.command.now about))

pub returns-in-Err-ask-clause-images : goal.returns-in-Err-ask-clause-images
returns-in-Err-ask-clause-images g c = λ told config s lists of.
    let about = sym c.topic_of.ensures ∙ c.in-Question.is in
    let next = (step config s c.args.command.now).1 in
    let read = c.in-Err-ask.ensures.reads in
    takes_idle config s next _ _ _ read.clock (read.past told)
    (stands_same config s next (asked_same s config c.args.command.now about))

pub returns-in-Ok-prove_commit-clause-images : goal.returns-in-Ok-prove_commit-clause-images
returns-in-Ok-prove_commit-clause-images g c = λ told config s lists of.
    let about = sym c.topic_of.ensures ∙ c.in-CommitProof.is in
    let next = (step config s c.args.command.now).1 in
    let read = c.in-Ok-prove_commit.ensures.reads in
    takes_idle config s next _ _ _ read.clock (read.past told) (stands_same config s next
    (ap (λ o. o.1) (named_proof config s c.args.command.now c.in-CommitProof.n about)
    ∙ proved_same s c.in-CommitProof.n))

pub returns-in-Err-prove_commit-clause-images : goal.returns-in-Err-prove_commit-clause-images
returns-in-Err-prove_commit-clause-images g c = λ told config s lists of.
    let about = sym c.topic_of.ensures ∙ c.in-CommitProof.is in
    let next = (step config s c.args.command.now).1 in
    let read = c.in-Err-prove_commit.ensures.reads in
    takes_idle config s next _ _ _ read.clock (read.past told) (stands_same config s next
    (ap (λ o. o.1) (named_proof config s c.args.command.now c.in-CommitProof.n about)
    ∙ proved_same s c.in-CommitProof.n))

pub returns-in-Ok-store-clause-images : goal.returns-in-Ok-store-clause-images
returns-in-Ok-store-clause-images g c = λ told config s lists of.
    takes_ok config s (step config s c.args.command.now).1 _ _ c.in-Ok-store.twins _
    (c.in-Ok-store.ensures.images told config s of)

pub returns-in-Err-store-clause-images : goal.returns-in-Err-store-clause-images
returns-in-Err-store-clause-images g c = λ told config s lists of.
    takes_err config s (step config s c.args.command.now).1 _ _ c.in-Err-store.fault _
    (c.in-Err-store.ensures.images told config s of)

pub returns-in-Prune-clause-images : goal.returns-in-Prune-clause-images
returns-in-Prune-clause-images g c = λ told config s lists of.
    let about = sym c.topic_of.ensures ∙ c.in-Prune.is in
    takes_named config s _ _ _ _ (step config s c.args.command.now)
    (ap (λ o. o.1) (named_prune config s c.args.command.now c.in-Prune.location about))
    (c.prune.ensures.images told config s lists of)
