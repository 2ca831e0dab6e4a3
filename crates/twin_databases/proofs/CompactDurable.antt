-- The compact database that was made durable, or has given up old witnesses, as a database of the run.
use Rattle.std.proofs.Common.{◌≡◌, inl, inr, ℕ, zero, suc, ◌+◌, ◌-◌, ◌<◌, ◌≤◌, max, min, Bool, true, false, List, [], ◌∷◌, length, map, drop, Ok, Err, refl, sym, ◌∙◌, ap, subst, arith}
use Rattle.std.specs.Prelude.{nat_le, Result, IfOk, IfErr, OnOk, IsErrOf}
use Rattle.std.proofs.Math.Nat.{mul-div-le}
use Rattle.std.proofs.lemmas.List.{length-map, drop-map}
use Rattle.volume_base.specs.Log.{Log, pruned_to}
use Rattle.volume_base.specs.Moments.{present}
use Rattle.volume_base.specs.Names.{log_alone, NamesCall}
use Rattle.volume_base.specs.Volume.{State, OnlyLeft, LogCall}
use Rattle.volume_base.specs.declared.error.JournalError.TheVariants.{SizeOverflow}
use Rattle.volume_base.proofs.CallLemmas.{names_call_log}
use Rattle.journal_base.specs.Blobs.{blob_start}
use Rattle.journal_base.specs.View.{View, log_of, after_sync, SameButBounds, SameLog, IsDurable}
use Rattle.tree_shape.specs.Mmr.{mmr}
use Rattle.tree_shape.specs.declared.mmr.Mmr.{Mmr}
use Rattle.tree_shape.specs.declared.sha256.Sha256Digest.{Sha256Digest}
use Rattle.log_model.specs.AppliedSizes.{RiseTo, AreSizes, first_at_least}
use Rattle.log_model.specs.Machine.{by_blobs}
use Rattle.log_model.specs.Operations.{floor_of}
use Rattle.log_model.proofs.SizeLemmas.{either, le_is, not_le}
use Rattle.chain_core.specs.Answers.{IsOutside}
use Rattle.chain_core.specs.declared.error.Error.{Error}
use Rattle.chain_core.specs.declared.error.Error.TheVariants as error
use Rattle.witness_store.specs.Witnesses.{kept_from, sizes_of}
use Rattle.witness_store.specs.declared.witness.Witness.{Witness}
use Rattle.compact_db.specs.DbView.{seen_log, waits}
use Rattle.compact_db.specs.Held.{SameState}
use Rattle.compact_db.specs.WitnessOf.{witness_of}
use Rattle.compact_db.specs.Writing.{IsOutsideOrFull}
use Rattle.compact_db.specs.declared.verified.VerifiedWitness.{VerifiedWitness}
use Rattle.list_machine.specs.Config.{Config}
use Rattle.list_machine.specs.Operation.{Operation, meaning, sha}
use Rattle.twin_batches.specs.Durability.{IsSettled}
use Rattle.twin_batches.specs.Kind.{Kept, kept_pruned, kept_synced}
use Rattle.twin_databases.specs.CompactKind.{CompactView, IsHeldAt, IsCompactOf, IsCompactUnder, at_rest, held_over, compact_kind}
use Rattle.twin_databases.proofs.CompactLemmas.{same_name, same_failed, same_blob, was_held, made_begins}

-- ---- what is the same after it

module _ (db made : CompactView) (same : SameState db made) (log : SameButBounds (seen_log db.log) (seen_log made.log))
    (sound : (seen_log db.log).failed ≡ false) where
  pub settled_by : IsSettled compact_kind db made
  settled_by = record {
    state = ap (λ (v : VerifiedWitness Mmr Sha256Digest). record { size = v.witness.size; root = v.root }) same.tip;
    floor = ap (λ (op : Operation). floor_of meaning (op ∷ [])) same.commit;
    names = ap log_alone (same_name (seen_log db.log) (seen_log made.log) log);
    under = λ config under. record {
      blob = same_blob (seen_log db.log) (seen_log made.log) log ∙ under.blob;
      codec = same.codec ∙ under.codec;
    };
    sound = same_failed (seen_log db.log) (seen_log made.log) log ∙ sound;
  }

-- a sync that was started and hasn't failed leaves the log as it is known
pub not_failed : (was is : View (Unit {0})) → was.failed ≡ false → SameButBounds (after_sync was false) is
    → SameButBounds was is
not_failed was is sound same =
    subst (λ (v : View (Unit {0})). SameButBounds v is) (ap (λ b. after_sync was b) (sym sound)) same

module _ (tells : Type 0) (db : CompactView) (old new : State) where
  -- of a list that it held it is held
  abbrev pub HoldsStill : CompactView → Type 0
  HoldsStill made = tells → (ops : List Operation) (sizes : List ℕ) → IsHeldAt ops sizes db old
      → IsHeldAt ops sizes made new

  -- so it is the database of what it was that of
  pub settled_list : (made : CompactView) → SameButBounds (seen_log db.log) (seen_log made.log) → HoldsStill made
      → (waits db.log ≡ false → tells → SameLog (seen_log db.log) old new) → tells → (kept : Kept)
      → IsCompactOf kept (present old) db → IsCompactOf kept (present new) made
  settled_list made log holds same told kept is =
      let held = was_held db made old new kept is log in
      record {
        held = held_over kept.ops kept.sizes made new (at_rest (present new)) refl
            (holds told kept.ops kept.sizes held);
        few = is.few;
        begins = made_begins db made old new kept is log (ap (λ (l : Log). l.start) (same held.opened told));
      }

  -- the nodes of a tree are no part of it
  with_nodes : (made : CompactView) (kept : Kept) → IsCompactOf kept (present new) made
      → IsCompactOf (kept_synced kept) (present new) made
  with_nodes made kept is = record { held = is.held; few = is.few; begins = is.begins }

  pub synced_list : (made : CompactView) → SameButBounds (seen_log db.log) (seen_log made.log) → HoldsStill made
      → (waits db.log ≡ false → tells → SameLog (seen_log db.log) old new) → tells → (kept : Kept)
      → IsCompactOf kept (present old) db → IsCompactOf (kept_synced kept) (present new) made
  synced_list made log holds same told kept is = with_nodes made kept (settled_list made log holds same told kept is)

  pub settled_durable : (made : CompactView) → SameButBounds (seen_log db.log) (seen_log made.log)
      → IsDurable (seen_log db.log) new → IsDurable (seen_log made.log) new
  settled_durable made log durable =
      subst (λ (name : List ℕ). OnlyLeft (new.log_left new.clock name) (new.log name))
      (sym (same_name (seen_log db.log) (seen_log made.log) log)) durable

  -- where it is the database of a list its log is open, and so isn't full
  pub fails_outside : (e : Error Mmr) → IsOutsideOrFull e → (e ≡ error.Journal SizeOverflow → waits db.log ≡ true)
      → (kept : Kept) → IsCompactOf kept (present old) db → IsOutside e
  fails_outside e (inl outside) waiting kept is = outside
  fails_outside e (inr full) waiting kept is =
      let both : true ≡ false = sym (waiting full) ∙ is.held.opened in absurd cc

  pub log_names : (step : Log → Log → Type 0) → LogCall (seen_log db.log).name step old new
      → NamesCall (log_alone (seen_log db.log).name) old new
  log_names step call =
      names_call_log (log_alone (seen_log db.log).name) (seen_log db.log).name step old new (inl refl) call

-- ---- what a call says that makes the witnesses durable

module _ (tells : Type 0) (db : CompactView) (old new : State) where
  abbrev pub SameBounds : CompactView → Type 0
  SameBounds made = SameButBounds (seen_log db.log) (seen_log made.log)

  pub call_list : (r : Result CompactView (Error Mmr)) → IfOk r SameBounds → IfOk r (HoldsStill tells db old new)
      → (waits db.log ≡ false → tells → SameLog (seen_log db.log) old new)
      → IfOk r (λ made. tells → (kept : Kept) → IsCompactOf kept (present old) db
      → IsCompactOf kept (present new) made)
  call_list (Ok made) log holds same = settled_list tells db old new made log holds same
  call_list (Err e) log holds same = tt

  pub call_synced : (r : Result CompactView (Error Mmr)) → IfOk r SameBounds → IfOk r (HoldsStill tells db old new)
      → (waits db.log ≡ false → tells → SameLog (seen_log db.log) old new)
      → IfOk r (λ made. tells → (kept : Kept) → IsCompactOf kept (present old) db
      → IsCompactOf (kept_synced kept) (present new) made)
  call_synced (Ok made) log holds same = synced_list tells db old new made log holds same
  call_synced (Err e) log holds same = tt

  pub call_settled : (r : Result CompactView (Error Mmr)) → IfOk r (SameState db) → IfOk r SameBounds
      → (seen_log db.log).failed ≡ false → IfOk r (IsSettled compact_kind db)
  call_settled (Ok made) same log sound = settled_by db made same log sound
  call_settled (Err e) same log sound = tt

  pub call_durable : (r : Result CompactView (Error Mmr)) → IfOk r SameBounds
      → OnOk r (tells → IsDurable (seen_log db.log) new) → IfOk r (λ made. tells → IsDurable (seen_log made.log) new)
  call_durable (Ok made) log durable = λ told. settled_durable tells db old new made log (durable told)
  call_durable (Err e) log durable = tt

  pub call_errors : (r : Result CompactView (Error Mmr)) → IfErr r IsOutsideOrFull
      → (IsErrOf r (error.Journal SizeOverflow) → waits db.log ≡ true)
      → IfErr r (λ e. tells → (kept : Kept) → IsCompactOf kept (present old) db → IsOutside e)
  call_errors (Ok made) cause waiting = tt
  call_errors (Err e) cause waiting = λ told kept is.
      fails_outside tells db old new e cause (λ full. waiting (ap Err full)) kept is

-- ---- the first size that is at least another

-- it is found again behind those that are dropped before it
pub first_behind : (l w : ℕ) (ns : List ℕ) → w ≤ first_at_least l ns
    → w + first_at_least l (drop w ns) ≡ first_at_least l ns
first_behind l zero ns low = omega arith
first_behind l (suc w) [] low = absurd (omega (arith, low))
first_behind l (suc w) (n ∷ ns) low =
    either (λ (i : ℕ). suc w ≤ i → suc w + first_at_least l (drop w ns) ≡ i) (nat_le l n) _ _
    (λ e le. absurd (omega (arith, le)))
    (λ e le. (let rest = first_behind l w ns (omega (arith, le)) in omega (arith, rest))) low

-- among those that rise from at least it on it is the first that is left
first_above : (l w low high : ℕ) (ns : List ℕ) → l ≤ low → RiseTo low high ns → first_at_least l (drop w ns) ≡ 0
first_above l zero low high [] le rise = refl
first_above l (suc w) low high [] le rise = refl
first_above l zero low high (n ∷ ns) le rise =
    either (λ (i : ℕ). i ≡ 0) (nat_le l n) _ _ (λ e. refl)
    (λ e. absurd (let lt = not_le l n e in let up = rise.0 in omega (arith, lt, up, le)))
first_above l (suc w) low high (n ∷ ns) le rise =
    let up = rise.0 in first_above l w n high ns (omega (arith, up, le)) rise.1

-- and so it is where more are dropped
first_dropped : (l w low high : ℕ) (ns : List ℕ) → RiseTo low high ns → first_at_least l ns ≤ w
    → first_at_least l (drop w ns) ≡ 0
first_dropped l zero low high ns rise within = omega (arith, within)
first_dropped l (suc w) low high [] rise within = refl
first_dropped l (suc w) low high (n ∷ ns) rise within =
    either (λ (i : ℕ). i ≤ suc w → first_at_least l (drop w ns) ≡ 0) (nat_le l n) _ _
    (λ e le. first_above l w n high ns (le_is l n e) rise.1)
    (λ e le. first_dropped l w n high ns rise.1 (omega (arith, le))) within

-- one is at least what the last is at least
first_within : (l low high : ℕ) (ns : List ℕ) → RiseTo low high ns → low < l → l ≤ high
    → first_at_least l ns < length ns
first_within l low high [] rise lt le = absurd (omega (arith, rise, lt, le))
first_within l low high (n ∷ ns) rise lt le =
    either (λ (i : ℕ). i < length (n ∷ ns)) (nat_le l n) _ _ (λ e. omega arith)
    (λ e. (let rest = first_within l n high ns rise.1 (not_le l n e) le in omega (arith, rest)))

pub first_size : (l total : ℕ) (sizes : List ℕ) → AreSizes total sizes → l ≤ total → first_at_least l sizes < length sizes
first_size l total [] are le = absurd are
first_size l total (n ∷ ns) are le =
    either (λ (i : ℕ). i < length (n ∷ ns)) (nat_le l n) _ _ (λ e. omega arith)
    (λ e. (let one = are.0 in let past = not_le l n e in
    let rest = first_within l 1 total ns are.1 (omega (arith, one, past)) le in omega (arith, rest)))

pub first_gone : (l w total : ℕ) (sizes : List ℕ) → AreSizes total sizes → first_at_least l sizes ≤ w
    → first_at_least l (drop w sizes) ≡ 0
first_gone l w total [] are within = absurd are
first_gone l w total (n ∷ ns) are within =
    let one = are.0 in
    first_dropped l w 0 total (n ∷ ns) (omega (arith, one), subst (λ k. RiseTo k total ns) (sym one) are.1) within

-- From where on a prune keeps witnesses, of those that are kept from a start on: by whole blobs it is as if all were.
pub kept_start : (blob w l total : ℕ) (sizes : List ℕ) → AreSizes total sizes → l ≤ total → w < length sizes
    → max w (by_blobs blob (min (w + first_at_least l (drop w sizes)) (length sizes - 1)))
    ≡ max w (by_blobs blob (first_at_least l sizes))
kept_start blob w l total sizes are le some = by (nat_le w (first_at_least l sizes)) refl
  where
    first : ℕ
    first = first_at_least l sizes

    by : (b : Bool) → nat_le w first ≡ b
        → max w (by_blobs blob (min (w + first_at_least l (drop w sizes)) (length sizes - 1)))
        ≡ max w (by_blobs blob first)
    by true e =
        let place = first_behind l w sizes (le_is w first e) in
        let within = first_size l total sizes are le in
        let here : min (w + first_at_least l (drop w sizes)) (length sizes - 1) ≡ first =
        omega (arith, place, within) in
        ap (λ (n : ℕ). max w (by_blobs blob n)) here
    by false e =
        let lt = not_le w first e in
        let none = first_gone l w total sizes are (omega (arith, lt)) in
        let here : min (w + first_at_least l (drop w sizes)) (length sizes - 1) ≡ w = omega (arith, none, some) in
        let low = mul-div-le w blob in
        let less = mul-div-le first blob in
        ap (λ (n : ℕ). max w (by_blobs blob n)) here ∙ omega (arith, low, less, lt)

-- ---- what is pruned

pub sizes_are : (ops : List Operation) (sizes : List ℕ)
    → sizes_of (map (witness_of {F = Mmr} mmr sha meaning ops) sizes) ≡ sizes
sizes_are ops [] = refl
sizes_are ops (n ∷ sizes) = ap (λ (ns : List ℕ). n ∷ ns) (sizes_are ops sizes)

module _ (tells : Type 0) (db : CompactView) (old new : State) (l to : ℕ) (same : l ≡ to)
    (low : to ≤ compact_kind.floor db) where
  -- what a prune says of the log of a list
  abbrev pub LogPruned : Type 0
  LogPruned = tells → (ops : List Operation) (sizes : List ℕ) → IsHeldAt ops sizes db old →
      log_of (seen_log db.log) new ≡ pruned_to (log_of (seen_log db.log) old)
      (blob_start (seen_log db.log).blob
      (kept_from (map (witness_of {F = Mmr} mmr sha meaning ops) sizes) (seen_log db.log).start l))

  module _ (kept : Kept) (is : IsCompactOf kept (present old) db) (config : Config) (under : IsCompactUnder config db)
      (sizes : AreSizes (length kept.ops) kept.sizes) (within : floor_of meaning kept.ops ≤ length kept.ops) where
    abbrev Witnesses : List (Witness Mmr Sha256Digest)
    Witnesses = map (witness_of {F = Mmr} mmr sha meaning kept.ops) kept.sizes

    start : (seen_log db.log).start ≡ kept.wstart
    start = is.held.bounds.start_is ∙ is.begins

    few : length Witnesses ≡ length kept.sizes
    few = length-map kept.sizes (witness_of {F = Mmr} mmr sha meaning kept.ops)

    behind : sizes_of (drop kept.wstart Witnesses) ≡ drop kept.wstart kept.sizes
    behind =
        ap sizes_of (drop-map (witness_of {F = Mmr} mmr sha meaning kept.ops) kept.wstart kept.sizes)
        ∙ sizes_are kept.ops (drop kept.wstart kept.sizes)

    place : kept_from Witnesses (seen_log db.log).start l
        ≡ min (kept.wstart + first_at_least to (drop kept.wstart kept.sizes)) (length kept.sizes - 1)
    place =
        ap (λ (n : ℕ). kept_from Witnesses n l) start
        ∙ ap (λ (n : ℕ). kept_from Witnesses kept.wstart n) same
        ∙ ap (λ (ns : List ℕ). min (kept.wstart + first_at_least to ns) (length Witnesses - 1)) behind
        ∙ ap (λ (n : ℕ). min (kept.wstart + first_at_least to (drop kept.wstart kept.sizes)) (n - 1)) few

    some : kept.wstart < length kept.sizes
    some = let here = is.held.some in let begins = is.begins in omega (arith, here, begins)

    least : to ≤ length kept.ops
    least = let floor = compact_kind.floor_is kept (present old) db is in omega (arith, low, floor, within)

    pub point_is : max kept.wstart (blob_start (seen_log db.log).blob (kept_from Witnesses (seen_log db.log).start l))
        ≡ (kept_pruned config kept to).wstart
    point_is =
        ap (λ (n : ℕ). max kept.wstart (blob_start (seen_log db.log).blob n)) place
        ∙ ap (λ (blob : ℕ). max kept.wstart (blob_start blob
        (min (kept.wstart + first_at_least to (drop kept.wstart kept.sizes)) (length kept.sizes - 1)))) under.blob
        ∙ kept_start config.witness_blob kept.wstart to (length kept.ops) kept.sizes sizes least some

  pub pruned_list : (made : CompactView) → SameButBounds (seen_log db.log) (seen_log made.log)
      → HoldsStill tells db old new made → LogPruned → tells → (kept : Kept) (config : Config)
      → IsCompactOf kept (present old) db → IsCompactUnder config db → AreSizes (length kept.ops) kept.sizes
      → floor_of meaning kept.ops ≤ length kept.ops → IsCompactOf (kept_pruned config kept to) (present new) made
  pruned_list made log holds pruned told kept config is under sizes within =
      let held = was_held db made old new kept is log in
      let point : ℕ = blob_start (seen_log db.log).blob
      (kept_from (map (witness_of {F = Mmr} mmr sha meaning kept.ops) kept.sizes) (seen_log db.log).start l) in
      record {
        held = held_over kept.ops kept.sizes made new (at_rest (present new)) refl
            (holds told kept.ops kept.sizes held);
        few = is.few;
        begins = ap (λ (name : List ℕ). (new.log name).start) (same_name (seen_log db.log) (seen_log made.log) log)
            ∙ ap (λ (log : Log). log.start) (pruned told kept.ops kept.sizes held)
            ∙ ap (λ (n : ℕ). max n point) is.begins
            ∙ point_is kept is config under sizes within;
      }

  pub prune_list : (r : Result CompactView (Error Mmr)) → IfOk r (SameBounds tells db old new)
      → IfOk r (HoldsStill tells db old new) → OnOk r LogPruned
      → IfOk r (λ made. tells → (kept : Kept) (config : Config) → IsCompactOf kept (present old) db
      → IsCompactUnder config db → AreSizes (length kept.ops) kept.sizes → floor_of meaning kept.ops ≤ length kept.ops
      → IsCompactOf (kept_pruned config kept to) (present new) made)
  prune_list (Ok made) log holds pruned = pruned_list made log holds pruned
  prune_list (Err e) log holds pruned = tt

module _ (tells : Type 0) (db : CompactView) (old new : State) where
  pub prune_durable : (r : Result CompactView (Error Mmr)) → IfOk r (SameBounds tells db old new)
      → OnOk r (tells → IsDurable (seen_log db.log) new)
      → IfOk r (λ made. tells → (kept : Kept) → IsCompactOf kept (present old) db → IsDurable (seen_log made.log) new)
  prune_durable (Ok made) log durable = λ told kept is. settled_durable tells db old new made log (durable told)
  prune_durable (Err e) log durable = tt

  pub prune_errors : (r : Result CompactView (Error Mmr))
      → (waits db.log ≡ false → tells → (ops : List Operation) (sizes : List ℕ) → IsHeldAt ops sizes db old
      → IfErr r (λ e. IsOutside e))
      → IfErr r (λ e. tells → (kept : Kept) → IsCompactOf kept (present old) db → IsOutside e)
  prune_errors (Ok made) outside = tt
  prune_errors (Err e) outside = λ told kept is.
      outside is.held.opened told kept.ops kept.sizes
      (held_over kept.ops kept.sizes db (at_rest (present old)) old refl is.held)
