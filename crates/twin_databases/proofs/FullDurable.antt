-- The full database that was made durable, or has given up old operations, as a database of the run.
use Rattle.std.proofs.Common.{◌≡◌, ℕ, ◌<◌, ◌≤◌, max, min, Bool, true, false, ◌||◌, List, length, Ok, Err, refl, sym, ◌∙◌, ap, subst, arith}
use Rattle.std.specs.Prelude.{Result, IfOk, OnOk}
use Rattle.volume_base.specs.Log.{Log, end_of, pruned_to}
use Rattle.volume_base.specs.Moments.{present}
use Rattle.volume_base.specs.Volume.{State}
use Rattle.journal_base.specs.Blobs.{blob_start}
use Rattle.journal_base.specs.View.{View, log_of, prune_point, SameLog, IsDurable}
use Rattle.codec_base.specs.declared.parts.LengthCfg.{LengthCfg}
use Rattle.tree_shape.specs.Mmr.{mmr}
use Rattle.tree_shape.specs.declared.mmr.Mmr.{Mmr}
use Rattle.merkle_full.specs.Full.{Rests}
use Rattle.auth_journal.specs.Durable.{IsFlushed, IsStarted, IsPrunedTo}
use Rattle.auth_journal.proofs.ReadingLemmas.{run_end}
use Rattle.log_model.specs.AppliedSizes.{AreSizes}
use Rattle.log_model.specs.Machine.{by_blobs}
use Rattle.log_model.specs.Operations.{floor_of}
use Rattle.chain_core.specs.declared.error.Error.{Error}
use Rattle.keyless_db.specs.DbView.{floor_in}
use Rattle.keyless_db.proofs.DbLemmas.{floor_of_list}
use Rattle.keyless_db.proofs.HeldLemmas.{some_ops}
use Rattle.list_machine.specs.Config.{Config}
use Rattle.list_machine.specs.Operation.{Operation, meaning, sha}
use Rattle.twin_batches.specs.Kind.{Kept, kept_pruned, kept_synced}
use Rattle.twin_databases.specs.FullKind.{FullView, IsHeldIn, IsFullDbOf, IsFullUnder}
use Rattle.twin_databases.proofs.NodeReach.{reach_within, reach_whole}

-- ---- what is made durable

module _ (tells : Type 0) (db : FullView) (old new : State) where
  -- of a list that it held it is held
  abbrev pub HoldsStill : FullView → Type 0
  HoldsStill made = tells → (ops : List Operation) → IsHeldIn ops db (present old) → IsHeldIn ops made (present new)

  -- its log begins where it did, and at rest it has all nodes
  settled_one : (made : FullView) → (new.log made.journal.items.name).start ≡ (new.log db.journal.items.name).start
      → Rests mmr made.journal.tree → HoldsStill made → (tells → SameLog db.journal.items old new) → tells
      → (kept : Kept) → IsFullDbOf kept (present old) db → IsFullDbOf (kept_synced kept) (present new) made
  settled_one made begins rests holds same told kept is =
      let held = holds told kept.ops is.held in
      let whole = reach_whole kept.ops made (present new) held rests in
      record {
        held = held;
        begins = begins ∙ ap (λ (l : Log). l.start) (same told) ∙ is.begins;
        reaches = omega (arith, whole);
      }

  flushed_one : (made : FullView) → IsFlushed db.journal made.journal → Rests mmr made.journal.tree
      → HoldsStill made → (tells → SameLog db.journal.items old new) → tells → (kept : Kept)
      → IsFullDbOf kept (present old) db → IsFullDbOf (kept_synced kept) (present new) made
  flushed_one made flushed =
      settled_one made (ap (λ (v : View LengthCfg). (new.log v.name).start) flushed.items)

  -- so it has those that it had
  has_still : (made : FullView) (kept : Kept) → IsFullDbOf kept (present old) db
      → IsFullDbOf (kept_synced kept) (present new) made → IsFullDbOf kept (present new) made
  has_still made kept was is =
      let before = was.reaches in
      let within = reach_within kept.ops db (present old) was.held in
      let after = is.reaches in
      record { held = is.held; begins = is.begins; reaches = omega (arith, before, within, after) }

  pub flushed_list : (r : Result FullView (Error Mmr)) → IfOk r (λ made. IsFlushed db.journal made.journal)
      → IfOk r (λ made. Rests mmr made.journal.tree) → IfOk r HoldsStill → (tells → SameLog db.journal.items old new)
      → IfOk r (λ made. tells → (kept : Kept) → IsFullDbOf kept (present old) db → IsFullDbOf kept (present new) made)
  flushed_list (Ok made) flushed rests holds same = λ told kept is.
      has_still made kept is (flushed_one made flushed rests holds same told kept is)
  flushed_list (Err e) flushed rests holds same = tt

  pub synced_list : (r : Result FullView (Error Mmr)) → IfOk r (λ made. IsFlushed db.journal made.journal)
      → IfOk r (λ made. Rests mmr made.journal.tree) → IfOk r HoldsStill → (tells → SameLog db.journal.items old new)
      → IfOk r (λ made. tells → (kept : Kept) → IsFullDbOf kept (present old) db
      → IsFullDbOf (kept_synced kept) (present new) made)
  synced_list (Ok made) flushed rests holds same = flushed_one made flushed rests holds same
  synced_list (Err e) flushed rests holds same = tt

  -- a sync that was started and is done has flushed the nodes
  none_failed : (items nodes : Bool) → false ≡ (items || nodes) → items ≡ false
  none_failed true nodes same = absurd (let never : true ≡ false = sym same in cc)
  none_failed false nodes same = refl

  pub started_list : (made : FullView) (fails : Bool) → fails ≡ false → IsStarted db.journal made.journal fails
      → (made.journal.items.failed ≡ false → Rests mmr made.journal.tree) → HoldsStill made
      → (tells → SameLog db.journal.items old new) → tells → (kept : Kept) → IsFullDbOf kept (present old) db
      → IsFullDbOf (kept_synced kept) (present new) made
  started_list made fails done started rests =
      settled_one made (ap (λ (v : View LengthCfg). (new.log v.name).start) started.items)
      (rests (none_failed made.journal.items.failed made.journal.tree.log.failed (sym done ∙ started.ticket)))

  pub flushed_durable : (r : Result FullView (Error Mmr)) → IfOk r (λ made. IsFlushed db.journal made.journal)
      → OnOk r (tells → IsDurable db.journal.items new)
      → IfOk r (λ made. tells → IsDurable made.journal.items new)
  flushed_durable (Ok made) flushed durable = λ told. subst (λ (v : View LengthCfg). IsDurable v new)
      (sym flushed.items) (durable told)
  flushed_durable (Err e) flushed durable = tt

  pub flushed_synced : (r : Result FullView (Error Mmr)) → IfOk r (λ made. IsFlushed db.journal made.journal)
      → OnOk r (tells → IsDurable db.journal.items new × IsDurable db.journal.tree.log new)
      → IfOk r (λ made. tells → IsDurable made.journal.items new × IsDurable made.journal.tree.log new)
  flushed_synced (Ok made) flushed durable = λ told. (
    subst (λ (v : View LengthCfg). IsDurable v new) (sym flushed.items) (durable told).0,
    subst (λ (v : View (Unit {0})). IsDurable v new) (sym flushed.tree.log) (durable told).1,
  )
  flushed_synced (Err e) flushed durable = tt

-- ---- what is pruned

-- the log of a list has operations
some_items : (db : FullView) (old : State) (kept : Kept) → IsFullDbOf kept (present old) db → 0 < db.journal.items.end
some_items db old kept is =
    let ends = is.held.journal.end_is in
    let whole = run_end meaning.encoding kept.ops (log_of db.journal.items old) is.held.journal.items in
    let more = some_ops meaning kept.ops is.held.db_of.ends in
    omega (arith, ends, whole, more)

pub pruned_durable : (tells : Type 0) (db : FullView) (old new : State) (r : Result FullView (Error Mmr))
    → IfOk r (λ made. 0 < db.journal.items.end → IsPrunedTo db.journal made.journal)
    → OnOk r (0 < db.journal.items.end → tells → IsDurable db.journal.items new)
    → IfOk r (λ made. tells → (kept : Kept) → IsFullDbOf kept (present old) db → IsDurable made.journal.items new)
pruned_durable tells db old new (Ok made) moved durable = λ told kept is.
    let some = some_items db old kept is in
    subst (λ (v : View LengthCfg). IsDurable v new) (sym (moved some).items) (durable some told)
pruned_durable tells db old new (Err e) moved durable = tt

module _ (tells : Type 0) (db : FullView) (old new : State) (l to : ℕ) (same : l ≡ to) (low : to ≤ floor_in meaning db)
  where
    -- what a prune says of the log
    abbrev pub LogPruned : Type 0
    LogPruned = 0 < db.journal.items.end → tells
        → log_of db.journal.items new ≡ pruned_to (log_of db.journal.items old) (prune_point db.journal.items l old)

    pruned_one : (made : FullView)
        → (tells → (ops : List Operation) → IsHeldIn ops db (present old) → IsHeldIn ops made (present new))
        → (0 < db.journal.items.end → IsPrunedTo db.journal made.journal)
        → (0 < db.journal.items.end → Rests mmr made.journal.tree) → LogPruned → tells
        → (kept : Kept) (config : Config) → IsFullDbOf kept (present old) db
        → IsFullUnder config db → AreSizes (length kept.ops) kept.sizes → floor_of meaning kept.ops ≤ length kept.ops
        → IsFullDbOf (kept_pruned config kept to) (present new) made
    pruned_one made holds moved rests pruned told kept config is under sizes within = record {
      held = held;
      begins = ap (λ (name : List ℕ). (new.log name).start) (ap (λ (v : View LengthCfg). v.name) (moved some).items)
          ∙ ap (λ (log : Log). log.start) (pruned some told)
          ∙ ap (λ (n : ℕ). max n point) is.begins ∙ ap (λ (n : ℕ). max kept.start n) point_is;
      reaches = omega (arith, reach_whole kept.ops made (present new) held (rests some));
    }
      where
        point : ℕ
        point = prune_point db.journal.items l old

        whole : end_of (log_of db.journal.items old) ≡ length kept.ops
        whole = run_end meaning.encoding kept.ops (log_of db.journal.items old) is.held.journal.items

        some : 0 < db.journal.items.end
        some = some_items db old kept is

        held : IsHeldIn kept.ops made (present new)
        held = holds told kept.ops is.held

        floor : floor_in meaning db ≡ floor_of meaning kept.ops
        floor = floor_of_list mmr sha meaning meaning.encoding kept.ops db is.held.db_of

        least : min l (end_of (log_of db.journal.items old)) ≡ to
        least = omega (arith, same, low, floor, within, whole)

        point_is : point ≡ by_blobs config.log_blob to
        point_is = ap (blob_start db.journal.items.blob) least ∙ ap (λ (blob : ℕ). blob_start blob to) under.blob

    pub pruned_list : (r : Result FullView (Error Mmr))
        → IfOk r (λ made. tells → (ops : List Operation) → IsHeldIn ops db (present old)
        → IsHeldIn ops made (present new))
        → IfOk r (λ made. 0 < db.journal.items.end → IsPrunedTo db.journal made.journal)
        → IfOk r (λ made. 0 < db.journal.items.end → Rests mmr made.journal.tree) → OnOk r LogPruned
        → IfOk r (λ made. tells → (kept : Kept) (config : Config) → IsFullDbOf kept (present old) db
        → IsFullUnder config db → AreSizes (length kept.ops) kept.sizes → floor_of meaning kept.ops ≤ length kept.ops
        → IsFullDbOf (kept_pruned config kept to) (present new) made)
    pruned_list (Ok made) holds moved rests pruned = pruned_one made holds moved rests pruned
    pruned_list (Err e) holds moved rests pruned = tt
