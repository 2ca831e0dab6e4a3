-- The compact database as a database of the run: what its calls say, in the run's words.
use Rattle.std.proofs.Common.{◌≡◌, ◌⊎◌, inl, inr, true, false, ℕ, suc, ◌-◌, ◌^◌, ◌<◌, ◌≤◌, List, [], ◌∷◌, ◌++◌, length, map, drop, Option, Some, refl, sym, ◌∙◌, ap, subst, append-nil, arith}
use Rattle.std.specs.Prelude.{slice_get, nat_lt, Result, Ok, Err, IfOk, IfErr, IsErrOf, Contains}
use Rattle.std.proofs.lemmas.List.{length-append, length-map, length-drop}
use Rattle.volume_base.specs.Log.{Log, end_of}
use Rattle.volume_base.specs.Moments.{present}
use Rattle.volume_base.specs.Volume.{State}
use Rattle.volume_base.specs.declared.error.JournalError.TheVariants.{SizeOverflow}
use Rattle.tree_shape.specs.Mmr.{mmr}
use Rattle.tree_shape.specs.Sha256Codec.{bytes_of}
use Rattle.tree_shape.specs.declared.mmr.Mmr.{Mmr}
use Rattle.tree_shape.specs.declared.sha256.Sha256Digest.{Sha256Digest}
use Rattle.log_model.specs.Operations.{last_value}
use Rattle.log_model.proofs.SizeLemmas.{either, lt_is, not_lt}
use Rattle.op_codec.specs.declared.keyless.Operation.TheVariants.{Append, Commit}
use Rattle.chain_core.specs.Answers.{IsOutside}
use Rattle.chain_core.specs.Chains as chains
use Rattle.chain_core.specs.Marks.{IsMarkedOn}
use Rattle.chain_core.specs.declared.bounds.Bounds.{Bounds}
use Rattle.chain_core.specs.declared.commitment.Commitment.{Commitment}
use Rattle.chain_core.specs.declared.error.Error.{Error}
use Rattle.chain_core.specs.declared.error.Error.TheVariants as error
use Rattle.chain_core.specs.declared.pool.HeldBatch.{HeldBatch}
use Rattle.journal_base.specs.View.{View, log_of, SameButBounds}
use Rattle.witness_store.specs.Witness.{text_of}
use Rattle.witness_store.specs.declared.witness.Witness.{Witness}
use Rattle.compact_db.specs.Batches.{IsUnmerkleizedOf, IsMerkleizedOf, HasMarks, IsPoolOf, IsSealedBy, bounds_of, link_marks}
use Rattle.compact_db.specs.DbView.{IsOfList, commitment_in, seen_log, waits}
use Rattle.compact_db.specs.Sealing.{IsSealedIn}
use Rattle.compact_db.specs.WitnessOf.{witness_of}
use Rattle.compact_db.specs.Writing.{written_log, IsOutsideOrFull}
use Rattle.compact_db.specs.declared.database.WitnessLog.{WitnessLog}
use Rattle.compact_db.specs.declared.database.WitnessLog.TheVariants.{Open, Import}
use Rattle.compact_db.proofs.DbLemmas.{size_of_list}
use Rattle.list_machine.specs.Operation.{Operation, meaning, sha}
use Rattle.twin_batches.specs.Kind.{Kept, with_list, sealing_of}
use Rattle.twin_databases.specs.CompactKind.{CompactView, SealedView, UnsealedView, IsHeldAt, IsCompactOf, at_rest, held_over, compact_kind}

-- ---- a list's last commit

-- the value that ends a list is that of its last operation
pub value_by_last : (ops : List Operation) (op : Operation) → slice_get ops (length ops - 1) ≡ Some op → meaning.value op ≡ last_value meaning ops
value_by_last [] op at = absurd cc
value_by_last (x ∷ []) op at = let e : x ≡ op = cc in ap (λ o. meaning.value o) (sym e)
value_by_last (x ∷ y ∷ ops) op at =
    let n : length (x ∷ y ∷ ops) - 1 ≡ suc (length (y ∷ ops) - 1) = omega arith in
    value_by_last (y ∷ ops) op (rw n at at)

-- what has a floor is a commit
pub commit_by : (op : Operation) (metadata : Option (List ℕ)) (floor : ℕ) → meaning.floor op ≡ Some floor → meaning.value op ≡ metadata → op ≡ Commit metadata floor
commit_by (Append value) metadata floor f v = absurd cc
commit_by (Commit m k) metadata floor f v = let e : k ≡ floor = cc in rw (e, v) refl

-- ---- a seal

module _ (pool : List (Option (HeldBatch SealedView))) (u : UnsealedView) (k floor : ℕ) (same : k ≡ floor) where
  pub sealed_at : (current : Commitment Mmr Sha256Digest) (below : ℕ) (made : Bounds Mmr Sha256Digest) → IsSealedIn bytes_of pool u current below k made
      → chains.IsSealedAt compact_kind.bounds bytes_of pool (sealing_of compact_kind u) current below floor made
  sealed_at current below made is = subst (λ n. chains.IsSealedAt compact_kind.bounds bytes_of pool (sealing_of compact_kind u) current below n made) same (record {
    place = is.place;
    place_of = is.place_of;
    may = is.may;
    base = is.base;
    db = is.db;
    ancestors = is.ancestors;
    size = is.size;
    floor_is = is.floor_is;
  })

  -- of a list, with the marks of its chain, it is sealed with its own
  pub sealed_of : (metadata : Option (List ℕ)) (x : SealedView)
      → ((list : List Operation) → IsUnmerkleizedOf mmr sha meaning list u → IsPoolOf mmr sha meaning pool u.parent list → IsSealedBy mmr sha meaning list u.pending metadata k x)
      → ((list : List Operation) → IsUnmerkleizedOf mmr sha meaning list u → IsMarkedOn bounds_of pool u.parent u.base (link_marks u.tree.links) → HasMarks x)
      → (list : List Operation) (marks : List ℕ) → compact_kind.is_unsealed list u → compact_kind.is_marked marks u
      → chains.IsPoolOf compact_kind.bounds mmr sha meaning pool (compact_kind.parent u) list
      → IsMarkedOn compact_kind.bounds pool (compact_kind.parent u) (compact_kind.base u) marks
      → compact_kind.is_sealed (list ++ (u.pending ++ (Commit metadata floor ∷ []))) x
  sealed_of metadata x of marked list marks is has chain on =
      let by = of list is (record { boundary = chain.boundary; reached = chain.reached }) in
      let commit = commit_by by.commit metadata floor (by.floored ∙ ap Some same) by.valued in (
        subst (λ (op : Operation). IsMerkleizedOf mmr sha meaning (list ++ (u.pending ++ (op ∷ []))) x) commit by.list_is,
        marked list is (subst (λ (ms : List ℕ). IsMarkedOn compact_kind.bounds pool u.parent u.base ms) (sym has) on),
      )

-- ---- an apply

-- the log of a database that is held ends where its sizes do
held_end : (ops : List Operation) (sizes : List ℕ) (db : CompactView) (state : State) → IsHeldAt ops sizes db state → end_of (log_of (seen_log db.log) state) ≡ length sizes
held_end ops sizes db state held =
    let ws = map (witness_of {F = Mmr} mmr sha meaning ops) sizes in
    let log = log_of (seen_log db.log) state in
    let spelled = held.witnesses.spelled in
    let items : length log.items ≡ length (drop log.start (map (text_of bytes_of) ws)) = ap length spelled.items in
    let count : length (map (text_of bytes_of) ws) ≡ length sizes = length-map ws (text_of bytes_of) ∙ length-map sizes (witness_of {F = Mmr} mmr sha meaning ops) in
    omega (arith, items, length-drop log.start (map (text_of bytes_of) ws), count, spelled.within)

-- what is written behind others begins where they do
written_start : (log : WitnessLog Mmr Sha256Digest) (w : Witness Mmr Sha256Digest) (state : State) → waits log ≡ false → (written_log bytes_of log w state).start ≡ (log_of (seen_log log) state).start
written_start (Open store) w state here = refl
written_start (Import cfg) w state here = absurd cc

pub same_name : (was is : View (Unit {0})) → SameButBounds was is → is.name ≡ was.name
same_name was is same = ap (λ (v : View (Unit {0})). v.name) same

-- what stays of a log whose bounds alone change
pub same_failed : (was is : View (Unit {0})) → SameButBounds was is → is.failed ≡ was.failed
same_failed was is same = ap (λ (v : View (Unit {0})). v.failed) same

pub same_blob : (was is : View (Unit {0})) → SameButBounds was is → is.blob ≡ was.blob
same_blob was is same = ap (λ (v : View (Unit {0})). v.blob) same

-- a list without more
no_more : (ops more : List Operation) → length more ≤ 0 → ops ++ more ≡ ops
no_more ops [] le = append-nil ops
no_more ops (op ∷ more) le = absurd (omega (arith, le))

-- what it keeps of a longer list
longer_sizes : (kept : Kept) (list : List Operation) → length kept.ops < length list → (with_list kept list).sizes ≡ kept.sizes ++ (length list ∷ [])
longer_sizes kept list lt =
    either (λ (ns : List ℕ). ns ≡ kept.sizes ++ (length list ∷ [])) (nat_lt (length kept.ops) (length list)) _ _ (λ e. refl)
    (λ e. absurd (let le = not_lt (length kept.ops) (length list) e in omega (arith, lt, le)))

same_sizes : (kept : Kept) (list : List Operation) → length list ≤ length kept.ops → (with_list kept list).sizes ≡ kept.sizes
same_sizes kept list le =
    either (λ (ns : List ℕ). ns ≡ kept.sizes) (nat_lt (length kept.ops) (length list)) _ _
    (λ e. absurd (let lt = lt_is (length kept.ops) (length list) e in omega (arith, lt, le))) (λ e. refl)

module _ (db made : CompactView) (old new : State) (kept : Kept) (is : IsCompactOf kept (present old) db)
    (names : SameButBounds (seen_log db.log) (seen_log made.log)) where
  pub was_held : IsHeldAt kept.ops kept.sizes db old
  was_held = held_over kept.ops kept.sizes db (at_rest (present old)) old refl is.held

  pub made_begins : (log_of (seen_log db.log) new).start ≡ (log_of (seen_log db.log) old).start → ((present new).log (seen_log made.log).name).start ≡ kept.wstart
  made_begins start = ap (λ (name : List ℕ). (new.log name).start) (same_name (seen_log db.log) (seen_log made.log) names) ∙ start ∙ is.begins

  -- a longer list, with one witness more
  made_longer : (more : List Operation) → 0 < length more → (log_of (seen_log db.log) new).start ≡ (log_of (seen_log db.log) old).start
      → IsHeldAt (kept.ops ++ more) (kept.sizes ++ (length (kept.ops ++ more) ∷ [])) made new → IsCompactOf (with_list kept (kept.ops ++ more)) (present new) made
  made_longer more some start held =
      let list = kept.ops ++ more in
      let count = length-append kept.ops more in
      let sizes = longer_sizes kept list (omega (arith, some, count)) in
      record {
        held = held_over list _ made new (at_rest (present new)) refl (subst (λ (ns : List ℕ). IsHeldAt list ns made new) (sym sizes) held);
        few = (let sum = ap length sizes ∙ length-append kept.sizes (length list ∷ []) in omega (arith, is.few, sum, count, some));
        begins = made_begins start;
      }

  -- the same list
  made_same : (more : List Operation) → length more ≤ 0 → (log_of (seen_log db.log) new).start ≡ (log_of (seen_log db.log) old).start
      → IsHeldAt kept.ops kept.sizes made new → IsCompactOf (with_list kept (kept.ops ++ more)) (present new) made
  made_same more none start held =
      let list = kept.ops ++ more in
      let same : list ≡ kept.ops = no_more kept.ops more none in
      let sizes = same_sizes kept list (omega (arith, ap length same)) in
      record {
        held = held_over list _ made new (at_rest (present new)) refl
            (subst (λ (ns : List ℕ). IsHeldAt list ns made new) (sym sizes) (subst (λ (ops : List Operation). IsHeldAt ops kept.sizes made new) (sym same) held));
        few = (let same_count = ap length sizes in let count = ap length same in omega (arith, is.few, same_count, count));
        begins = made_begins start;
      }

module _ (tells : Type 0) (db : CompactView) (old new : State) (at : SealedView → Type 0) where
  -- what an apply says of the database that it makes: of a longer list one witness more is held, of the same list what was held, and one witness is written
  abbrev pub HoldsMore : CompactView → Type 0
  HoldsMore made =
      tells → (ops more : List Operation) (sizes : List ℕ) (b : SealedView) → at b → IsHeldAt ops sizes db old
      → IsMerkleizedOf mmr sha meaning (ops ++ more) b → 0 < length more → IsHeldAt (ops ++ more) (sizes ++ (length (ops ++ more) ∷ [])) made new

  abbrev pub HoldsStill : CompactView → Type 0
  HoldsStill made =
      tells → (ops : List Operation) (sizes : List ℕ) (b : SealedView) → at b → b.bounds.tip.size ≤ db.tip.witness.size
      → IsHeldAt ops sizes db old → IsHeldAt ops sizes made new

  abbrev pub IsWritten : CompactView → Type 0
  IsWritten made =
      tells → (b : SealedView) → at b → (db.tip.witness.size < b.bounds.tip.size) ⊎ (waits db.log ≡ true)
      → log_of (seen_log db.log) new ≡ written_log bytes_of db.log made.tip.witness old

  abbrev pub StaysIdle : Type 0
  StaysIdle =
      (b : SealedView) → at b → b.bounds.tip.size ≤ db.tip.witness.size → waits db.log ≡ false
      → log_of (seen_log db.log) new ≡ log_of (seen_log db.log) old

  applied_one : (made : CompactView) → HoldsMore made → HoldsStill made → SameButBounds (seen_log db.log) (seen_log made.log) → IsWritten made → StaysIdle
      → tells → (x : SealedView) → at x → (kept : Kept) (more : List Operation)
      → IsCompactOf kept (present old) db → compact_kind.is_sealed (kept.ops ++ more) x → IsCompactOf (with_list kept (kept.ops ++ more)) (present new) made
  applied_one made longer still names written idle told x there kept [] is sealed =
      let held = was_held db made old new kept is names in
      let tip : x.bounds.tip.size ≡ length (kept.ops ++ []) = ap (λ (c : Commitment Mmr Sha256Digest). c.size) sealed.0.batch.bounds.tip in
      let now : db.tip.witness.size ≡ length kept.ops = size_of_list mmr sha meaning kept.ops db.tip db.tree db.commit held.list in
      let le : x.bounds.tip.size ≤ db.tip.witness.size = omega (arith, tip, now, length-append kept.ops []) in
      made_same db made old new kept is names [] (omega arith) (ap (λ (l : Log). l.start) (idle x there le held.opened)) (still told kept.ops kept.sizes x there le held)
  applied_one made longer still names written idle told x there kept (op ∷ more) is sealed =
      let held = was_held db made old new kept is names in
      let some : 0 < length (op ∷ more) = omega arith in
      let tip : x.bounds.tip.size ≡ length (kept.ops ++ (op ∷ more)) = ap (λ (c : Commitment Mmr Sha256Digest). c.size) sealed.0.batch.bounds.tip in
      let now : db.tip.witness.size ≡ length kept.ops = size_of_list mmr sha meaning kept.ops db.tip db.tree db.commit held.list in
      let lt : db.tip.witness.size < x.bounds.tip.size = omega (arith, tip, now, some, length-append kept.ops (op ∷ more)) in
      let start = ap (λ (l : Log). l.start) (written told x there (inl lt)) ∙ written_start db.log made.tip.witness old held.opened in
      made_longer db made old new kept is names (op ∷ more) some start (longer told kept.ops (op ∷ more) kept.sizes x there held sealed.0 some)

  pub applied_list : (r : Result CompactView (Error Mmr)) → IfOk r HoldsMore → IfOk r HoldsStill → IfOk r (λ made. SameButBounds (seen_log db.log) (seen_log made.log))
      → IfOk r IsWritten → StaysIdle
      → IfOk r (λ made. tells → (x : SealedView) → at x → (kept : Kept) (more : List Operation)
      → compact_kind.is_of kept (present old) db → compact_kind.is_sealed (kept.ops ++ more) x → compact_kind.is_of (with_list kept (kept.ops ++ more)) (present new) made)
  applied_list (Ok made) longer still names written idle = applied_one made longer still names written idle
  applied_list (Err e) longer still names written idle = tt

-- where the batch may be applied
abbrev pub StandsHere : CompactView → SealedView → Type 0
StandsHere db x = Contains (x.bounds.db ∷ x.bounds.ancestors) (commitment_in db)

module _ (db : CompactView) (at : SealedView → Type 0) (e : Error Mmr)
    (cause : (e ≡ error.StaleBatch) ⊎ IsOutsideOrFull e)
    (fits : e ≡ error.StaleBatch → (ops more : List Operation) (b : SealedView) → at b → IsOfList mmr sha meaning ops db
    → IsMerkleizedOf mmr sha meaning (ops ++ more) b → HasMarks b → StandsHere db b → ⊥) where
  failed_outside : (tells : Type 0) (old : State) → (tells → e ≡ error.Journal SizeOverflow → (b : SealedView) → at b → end_of (log_of (seen_log db.log) old) ≡ 2 ^ 64 - 1)
      → tells → (x : SealedView) → at x → (kept : Kept) (more : List Operation) → IsCompactOf kept (present old) db
      → compact_kind.is_sealed (kept.ops ++ more) x → StandsHere db x → IsOutside e
  failed_outside tells old full told x there kept more is sealed stands = by cause
    where
      by : (e ≡ error.StaleBatch) ⊎ IsOutsideOrFull e → IsOutside e
      by (inl stale) = absurd (fits stale kept.ops more x there is.held.list sealed.0 sealed.1 stands)
      by (inr (inl outside)) = outside
      by (inr (inr over)) =
          let held : IsHeldAt kept.ops kept.sizes db old = held_over kept.ops kept.sizes db (at_rest (present old)) old refl is.held in
          absurd (omega (arith, full told over x there, held_end kept.ops kept.sizes db old held, is.few, held.list.few))

module _ (db : CompactView) (at : SealedView → Type 0) where
  pub applied_errors : (tells : Type 0) (old : State) (r : Result CompactView (Error Mmr)) → IfErr r (λ e. (e ≡ error.StaleBatch) ⊎ IsOutsideOrFull e)
      → (IsErrOf r error.StaleBatch → (ops more : List Operation) (b : SealedView) → at b → IsOfList mmr sha meaning ops db → IsMerkleizedOf mmr sha meaning (ops ++ more) b
      → HasMarks b → StandsHere db b → ⊥)
      → (tells → IsErrOf r (error.Journal SizeOverflow) → (b : SealedView) → at b → end_of (log_of (seen_log db.log) old) ≡ 2 ^ 64 - 1)
      → IfErr r (λ e. tells → (x : SealedView) → at x → (kept : Kept) (more : List Operation) → compact_kind.is_of kept (present old) db
      → compact_kind.is_sealed (kept.ops ++ more) x → StandsHere db x → IsOutside e)
  applied_errors tells old (Ok made) cause fits full = tt
  applied_errors tells old (Err e) cause fits full = failed_outside db at e cause (λ stale. fits (ap Err stale)) tells old (λ told over. full told (ap Err over))
