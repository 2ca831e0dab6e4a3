-- An opening of the full database over logs and a map that stand for a list.
use Rattle.std.proofs.Common.{◌≡◌, ◌⊎◌, inl, inr, ℕ, ◌-◌, ◌+◌, ◌<◌, ◌≤◌, ◌^◌, false, List, ◌++◌, length, map, Option, Some, Ok, Err, sym, ap, subst, arith, length-append}
use Rattle.std.specs.Prelude.{slice_get, Result, IfErr}
use Rattle.volume_base.specs.Log.{Log, end_of}
use Rattle.volume_base.specs.Volume.{Map}
use Rattle.volume_base.specs.declared.error.JournalError.{JournalError}
use Rattle.journal_base.specs.Items.{Items, Spells, IsCorrupt}
use Rattle.journal_base.specs.View.{capped}
use Rattle.codec_base.specs.Parts.{admits_bytes}
use Rattle.op_codec.specs.Keyless.{parts, variable_admits}
use Rattle.sha2.proofs.Facts256.{length-sha256}
use Rattle.tree_shape.specs.Mmr.{mmr}
use Rattle.tree_shape.specs.MmrKept.{mmr_keeps}
use Rattle.tree_shape.specs.MmrPlaces.{mmr_lawful}
use Rattle.tree_shape.specs.MmrSize.{mmr_small}
use Rattle.tree_shape.specs.Sha256Codec.{bytes_of, IsDigest}
use Rattle.tree_shape.specs.declared.mmr.Mmr.{Mmr}
use Rattle.tree_store.specs.Stored.{TreeStands}
use Rattle.tree_store.specs.Stores as stores
use Rattle.tree_store.specs.declared.error.Error as tree_error
use Rattle.merkle_full.specs.Lists.{AreDigests}
use Rattle.merkle_full.specs.Preparing.{cap_of, NotPrepared}
use Rattle.merkle_full.proofs.ListLemmas.{entry_of}
use Rattle.auth_journal.specs.Aligning.{NotAligned}
use Rattle.auth_journal.specs.Errors.{from_journal}
use Rattle.auth_journal.specs.Errors as journal_errors
use Rattle.auth_journal.specs.Joined.{leaves_of}
use Rattle.auth_journal.specs.Opening as journal_opening
use Rattle.auth_journal.specs.Reading.{IsUnreadAt}
use Rattle.auth_journal.specs.Searching.{EndsAt, NotFound}
use Rattle.auth_journal.specs.declared.error.Error as joined_error
use Rattle.auth_journal.proofs.ErrorLemmas.{tree_outside, log_outside}
use Rattle.auth_journal.proofs.LeafLemmas.{all_digests}
use Rattle.auth_journal.proofs.ReadingLemmas.{run_end}
use Rattle.chain_core.specs.Answers.{IsOutside}
use Rattle.chain_core.specs.declared.error.Error.{Error}
use Rattle.log_model.proofs.OpeningLemmas.{commit_below}
use Rattle.keyless_db.specs.Opening.{IsSaidCommit, NotListed}
use Rattle.keyless_db.proofs.LiftLemmas.{outside_above}
use Rattle.list_machine.specs.Operation.{Operation, meaning, sha}
use Rattle.twin_databases.specs.FullKind.{FullView, HasFullStart, full_end}
use Rattle.twin_databases.proofs.FoundLemmas.{capped_le, ends_last_commit, found_before, said}
use Rattle.twin_databases.proofs.FullOpening.{operation_once}
use Rattle.twin_databases.proofs.TreeStanding.{opened_past, prepared}

-- what stands in a log of a list is one of its items
item_there : {A : Type 0} (items : Items A) (list : List A) → Spells items.spelling list items.log
    → ((i : ℕ) (x : A) → slice_get list i ≡ Some x → items.admits x) → (p : ℕ) → IsCorrupt items p → ⊥
item_there items list spelled allowed p bad =
    let i = p - items.log.start in
    let entry = entry_of items.spelling list items.log i bad.bytes spelled bad.here.here in
    bad.unspelled entry.digest (allowed (items.log.start + i) entry.digest entry.here) entry.spelled

module _ (limit : ℕ) (log nodes : Log) (pins : Map) (cap : Option ℕ) (list : List Operation)
    (start : HasFullStart limit log nodes pins cap list) where
  abbrev Kept : Items Operation
  Kept = record {
    log = log;
    spelling = meaning.encoding;
    admits = λ op. variable_admits (admits_bytes limit) (parts op);
  }

  abbrev End : ℕ
  End = full_end cap list

  whole : end_of log ≡ length list
  whole = run_end meaning.encoding list log start.spelled

  under : End ≤ capped cap (length list)
  under = commit_below meaning (capped cap (length list)) 0 0 list (omega arith)

  within : End ≤ length list
  within = omega (arith, under, capped_le meaning cap (length list))

  few : length list ≤ 2 ^ 62
  few = let sum = length-append list start.rest in omega (arith, sum, start.few)

  -- where the log begins past 0 the end is past its start
  cut : (0 < log.start) → log.start < End
  cut some = by start.some
    where
      by : (log.start < End) ⊎ ((End ≡ 0) × (log.start ≡ 0)) → log.start < End
      by (inl lt) = lt
      by (inr (none, zero)) = absurd (omega (arith, zero, some))

  some : (log.start < length list) ⊎ (length list ≡ 0)
  some = by start.some
    where
      split : (n : ℕ) → (0 < n) ⊎ (n ≡ 0)
      split n = grind arith

      begun : log.start ≡ 0 → (0 < length list) ⊎ (length list ≡ 0) → (log.start < length list) ⊎ (length list ≡ 0)
      begun zero (inl lt) = inl (omega (arith, zero, lt))
      begun zero (inr none) = inr none

      by : (log.start < End) ⊎ ((End ≡ 0) × (log.start ≡ 0)) → (log.start < length list) ⊎ (length list ≡ 0)
      by (inl lt) = inl (omega (arith, lt, within))
      by (inr (none, zero)) = begun zero (split (length list))

  ends_at : (end : ℕ) → EndsAt Kept (IsSaidCommit meaning) cap end → End ≡ end
  ends_at end ends =
      ends_last_commit meaning Kept list start.spelled (operation_once (record { max = limit })) start.allowed cap end
      some ends

  there : (p : ℕ) → IsCorrupt Kept p → ⊥
  there = item_there Kept list start.spelled start.allowed

  -- ---- an end is found

  found : (e : JournalError) → NotFound Kept (IsSaidCommit meaning) cap e
      → journal_errors.IsOutside (from_journal {F = Mmr} e)
  found e (inl outside) = log_outside Mmr e outside
  found e (inr (inl (most, is, below, at))) =
      let low = cut (omega (arith, below)) in
      let high : capped cap (length list) ≤ most =
      let same = ap (λ (c : Option ℕ). capped c (length list)) is in grind (arith, same) in
      absurd (let le = under in omega (arith, low, le, high, below))
  found e (inr (inr (inl (none, at)))) =
      let low = cut none.past in
      let before = found_before meaning (capped cap (length list)) 0 0 log.start list (omega arith)
      (λ k op here le lt. said meaning Kept list start.spelled (operation_once (record { max = limit })) start.allowed k
      false op (none.none k (omega (arith, le))
      (subst (λ (n : ℕ). k < capped cap n) (sym whole) (omega (arith, lt)))) here) in
      absurd (omega (arith, low, before))
  found e (inr (inr (inr (p, un, at)))) = absurd (there p un.corrupt)

  -- ---- the tree is prepared

  digests : AreDigests mmr sha IsDigest (leaves_of mmr sha meaning.encoding (list ++ start.rest))
  digests = all_digests mmr sha IsDigest (map meaning.encoding (list ++ start.rest)) length-sha256

  reached : (end : ℕ) → End ≡ end → start.durable ≤ cap_of (Some end)
  reached end is = let le = start.reached in let high = within in let most = few in
      grind (arith, is, le, high, most)

  tree : (end : ℕ) (e : tree_error.Error Mmr) → End ≡ end
      → NotPrepared bytes_of IsDigest mmr pins nodes (cap_of (Some end)) e → stores.IsOutside e
  tree end e is = prepared mmr sha mmr_lawful mmr_keeps mmr_small bytes_of IsDigest
      (leaves_of mmr sha meaning.encoding (list ++ start.rest)) start.durable log.start nodes pins start.tree digests
      (cap_of (Some end)) (grind arith) start.low (reached end is) e

  -- ---- the journal is opened

  ready : (e : joined_error.Error Mmr) → journal_opening.NotReady bytes_of IsDigest mmr pins nodes Kept
      (IsSaidCommit meaning) cap e → journal_errors.IsOutside e
  ready e (inl (d, not, is)) =
      subst (λ (x : joined_error.Error Mmr). journal_errors.IsOutside x) (sym is) (found d not)
  ready e (inr (end, ends, inl (many, is))) =
      absurd (let at = ends_at end ends in let le = within in let most = few in omega (arith, at, le, most, many))
  ready e (inr (end, ends, inr (inl (d, not, is)))) =
      subst (λ (x : joined_error.Error Mmr). journal_errors.IsOutside x) (sym is)
      (tree_outside d (tree end d (ends_at end ends) not))
  ready e (inr (end, ends, inr (inr (pruned, leaves, opens, below, is)))) =
      let least = opened_past mmr sha bytes_of IsDigest (leaves_of mmr sha meaning.encoding (list ++ start.rest))
      start.durable log.start nodes pins (cap_of (Some end)) opens.boundary opens.complete pruned leaves start.tree
      opens.opens (reached end (ends_at end ends)) in
      absurd (let low = start.low in omega (arith, below, low, least))

  unread : (tells : Type 0) → tells → (from end p : ℕ) (d : JournalError) → log.start ≤ from → from ≤ p → p < end
      → end ≤ end_of log → IsUnreadAt tells Kept p d → ⊥
  unread tells told from end p d low le lt high (inl (is, before)) =
      absurd (let bad = before told in omega (arith, bad, low, le))
  unread tells told from end p d low le lt high (inr (inl (is, behind))) =
      absurd (let bad = behind told in omega (arith, bad, lt, high))
  unread tells told from end p d low le lt high (inr (inr (is, bad))) = there p (bad told)

  aligned : (tells : Type 0) → tells → (leaves end : ℕ) (e : joined_error.Error Mmr) → End ≡ end → log.start ≤ leaves
      → NotAligned tells Kept leaves end e → journal_errors.IsOutside e
  aligned tells told leaves end e at low (inl outside) = outside
  aligned tells told leaves end e at low (inr (d, is, first)) =
      absurd (unread tells told leaves end first.position d low first.low first.high
      (let le = within in let all = whole in omega (arith, at, le, all)) first.why)

  journal : (tells : Type 0) → tells → (e : joined_error.Error Mmr)
      → journal_opening.NotOpened tells bytes_of IsDigest mmr pins nodes Kept (IsSaidCommit meaning) cap e
      → journal_errors.IsOutside e
  journal tells told e (inl not) = ready e not
  journal tells told e (inr (end, pruned, leaves, ends, many, opens, low, not)) =
      aligned tells told leaves end e (ends_at end ends) low not

  listed : (tells : Type 0) → tells → (e : Error Mmr)
      → NotListed tells bytes_of IsDigest mmr pins nodes Kept meaning cap e → IsOutside e
  listed tells told e (inl outside) = outside
  listed tells told e (inr (inl (d, is, not))) = outside_above d e is (journal tells told d not)
  listed tells told e (inr (inr (no_cap, empty, full, is))) =
      absurd (let low = cut (omega (arith, empty, full)) in let le = within in let all = whole in
      omega (arith, low, le, all, empty))

-- So is each refusal.
pub outside_alone : (tells : Type 0) (limit : ℕ) (log nodes : Log) (pins : Map) (cap : Option ℕ)
    (r : Result FullView (Error Mmr))
    → (tells → (list rest : List Operation) (durable : ℕ) → Spells meaning.encoding list log
    → length (list ++ rest) ≤ 2 ^ 62
    → TreeStands mmr sha bytes_of (leaves_of mmr sha meaning.encoding (list ++ rest)) durable log.start nodes pins
    → IfErr r (NotListed tells bytes_of IsDigest mmr pins nodes (record {
      log = log;
      spelling = meaning.encoding;
      admits = λ (op : Operation). variable_admits (admits_bytes limit) (parts op);
    }) meaning cap))
    → IfErr r (λ e. tells → (list : List Operation) → HasFullStart limit log nodes pins cap list → IsOutside e)
outside_alone tells limit log nodes pins cap (Ok db) not = tt
outside_alone tells limit log nodes pins cap (Err e) not = λ told list start.
    listed limit log nodes pins cap list start tells told e
    (not told list start.rest start.durable start.spelled start.few start.tree)
