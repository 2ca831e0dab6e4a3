-- An opening over a log that stands for a list, beside a tree that stands for its leaves: it is refused by the outside alone.
use Rattle.std.proofs.Common.{◌≡◌, ◌⊎◌, inl, inr, ℕ, ◌-◌, ◌+◌, ◌*◌, ◌<◌, ◌≤◌, ◌^◌, true, false, List, ◌++◌, length, Option, Some, None, Ok, Err, sym, ◌∙◌, ap, subst, arith, length-append}
use Rattle.std.specs.Prelude.{slice_get, is_some, Result, IfErr}
use Rattle.std.proofs.lemmas.Bool.{cases_lt}
use Rattle.volume_base.specs.Log.{Log, end_of}
use Rattle.volume_base.specs.Volume.{Map}
use Rattle.volume_base.specs.declared.error.JournalError.{JournalError}
use Rattle.journal_base.specs.Items.{Items, Spells, IsCorrupt}
use Rattle.journal_base.specs.Matches.{IsAnswered}
use Rattle.journal_base.specs.View.{capped}
use Rattle.journal_base.proofs.ItemLemmas.{same_item}
use Rattle.tree_shape.specs.Hashing.{Hashing}
use Rattle.tree_shape.specs.Kept.{KeepsPeaks}
use Rattle.tree_shape.specs.Shape.{Shape, IsLawful}
use Rattle.tree_store.specs.Stored.{size, TreeStands}
use Rattle.tree_store.specs.Stores as stores
use Rattle.tree_store.specs.declared.error.Error as tree_error
use Rattle.merkle_full.specs.Lists.{AreDigests}
use Rattle.merkle_full.specs.Preparing.{cap_of, NotPrepared}
use Rattle.merkle_full.proofs.ListLemmas.{entry_of}
use Rattle.auth_journal.specs.Aligning.{NotAligned}
use Rattle.auth_journal.specs.Errors.{from_journal}
use Rattle.auth_journal.specs.Errors as journal_errors
use Rattle.auth_journal.specs.Joined.{leaves_of}
use Rattle.auth_journal.specs.Opening as journal_opening
use Rattle.auth_journal.specs.Reading.{IsUnreadAt}
use Rattle.auth_journal.specs.Searching.{EndsAt, NotFound}
use Rattle.auth_journal.specs.declared.error.Error as joined_error
use Rattle.auth_journal.proofs.ErrorLemmas.{tree_outside, log_outside}
use Rattle.auth_journal.proofs.ReadingLemmas.{run_end}
use Rattle.log_model.specs.Meaning.{Meaning}
use Rattle.chain_core.specs.Answers.{IsOutside}
use Rattle.chain_core.specs.declared.error.Error.{Error}
use Rattle.keyless_db.specs.Opening.{HasOpening, IsSaidCommit, NotListed}
use Rattle.keyless_db.proofs.LiftLemmas.{outside_above}
use Rattle.keyless_db.proofs.OpenLemmas.{capped_within}
use Rattle.keyless_db.proofs.TreeLemmas.{opened_past, prepared}

-- ---- a log has one end

-- an end is within the log
pub ends_within : {Op V : Type 0} (m : Meaning Op V) (items : Items Op) (cap : Option ℕ) (end : ℕ) → EndsAt items (IsSaidCommit m) cap end → end ≤ end_of items.log
ends_within m items cap end (inl x) = let high = x.1 in let most = capped_within cap (end_of items.log) in omega (arith, high, most)
ends_within m items cap end (inr (inl x)) = let zero = x.0 in omega (arith, zero)
ends_within m items cap end (inr (inr x)) = let at = x.2 in omega (arith, at)

module _ {Op V : Type 0} (m : Meaning Op V) (items : Items Op) (one : (x y : Op) → items.admits x → items.admits y → items.spelling x ≡ items.spelling y → x ≡ y) where
  never_both : (p : ℕ) → IsAnswered items (IsSaidCommit m) p true → IsAnswered items (IsSaidCommit m) p false → ⊥
  never_both p at is =
      let same : at.item ≡ is.item = one at.item is.item at.allowed is.allowed (same_item items.log p (items.spelling at.item) (items.spelling is.item) at.here is.here) in
      let both : true ≡ false = at.answered ∙ ap (λ (x : Op). is_some (m.floor x)) same ∙ sym is.answered in
      cc

  ends_once : (cap : Option ℕ) (a b : ℕ) → EndsAt items (IsSaidCommit m) cap a → EndsAt items (IsSaidCommit m) cap b → a ≡ b
  ends_once cap a b (inl x) (inl y) = elim (cases_lt a b) [
    | inl lt ↦ absurd (let high = y.1 in never_both (b - 1) y.2 (x.3 (b - 1) (omega (arith, lt)) (omega (arith, lt, high))))
    | inr ge ↦ elim (cases_lt b a) [
      | inl lt ↦ absurd (let high = x.1 in never_both (a - 1) x.2 (y.3 (a - 1) (omega (arith, lt)) (omega (arith, lt, high))))
      | inr le ↦ omega (arith, ge, le)
    ]
  ]
  ends_once cap a b (inl x) (inr (inl y)) = absurd (let low = x.0 in let high = x.1 in never_both (a - 1) x.2 (y.2 (a - 1) (omega arith) (omega (arith, low, high))))
  ends_once cap a b (inl x) (inr (inr y)) = absurd (let low = x.0 in let high = x.1 in let most = capped_within cap (end_of items.log) in let empty = y.1 in omega (arith, low, high, most, empty))
  ends_once cap a b (inr (inl x)) (inl y) = absurd (let low = y.0 in let high = y.1 in never_both (b - 1) y.2 (x.2 (b - 1) (omega arith) (omega (arith, low, high))))
  ends_once cap a b (inr (inl x)) (inr (inl y)) = x.0 ∙ sym y.0
  ends_once cap a b (inr (inl x)) (inr (inr y)) = let zero = x.0 in let start = x.1 in let empty = y.1 in let at = y.2 in omega (arith, zero, start, empty, at)
  ends_once cap a b (inr (inr x)) (inl y) = absurd (let low = y.0 in let high = y.1 in let most = capped_within cap (end_of items.log) in let empty = x.1 in omega (arith, low, high, most, empty))
  ends_once cap a b (inr (inr x)) (inr (inl y)) = let zero = y.0 in let start = y.1 in let empty = x.1 in let at = x.2 in omega (arith, zero, start, empty, at)
  ends_once cap a b (inr (inr x)) (inr (inr y)) = x.2 ∙ sym y.2

  -- a cap below the start leaves none
  cap_reached : (cap : Option ℕ) (end most : ℕ) → EndsAt items (IsSaidCommit m) cap end → cap ≡ Some most → most < items.log.start → ⊥
  cap_reached cap end most (inl x) is below =
      let high : end ≤ capped (Some most) (end_of items.log) = subst (λ (c : Option ℕ). end ≤ capped c (end_of items.log)) is x.1 in
      let low = x.0 in
      let few : capped (Some most) (end_of items.log) ≤ most = omega arith in
      omega (arith, low, high, few, below)
  cap_reached cap end most (inr (inl x)) is below = let zero = x.1 in omega (arith, zero, below)
  cap_reached cap end most (inr (inr x)) is below = let no : None ≡ Some most = sym x.0 ∙ is in cc

  -- a log past 0 that has an end has a match
  match_there : (cap : Option ℕ) (end : ℕ) → EndsAt items (IsSaidCommit m) cap end → 0 < items.log.start → (cap ≡ None → items.log.start < end_of items.log)
      → ((p : ℕ) → items.log.start ≤ p → p < capped cap (end_of items.log) → IsAnswered items (IsSaidCommit m) p false) → ⊥
  match_there cap end (inl x) past some none = let low = x.0 in let high = x.1 in never_both (end - 1) x.2 (none (end - 1) (omega (arith, low)) (omega (arith, low, high)))
  match_there cap end (inr (inl x)) past some none = let zero = x.1 in omega (arith, zero, past)
  match_there cap end (inr (inr x)) past some none = let lt = some x.0 in let empty = x.1 in omega (arith, lt, empty)

  -- one at 0 begins there
  zero_begins : (cap : Option ℕ) (end : ℕ) → EndsAt items (IsSaidCommit m) cap end → end ≡ 0 → items.log.start ≡ 0
  zero_begins cap end (inl x) zero = absurd (let low = x.0 in omega (arith, low, zero))
  zero_begins cap end (inr (inl x)) zero = x.1
  zero_begins cap end (inr (inr x)) zero = let empty = x.1 in let at = x.2 in omega (arith, empty, at, zero)

module _ {D Op V : Type 0} (F : Type 0) (s : Shape) (h : Hashing D) (lawful : IsLawful s) (keeps : KeepsPeaks s) (small : (n : ℕ) → size s n ≤ 2 * n) (digest : D → List ℕ) (admits : D → Type 0)
    (m : Meaning Op V) (items : Items Op) (one : (x y : Op) → items.admits x → items.admits y → items.spelling x ≡ items.spelling y → x ≡ y) (nodes : Log) (pins : Map) (cap : Option ℕ)
    (list rest : List Op) (durable : ℕ) (run : Spells items.spelling list items.log) (few : length (list ++ rest) ≤ 2 ^ 62)
    (stands : TreeStands s h digest (leaves_of s h items.spelling (list ++ rest)) durable items.log.start nodes pins) (digests : AreDigests s h admits (leaves_of s h items.spelling (list ++ rest)))
    (allowed : (i : ℕ) (x : Op) → slice_get list i ≡ Some x → items.admits x) (opening : HasOpening m items cap durable) where
  whole : end_of items.log ≡ length list
  whole = run_end items.spelling list items.log run

  short : length list ≤ 2 ^ 62
  short = let sum = length-append list rest in omega (arith, sum, few)

  is_end : (end : ℕ) → EndsAt items (IsSaidCommit m) cap end → opening.end ≡ end
  is_end end ends = ends_once m items one cap opening.end end opening.ends ends

  within : opening.end ≤ length list
  within = let le = ends_within m items cap opening.end opening.ends in let all = whole in omega (arith, le, all)

  -- what stands in the log is one of its operations
  there : (p : ℕ) → IsCorrupt items p → ⊥
  there p bad =
      let i = p - items.log.start in
      let entry = entry_of items.spelling list items.log i bad.bytes run bad.here.here in
      bad.unspelled entry.digest (allowed (items.log.start + i) entry.digest entry.here) entry.spelled

  -- an end is found
  found : (e : JournalError) → NotFound items (IsSaidCommit m) cap e → journal_errors.IsOutside (from_journal {F = F} e)
  found e (inl outside) = log_outside F e outside
  found e (inr (inl (most, is, below, at))) = absurd (cap_reached m items one cap opening.end most opening.ends is below)
  found e (inr (inr (inl (none, at)))) = absurd (match_there m items one cap opening.end opening.ends none.past none.some none.none)
  found e (inr (inr (inr (p, un, at)))) = absurd (there p un.corrupt)

  reached : (end : ℕ) → opening.end ≡ end → durable ≤ cap_of (Some end)
  reached end is = let le = opening.reached in let high = within in let most = short in grind (arith, is, le, high, most)

  -- the tree is prepared
  tree : (end : ℕ) (e : tree_error.Error F) → opening.end ≡ end → NotPrepared digest admits s pins nodes (cap_of (Some end)) e → stores.IsOutside e
  tree end e is = prepared s h lawful keeps small digest admits (leaves_of s h items.spelling (list ++ rest)) durable items.log.start nodes pins stands digests (cap_of (Some end)) (grind arith) opening.low (reached end is) e

  -- the journal is opened
  ready : (e : joined_error.Error F) → journal_opening.NotReady digest admits s pins nodes items (IsSaidCommit m) cap e → journal_errors.IsOutside e
  ready e (inl (d, not, is)) = subst (λ (x : joined_error.Error F). journal_errors.IsOutside x) (sym is) (found d not)
  ready e (inr (end, ends, inl (many, is))) = absurd (let at = is_end end ends in let le = within in let most = short in omega (arith, at, le, most, many))
  ready e (inr (end, ends, inr (inl (d, not, is)))) = subst (λ (x : joined_error.Error F). journal_errors.IsOutside x) (sym is) (tree_outside d (tree end d (is_end end ends) not))
  ready e (inr (end, ends, inr (inr (pruned, leaves, opens, below, is)))) =
      let least = opened_past s h digest admits (leaves_of s h items.spelling (list ++ rest)) durable items.log.start nodes pins (cap_of (Some end)) opens.boundary opens.complete pruned leaves stands
      opens.opens (reached end (is_end end ends)) in
      absurd (let low = opening.low in omega (arith, below, low, least))

  unread : (tells : Type 0) → tells → (from end p : ℕ) (d : JournalError) → items.log.start ≤ from → from ≤ p → p < end → end ≤ end_of items.log → IsUnreadAt tells items p d → ⊥
  unread tells told from end p d low le lt high (inl (is, before)) = absurd (let bad = before told in omega (arith, bad, low, le))
  unread tells told from end p d low le lt high (inr (inl (is, behind))) = absurd (let bad = behind told in omega (arith, bad, lt, high))
  unread tells told from end p d low le lt high (inr (inr (is, bad))) = there p (bad told)

  aligned : (tells : Type 0) → tells → (leaves end : ℕ) (e : joined_error.Error F) → opening.end ≡ end → items.log.start ≤ leaves → NotAligned tells items leaves end e → journal_errors.IsOutside e
  aligned tells told leaves end e at low (inl outside) = outside
  aligned tells told leaves end e at low (inr (d, is, first)) =
      absurd (unread tells told leaves end first.position d low first.low first.high (let le = within in let all = whole in omega (arith, at, le, all)) first.why)

  journal : (tells : Type 0) → tells → (e : joined_error.Error F) → journal_opening.NotOpened tells digest admits s pins nodes items (IsSaidCommit m) cap e → journal_errors.IsOutside e
  journal tells told e (inl not) = ready e not
  journal tells told e (inr (end, pruned, leaves, ends, many, opens, low, not)) = aligned tells told leaves end e (is_end end ends) low not

  past_start : 0 < end_of items.log → items.log.start ≡ end_of items.log → (items.log.start < opening.end) ⊎ (opening.end ≡ 0) → ⊥
  past_start some empty (inl lt) = let le = within in let all = whole in omega (arith, lt, le, all, empty)
  past_start some empty (inr zero) = let start = zero_begins m items one cap opening.end opening.ends zero in omega (arith, start, empty, some)

  listed : (tells : Type 0) → tells → (e : Error F) → NotListed tells digest admits s pins nodes items m cap e → IsOutside e
  listed tells told e (inl outside) = outside
  listed tells told e (inr (inl (d, is, not))) = outside_above d e is (journal tells told d not)
  listed tells told e (inr (inr (no_cap, empty, full, is))) = absurd (past_start full empty opening.some)

  -- so is each refusal
  pub listed_outside : {T : Type 0} (tells : Type 0) → tells → (r : Result T (Error F)) → IfErr r (NotListed tells digest admits s pins nodes items m cap) → IfErr r IsOutside
  listed_outside tells told (Ok x) not = tt
  listed_outside tells told (Err e) not = listed tells told e not
