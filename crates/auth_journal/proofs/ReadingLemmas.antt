-- Items that are read one after another.
use Rattle.std.proofs.Common.{◌≡◌, inl, inr, ℕ, zero, suc, ◌+◌, ◌-◌, ◌<◌, ◌≤◌, List, [], ◌∷◌, ◌++◌, length, map, take, drop, Some, Ok, Err, refl, sym, ◌∙◌, ap, subst, arith}
use Rattle.std.specs.Prelude.{slice_get, Result, IfErr}
use Rattle.std.specs.Result.{IsErrAnd}
use Rattle.std.proofs.lemmas.List.{length-map, length-drop}
use Rattle.journal_base.proofs.ItemLemmas.{same_item}
use Rattle.merkle_full.proofs.ReadLemmas.{ReadRefused}
use Rattle.std.specs.List.{range_with_len}
use Rattle.volume_base.specs.Log.{Log, end_of}
use Rattle.volume_base.specs.declared.error.JournalError.{JournalError}
use Rattle.volume_base.specs.declared.error.JournalError.TheVariants as journal
use Rattle.journal_base.specs.Answers.{IsOfVolume}
use Rattle.journal_base.specs.Items.{Items, Holds, Spells}
use Rattle.journal_base.specs.Reads.{AreItemsAt, IsFirstFailing}
use Rattle.journal_base.proofs.ReadsLemmas.{items_more}
use Rattle.tree_store.proofs.StoreLemmas.{take-next}
use Rattle.merkle_full.proofs.ListLemmas.{get_behind}
use Rattle.auth_journal.specs.Reading.{positions, IsUnreadAt, IsFirstUnread, AreUnread}

pub range_split : (a n k : ℕ) → range_with_len a (n + k) ≡ range_with_len a n ++ range_with_len (a + n) k
range_split a zero k =
    let e : zero + k ≡ k = omega arith in
    let f : a ≡ a + zero = omega arith in
    ap (range_with_len a) e ∙ ap (λ b. range_with_len b k) f
range_split a (suc n) k =
    let e : suc n + k ≡ suc (n + k) = omega arith in
    let f : a + 1 + n ≡ a + suc n = omega arith in
    ap (range_with_len a) e ∙ ap (λ (r : List ℕ). a ∷ r) (range_split (a + 1) n k ∙ ap (λ b. range_with_len (a + 1) n ++ range_with_len b k) f)

module _ {Item : Type 0} (items : Items Item) (from : ℕ) where
  -- one item more
  pub read_next : (p : ℕ) (xs : List Item) (x : Item) → from ≤ p → AreItemsAt items (positions from p) xs → Holds items p x → items.admits x → AreItemsAt items (positions from (p + 1)) (xs ++ x ∷ [])
  read_next p xs x low there here allowed =
      let e : p - from + 1 ≡ p + 1 - from = omega (arith, low) in
      let f : from + (p - from) ≡ p = omega (arith, low) in
      let more : positions from (p + 1) ≡ positions from p ++ p ∷ [] = ap (range_with_len from) (sym e) ∙ range_split from (p - from) 1 ∙ ap (λ (q : ℕ). positions from p ++ q ∷ []) f in
      subst (λ (ps : List ℕ). AreItemsAt items ps (xs ++ x ∷ [])) (sym more) (items_more items (positions from p) xs p x there here allowed)

  -- those before this one were read
  pub first_unread : (p to : ℕ) (xs : List Item) → from ≤ p → p < to → AreItemsAt items (positions from p) xs → IsFirstFailing items (positions from to) p
  first_unread p to xs low high there =
      let e : p - from + (1 + (to - p - 1)) ≡ to - from = omega (arith, low, high) in
      let f : from + (p - from) ≡ p = omega (arith, low) in
      let g : 1 + (to - p - 1) ≡ suc (to - p - 1) = omega arith in
      record {
        before = positions from p;
        behind = range_with_len (p + 1) (to - p - 1);
        read = xs;
        split = ap (range_with_len from) (sym e) ∙ range_split from (p - from) (1 + (to - p - 1)) ∙ ap (λ (n : ℕ). positions from p ++ range_with_len (from + (p - from)) n) g
            ∙ ap (λ (q : ℕ). positions from p ++ q ∷ range_with_len (q + 1) (to - p - 1)) f;
        readable = there;
      }

-- the list's next item
pub listed_next : {Item : Type 0} (list xs : List Item) (from p : ℕ) (x : Item) → from ≤ p → xs ≡ take (p - from) (drop from list) → slice_get list p ≡ Some x → xs ++ x ∷ [] ≡ take (p + 1 - from) (drop from list)
listed_next {Item = Item} list xs from p x low e at =
    let f : from + (p - from) ≡ p = omega (arith, low) in
    let n : suc (p - from) ≡ p + 1 - from = omega (arith, low) in
    ap (λ (r : List Item). r ++ x ∷ []) e ∙ sym (take-next (drop from list) (p - from) x (get_behind list from (p - from) ∙ ap (slice_get list) f ∙ at)) ∙ ap (λ k. take k (drop from list)) n

-- ---- why an item can't be read

pub unread_of : {T Item : Type 0} (tells : Type 0) (items : Items Item) (from p to : ℕ) (xs : List Item) (e : JournalError) (result : Result T JournalError) → IsErrAnd result (λ d. d ≡ e) → from ≤ p → p < to → (tells → AreItemsAt items (positions from p) xs)
    → ReadRefused tells items p e → IfErr result (AreUnread tells items from to)
unread_of {Item = Item} tells items from p to xs e (Ok y) is low high there why = absurd is
unread_of {Item = Item} tells items from p to xs e (Err d) is low high there why = subst (AreUnread tells items from to) (sym is) (by e why)
  where
    at : (e : JournalError) → IsUnreadAt tells items p e → IsFirstUnread tells items from to e
    at e because = record { position = p; low = low; high = high; first = λ told. first_unread items from p to xs low high (there told); why = because }

    by : (e : JournalError) → ReadRefused tells items p e → AreUnread tells items from to e
    by journal.Volume why = inl refl
    by journal.Memory why = inl refl
    by (journal.ItemPruned q) why = let y = why.pruned q refl in inr (at (journal.ItemPruned q) (inl (ap journal.ItemPruned y.0, y.1)))
    by (journal.ItemOutOfRange q) why = let y = why.past q refl in inr (at (journal.ItemOutOfRange q) (inr (inl (ap journal.ItemOutOfRange y.0, y.1))))
    by (journal.Corruption q) why = let y = why.corrupt q refl in inr (at (journal.Corruption q) (inr (inr (ap journal.Corruption y.0, y.1))))
    by journal.SizeOverflow why = absurd (let bad = why.errors in cc)
    by journal.EmptyAppend why = absurd (let bad = why.errors in cc)
    by (journal.Tree cause) why = absurd (let bad = why.errors in cc)

-- an allowed item of the list that the log has is refused by the outside alone
pub outside_of : {T Item : Type 0} (tells : Type 0) (items : Items Item) (p : ℕ) (x : Item) (e : JournalError) (result : Result T JournalError) → IsErrAnd result (λ d. d ≡ e) → tells → items.log.start ≤ p → p < end_of items.log → Holds items p x → items.admits x
    → ReadRefused tells items p e → IfErr result IsOfVolume
outside_of tells items p x e (Ok y) is told low high here allowed why = tt
outside_of tells items p x e (Err d) is told low high here allowed why = subst IsOfVolume (sym is) (by e why)
  where
    by : (e : JournalError) → ReadRefused tells items p e → IsOfVolume e
    by journal.Volume why = refl
    by journal.Memory why = refl
    by (journal.ItemPruned q) why = let y = (why.pruned q refl).1 told in absurd (omega (arith, y, low))
    by (journal.ItemOutOfRange q) why = let y = (why.past q refl).1 told in absurd (omega (arith, y, high))
    by (journal.Corruption q) why = let y = (why.corrupt q refl).1 told in absurd (y.unspelled x allowed (same_item items.log p y.bytes (items.spelling x) y.here here))
    by journal.SizeOverflow why = absurd (let bad = why.errors in cc)
    by journal.EmptyAppend why = absurd (let bad = why.errors in cc)
    by (journal.Tree cause) why = absurd (let bad = why.errors in cc)

-- where the log is a run of a list it ends where the list does
pub run_end : {Item : Type 0} (spelling : Item → List ℕ) (list : List Item) (log : Log) → Spells spelling list log → end_of log ≡ length list
run_end spelling list log run = omega (arith, ap length run.items, length-drop log.start (map spelling list), length-map list spelling, run.within)
