-- Reads of operations, and what they answer.
use Rattle.std.proofs.Common.{◌≡◌, inl, inr, ℕ, zero, suc, ◌<◌, ◌≤◌, true, false, List, [], ◌∷◌, length, Some, Ok, Err, refl, sym, ap, subst, arith}
use Rattle.std.specs.Prelude.{slice_get, nat_lt, nat_le, Option, Result}
use Rattle.std.specs.List.{AllByRecursion}
use Rattle.std.proofs.lemmas.Bool.Decides.{nat_tests}
use Rattle.volume_base.specs.Log.{end_of}
use Rattle.volume_base.specs.declared.error.JournalError.{JournalError}
use Rattle.volume_base.specs.declared.error.JournalError.TheVariants as journal
use Rattle.journal_base.specs.Items.{Items, Holds, Spells}
use Rattle.journal_base.proofs.ItemLemmas.{spells_item, same_item}
use Rattle.merkle_full.proofs.ListLemmas.{there_is}
use Rattle.merkle_full.proofs.ReadLemmas.{ReadRefused}
use Rattle.auth_journal.proofs.ReadingLemmas.{run_end}
use Rattle.log_model.specs.Meaning.{Meaning}
use Rattle.log_model.specs.Reads.{read_answer, value_at}
use Rattle.log_model.specs.declared.refusal.Refusal.{Refusal}
use Rattle.log_model.specs.declared.refusal.Refusal.TheVariants as refusal
use Rattle.chain_core.specs.Errors.{from_journal}
use Rattle.chain_core.specs.declared.error.Error.{Error}
use Rattle.keyless_db.specs.Reading.{AnswersAs, IsReadFault, from_start}

pub all_at : {A : Type 0} (P : A → Type 0) (xs : List A) (k : ℕ) (x : A) → AllByRecursion P xs → slice_get xs k ≡ Some x → P x
all_at P [] k x all is = absurd cc
all_at P (y ∷ ys) zero x all is = let e : y ≡ x = cc in subst P e all.0
all_at P (y ∷ ys) (suc k) x all is = all_at P ys k x all.1 is

-- the value at a location is that of the operation there
pub value_there : {Op V : Type 0} (m : Meaning Op V) (ops : List Op) (l : ℕ) (op : Op) → slice_get ops l ≡ Some op → value_at m ops l ≡ m.value op
value_there m [] l op is = absurd cc
value_there m (x ∷ ops) zero op is = let e : x ≡ op = cc in ap m.value e
value_there m (x ∷ ops) (suc l) op is = value_there m ops l op is

-- a location of the list is refused below the start alone
pub answer_there : {Op V : Type 0} (m : Meaning Op V) (ops : List Op) (start l : ℕ) (op : Op) → l < length ops → slice_get ops l ≡ Some op
    → from_start start l (m.value op) ≡ read_answer m ops start refusal.ItemPruned l
answer_there m ops start l op within is =
    let inside : nat_le (length ops) l ≡ false = grind (arith, nat_tests) in
    let value = value_there m ops l op is in
    rw inside (ap (from_start start l) (sym value))

pub from_start_ok : {A : Type 0} (start l : ℕ) (a : A) → start ≤ l → from_start start l a ≡ Ok a
from_start_ok start l a low =
    let e : nat_lt l start ≡ false = grind (arith, nat_tests) in
    rw e refl

pub from_start_err : {A : Type 0} (start l : ℕ) (a : A) → l < start → from_start start l a ≡ Err (refusal.ItemPruned l)
from_start_err start l a below =
    let e : nat_lt l start ≡ true = grind (arith, nat_tests) in
    rw e refl

-- ---- one operation of a list that the log has

module _ {Op A : Type 0} (tells : Type 0) (told : tells) (items : Items Op) (ops : List Op) (run : Spells items.spelling ops items.log) (start l : ℕ) (start_is : start ≡ items.log.start)
    (op : Op) (at : slice_get ops l ≡ Some op) (allowed : items.admits op) (a : A) where
  -- it was read
  pub item_read : (x : Op) → Holds items l x → from_start start l a ≡ Ok a
  item_read x here = from_start_ok start l a (omega (arith, here.low, start_is))

  within : l < end_of items.log
  within = let n = there ops l op at in omega (arith, n, run_end items.spelling ops items.log run)
    where
      there : {X : Type 0} (xs : List X) (k : ℕ) (x : X) → slice_get xs k ≡ Some x → k < length xs
      there [] k x is = absurd cc
      there (y ∷ ys) zero x is = omega arith
      there (y ∷ ys) (suc k) x is = let n = there ys k x is in omega (arith, n)

  -- it wasn't
  pub item_refused : (F : Type 0) (e : JournalError) → ReadRefused tells items l e → AnswersAs {F = F} (λ (x : A). x) (from_start start l a) (Err (from_journal e))
  item_refused F journal.Volume why = inl tt
  item_refused F journal.Memory why = inl tt
  item_refused F (journal.ItemPruned q) why =
      let y = why.pruned q refl in
      inr (refusal.ItemPruned l, from_start_err start l a (omega (arith, y.1 told, start_is)), ap (λ p. Some (refusal.ItemPruned p)) y.0)
  item_refused F (journal.ItemOutOfRange q) why = let y = (why.past q refl).1 told in absurd (omega (arith, y, within))
  item_refused F (journal.Corruption q) why =
      let y = (why.corrupt q refl).1 told in
      absurd (y.unspelled op allowed (same_item items.log l y.bytes (items.spelling op) y.here (spells_item items.spelling ops items.log l op run y.here.low at)))
  item_refused F journal.SizeOverflow why = absurd (let bad = why.errors in cc)
  item_refused F journal.EmptyAppend why = absurd (let bad = why.errors in cc)
  item_refused F (journal.Tree cause) why = absurd (let bad = why.errors in cc)

-- an error of a read, as a database's
pub read_fault : {F Op : Type 0} (tells : Type 0) (items : Items Op) (l : ℕ) (e : JournalError) (d : Error F) → d ≡ from_journal e → ReadRefused tells items l e → IsReadFault tells items l d
read_fault tells items l e d is why = record {
  cause = e;
  is = is;
  of_read = why.errors;
  pruned = λ p at. why.pruned p at;
  out_of_range = λ p at. why.past p at;
  corrupt = λ p at. why.corrupt p at;
}

-- ---- a read of a list

module _ {Op V : Type 0} (m : Meaning Op V) (ops : List Op) (start l : ℕ) where
  pub outside_answer : (size : ℕ) → size ≡ length ops → size ≤ l → read_answer m ops start refusal.ItemPruned l ≡ Err (refusal.LocationOutOfBounds l size)
  outside_answer size is past =
      let e : nat_le (length ops) l ≡ true = grind (arith, nat_tests) in
      rw e (ap (λ n. Err (refusal.LocationOutOfBounds l n)) (sym is))

  pub get_there : {F : Type 0} (result : Result (Option V) (Error F)) → l < length ops
      → ((op : Op) → slice_get ops l ≡ Some op → AnswersAs (λ (v : Option V). v) (from_start start l (m.value op)) result)
      → AnswersAs (λ (v : Option V). v) (read_answer m ops start refusal.ItemPruned l) result
  get_there result within told =
      let entry = there_is ops l within in
      subst (λ (r : Result (Option V) Refusal). AnswersAs (λ (v : Option V). v) r result) (answer_there m ops start l entry.0 within entry.1) (told entry.0 entry.1)
