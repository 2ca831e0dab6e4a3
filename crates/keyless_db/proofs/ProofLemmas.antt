-- Proofs of a list's operations, and why they are refused.
use Rattle.std.proofs.Common.{◌≡◌, ◌⊎◌, inl, inr, ℕ, zero, suc, ◌+◌, ◌-◌, ◌<◌, ◌≤◌, min, Bool, true, false, List, [], ◌∷◌, length, take, drop, map, Some, None, Ok, Err, refl, sym, ◌∙◌, ap, subst, arith}
use Rattle.std.specs.Prelude.{slice_get, nat_lt, nat_le, is_none, unwrap_or, IfErr, IsErrOf, Option, Result, ◌==◌, ◌||◌}
use Rattle.std.specs.List.{enumerate_from}
use Rattle.std.proofs.lemmas.Bool.Decides.{nat_tests}
use Rattle.std.proofs.lemmas.List.{drop-take, take-map}
use Rattle.volume_base.specs.declared.error.JournalError.{JournalError}
use Rattle.volume_base.specs.declared.error.JournalError.TheVariants as journal
use Rattle.volume_base.specs.Log.{Log}
use Rattle.volume_base.specs.Volume.{State, SameContents}
use Rattle.journal_base.specs.Items.{Items, Holds, IsCorrupt, items_of}
use Rattle.journal_base.specs.View.{View}
use Rattle.tree_shape.specs.Hashing.{Hashing}
use Rattle.tree_shape.specs.Shape.{Shape, inactive}
use Rattle.tree_shape.specs.Slow.{leaf}
use Rattle.auth_journal.specs.Errors as journal_errors
use Rattle.auth_journal.specs.Joined.{leaves_of}
use Rattle.auth_journal.specs.Reading.{IsFirstUnread, IsUnreadAt}
use Rattle.auth_journal.specs.declared.error.Error as joined_error
use Rattle.auth_journal.specs.declared.error.Error.TheVariants as joined
use Rattle.log_model.specs.Meaning.{Meaning}
use Rattle.log_model.specs.Operations.{floor_of, leaves_from}
use Rattle.log_model.specs.Proofs.{lacks_commit, proof_refusal, proof_answer, proof_end, size_refusal}
use Rattle.tree_proof.specs.Cover.{meets}
use Rattle.tree_proof.specs.SlowProof.{proof_of}
use Rattle.tree_proof.specs.declared.proof.Proof.{Proof}
use Rattle.log_model.specs.Reads.{or_else, refuse_if, unless_refused}
use Rattle.log_model.specs.declared.refusal.Refusal.{Refusal}
use Rattle.log_model.specs.declared.refusal.Refusal.TheVariants as refusal
use Rattle.chain_core.specs.Answers.{IsOutside, read_refusal_of}
use Rattle.chain_core.specs.Errors.{from_journal}
use Rattle.chain_core.specs.declared.error.Error.{Error}
use Rattle.chain_core.specs.declared.error.Error.TheVariants as db_error
use Rattle.keyless_db.specs.Errors.{IsFromJoined, from_joined}
use Rattle.auth_journal.specs.Proving.{WhyUnproved, items_answer}
use Rattle.keyless_db.specs.Reading.{AnswersAs, IsCorruptFor, IsFloorFault, IsNoCommitAt, below_start, floor_refusal, from_start, late_refusal}
use Rattle.keyless_db.proofs.SeveralLemmas.{refused_err, refused_by}
use Rattle.keyless_db.proofs.LocationLemmas.{neither, not_refused, some_count, lt_fails, le_fails}
use Rattle.keyless_db.proofs.SealLemmas.{leaves_are}

-- ---- the first operations of a list

pub lacks_at : {Op V : Type 0} (m : Meaning Op V) (ops : List Op) (k : ℕ) (op : Op) → slice_get ops k ≡ Some op → lacks_commit m (take (suc k) ops) ≡ is_none (m.floor op)
lacks_at m [] k op is = absurd cc
lacks_at m (x ∷ ops) zero op is = let e : x ≡ op = cc in ap (λ y. is_none (m.floor y)) e
lacks_at m (x ∷ []) (suc k) op is = absurd cc
lacks_at m (x ∷ y ∷ ops) (suc k) op is = lacks_at m (y ∷ ops) k op is

pub floor_at : {Op V : Type 0} (m : Meaning Op V) (ops : List Op) (k : ℕ) (op : Op) → slice_get ops k ≡ Some op → floor_of m (take (suc k) ops) ≡ unwrap_or (m.floor op) 0
floor_at m [] k op is = absurd cc
floor_at m (x ∷ ops) zero op is = let e : x ≡ op = cc in ap (λ y. unwrap_or (m.floor y) 0) e
floor_at m (x ∷ []) (suc k) op is = absurd cc
floor_at m (x ∷ y ∷ ops) (suc k) op is = floor_at m (y ∷ ops) k op is

take_numbered : {X Y : Type 0} (f : ℕ × X → Y) (n i : ℕ) (xs : List X) → take n (map f (enumerate_from i xs)) ≡ map f (enumerate_from i (take n xs))
take_numbered f zero i [] = refl
take_numbered f zero i (x ∷ xs) = refl
take_numbered f (suc n) i [] = refl
take_numbered f (suc n) i (x ∷ xs) = ap (λ ys. f (i, x) ∷ ys) (take_numbered f n (i + 1) xs)

-- the leaves of the first operations
pub first_leaves : {D Op V : Type 0} (s : Shape) (h : Hashing D) (m : Meaning Op V) (spelling : Op → List ℕ) → ((op : Op) → m.encoding op ≡ spelling op) → (n : ℕ) (ops : List Op)
    → take n (leaves_of s h spelling ops) ≡ leaves_from s h m 0 (take n ops)
first_leaves {D = D} s h m spelling law n ops =
    ap (take n) (leaves_are s h m spelling law ops) ∙ take_numbered (λ p. leaf s h p.0 p.1) n 0 (map m.encoding ops)
    ∙ ap (λ (xs : List (List ℕ)). map (λ p. leaf s h p.0 p.1) (enumerate_from 0 xs)) (take-map m.encoding n ops)

-- the operations between two places
pub between : {X : Type 0} (xs : List X) (a e : ℕ) → a ≤ e → take (e - a) (drop a xs) ≡ drop a (take e xs)
between xs a e low = let is : a + (e - a) ≡ e = omega (arith, low) in sym (drop-take a (e - a) xs) ∙ ap (λ k. drop a (take k xs)) is

-- ---- refusals

module _ {Op V : Type 0} (m : Meaning Op V) (ops : List Op) (start n a : ℕ) where
  pub size_refused : (n ≡ 0) ⊎ (length ops < n) → proof_refusal m ops start n a ≡ Some (refusal.RangeOutOfBounds n)
  size_refused why = let e : ((n == 0) || nat_lt (length ops) n) ≡ true = either why in rw e refl
    where
      or_right : (b c : Bool) → c ≡ true → (b || c) ≡ true
      or_right true c is = refl
      or_right false c is = is

      or_left : (b c : Bool) → b ≡ true → (b || c) ≡ true
      or_left true c is = refl
      or_left false c is = absurd cc

      either : (n ≡ 0) ⊎ (length ops < n) → ((n == 0) || nat_lt (length ops) n) ≡ true
      either (inl none) = or_left (n == 0) (nat_lt (length ops) n) (grind (arith, nat_tests))
      either (inr past) = or_right (n == 0) (nat_lt (length ops) n) (grind (arith, nat_tests))

  module _ (some : 0 < n) (high : n ≤ length ops) (op : Op) (at : slice_get ops (n - 1) ≡ Some op) where
    here : suc (n - 1) ≡ n
    here = omega (arith, some)

    size_fits : size_refusal ops n ≡ None
    size_fits =
        let e : n == 0 ≡ false = grind (arith, nat_tests) in
        let f : nat_lt (length ops) n ≡ false = grind (arith, nat_tests) in
        rw (e, f) refl

    pub split_refusal : proof_refusal m ops start n a ≡ or_else (floor_refusal start n (m.floor op)) (late_refusal start n a)
    split_refusal =
        let lacks : lacks_commit m (take n ops) ≡ is_none (m.floor op) = ap (λ k. lacks_commit m (take k ops)) (sym here) ∙ lacks_at m ops (n - 1) op at in
        ap (λ r. or_else r (or_else (refuse_if (nat_lt (n - 1) start) (refusal.ItemPruned (n - 1))) (or_else (refuse_if (lacks_commit m (take n ops)) (refusal.HistoricalFloorPruned n)) (late_refusal start n a)))) size_fits
        ∙ ap (λ b. or_else (refuse_if (nat_lt (n - 1) start) (refusal.ItemPruned (n - 1))) (or_else (refuse_if b (refusal.HistoricalFloorPruned n)) (late_refusal start n a))) lacks
        ∙ sym (or_joins (refuse_if (nat_lt (n - 1) start) (refusal.ItemPruned (n - 1))) (refuse_if (is_none (m.floor op)) (refusal.HistoricalFloorPruned n)) (late_refusal start n a))
      where
        or_joins : (x y z : Option Refusal) → or_else (or_else x y) z ≡ or_else x (or_else y z)
        or_joins None y z = refl
        or_joins (Some why) y z = refl

-- items from here on can be proved in the tree of the first n
pub provable : (F : Type 0) (end n a : ℕ) → n ≤ end → a < n → items_answer {F = F} end n a ≡ Ok tt
provable F end n a high low =
    let e : nat_le n end ≡ true = grind (arith, nat_tests) in
    let f : nat_le n a ≡ false = grind (arith, nat_tests) in
    rw (e, f) refl

pub late_past : (start n a : ℕ) → n ≤ a → late_refusal start n a ≡ Some (refusal.RangeOutOfBounds a)
late_past start n a past = let e : nat_le n a ≡ true = grind (arith, nat_tests) in rw e refl

pub late_pruned : (start n a : ℕ) → a < n → a < start → late_refusal start n a ≡ Some (refusal.ItemPruned a)
late_pruned start n a low below =
    let e : nat_le n a ≡ false = grind (arith, nat_tests) in
    let f : nat_lt a start ≡ true = grind (arith, nat_tests) in
    rw (e, f) refl

pub late_none : (start n a : ℕ) → a < n → start ≤ a → late_refusal start n a ≡ None
late_none start n a low from =
    let e : nat_le n a ≡ false = grind (arith, nat_tests) in
    let f : nat_lt a start ≡ false = grind (arith, nat_tests) in
    rw (e, f) refl

-- ---- the floor of the first operations

pub floor_kept : (start n : ℕ) (floor : Option ℕ) → start ≤ n - 1 → floor_refusal start n floor ≡ refuse_if (is_none floor) (refusal.HistoricalFloorPruned n)
floor_kept start n floor low =
    let e : nat_lt (n - 1) start ≡ false = grind (arith, nat_tests) in
    rw e refl

-- the last of them wasn't read
pub floor_unread : {F X Y : Type 0} (start n : ℕ) (floor : Option ℕ) (value : X) (x : Y) (e : Error F) → AnswersAs {T = X} (λ (v : X). v) (from_start start (n - 1) value) (Err e)
    → IsOutside e ⊎ ((w : Refusal) × (unless_refused (floor_refusal start n floor) x ≡ Err w) × (read_refusal_of e ≡ Some w))
floor_unread start n floor value x e (inl out) = inl out
floor_unread start n floor value x e (inr (why, is, of)) =
    let low : below_start start (n - 1) ≡ Some why = refused_err (below_start start (n - 1)) value why is in
    inr (why, refused_by (floor_refusal start n floor) x why (ap (λ o. or_else o (refuse_if (is_none floor) (refusal.HistoricalFloorPruned n))) low), of)

-- what the commit refuses, the proof is refused for
pub floor_stops : {F X Y : Type 0} (whole floor late : Option Refusal) (x : X) (y : Y) (e : Error F) → whole ≡ or_else floor late
    → IsOutside e ⊎ ((w : Refusal) × (unless_refused floor x ≡ Err w) × (read_refusal_of e ≡ Some w)) → IsOutside e ⊎ ((w : Refusal) × (unless_refused whole y ≡ Err w) × (read_refusal_of e ≡ Some w))
floor_stops whole floor late x y e split (inl out) = inl out
floor_stops whole floor late x y e split (inr (why, is, of)) =
    inr (why, refused_by whole y why (split ∙ ap (λ o. or_else o late) (refused_err floor x why is)), of)

-- ---- proofs of a list

module _ {D Op V : Type 0} (s : Shape) (h : Hashing D) (m : Meaning Op V) (spelling : Op → List ℕ) (law : (op : Op) → m.encoding op ≡ spelling op) (ops : List Op) (n a count : ℕ) where
  -- a proof in the tree of the leaves is the list's
  pub proof_is : {F : Type 0} (op : Op) (floor k : ℕ) (proof : Proof F D) (made : List Op) → 0 < n → slice_get ops (n - 1) ≡ Some op → m.floor op ≡ Some floor → k ≡ inactive s n floor → a < n
      → proof ≡ proof_of s h (take n (leaves_of s h spelling ops)) k (meets a (min n (a + count))) → made ≡ take (min n (a + count) - a) (drop a ops)
      → proof_answer s h m ops n a (proof_end n a count) ≡ (proof, made)
  proof_is {F = F} op floor k proof made some at floored k_is low proof_at made_at =
      let here : suc (n - 1) ≡ n = omega (arith, some) in
      let e = min n (a + count) in
      let within : a ≤ e = omega (arith, low) in
      let under : floor_of m (take n ops) ≡ floor = ap (λ j. floor_of m (take j ops)) (sym here) ∙ floor_at m ops (n - 1) op at ∙ ap (λ o. unwrap_or o 0) floored in
      let is : proof ≡ proof_of s h (leaves_from s h m 0 (take n ops)) (inactive s n (floor_of m (take n ops))) (meets a e) =
      proof_at ∙ ap (λ ls. proof_of s h ls k (meets a e)) (first_leaves s h m spelling law n ops)
      ∙ ap (λ j. proof_of s h (leaves_from s h m 0 (take n ops)) j (meets a e)) (k_is ∙ ap (inactive s n) (sym under)) in
      let items : made ≡ drop a (take e ops) = made_at ∙ between ops a e within in
      sym (ap (λ (x : Proof F D). (x, made)) is
      ∙ ap (λ (xs : List Op). (proof_of s h (leaves_from s h m 0 (take n ops)) (inactive s n (floor_of m (take n ops))) (meets a e), xs)) items)

-- ---- what isn't refused

or_neither : (b c : Bool) → (b || c) ≡ false → (b ≡ false) × (c ≡ false)
or_neither true c is = absurd cc
or_neither false c is = (refl, is)

pub record IsProvable (start size n a : ℕ) : Type 0 where
  pub some : 0 < n
  pub high : n ≤ size
  pub low : a < n
  pub kept : start ≤ a

pub provable_at : {Op V : Type 0} (m : Meaning Op V) (ops : List Op) (start n a : ℕ) → proof_refusal m ops start n a ≡ None → IsProvable start (length ops) n a
provable_at m ops start n a is =
    let one = neither (size_refusal ops n) (or_else (refuse_if (nat_lt (n - 1) start) (refusal.ItemPruned (n - 1))) (or_else (refuse_if (lacks_commit m (take n ops)) (refusal.HistoricalFloorPruned n)) (late_refusal start n a))) is in
    let two = neither (refuse_if (nat_lt (n - 1) start) (refusal.ItemPruned (n - 1))) (or_else (refuse_if (lacks_commit m (take n ops)) (refusal.HistoricalFloorPruned n)) (late_refusal start n a)) one.1 in
    let three = neither (refuse_if (lacks_commit m (take n ops)) (refusal.HistoricalFloorPruned n)) (late_refusal start n a) two.1 in
    let four = neither (refuse_if (nat_le n a) (refusal.RangeOutOfBounds a)) (refuse_if (nat_lt a start) (refusal.ItemPruned a)) three.1 in
    let sized = or_neither (n == 0) (nat_lt (length ops) n) (not_refused ((n == 0) || nat_lt (length ops) n) (refusal.RangeOutOfBounds n) one.0) in
    record {
      some = some_count n sized.0;
      high = lt_fails (length ops) n sized.1;
      low = le_fails n a (not_refused (nat_le n a) (refusal.RangeOutOfBounds a) four.0);
      kept = lt_fails a start (not_refused (nat_lt a start) (refusal.ItemPruned a) four.1);
    }

-- the one operation at a place
pub one_operation : {X : Type 0} (xs : List X) (n a : ℕ) (x : X) → a < n → slice_get xs a ≡ Some x → drop a (take (min n (a + 1)) xs) ≡ x ∷ []
one_operation {X = X} xs n a x lt at =
    let e : min n (a + 1) ≡ suc a = omega (arith, lt) in
    ap (λ k. drop a (take k xs)) e ∙ by xs a at
  where
    by : (ys : List X) (k : ℕ) → slice_get ys k ≡ Some x → drop k (take (suc k) ys) ≡ x ∷ []
    by [] k is = absurd cc
    by (y ∷ []) zero is = let e : y ≡ x = cc in ap (λ z. z ∷ []) e
    by (y ∷ z ∷ ys) zero is = let e : y ≡ x = cc in ap (λ w. w ∷ []) e
    by (y ∷ ys) (suc k) is = by ys k is

-- ---- why they aren't read

-- the operation that ends the first was read, and is no commit
pub no_commit_read : {Op V : Type 0} (m : Meaning Op V) (items : Items Op) (l : ℕ) (op : Op) → Holds items l op → items.admits op → m.floor op ≡ None → IsNoCommitAt m items l
no_commit_read m items l op here allowed lacks = record { op = op; here = here; allowed = allowed; lacks = lacks }

corrupt_below : {F : Type 0} (e : joined_error.Error F) (p : ℕ) → from_joined e ≡ db_error.Journal (journal.Corruption p) → e ≡ joined.Journal (journal.Corruption p)
corrupt_below (joined.Merkle x) p is = absurd cc
corrupt_below (joined.Journal x) p is = let same : x ≡ journal.Corruption p = cc in ap joined.Journal same
corrupt_below joined.Volume p is = absurd cc
corrupt_below joined.Memory p is = absurd cc

unread_corrupt : {Item : Type 0} (items : Items Item) (a b p : ℕ) (d : JournalError) → d ≡ journal.Corruption p → IsFirstUnread (Unit {0}) items a b d → ((a ≤ p) × (p < b)) × IsCorrupt items p
unread_corrupt items a b p d is u = by u.why
  where
    by : IsUnreadAt (Unit {0}) items u.position d → ((a ≤ p) × (p < b)) × IsCorrupt items p
    by (inl (at, w)) = absurd cc
    by (inr (inl (at, w))) = absurd cc
    by (inr (inr (at, w))) = let same : u.position ≡ p = cc in subst (λ q. ((a ≤ q) × (q < b)) × IsCorrupt items q) same ((u.low, u.high), w tt)

why_corrupt : {F D Item : Type 0} (told : ℕ → Option D) (positions : List ℕ) (items : Items Item) (a b p : ℕ) (e : joined_error.Error F) → WhyUnproved told positions items a b e → e ≡ joined.Journal (journal.Corruption p)
    → ((a ≤ p) × (p < b)) × IsCorrupt items p
why_corrupt told positions items a b p e (inl out) is = absurd (subst journal_errors.IsOutside is out)
why_corrupt told positions items a b p e (inr (inl (q, at, absent))) is = absurd cc
why_corrupt told positions items a b p e (inr (inr (d, at, there, unread))) is = let same : d ≡ journal.Corruption p = cc in unread_corrupt items a b p d same unread

-- what a proof says of bytes that are no operation
pub corrupt_of : {F D Item T : Type 0} (told : ℕ → Option D) (positions : List ℕ) (items : Items Item) (a b p : ℕ) (e : joined_error.Error F) (d : Error F) → d ≡ from_joined e → WhyUnproved told positions items a b e
    → IsErrOf {T = T} (Err d) (db_error.Journal (journal.Corruption p)) → ((a ≤ p) × (p < b)) × IsCorrupt items p
corrupt_of told positions items a b p e d is why at =
    let same : d ≡ db_error.Journal (journal.Corruption p) = cc in
    why_corrupt told positions items a b p e why (corrupt_below e p (sym is ∙ same))

-- no error of a journal says that there is no commit
pub never_floorless : {F T : Type 0} (e : joined_error.Error F) (d : Error F) (n : ℕ) → d ≡ from_joined e → IsErrOf {T = T} (Err d) (db_error.HistoricalFloorPruned n) → ⊥
never_floorless (joined.Merkle x) d n is at = cc
never_floorless (joined.Journal x) d n is at = cc
never_floorless joined.Volume d n is at = cc
never_floorless joined.Memory d n is at = cc

log_corrupt : {F : Type 0} (e : JournalError) (p : ℕ) → from_journal {F = F} e ≡ db_error.Journal (journal.Corruption p) → e ≡ journal.Corruption p
log_corrupt journal.Volume p is = absurd cc
log_corrupt journal.Memory p is = absurd cc
log_corrupt (journal.ItemPruned q) p is = absurd cc
log_corrupt (journal.ItemOutOfRange q) p is = absurd cc
log_corrupt (journal.Corruption q) p is = cc
log_corrupt journal.SizeOverflow p is = absurd cc
log_corrupt journal.EmptyAppend p is = absurd cc
log_corrupt (journal.Tree cause) p is = absurd cc

log_floorless : {F : Type 0} (e : JournalError) (n : ℕ) → from_journal {F = F} e ≡ db_error.HistoricalFloorPruned n → ⊥
log_floorless journal.Volume n is = cc
log_floorless journal.Memory n is = cc
log_floorless (journal.ItemPruned q) n is = cc
log_floorless (journal.ItemOutOfRange q) n is = cc
log_floorless (journal.Corruption q) n is = cc
log_floorless journal.SizeOverflow n is = cc
log_floorless journal.EmptyAppend n is = cc
log_floorless (journal.Tree cause) n is = cc

-- nor does one that is handed on
pub log_never_floorless : {F T : Type 0} (cause : JournalError) (d : Error F) (n : ℕ) → d ≡ from_journal cause → IsErrOf {T = T} (Err d) (db_error.HistoricalFloorPruned n) → ⊥
log_never_floorless cause d n is at = let same : d ≡ db_error.HistoricalFloorPruned n = cc in log_floorless cause n (sym is ∙ same)

-- as an error in place of one answer it is the same in place of another
pub floorless_too : {F S T : Type 0} (e : Error F) (n : ℕ) → IsErrOf {T = S} (Err e) (db_error.HistoricalFloorPruned n)
    → IsErrOf {T = T} (Err e) (db_error.HistoricalFloorPruned n)
floorless_too e n at = let same : e ≡ db_error.HistoricalFloorPruned n = cc in ap (λ d. Err d) same

module _ {F T Op V : Type 0} (tells : Type 0) (m : Meaning Op V) (items : Items Op) (count n : ℕ) (same : count ≡ n) (e : Error F) where
  -- the commit's bytes are none
  pub floor_corrupt : (a k p : ℕ) → tells → IsFloorFault tells m items count e → IsErrOf {T = T} (Err e) (db_error.Journal (journal.Corruption p)) → IsCorruptFor items n a k p
  floor_corrupt a k p told (inl fault) at =
      let is : e ≡ db_error.Journal (journal.Corruption p) = cc in
      let y = fault.corrupt p (log_corrupt fault.cause p (sym fault.is ∙ is)) in
      (inl (y.0 ∙ ap (λ c. c - 1) same), subst (λ q. IsCorrupt items q) (sym y.0) (y.1 told))
  floor_corrupt a k p told (inr (is, lacks)) at = absurd cc

  -- the operation is none
  pub floor_lacks : (q : ℕ) → IsFloorFault tells m items count e → IsErrOf {T = T} (Err e) (db_error.HistoricalFloorPruned q) → (q ≡ n) × (tells → IsNoCommitAt m items (n - 1))
  floor_lacks q (inl fault) at = let is : e ≡ db_error.HistoricalFloorPruned q = cc in absurd (log_floorless fault.cause q (sym fault.is ∙ is))
  floor_lacks q (inr (is, lacks)) at =
      let one : q ≡ count = cc in
      (one ∙ same, λ told. subst (λ c. IsNoCommitAt m items (c - 1)) same (lacks told))

-- bytes that are none stay so where the contents do
pub corrupt_still : {Op Codec : Type 0} (spelling : Op → List ℕ) (admits : Codec → Op → Type 0) (view : View Codec) (a b : State) (l : ℕ) → SameContents a b → IsCorrupt (items_of spelling admits view b) l → IsCorrupt (items_of spelling admits view a) l
corrupt_still spelling admits view a b l same bad = subst (λ (log : Log). IsCorrupt (record { log = log; spelling = spelling; admits = admits view.codec }) l) (same.logs view.name) bad

-- bytes in the range
pub range_corrupt : {Op : Type 0} (items : Items Op) (count n a k p : ℕ) → count ≡ n → (a ≤ p) × (p < proof_end count a k) → IsCorrupt items p → IsCorruptFor items n a k p
range_corrupt items count n a k p same within bad = (inr (subst (λ c. (a ≤ p) × (p < proof_end c a k)) same within), bad)

-- ---- errors of any contents

log_above : {F : Type 0} (c : JournalError) → IsFromJoined {F = F} journal_errors.IsLifted (from_journal c)
log_above journal.Volume = (joined.Volume, refl, tt)
log_above journal.Memory = (joined.Memory, refl, tt)
log_above (journal.ItemPruned p) = (joined.Journal (journal.ItemPruned p), refl, refl)
log_above (journal.ItemOutOfRange p) = (joined.Journal (journal.ItemOutOfRange p), refl, refl)
log_above (journal.Corruption p) = (joined.Journal (journal.Corruption p), refl, refl)
log_above journal.SizeOverflow = (joined.Journal journal.SizeOverflow, refl, refl)
log_above journal.EmptyAppend = (joined.Journal journal.EmptyAppend, refl, refl)
log_above (journal.Tree cause) = (joined.Journal (journal.Tree cause), refl, refl)

module _ {F : Type 0} (n : ℕ) where
  -- an error of the journal, or that there is no commit
  abbrev pub ProofError : Error F → Type 0
  ProofError e = IsFromJoined journal_errors.IsLifted e ⊎ (e ≡ db_error.HistoricalFloorPruned n)

  pub floor_error : {Op V : Type 0} (tells : Type 0) (m : Meaning Op V) (items : Items Op) (count : ℕ) (e : Error F) → count ≡ n → IsFloorFault tells m items count e → ProofError e
  floor_error tells m items count e same (inl fault) = inl (subst (λ (d : Error F). IsFromJoined journal_errors.IsLifted d) (sym fault.is) (log_above fault.cause))
  floor_error tells m items count e same (inr (is, lacks)) = inr (is ∙ ap (λ k. db_error.HistoricalFloorPruned k) same)

  pub under_error : {T : Type 0} (r : Result T (Error F)) → IfErr r (IsFromJoined journal_errors.IsLifted) → IfErr r ProofError
  under_error (Ok x) is = tt
  under_error (Err e) is = inl is
