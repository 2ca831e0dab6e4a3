-- A journal that is being opened.
use Rattle.std.proofs.Common.{◌≡◌, ◌≢◌, ◌⊎◌, ⊎_elim, inl, inr, ℕ, zero, suc, ◌+◌, ◌-◌, ◌<◌, ◌≤◌, max, min, List, [], ◌∷◌, ◌++◌, length, map, take, Ok, Err, refl, sym, ◌∙◌, ap, subst, arith}
use Rattle.std.specs.List.{enumerate_from, take-map}
use Rattle.std.proofs.lemmas.List.{take_all, take-append-le, length-take}
use Rattle.tree_shape.specs.Hashing.{Hashing}
use Rattle.tree_shape.specs.Shape.{Shape}
use Rattle.tree_shape.specs.Slow.{leaf, leaf_digests}
use Rattle.volume_base.specs.Log.{Log, end_of, cut_to, IsItemAt, Shrinks}
use Rattle.volume_base.specs.declared.error.JournalError.{JournalError}
use Rattle.volume_base.specs.declared.error.JournalError.TheVariants as journal
use Rattle.volume_base.specs.Moments.{present, LogKeeps}
use Rattle.volume_base.specs.Names.{Names, log_alone, log_and_map, two_logs_and_map, NamesCall, IsNoneOf}
use Rattle.volume_base.proofs.MomentLemmas.{past_joins}
use Rattle.std.proofs.lemmas.Bool.{cases_lt, ltb-true}
use Rattle.volume_base.specs.Volume.{State, LogMoves, LogCall, Follows}
use Rattle.std.specs.Prelude.{Result, IfErr, Bool, true, false, ◌&&◌, nat_lt, if◌then◌else◌}
use Rattle.std.specs.Result.{IsErrAnd}
use Rattle.journal_base.specs.Answers.{IsOfStart, IsOfVolume, IsOfRead}
use Rattle.journal_base.specs.Items.{Items, items_of, Spells, IsCorrupt}
use Rattle.journal_base.specs.Reads.{AreItemsAt}
use Rattle.journal_base.specs.View.{View, log_of, IsHeld, SameButBounds}
use Rattle.merkle_full.specs.Full.{Full}
use Rattle.merkle_full.specs.Lists.{IsFullOf}
use Rattle.merkle_full.specs.Preparing.{Prepared, IsPreparedIn, leaves_reached}
use Rattle.tree_store.specs.Stored.{size}
use Rattle.merkle_full.proofs.ListLemmas.{taken}
use Rattle.merkle_full.proofs.SettleLemmas.{end_cut}
use Rattle.auth_journal.specs.Aligning.{NotAligned}
use Rattle.auth_journal.specs.Errors.{from_journal, IsOutside}
use Rattle.auth_journal.specs.Opening.{Readied, IsSoundReady, IsReadyIn}
use Rattle.auth_journal.specs.Reading.{AreReadable, IsUnreadAt, IsFirstUnread}
use Rattle.auth_journal.specs.Searching.{IsUnreadWithin}
use Rattle.auth_journal.specs.declared.error.Error.{Error}
use Rattle.auth_journal.specs.declared.error.Error.TheVariants as joined
use Rattle.auth_journal.proofs.AlignLemmas.{outside_from}
use Rattle.auth_journal.specs.Joined.{Joined, IsJoinedOf, leaves_of}
use Rattle.auth_journal.proofs.ReadingLemmas.{run_end}

-- ---- the first leaves of a list

from_take : {D : Type 0} (f : ℕ × List ℕ → D) (n k : ℕ) (xs : List (List ℕ)) → take n (map f (enumerate_from k xs)) ≡ map f (enumerate_from k (take n xs))
from_take f zero k xs = refl
from_take f (suc n) k [] = refl
from_take {D = D} f (suc n) k (x ∷ xs) = ap (λ (r : List D). f (k, x) ∷ r) (from_take f n (k + 1) xs)

pub leaves_take : {D Item : Type 0} (s : Shape) (h : Hashing D) (spelling : Item → List ℕ) (n : ℕ) (list : List Item) → take n (leaves_of s h spelling list) ≡ leaves_of s h spelling (take n list)
leaves_take s h spelling n list = from_take (λ p. leaf s h p.0 p.1) n 0 (map spelling list) ∙ ap (leaf_digests s h) (take-map spelling n list)

-- the first leaves are not changed by items behind the list
pub leaves_ahead : {D Item : Type 0} (s : Shape) (h : Hashing D) (spelling : Item → List ℕ) (n : ℕ) (list rest : List Item) → n ≤ length list
    → take n (leaves_of s h spelling (list ++ rest)) ≡ take n (leaves_of s h spelling list)
leaves_ahead s h spelling n list rest low =
    leaves_take s h spelling n (list ++ rest) ∙ ap (leaves_of s h spelling) (take-append-le n list rest low) ∙ sym (leaves_take s h spelling n list)

pub take_twice : {X : Type 0} (n m : ℕ) (xs : List X) → n ≤ m → take n (take m xs) ≡ take n xs
take_twice zero m xs low = refl
take_twice (suc n) zero xs low = absurd (omega (arith, low))
take_twice (suc n) (suc m) [] low = refl
take_twice (suc n) (suc m) (x ∷ xs) low = ap (λ r. x ∷ r) (take_twice n m xs (omega (arith, low)))

-- ---- a journal of a list

-- the log is a run of the list, and stays over calls on the tree; the tree is the list's
pub joined_here : {D Codec Item : Type 0} (s : Shape) (h : Hashing D) (digest : D → List ℕ) (admits : D → Type 0) (spelling : Item → List ℕ) (list : List Item) (n : ℕ) (j : Joined D Codec) (a b : State)
    → Spells spelling list (log_of j.items a) → IsHeld j.items a → log_of j.items b ≡ log_of j.items a → length list ≤ n → IsFullOf s h digest admits (leaves_of s h spelling (take n list)) j.tree (present b)
    → IsJoinedOf s h digest admits spelling list j (present b)
joined_here {Item = Item} s h digest admits spelling list n j a b run held same long full = record {
  items = subst (λ (l : Log). Spells spelling list l) (sym same) run;
  start_is = held.start_is ∙ ap (λ (l : Log). l.start) (sym same);
  end_is = held.end_is ∙ ap end_of (sym same);
  tree = subst (λ (l : List Item). IsFullOf s h digest admits (leaves_of s h spelling l) j.tree (present b)) (take_all n list long) full;
}

-- ---- a log that is cut

item_cut : (log : Log) (end p : ℕ) (bytes : List ℕ) → IsItemAt (cut_to log end) p bytes → IsItemAt log p bytes
item_cut log end p bytes there = record { low = there.low; here = taken log.items (end - log.start) (p - log.start) bytes there.here }

module _ {Item : Type 0} (tells : Type 0) (spelling : Item → List ℕ) (admits : Item → Type 0) (log : Log) (end : ℕ) (low : log.start ≤ end) (high : tells → end ≤ end_of log) where
  abbrev pub cut : Items Item
  cut = record { log = cut_to log end; spelling = spelling; admits = admits }

  abbrev pub whole : Items Item
  whole = record { log = log; spelling = spelling; admits = admits }

  items_cut : (ps : List ℕ) (xs : List Item) → AreItemsAt cut ps xs → AreItemsAt whole ps xs
  items_cut [] [] there = tt
  items_cut [] (x ∷ xs) there = absurd there
  items_cut (p ∷ ps) [] there = absurd there
  items_cut (p ∷ ps) (x ∷ xs) there = (item_cut log end p (spelling x) there.0, there.1, items_cut ps xs there.2)

  unread_cut : (from : ℕ) (e : JournalError) → IsFirstUnread tells cut from end e → IsFirstUnread tells whole from end e
  unread_cut from e u = record {
    position = u.position;
    low = u.low;
    high = u.high;
    first = λ told. let f = u.first told in record { before = f.before; behind = f.behind; read = f.read; split = f.split; readable = items_cut f.before f.read f.readable };
    why = later u.why;
  }
    where
      later : IsUnreadAt tells cut u.position e → IsUnreadAt tells whole u.position e
      later (inl why) = inl why
      later (inr (inl why)) = inr (inl (why.0, λ told. let past = why.1 told in let ends = end_cut log end low (high told) in absurd (omega (arith, past, ends, u.high))))
      later (inr (inr why)) = inr (inr (why.0, λ told. let c = why.1 told in record { bytes = c.bytes; here = item_cut log end u.position c.bytes c.here; unspelled = c.unspelled }))

  -- what can't be read of the cut log can't be read of the whole one
  pub aligned_cut : {F : Type 0} (from : ℕ) (e : Error F) → NotAligned tells cut from end e → NotAligned tells whole from end e
  aligned_cut from e (inl out) = inl out
  aligned_cut from e (inr why) = inr (why.0, why.1, unread_cut from why.0 why.2)

  -- and what can be read of the one can be read of the other
  pub readable_cut : (from : ℕ) → AreReadable cut from end → AreReadable whole from end
  readable_cut from all p lo hi = let found = all p lo hi in (found.0, item_cut log end p (spelling found.0) found.1, found.2)

-- ---- a tree that stands ready beside a log

pub prepared_later : {D : Type 0} (r : Prepared D) (a b : State) → b.log r.log.name ≡ a.log r.log.name → b.map r.metadata ≡ a.map r.metadata → IsPreparedIn r a → IsPreparedIn r b
prepared_later r a b log map ready = record {
  log = record { start_is = ready.log.start_is ∙ ap (λ (l : Log). l.start) (sym log); end_is = ready.log.end_is ∙ ap end_of (sym log) };
  read = map ∙ ready.read;
}

pub of_start : (e : JournalError) → IsOfStart e → ((p : ℕ) → e ≡ journal.ItemPruned p → ⊥) → IsOfVolume e
of_start journal.Volume of never = refl
of_start journal.Memory of never = refl
of_start (journal.ItemPruned p) of never = absurd (never p refl)
of_start (journal.ItemOutOfRange p) of never = absurd cc
of_start (journal.Corruption p) of never = absurd cc
of_start journal.SizeOverflow of never = absurd cc
of_start journal.EmptyAppend of never = absurd cc
of_start (journal.Tree cause) of never = absurd cc

-- a call that is given a size at or past the start is refused by the outside alone
pub start_not : {F T Item : Type 0} (tells : Type 0) (items : Items Item) (from to : ℕ) (e : JournalError) (result : Result T (Error F)) → IsErrAnd result (λ d. d ≡ from_journal e) → IsOfStart e → ((p : ℕ) → e ≡ journal.ItemPruned p → ⊥) → IfErr result (NotAligned tells items from to)
start_not tells items from to e (Ok x) is of never = absurd is
start_not {F = F} tells items from to e (Err d) is of never = inl (subst IsOutside (sym is) (outside_from F e (of_start e of never)))

-- ---- names

pub names_of_tree : (items nodes metadata : List ℕ) (a b : State) → NamesCall (log_and_map nodes metadata) a b → NamesCall (two_logs_and_map items nodes metadata) a b
names_of_tree items nodes metadata a b call = record {
  others = record { logs = λ other none. call.others.logs other none.1; maps = λ other none. call.others.maps other none };
  images = record { past = call.images.past; logs = λ other none. call.images.logs other none.1; maps = λ other none. call.images.maps other none };
}

pub names_of_nodes : (items nodes metadata : List ℕ) (a b : State) → NamesCall (log_alone nodes) a b → NamesCall (two_logs_and_map items nodes metadata) a b
names_of_nodes items nodes metadata a b call = record {
  others = record { logs = λ other none. call.others.logs other none.1; maps = λ other none. call.others.maps other tt };
  images = record { past = call.images.past; logs = λ other none. call.images.logs other none.1; maps = λ other none. call.images.maps other tt };
}

-- what is left of a log stays so over calls on other names
pub log_keeps_beside : (name : List ℕ) (P : Log → Type 0) (names : Names) (a b c : State) → LogKeeps name P a b → IsNoneOf name names.logs → NamesCall names b c → LogKeeps name P a c
log_keeps_beside name P names a b c keeps none call = record {
  past = past_joins a b c keeps.past call.images.past;
  during = λ t log lo hi left. ⊎_elim
      (λ early. let le : t ≤ b.clock = omega (arith, early) in keeps.during t log lo le ((call.images.past.logs t name log le).0 left))
      (λ late. keeps.during b.clock log keeps.past.later (omega arith) ((call.images.logs name none t log late hi).0 left))
      (cases_lt t b.clock);
}

-- ---- a log that is seen

-- what is so of the items of a log, by a view of it behind calls that only read
pub seen_items : {A Codec : Type 0} (P : Items A → Type 0) (spelling : A → List ℕ) (admits : Codec → A → Type 0) (first v : View Codec) (a b : State) → SameButBounds first v → b.log first.name ≡ a.log first.name → P (items_of spelling admits v b) → P (items_of spelling admits first a)
seen_items {Codec = Codec} P spelling admits first v a b same logs here =
    subst (λ (l : Log). P (record { log = l; spelling = spelling; admits = admits first.codec })) logs (subst (λ (w : View Codec). P (items_of spelling admits w b)) same here)

pub seen_held : {Codec : Type 0} (first v : View Codec) (a b : State) → SameButBounds first v → b.log first.name ≡ a.log first.name → v.start ≡ (a.log first.name).start → v.end ≡ end_of (a.log first.name) → IsHeld v b
seen_held first v a b same logs start end =
    let at : b.log v.name ≡ a.log first.name = ap (λ w. b.log w.name) same ∙ logs in
    record { start_is = start ∙ ap (λ (l : Log). l.start) (sym at); end_is = end ∙ ap end_of (sym at) }

-- ---- what is opened

pub finish_joined : {D Codec Item : Type 0} (s : Shape) (h : Hashing D) (digest : D → List ℕ) (admits : D → Type 0) (spelling : Item → List ℕ) (list : List Item) (r : Readied D Codec) (j : Joined D Codec) (opened : Full D) (a b c d : State)
    → IsSoundReady r → IsReadyIn r a → Spells spelling list (log_of r.items a) → SameButBounds r.items j.items → IsHeld j.items b → Spells spelling (take r.end list) (log_of r.items b)
    → c.log j.items.name ≡ b.log j.items.name → d.log j.items.name ≡ c.log j.items.name
    → opened.tree.leaves ≡ r.tree.tree.leaves → j.tree.tree.leaves ≡ max opened.tree.leaves r.end → IsFullOf s h digest admits (take r.tree.tree.leaves (leaves_of s h spelling list)) opened (present c)
    → ((front : List Item) → Spells spelling front (log_of j.items c) → r.end ≤ length front → IsFullOf s h digest admits (leaves_of s h spelling (take opened.tree.leaves front)) opened (present c)
    → IsFullOf s h digest admits (leaves_of s h spelling (take j.tree.tree.leaves front)) j.tree (present d))
    → IsJoinedOf s h digest admits spelling (take r.end list) j (present d)
finish_joined {D = D} {Item = Item} s h digest admits spelling list r j opened a b c d sound ready run same held cut second third leaves caught full goes_on =
    let front = take r.end list in
    let name : j.items.name ≡ r.items.name = ap (λ v. v.name) same in
    let ends = run_end spelling list (log_of r.items a) run in
    let cuts = length-take r.end list in
    let few : r.end ≤ length front = omega (arith, cuts, ends, sound.within, ready.items.end_is) in
    let here : Spells spelling front (log_of j.items b) = subst (λ n. Spells spelling front (b.log n)) (sym name) cut in
    let there : Spells spelling front (log_of j.items c) = subst (λ (l : Log). Spells spelling front l) (sym second) here in
    let is : take r.tree.tree.leaves (leaves_of s h spelling list) ≡ leaves_of s h spelling (take opened.tree.leaves front) =
    leaves_take s h spelling r.tree.tree.leaves list
    ∙ ap (leaves_of s h spelling) (sym (take_twice r.tree.tree.leaves r.end list ready.high) ∙ ap (λ n. take n front) (sym leaves)) in
    let whole = goes_on front there few (subst (λ (all : List D). IsFullOf s h digest admits all opened (present c)) is full) in
    joined_here s h digest admits spelling front j.tree.tree.leaves j b d here held (third ∙ second) (omega (arith, cuts, caught)) whole

-- an image of a log that is cut loses at most what is behind the end
pub keeps_cut : (name : List ℕ) (log : Log) (end : ℕ) (a b : State) → end ≤ end_of log → LogMoves name (Shrinks (min end (end_of log))) a b → LogKeeps name (Follows (a.log_left a.clock name) (Shrinks end)) a b
keeps_cut name log end a b high moves =
    let same : min end (end_of log) ≡ end = omega (arith, high) in
    record { past = moves.past; during = λ t image lo hi left. subst (λ n. Follows (a.log_left a.clock name) (Shrinks n) image) same (moves.this t image lo hi left) }

-- images of a log over a call on another, and then over calls that take each image by a step
pub keeps_behind : (name other : List ℕ) (step second both : Log → Log → Type 0) (a b c : State) → name ≢ other → LogCall other step a b → LogKeeps name (Follows (b.log_left b.clock name) second) b c → ((log : Log) → both log log) → ((old new : Log) → second old new → both old new) → LogKeeps name (Follows (a.log_left a.clock name) both) a c
keeps_behind name other step second both a b c apart call keeps idle wider = record {
  past = past_joins a b c call.images.past keeps.past;
  during = λ t log lo hi left. ⊎_elim
      (λ early. let le : t ≤ b.clock = omega (arith, early) in (log, (call.images.logs t name log lo le apart).0 ((keeps.past.logs t name log le).0 left), idle log))
      (λ late. let moved = keeps.during t log late hi left in
      let at : b.log_left b.clock name moved.0 = moved.1 in
      (moved.0, (call.images.logs b.clock name moved.0 call.images.past.later (omega arith) apart).0 at, wider moved.0 log moved.2))
      (cases_lt t b.clock);
}

-- ---- what stands ready

-- a tree has no more leaves than the cap
pub reached_within : (s : Shape) (cap end n : ℕ) → n ≤ cap → leaves_reached s cap end n ≤ cap
reached_within s cap end n few = by (nat_lt n cap) (nat_lt (size s n) end) (λ is. ltb-true n cap is)
  where
    by : (one two : Bool) → (one ≡ true → n < cap) → (if one && two then n + 1 else n) ≤ cap
    by true true below = let lt = below refl in omega (arith, lt)
    by true false below = few
    by false two below = few

-- why a read between the bounds is refused
pub read_refused : {F A T : Type 0} (items : Items A) (start end top p : ℕ) (e : JournalError) (result : Result T (Error F)) → IsErrAnd result (λ d. d ≡ from_journal e) → start ≡ items.log.start → end ≤ top → p < end
    → ((q : ℕ) → e ≡ journal.ItemPruned q → (q ≡ p) × (p < start)) → ((q : ℕ) → e ≡ journal.ItemOutOfRange q → (q ≡ p) × (top ≤ p))
    → ((q : ℕ) → e ≡ journal.Corruption q → (q ≡ p) × (start ≤ p) × IsCorrupt items p) → IsOfRead e
    → IfErr result (λ d. IsOutside d ⊎ ((cause : JournalError) × IsUnreadWithin items end p cause × (d ≡ joined.Journal cause)))
read_refused items start end top p e (Ok x) is start_is within below pruned past corrupt of = absurd is
read_refused {F = F} items start end top p e (Err d) is start_is within below pruned past corrupt of = by e is pruned past corrupt of
  where
    by : (e : JournalError) → d ≡ from_journal e → ((q : ℕ) → e ≡ journal.ItemPruned q → (q ≡ p) × (p < start)) → ((q : ℕ) → e ≡ journal.ItemOutOfRange q → (q ≡ p) × (top ≤ p))
        → ((q : ℕ) → e ≡ journal.Corruption q → (q ≡ p) × (start ≤ p) × IsCorrupt items p) → IsOfRead e
        → IsOutside d ⊎ ((cause : JournalError) × IsUnreadWithin items end p cause × (d ≡ joined.Journal cause))
    by journal.Volume is pruned past corrupt of = inl (subst IsOutside (sym is) tt)
    by journal.Memory is pruned past corrupt of = inl (subst IsOutside (sym is) tt)
    by (journal.ItemPruned q) is pruned past corrupt of = let y = pruned q refl in inr (journal.ItemPruned q, inl (omega (arith, y.1, start_is), ap journal.ItemPruned y.0), is)
    by (journal.ItemOutOfRange q) is pruned past corrupt of = let y = past q refl in absurd (omega (arith, y.1, within, below))
    by (journal.Corruption q) is pruned past corrupt of = let y = corrupt q refl in inr (journal.Corruption q, inr (inr (omega (arith, y.1, start_is), below, y.2, ap journal.Corruption y.0)), is)
    by journal.SizeOverflow is pruned past corrupt of = absurd cc
    by journal.EmptyAppend is pruned past corrupt of = absurd cc
    by (journal.Tree cause) is pruned past corrupt of = absurd cc
