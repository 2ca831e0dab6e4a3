-- A tree that is brought to the end of its log, one piece after another.
use Rattle.std.proofs.Common.{◌≡◌, inl, inr, ℕ, zero, suc, ◌+◌, ◌-◌, ◌<◌, ◌≤◌, List, [], ◌∷◌, ◌++◌, length, map, take, drop, Some, Ok, Err, refl, sym, ◌∙◌, ap, subst, arith, append_assoc}
use Rattle.std.specs.Prelude.{slice_get, Result, IfErr, IsErrOf}
use Rattle.codec_base.specs.Causes.{Rose}
use Rattle.std.specs.List.{range_with_len}
use Rattle.std.specs.Result.{IsErrAnd}
use Rattle.std.proofs.Math.Seq.{take-add}
use Rattle.std.proofs.lemmas.List.{map-append}
use Rattle.std.proofs.lemmas.Option.{same_Some}
use Rattle.volume_base.specs.Log.{Log, end_of}
use Rattle.volume_base.specs.declared.error.JournalError.{JournalError}
use Rattle.volume_base.specs.declared.error.JournalError.TheVariants as journal
use Rattle.journal_base.specs.Items.{Items, Spells, IsCorrupt}
use Rattle.journal_base.specs.Reads.{AreItemsAt, IsFirstFailing}
use Rattle.journal_base.proofs.ItemLemmas.{spells_item, same_item}
use Rattle.tree_shape.specs.Hashing.{Hashing}
use Rattle.tree_shape.specs.Shape.{Shape, made}
use Rattle.tree_shape.specs.Slow.{leaf_digests}
use Rattle.tree_shape.proofs.NeededLemmas.{made_le}
use Rattle.tree_core.specs.Applied.{IsLonger}
use Rattle.tree_core.specs.Tree.{Tree}
use Rattle.tree_store.specs.declared.error.Error as tree_error
use Rattle.tree_store.specs.declared.error.Error.TheVariants as tree
use Rattle.tree_store.specs.Stores as tree_answers
use Rattle.journal_base.specs.View.{View}
use Rattle.tree_store.specs.Stored.{TreeStands}
use Rattle.volume_base.specs.Moments.{present, PairHas, PairKeeps}
use Rattle.volume_base.specs.Volume.{State, Map, PastStays, Changes, Reads}
use Rattle.volume_base.proofs.JoinLemmas.{Went, changes_joins, same_joins}
use Rattle.volume_base.proofs.ReadLemmas.{OnlyRead}
use Rattle.volume_base.proofs.MomentLemmas.{pair_has_after, pair_keeps_joins, past_joins}
use Rattle.merkle_full.specs.Flushing.{AllStand, AllKeepStanding}
use Rattle.merkle_full.proofs.StandLemmas.{pair_idle}
use Rattle.merkle_full.specs.Full.{Full, IsBeside, IsSeated}
use Rattle.merkle_full.proofs.ListLemmas.{there_is}
use Rattle.auth_journal.specs.Aligning.{NotAligned}
use Rattle.auth_journal.specs.Errors.{from_journal, from_tree, IsOutside}
use Rattle.auth_journal.specs.Joined.{leaves_of}
use Rattle.auth_journal.specs.Reading.{positions, IsUnreadAt, IsFirstUnread, AreUnread}
use Rattle.auth_journal.specs.declared.error.Error.{Error}
use Rattle.auth_journal.specs.declared.error.Error.TheVariants as joined
use Rattle.journal_base.specs.Answers.{IsOfVolume}
use Rattle.auth_journal.proofs.ErrorLemmas.{volume_from}
use Rattle.auth_journal.proofs.ReadingLemmas.{range_split}

range_join : (from mid to : ℕ) → from ≤ mid → mid ≤ to → positions from to ≡ positions from mid ++ positions mid to
range_join from mid to low high =
    let e : mid - from + (to - mid) ≡ to - from = omega (arith, low, high) in
    let f : from + (mid - from) ≡ mid = omega (arith, low) in
    ap (range_with_len from) (sym e) ∙ range_split from (mid - from) (to - mid) ∙ ap (λ (n : ℕ). positions from mid ++ range_with_len n (to - mid)) f

items_join : {Item : Type 0} (items : Items Item) (ps qs : List ℕ) (xs ys : List Item) → AreItemsAt items ps xs → AreItemsAt items qs ys → AreItemsAt items (ps ++ qs) (xs ++ ys)
items_join items [] qs [] ys here there = there
items_join items [] qs (x ∷ xs) ys here there = absurd here
items_join items (p ∷ ps) qs [] ys here there = absurd here
items_join items (p ∷ ps) qs (x ∷ xs) ys here there = (here.0, here.1, items_join items ps qs xs ys here.2 there)

-- items up to a place, and from there on
pub read_join : {Item : Type 0} (items : Items Item) (from mid to : ℕ) (xs ys : List Item) → from ≤ mid → mid ≤ to → AreItemsAt items (positions from mid) xs → AreItemsAt items (positions mid to) ys → AreItemsAt items (positions from to) (xs ++ ys)
read_join items from mid to xs ys low high here there = subst (λ (ps : List ℕ). AreItemsAt items ps (xs ++ ys)) (sym (range_join from mid to low high)) (items_join items (positions from mid) (positions mid to) xs ys here there)

-- ---- the list's leaves

get_none : {X : Type 0} (n : ℕ) (y : X) → slice_get [] n ≡ Some y → ⊥
get_none n y e = cc

drop_here : {X : Type 0} (xs : List X) (n : ℕ) (y : X) → slice_get xs n ≡ Some y → drop n xs ≡ y ∷ drop (n + 1) xs
drop_here [] n y e = absurd (get_none n y e)
drop_here (x ∷ xs) zero y e = ap (λ z. z ∷ xs) (same_Some x y e)
drop_here (x ∷ xs) (suc n) y e =
    let f : suc (n + 1) ≡ suc n + 1 = omega arith in
    drop_here xs n y e ∙ ap (λ k. y ∷ drop k (x ∷ xs)) f

-- what is read of a run of a list is spelled as the list's
spelled : {Item : Type 0} (items : Items Item) (list : List Item) (n from : ℕ) (xs : List Item) → Spells items.spelling list items.log → from + n ≤ length list → AreItemsAt items (range_with_len from n) xs
    → map items.spelling xs ≡ map items.spelling (take n (drop from list))
spelled items list zero from [] run few there = refl
spelled items list zero from (x ∷ xs) run few there = absurd there
spelled items list (suc n) from [] run few there = absurd there
spelled {Item = Item} items list (suc n) from (x ∷ xs) run few there =
    let spelling = items.spelling in
    let entry = there_is list from (omega (arith, few)) in
    let same : spelling x ≡ spelling entry.0 = same_item items.log from (spelling x) (spelling entry.0) there.0 (spells_item spelling list items.log from entry.0 run there.0.low entry.1) in
    ap (λ (r : List (List ℕ)). spelling x ∷ r) (spelled items list n (from + 1) xs run (omega (arith, few)) there.2)
    ∙ ap (λ (b : List ℕ). b ∷ map spelling (take n (drop (from + 1) list))) same
    ∙ sym (ap (λ (r : List Item). map spelling (take (suc n) r)) (drop_here list from entry.0 entry.1))

-- the leaves of a list's front, and of what is read behind it, are those of a longer front
pub replayed : {D Item : Type 0} (s : Shape) (h : Hashing D) (items : Items Item) (list : List Item) (from to : ℕ) (xs : List Item) → Spells items.spelling list items.log → from ≤ to → to ≤ length list → AreItemsAt items (positions from to) xs
    → leaves_of s h items.spelling (take from list ++ xs) ≡ leaves_of s h items.spelling (take to list)
replayed {Item = Item} s h items list from to xs run low high there =
    let spelling = items.spelling in
    let e : from + (to - from) ≡ to = omega (arith, low) in
    ap (leaf_digests s h) (
    map-append spelling (take from list) xs
    ∙ ap (λ (r : List (List ℕ)). map spelling (take from list) ++ r) (spelled items list (to - from) from xs run (omega (arith, low, high)) there)
    ∙ sym (map-append spelling (take from list) (take (to - from) (drop from list)))
    ∙ ap (λ (r : List Item). map spelling r) (sym (take-add from (to - from) list) ∙ ap (λ n. take n list) e))

-- ---- why it isn't

-- what a piece can't read is the first that can't be read of the whole
unread_join : {Item : Type 0} (tells : Type 0) (items : Items Item) (from mid next to : ℕ) (e : JournalError) → from ≤ mid → next ≤ to → (tells → (xs : List Item) × AreItemsAt items (positions from mid) xs) → IsFirstUnread tells items mid next e → IsFirstUnread tells items from to e
unread_join tells items from mid next to e low high readable u = record {
  position = u.position;
  low = omega (arith, low, u.low);
  high = omega (arith, high, u.high);
  first = λ told.
      let f = u.first told in
      let before = readable told in
      let one = positions from mid in
      let last = positions next to in
      record {
        before = one ++ f.before;
        behind = f.behind ++ last;
        read = before.0 ++ f.read;
        split = range_join from mid to low (omega (arith, u.low, u.high, high))
            ∙ ap (λ (r : List ℕ). one ++ r) (range_join mid next to (omega (arith, u.low, u.high)) high ∙ ap (λ (r : List ℕ). r ++ last) f.split ∙ append_assoc f.before (u.position ∷ f.behind) last)
            ∙ sym (append_assoc one f.before (u.position ∷ f.behind ++ last));
        readable = items_join items one f.before before.0 f.read before.1 f.readable;
      };
  why = u.why;
}

-- so it was before a call that only reads
unread_before : {Item : Type 0} (tells : Type 0) (spelling : Item → List ℕ) (admits : Item → Type 0) (a b : Log) (from to : ℕ) (e : JournalError) → (tells → b ≡ a)
    → IsFirstUnread tells (record { log = b; spelling = spelling; admits = admits }) from to e → IsFirstUnread tells (record { log = a; spelling = spelling; admits = admits }) from to e
unread_before {Item = Item} tells spelling admits a b from to e same u = record {
  position = u.position;
  low = u.low;
  high = u.high;
  first = λ told. subst (λ l. IsFirstFailing (of l) (positions from to) u.position) (same told) (u.first told);
  why = later u.why;
}
  where
    of : Log → Items Item
    of l = record { log = l; spelling = spelling; admits = admits }

    later : IsUnreadAt tells (of b) u.position e → IsUnreadAt tells (of a) u.position e
    later (inl why) = inl (why.0, λ told. subst (λ (l : Log). u.position < l.start) (same told) (why.1 told))
    later (inr (inl why)) = inr (inl (why.0, λ told. subst (λ (l : Log). end_of l ≤ u.position) (same told) (why.1 told)))
    later (inr (inr why)) = inr (inr (why.0, λ told. subst (λ l. IsCorrupt (of l) u.position) (same told) (why.1 told)))

-- of the volume it is of the outside
pub outside_from : (F : Type 0) (e : JournalError) → IsOfVolume e → IsOutside (from_journal {F = F} e)
outside_from F journal.Volume of = tt
outside_from F journal.Memory of = tt
outside_from F (journal.ItemPruned p) of = absurd cc
outside_from F (journal.ItemOutOfRange p) of = absurd cc
outside_from F (journal.Corruption p) of = absurd cc
outside_from F journal.SizeOverflow of = absurd cc
outside_from F journal.EmptyAppend of = absurd cc
outside_from F (journal.Tree cause) of = absurd cc

wrapped : {F Item : Type 0} (tells : Type 0) (items : Items Item) (p : ℕ) (e : JournalError) → IsUnreadAt tells items p e → from_journal {F = F} e ≡ joined.Journal e
wrapped tells items p e (inl why) = ap from_journal why.0 ∙ sym (ap joined.Journal why.0)
wrapped tells items p e (inr (inl why)) = ap from_journal why.0 ∙ sym (ap joined.Journal why.0)
wrapped tells items p e (inr (inr why)) = ap from_journal why.0 ∙ sym (ap joined.Journal why.0)

-- a piece wasn't read
pub piece_unread : {F T Item : Type 0} (tells : Type 0) (spelling : Item → List ℕ) (admits : Item → Type 0) (a b : Log) (from mid next to : ℕ) (e : JournalError) (result : Result T (Error F)) → (tells → b ≡ a) → from ≤ mid → next ≤ to
    → (tells → (xs : List Item) × AreItemsAt (record { log = a; spelling = spelling; admits = admits }) (positions from mid) xs)
    → IsErrAnd result (λ d. d ≡ from_journal e) → AreUnread tells (record { log = b; spelling = spelling; admits = admits }) mid next e
    → IfErr result (NotAligned tells (record { log = a; spelling = spelling; admits = admits }) from to)
piece_unread tells spelling admits a b from mid next to e (Ok x) same low high readable is why = absurd is
piece_unread {F = F} tells spelling admits a b from mid next to e (Err d) same low high readable is (inl out) = inl (subst IsOutside (sym is) (outside_from F e out))
piece_unread {Item = Item} tells spelling admits a b from mid next to e (Err d) same low high readable is (inr u) =
    let items : Items Item = record { log = a; spelling = spelling; admits = admits } in
    let whole = unread_join tells items from mid next to e low high readable (unread_before tells spelling admits a b mid next e same u) in
    inr (e, is ∙ wrapped tells items whole.position e whole.why, whole)

-- ---- one piece after another

pub nothing_read : {Item : Type 0} (items : Items Item) (from to : ℕ) → to ≡ from → AreItemsAt items (positions from to) []
nothing_read items from to same =
    let e : 0 ≡ to - from = omega (arith, same) in
    subst (λ (n : ℕ). AreItemsAt items (range_with_len from n) []) e tt

pub beside_joins : {D : Type 0} (t u v : Full D) → IsBeside t u → IsBeside u v → IsBeside t v
beside_joins t u v one two = record { boundary = two.boundary ∙ one.boundary; log = two.log ∙ one.log; metadata = two.metadata ∙ one.metadata }

pub longer_joins : {D : Type 0} (s : Shape) (m n : ℕ) (t u v : Tree D) → t.leaves ≤ m → IsLonger s m t u → IsLonger s n u v → IsLonger s n t v
longer_joins s m n t u v low one two = record {
  leaves = two.leaves;
  boundary = two.boundary ∙ one.boundary;
  nodes = λ p below. two.nodes p (let more = made_le s t.leaves u.leaves (omega (arith, low, one.leaves)) in omega (arith, below, more)) ∙ one.nodes p below;
}

-- the bounds of its log stay the tree's
pub seated_later : {D : Type 0} (s : Shape) (t u : Full D) (a b : State) → IsBeside t u → u.tree.boundary ≡ t.tree.boundary → b.log t.log.name ≡ a.log t.log.name → IsSeated s t (present a) → IsSeated s u (present b)
seated_later s t u a b beside boundary same seated =
    let at : b.log u.log.name ≡ a.log t.log.name = ap (λ v. b.log v.name) beside.log ∙ same in
    record {
      start_is = ap (λ v. v.start) beside.log ∙ seated.start_is ∙ ap (λ (l : Log). l.start) (sym at);
      end_is = ap (λ v. v.end) beside.log ∙ seated.end_is ∙ ap end_of (sym at);
      nodes = ap (λ v. v.end) beside.log ∙ seated.nodes ∙ ap (λ n. length (made s n)) (sym boundary);
    }

-- a failure of the outside below is one above
outside_tree : {F : Type 0} (e : tree_error.Error F) → tree_answers.IsOutside e → IsOutside (from_tree e)
outside_tree tree.Volume out = tt
outside_tree tree.Memory out = tt
outside_tree _ out = absurd out

pub outside_above : {F T Item : Type 0} (tells : Type 0) (items : Items Item) (from to : ℕ) (e : tree_error.Error F) (result : Result T (Error F)) → IsErrAnd result (λ d. d ≡ from_tree e) → tree_answers.IsOutside e → IfErr result (NotAligned tells items from to)
outside_above tells items from to e (Ok x) is out = absurd is
outside_above tells items from to e (Err d) is out = inl (subst IsOutside (sym is) (outside_tree e out))

-- a call on the node log behind calls that only read, of a tree that stands for more leaves
pub images_joined : {D : Type 0} (s : Shape) (h : Hashing D) (spelling : D → List ℕ) (front : ℕ → List D) (rest : List D) (durable top : ℕ) (t u : Full D) (n : ℕ) (a b c : State) → IsBeside t u → u.tree.leaves ≡ n
    → b.clock ≡ a.clock → PastStays a b → AllStand s h spelling (front n ++ rest) durable top t a
    → (AllStand s h spelling (front u.tree.leaves ++ rest) durable top u b → AllKeepStanding s h spelling (front u.tree.leaves ++ rest) durable top u b c)
    → AllKeepStanding s h spelling (front n ++ rest) durable top t a c
images_joined {D = D} s h spelling front rest durable top t u n a b c beside leaves clock past has step =
    let Q : ℕ → Log → Map → Type 0 = λ m. TreeStands s h spelling (front m ++ rest) durable top in
    let one = pair_idle t.log.name t.metadata (Q n) a b clock past has in
    let now = pair_has_after t.log.name t.metadata (Q n) a b one in
    let name = ap (λ (v : View (Unit {0})). v.name) beside.log in
    let named = subst (λ m. PairHas b u.log.name m (Q n)) (sym beside.metadata) (subst (λ k. PairHas b k t.metadata (Q n)) (sym name) now) in
    let two = subst (λ m. PairKeeps u.log.name u.metadata (Q m) b c) leaves (step (subst (λ m. PairHas b u.log.name u.metadata (Q m)) (sym leaves) named)) in
    pair_keeps_joins t.log.name t.metadata (Q n) a b c one (subst (λ k. PairKeeps k t.metadata (Q n) b c) name (subst (λ m. PairKeeps u.log.name m (Q n) b c) beside.metadata two))

tree_volume : {F : Type 0} (e : tree_error.Error F) → from_tree e ≡ joined.Volume → e ≡ tree.Volume
tree_volume tree.Volume is = refl
tree_volume tree.Memory is = absurd cc
tree_volume _ is = absurd cc

-- the tree's call failed behind others
pub changes_above : {F S T : Type 0} (tells : Type 0) (a b c : State) (e : tree_error.Error F) (result : Result T (Error F)) → IsErrAnd result (λ d. d ≡ from_tree e) → Went tells a b → Changes {T = S} tells tree.Volume b c (Err e) → Changes tells joined.Volume a c result
changes_above tells a b c e (Ok x) is went last = absurd is
changes_above {F = F} {S = S} tells a b c e (Err d) is went last =
    let below : Result S (tree_error.Error F) = Err e in
    changes_joins tells tree.Volume joined.Volume a b c below (Err d) went last (λ at. let same : d ≡ joined.Volume = cc in ap Err (tree_volume e (sym is ∙ same))) tt

-- ---- calls that only read

-- a read that failed behind others
pub reads_above : {F S T : Type 0} (tells : Type 0) (a b c : State) (e : JournalError) (result : Result T (Error F)) → IsErrAnd result (λ d. d ≡ from_journal e) → OnlyRead tells a b → Reads {T = S} tells journal.Volume b c (Err e) → Reads tells joined.Volume a c result
reads_above tells a b c e (Ok x) is ab bc = absurd is
reads_above tells a b c e (Err d) is ab bc = record {
  clock = bc.clock ∙ ab.clock;
  past = λ told. past_joins a b c (ab.past told) (bc.past told);
  contents = λ told. same_joins a b c (ab.contents told) (bc.contents told);
  faults = omega (arith, ab.faults, bc.faults);
  failed = λ at. let same : d ≡ joined.Volume = cc in subst (λ before. Rose before c.faults) ab.faults (bc.failed (ap Err (volume_from e (sym is ∙ same))));
  kept = tt;
  reads = omega (arith, ab.reads, bc.reads);
  steady = λ steady. let one = ab.steady steady in let two = bc.steady one.steady in record { steady = two.steady; faults = two.faults ∙ one.faults };
}

volume_not_memory : {F : Type 0} (d : Error F) → d ≡ joined.Volume → d ≡ joined.Memory → ⊥
volume_not_memory d volume memory = cc

-- want of memory is no failure of the volume
pub memory_only : {F T : Type 0} (result : Result T (Error F)) (e : Error F) → IsErrAnd result (λ d. d ≡ e) → e ≡ joined.Memory → IsErrOf result joined.Volume → ⊥
memory_only (Ok x) e is memory at = absurd cc
memory_only (Err d) e is memory at = let same : d ≡ joined.Volume = cc in volume_not_memory d same (is ∙ memory)

-- the last call failed behind others
pub changes_same : {F S T : Type 0} (tells : Type 0) (a b c : State) (e : Error F) (result : Result T (Error F)) → IsErrAnd result (λ d. d ≡ e) → Went tells a b → Changes {T = S} tells joined.Volume b c (Err e) → Changes tells joined.Volume a c result
changes_same tells a b c e (Ok x) is went last = absurd is
changes_same {F = F} {S = S} tells a b c e (Err d) is went last =
    let below : Result S (Error F) = Err e in
    changes_joins tells joined.Volume joined.Volume a b c below (Err d) went last (λ at. let same : d ≡ joined.Volume = cc in ap Err (sym is ∙ same)) tt

-- another value is answered behind calls
pub changes_ok : {S T D E : Type 0} (tells : Type 0) (last : D) (fault : E) (a b c : State) (x : S) (y : T) → Went tells a b → Changes tells last b c (Ok x) → Changes tells fault a c (Ok y)
changes_ok tells last fault a b c x y went did = changes_joins tells last fault a b c (Ok x) (Ok y) went did (λ is. absurd cc) did.kept

not_volume : {F : Type 0} (d : JournalError) (e : Error F) → e ≡ joined.Journal d → e ≡ joined.Volume → ⊥
not_volume d e is volume = cc

-- or a refusal under the log
pub changes_named : {F S T D : Type 0} (tells : Type 0) (last : D) (a b c : State) (x : S) (d : JournalError) → Went tells a b → Changes tells last b c (Ok x) → Changes {T = T} {E = Error F} tells joined.Volume a c (Err (joined.Journal d))
changes_named {F = F} {T = T} tells last a b c x d went did =
    let e : Error F = joined.Journal d in
    let result : Result T (Error F) = Err e in
    changes_joins tells last joined.Volume a b c (Ok x) result went did (λ is. let same : e ≡ joined.Volume = cc in absurd (not_volume d e refl same)) tt
