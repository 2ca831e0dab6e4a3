-- The witnesses of a database, as its log grows.
use Rattle.std.proofs.Common.{◌≡◌, ℕ, zero, suc, ◌-◌, ◌^◌, ◌<◌, ◌≤◌, Bool, true, false, List, [], ◌∷◌, ◌++◌, length, map, take, drop, Some, refl, sym, ◌∙◌, ap, subst, arith}
use Rattle.std.specs.Prelude.{slice_get, IfSome}
use Rattle.std.specs.List.{AllByRecursion}
use Rattle.std.proofs.lemmas.List.{length-append, length-take, length-map}
use Rattle.std.proofs.lemmas.Option.{slice_get_within}
use Rattle.journal_base.specs.Items.{Items}
use Rattle.journal_base.specs.View.{View, IsHeld, SameButBounds, SameLog, log_of, after_sync}
use Rattle.volume_base.specs.Log.{Log, end_of}
use Rattle.volume_base.specs.Volume.{State}
use Rattle.tree_shape.specs.Hashing.{Hashing}
use Rattle.tree_shape.specs.Shape.{Shape, IsLawful}
use Rattle.tree_core.specs.Tree.{Tree, IsOf}
use Rattle.log_model.specs.Meaning.{Meaning}
use Rattle.log_model.specs.Operations.{floor_of, leaves_from}
use Rattle.log_model.specs.Good.{EndsWithCommit}
use Rattle.log_model.specs.Witness.{last_bytes}
use Rattle.witness_store.specs.declared.witness.Witness.{Witness}
use Rattle.witness_store.specs.Witness.{IsAllowed, text_of}
use Rattle.witness_store.specs.Witnesses.{witnesses_of, Keeps, LastIsBelow}
use Rattle.compact_db.specs.DbView.{DbView, IsOfList, seen_log, waits}
use Rattle.compact_db.specs.Held.{IsSizeOf, HasStates, IsHeldFor, SameState}
use Rattle.compact_db.specs.StateOf.{IsRestored, IsStateOf}
use Rattle.compact_db.specs.Verified.{verified_leaves}
use Rattle.compact_db.specs.WitnessOf.{witness_of}
use Rattle.compact_db.specs.Writing.{place_in, written_log}
use Rattle.compact_db.specs.declared.database.WitnessLog.{WitnessLog}
use Rattle.compact_db.specs.declared.database.WitnessLog.TheVariants.{Open, Import}
use Rattle.compact_db.specs.declared.verified.VerifiedWitness.{VerifiedWitness}
use Rattle.compact_db.proofs.DbLemmas.{floor_by_last}
use Rattle.compact_db.proofs.RebuildLemmas.{at_last}
use Rattle.compact_db.proofs.StateLemmas.{ones, length-ones, states_begun, states_more, states_cut, states_behind, last_cut}
use Rattle.compact_db.proofs.WitnessLemmas.{made_is, witness_allowed}

-- the bytes of a list's last operation
bytes_by_last : {D Op V : Type 0} (s : Shape) (h : Hashing D) (m : Meaning Op V) (ops : List Op) (op : Op) → slice_get ops (length ops - 1) ≡ Some op
    → last_bytes s h m ops (length ops) ≡ m.encoding op
bytes_by_last s h m [] op at = absurd cc
bytes_by_last s h m (x ∷ []) op at = let e : x ≡ op = cc in ap m.encoding e
bytes_by_last s h m (x ∷ y ∷ ops) op at =
    let n : length (x ∷ y ∷ ops) - 1 ≡ suc (length (y ∷ ops) - 1) = omega arith in
    let rest : slice_get (y ∷ ops) (length (y ∷ ops) - 1) ≡ Some op = rw n at at in
    rw n (bytes_by_last s h m (y ∷ ops) op rest)

pub ends_some : {Op V : Type 0} (m : Meaning Op V) (ops : List Op) → EndsWithCommit m ops → 0 < length ops
ends_some m [] ends = absurd ends
ends_some m (op ∷ ops) ends = omega arith

module _ {F D Op V : Type 0} (s : Shape) (h : Hashing D) (m : Meaning Op V) where
  pub last_witness : IsLawful s → (ops : List Op) (tip : VerifiedWitness F D) (tree : Tree D) (commit : Op) → IsStateOf s h m ops tip tree commit
      → tip.witness ≡ witness_of s h m ops (length ops)
  last_witness w ops tip tree commit is = ap (λ (v : VerifiedWitness F D). v.witness) is.tip_is ∙ made_is s h m w ops

  pub allowed_tip : IsLawful s → ((n : ℕ) → n ≤ 2 ^ 62 → length (s.heights n) ≤ 64) → (admits : D → Type 0) → ((bytes : List ℕ) → admits (h.digest bytes))
      → (ops : List Op) (tip : VerifiedWitness F D) (tree : Tree D) (commit : Op) → IsStateOf s h m ops tip tree commit
      → length tip.witness.op_bytes < 2 ^ 64 → IsAllowed admits tip.witness
  allowed_tip w peaks admits hashed ops tip tree commit is short =
      let last = last_witness w ops tip tree commit is in
      let bytes : tip.witness.op_bytes ≡ last_bytes s h m ops (length ops) = ap (λ (x : Witness F D). x.op_bytes) last in
      let n = ap length bytes in
      subst (λ (x : Witness F D). IsAllowed admits x) (sym last)
      (witness_allowed s h m admits hashed F peaks ops (length ops) is.few (omega (arith, short, n)))

  -- what a batch makes of the state of a list that begins its own
  pub grown_state : (ops more : List Op) (commit : Op) (tip : VerifiedWitness F D) (tree : Tree D) → EndsWithCommit m (ops ++ more)
      → length (ops ++ more) ≤ 2 ^ 62 → slice_get (ops ++ more) (length (ops ++ more) - 1) ≡ Some commit
      → IsRestored s h (leaves_from s h m 0 (ops ++ more)) (m.encoding commit) (floor_of m (commit ∷ [])) (tip, tree)
      → IsStateOf s h m (ops ++ more) tip tree commit
  grown_state ops more commit tip tree ends few at made =
      record {
        ends = ends;
        few = few;
        tip_is = made.0 ∙ ap (λ bs. verified_leaves s h (leaves_from s h m 0 (ops ++ more)) bs (floor_of m (commit ∷ []))) (sym (bytes_by_last s h m (ops ++ more) commit at))
            ∙ ap (verified_leaves s h (leaves_from s h m 0 (ops ++ more)) (last_bytes s h m (ops ++ more) (length (ops ++ more)))) (floor_by_last m (ops ++ more) commit at);
        tree_of = made.1;
        commit_is = at;
      }

  -- a database of a list, over a log that has the list's witnesses up to the last
  pub held_by : {Cfg : Type 0} (spelling : D → List ℕ) (admits : D → Type 0) (db : DbView F D Op Cfg) (state : State) (ops : List Op) (sizes : List ℕ) → IsOfList s h m ops db
      → waits db.log ≡ false → IsHeld (seen_log db.log) state → HasStates s h m ops sizes (witnesses_of {F = F} spelling admits (seen_log db.log) state)
      → (log_of (seen_log db.log) state).start < length sizes → slice_get sizes (length sizes - 1) ≡ Some (length ops) → IsHeldFor s h m spelling admits ops sizes db state
  held_by spelling admits db state ops sizes is opened bounds states some last = record {
    list = is;
    opened = opened;
    bounds = bounds;
    witnesses = states.witnesses;
    within = states.within;
    some = some;
    last = last;
  }

  pub states_of : {Cfg : Type 0} (spelling : D → List ℕ) (admits : D → Type 0) (db : DbView F D Op Cfg) (state : State) (ops : List Op) (sizes : List ℕ)
      → IsHeldFor s h m spelling admits ops sizes db state → HasStates s h m ops sizes (witnesses_of {F = F} spelling admits (seen_log db.log) state)
  states_of spelling admits db state ops sizes was = record { few = was.list.few; witnesses = was.witnesses; within = was.within }

  module _ {Cfg : Type 0} (w : IsLawful s) (spelling : D → List ℕ) (admits : D → Type 0) (db : DbView F D Op Cfg) (state : State) (view : View (Unit {0}))
      (named : (seen_log db.log).name ≡ view.name) (opened : waits db.log ≡ false) (held : IsHeld (seen_log db.log) state) where
    abbrev in_view : View (Unit {0}) → Items (Witness F D)
    in_view v = witnesses_of spelling admits v state

    keeps_here : (ws : List (Witness F D)) → Keeps (in_view view) ws → Keeps (in_view (seen_log db.log)) ws
    keeps_here ws keeps = subst (λ (n : List ℕ). Keeps {F = F} {D = D} (record { log = state.log n; spelling = text_of spelling; admits = IsAllowed admits }) ws) (sym named) keeps

    start_here : (k : ℕ) → (log_of view state).start ≡ k → (log_of (seen_log db.log) state).start ≡ k
    start_here k is = ap (λ (n : List ℕ). (state.log n).start) named ∙ is

    -- a log that is made with the witness of a list
    pub begun_held : (ops : List Op) (place : ℕ) → IsOfList s h m ops db → (log_of view state).start ≡ place
        → ((ws : List (Witness F D)) → length ws ≡ place → Keeps (in_view view) (ws ++ (db.tip.witness ∷ [])))
        → IsHeldFor s h m spelling admits ops (ones place ++ (length ops ∷ [])) db state
    begun_held ops place is start keeps =
        let count = length-map (ones place) (witness_of {F = F} s h m ops) ∙ length-ones place in
        held_by spelling admits db state ops (ones place ++ (length ops ∷ [])) is opened held
        (states_begun s h m (in_view (seen_log db.log)) ops place db.tip.witness (start_here place start) is.ends is.few (last_witness w ops db.tip db.tree db.commit is)
        (keeps_here _ (keeps (map (witness_of s h m ops) (ones place)) count)))
        (omega (arith, start_here place start, length-append (ones place) (length ops ∷ []), length-ones place))
        (at_last (ones place) (length ops))

    -- a log that keeps the witness of a longer list behind those of a list
    pub grown_held : (old : Items (Witness F D)) (ops more : List Op) (sizes : List ℕ) → (log_of view state).start ≡ old.log.start → IsOfList s h m (ops ++ more) db
        → HasStates s h m ops sizes old → Keeps (in_view view) (map (witness_of s h m ops) sizes ++ (db.tip.witness ∷ []))
        → IsHeldFor s h m spelling admits (ops ++ more) (sizes ++ (length (ops ++ more) ∷ [])) db state
    grown_held old ops more sizes start is was keeps =
        held_by spelling admits db state (ops ++ more) (sizes ++ (length (ops ++ more) ∷ [])) is opened held
        (states_more s h m old (in_view (seen_log db.log)) ops sizes more db.tip.witness (start_here old.log.start start) was is.ends is.few
        (last_witness w (ops ++ more) db.tip db.tree db.commit is) (keeps_here _ keeps))
        (omega (
          arith,
          start_here old.log.start start,
          was.witnesses.spelled.within,
          length-map (map (witness_of {F = F} s h m ops) sizes) old.spelling,
          length-map sizes (witness_of {F = F} s h m ops),
          length-append sizes (length (ops ++ more) ∷ []),
        ))
        (at_last sizes (length (ops ++ more)))

    -- a log that is cut behind the witness of a front
    pub cut_held : (old : Items (Witness F D)) (ops : List Op) (sizes : List ℕ) (count size : ℕ) → (log_of view state).start ≡ old.log.start → old.log.start < count
        → slice_get sizes (count - 1) ≡ Some size → IsOfList s h m (take size ops) db → HasStates s h m ops sizes old
        → Keeps (in_view view) (take count (map (witness_of s h m ops) sizes)) → IsHeldFor s h m spelling admits (take size ops) (take count sizes) db state
    cut_held old ops sizes count size start some here is was keeps =
        let in_it = slice_get_within sizes (count - 1) size here in
        held_by spelling admits db state (take size ops) (take count sizes) is opened held
        (states_cut s h m old (in_view (seen_log db.log)) ops sizes count size (start_here old.log.start start) some was here (keeps_here _ keeps))
        (omega (arith, start_here old.log.start start, some, in_it, length-take count sizes))
        (last_cut s h m ops sizes old.log.start count size was.within some here)

    -- a log of which less is kept
    pub behind_held : (old : Items (Witness F D)) (ops : List Op) (sizes : List ℕ) → old.log.start ≤ (log_of view state).start → (log_of view state).start < length sizes → IsOfList s h m ops db
        → slice_get sizes (length sizes - 1) ≡ Some (length ops) → HasStates s h m ops sizes old → Keeps (in_view view) (map (witness_of s h m ops) sizes)
        → IsHeldFor s h m spelling admits ops sizes db state
    behind_held old ops sizes le some is last was keeps =
        let at = start_here (log_of view state).start refl in
        held_by spelling admits db state ops sizes is opened held
        (states_behind s h m old (in_view (seen_log db.log)) ops sizes (omega (arith, le, at)) was (keeps_here _ keeps)) (omega (arith, some, at)) last

-- ---- from call to call

-- the same state is that of the same list
pub list_same : {F D Op V Cfg : Type 0} (s : Shape) (h : Hashing D) (m : Meaning Op V) (db made : DbView F D Op Cfg) → SameState db made → (ops : List Op) → IsOfList s h m ops db → IsOfList s h m ops made
list_same {D = D} s h m db made same ops is = record {
  ends = is.ends;
  few = is.few;
  tip_is = same.tip ∙ is.tip_is;
  tree_of = subst (λ (t : Tree D). IsOf s h (leaves_from s h m 0 ops) t) (sym same.tree) is.tree_of;
  commit_is = is.commit_is ∙ ap Some (sym same.commit);
}

-- where a log begins that is written
pub begun_start : {F D : Type 0} (spelling : D → List ℕ) (log : WitnessLog F D) (x : Witness F D) (a : State) → waits log ≡ true → (written_log spelling log x a).start ≡ place_in log a
begun_start spelling (Open store) x a is = absurd cc
begun_start spelling (Import cfg) x a is = refl

pub grown_start : {F D : Type 0} (spelling : D → List ℕ) (log : WitnessLog F D) (x : Witness F D) (a : State) → waits log ≡ false → (written_log spelling log x a).start ≡ (log_of (seen_log log) a).start
grown_start spelling (Open store) x a is = refl
grown_start spelling (Import cfg) x a is = absurd cc

-- what a map has at a place
get_map : {A B : Type 0} (f : A → B) (xs : List A) (i : ℕ) (x : A) → slice_get xs i ≡ Some x → slice_get (map f xs) i ≡ Some (f x)
get_map f [] i x e = absurd cc
get_map f (y ∷ xs) zero x e = let here : y ≡ x = cc in ap (λ z. Some (f z)) here
get_map f (y ∷ xs) (suc i) x e = get_map f xs i x e

-- the witness before is of fewer operations
pub last_below : {D Op V : Type 0} (F : Type 0) (s : Shape) (h : Hashing D) (m : Meaning Op V) (ops : List Op) (sizes : List ℕ) (start n : ℕ) → slice_get sizes (length sizes - 1) ≡ Some (length ops) → length ops < n
    → LastIsBelow (map (witness_of {F = F} s h m ops) sizes) start n
last_below {D = D} F s h m ops sizes start n last lt kept =
    let count = length-map sizes (witness_of {F = F} s h m ops) in
    let at : slice_get (map (witness_of {F = F} s h m ops) sizes) (length (map (witness_of {F = F} s h m ops) sizes) - 1) ≡ Some (witness_of s h m ops (length ops)) =
    ap (λ k. slice_get (map (witness_of {F = F} s h m ops) sizes) (k - 1)) count ∙ get_map (witness_of s h m ops) sizes (length sizes - 1) (length ops) last in
    subst (λ o. IfSome o (λ (x : Witness F D). x.size < n)) (sym at) lt

-- a log that stays keeps the same witnesses, whether a failed sync is kept or not
pub still_held : {F D Op V Cfg : Type 0} (s : Shape) (h : Hashing D) (m : Meaning Op V) (spelling : D → List ℕ) (admits : D → Type 0) (db made : DbView F D Op Cfg)
    (failed : Bool) (old new : State) → SameState db made → waits made.log ≡ false → seen_log made.log ≡ after_sync (seen_log db.log) failed → SameLog (seen_log db.log) old new
    → (ops : List Op) (sizes : List ℕ) → IsHeldFor s h m spelling admits ops sizes db old → IsHeldFor s h m spelling admits ops sizes made new
still_held {F} {D} {Op} {V} {Cfg} s h m spelling admits db made failed old new same opened seen stays ops sizes was =
    let bounds : IsHeld (after_sync (seen_log db.log) failed) new = record {
      start_is = was.bounds.start_is ∙ ap (λ (l : Log). l.start) (sym stays);
      end_is = was.bounds.end_is ∙ ap end_of (sym stays);
    } in
    let keeps : Keeps {F = F} (witnesses_of spelling admits (seen_log db.log) new) (map (witness_of s h m ops) sizes) =
    subst (λ (l : Log). Keeps {F = F} {D = D} (record { log = l; spelling = text_of spelling; admits = IsAllowed admits }) (map (witness_of s h m ops) sizes))
    (sym stays) was.witnesses in
    let within : AllByRecursion (IsSizeOf m ops) (drop (log_of (seen_log db.log) new).start sizes) =
    subst (λ (l : Log). AllByRecursion (IsSizeOf m ops) (drop l.start sizes)) (sym stays) was.within in
    let some : (log_of (seen_log db.log) new).start < length sizes = subst (λ (l : Log). l.start < length sizes) (sym stays) was.some in
    record {
      list = list_same s h m db made same ops was.list;
      opened = opened;
      bounds = subst (λ (v : View (Unit {0})). IsHeld v new) (sym seen) bounds;
      witnesses = subst (λ (v : View (Unit {0})). Keeps {F = F} (witnesses_of spelling admits v new) (map (witness_of s h m ops) sizes)) (sym seen) keeps;
      within = subst (λ (v : View (Unit {0})). AllByRecursion (IsSizeOf m ops) (drop (log_of v new).start sizes)) (sym seen) within;
      some = subst (λ (v : View (Unit {0})). (log_of v new).start < length sizes) (sym seen) some;
      last = was.last;
    }

-- the witness of an import, once it is written
pub imported_held : {F D Op V Cfg : Type 0} (s : Shape) (h : Hashing D) (m : Meaning Op V) (w : IsLawful s) (spelling : D → List ℕ) (admits : D → Type 0) (db made : DbView F D Op Cfg)
    (failed : Bool) (first : View (Unit {0})) (a b c : State) → SameState db made → waits made.log ≡ false → waits db.log ≡ true → SameButBounds (seen_log db.log) first
    → seen_log made.log ≡ after_sync first failed → IsHeld first b → SameLog first b c
    → log_of (seen_log db.log) b ≡ written_log spelling db.log db.tip.witness a
    → ((ws : List (Witness F D)) → length ws ≡ place_in db.log a → Keeps (witnesses_of spelling admits (seen_log db.log) b) (ws ++ (db.tip.witness ∷ [])))
    → (ops : List Op) → IsOfList s h m ops db → (sizes : List ℕ) × IsHeldFor s h m spelling admits ops sizes made c
imported_held {F} {D} {Op} {V} {Cfg} s h m w spelling admits db made failed first a b c same opened waiting but seen held stays written keeps ops is =
    let place = place_in db.log a in
    let first_name : first.name ≡ (seen_log db.log).name = ap (λ (v : View (Unit {0})). v.name) but in
    let named : (seen_log made.log).name ≡ (seen_log db.log).name = ap (λ (v : View (Unit {0})). v.name) seen ∙ first_name in
    let log_is : log_of (seen_log db.log) c ≡ log_of (seen_log db.log) b =
    ap (λ (n : List ℕ). c.log n) (sym first_name) ∙ stays ∙ ap (λ (n : List ℕ). b.log n) first_name in
    let start : (log_of (seen_log db.log) c).start ≡ place = ap (λ (l : Log). l.start) (log_is ∙ written) ∙ begun_start spelling db.log db.tip.witness a waiting in
    let later : IsHeld (after_sync first failed) c = record {
      start_is = held.start_is ∙ ap (λ (l : Log). l.start) (sym stays);
      end_is = held.end_is ∙ ap end_of (sym stays);
    } in
    let here : IsHeld (seen_log made.log) c = subst (λ (v : View (Unit {0})). IsHeld v c) (sym seen) later in
    let tip : made.tip.witness ≡ db.tip.witness = ap (λ (v : VerifiedWitness F D). v.witness) same.tip in
    let kept : (ws : List (Witness F D)) → length ws ≡ place → Keeps (witnesses_of spelling admits (seen_log db.log) c) (ws ++ (made.tip.witness ∷ [])) = λ ws count.
    subst (λ (x : Witness F D). Keeps (witnesses_of spelling admits (seen_log db.log) c) (ws ++ (x ∷ []))) (sym tip)
    (subst (λ (l : Log). Keeps {F = F} {D = D} (record { log = l; spelling = text_of spelling; admits = IsAllowed admits }) (ws ++ (db.tip.witness ∷ []))) (sym log_is) (keeps ws count)) in
    (ones place ++ (length ops ∷ []), begun_held s h m w spelling admits made c (seen_log db.log) named opened here ops place (list_same s h m db made same ops is) start kept)
