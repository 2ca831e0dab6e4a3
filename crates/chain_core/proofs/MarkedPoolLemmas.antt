-- How a pool keeps its batches' marks.
use Rattle.std.proofs.Common.{◌≡◌, ◌⊎◌, inl, inr, ℕ, ◌+◌, ◌<◌, ◌≤◌, List, [], ◌∷◌, ◌++◌, length, map, take, drop, Option, Some, None, refl, sym, ◌∙◌, ap, subst, arith, append_assoc}
use Rattle.std.specs.Prelude.{IsSomeAnd}
use Rattle.std.specs.List.{AllByRecursion}
use Rattle.std.specs.Option.{ForSome, option_map, option_map_or}
use Rattle.std.proofs.Math.Seq.{take-append_seam}
use Rattle.std.proofs.lemmas.List.{length-append, length-map, take-append-le, take-append-drop, get_or_past}
use Rattle.std.proofs.lemmas.Option.{none-some, same_Some}
use Rattle.chain_core.specs.Chains.{Sealing, IsSealedAt}
use Rattle.chain_core.specs.Commitments.{later_state}
use Rattle.chain_core.specs.MarkedPool.{KeepsItems, IsRow, NeverRise, sizes_behind, last_base, IsMarkedAt, AreMarked}
use Rattle.chain_core.specs.Marks.{marks_of, sizes_back, ReachesNewest, IsMarkedOn}
use Rattle.chain_core.specs.Reached.{item_at, linked_item, one_or_none, items_at, oldest_in, inherited_state, Reaches, IsPlaceOf}
use Rattle.chain_core.specs.Slots.{slot_at, IsAlive, IsReach, link_held, link_released}
use Rattle.chain_core.specs.States.{sizes}
use Rattle.chain_core.specs.declared.bounds.Bounds.{Bounds}
use Rattle.chain_core.specs.declared.commitment.Commitment.{Commitment}
use Rattle.chain_core.specs.declared.place.Place.{Place}
use Rattle.chain_core.specs.declared.pool.HeldBatch.{HeldBatch}
use Rattle.chain_core.proofs.PoolLemmas.{Was, Goes, alive_held, alive_drawn, some_and, held_goes, released_goes, held_length, released_length, put_goes, put_new}
use Rattle.chain_core.proofs.MarkLemmas.{at_seam, later_than}
use Rattle.chain_core.proofs.StateLemmas.{later_size}

-- ---- lists of sizes

-- the shorter of two fronts of a list is a front of the longer
front_in : (xs zs ys ws : List ℕ) → xs ++ ys ≡ zs ++ ws → length zs ≤ length xs → (more : List ℕ) × (xs ≡ zs ++ more)
front_in xs zs ys ws same shorter =
    let front : take (length zs) xs ≡ zs =
    sym (take-append-le (length zs) xs ys shorter) ∙ ap (take (length zs)) same ∙ take-append_seam zs ws in
    (drop (length zs) xs, sym (take-append-drop (length zs) xs) ∙ ap (λ f. f ++ drop (length zs) xs) front)

all_front : (P : ℕ → Type 0) (xs ys : List ℕ) → AllByRecursion P (xs ++ ys) → AllByRecursion P xs
all_front P [] ys all = tt
all_front P (x ∷ xs) ys all = (all.0, all_front P xs ys all.1)

all_weaker : (P Q : ℕ → Type 0) → ((n : ℕ) → P n → Q n) → (xs : List ℕ) → AllByRecursion P xs → AllByRecursion Q xs
all_weaker P Q f [] all = tt
all_weaker P Q f (x ∷ xs) all = (f x all.0, all_weaker P Q f xs all.1)

rises_front : (xs ys : List ℕ) → NeverRise (xs ++ ys) → NeverRise xs
rises_front [] ys falls = tt
rises_front (x ∷ xs) ys falls = (all_front (λ m. m ≤ x) xs ys falls.0, rises_front xs ys falls.1)

-- the last is the least
least_last : (xs : List ℕ) (d : ℕ) → NeverRise (xs ++ (d ∷ [])) → AllByRecursion (λ n. d ≤ n) (xs ++ (d ∷ []))
least_last [] d falls = (omega arith, tt)
least_last (x ∷ xs) d falls = (at_seam (λ m. m ≤ x) xs [] d falls.0, least_last xs d falls.1)

-- ---- rows of batches that are alive

module _ {T : Type 0} (pool : List (Option (HeldBatch T))) where
  item_of : (id : ℕ) (e : HeldBatch T) → slot_at pool id ≡ Some e → item_at pool id ≡ Some e.item
  item_of id e is = ap (option_map (λ (b : HeldBatch T). b.item)) is

  -- what is there under the first number, and then under the others
  items_first : (first id : ℕ) (ids : List ℕ) (e : HeldBatch T) → first ≡ id → slot_at pool id ≡ Some e → items_at pool (first ∷ ids) ≡ e.item ∷ items_at pool ids
  items_first first id ids e same is = ap (λ o. one_or_none o ++ items_at pool ids) (ap (item_at pool) same ∙ item_of id e is)

  -- a batch that is there by its item
  held_item : (o : Option (HeldBatch T)) (x : T) → option_map (λ (b : HeldBatch T). b.item) o ≡ Some x → (e : HeldBatch T) × (o ≡ Some e) × (e.item ≡ x)
  held_item None x is = absurd (none-some x is)
  held_item (Some e) x is = (e, refl, same_Some e.item x is)

  row_of_reach : (ids : List ℕ) (link : Option ℕ) → IsReach (slot_at pool) link ids → IsRow pool link ids
  row_of_reach [] link reach = tt
  row_of_reach (first ∷ ids) None reach = absurd cc
  row_of_reach (first ∷ ids) (Some id) reach =
      let s = some_and (slot_at pool id) (λ b. IsReach (slot_at pool) b.parent ids) reach.1 in
      (reach.0, subst (λ o. IsSomeAnd o (λ b. IsRow pool b.parent ids)) (sym s.1) (row_of_reach ids s.0.parent s.2))

  -- what is reached is the longest row
  row_within : (ids all : List ℕ) (link : Option ℕ) → IsRow pool link ids → IsReach (slot_at pool) link all → length (items_at pool ids) ≤ length (items_at pool all)
  row_within [] all link row reach = omega arith
  row_within (first ∷ ids) all None row reach = absurd row
  row_within (first ∷ ids) [] (Some id) row reach =
      let s = some_and (slot_at pool id) (λ b. IsRow pool b.parent ids) row.1 in
      absurd (none-some s.0 (sym reach ∙ s.1))
  row_within (first ∷ ids) (other ∷ all) (Some id) row reach =
      let s = some_and (slot_at pool id) (λ b. IsRow pool b.parent ids) row.1 in
      let t = some_and (slot_at pool id) (λ b. IsReach (slot_at pool) b.parent all) reach.1 in
      let same : t.0 ≡ s.0 = same_Some t.0 s.0 (sym t.1 ∙ s.1) in
      let rest = row_within ids all s.0.parent s.2 (subst (λ (b : HeldBatch T). IsReach (slot_at pool) b.parent all) same t.2) in
      let here = ap length (items_first first id ids s.0 row.0 s.1) in
      let there = ap length (items_first other id all t.0 reach.0 t.1) in
      omega (arith, rest, here, there)

-- ---- a pool that goes on

module _ {T : Type 0} (old middle new : List (Option (HeldBatch T))) (first : Goes old middle) (second : Goes middle new) where
  goes_on : Goes old new
  goes_on = record { drawn = omega (arith, first.drawn, second.drawn); was = was }
    where
      was : (id : ℕ) (e : HeldBatch T) → id < length old → slot_at new id ≡ Some e → Was old id e
      was id e lt is =
          let b = second.was id e (omega (arith, lt, first.drawn)) is in
          let a = first.was id b.batch lt b.there in
          record { batch = a.batch; there = a.there; item = b.item ∙ a.item; parent = b.parent ∙ a.parent; held = λ h. b.held (a.held h) }

pub goes_keeps : {T : Type 0} (old new : List (Option (HeldBatch T))) → Goes old new → KeepsItems old new
goes_keeps old new goes id x lt is =
    let e = held_item new (slot_at new id) x is in
    let w = goes.was id e.0 lt e.1 in
    item_of old id w.batch w.there ∙ ap Some (sym w.item ∙ e.2)

-- a pool whose link was released, and into which a batch was put
pub put_goes_on : {T : Type 0} (pool : List (Option (HeldBatch T))) (link : Option ℕ) (x : Option (HeldBatch T)) → Goes pool (link_released pool link ++ (x ∷ []))
put_goes_on pool link x =
    goes_on pool (link_released pool link) (link_released pool link ++ (x ∷ [])) (released_goes pool link) (put_goes (link_released pool link) x)

module _ {T F D : Type 0} (bounds : T → Bounds F D) where
  module _ (old new : List (Option (HeldBatch T))) (goes : Goes old new) (marked : AreMarked bounds old) where
    row_was : (ids : List ℕ) (link : Option ℕ) → ForSome link (λ p. p < length old) → IsRow new link ids → IsRow old link ids × (items_at new ids ≡ items_at old ids)
    row_was [] link drawn row = (tt, refl)
    row_was (first ∷ ids) None drawn row = absurd row
    row_was (first ∷ ids) (Some id) drawn row =
        let s = some_and (slot_at new id) (λ b. IsRow new b.parent ids) row.1 in
        let w = goes.was id s.0 (drawn id refl) s.1 in
        let parent_drawn = subst (λ l. ForSome l (λ p. p < length old)) (sym w.parent) (marked id w.batch w.there).drawn in
        let rest = row_was ids s.0.parent parent_drawn s.2 in
        let here : IsSomeAnd (slot_at old id) (λ b. IsRow old b.parent ids) =
        subst (λ o. IsSomeAnd o (λ b. IsRow old b.parent ids)) (sym w.there) (subst (λ l. IsRow old l ids) w.parent rest.0) in (
          (row.0, here),
          items_first new first id ids s.0 row.0 s.1 ∙ ap (λ x. x ∷ items_at new ids) w.item ∙ ap (λ xs. w.batch.item ∷ xs) rest.1
              ∙ sym (items_first old first id ids w.batch row.0 w.there),
        )

    marked_later : (parent : Option ℕ) (b : Bounds F D) → IsMarkedAt bounds old parent b → IsMarkedAt bounds new parent b
    marked_later parent b m = record {
      drawn = λ p is. let lt = m.drawn p is in omega (arith, lt, goes.drawn);
      back = m.back;
      row = λ ids row. let was = row_was ids parent m.drawn row in let found = m.row ids was.0 in (found.0, rw was.1 found.1);
    }

    marked_before : (id : ℕ) (e : HeldBatch T) → id < length old → slot_at new id ≡ Some e → IsMarkedAt bounds new e.parent (bounds e.item)
    marked_before id e lt is =
        let w = goes.was id e lt is in
        let there = marked_later w.batch.parent (bounds w.batch.item) (marked id w.batch w.there) in
        subst (λ l. IsMarkedAt bounds new l (bounds e.item)) (sym w.parent) (subst (λ x. IsMarkedAt bounds new w.batch.parent (bounds x)) (sym w.item) there)

    marked_same : length new ≡ length old → AreMarked bounds new
    marked_same count id e is = let lt = alive_drawn new id e is in marked_before id e (omega (arith, lt, count)) is

  pub marked_empty : AreMarked bounds []
  marked_empty id e is = let past : slot_at [] id ≡ None = get_or_past [] id None (omega arith) in absurd (none-some e (sym past ∙ is))

  module _ (pool : List (Option (HeldBatch T))) (link : Option ℕ) (marked : AreMarked bounds pool) where
    pub marked_held : AreMarked bounds (link_held pool link)
    marked_held = marked_same pool (link_held pool link) (held_goes pool link) marked (held_length pool link)

    pub marked_released : AreMarked bounds (link_released pool link)
    marked_released = marked_same pool (link_released pool link) (released_goes pool link) marked (released_length pool link)

    pub marked_put : (x : HeldBatch T) → IsMarkedAt bounds pool x.parent (bounds x.item) → AreMarked bounds (link_released pool link ++ (Some x ∷ []))
    marked_put x m id e is = elim within as (λ (c : (id < length pool) ⊎ (length pool ≡ id)). IsMarkedAt bounds new e.parent (bounds e.item)) [
      | inl lt ↦ marked_before pool new goes marked id e lt is
      | inr last ↦ subst (λ (y : HeldBatch T). IsMarkedAt bounds new y.parent (bounds y.item)) (same_Some x e (sym (at_end last) ∙ is)) (marked_later pool new goes marked x.parent (bounds x.item) m)
    ]
      where
        released : List (Option (HeldBatch T))
        released = link_released pool link

        new : List (Option (HeldBatch T))
        new = released ++ (Some x ∷ [])

        goes : Goes pool new
        goes = put_goes_on pool link (Some x)

        count : length new ≡ length pool + 1
        count = length-append released (Some x ∷ []) ∙ ap (λ n. n + 1) (released_length pool link)

        within : (id < length pool) ⊎ (length pool ≡ id)
        within = let lt = alive_drawn new id e is in grind (arith, lt, count)

        at_end : length pool ≡ id → slot_at new id ≡ Some x
        at_end last = ap (slot_at new) (sym last ∙ sym (released_length pool link)) ∙ put_new released (Some x)

  -- ---- a batch that stands alone

  pub marked_alone : (pool : List (Option (HeldBatch T))) (b : Bounds F D) → b.ancestors ≡ [] → b.db ≡ b.base → b.base.size ≤ b.tip.size → IsMarkedAt bounds pool None b
  marked_alone pool b none db le = record { drawn = λ p is. absurd (none-some p is); back = back; row = row }
    where
      behind : sizes_behind b ≡ b.base.size ∷ []
      behind = rw (none, db) refl

      back : NeverRise (sizes_back b)
      back = subst (λ ns. NeverRise (b.tip.size ∷ ns)) (sym behind) ((le, tt), (tt, tt))

      row : (ids : List ℕ) → IsRow pool None ids → (older : List ℕ) × (sizes_behind b ≡ sizes (map (λ c. (bounds c).tip) (items_at pool ids)) ++ ((last_base bounds b.base (items_at pool ids)).size ∷ older))
      row [] r = ([], behind)
      row (first ∷ ids) r = absurd r

  -- ---- a batch on a parent that is alive

  oldest_last : (b : T) (items : List T) → oldest_in bounds (b ∷ items) ≡ Some (last_base bounds (bounds b).base items)
  oldest_last b [] = refl
  oldest_last b (c ∷ items) = oldest_last c items

  abbrev Tips : List T → List ℕ
  Tips items = sizes (map (λ c. (bounds c).tip) items)

  module _ (pool : List (Option (HeldBatch T))) (marked : AreMarked bounds pool) (id : ℕ) (e : HeldBatch T) (is : slot_at pool id ≡ Some e) where
    -- the tips of a row from it on are the newest of its sizes, and then the base of the last
    row_newest : (base : Commitment F D) → base.size ≡ (bounds e.item).tip.size → (ids : List ℕ) → IsRow pool (Some id) ids
        → (older : List ℕ) × (sizes_back (bounds e.item) ≡ Tips (items_at pool ids) ++ ((last_base bounds base (items_at pool ids)).size ∷ older))
    row_newest base same [] row = (sizes_behind (bounds e.item), ap (λ n. n ∷ sizes_behind (bounds e.item)) (sym same))
    row_newest base same (first ∷ ids) row =
        let s = some_and (slot_at pool id) (λ b. IsRow pool b.parent ids) row.1 in
        let here : s.0 ≡ e = same_Some s.0 e (sym s.1 ∙ is) in
        let found = (marked id e is).row ids (subst (λ (b : HeldBatch T). IsRow pool b.parent ids) here s.2) in
        (found.0, rw (items_first pool first id ids e row.0 is) (ap (λ ns. (bounds e.item).tip.size ∷ ns) found.1))

    -- what is reached begins with it
    reach_first : (ids : List ℕ) → IsReach (slot_at pool) (Some id) ids → (items : List T) × (items_at pool ids ≡ e.item ∷ items)
    reach_first [] reach = absurd (none-some e (sym reach ∙ is))
    reach_first (first ∷ ids) reach = (items_at pool ids, items_first pool first id ids e reach.0 is)

    reach_newest : (tips : List (Commitment F D)) (oldest : Option (Commitment F D)) → Reaches bounds pool (Some id) tips oldest → ReachesNewest bounds pool (Some id) e.item tips oldest
    reach_newest tips oldest r =
        let items = reach_first r.ids r.reach in
        let found = row_newest (bounds e.item).tip refl r.ids (row_of_reach pool r.ids (Some id) r.reach) in
        let last : oldest ≡ Some (last_base bounds (bounds e.item).base items.0) = r.oldest_is ∙ ap (oldest_in bounds) items.1 ∙ oldest_last e.item items.0 in
        let split : sizes_back (bounds e.item) ≡ Tips (e.item ∷ items.0) ++ ((last_base bounds (bounds e.item).base items.0).size ∷ found.0) = rw items.1 at found.1 in
        record { older = found.0; split = rw (r.tips_are, items.1, last) split }

  module _ (pool : List (Option (HeldBatch T))) (marked : AreMarked bounds pool) where
    newest_on : (parent : Option ℕ) (q : T) → linked_item pool parent ≡ Some q → (tips : List (Commitment F D)) (oldest : Option (Commitment F D)) → Reaches bounds pool parent tips oldest
        → ReachesNewest bounds pool parent q tips oldest
    newest_on None q at tips oldest r = absurd (none-some q at)
    newest_on (Some id) q at tips oldest r =
        let e = held_item pool (slot_at pool id) q at in
        subst (λ x. ReachesNewest bounds pool (Some id) x tips oldest) e.2 (reach_newest pool marked id e.0 e.1 tips oldest r)

    pub marked_child : (id : ℕ) (p : T) (base : Commitment F D) → item_at pool id ≡ Some p → base.size ≡ (bounds p).tip.size → IsMarkedOn bounds pool (Some id) base (marks_of (bounds p))
    marked_child id p base is same = record {
      none = λ n. absurd (none-some id (sym n));
      own = λ q at. ap (λ x. marks_of (bounds x)) (one q at);
      base_is = λ q at. same ∙ ap (λ x. (bounds x).tip.size) (one q at);
      reached = newest_on (Some id);
    }
      where
        one : (q : T) → item_at pool id ≡ Some q → p ≡ q
        one q at = same_Some p q (sym is ∙ at)

    pub marked_stays : (old : List (Option (HeldBatch T))) (parent : Option ℕ) (base : Commitment F D) (marks : List ℕ) → KeepsItems old pool → ForSome parent (λ p. p < length old)
        → IsMarkedOn bounds old parent base marks → IsMarkedOn bounds pool parent base marks
    marked_stays old parent base marks keeps drawn on = record {
      none = on.none;
      own = λ p at. on.own p (before parent drawn p at);
      base_is = λ p at. on.base_is p (before parent drawn p at);
      reached = newest_on parent;
    }
      where
        before : (link : Option ℕ) → ForSome link (λ p. p < length old) → (p : T) → linked_item pool link ≡ Some p → linked_item old link ≡ Some p
        before None within p at = at
        before (Some id) within p at = keeps id p (within id refl) at

  pub marked_first : (pool : List (Option (HeldBatch T))) (base : Commitment F D) → IsMarkedOn bounds pool None base []
  marked_first pool base = record {
    none = λ n. refl;
    own = λ p at. absurd (none-some p at);
    base_is = λ p at. absurd (none-some p at);
    reached = λ p at tips oldest r. absurd (none-some p at);
  }

  -- ---- a batch that is sealed in its place

  Tips_count : (items : List T) → length (Tips items) ≡ length items
  Tips_count items = length-map (map (λ c. (bounds c).tip) items) (λ (c : Commitment F D). c.size) ∙ length-map items (λ c. (bounds c).tip)

  module _ (pool : List (Option (HeldBatch T))) (marked : AreMarked bounds pool) (base : Commitment F D) (made : Bounds F D) (base_is : made.base ≡ base) (tip : base.size ≤ made.tip.size) where
    module _ (id : ℕ) (e : HeldBatch T) (is : slot_at pool id ≡ Some e) (same : base.size ≡ (bounds e.item).tip.size) (all : List ℕ) (reach : IsReach (slot_at pool) (Some id) all)
        (ancestors_are : made.ancestors ≡ map (λ c. (bounds c).tip) (items_at pool all)) (db_is : made.db.size ≡ (last_base bounds base (items_at pool all)).size) where
      abbrev Front : List ℕ → List ℕ
      Front ids = Tips (items_at pool ids) ++ ((last_base bounds base (items_at pool ids)).size ∷ [])

      front_of : (ids : List ℕ) → IsRow pool (Some id) ids → (older : List ℕ) × (sizes_back (bounds e.item) ≡ Front ids ++ older)
      front_of ids row =
          let found = row_newest pool marked id e is base same ids row in
          (found.0, found.1 ∙ sym (append_assoc (Tips (items_at pool ids)) ((last_base bounds base (items_at pool ids)).size ∷ []) found.0))

      front_count : (ids : List ℕ) → length (Front ids) ≡ length (items_at pool ids) + 1
      front_count ids = length-append (Tips (items_at pool ids)) ((last_base bounds base (items_at pool ids)).size ∷ []) ∙ ap (λ n. n + 1) (Tips_count (items_at pool ids))

      reached : (older : List ℕ) × (sizes_back (bounds e.item) ≡ Front all ++ older)
      reached = front_of all (row_of_reach pool all (Some id) reach)

      behind : sizes_behind made ≡ Front all
      behind = rw (ancestors_are, db_is) refl

      above : AllByRecursion (λ n. n ≤ made.tip.size) (sizes_back (bounds e.item))
      above =
          let m = marked id e is in
          (omega (arith, same, tip), all_weaker (λ n. n ≤ (bounds e.item).tip.size) (λ n. n ≤ made.tip.size) (λ n le. omega (arith, le, same, tip)) (sizes_behind (bounds e.item)) m.back.0)

      back : NeverRise (sizes_back made)
      back =
          let m = marked id e is in
          let lower = all_front (λ n. n ≤ made.tip.size) (Front all) reached.0 (subst (AllByRecursion (λ n. n ≤ made.tip.size)) reached.1 above) in
          let falls = rises_front (Front all) reached.0 (subst NeverRise reached.1 m.back) in
          subst (λ ns. NeverRise (made.tip.size ∷ ns)) (sym behind) (lower, falls)

      row : (ids : List ℕ) → IsRow pool (Some id) ids → (older : List ℕ) × (sizes_behind made ≡ Tips (items_at pool ids) ++ ((last_base bounds made.base (items_at pool ids)).size ∷ older))
      row ids r =
          let mine = front_of ids r in
          let fewer = row_within pool ids all (Some id) r reach in
          let front = front_in (Front all) (Front ids) reached.0 mine.0 (sym reached.1 ∙ mine.1) (omega (arith, fewer, front_count all, front_count ids)) in
          let told : sizes_behind made ≡ Tips (items_at pool ids) ++ ((last_base bounds base (items_at pool ids)).size ∷ front.0) =
          behind ∙ front.1 ∙ append_assoc (Tips (items_at pool ids)) ((last_base bounds base (items_at pool ids)).size ∷ []) front.0 in
          (front.0, subst (λ c. sizes_behind made ≡ Tips (items_at pool ids) ++ ((last_base bounds c (items_at pool ids)).size ∷ front.0)) (sym base_is) told)

      marked_on : IsMarkedAt bounds pool (Some id) made
      marked_on = record { drawn = λ p at. let lt = alive_drawn pool id e is in omega (arith, lt, same_Some id p at); back = back; row = row }

    module _ (below : ℕ) (place : Place F D) (db : made.db ≡ place.boundary) (ancestors : made.ancestors ≡ place.ancestors) where
      marked_in : (parent : Option ℕ) → IsPlaceOf bounds pool parent base below place → ForSome parent (IsAlive pool) → ((p : T) → linked_item pool parent ≡ Some p → base.size ≡ (bounds p).tip.size) → IsMarkedAt bounds pool parent made
      marked_in None at alive same =
          let ids : items_at pool at.reach.ids ≡ [] = ap (items_at pool) at.reach.reach in
          let none : made.ancestors ≡ [] = ancestors ∙ at.reach.tips_are ∙ ap (map (λ (c : T). (bounds c).tip)) ids in
          let oldest : at.oldest ≡ None = at.reach.oldest_is ∙ ap (oldest_in bounds) ids in
          let boundary : place.boundary ≡ base = at.boundary ∙ ap (later_state base) oldest in
          marked_alone pool made none (db ∙ boundary ∙ sym base_is) (rw base_is tip)
      marked_in (Some id) at alive same =
          let held = alive_held (slot_at pool id) (alive id refl) in
          let e = held.0 in
          let is = held.1 in
          let all = at.reach.ids in
          let tip_is = same e.item (item_of pool id e is) in
          let items = reach_first pool marked id e is all at.reach.reach in
          let o = last_base bounds base (items_at pool all) in
          let oldest : at.oldest ≡ Some o = at.reach.oldest_is ∙ ap (oldest_in bounds) items.1 ∙ oldest_last e.item items.0 ∙ ap (λ cs. Some (last_base bounds base cs)) (sym items.1) in
          let found = row_newest pool marked id e is base tip_is all (row_of_reach pool all (Some id) at.reach.reach) in
          let least = least_last ((bounds e.item).tip.size ∷ sizes (bounds e.item).ancestors) (bounds e.item).db.size (marked id e is).back in
          let low : (bounds e.item).db.size ≤ o.size = at_seam (λ n. (bounds e.item).db.size ≤ n) (Tips (items_at pool all)) found.0 o.size (subst (AllByRecursion (λ n. (bounds e.item).db.size ≤ n)) found.1 least) in
          let inherited : inherited_state bounds pool (Some id) base ≡ (bounds e.item).db = ap (λ o. option_map_or (λ (c : T). (bounds c).db) o base) (item_of pool id e is) in
          let boundary : place.boundary.size ≡ o.size =
          ap (λ (c : Commitment F D). c.size) (at.boundary ∙ ap (λ c. later_state c at.oldest) inherited ∙ ap (later_state (bounds e.item).db) oldest)
          ∙ later_size (bounds e.item).db (Some o) ∙ later_than (bounds e.item).db.size o.size low in
          marked_on id e is tip_is all at.reach.reach (ancestors ∙ at.reach.tips_are) (ap (λ (c : Commitment F D). c.size) db ∙ boundary)

  pub marked_sealed : (bytes : D → List ℕ) (pool : List (Option (HeldBatch T))) (b : Sealing F D) (current : Commitment F D) (below floor : ℕ) (made : Bounds F D) → AreMarked bounds pool
      → ForSome b.parent (IsAlive pool) → b.base.size ≤ b.size → ((p : T) → linked_item pool b.parent ≡ Some p → b.base.size ≡ (bounds p).tip.size)
      → IsSealedAt bounds bytes pool b current below floor made → IsMarkedAt bounds pool b.parent made
  marked_sealed bytes pool b current below floor made marked alive le same sealed =
      marked_in pool marked b.base made sealed.base (omega (arith, le, sealed.size)) below sealed.place sealed.db sealed.ancestors b.parent sealed.place_of alive same
