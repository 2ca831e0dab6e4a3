-- The states of a batch that is sealed in its place are those of its list.
use Rattle.std.proofs.Common.{◌≡◌, ℕ, suc, ◌+◌, ◌-◌, ◌^◌, ◌<◌, ◌≤◌, Bool, true, false, cond, List, [], ◌∷◌, ◌++◌, length, map, drop, Option, Some, None, refl, sym, ◌∙◌, ap, subst, arith, inr}
use Rattle.std.specs.Prelude.{IsSome, IfSome, nat_lt, slice_get, Result, Ok}
use Rattle.std.specs.List.{AllByRecursion}
use Rattle.std.specs.Option.{ForSome, option_map_or}
use Rattle.std.proofs.Math.Seq.{drop-append_seam}
use Rattle.std.proofs.lemmas.Bool.Decides.{nat_tests}
use Rattle.std.proofs.lemmas.Option.{none-some}
use Rattle.tree_shape.specs.Hashing.{Hashing}
use Rattle.tree_shape.specs.Shape.{Shape}
use Rattle.log_model.specs.Meaning.{Meaning}
use Rattle.log_model.specs.Operations.{floor_of, root_of}
use Rattle.log_model.specs.Machine.{max_leaves}
use Rattle.log_model.specs.Refusals.{commit_refusal}
use Rattle.log_model.specs.Good.{EndsWithCommit}
use Rattle.log_model.specs.declared.refusal.Refusal.{Refusal}
use Rattle.log_model.proofs.OperationLemmas.{floor_of_append}
use Rattle.chain_core.specs.Chains.{Sealing, WhyUnsealed, StandsIn, IsPoolOf}
use Rattle.chain_core.specs.Reached.{items_at, linked_item, oldest_in, inherited_state, IsPlaceOf}
use Rattle.chain_core.specs.Sealing.{place_refusal, refusal_of}
use Rattle.chain_core.specs.Slots.{IsAlive, link_released, slot_at}
use Rattle.chain_core.specs.States.{IsStateIn, AreStatesIn, IsBatchOf}
use Rattle.chain_core.specs.declared.bounds.Bounds.{Bounds}
use Rattle.chain_core.specs.declared.commitment.Commitment.{Commitment}
use Rattle.chain_core.specs.declared.error.Error.{Error}
use Rattle.chain_core.specs.declared.place.Place.{Place}
use Rattle.chain_core.specs.declared.pool.HeldBatch.{HeldBatch}
use Rattle.chain_core.proofs.PoolLemmas.{alive_held, alive_drawn, released_length}
use Rattle.chain_core.proofs.StateLemmas.{state_longer, states_longer, later_in}

pub state_is : {F D : Type 0} (c : Commitment F D) (n : ℕ) (r : D) → c.size ≡ n → c.root ≡ r → c ≡ record { size = n; root = r }
state_is c n r p q i = record { size = p i; root = q i }

-- ---- why there is room

room-if : (a b : Bool) (x z : Refusal) (y : Option Refusal) → cond a (cond b (Some x) y) (Some z) ≡ None → b ≡ false
room-if true true x z y e = absurd (none-some x (sym e))
room-if true false x z y e = refl
room-if false b x z y e = absurd (none-some z (sym e))

not_above : (m n : ℕ) → nat_lt m n ≡ false → n ≤ m
not_above m n e = grind (arith, nat_tests)

-- a seal that nothing refuses leaves room for its commit
pub seal_room : (stands : Bool) (size below floor : ℕ) → commit_refusal stands size below floor ≡ None → size + 1 ≤ 2 ^ 62
seal_room stands size below floor e = not_above max_leaves (size + 1) (room-if stands (nat_lt max_leaves (size + 1)) _ _ _ e)

-- ---- lists that one more commit ends

module _ {Op V : Type 0} (m : Meaning Op V) where
  pub ends_last : (xs : List Op) (op : Op) → IsSome (m.floor op) → EndsWithCommit m (xs ++ (op ∷ []))
  ends_last [] op is = is
  ends_last (x ∷ []) op is = is
  ends_last (x ∷ y ∷ xs) op is = ends_last (y ∷ xs) op is

  pub floor_last : (xs : List Op) (op : Op) (floor : ℕ) → m.floor op ≡ Some floor → floor_of m (xs ++ (op ∷ [])) ≡ floor
  floor_last xs op floor is = floor_of_append m xs (op ∷ []) (omega arith) ∙ rw is refl

-- ---- the refusal of a place

module _ {T F D : Type 0} (bounds : T → Bounds F D) (bytes : D → List ℕ) (pool : List (Option (HeldBatch T))) where
  -- it is the error's
  pub told_by : (b : Sealing F D) (current : Commitment F D) (below floor size fl : ℕ) (place : Place F D) (e : Error F)
      → IsPlaceOf bounds pool b.parent b.base below place → size ≡ b.size → fl ≡ floor
      → IsSome (place_refusal bytes place current size fl) × (refusal_of e ≡ place_refusal bytes place current size fl)
      → WhyUnsealed bounds bytes pool b current below floor e
  told_by b current below floor size fl place e at size_is floor_is why =
      let here : place_refusal bytes place current b.size floor ≡ refusal_of e = rw (← size_is, ← floor_is) (sym why.1) in
      inr (subst (λ o. IsSome o) (sym why.1) why.0, record { place = place; place_of = at; why_is = here })

-- where it says nothing against a size and a floor, it says nothing against the same
pub may_here : {F D : Type 0} (bytes : D → List ℕ) (current : Commitment F D) (place : Place F D) (size n fl floor : ℕ) → size ≡ n → fl ≡ floor
    → place_refusal bytes place current size fl ≡ None → place_refusal bytes place current n floor ≡ None
may_here bytes current place size n fl floor p q may = rw (← p, ← q) may

-- ---- its states

module _ {T F D Op V : Type 0} (bounds : T → Bounds F D) (s : Shape) (h : Hashing D) (m : Meaning Op V) (list : List Op) where
  abbrev In : Commitment F D → Type 0
  In c = IsStateIn s h m list c

  inherited_in : (o : Option T) (base : Commitment F D) → ((b : T) → o ≡ Some b → In (bounds b).db) → In base
      → In (option_map_or (λ (b : T). (bounds b).db) o base)
  inherited_in None base told k = k
  inherited_in (Some b) base told k = told b refl

  oldest_in_list : (items : List T) → AllByRecursion (StandsIn bounds s h m list) items → IfSome (oldest_in bounds items) In
  oldest_in_list [] all = tt
  oldest_in_list (b ∷ []) all = all.0.0
  oldest_in_list (b ∷ next ∷ items) all = oldest_in_list (next ∷ items) all.1

  tips_in_list : (items : List T) → AllByRecursion (StandsIn bounds s h m list) items → AreStatesIn s h m list (map (λ (b : T). (bounds b).tip) items)
  tips_in_list [] all = tt
  tips_in_list (b ∷ items) all = (all.0.1, tips_in_list items all.1)

  module _ (pool : List (Option (HeldBatch T))) (parent : Option ℕ) (base : Commitment F D) (below : ℕ) (place : Place F D)
      (at : IsPlaceOf bounds pool parent base below place) (base_in : In base) (chain : IsPoolOf bounds s h m pool parent list) where
    reached : AllByRecursion (StandsIn bounds s h m list) (items_at pool at.reach.ids)
    reached = chain.reached at.reach.ids at.reach.reach

    boundary_in : In place.boundary
    boundary_in =
        let oldest : IfSome at.oldest In = subst (λ o. IfSome o In) (sym at.reach.oldest_is) (oldest_in_list _ reached) in
        subst In (sym at.boundary)
        (later_in s h m list (inherited_state bounds pool parent base) at.oldest
        (inherited_in (linked_item pool parent) base chain.boundary base_in) oldest)

    tips_in : AreStatesIn s h m list place.ancestors
    tips_in = subst (AreStatesIn s h m list) (sym at.reach.tips_are) (tips_in_list _ reached)

    -- a batch with these operations behind the list, the last of them a commit of its floor
    pub sealed_bounds : (ops : List Op) (tip : Commitment F D) (floor : ℕ) → base.size ≡ length list → tip.size ≡ length (list ++ ops) → tip.root ≡ root_of s h m (list ++ ops)
        → floor ≡ floor_of m (list ++ ops)
        → IsBatchOf s h m (list ++ ops) ops (record { base = base; db = place.boundary; tip = tip; ancestors = place.ancestors; inactivity_floor = floor })
    sealed_bounds ops tip floor base_size count root_is floor_is = record {
      bounds = record {
        base = state_longer s h m list ops base base_in;
        db = state_longer s h m list ops place.boundary boundary_in;
        ancestors = states_longer s h m list ops place.ancestors tips_in;
        tip = state_is tip (length (list ++ ops)) (root_of s h m (list ++ ops)) count root_is;
      };
      floor = floor_is;
      own = sym (ap (λ n. drop n (list ++ ops)) base_size ∙ drop-append_seam list ops);
    }

-- ---- the last operation of a list

-- the floor of a list is that of its last operation
pub floor_by_last : {Op V : Type 0} (m : Meaning Op V) (ops : List Op) (op : Op) → slice_get ops (length ops - 1) ≡ Some op → floor_of m (op ∷ []) ≡ floor_of m ops
floor_by_last m [] op at = absurd cc
floor_by_last m (x ∷ []) op at = let e : x ≡ op = cc in ap (λ o. floor_of m (o ∷ [])) (sym e)
floor_by_last m (x ∷ y ∷ ops) op at =
    let n : length (x ∷ y ∷ ops) - 1 ≡ suc (length (y ∷ ops) - 1) = omega arith in
    floor_by_last m (y ∷ ops) op (rw n at at)

-- ---- links in a pool

module _ {T : Type 0} (pool : List (Option (HeldBatch T))) where
  pub link_below : (parent link : Option ℕ) → link ≡ parent → ForSome parent (IsAlive pool) → (x : ℕ) → link ≡ Some x → x < length (link_released pool link)
  link_below parent link same alive x is =
      let e = alive_held (slot_at pool x) (alive x (sym same ∙ is)) in
      subst (λ n. x < n) (sym (released_length pool link)) (alive_drawn pool x e.0 e.1)

  -- what is put behind the slots when a link was released
  pub put_is : (new released : List (Option (HeldBatch T))) (link parent : Option ℕ) (item : T)
      → new ≡ released ++ (Some (record { item = item; parent = link; holds = 1 }) ∷ []) → released ≡ link_released pool link → link ≡ parent
      → new ≡ link_released pool parent ++ (Some (record { item = item; parent = parent; holds = 1 }) ∷ [])
  put_is new released link parent item is was same = is ∙ rw (was, same) refl

  pub released_count : (link : Option ℕ) → length (link_released pool link) ≡ length pool
  released_count link = released_length pool link

-- ---- the states of a batch of a database's own state

pub bounds_by : {F D : Type 0} (E : Type 0) (b : Bounds F D) (c d : Commitment F D) (f k : ℕ)
    → (let r : Result (Bounds F D) E = Ok b in r) ≡ Ok (record { base = c; db = c; tip = c; ancestors = []; inactivity_floor = f }) → c ≡ d → f ≡ k
    → b ≡ record { base = d; db = d; tip = d; ancestors = []; inactivity_floor = k }
bounds_by E b c d f k is p q =
    let e : b ≡ record { base = c; db = c; tip = c; ancestors = []; inactivity_floor = f } = cc in e ∙ rw (p, q) refl
