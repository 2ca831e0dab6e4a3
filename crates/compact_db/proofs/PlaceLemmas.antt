-- The states of a batch that is sealed in its place.
use Rattle.std.proofs.Common.{◌≡◌, ℕ, ◌+◌, ◌^◌, ◌≤◌, List, [], ◌∷◌, ◌++◌, length, map, drop, Option, Some, None, refl, sym, ◌∙◌, ap, subst, append_assoc, arith, inr}
use Rattle.std.specs.Prelude.{IsSome, IfSome}
use Rattle.std.specs.List.{AllByRecursion}
use Rattle.std.specs.Option.{option_map_or}
use Rattle.std.proofs.Math.Seq.{drop-append_seam}
use Rattle.std.proofs.lemmas.List.{length-append}
use Rattle.tree_shape.specs.Hashing.{Hashing}
use Rattle.tree_shape.specs.Shape.{Shape}
use Rattle.tree_core.specs.Batches.{Sealed, IsSealedOf}
use Rattle.log_model.specs.Meaning.{Meaning}
use Rattle.log_model.specs.Operations.{floor_of, leaves_from, root_of}
use Rattle.log_model.specs.Good.{EndsWithCommit}
use Rattle.chain_core.specs.Reached.{items_at, linked_item, oldest_in, inherited_state}
use Rattle.chain_core.specs.Sealing.{place_refusal, refusal_of, is_at}
use Rattle.chain_core.specs.States.{IsStateIn, AreStatesIn}
use Rattle.chain_core.specs.declared.commitment.Commitment.{Commitment}
use Rattle.chain_core.specs.declared.error.Error.{Error}
use Rattle.chain_core.specs.declared.place.Place.{Place}
use Rattle.chain_core.specs.declared.pool.HeldBatch.{HeldBatch}
use Rattle.chain_core.proofs.StateLemmas.{whole, state_of_front, state_longer, states_longer, later_in}
use Rattle.compact_db.specs.Batches.{UnmerkleizedView, MerkleizedView, bounds_of, IsUnmerkleizedOf, IsMerkleizedOf, StandsIn, IsPoolOf, IsSealedBy}
use Rattle.compact_db.specs.Sealing.{IsEnded, HasPlace, WhyNotSealed}
use Rattle.compact_db.proofs.SealLemmas.{room, ends_last, floor_last}

state_is : {F D : Type 0} (c : Commitment F D) (n : ℕ) (r : D) → c.size ≡ n → c.root ≡ r → c ≡ record { size = n; root = r }
state_is c n r p q i = record { size = p i; root = q i }

-- the refusal of a place is the error's
pub told_by : {F D Op : Type 0} (bytes : D → List ℕ) (pool : List (Option (HeldBatch (MerkleizedView F D Op)))) (b : UnmerkleizedView F D Op)
    (current : Commitment F D) (below floor size fl : ℕ) (place : Place F D) (e : Error F) → HasPlace pool b below place
    → size ≡ b.base.size + length b.pending → fl ≡ floor
    → IsSome (place_refusal bytes place current size fl) × (refusal_of e ≡ place_refusal bytes place current size fl)
    → WhyNotSealed bytes pool b current below floor e
told_by bytes pool b current below floor size fl place e at size_is floor_is why =
    let here : place_refusal bytes place current (b.base.size + length b.pending) floor ≡ refusal_of e =
    rw (← size_is, ← floor_is) (sym why.1) in
    inr (subst (λ o. IsSome o) (sym why.1) why.0, record { place = place; place_of = at; why_is = here })

-- where it says nothing against a size and a floor, it says nothing against the same
pub may_here : {F D : Type 0} (bytes : D → List ℕ) (current : Commitment F D) (place : Place F D) (size n fl floor : ℕ) → size ≡ n → fl ≡ floor
    → place_refusal bytes place current size fl ≡ None → place_refusal bytes place current n floor ≡ None
may_here bytes current place size n fl floor p q may = rw (← p, ← q) may

module _ {F D Op V : Type 0} (s : Shape) (h : Hashing D) (m : Meaning Op V) (list : List Op) where
  abbrev In : Commitment F D → Type 0
  In c = IsStateIn s h m list c

  inherited_in : (o : Option (MerkleizedView F D Op)) (base : Commitment F D) → ((b : (MerkleizedView F D Op)) → o ≡ Some b → In b.bounds.db) → In base
      → In (option_map_or (λ (b : (MerkleizedView F D Op)). b.bounds.db) o base)
  inherited_in None base told k = k
  inherited_in (Some b) base told k = told b refl

  oldest_in_list : (items : List (MerkleizedView F D Op)) → AllByRecursion (StandsIn s h m list) items → IfSome (oldest_in bounds_of items) In
  oldest_in_list [] all = tt
  oldest_in_list (b ∷ []) all = all.0.0
  oldest_in_list (b ∷ next ∷ items) all = oldest_in_list (next ∷ items) all.1

  tips_in_list : (items : List (MerkleizedView F D Op)) → AllByRecursion (StandsIn s h m list) items
      → AreStatesIn s h m list (map (λ (b : (MerkleizedView F D Op)). b.bounds.tip) items)
  tips_in_list [] all = tt
  tips_in_list (b ∷ items) all = (all.0.1, tips_in_list items all.1)

  module _ (pool : List (Option (HeldBatch (MerkleizedView F D Op)))) (v : UnmerkleizedView F D Op) (below : ℕ) (place : Place F D) (at : HasPlace pool v below place)
      (of : IsUnmerkleizedOf s h m list v) (chain : IsPoolOf s h m pool v.parent list) where
    base_in : In v.base
    base_in = subst In (sym of.base) (state_of_front s h m list list (whole list))

    reached : AllByRecursion (StandsIn s h m list) (items_at pool at.reach.ids)
    reached = chain.reached at.reach.ids at.reach.reach

    boundary_in : In place.boundary
    boundary_in =
        let oldest : IfSome at.oldest In = subst (λ o. IfSome o In) (sym at.reach.oldest_is) (oldest_in_list _ reached) in
        subst In (sym at.boundary)
        (later_in s h m list (inherited_state bounds_of pool v.parent v.base) at.oldest
        (inherited_in (linked_item pool v.parent) v.base chain.boundary base_in) oldest)

    tips_in : AreStatesIn s h m list place.ancestors
    tips_in = subst (AreStatesIn s h m list) (sym at.reach.tips_are) (tips_in_list _ reached)

    module _ (bytes : D → List ℕ) (current : Commitment F D) (size fl floor : ℕ) (may : place_refusal bytes place current size fl ≡ None)
        (size_is : size ≡ v.base.size + length v.pending) (ops : List Op) (metadata : Option V) (ended : IsEnded m v.pending metadata floor ops)
        (t : Sealed D) (tip : Commitment F D) (tip_size : tip.size ≡ size + 1)
        (tree_is : IsSealedOf s h (leaves_from s h m 0 (list ++ ops)) t)
        (root_is : floor ≡ floor_of m (list ++ ops) → tip.root ≡ root_of s h m (list ++ ops)) where
      last : list ++ ops ≡ (list ++ v.pending) ++ (ended.commit ∷ [])
      last = ap (λ os. list ++ os) ended.ended ∙ sym (append_assoc list v.pending (ended.commit ∷ []))

      floor_here : floor ≡ floor_of m (list ++ ops)
      floor_here = sym (ap (floor_of m) last ∙ floor_last m (list ++ v.pending) ended.commit floor ended.floored)

      base_size : v.base.size ≡ length list
      base_size = ap (λ (c : Commitment F D). c.size) of.base

      count : tip.size ≡ length (list ++ ops)
      count =
          let own : length ops ≡ length v.pending + 1 = ap length ended.ended ∙ length-append v.pending (ended.commit ∷ []) in
          omega (arith, tip_size, size_is, base_size, own, length-append list ops)

      few : length (list ++ ops) ≤ 2 ^ 62
      few = let most = room (is_at bytes current (place.boundary ∷ place.ancestors)) size place.floor fl may in omega (arith, most, count, tip_size)

      abbrev Made : MerkleizedView F D Op
      Made = record {
        tree = t;
        operations = ops;
        bounds = record {
          base = v.base;
          db = place.boundary;
          tip = tip;
          ancestors = place.ancestors;
          inactivity_floor = floor;
        };
      }

      made_of : IsMerkleizedOf s h m (list ++ ops) Made
      made_of = record {
        ends = subst (EndsWithCommit m) (sym last)
            (ends_last m (list ++ v.pending) ended.commit (subst (λ o. IsSome o) (sym ended.floored) refl));
        few = few;
        batch = record {
          bounds = record {
            base = state_longer s h m list ops v.base base_in;
            db = state_longer s h m list ops place.boundary boundary_in;
            ancestors = states_longer s h m list ops place.ancestors tips_in;
            tip = state_is tip (length (list ++ ops)) (root_of s h m (list ++ ops)) count (root_is floor_here);
          };
          floor = floor_here;
          own = sym (ap (λ n. drop n (list ++ ops)) base_size ∙ drop-append_seam list ops);
        };
        tree = tree_is;
      }

      sealed_by : IsSealedBy s h m list v.pending metadata floor Made
      sealed_by = record {
        commit = ended.commit;
        floored = ended.floored;
        valued = ended.valued;
        own = ended.ended;
        list_is = subst (λ (os : List Op). IsMerkleizedOf s h m (list ++ os) Made) ended.ended made_of;
      }

      pub sealed_with : (base : Commitment F D) (own : List Op) → base ≡ v.base → own ≡ ops
          → IsSealedBy s h m list v.pending metadata floor (record {
            tree = t;
            operations = own;
            bounds = record {
              base = base;
              db = place.boundary;
              tip = tip;
              ancestors = place.ancestors;
              inactivity_floor = floor;
            };
          })
      sealed_with base own p q = rw (p, q) sealed_by
