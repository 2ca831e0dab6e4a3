-- The list of a batch that is sealed in its place.
use Rattle.std.proofs.Common.{◌≡◌, ℕ, ◌+◌, ◌^◌, ◌≤◌, List, [], ◌∷◌, ◌++◌, length, Option, Some, None, refl, sym, ◌∙◌, ap, subst, append_assoc, arith}
use Rattle.std.specs.Prelude.{IsSome}
use Rattle.std.proofs.lemmas.List.{length-append}
use Rattle.tree_shape.specs.Hashing.{Hashing}
use Rattle.tree_shape.specs.Shape.{Shape}
use Rattle.auth_journal.specs.Batched.{SealedItems, UnsealedItems, IsSealedOfItems, AreSealedFrom, own_length, with_item}
use Rattle.log_model.specs.Good.{EndsWithCommit}
use Rattle.log_model.specs.Meaning.{Meaning}
use Rattle.log_model.specs.Operations.{floor_of, root_of}
use Rattle.chain_core.specs.Chains.{IsPoolOf}
use Rattle.chain_core.specs.Reached.{IsPlaceOf}
use Rattle.chain_core.specs.Sealing.{place_refusal, is_at}
use Rattle.chain_core.specs.States.{IsStateIn, IsBatchOf}
use Rattle.chain_core.specs.declared.bounds.Bounds.{Bounds}
use Rattle.chain_core.specs.declared.commitment.Commitment.{Commitment}
use Rattle.chain_core.specs.declared.place.Place.{Place}
use Rattle.chain_core.specs.declared.pool.HeldBatch.{HeldBatch}
use Rattle.chain_core.proofs.ChainLemmas.{ends_last, floor_last, seal_room, sealed_bounds}
use Rattle.chain_core.proofs.StateLemmas.{whole, state_of_front}
use Rattle.keyless_db.specs.Batches.{UnmerkleizedView, MerkleizedView, IsSoundUnmerkleized, IsSoundMerkleized, IsUnmerkleizedOf, IsMerkleizedOf, bounds_of, own_items}
use Rattle.keyless_db.proofs.MarkLemmas.{sealed_counted}
use Rattle.keyless_db.proofs.SealLemmas.{own_count, more_items, more_leaves}

module _ {F D Op V : Type 0} (s : Shape) (h : Hashing D) (m : Meaning Op V) (spelling : Op → List ℕ) (list : List Op) (pool : List (Option (HeldBatch (MerkleizedView F D Op))))
    (v : UnmerkleizedView F D Op) (below : ℕ) (place : Place F D) (at : IsPlaceOf bounds_of pool v.parent v.base below place)
    (of : IsUnmerkleizedOf s h m spelling list v) (chain : IsPoolOf bounds_of s h m pool v.parent list)
    (commit : Op) (floor : ℕ) (floored : m.floor commit ≡ Some floor) (bytes : D → List ℕ) (current : Commitment F D) (size fl : ℕ)
    (may : place_refusal bytes place current size fl ≡ None) (size_is : size ≡ v.base.size + length v.tree.items)
    (t : SealedItems D Op) (tip : Commitment F D) (tip_size : tip.size ≡ size + 1)
    (tree_is : IsSealedOfItems s h spelling (list ++ (v.tree.items ++ (commit ∷ []))) t) (own : own_items t ≡ v.tree.items ++ (commit ∷ []))
    (root_is : floor ≡ floor_of m (list ++ (v.tree.items ++ (commit ∷ []))) → tip.root ≡ root_of s h m (list ++ (v.tree.items ++ (commit ∷ [])))) where
  abbrev Ops : List Op
  Ops = v.tree.items ++ (commit ∷ [])

  base_in : IsStateIn s h m list v.base
  base_in = subst (λ (c : Commitment F D). IsStateIn s h m list c) (sym of.base) (state_of_front s h m list list (whole list))

  last : list ++ Ops ≡ (list ++ v.tree.items) ++ (commit ∷ [])
  last = sym (append_assoc list v.tree.items (commit ∷ []))

  floor_here : floor ≡ floor_of m (list ++ Ops)
  floor_here = sym (ap (floor_of m) last ∙ floor_last m (list ++ v.tree.items) commit floor floored)

  base_size : v.base.size ≡ length list
  base_size = ap (λ (c : Commitment F D). c.size) of.base

  count : tip.size ≡ length (list ++ Ops)
  count = omega (arith, tip_size, size_is, base_size, length-append v.tree.items (commit ∷ []), length-append list Ops)

  few : length (list ++ Ops) ≤ 2 ^ 62
  few = let most = seal_room (is_at bytes current (place.boundary ∷ place.ancestors)) size place.floor fl may in omega (arith, most, count, tip_size)

  abbrev Made : MerkleizedView F D Op
  Made = record {
    tree = t;
    bounds = record {
      base = v.base;
      db = place.boundary;
      tip = tip;
      ancestors = place.ancestors;
      inactivity_floor = floor;
    };
  }

  made : IsMerkleizedOf s h m spelling (list ++ Ops) Made
  made = record {
    ends = subst (EndsWithCommit m) (sym last) (ends_last m (list ++ v.tree.items) commit (subst (λ o. IsSome o) (sym floored) refl));
    few = few;
    batch = subst (λ (os : List Op). IsBatchOf s h m (list ++ Ops) os Made.bounds) (sym own)
        (sealed_bounds bounds_of s h m list pool v.parent v.base below place at base_in chain Ops tip floor base_size count (root_is floor_here) floor_here);
    tree = tree_is;
  }

  pub made_with : (base : Commitment F D) → base ≡ v.base → IsMerkleizedOf s h m spelling (list ++ Ops) (record {
    tree = t;
    bounds = record {
      base = base;
      db = place.boundary;
      tip = tip;
      ancestors = place.ancestors;
      inactivity_floor = floor;
    };
  })
  made_with base p = rw p made

-- the batch is sound
pub sound_made : {F D Op : Type 0} (s : Shape) (h : Hashing D) (spelling : Op → List ℕ) (u : UnsealedItems D Op) (base : ℕ) → IsSoundUnmerkleized u base → (op : Op) (reached : ℕ)
    (t : SealedItems D Op) → AreSealedFrom (with_item s h spelling u op) reached t → (bounds : Bounds F D) → bounds.base.size ≡ base
    → bounds.tip.size ≡ base + length u.items + 1 → bounds.tip.size ≤ 2 ^ 62 → IsSoundMerkleized t bounds
sound_made s h spelling u base sound op reached t from bounds base_is tip few =
    let count : own_length t ≡ length u.items + 1 = own_count t _ (u.items ++ (op ∷ [])) from.items ∙ more_items s h spelling u op in
    record {
      tip = omega (arith, from.nodes.leaves, more_leaves s h spelling u op, sound.count, tip);
      few = few;
      own = omega (arith, count, tip, base_is);
      folded = from.bagging ∙ sound.folded;
      counted = sealed_counted s h spelling u op reached t from sound.counted;
      snapshot_db = λ none. absurd (omega (arith, none, count));
      snapshot_ancestors = λ none. absurd (omega (arith, none, count));
    }
