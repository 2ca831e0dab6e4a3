-- The sizes at which a chain of batches has marks: where a batch begins, and so where a log may take what stands behind.
use Rattle.std.specs.Prelude.{◌≡◌, ℕ, List, [], ◌∷◌, ◌++◌, reverse, Option, Some, None}
use Rattle.chain_core.specs.Reached.{linked_item, one_or_none, Reaches}
use Rattle.chain_core.specs.States.{sizes}
use Rattle.chain_core.specs.declared.bounds.Bounds.{Bounds}
use Rattle.chain_core.specs.declared.commitment.Commitment.{Commitment}
use Rattle.chain_core.specs.declared.pool.HeldBatch.{HeldBatch}

module _ {F D : Type 0} where
  -- The marks of a sealed batch's chain, the oldest first: where the chain began, and the tips of the ancestors.
  abbrev pub marks_of : Bounds F D → List ℕ
  marks_of b = b.db.size ∷ reverse (sizes b.ancestors)

  -- The sizes of its states, the newest first.
  abbrev pub sizes_back : Bounds F D → List ℕ
  sizes_back b = b.tip.size ∷ (sizes b.ancestors ++ (b.db.size ∷ []))

module _ {T F D : Type 0} (bounds : T → Bounds F D) (pool : List (Option (HeldBatch T))) (parent : Option ℕ) where
  -- What is reached from this parent has the newest of the parent's sizes: its tips, and the base of its oldest.
  pub record ReachesNewest (b : T) (tips : List (Commitment F D)) (oldest : Option (Commitment F D)) : Type 0 where
    pub older : List ℕ
    pub split : sizes_back (bounds b) ≡ sizes tips ++ (sizes (one_or_none oldest) ++ older)

  -- A batch that is to be sealed stands on this parent and base, and has these marks: without a parent none, and on one that is alive
  -- the parent's, at the parent's tip.
  pub record IsMarkedOn (base : Commitment F D) (marks : List ℕ) : Type 0 where
    pub none : parent ≡ None → marks ≡ []
    pub own : (b : T) → linked_item pool parent ≡ Some b → marks ≡ marks_of (bounds b)
    pub base_is : (b : T) → linked_item pool parent ≡ Some b → base.size ≡ (bounds b).tip.size
    pub reached : (b : T) → linked_item pool parent ≡ Some b → (tips : List (Commitment F D)) (oldest : Option (Commitment F D))
        → Reaches bounds pool parent tips oldest → ReachesNewest b tips oldest
