-- What a proof and the items rebuild, and when that is a root.
use Rattle.std.specs.Prelude.{◌≡◌, ℕ, zero, suc, ◌+◌, ◌-◌, ◌^◌, ◌<◌, ◌≤◌, List, [], ◌∷◌, length, Option, Some, None, slice_index_or, if◌then◌else◌}
use Rattle.std.specs.Option.{option_and_then, option_map}
use Rattle.tree_shape.specs.declared.bagging.Bagging.{Bagging}
use Rattle.tree_shape.specs.Hashing.{Hashing, node_input}
use Rattle.tree_shape.specs.Shape.{Shape, peaks}
use Rattle.tree_shape.specs.Slow.{leaf}
use Rattle.tree_shape.specs.Root.{root_over}
use Rattle.tree_proof.specs.declared.proof.Proof.{Proof}
use Rattle.tree_proof.specs.Cover.{Opened, meets}

-- the first of the digests that are left
abbrev pub next_of : {D : Type 0} → List D → Option (D × List D)
next_of [] = None
next_of (d ∷ ds) = Some (d, ds)

-- a parent over what its halves give
abbrev pub joined_by : {D : Type 0} → Shape → Hashing D → ℕ → ℕ → D → D × List D → Option (D × List D)
joined_by s h x k left right = Some (h.digest (node_input h (s.position x (suc k)) left right.0), right.1)

-- a node, and the digests that are left: a leaf that is met is what `leaf_of` says, a node that isn't met is the next
-- digest
unfoldable pub rebuilt : {D : Type 0} → Shape → Hashing D → Opened → (ℕ → D) → ℕ → ℕ → List D → Option (D × List D)
rebuilt s h met leaf_of x zero ds = if met x 0 then Some (leaf_of x, ds) else next_of ds
rebuilt s h met leaf_of x (suc k) ds =
    if met x (suc k)
    then option_and_then (λ left. option_and_then (λ right. joined_by s h x k left.0 right)
    (rebuilt s h met leaf_of (x + 2 ^ k) k left.1)) (rebuilt s h met leaf_of x k ds)
    else next_of ds

-- one node behind another
abbrev pub before : {D : Type 0} → D → List D × List D → Option (List D × List D)
before d rest = Some (d ∷ rest.0, rest.1)

-- these nodes, and the digests that are left
unfoldable pub rebuilt_over : {D : Type 0} → Shape → Hashing D → Opened → (ℕ → D) → List (ℕ × ℕ) → List D →
    Option (List D × List D)
rebuilt_over s h met leaf_of [] ds = Some ([], ds)
rebuilt_over s h met leaf_of (p ∷ ps) ds =
    option_and_then (λ first. option_and_then (before first.0) (rebuilt_over s h met leaf_of ps first.1))
    (rebuilt s h met leaf_of p.0 p.1 ds)

-- the digest of leaf x, of its position and its item, where the items stand from leaf a on
abbrev pub item_leaf : {D : Type 0} → Shape → Hashing D → ℕ → List (List ℕ) → ℕ → D
item_leaf s h a items x = leaf s h x (slice_index_or items (x - a) [])

-- nothing may be left
abbrev pub all_used : {D : Type 0} → List D → List D → Option (List D)
all_used ds [] = Some ds
all_used ds (e ∷ es) = None

-- these nodes, rebuilt with all of the digests
abbrev pub wholly_rebuilt : {D : Type 0} → Shape → Hashing D → Opened → (ℕ → D) → List (ℕ × ℕ) → List D →
    Option (List D)
wholly_rebuilt s h met leaf_of ps ds = option_and_then (λ r. all_used r.0 r.1) (rebuilt_over s h met leaf_of ps ds)

-- the root over the peaks of the proof's leaves, rebuilt from its digests and the items from leaf a on
abbrev pub rebuilt_root : {F D : Type 0} → Shape → Hashing D → Bagging → Proof F D → ℕ → List (List ℕ) → Option D
rebuilt_root s h b proof a items =
    option_map (λ ds. root_over h proof.leaves ds proof.inactive_peaks b)
    (wholly_rebuilt s h (meets a (a + length items)) (item_leaf s h a items) (peaks s proof.leaves) proof.digests)

-- there are items, they stand in a tree of the proof's leaves, and that has this many peaks
pub record IsInBounds {F D : Type 0} (s : Shape) (proof : Proof F D) (a count : ℕ) : Type 0 where
  pub some : 0 < count
  pub few : proof.leaves ≤ 2 ^ 62
  pub within : a + count ≤ proof.leaves
  pub inactive : proof.inactive_peaks ≤ length (s.heights proof.leaves)

-- the proof shows that the items stand from leaf a on in the tree with this root
pub record Checks {F D : Type 0} (s : Shape) (h : Hashing D) (b : Bagging) (proof : Proof F D) (a : ℕ)
    (items : List (List ℕ)) (root : D) : Type 0 where
  pub bounds : IsInBounds s proof a (length items)
  pub same_root : rebuilt_root s h b proof a items ≡ Some root
