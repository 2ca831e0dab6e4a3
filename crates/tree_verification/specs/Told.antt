-- The nodes of a tree that a proof and its elements tell.
use Rattle.std.specs.Prelude.{◌≡◌, ℕ, zero, suc, ◌+◌, ◌-◌, ◌^◌, ◌==◌, true, min, nat_le, List, [], ◌∷◌, ◌++◌, length, map, All, Option, Some, Result, Ok, Err, if◌then◌else◌}
use Rattle.std.specs.List.{Contains}
use Rattle.std.specs.Map.{lookup}
use Rattle.std.specs.BTreeMap.{is_at}
use Rattle.std.specs.Ordering.{nat_cmp}
use Rattle.tree_shape.specs.Hashing.{Hashing, node_input}
use Rattle.tree_shape.specs.Shape.{Shape, peaks}
use Rattle.tree_proof.specs.declared.proof.Proof.{Proof}
use Rattle.tree_proof.specs.Cover.{Opened, meets, cover}
use Rattle.tree_proof.specs.Check.{item_leaf}
use Rattle.tree_store.specs.declared.error.Error.{Error}
use Rattle.tree_store.specs.declared.error.Error.TheVariants.{Empty, LocationOverflow, RangeOutOfBounds, InvalidPinnedNodes}

-- the nodes that are told inside one node, each behind its halves: those of the cover, and each that is met
unfoldable pub told_in : Opened → ℕ → ℕ → List (ℕ × ℕ)
told_in met x zero = (x, 0) ∷ []
told_in met x (suc k) =
    if met x (suc k)
    then ((told_in met x k ++ told_in met (x + 2 ^ k) k) ++ ((x, suc k) ∷ []))
    else ((x, suc k) ∷ [])

-- inside these nodes, one after another
abbrev pub told_over : Opened → List (ℕ × ℕ) → List (ℕ × ℕ)
told_over met [] = []
told_over met (p ∷ ps) = told_in met p.0 p.1 ++ told_over met ps

-- in a tree of n leaves
abbrev pub told_nodes : Shape → Opened → ℕ → List (ℕ × ℕ)
told_nodes s met n = told_over met (peaks s n)

-- ---- a tree, given as the digest of each node by its first leaf and height

abbrev pub in_tree : {D : Type 0} → (ℕ → ℕ → D) → ℕ × ℕ → D
in_tree tree p = tree p.0 p.1

-- the leaves that are met have these digests, and each node that is met is hashed from its halves
pub record IsHashed {D : Type 0} (s : Shape) (h : Hashing D) (met : Opened) (leaf_of : ℕ → D)
    (tree : ℕ → ℕ → D) : Type 0 where
  pub leaves : (x : ℕ) → met x 0 ≡ true → tree x 0 ≡ leaf_of x
  pub parents : (x k : ℕ) → met x (suc k) ≡ true →
      tree x (suc k) ≡ h.digest (node_input h (s.position x (suc k)) (tree x k) (tree (x + 2 ^ k) k))

-- so it is over the items from leaf a on, and its nodes of the proof's cover have the proof's digests
pub record IsTold {F D : Type 0} (s : Shape) (h : Hashing D) (proof : Proof F D) (a : ℕ) (items : List (List ℕ))
    (tree : ℕ → ℕ → D) : Type 0 where
  pub hashed : IsHashed s h (meets a (a + length items)) (item_leaf s h a items) tree
  pub digests : proof.digests ≡ map (in_tree tree) (cover s (meets a (a + length items)) proof.leaves)

-- ---- its nodes at their positions

abbrev pub entries : {D : Type 0} → Shape → (ℕ → ℕ → D) → List (ℕ × ℕ) → List (ℕ × D)
entries s tree ps = map (λ p. (s.position p.0 p.1, tree p.0 p.1)) ps

-- these are told at their positions, and nothing else is
pub record TellsExactly {D : Type 0} (told : ℕ → Option D) (es : List (ℕ × D)) : Type 0 where
  pub each : All (λ e. told e.0 ≡ Some e.1) es
  pub only : (p : ℕ) (d : D) → told p ≡ Some d → Contains es (p, d)

-- the number of leaves, and nodes with their positions
pub record ToldTree (D : Type 0) : Type 0 where
  pub leaves : ℕ
  pub nodes : List (ℕ × D)

-- the node at a position
abbrev pub told_at : {D : Type 0} → ToldTree D → ℕ → Option D
told_at t p = lookup (is_at (nat_cmp p)) t.nodes

-- whether a proof and so many elements from leaf a on tell the nodes of a tree; the first test that fails answers, and the
-- end of the range is held at 2^64 - 1
abbrev pub told_answer : {F D : Type 0} → Shape → Proof F D → ℕ → ℕ → Result (Unit {0}) (Error F)
told_answer s proof a count =
    let b = min (a + count) (2 ^ 64 - 1) in
    if count == 0 then Err Empty
    else (if nat_le proof.leaves (2 ^ 62) then (if nat_le b proof.leaves then
    (if length proof.digests == length (cover s (meets a b) proof.leaves) then Ok tt else Err InvalidPinnedNodes)
    else Err (RangeOutOfBounds b)) else Err (LocationOverflow proof.leaves))

-- ---- the walk that puts them

-- what stands at p where o did, behind these entries, of which the last counts
abbrev pub found : {D : Type 0} → ℕ → Option D → List (ℕ × D) → Option D
found p o [] = o
found p o (e ∷ es) = found p (if is_at (nat_cmp e.0) p then Some e.1 else o) es

-- the nodes of a tree that are told inside one node were put to the old ones, of the digests the cover inside it was taken,
-- and d is the node's
pub record Puts {D : Type 0} (s : Shape) (met : Opened) (tree : ℕ → ℕ → D) (x k : ℕ) (old new : ℕ → Option D) (d : D)
    (left rest : List D) : Type 0 where
  pub digest : d ≡ tree x k
  pub taken : left ≡ rest
  pub nodes : (p : ℕ) → new p ≡ found p (old p) (entries s tree (told_in met x k))
