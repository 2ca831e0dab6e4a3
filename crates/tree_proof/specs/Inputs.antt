-- What is hashed in a tree and in the check of a proof, and two inputs with one digest.
use Rattle.std.specs.Prelude.{◌≡◌, ◌⊎◌, ℕ, zero, suc, ◌+◌, ◌-◌, ◌^◌, List, [], ◌∷◌, ◌++◌, length, map, take, drop, Option, Some, None, slice_index_or, slice_range, if◌then◌else◌}
use Rattle.std.specs.List.{Contains, flat_map}
use Rattle.tree_shape.specs.declared.bagging.Bagging.{Bagging}
use Rattle.tree_shape.specs.declared.bagging.Bagging.TheVariants.{ForwardFold, BackwardFold}
use Rattle.tree_shape.specs.Hashing.{Hashing, leaf_input, node_input, fold_input}
use Rattle.tree_shape.specs.Shape.{Shape, peaks}
use Rattle.tree_shape.specs.Slow.{leaf, leaf_digests, node, node_of}
use Rattle.tree_shape.specs.Root.{fold_forward, fold_backward, folded_bytes, root_input}
use Rattle.tree_proof.specs.declared.proof.Proof.{Proof}
use Rattle.tree_proof.specs.Cover.{Opened, meets}
use Rattle.tree_proof.specs.Check.{rebuilt, wholly_rebuilt, item_leaf}
use Rattle.tree_proof.specs.Pinned.{above_pins, left_cover}

-- two different members of these with one digest
pub record Clash {D : Type 0} (h : Hashing D) (inputs : List (List ℕ)) : Type 0 where
  pub first : List ℕ
  pub second : List ℕ
  pub has_first : Contains inputs first
  pub has_second : Contains inputs second
  pub differ : first ≡ second → ⊥
  pub same_digest : h.digest first ≡ h.digest second

-- ---- folds and root

module _ {D : Type 0} (h : Hashing D) where
  abbrev pub forward_inputs : D → List D → List (List ℕ)
  forward_inputs p [] = []
  forward_inputs p (q ∷ qs) = fold_input h p q ∷ forward_inputs (h.digest (fold_input h p q)) qs

  abbrev pub backward_inputs : D → List D → List (List ℕ)
  backward_inputs p [] = []
  backward_inputs p (q ∷ qs) = fold_input h p (fold_backward h q qs) ∷ backward_inputs q qs

  abbrev pub bagged_inputs : Bagging → D → List D → List (List ℕ)
  bagged_inputs ForwardFold p ps = forward_inputs p ps
  bagged_inputs BackwardFold p ps = backward_inputs p ps

  -- of the peaks folded to one, the first k of them first
  abbrev pub fold_inputs : Bagging → ℕ → List D → List (List ℕ)
  fold_inputs b k [] = []
  fold_inputs b zero (p ∷ ps) = bagged_inputs b p ps
  fold_inputs b (suc k) (p ∷ ps) =
      forward_inputs p (take k ps) ++ bagged_inputs b (fold_forward h p (take k ps)) (drop k ps)

  abbrev pub root_inputs : ℕ → ℕ → Bagging → List D → List (List ℕ)
  root_inputs n k b ps = root_input n k b (folded_bytes h b k ps) ∷ fold_inputs b k ps

module _ {D : Type 0} (s : Shape) (h : Hashing D) where
  -- ---- a tree of elements

  -- the input of leaf x, of its position and its bytes
  abbrev pub input_of : (ℕ → List ℕ) → ℕ → List ℕ
  input_of item x = leaf_input (s.position x 0) (item x)

  abbrev pub element_of : List (List ℕ) → ℕ → List ℕ
  element_of elements x = slice_index_or elements x []

  -- under one node, the node's first
  unfoldable pub slow_inputs : List (List ℕ) → ℕ → ℕ → List (List ℕ)
  slow_inputs elements x zero = input_of (element_of elements) x ∷ []
  slow_inputs elements x (suc k) =
      let leaves = leaf_digests s h elements in
      node_input h (s.position x (suc k)) (node s h leaves x k) (node s h leaves (x + 2 ^ k) k)
      ∷ (slow_inputs elements x k ++ slow_inputs elements (x + 2 ^ k) k)

  -- all inputs of the elements' tree: leaves, nodes, folds and root
  abbrev pub tree_inputs : List (List ℕ) → ℕ → Bagging → List (List ℕ)
  tree_inputs elements k b =
      flat_map (λ p. slow_inputs elements p.0 p.1) (peaks s (length elements))
      ++ root_inputs h (length elements) k b (map (node_of s h (leaf_digests s h elements)) (peaks s (length elements)))

  -- ---- a proof

  -- the digest of leaf x
  abbrev pub leaf_by : (ℕ → List ℕ) → ℕ → D
  leaf_by item x = leaf s h x (item x)

  abbrev pub from_some : {A : Type 0} → (A → List (List ℕ)) → Option A → List (List ℕ)
  from_some f None = []
  from_some f (Some x) = f x

  -- in rebuilding one node from these digests, the node's last
  unfoldable pub rebuilt_inputs : Opened → (ℕ → List ℕ) → ℕ → ℕ → List D → List (List ℕ)
  rebuilt_inputs met item x zero ds = if met x 0 then (input_of item x ∷ []) else []
  rebuilt_inputs met item x (suc k) ds =
      if met x (suc k)
      then (rebuilt_inputs met item x k ds
      ++ from_some (λ left. rebuilt_inputs met item (x + 2 ^ k) k left.1
      ++ from_some (λ right. node_input h (s.position x (suc k)) left.0 right.0 ∷ [])
      (rebuilt s h met (leaf_by item) (x + 2 ^ k) k left.1)) (rebuilt s h met (leaf_by item) x k ds))
      else []

  -- in rebuilding these nodes one after another
  unfoldable pub rebuilt_over_inputs : Opened → (ℕ → List ℕ) → List (ℕ × ℕ) → List D → List (List ℕ)
  rebuilt_over_inputs met item [] ds = []
  rebuilt_over_inputs met item (p ∷ ps) ds =
      rebuilt_inputs met item p.0 p.1 ds
      ++ from_some (λ first. rebuilt_over_inputs met item ps first.1) (rebuilt s h met (leaf_by item) p.0 p.1 ds)

  -- the item of leaf x, where the items stand from leaf a on
  abbrev pub item_of : ℕ → List (List ℕ) → ℕ → List ℕ
  item_of a items x = slice_index_or items (x - a) []

  -- all inputs of the check of a proof for the items from leaf a on
  abbrev pub proof_inputs : {F : Type 0} → Bagging → Proof F D → ℕ → List (List ℕ) → List (List ℕ)
  proof_inputs b proof a items =
      rebuilt_over_inputs (meets a (a + length items)) (item_of a items) (peaks s proof.leaves) proof.digests
      ++ from_some (root_inputs h proof.leaves proof.inactive_peaks b)
      (wholly_rebuilt s h (meets a (a + length items)) (item_leaf s h a items) (peaks s proof.leaves) proof.digests)

  -- all inputs by which pins are hashed up to the nodes of the cover left of leaf a
  abbrev pub pin_inputs : {F : Type 0} → Proof F D → ℕ → ℕ → List D → List (List ℕ)
  pin_inputs proof a count pins = rebuilt_over_inputs (above_pins s a) (λ x. []) (left_cover s proof a count) pins

-- the items stand from leaf a on among the elements of a tree with so many inactive peaks, or two inputs of the tree and of
-- the proof's check clash
abbrev pub ShowsElements : {F D : Type 0} → Shape → Hashing D → Bagging → List (List ℕ) → ℕ → Proof F D → ℕ →
    List (List ℕ) → Type 0
ShowsElements s h b elements k proof a items =
    (items ≡ slice_range elements a (a + length items))
    ⊎ Clash h (tree_inputs s h elements k b ++ proof_inputs s h b proof a items)

-- the pins are the peaks of the first a elements, or two inputs of the tree, of the proof's check and of the pins clash
abbrev pub ShowsPins : {F D : Type 0} → Shape → Hashing D → Bagging → List (List ℕ) → ℕ → Proof F D → ℕ →
    List (List ℕ) → List D → Type 0
ShowsPins s h b elements k proof a items pins =
    let inputs = proof_inputs s h b proof a items ++ pin_inputs s h proof a (length items) pins in
    (pins ≡ map (node_of s h (leaf_digests s h elements)) (peaks s a))
    ⊎ Clash h (tree_inputs s h elements k b ++ inputs)
