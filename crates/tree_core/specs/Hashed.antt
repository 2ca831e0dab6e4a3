-- Nodes that are hashed from their halves, whichever list they are of.
use Rattle.std.specs.Prelude.{◌≡◌, ℕ, suc, ◌+◌, ◌^◌, ◌<◌, List, length, Option, Some, slice_get}
use Rattle.tree_shape.specs.Hashing.{Hashing, node_input}
use Rattle.tree_shape.specs.Shape.{Shape, made}
use Rattle.tree_core.specs.Pruned.{made_from, held_at}

-- The i-th node since a mark of b leaves is hashed from its halves over x, each of them a peak of the mark or made since.
pub record IsHashedAt {D : Type 0} (s : Shape) (h : Hashing D) (b : ℕ) (peaks since : List D) (i x k : ℕ) : Type 0 where
  pub left : D
  pub right : D
  pub left_is : held_at s b peaks since x k ≡ Some left
  pub right_is : held_at s b peaks since (x + 2 ^ k) k ≡ Some right
  pub node : slice_get since i ≡ Some (h.digest (node_input h (length (made s b) + i) left right))

-- so is each of them that stands over two others, of those that j leaves make
abbrev pub AreHashed : {D : Type 0} → Shape → Hashing D → ℕ → ℕ → List D → List D → Type 0
AreHashed s h b j peaks since =
    (i x k : ℕ) → i < length since → slice_get (made_from s b j) i ≡ Some (x, suc k) → IsHashedAt s h b peaks since i x k

-- the i-th parent that leaf n makes is hashed from its halves over x, as they are told
pub record IsParentAt {D : Type 0} (s : Shape) (h : Hashing D) (n : ℕ) (told : ℕ → Option D) (i x k : ℕ) : Type 0 where
  pub left : D
  pub right : D
  pub left_is : told (s.position x k) ≡ Some left
  pub right_is : told (s.position (x + 2 ^ k) k) ≡ Some right
  pub node : told (length (made s n) + 1 + i) ≡ Some (h.digest (node_input h (length (made s n) + 1 + i) left right))

-- so is each
abbrev pub HasParents : {D : Type 0} → Shape → Hashing D → ℕ → (ℕ → Option D) → Type 0
HasParents s h n told = (i x k : ℕ) → slice_get (s.parents n) i ≡ Some (x, suc k) → IsParentAt s h n told i x k
