-- Batches of items with their nodes, as contracts see them.
use Rattle.std.specs.Prelude.{◌≡◌, ℕ, ◌-◌, List, [], ◌∷◌, ◌++◌, length, map, drop}
use Rattle.std.specs.List.{enumerate_from}
use Rattle.tree_shape.specs.declared.bagging.Bagging.{Bagging}
use Rattle.tree_shape.specs.Hashing.{Hashing}
use Rattle.tree_shape.specs.Shape.{Shape}
use Rattle.tree_shape.specs.Slow.{leaf}
use Rattle.tree_core.specs.Links.{ChainSegment}
use Rattle.tree_core.specs.Batches.{Sealed, Unsealed, IsSealedOf, IsUnsealedOf, IsSealedFrom, IsChildOf, leaf_count, with_digests}
use Rattle.auth_journal.specs.Joined.{leaves_of}

-- a sealed batch: its nodes, how its peaks are folded, and a list of items for each segment of the nodes
pub record SealedItems (D Item : Type 0) : Type 0 where
  pub nodes : Sealed D
  pub bagging : Bagging
  pub items : List (List Item)

-- a batch that still takes items: the same of what it stands on, and its own items
pub record UnsealedItems (D Item : Type 0) : Type 0 where
  pub nodes : Unsealed D
  pub bagging : Bagging
  pub kept : List (List Item)
  pub items : List Item

-- the items of these lists, one list after another
abbrev pub joined_items : {Item : Type 0} → List (List Item) → List Item
joined_items [] = []
joined_items (list ∷ lists) = list ++ joined_items lists

-- how many items the last of the lists has
abbrev pub last_length : {Item : Type 0} → List (List Item) → ℕ
last_length [] = 0
last_length (list ∷ []) = length list
last_length (list ∷ next ∷ lists) = last_length (next ∷ lists)

-- how many items the batch itself has
abbrev pub own_length : {D Item : Type 0} → SealedItems D Item → ℕ
own_length b = last_length b.items

-- each segment has a list with an item for each of its leaves
abbrev pub AreCounted : {D Item : Type 0} → List (ChainSegment D) → List (List Item) → Type 0
AreCounted links lists = map length lists ≡ map (λ g. g.later) links

-- the digests of these elements as the leaves from n on
abbrev pub leaves_from : {D : Type 0} → Shape → Hashing D → ℕ → List (List ℕ) → List D
leaves_from s h n elements = map (λ p. leaf s h p.0 p.1) (enumerate_from n elements)

-- its own leaves are those of its items
pub record IsSoundUnsealedItems {D Item : Type 0} (s : Shape) (h : Hashing D) (spelling : Item → List ℕ) (b : UnsealedItems D Item) : Type 0 where
  pub counted : AreCounted b.nodes.links b.kept
  pub digests : b.nodes.digests ≡ leaves_from s h b.nodes.base (map spelling b.items)

-- a sealed batch of this list of items
pub record IsSealedOfItems {D Item : Type 0} (s : Shape) (h : Hashing D) (spelling : Item → List ℕ) (list : List Item) (b : SealedItems D Item) : Type 0 where
  pub nodes : IsSealedOf s h (leaves_of s h spelling list) b.nodes
  pub items : joined_items b.items ≡ drop b.nodes.first list

-- a batch that goes on from this list of items
pub record IsUnsealedOfItems {D Item : Type 0} (s : Shape) (h : Hashing D) (spelling : Item → List ℕ) (list : List Item) (b : UnsealedItems D Item) : Type 0 where
  pub nodes : IsUnsealedOf s h (leaves_of s h spelling list) b.nodes
  pub items : joined_items b.kept ≡ drop b.nodes.first list

-- the batch with one more item, and its leaf
abbrev pub with_item : {D Item : Type 0} → Shape → Hashing D → (Item → List ℕ) → UnsealedItems D Item → Item → UnsealedItems D Item
with_item s h spelling b item = record {
  nodes = with_digests b.nodes (leaf s h (leaf_count b.nodes) (spelling item) ∷ []);
  bagging = b.bagging;
  kept = b.kept;
  items = b.items ++ item ∷ [];
}

-- the batch sealed, with the newest `reached` lists and its own
pub record AreSealedFrom {D Item : Type 0} (b : UnsealedItems D Item) (reached : ℕ) (c : SealedItems D Item) : Type 0 where
  pub nodes : IsSealedFrom b.nodes reached c.nodes
  pub bagging : c.bagging ≡ b.bagging
  pub items : c.items ≡ drop (length b.kept - reached) b.kept ++ (b.items ∷ [])

-- an empty batch behind a sealed one, with its lists
pub record AreChildOf {D Item : Type 0} (b : SealedItems D Item) (c : UnsealedItems D Item) : Type 0 where
  pub nodes : IsChildOf b.nodes c.nodes
  pub bagging : c.bagging ≡ b.bagging
  pub kept : c.kept ≡ b.items
  pub items : c.items ≡ []
