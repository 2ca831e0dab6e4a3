-- A tree in memory, as contracts see it.
use Rattle.std.specs.Prelude.{◌≡◌, ℕ, ◌+◌, ◌-◌, ◌^◌, ◌<◌, ◌≤◌, min, List, [], ◌++◌, length, Option, None, Result, Ok, Err, slice_get, is_some, false, nat_le, Bool, ◌||◌, if◌then◌else◌}
use Rattle.tree_shape.specs.Hashing.{Hashing}
use Rattle.tree_shape.specs.Shape.{Shape, made}
use Rattle.tree_store.specs.declared.error.Error.{Error}
use Rattle.tree_store.specs.declared.error.Error.TheVariants.{LocationOverflow, LeafOutOfBounds, InvalidPinnedNodes, MissingNode, Memory}
use Rattle.tree_shape.specs.Sizes.{HasSize}
use Rattle.tree_core.specs.Pruned.{IsPruned, is_peak_at, keeps, pruned, Extends}
use Rattle.tree_store.specs.Stores.{IsTreeOf}
use Rattle.tree_core.specs.Reading.{ArePeaks}
use Rattle.tree_core.specs.KeptNodes.{entry_at, placed, AreBefore, HasRoom}

-- the number of leaves, where it is pruned, and the kept nodes with their positions
pub record Tree (D : Type 0) : Type 0 where
  pub leaves : ℕ
  pub boundary : ℕ
  pub kept : List (ℕ × D)

-- the node at a position, where it is kept
abbrev pub node_at : {D : Type 0} → Tree D → ℕ → Option D
node_at t p = entry_at t.kept p

-- from the boundary on each node is kept, and each peak of the boundary
pub record IsSound {D : Type 0} (s : Shape) (t : Tree D) : Type 0 where
  pub few : t.leaves ≤ 2 ^ 62
  pub within : t.boundary ≤ t.leaves
  pub held : IsPruned s t.leaves t.boundary (node_at t)

-- a tree whose nodes are these pins and, from its boundary's position on, this run
abbrev pub stored_tree : {D : Type 0} → Shape → ℕ → ℕ → List (ℕ × D) → List D → Tree D
stored_tree s n b pins run = record { leaves = n; boundary = b; kept = pins ++ placed (length (made s b)) run }

-- the pins stand before the boundary's position, in a table of this capacity, which has room for the pins of any prune, and
-- the run ends where the tree does
pub record IsStored {D : Type 0} (s : Shape) (n b capacity : ℕ) (pins : List (ℕ × D)) (run : List D) : Type 0 where
  pub sound : IsSound s (stored_tree s n b pins run)
  pub before : AreBefore (length (made s b)) pins
  pub room : HasRoom (length pins) capacity
  pub ended : length (made s b) + length run ≡ length (made s n)

-- it is the tree of this list of leaf digests: each kept node is the slow node
abbrev pub IsOf : {D : Type 0} → Shape → Hashing D → List D → Tree D → Type 0
IsOf s h all t = IsTreeOf s h all t.leaves (node_at t)

abbrev pub empty_tree : {D : Type 0} → Tree D
empty_tree = record { leaves = 0; boundary = 0; kept = [] }

-- u is t pruned to loc: kept are the nodes at or past its position and its peaks, and no other pin
pub record IsPrunedTo {D : Type 0} (s : Shape) (loc : ℕ) (t u : Tree D) : Type 0 where
  pub leaves : u.leaves ≡ t.leaves
  pub boundary : u.boundary ≡ loc
  pub nodes : (p : ℕ) → node_at u p ≡ pruned s loc (node_at t) p

-- a tree of n leaves at rest keeps this position: a peak of its leaves, or of b leaves
abbrev pub rests : Shape → ℕ → ℕ → ℕ → Bool
rests s n b p = is_peak_at s n (s.heights n) p || is_peak_at s b (s.heights b) p

-- u is t at rest: pruned to its leaves, with the peaks of b leaves that t has
pub record IsRested {D : Type 0} (s : Shape) (b : ℕ) (t u : Tree D) : Type 0 where
  pub leaves : u.leaves ≡ t.leaves
  pub boundary : u.boundary ≡ t.leaves
  pub nodes : (p : ℕ) → node_at u p ≡ (if rests s t.leaves b p then node_at t p else None)

-- whether a tree of n leaves can be pruned to loc
abbrev pub prune_answer : {F : Type 0} → ℕ → ℕ → Result (Unit {0}) (Error F)
prune_answer n loc =
    if nat_le loc n then Ok tt
    else (if nat_le loc (2 ^ 62) then Err (LeafOutOfBounds loc) else Err (LocationOverflow loc))

-- u is t with what later leaves made behind its nodes
pub record IsGrown {D : Type 0} (s : Shape) (later : ℕ) (more : List D) (t u : Tree D) : Type 0 where
  pub leaves : u.leaves ≡ t.leaves + later
  pub boundary : u.boundary ≡ t.boundary
  pub nodes : Extends (node_at t) (node_at u) (length (made s t.leaves)) more

-- t is pruned at b: its nodes from there on are these, the peaks of b leaves, the oldest first, are these pins, and no other
-- node is kept
pub record IsBuilt {D : Type 0} (s : Shape) (b : ℕ) (more pinned : List D) (t : Tree D) : Type 0 where
  pub leaves : HasSize s t.leaves (length (made s b) + length more)
  pub within : b ≤ t.leaves
  pub boundary : t.boundary ≡ b
  pub nodes : (i : ℕ) → node_at t (length (made s b) + i) ≡ slice_get more i
  pub pins : ArePeaks s b (λ x k. node_at t (s.position x k)) pinned
  pub others : (p : ℕ) → keeps s b p ≡ false → node_at t p ≡ None

-- why a tree pruned at b can't be built: b is too great, or its peaks are more or fewer than the pins,
-- or no number of leaves ends where the nodes do, and the first that isn't there is named
abbrev pub NotBuilt : {F : Type 0} → Shape → ℕ → ℕ → ℕ → Error F → Type 0
NotBuilt s b nodes pinned (LocationOverflow loc) = (loc ≡ b) × (2 ^ 62 < b)
NotBuilt s b nodes pinned InvalidPinnedNodes = (b ≤ 2 ^ 62) × (pinned ≡ length (s.heights b) → ⊥)
NotBuilt s b nodes pinned (MissingNode p) =
    (b ≤ 2 ^ 62)
    × (pinned ≡ length (s.heights b))
    × (p ≡ min (length (made s b) + nodes) (2 ^ 64 - 1))
    × ((n : ℕ) → HasSize s n (length (made s b) + nodes) → ⊥)
NotBuilt s b nodes pinned Memory =
    (b ≤ 2 ^ 62) × (pinned ≡ length (s.heights b)) × ((n : ℕ) × HasSize s n (length (made s b) + nodes))
NotBuilt s b nodes pinned _ = ⊥

-- what stands here, or else there
abbrev pub either : {D : Type 0} → Option D → Option D → Option D
either a b = if is_some a then a else b

-- u is t with these pins where it has no node
pub record IsPinned {D : Type 0} (pins : ℕ → Option D) (t u : Tree D) : Type 0 where
  pub leaves : u.leaves ≡ t.leaves
  pub boundary : u.boundary ≡ t.boundary
  pub nodes : (p : ℕ) → node_at u p ≡ either (node_at t p) (pins p)
