-- Segments of a chain of batches, each with the mark before it.
use Rattle.std.specs.Prelude.{◌≡◌, ℕ, ◌+◌, ◌≤◌, List, [], ◌∷◌, ◌++◌, length, map, Some, slice_get, IsSomeAnd}
use Rattle.tree_shape.specs.Hashing.{Hashing}
use Rattle.tree_shape.specs.Shape.{Shape, peaks_down}
use Rattle.tree_core.specs.Pruned.{made_from, peaks_at, nodes_from, held_at}

-- a segment: the mark before it, the number of its leaves, its nodes
pub record ChainSegment (D : Type 0) : Type 0 where
  pub leaves : ℕ
  pub peaks : List D
  pub later : ℕ
  pub nodes : List D

-- a segment of what n leaves go on with
pub record IsNext {D : Type 0} (s : Shape) (n : ℕ) (g : ChainSegment D) : Type 0 where
  pub starts : g.leaves ≡ n
  pub counted : length g.nodes ≡ length (made_from s n g.later)

-- these segments follow one another, from n leaves to m
abbrev pub IsLinked : {D : Type 0} → Shape → ℕ → List (ChainSegment D) → ℕ → Type 0
IsLinked s n [] m = n ≡ m
IsLinked s n (g ∷ gs) m = IsNext s n g × IsLinked s (n + g.later) gs m

-- and are those of this list
abbrev pub IsLinkedOf : {D : Type 0} → Shape → Hashing D → List D → ℕ → List (ChainSegment D) → Type 0
IsLinkedOf s h all n [] = n ≡ length all
IsLinkedOf s h all n (g ∷ gs) =
    (g.leaves ≡ n)
    × (g.peaks ≡ peaks_at s h all n)
    × (g.nodes ≡ nodes_from s h all n g.later)
    × IsLinkedOf s h all (n + g.later) gs

-- the mark behind a segment: so many leaves, and the digests of their peaks, the newest first, each of its nodes or of the
-- mark before it
abbrev pub IsMarkBehind : {D : Type 0} → Shape → ChainSegment D → ℕ → List D → Type 0
IsMarkBehind s g n ps =
    (n ≡ g.leaves + g.later)
    × (map Some ps ≡ map (λ c. held_at s g.leaves g.peaks g.nodes c.0 c.1) (peaks_down n (s.heights n)))

-- behind the last of these segments stands this mark
abbrev pub StandsBehind : {D : Type 0} → Shape → List (ChainSegment D) → ℕ → List D → Type 0
StandsBehind s [] n ps = Unit {0}
StandsBehind s (g ∷ []) n ps = IsMarkBehind s g n ps
StandsBehind s (g ∷ f ∷ gs) n ps = StandsBehind s (f ∷ gs) n ps

-- the first of these segments has the mark behind g before it
abbrev pub GoesOn : {D : Type 0} → Shape → ChainSegment D → List (ChainSegment D) → Type 0
GoesOn s g [] = Unit {0}
GoesOn s g (f ∷ gs) = IsMarkBehind s g f.leaves f.peaks

-- each of these segments has the mark behind the one before it
abbrev pub AreChained : {D : Type 0} → Shape → List (ChainSegment D) → Type 0
AreChained s [] = Unit {0}
AreChained s (g ∷ gs) = GoesOn s g gs × AreChained s gs

-- their nodes, one after another
abbrev pub joined_nodes : {D : Type 0} → List (ChainSegment D) → List D
joined_nodes [] = []
joined_nodes (g ∷ gs) = g.nodes ++ joined_nodes gs

-- the segments of a batch are a chain of this list: where it began, and what is kept of it
pub record IsChainOf {D : Type 0} (s : Shape) (h : Hashing D) (all : List D) (began : ℕ) (peaks : List D)
    (first : ℕ) (links : List (ChainSegment D)) : Type 0 where
  pub linked : IsLinkedOf s h all first links
  pub before : began ≤ first
  pub boundary : peaks ≡ peaks_at s h all began

-- segment i has this mark before it
abbrev pub HasMark : {D : Type 0} → List (ChainSegment D) → ℕ → ℕ → List D → Type 0
HasMark gs i n ps = IsSomeAnd (slice_get gs i) (λ g. (g.leaves ≡ n) × (g.peaks ≡ ps))

-- the leaves before the first of these segments, the last of which ends at m
abbrev pub first_leaves : {D : Type 0} → List (ChainSegment D) → ℕ → ℕ
first_leaves [] m = m
first_leaves (g ∷ gs) m = g.leaves
