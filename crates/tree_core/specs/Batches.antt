-- Batches of leaves over a tree, as contracts see them.
use Rattle.std.specs.Prelude.{◌≡◌, ℕ, ◌+◌, ◌-◌, ◌^◌, ◌<◌, ◌≤◌, List, [], ◌∷◌, ◌++◌, length, drop, Option, None, slice_get, nat_le, if◌then◌else◌}
use Rattle.tree_shape.specs.Hashing.{Hashing}
use Rattle.tree_shape.specs.Shape.{Shape, made}
use Rattle.tree_core.specs.Pruned.{made_from, peaks_at}
use Rattle.tree_core.specs.Links.{ChainSegment, IsLinked, AreChained, StandsBehind, IsChainOf, first_leaves, joined_nodes}

-- a sealed batch: the mark on which its chain began, the segments that are kept, its own the last, and its leaves
pub record Sealed (D : Type 0) : Type 0 where
  pub began : ℕ
  pub peaks : List D
  pub first : ℕ
  pub links : List (ChainSegment D)
  pub leaves : ℕ

-- a batch that still takes leaves: the same, without a segment of its own, the mark that it stands on, and its leaf digests
pub record Unsealed (D : Type 0) : Type 0 where
  pub began : ℕ
  pub peaks : List D
  pub first : ℕ
  pub links : List (ChainSegment D)
  pub base : ℕ
  pub base_peaks : List D
  pub digests : List D

pub record IsSoundSegment {D : Type 0} (s : Shape) (g : ChainSegment D) : Type 0 where
  pub few : g.leaves + g.later ≤ 2 ^ 62
  pub marked : length g.peaks ≡ length (s.heights g.leaves)
  pub counted : length g.nodes ≡ length (made_from s g.leaves g.later)

pub record IsSoundSealed {D : Type 0} (s : Shape) (b : Sealed D) : Type 0 where
  pub few : b.leaves ≤ 2 ^ 62
  pub some : 0 < length b.links
  pub linked : IsLinked s b.first b.links b.leaves
  pub chained : AreChained s b.links

pub record IsSoundUnsealed {D : Type 0} (s : Shape) (b : Unsealed D) : Type 0 where
  pub few : b.base + length b.digests ≤ 2 ^ 62
  pub linked : IsLinked s b.first b.links b.base
  pub chained : AreChained s b.links
  pub marked : StandsBehind s b.links b.base b.base_peaks

-- a sealed batch of this list of leaf digests
abbrev pub IsSealedOf : {D : Type 0} → Shape → Hashing D → List D → Sealed D → Type 0
IsSealedOf s h all b = IsChainOf s h all b.began b.peaks b.first b.links

-- a batch that goes on from this list
pub record IsUnsealedOf {D : Type 0} (s : Shape) (h : Hashing D) (all : List D) (b : Unsealed D) : Type 0 where
  pub batch : IsChainOf s h all b.began b.peaks b.first b.links
  pub base : b.base_peaks ≡ peaks_at s h all b.base

-- the leaves with this batch
abbrev pub leaf_count : {D : Type 0} → Unsealed D → ℕ
leaf_count b = b.base + length b.digests

-- the batch with more leaf digests
abbrev pub with_digests : {D : Type 0} → Unsealed D → List D → Unsealed D
with_digests b more = record b { digests = b.digests ++ more }

-- an empty batch on a tree of n leaves: its chain begins there
pub record BeginsAt {D : Type 0} (n : ℕ) (b : Unsealed D) : Type 0 where
  pub began : b.began ≡ n
  pub first : b.first ≡ n
  pub links : b.links ≡ []
  pub base : b.base ≡ n
  pub digests : b.digests ≡ []

-- an empty sealed batch on a tree of n leaves
pub record StandsAt {D : Type 0} (n : ℕ) (b : Sealed D) : Type 0 where
  pub began : b.began ≡ n
  pub first : b.first ≡ n
  pub leaves : b.leaves ≡ n
  pub one : length b.links ≡ 1

-- an empty batch behind a sealed one, with its segments and its own
pub record IsChildOf {D : Type 0} (b : Sealed D) (c : Unsealed D) : Type 0 where
  pub began : c.began ≡ b.began
  pub peaks : c.peaks ≡ b.peaks
  pub first : c.first ≡ b.first
  pub links : c.links ≡ b.links
  pub base : c.base ≡ b.leaves
  pub digests : c.digests ≡ []

-- the batch sealed, with the newest `reached` segments and its own
pub record IsSealedFrom {D : Type 0} (b : Unsealed D) (reached : ℕ) (c : Sealed D) : Type 0 where
  pub began : c.began ≡ b.began
  pub peaks : c.peaks ≡ b.peaks
  pub first : c.first ≡ first_leaves (drop (length b.links - reached) b.links) b.base
  pub nodes : List D
  pub links :
      let own : ChainSegment D =
      record { leaves = b.base; peaks = b.base_peaks; later = length b.digests; nodes = nodes } in
      c.links ≡ drop (length b.links - reached) b.links ++ (own ∷ [])
  pub leaves : c.leaves ≡ leaf_count b

-- the node at a position, of those that the segments have
abbrev pub sealed_node : {D : Type 0} → Shape → Sealed D → ℕ → Option D
sealed_node s b p =
    let first = length (made s b.first) in
    if nat_le first p then slice_get (joined_nodes b.links) (p - first) else None
