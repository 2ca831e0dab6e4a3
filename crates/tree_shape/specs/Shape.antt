-- A family of append-only trees: which nodes n leaves have, in which order they are made, and where they stand.
use Rattle.std.specs.Prelude.{◌≡◌, ℕ, zero, suc, ◌+◌, ◌-◌, ◌^◌, ◌<◌, ◌≤◌, List, [], ◌∷◌, ◌++◌, Some, slice_get, reverse, count_by, nat_le, Bool}

pub record Shape : Type 0 where
  -- the heights of the peaks of n leaves, the newest first
  pub heights : ℕ → List ℕ
  -- the nodes that the append of leaf n makes after the leaf, in order: first leaf and height
  pub parents : ℕ → List (ℕ × ℕ)
  -- the position of the node of height h over the leaves from x on
  pub position : ℕ → ℕ → ℕ

-- the nodes of n leaves in the order in which they are made: first leaf and height
unfoldable pub made : Shape → ℕ → List (ℕ × ℕ)
made s zero = []
made s (suc n) = made s n ++ ((n, 0) ∷ s.parents n)

-- the peaks of these heights, the newest first, where they end at e: first leaf and height
abbrev pub peaks_down : ℕ → List ℕ → List (ℕ × ℕ)
peaks_down e [] = []
peaks_down e (k ∷ ks) = (e - 2 ^ k, k) ∷ peaks_down (e - 2 ^ k) ks

-- the peaks of n leaves, the oldest first
abbrev pub peaks : Shape → ℕ → List (ℕ × ℕ)
peaks s n = reverse (peaks_down n (s.heights n))

-- the node with this first leaf and height ends at or below f
abbrev pub ends_by : ℕ → ℕ × ℕ → Bool
ends_by f p = nat_le (p.0 + 2 ^ p.1) f

-- how many peaks of n leaves end at or below f; as peaks stand next to each other, these lead
abbrev pub inactive : Shape → ℕ → ℕ → ℕ
inactive s n f = count_by (ends_by f) (peaks_down n (s.heights n))

-- node i of cs is the one of height h over x
abbrev pub Stands : List (ℕ × ℕ) → ℕ → ℕ → ℕ → Type 0
Stands cs i x h = slice_get cs i ≡ Some (x, h)

-- the children of a node stand before it
abbrev pub ChildrenStand : Shape → List (ℕ × ℕ) → ℕ → ℕ → ℕ → Type 0
ChildrenStand s cs i x zero = Unit {0}
ChildrenStand s cs i x (suc h) =
    Stands cs (s.position x h) x h
    × Stands cs (s.position (x + 2 ^ h) h) (x + 2 ^ h) h
    × (s.position x h < i)
    × (s.position (x + 2 ^ h) h < i)

-- each node stands at its position, over leaves below e, and behind its children
pub record IsWellMade (s : Shape) (e : ℕ) (cs : List (ℕ × ℕ)) : Type 0 where
  pub placed : (i x h : ℕ) → Stands cs i x h → s.position x h ≡ i
  pub within : (i x h : ℕ) → Stands cs i x h → x + 2 ^ h ≤ e
  pub behind : (i x h : ℕ) → Stands cs i x h → ChildrenStand s cs i x h

-- the peaks of these heights, the newest first, stand next to each other from e down to 0
abbrev pub PeaksStand : Shape → List (ℕ × ℕ) → ℕ → List ℕ → Type 0
PeaksStand s cs e [] = e ≡ 0
PeaksStand s cs e (h ∷ hs) =
    (2 ^ h ≤ e)
    × Stands cs (s.position (e - 2 ^ h) h) (e - 2 ^ h) h
    × PeaksStand s cs (e - 2 ^ h) hs

pub record IsLawful (s : Shape) : Type 0 where
  pub well_made : (n : ℕ) → IsWellMade s n (made s n)
  pub peaks : (n : ℕ) → PeaksStand s (made s n) n (s.heights n)
