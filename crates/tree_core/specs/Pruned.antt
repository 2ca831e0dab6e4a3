-- Trees of which only some nodes are held, and what was made since a mark.
use Rattle.std.specs.Prelude.{◌≡◌, ℕ, zero, suc, ◌+◌, ◌-◌, ◌^◌, ◌<◌, ◌≤◌, List, [], ◌∷◌, ◌++◌, length, map, Option, Some, None, IsSome, slice_get, ◌==◌, ◌&&◌, ◌||◌, Bool, false, if◌then◌else◌, nat_le}
use Rattle.tree_shape.specs.Hashing.{Hashing}
use Rattle.tree_shape.specs.Shape.{Shape, made}
use Rattle.tree_shape.specs.Kept.{PeakOf}
use Rattle.tree_shape.specs.Slow.{node_of, peak_digests}

-- the nodes that the j appends after b leaves make, in order
unfoldable pub made_from : Shape → ℕ → ℕ → List (ℕ × ℕ)
made_from s b zero = []
made_from s b (suc j) = made_from s b j ++ ((b + j, 0) ∷ s.parents (b + j))

-- the digests of the peaks of the first b leaves, the newest first
abbrev pub peaks_at : {D : Type 0} → Shape → Hashing D → List D → ℕ → List D
peaks_at s h leaves b = peak_digests s h leaves b (s.heights b)

-- the nodes that the leaves after the first b made
abbrev pub nodes_from : {D : Type 0} → Shape → Hashing D → List D → ℕ → ℕ → List D
nodes_from s h leaves b j = map (node_of s h leaves) (made_from s b j)

-- of n leaves, pruned at b: which nodes are there
pub record IsPruned {D : Type 0} (s : Shape) (n b : ℕ) (g : ℕ → Option D) : Type 0 where
  pub ended : (p : ℕ) → length (made s n) ≤ p → g p ≡ None
  pub since : (p : ℕ) → length (made s b) ≤ p → p < length (made s n) → IsSome (g p)
  pub peaks : (x k : ℕ) → PeakOf s b x k → IsSome (g (s.position x k))

-- the digest of the peak of height k over x, among the peaks that end at e
abbrev pub peak_found : {D : Type 0} → ℕ → List ℕ → List D → ℕ → ℕ → Option D
peak_found e [] ds x k = None
peak_found e (c ∷ cs) [] x k = None
peak_found e (c ∷ cs) (d ∷ ds) x k = if (e - 2 ^ c) == x && c == k then Some d else peak_found (e - 2 ^ c) cs ds x k

-- the node of height k over x, of the peaks of b leaves and what was made since
abbrev pub held_at : {D : Type 0} → Shape → ℕ → List D → List D → ℕ → ℕ → Option D
held_at s b peaks since x k =
    if nat_le (length (made s b)) (s.position x k)
    then slice_get since (s.position x k - length (made s b))
    else peak_found b (s.heights b) peaks x k

-- after its first b leaves the list goes on with these
abbrev pub Continues : {D : Type 0} → List D → ℕ → List D → Type 0
Continues all b more = (length all ≡ b + length more) × ((i : ℕ) → slice_get all (b + i) ≡ slice_get more i)

-- a peak of these heights, the newest ending at e, stands at this position
abbrev pub is_peak_at : Shape → ℕ → List ℕ → ℕ → Bool
is_peak_at s e [] p = false
is_peak_at s e (k ∷ ks) p = (s.position (e - 2 ^ k) k == p) || is_peak_at s (e - 2 ^ k) ks p

-- a prune to b leaves keeps this position
abbrev pub keeps : Shape → ℕ → ℕ → Bool
keeps s b p = nat_le (length (made s b)) p || is_peak_at s b (s.heights b) p

-- what a prune to b leaves makes of a tree
abbrev pub pruned : {D : Type 0} → Shape → ℕ → (ℕ → Option D) → ℕ → Option D
pruned s b g p = if keeps s b p then g p else None

-- g has what f has below, and these from there on
pub record Extends {D : Type 0} (f g : ℕ → Option D) (first : ℕ) (more : List D) : Type 0 where
  pub before : (p : ℕ) → p < first → g p ≡ f p
  pub since : (i : ℕ) → g (first + i) ≡ slice_get more i
