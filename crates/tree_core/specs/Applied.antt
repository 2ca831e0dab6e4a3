-- What applying a batch to a tree does, and why it may be refused.
use Rattle.std.specs.Prelude.{◌≡◌, ◌⊎◌, ℕ, ◌<◌, List, length, map, Some, slice_get, IsSomeAnd}
use Rattle.tree_shape.specs.Hashing.{Hashing}
use Rattle.tree_shape.specs.Shape.{Shape, made, peaks_down}
use Rattle.tree_store.specs.declared.error.Error.{Error}
use Rattle.tree_store.specs.declared.error.Error.TheVariants.{StaleBatch, AncestorDropped, Memory}
use Rattle.tree_core.specs.Pruned.{peaks_at}
use Rattle.tree_core.specs.Links.{HasMark, StandsBehind}
use Rattle.tree_core.specs.Tree.{Tree, node_at}
use Rattle.tree_core.specs.Batches.{Sealed}

-- the tree's mark as it stands: its leaves, and the digests of their peaks, the newest first
abbrev pub IsMarkOf : {D : Type 0} → Shape → Tree D → ℕ → List D → Type 0
IsMarkOf s t n ps =
    (n ≡ t.leaves)
    × (map Some ps ≡ map (λ c. node_at t (s.position c.0 c.1)) (peaks_down t.leaves (s.heights t.leaves)))

-- segment i has the tree's mark before it
abbrev pub FitsTree : {D : Type 0} → Shape → Tree D → Sealed D → ℕ → Type 0
FitsTree s t b i = IsSomeAnd (slice_get b.links i) (λ g. IsMarkOf s t g.leaves g.peaks)

-- the mark behind the batch is the tree's
abbrev pub EndsAtTree : {D : Type 0} → Shape → Sealed D → Tree D → Type 0
EndsAtTree s b t = (ps : List _) → StandsBehind s b.links b.leaves ps → IsMarkOf s t b.leaves ps

-- where no mark fits: the batch's chain began at the tree's mark, and both sizes are told; or it didn't
abbrev pub RefusedByTree : {F D : Type 0} → Shape → Tree D → Sealed D → Error F → Type 0
RefusedByTree s t b StaleBatch = ((i : ℕ) → FitsTree s t b i → ⊥) × (IsMarkOf s t b.began b.peaks → ⊥)
RefusedByTree s t b (AncestorDropped x y) =
    (x ≡ length (made s b.first))
    × (y ≡ length (made s t.leaves))
    × IsMarkOf s t b.began b.peaks
    × ((i : ℕ) → FitsTree s t b i → ⊥)
RefusedByTree s t b Memory = Unit {0}
RefusedByTree s t b _ = ⊥

-- the tree of this list has the mark before segment i
abbrev pub Fits : {D : Type 0} → Shape → Hashing D → List D → ℕ → Sealed D → ℕ → Type 0
Fits s h all n b i = HasMark b.links i n (peaks_at s h all n)

-- the batch's chain began at the tree of this list
abbrev pub BeganAt : {D : Type 0} → Shape → Hashing D → List D → ℕ → Sealed D → Type 0
BeganAt s h all n b = (b.began ≡ n) × (b.peaks ≡ peaks_at s h all n)

-- the batch began at this mark, and both sizes are told; or it didn't
abbrev pub WhyNot : {F D : Type 0} → Shape → Sealed D → ℕ → List D → Error F → Type 0
WhyNot s b n ps e =
    (((b.began ≡ n) × (b.peaks ≡ ps)) × (e ≡ AncestorDropped (length (made s b.first)) (length (made s n))))
    ⊎ (((b.began ≡ n) × (b.peaks ≡ ps) → ⊥) × (e ≡ StaleBatch))

-- where no mark fits: the tree is the boundary, and both sizes are told; or it isn't the boundary either
abbrev pub Refused : {F D : Type 0} → Shape → Hashing D → List D → ℕ → Sealed D → Error F → Type 0
Refused s h all n b StaleBatch = ((i : ℕ) → Fits s h all n b i → ⊥) × (BeganAt s h all n b → ⊥)
Refused s h all n b (AncestorDropped x y) =
    (x ≡ length (made s b.first))
    × (y ≡ length (made s n))
    × BeganAt s h all n b
    × ((i : ℕ) → Fits s h all n b i → ⊥)
Refused s h all n b Memory = Unit {0}
Refused s h all n b _ = ⊥

-- the nodes that were there are as before, and so is the boundary
pub record IsLonger {D : Type 0} (s : Shape) (n : ℕ) (t u : Tree D) : Type 0 where
  pub leaves : u.leaves ≡ n
  pub boundary : u.boundary ≡ t.boundary
  pub nodes : (p : ℕ) → p < length (made s t.leaves) → node_at u p ≡ node_at t p
