-- A batch on a tree fits it.
use Rattle.std.proofs.Common.{◌≡◌, ◌-◌, List, [], ◌∷◌, ◌++◌, length, drop, refl, sym, ◌∙◌, ap, subst}
use Rattle.tree_shape.specs.Hashing.{Hashing}
use Rattle.tree_shape.specs.Shape.{Shape}
use Rattle.tree_store.specs.declared.error.Error.{Error}
use Rattle.tree_store.specs.declared.error.Error.TheVariants.{StaleBatch, AncestorDropped, Memory}
use Rattle.tree_core.specs.Links.{ChainSegment}
use Rattle.tree_core.specs.Tree.{Tree}
use Rattle.tree_core.specs.Batches.{Unsealed, Sealed, IsUnsealedOf, IsSealedFrom, with_digests}
use Rattle.tree_core.specs.Applied.{IsMarkOf, FitsTree, RefusedByTree}

-- leaves are added behind the same mark
pub added : {D : Type 0} (s : Shape) (h : Hashing D) (all : List D) (b : Unsealed D) (more : List D) → IsUnsealedOf s h all b → IsUnsealedOf s h all (with_digests b more)
added s h all b more of = record { batch = record { linked = of.batch.linked; before = of.batch.before; boundary = of.batch.boundary }; base = of.base }

-- a batch that stands on the tree's mark, without ancestors, fits it where it is sealed
pub fits_first : {D : Type 0} (s : Shape) (t : Tree D) (b : Unsealed D) (c : Sealed D) → b.links ≡ [] → IsMarkOf s t b.base b.base_peaks → IsSealedFrom b 0 c → FitsTree s t c 0
fits_first s t b c none mark from =
    let links : c.links ≡ record { leaves = b.base; peaks = b.base_peaks; later = length b.digests; nodes = from.nodes } ∷ [] =
    from.links ∙ ap (λ (gs : List (ChainSegment _)). drop (length gs - 0) gs ++ (record { leaves = b.base; peaks = b.base_peaks; later = length b.digests; nodes = from.nodes } ∷ [])) none in
    subst (λ (gs : List (ChainSegment _)). FitsTree s t (record c { links = gs }) 0) (sym links) mark

-- so it is refused for want of memory alone
pub only_memory : {F D : Type 0} (s : Shape) (t : Tree D) (c : Sealed D) (e : Error F) → FitsTree s t c 0 → RefusedByTree s t c e → e ≡ Memory
only_memory s t c StaleBatch fits why = absurd (why.0 0 fits)
only_memory s t c (AncestorDropped x y) fits why = absurd (why.3 0 fits)
only_memory s t c Memory fits why = refl
only_memory s t c _ fits why = absurd why
