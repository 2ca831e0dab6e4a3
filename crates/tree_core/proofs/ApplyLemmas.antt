-- Batches applied to trees.
use Rattle.std.proofs.Common.{◌≡◌, inl, inr, ℕ, ◌-◌, ◌≤◌, List, [], ◌∷◌, ◌++◌, length, map, drop, Some, None, Option, refl, sym, ◌∙◌, ap, subst, arith}
use Rattle.std.specs.Prelude.{slice_get, IsSomeAnd}
use Rattle.tree_shape.specs.Hashing.{Hashing}
use Rattle.tree_shape.specs.Shape.{Shape, made, IsLawful}
use Rattle.tree_shape.specs.Kept.{KeepsPeaks}
use Rattle.tree_store.specs.declared.error.Error.{Error}
use Rattle.tree_core.specs.Pruned.{made_from, peaks_at}
use Rattle.tree_core.specs.Links.{ChainSegment, HasMark, joined_nodes}
use Rattle.tree_core.specs.Tree.{Tree, node_at, IsOf, IsGrown}
use Rattle.tree_core.specs.Batches.{Sealed, IsSoundSealed, IsSealedOf}
use Rattle.tree_core.specs.Applied.{IsMarkOf, FitsTree, RefusedByTree, Fits, Refused, WhyNot, IsLonger}
use Rattle.tree_core.proofs.LinkLemmas.{linked_from, joined_length, batch_applied, ends_with}

-- the leaves before a mark that fits are no more than the batch's, and the nodes behind it are those of the later leaves
pub fitting : {D : Type 0} (s : Shape) (b : Sealed D) (i m : ℕ) (ps : List D) → IsSoundSealed s b → HasMark b.links i m ps → (m ≤ b.leaves) × (length (joined_nodes (drop i b.links)) ≡ length (made_from s m (b.leaves - m)))
fitting s b i m ps sound k = joined_length s m (drop i b.links) b.leaves (linked_from s b.first b.links b.leaves i m ps sound.linked k)

pub longer : {D : Type 0} (s : Shape) (t u : Tree D) (b : Sealed D) (m : ℕ) (more : List D) → m ≡ t.leaves → m ≤ b.leaves → IsGrown s (b.leaves - m) more t u → IsLonger s b.leaves t u
longer s t u b m more e le grown = record { leaves = (let l = grown.leaves in omega (arith, l, e, le)); boundary = grown.boundary; nodes = grown.nodes.before }

pub applied : {D : Type 0} (s : Shape) (h : Hashing D) (all other : List D) (t u : Tree D) (b : Sealed D) (i m : ℕ) (ps more : List D) → IsLawful s → KeepsPeaks s → m ≡ t.leaves → ps ≡ peaks_at s h all t.leaves → IsSoundSealed s b
    → HasMark b.links i m ps → more ≡ joined_nodes (drop i b.links) → IsGrown s (b.leaves - m) more t u → IsOf s h all t → IsSealedOf s h other b → IsOf s h (all ++ drop (length all) other) u
applied {D = D} s h all other t u b i m ps more w q e ep sound k en grown of sealed =
    let fit = fitting s b i m ps sound k in
    let end = ends_with s h other b.first b.links b.leaves sound.linked sealed.linked in
    let here : HasMark b.links i t.leaves ps = subst (λ (n : ℕ). HasMark b.links i n ps) e k in
    let l = grown.leaves in
    batch_applied s h all other t.leaves b.first i u.leaves ps b.links (node_at t) (node_at u) w q of ep sealed.linked here (omega (arith, l, e, fit.0, end)) (rw en at grown.nodes)

-- ---- the tree's mark as it stands

some_same : {X : Type 0} (xs ys : List X) → map (λ (x : X). Some x) xs ≡ map (λ (x : X). Some x) ys → xs ≡ ys
some_same [] [] e = refl
some_same [] (y ∷ ys) e = absurd (cc)
some_same (x ∷ xs) [] e = absurd (cc)
some_same {X = X} (x ∷ xs) (y ∷ ys) e =
    let first : x ≡ y = cc in
    let others : map (λ (z : X). Some z) xs ≡ map (λ (z : X). Some z) ys = cc in
    ap (λ z. z ∷ xs) first ∙ ap (λ zs. y ∷ zs) (some_same xs ys others)

-- a tree has one mark
one_mark : {D : Type 0} (s : Shape) (t : Tree D) (n m : ℕ) (ps qs : List D) → IsMarkOf s t n ps → IsMarkOf s t m qs → (n ≡ m) × (ps ≡ qs)
one_mark s t n m ps qs a b = (a.0 ∙ sym b.0, some_same ps qs (a.1 ∙ sym b.1))

-- a segment that fits has the tree's leaves before it, and their peaks
pub fits_mark : {D : Type 0} (s : Shape) (t : Tree D) (b : Sealed D) (i : ℕ) → FitsTree s t b i → (ps : List D) × HasMark b.links i t.leaves ps
fits_mark {D = D} s t b i f = at (slice_get b.links i) f
  where
    at : (o : Option (ChainSegment D)) → IsSomeAnd o (λ g. IsMarkOf s t g.leaves g.peaks) → (ps : List D) × IsSomeAnd o (λ g. (g.leaves ≡ t.leaves) × (g.peaks ≡ ps))
    at (Some g) mark = (g.peaks, (mark.0, refl))
    at None mark = absurd mark

-- with the tree's mark before it, it fits
pub mark_fits : {D : Type 0} (s : Shape) (t : Tree D) (b : Sealed D) (i n : ℕ) (ps : List D) → HasMark b.links i n ps → IsMarkOf s t n ps → FitsTree s t b i
mark_fits {D = D} s t b i n ps k mark = at (slice_get b.links i) k
  where
    at : (o : Option (ChainSegment D)) → IsSomeAnd o (λ g. (g.leaves ≡ n) × (g.peaks ≡ ps)) → IsSomeAnd o (λ g. IsMarkOf s t g.leaves g.peaks)
    at (Some g) here = (here.0 ∙ mark.0, ap (map (λ (x : D). Some x)) here.1 ∙ mark.1)
    at None here = absurd here

-- and one that fits has the tree's mark before it
fits_marked : {D : Type 0} (s : Shape) (t : Tree D) (b : Sealed D) (i n : ℕ) (ps : List D) → FitsTree s t b i → IsMarkOf s t n ps → HasMark b.links i n ps
fits_marked {D = D} s t b i n ps f mark = at (slice_get b.links i) f
  where
    at : (o : Option (ChainSegment D)) → IsSomeAnd o (λ g. IsMarkOf s t g.leaves g.peaks) → IsSomeAnd o (λ g. (g.leaves ≡ n) × (g.peaks ≡ ps))
    at (Some g) here = one_mark s t g.leaves n g.peaks ps here mark
    at None here = absurd here

pub refused_by_tree : {F D : Type 0} (s : Shape) (t : Tree D) (b : Sealed D) (n : ℕ) (ps : List D) (r : Error F) → IsMarkOf s t n ps → ((i : ℕ) → HasMark b.links i n ps → ⊥) → WhyNot s b n ps r → RefusedByTree s t b r
refused_by_tree {F = F} {D = D} s t b n ps r mark none why =
    let none' : (i : ℕ) → FitsTree s t b i → ⊥ = λ i f. none i (fits_marked s t b i n ps f mark) in
    elim why [
      | inl p ↦ subst (λ (x : Error F). RefusedByTree s t b x) (sym p.1) (refl, ap (λ k. length (made s k)) mark.0, (p.0.0 ∙ mark.0, ap (map (λ (x : D). Some x)) p.0.1 ∙ mark.1), none')
      | inr p ↦ subst (λ (x : Error F). RefusedByTree s t b x) (sym p.1) (none', λ began. p.0 (one_mark s t b.began n b.peaks ps began mark))
    ]

-- ---- the mark of a list's tree

pub refused_from : {F D : Type 0} (s : Shape) (h : Hashing D) (all : List D) (n m : ℕ) (b : Sealed D) (ps : List D) (r : Error F) → m ≡ n → ps ≡ peaks_at s h all n → ((i : ℕ) → HasMark b.links i m ps → ⊥) → WhyNot s b m ps r → Refused s h all n b r
refused_from {F = F} {D = D} s h all n m b ps r e ep none why =
    let none' : (i : ℕ) → Fits s h all n b i → ⊥ = λ i f. none i (subst (λ (k : ℕ). HasMark b.links i k ps) (sym e) (subst (λ (qs : List D). HasMark b.links i n qs) (sym ep) f)) in
    elim why [
      | inl p ↦ subst (λ (x : Error F). Refused s h all n b x) (sym p.1) (refl, ap (λ k. length (made s k)) e, (p.0.0 ∙ e, p.0.1 ∙ ep), none')
      | inr p ↦ subst (λ (x : Error F). Refused s h all n b x) (sym p.1) (none', λ began. p.0 (began.0 ∙ sym e, began.1 ∙ sym ep))
    ]
