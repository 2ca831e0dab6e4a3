-- Marks along a chain, on a tree of which no list is told.
use Rattle.std.proofs.Common.{◌≡◌, inl, inr, ℕ, zero, suc, ◌+◌, ◌-◌, ◌^◌, ◌<◌, ◌≤◌, List, [], ◌∷◌, ◌++◌, length, map, drop, Some, Option, refl, sym, ◌∙◌, ap, subst, arith, length-drop}
use Rattle.std.specs.Prelude.{slice_get, IsSomeAnd}
use Rattle.std.proofs.lemmas.Bool.Decides.{eqb_tells, leb_tells}
use Rattle.std.proofs.lemmas.List.{map-append}
use Rattle.std.proofs.lemmas.Option.{slice_get_within, same_Some}
use Rattle.tree_shape.specs.Shape.{Shape, made, peaks_down, Stands, IsLawful}
use Rattle.tree_shape.specs.Kept.{PeakIn, PeakOf, KeepsPeaks}
use Rattle.tree_shape.proofs.NeededLemmas.{leaf_position, at_hand_back}
use Rattle.tree_core.specs.Pruned.{made_from, peak_found, held_at}
use Rattle.tree_core.specs.Links.{ChainSegment, IsNext, IsLinked, HasMark, joined_nodes, IsMarkBehind, StandsBehind, AreChained}
use Rattle.tree_core.specs.Tree.{Tree, node_at, IsGrown}
use Rattle.tree_shape.specs.Places.{get-behind}
use Rattle.tree_store.specs.declared.error.Error.{Error}
use Rattle.tree_store.specs.declared.error.Error.TheVariants.{StaleBatch, AncestorDropped, Memory}
use Rattle.tree_core.specs.Batches.{Sealed, Unsealed, IsSoundSealed, IsSealedFrom, sealed_node}
use Rattle.tree_core.specs.Applied.{IsMarkOf, EndsAtTree, FitsTree, RefusedByTree}
use Rattle.tree_core.proofs.Later.{get_past, get_front, length-split}
use Rattle.tree_core.proofs.LinkLemmas.{linked_from}
use Rattle.tree_core.proofs.PrunedLemmas.{peak_stands}
use Rattle.tree_core.proofs.ApplyLemmas.{fits_mark}

-- the peaks of n leaves as f tells them
abbrev pub peaks_told : {D : Type 0} → Shape → (ℕ → Option D) → ℕ → List (Option D)
peaks_told s f n = map (λ c. f (s.position c.0 c.1)) (peaks_down n (s.heights n))

-- what tells one thing of each peak tells one list
pub same_at_peaks : {X : Type 0} (f g : ℕ → ℕ → X) (e : ℕ) (hs : List ℕ) → ((x k : ℕ) → PeakIn e hs x k → f x k ≡ g x k) → map (λ c. f c.0 c.1) (peaks_down e hs) ≡ map (λ c. g c.0 c.1) (peaks_down e hs)
same_at_peaks f g e [] same = refl
same_at_peaks f g e (k ∷ ks) same = rw (same (e - 2 ^ k) k (inl (refl, refl)), same_at_peaks f g (e - 2 ^ k) ks (λ x j p. same x j (inr p))) refl

-- where f tells the peaks, the one that is found is f's
found_told : {D : Type 0} (s : Shape) (f : ℕ → Option D) (e : ℕ) (hs : List ℕ) (ps : List D) (x k : ℕ) → map (λ (d : D). Some d) ps ≡ map (λ c. f (s.position c.0 c.1)) (peaks_down e hs) → PeakIn e hs x k
    → peak_found e hs ps x k ≡ f (s.position x k)
found_told s f e [] ps x k told p = absurd p
found_told s f e (c ∷ cs) [] x k told p = absurd (cc)
found_told {D = D} s f e (c ∷ cs) (d ∷ ds) x k told p =
    let first : Some d ≡ f (s.position (e - 2 ^ c) c) = cc in
    let others : map (λ (y : D). Some y) ds ≡ map (λ c. f (s.position c.0 c.1)) (peaks_down (e - 2 ^ c) cs) = cc in
    elim (eqb_tells (e - 2 ^ c) x) [
      | inl a ↦ elim (eqb_tells c k) [
        | inl b ↦ rw (a.0, b.0) (first ∙ ap (λ y. f (s.position y c)) a.1 ∙ ap (λ j. f (s.position x j)) b.1)
        | inr b ↦ rw (a.0, b.0) (elim p [
          | inl here ↦ absurd (b.1 (sym here.1))
          | inr there ↦ found_told s f (e - 2 ^ c) cs ds x k others there
        ])
      ]
      | inr a ↦ rw a.0 (elim p [
        | inl here ↦ absurd (a.1 (sym here.0))
        | inr there ↦ found_told s f (e - 2 ^ c) cs ds x k others there
      ])
    ]

-- where f tells the mark before a segment and the segment's nodes, it tells the mark behind it
pub behind_told : {D : Type 0} (s : Shape) (f : ℕ → Option D) (g : ChainSegment D) (n : ℕ) (ps : List D) → IsLawful s → KeepsPeaks s → length g.nodes ≡ length (made_from s g.leaves g.later)
    → map (λ (d : D). Some d) g.peaks ≡ peaks_told s f g.leaves → ((i : ℕ) → i < length g.nodes → f (length (made s g.leaves) + i) ≡ slice_get g.nodes i) → IsMarkBehind s g n ps
    → map (λ (d : D). Some d) ps ≡ peaks_told s f n
behind_told s f g n ps w q counted before nodes mark =
    mark.1 ∙ same_at_peaks (λ x k. held_at s g.leaves g.peaks g.nodes x k) (λ x k. f (s.position x k)) n (s.heights n) here
  where
    here : (x k : ℕ) → PeakIn n (s.heights n) x k → held_at s g.leaves g.peaks g.nodes x k ≡ f (s.position x k)
    here x k peak =
        let P : ℕ → Type 0 = λ m. PeakOf s m x k in
        let Q : ℕ → Type 0 = λ m. Stands (made s m) (s.position x k) x k in
        let stands : Stands (made s (g.leaves + g.later)) (s.position x k) x k = subst Q mark.0 (peak_stands s (made s n) n (s.heights n) x k (w.peaks n) peak) in
        let l = slice_get_within (made s (g.leaves + g.later)) (s.position x k) (x, k) stands in
        elim (leb_tells (length (made s g.leaves)) (s.position x k)) [
          | inl t ↦ rw t.0 (
              let i : length (made s g.leaves) + (s.position x k - length (made s g.leaves)) ≡ s.position x k = omega (arith, t.1) in
              sym (nodes (s.position x k - length (made s g.leaves)) (omega (arith, t.1, l, counted, length-split s g.leaves g.later))) ∙ ap f i)
          | inr t ↦ rw t.0 (elim (at_hand_back s w q g.leaves g.later x k (inr (subst P mark.0 peak))) [
            | inl late ↦ absurd (let p = leaf_position s w g.leaves in omega (arith, late, p, t.1))
            | inr was ↦ found_told s f g.leaves (s.heights g.leaves) g.peaks x k before was
          ])
        ]

-- the same where the segment is the first of some, whose nodes f tells
front_told : {D : Type 0} (s : Shape) (f : ℕ → Option D) (n : ℕ) (g : ChainSegment D) (gs : List (ChainSegment D)) (o : ℕ) (qs : List D) → IsLawful s → KeepsPeaks s → IsNext s n g
    → map (λ (d : D). Some d) g.peaks ≡ peaks_told s f n → ((i : ℕ) → f (length (made s n) + i) ≡ slice_get (joined_nodes (g ∷ gs)) i) → IsMarkBehind s g o qs → map (λ (d : D). Some d) qs ≡ peaks_told s f o
front_told s f n g gs o qs w q next before nodes mark =
    behind_told s f g o qs w q (next.counted ∙ ap (λ b. length (made_from s b g.later)) (sym next.starts)) (before ∙ ap (peaks_told s f) (sym next.starts))
    (λ i lt. ap (λ b. f (length (made s b) + i)) next.starts ∙ nodes i ∙ get_front g.nodes (joined_nodes gs) i lt) mark

-- so along a chain: the mark behind the last segment
pub chain_told : {D : Type 0} (s : Shape) (f : ℕ → Option D) (n : ℕ) (g : ChainSegment D) (gs : List (ChainSegment D)) (m l : ℕ) (ps : List D) → IsLawful s → KeepsPeaks s → IsLinked s n (g ∷ gs) m → AreChained s (g ∷ gs)
    → map (λ (d : D). Some d) g.peaks ≡ peaks_told s f n → ((i : ℕ) → f (length (made s n) + i) ≡ slice_get (joined_nodes (g ∷ gs)) i) → StandsBehind s (g ∷ gs) l ps
    → map (λ (d : D). Some d) ps ≡ peaks_told s f l
chain_told s f n g [] m l ps w q linked chained before nodes behind = front_told s f n g [] l ps w q linked.0 before nodes behind
chain_told s f n g (h ∷ gs) m l ps w q linked chained before nodes behind =
    let next = front_told s f n g (h ∷ gs) h.leaves h.peaks w q linked.0 before nodes chained.0 in
    let split = length-split s n g.later in
    let counted = linked.0.counted in
    chain_told s f (n + g.later) h gs m l ps w q linked.1 chained.1 (next ∙ ap (peaks_told s f) linked.1.0.starts)
    (λ i.
    let e : length (made s (n + g.later)) + i ≡ length (made s n) + (length g.nodes + i) = omega (arith, split, counted) in
    ap f e ∙ nodes (length g.nodes + i) ∙ get_past g.nodes (joined_nodes (h ∷ gs)) i)
    behind

pub chained_drop : {D : Type 0} (s : Shape) (gs : List (ChainSegment D)) (i : ℕ) → AreChained s gs → AreChained s (drop i gs)
chained_drop s [] zero c = tt
chained_drop s [] (suc i) c = tt
chained_drop s (g ∷ gs) zero c = c
chained_drop s (g ∷ gs) (suc i) c = chained_drop s gs i c.1

pub behind_drop : {D : Type 0} (s : Shape) (gs : List (ChainSegment D)) (i n : ℕ) (ps : List D) → StandsBehind s gs n ps → StandsBehind s (drop i gs) n ps
behind_drop s [] zero n ps b = tt
behind_drop s [] (suc i) n ps b = tt
behind_drop s (g ∷ gs) zero n ps b = b
behind_drop s (g ∷ []) (suc i) n ps b = behind_drop s [] i n ps tt
behind_drop s (g ∷ f ∷ gs) (suc i) n ps b = behind_drop s (f ∷ gs) i n ps b

-- one more segment, which has the mark behind the others before it
pub chained_push : {D : Type 0} (s : Shape) (gs : List (ChainSegment D)) (g : ChainSegment D) → AreChained s gs → StandsBehind s gs g.leaves g.peaks → AreChained s (gs ++ (g ∷ []))
chained_push s [] g c b = (tt, tt)
chained_push s (f ∷ []) g c b = (b, (tt, tt))
chained_push s (f ∷ h ∷ fs) g c b = (c.0, chained_push s (h ∷ fs) g c.1 b)

-- where they are some of a chain's and the one more has the mark behind that chain
pub chained_seal : {D X : Type 0} (s : Shape) (f : X → ChainSegment D) (all xs ys : List X) (i n : ℕ) (ps : List D) (x : X) → AreChained s (map f all) → StandsBehind s (map f all) n ps → map f xs ≡ drop i (map f all)
    → ys ≡ xs ++ (x ∷ []) → (f x).leaves ≡ n → (f x).peaks ≡ ps → AreChained s (map f ys)
chained_seal {D = D} s f all xs ys i n ps x chained behind kept e el ep =
    let whole : map f ys ≡ drop i (map f all) ++ (f x ∷ []) = ap (map f) e ∙ map-append f xs (x ∷ []) ∙ ap (λ gs. gs ++ (f x ∷ [])) kept in
    let before : StandsBehind s (drop i (map f all)) (f x).leaves (f x).peaks = rw (el, ep) (behind_drop s (map f all) i n ps behind) in
    subst (λ (gs : List (ChainSegment D)). AreChained s gs) (sym whole) (chained_push s (drop i (map f all)) (f x) (chained_drop s (map f all) i chained) before)

-- what stands behind the last of them
pub behind_last : {D : Type 0} (s : Shape) (gs : List (ChainSegment D)) (i n : ℕ) (g : ChainSegment D) (ps : List D) → slice_get gs i ≡ Some g → suc i ≡ length gs → IsMarkBehind s g n ps → StandsBehind s gs n ps
behind_last s [] i n g ps e l b = tt
behind_last s (f ∷ []) zero n g ps e l b = let same : g ≡ f = sym (same_Some f g e) in subst (λ h. IsMarkBehind s h n ps) same b
behind_last s (f ∷ []) (suc i) n g ps e l b = absurd (omega arith)
behind_last s (f ∷ h ∷ fs) zero n g ps e l b = absurd (omega arith)
behind_last s (f ∷ h ∷ fs) (suc i) n g ps e l b = behind_last s (h ∷ fs) i n g ps e (omega arith) b

-- the nodes of the segments from one of them on, among those of all
joined_from : {D : Type 0} (s : Shape) (n : ℕ) (gs : List (ChainSegment D)) (m i c : ℕ) (ps : List D) → IsLinked s n gs m → HasMark gs i c ps
    → (length (made s n) ≤ length (made s c)) × ((p : ℕ) → length (made s c) ≤ p → slice_get (joined_nodes gs) (p - length (made s n)) ≡ slice_get (joined_nodes (drop i gs)) (p - length (made s c)))
joined_from s n [] m i c ps l k = absurd k
joined_from s n (g ∷ gs) m zero c ps l k =
    let e : length (made s n) ≡ length (made s c) = ap (λ b. length (made s b)) (sym l.0.starts ∙ k.0) in
    (omega (arith, e), λ p le. ap (λ b. slice_get (joined_nodes (g ∷ gs)) (p - b)) e)
joined_from s n (g ∷ gs) m (suc i) c ps l k =
    let r = joined_from s (n + g.later) gs m i c ps l.1 k in
    let split = length-split s n g.later in
    let counted = l.0.counted in (
      omega (arith, r.0, split),
      λ p le.
          let e : p - length (made s n) ≡ length g.nodes + (p - length (made s (n + g.later))) = omega (arith, le, r.0, split, counted) in
          ap (slice_get (g.nodes ++ joined_nodes gs)) e ∙ get_past g.nodes (joined_nodes gs) (p - length (made s (n + g.later))) ∙ r.1 p le,
    )

-- behind a tree's nodes stand the batch's, from the segment on that has the tree's mark before it
pub since_batch : {D : Type 0} (s : Shape) (t u : Tree D) (b : Sealed D) (i j : ℕ) (ps more : List D) → IsSoundSealed s b → HasMark b.links i t.leaves ps → more ≡ joined_nodes (drop i b.links) → IsGrown s j more t u
    → (p : ℕ) → length (made s t.leaves) ≤ p → node_at u p ≡ sealed_node s b p
since_batch s t u b i j ps more sound k en grown p le =
    let r = joined_from s b.first b.links b.leaves i t.leaves ps sound.linked k in
    elim (leb_tells (length (made s b.first)) p) [
      | inl x ↦ rw x.0 (
          let e : length (made s t.leaves) + (p - length (made s t.leaves)) ≡ p = omega (arith, le) in
          ap (node_at u) (sym e) ∙ grown.nodes.since (p - length (made s t.leaves)) ∙ ap (λ ns. slice_get ns (p - length (made s t.leaves))) en ∙ sym (r.1 p le))
      | inr x ↦ absurd (omega (arith, le, r.0, x.1))
    ]

-- the first of these segments has the tree's mark before it
abbrev begins_at : {D : Type 0} → Shape → Tree D → List (ChainSegment D) → Type 0
begins_at s t [] = ⊥
begins_at s t (g ∷ gs) = IsMarkOf s t g.leaves g.peaks

fits_first : {D : Type 0} (s : Shape) (t : Tree D) (gs : List (ChainSegment D)) (i : ℕ) → IsSomeAnd (slice_get gs i) (λ g. IsMarkOf s t g.leaves g.peaks) → begins_at s t (drop i gs)
fits_first s t [] i f = absurd f
fits_first s t (g ∷ gs) zero f = f
fits_first s t (g ∷ gs) (suc i) f = fits_first s t gs i f

-- the nodes of a tree tell its peaks also where more stand behind them
peaks_grown : {D : Type 0} (s : Shape) (t u : Tree D) (j : ℕ) (more : List D) → IsLawful s → IsGrown s j more t u → peaks_told s (node_at t) t.leaves ≡ peaks_told s (node_at u) t.leaves
peaks_grown s t u j more w grown =
    same_at_peaks (λ x k. node_at t (s.position x k)) (λ x k. node_at u (s.position x k)) t.leaves (s.heights t.leaves)
    (λ x k peak. sym (grown.nodes.before (s.position x k)
    (slice_get_within (made s t.leaves) (s.position x k) (x, k) (peak_stands s (made s t.leaves) t.leaves (s.heights t.leaves) x k (w.peaks t.leaves) peak))))

chain_from : {D : Type 0} (s : Shape) (t u : Tree D) (j n l : ℕ) (gs : List (ChainSegment D)) (ps : List D) → IsLawful s → KeepsPeaks s → IsGrown s j (joined_nodes gs) t u → begins_at s t gs → IsLinked s t.leaves gs n → AreChained s gs
    → StandsBehind s gs l ps → map (λ (d : D). Some d) ps ≡ peaks_told s (node_at u) l
chain_from s t u j n l [] ps w q grown begins linked chained behind = absurd begins
chain_from s t u j n l (g ∷ gs) ps w q grown begins linked chained behind =
    chain_told s (node_at u) t.leaves g gs n l ps w q linked chained (begins.1 ∙ peaks_grown s t u j (joined_nodes (g ∷ gs)) w grown) grown.nodes.since behind

-- and the mark behind the batch is the tree's
pub behind_batch : {D : Type 0} (s : Shape) (t u : Tree D) (b : Sealed D) (i j : ℕ) (more : List D) → IsLawful s → KeepsPeaks s → IsSoundSealed s b → FitsTree s t b i → more ≡ joined_nodes (drop i b.links) → IsGrown s j more t u
    → u.leaves ≡ b.leaves → EndsAtTree s b u
behind_batch {D = D} s t u b i j more w q sound fits en grown count ps behind =
    let mark = fits_mark s t b i fits in
    let linked = linked_from s b.first b.links b.leaves i t.leaves mark.0 sound.linked mark.1 in
    let grown' : IsGrown s j (joined_nodes (drop i b.links)) t u = subst (λ (ns : List D). IsGrown s j ns t u) en grown in
    (sym count, chain_from s t u j b.leaves b.leaves (drop i b.links) ps w q grown' (fits_first s t b.links i fits) linked (chained_drop s b.links i sound.chained) (behind_drop s b.links i b.leaves ps behind) ∙ ap (peaks_told s (node_at u)) (sym count))

-- an empty segment with the tree's mark before it has that mark behind it
pub behind_empty : {D : Type 0} (s : Shape) (t : Tree D) (b : Sealed D) (g : ChainSegment D) → IsLawful s → KeepsPeaks s → b.links ≡ g ∷ [] → g.nodes ≡ [] → length g.nodes ≡ length (made_from s g.leaves g.later) → b.leaves ≡ t.leaves → IsMarkOf s t g.leaves g.peaks → EndsAtTree s b t
behind_empty {D = D} s t b g w q one none counted count mark ps behind =
    let behind' : IsMarkBehind s g b.leaves ps = subst (λ (gs : List (ChainSegment D)). StandsBehind s gs b.leaves ps) one behind in
    let l = ap length none in
    (count, behind_told s (node_at t) g b.leaves ps w q counted (mark.1 ∙ ap (peaks_told s (node_at t)) (sym mark.0)) (λ i lt. absurd (omega (arith, l, lt))) behind' ∙ ap (peaks_told s (node_at t)) count)

-- a sealed batch has the mark that it stood on before its own segment
pub own_fits : {D : Type 0} (s : Shape) (t : Tree D) (b : Unsealed D) (reached : ℕ) (c : Sealed D) → reached ≤ length b.links → IsSealedFrom b reached c → IsMarkOf s t b.base b.base_peaks → FitsTree s t c reached
own_fits {D = D} s t b reached c le sealed mark =
    let kept = drop (length b.links - reached) b.links in
    let own : ChainSegment D = record { leaves = b.base; peaks = b.base_peaks; later = length b.digests; nodes = sealed.nodes } in
    let long : length (drop (length b.links - reached) b.links) ≡ reached = length-drop (length b.links - reached) b.links ∙ omega arith in
    let here : slice_get c.links reached ≡ Some own = ap (λ gs. slice_get gs reached) sealed.links ∙ ap (slice_get (kept ++ (own ∷ []))) (sym long) ∙ get-behind kept [] own in
    subst (λ (o : Option (ChainSegment D)). IsSomeAnd o (λ g. IsMarkOf s t g.leaves g.peaks)) (sym here) mark

-- where a segment fits, memory alone may be wanting
pub refused_fitting : {F D : Type 0} (s : Shape) (t : Tree D) (b : Sealed D) (i : ℕ) (e : Error F) → FitsTree s t b i → RefusedByTree s t b e → e ≡ Memory
refused_fitting s t b i StaleBatch fits r = absurd (r.0 i fits)
refused_fitting s t b i (AncestorDropped x y) fits r = absurd (r.3 i fits)
refused_fitting s t b i Memory fits r = refl
refused_fitting s t b i _ fits r = absurd r
