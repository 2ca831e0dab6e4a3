-- Trees in memory.
use Rattle.std.proofs.Common.{◌≡◌, ℕ, suc, ◌+◌, ◌-◌, List, length, map, reverse, get_or, Some, None, Option, refl, sym, ◌∙◌, ap, subst, arith}
use Rattle.std.specs.Prelude.{IsSome}
use Rattle.std.proofs.lemmas.List.{length-map, length-reverse, get_or-map, get_or-reverse}
use Rattle.tree_shape.specs.Hashing.{Hashing}
use Rattle.tree_shape.specs.Shape.{Shape, made, peaks, peaks_down, IsLawful}
use Rattle.tree_shape.specs.Kept.{PeakOf, KeepsPeaks}
use Rattle.tree_shape.specs.Pins.{base}
use Rattle.tree_shape.specs.Slow.{node, node_of}
use Rattle.tree_shape.specs.Root.{root, root_over}
use Rattle.tree_shape.proofs.PinLemmas.{length-peaks_down, peaks_down-at}
use Rattle.tree_core.specs.Pruned.{peaks_at, nodes_from, held_at}
use Rattle.tree_core.specs.Links.{ChainSegment}
use Rattle.tree_core.specs.Batches.{IsSoundSegment}
use Rattle.tree_core.proofs.Since.{peak_is_held, peak_node}
use Rattle.tree_core.specs.Reading.{ArePeaks}
use Rattle.tree_core.specs.Tree.{Tree, node_at, IsSound, IsOf}
use Rattle.tree_core.proofs.FoldLemmas.{in_peaks}
use Rattle.tree_core.proofs.PrunedLemmas.{peak_stands, pruned_peak, tree_node}

pub some_of : {X : Type 0} (o : Option X) → IsSome o → (d : X) × (o ≡ Some d)
some_of (Some d) h = (d, refl)
some_of None h = absurd (cc)

-- the slow nodes at the peaks are what a right reader tells
pub are_peaks : {D : Type 0} (s : Shape) (h : Hashing D) (all : List D) (n : ℕ) (t : ℕ → ℕ → Option D) → ((x k : ℕ) → PeakOf s n x k → t x k ≡ Some (node s h all x k))
    → ArePeaks s n t (map (node_of s h all) (peaks s n))
are_peaks s h all n t right =
    let hs = s.heights n in
    let xs = peaks_down n hs in
    let lx = length-peaks_down n hs in
    let lr = length-reverse xs in
    record {
      counted = length-map (reverse xs) (node_of s h all) ∙ lr ∙ lx;
      told = λ j d lt.
          let i : length xs - 1 - j ≡ length hs - 1 - j = omega arith in
          let up : suc (length hs - 1 - j) ≡ length hs - j = omega arith in
          let at : get_or (reverse xs) j (0, 0) ≡ (base n hs (length hs - j), get_or hs (length hs - 1 - j) 0) =
          get_or-reverse xs j (0, 0) (omega arith) ∙ ap (λ m. get_or xs m (0, 0)) i ∙ peaks_down-at n hs (length hs - 1 - j) (0, 0) (omega arith)
          ∙ ap (λ b. (base n hs b, get_or hs (length hs - 1 - j) 0)) up in
          let peak = in_peaks n hs (length hs - 1 - j) (omega arith) in
          let P : ℕ → Type 0 = λ b. PeakOf s n (base n hs b) (get_or hs (length hs - 1 - j) 0) in
          right (base n hs (length hs - j)) (get_or hs (length hs - 1 - j) 0) (subst P up peak)
          ∙ ap Some (sym (get_or-map (node_of s h all) (reverse xs) j (0, 0) d (omega arith) ∙ ap (node_of s h all) at));
    }

-- each peak is kept
pub tree_tells : {D : Type 0} (s : Shape) (t : Tree D) → IsLawful s → KeepsPeaks s → IsSound s t → (x k : ℕ) → PeakOf s t.leaves x k → IsSome (node_at t (s.position x k))
tree_tells s t w q sound x k peak = pruned_peak s t.leaves t.boundary t.leaves (node_at t) x k w q sound.held sound.within (omega arith) peak

-- and is the slow node
pub tree_told : {D : Type 0} (s : Shape) (h : Hashing D) (all : List D) (t : Tree D) → IsLawful s → KeepsPeaks s → IsSound s t → IsOf s h all t → (x k : ℕ) → PeakOf s t.leaves x k
    → node_at t (s.position x k) ≡ Some (node s h all x k)
tree_told s h all t w q sound of x k peak =
    let here = some_of (node_at t (s.position x k)) (tree_tells s t w q sound x k peak) in
    let stands = peak_stands s (made s t.leaves) t.leaves (s.heights t.leaves) x k (w.peaks t.leaves) peak in
    let is = tree_node s h all t.leaves (s.position x k) x k (node_at t) here.0 of stands (sym here.1) in
    here.1 ∙ ap Some is

-- the root over the peaks of a tree is that of its list
pub root_is : {D : Type 0} (s : Shape) (h : Hashing D) (all : List D) (n k : ℕ) (t : ℕ → ℕ → Option D) (b : _) (r : D) → n ≡ length all → ((x j : ℕ) → PeakOf s n x j → t x j ≡ Some (node s h all x j))
    → ((ds : List D) → ArePeaks s n t ds → r ≡ root_over h n ds k b) → r ≡ root s h all k b
root_is s h all n k t b r count right told =
    told (map (node_of s h all) (peaks s n)) (are_peaks s h all n t right) ∙ ap (λ m. root_over h m (map (node_of s h all) (peaks s m)) k b) count

-- a segment tells each peak behind it
pub link_tells : {D : Type 0} (s : Shape) (g : ChainSegment D) → IsLawful s → KeepsPeaks s → IsSoundSegment s g → (x k : ℕ) → PeakOf s (g.leaves + g.later) x k → IsSome (held_at s g.leaves g.peaks g.nodes x k)
link_tells s g w q sound x k peak =
    let stands = peak_stands s (made s (g.leaves + g.later)) (g.leaves + g.later) (s.heights (g.leaves + g.later)) x k (w.peaks (g.leaves + g.later)) peak in
    peak_is_held s g.leaves g.later x k g.peaks g.nodes w q sound.marked sound.counted peak stands

-- and it is the slow node
pub link_told : {D : Type 0} (s : Shape) (h : Hashing D) (all : List D) (g : ChainSegment D) → IsLawful s → KeepsPeaks s → IsSoundSegment s g → g.peaks ≡ peaks_at s h all g.leaves → g.nodes ≡ nodes_from s h all g.leaves g.later
    → (x k : ℕ) → PeakOf s (g.leaves + g.later) x k → held_at s g.leaves g.peaks g.nodes x k ≡ Some (node s h all x k)
link_told s h all g w q sound ep en x k peak =
    let here = some_of (held_at s g.leaves g.peaks g.nodes x k) (link_tells s g w q sound x k peak) in
    let stands = peak_stands s (made s (g.leaves + g.later)) (g.leaves + g.later) (s.heights (g.leaves + g.later)) x k (w.peaks (g.leaves + g.later)) peak in
    let is = peak_node s h all g.leaves g.later x k g.peaks g.nodes here.0 w q sound.counted peak stands ep en (sym here.1) in
    here.1 ∙ ap Some is
