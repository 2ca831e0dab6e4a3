-- Marks read peak by peak.
use Rattle.std.proofs.Common.{◌≡◌, inl, inr, ℕ, suc, ◌+◌, ◌-◌, ◌^◌, ◌<◌, List, [], ◌∷◌, ◌++◌, length, map, reverse, drop, get_or, Some, None, Option, refl, sym, ◌∙◌, ap, arith, append_assoc, add-one, drop-cons}
use Rattle.std.specs.Prelude.{IsSome}
use Rattle.std.proofs.lemmas.List.{map-append, length-map, length-reverse, get_or-map, get_or-reverse}
use Rattle.std.proofs.lemmas.Option.{same_Some}
use Rattle.tree_shape.specs.Hashing.{Hashing}
use Rattle.tree_shape.specs.Shape.{Shape, peaks_down, IsLawful}
use Rattle.tree_shape.specs.Kept.{PeakIn, KeepsPeaks}
use Rattle.tree_shape.specs.Pins.{base}
use Rattle.tree_shape.specs.Slow.{node}
use Rattle.tree_shape.proofs.PinLemmas.{length-peaks_down, peaks_down-at}
use Rattle.tree_core.specs.Pruned.{peaks_at}
use Rattle.tree_core.specs.Reading.{ArePeaks}
use Rattle.tree_core.specs.Tree.{Tree, node_at, IsSound, IsOf}
use Rattle.tree_core.specs.Applied.{IsMarkOf}
use Rattle.tree_core.proofs.TreeLemmas.{tree_told, some_of}

-- the next peak, and those behind it
next_down : (e i : ℕ) (hs : List ℕ) → i < length hs
    → peaks_down e (drop i hs) ≡ (e - 2 ^ get_or hs i 0, get_or hs i 0) ∷ peaks_down (e - 2 ^ get_or hs i 0) (drop (i + 1) hs)
next_down e i hs lt = ap (peaks_down e) (drop-cons hs i 0 lt) ∙ rw add-one refl

-- one more peak is read
pub peak_told : {D : Type 0} (told : ℕ → ℕ → Option D) (e i : ℕ) (hs : List ℕ) (ds : List D) (d : D) (all : List (Option D)) → i < length hs → Some d ≡ told (e - 2 ^ get_or hs i 0) (get_or hs i 0)
    → map (λ (x : D). Some x) ds ++ map (λ c. told c.0 c.1) (peaks_down e (drop i hs)) ≡ all
    → map (λ (x : D). Some x) (ds ++ (d ∷ [])) ++ map (λ c. told c.0 c.1) (peaks_down (e - 2 ^ get_or hs i 0) (drop (i + 1) hs)) ≡ all
peak_told {D = D} told e i hs ds d all lt is before =
    let rest = map (λ c. told c.0 c.1) (peaks_down (e - 2 ^ get_or hs i 0) (drop (i + 1) hs)) in
    ap (λ os. os ++ rest) (map-append (λ (x : D). Some x) ds (d ∷ [])) ∙ append_assoc (map (λ (x : D). Some x) ds) (Some d ∷ []) rest
    ∙ ap (λ o. map (λ (x : D). Some x) ds ++ (o ∷ rest)) is ∙ sym (ap (λ cs. map (λ (x : D). Some x) ds ++ map (λ c. told c.0 c.1) cs) (next_down e i hs lt)) ∙ before

-- where a right reader tells the peaks, they are the slow nodes
pub told_peaks : {D : Type 0} (told : ℕ → ℕ → Option D) (slow : ℕ → ℕ → D) (e : ℕ) (hs : List ℕ) (ds : List D) → ((x k : ℕ) → PeakIn e hs x k → told x k ≡ Some (slow x k))
    → map (λ (x : D). Some x) ds ≡ map (λ c. told c.0 c.1) (peaks_down e hs) → ds ≡ map (λ c. slow c.0 c.1) (peaks_down e hs)
told_peaks told slow e [] [] right is = refl
told_peaks told slow e [] (d ∷ ds) right is = absurd (cc)
told_peaks told slow e (k ∷ ks) [] right is = absurd (cc)
told_peaks {D = D} told slow e (k ∷ ks) (d ∷ ds) right is =
    let first : Some d ≡ told (e - 2 ^ k) k = cc in
    let others : map (λ (x : D). Some x) ds ≡ map (λ c. told c.0 c.1) (peaks_down (e - 2 ^ k) ks) = cc in
    let here : d ≡ slow (e - 2 ^ k) k = same_Some d (slow (e - 2 ^ k) k) (first ∙ right (e - 2 ^ k) k (inl (refl, refl))) in
    ap (λ x. x ∷ ds) here ∙ ap (λ xs. slow (e - 2 ^ k) k ∷ xs) (told_peaks told slow (e - 2 ^ k) ks ds (λ x j p. right x j (inr p)) others)

-- the mark of a list's tree has the list's peaks
pub mark_of_list : {D : Type 0} (s : Shape) (h : Hashing D) (all : List D) (t : Tree D) (n : ℕ) (ps : List D) → IsLawful s → KeepsPeaks s → IsSound s t → IsOf s h all t → IsMarkOf s t n ps → ps ≡ peaks_at s h all t.leaves
mark_of_list s h all t n ps w q sound of mark =
    told_peaks (λ x k. node_at t (s.position x k)) (node s h all) t.leaves (s.heights t.leaves) ps (tree_told s h all t w q sound of) mark.1

-- what tells each peak tells a mark
pub mark_there : {D : Type 0} (told : ℕ → ℕ → Option D) (e : ℕ) (hs : List ℕ) → ((x k : ℕ) → PeakIn e hs x k → IsSome (told x k))
    → (ps : List D) × (map (λ (x : D). Some x) ps ≡ map (λ c. told c.0 c.1) (peaks_down e hs))
mark_there told e [] there = ([], refl)
mark_there {D = D} told e (k ∷ ks) there =
    let here = some_of (told (e - 2 ^ k) k) (there (e - 2 ^ k) k (inl (refl, refl))) in
    let others = mark_there told (e - 2 ^ k) ks (λ x j p. there x j (inr p)) in
    (here.0 ∷ others.0, ap (λ o. o ∷ map (λ (x : D). Some x) others.0) (sym here.1) ∙ ap (λ os. told (e - 2 ^ k) k ∷ os) others.1)

-- a mark's digests are the peaks, the newest first
pub mark_peaks : {D : Type 0} (s : Shape) (n : ℕ) (told : ℕ → ℕ → Option D) (ps : List D) → map (λ (x : D). Some x) ps ≡ map (λ c. told c.0 c.1) (peaks_down n (s.heights n)) → ArePeaks s n told (reverse ps)
mark_peaks {D = D} s n told ps mark =
    let hs = s.heights n in
    let xs = peaks_down n hs in
    let lx = length-peaks_down n hs in
    let lr = length-reverse ps in
    let lp : length ps ≡ length hs = sym (length-map ps (λ (x : D). Some x)) ∙ ap length mark ∙ length-map xs (λ c. told c.0 c.1) ∙ lx in
    record {
      counted = lr ∙ lp;
      told = λ j d lt.
          let i : length ps - 1 - j ≡ length hs - 1 - j = omega (arith, lp) in
          let up : suc (length hs - 1 - j) ≡ length hs - j = omega arith in
          let at = peaks_down-at n hs (length hs - 1 - j) (0, 0) (omega arith) ∙ ap (λ b. (base n hs b, get_or hs (length hs - 1 - j) 0)) up in
          sym (ap (λ (c : ℕ × ℕ). told c.0 c.1) at) ∙ sym (get_or-map (λ c. told c.0 c.1) xs (length hs - 1 - j) (0, 0) None (omega (arith, lx)))
          ∙ ap (λ os. get_or os (length hs - 1 - j) None) (sym mark) ∙ get_or-map (λ (x : D). Some x) ps (length hs - 1 - j) d None (omega (arith, lp))
          ∙ ap Some (ap (λ m. get_or ps m d) (sym i) ∙ sym (get_or-reverse ps j d (omega (arith, lp))));
    }
