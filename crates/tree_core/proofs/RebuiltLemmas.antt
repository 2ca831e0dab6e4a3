-- Roots by the leaf count and the peaks.
use Rattle.std.proofs.Common.{◌≡◌, ℕ, ◌+◌, ◌-◌, ◌≤◌, List, ◌++◌, length, map, reverse, get_or, [], sym, ◌∙◌, ap, arith, length-append}
use Rattle.std.proofs.Math.Seq.{get_or-append_right}
use Rattle.std.proofs.lemmas.List.{reverse-reverse}
use Rattle.tree_shape.specs.Hashing.{Hashing}
use Rattle.tree_shape.specs.Shape.{Shape, peaks, peaks_down, IsLawful}
use Rattle.tree_shape.specs.Kept.{KeepsPeaks}
use Rattle.tree_shape.specs.declared.bagging.Bagging.{Bagging}
use Rattle.tree_shape.specs.Slow.{leaf_at, node_of}
use Rattle.tree_shape.specs.Root.{root, root_over}
use Rattle.tree_shape.proofs.NodeLemmas.{map-reverse}
use Rattle.tree_core.specs.Pruned.{peaks_at}
use Rattle.tree_core.proofs.Later.{peaks_after, peaks_at-append}

newest_first : {D : Type 0} (s : Shape) (h : Hashing D) (all : List D) (n : ℕ) → map (node_of s h all) (peaks s n) ≡ reverse (peaks_at s h all n)
newest_first s h all n = map-reverse (node_of s h all) (peaks_down n (s.heights n))

pub rebuilt : {D : Type 0} (s : Shape) (h : Hashing D) (one two more : List D) (k : ℕ) (b : Bagging) → IsLawful s → KeepsPeaks s → length one ≡ length two
    → map (node_of s h one) (peaks s (length one)) ≡ map (node_of s h two) (peaks s (length two)) → root s h (one ++ more) k b ≡ root s h (two ++ more) k b
rebuilt s h one two more k b w q count same =
    let n : ℕ = length one in
    let m : ℕ = length one + length more in
    let old : peaks_at s h one n ≡ peaks_at s h two n =
    sym (reverse-reverse (peaks_at s h one n)) ∙ ap reverse (sym (newest_first s h one n) ∙ same ∙ ap (λ i. map (node_of s h two) (peaks s i)) (sym count) ∙ newest_first s h two n) ∙ reverse-reverse (peaks_at s h two n) in
    let first : peaks_at s h (one ++ more) n ≡ peaks_at s h one n = peaks_at-append s h one more w in
    let second : peaks_at s h (two ++ more) n ≡ peaks_at s h two n =
    ap (peaks_at s h (two ++ more)) count ∙ peaks_at-append s h two more w ∙ ap (peaks_at s h two) (sym count) in
    let leaves : (x : ℕ) → n ≤ x → leaf_at h (one ++ more) x ≡ leaf_at h (two ++ more) x = λ x le.
    get_or-append_right one more x (h.digest []) le ∙ ap (λ i. get_or more (x - i) (h.digest [])) count ∙ sym (get_or-append_right two more x (h.digest []) (omega arith)) in
    let after : peaks_at s h (one ++ more) m ≡ peaks_at s h (two ++ more) m = peaks_after s h (one ++ more) (two ++ more) n (length more) w q leaves (first ∙ old ∙ sym second) in
    let one_long : length (one ++ more) ≡ m = length-append one more in
    let two_long : length (two ++ more) ≡ m = length-append two more ∙ ap (λ i. i + length more) (sym count) in
    ap (λ i. root_over h i (map (node_of s h (one ++ more)) (peaks s i)) k b) one_long
    ∙ ap (λ ps. root_over h m ps k b) (newest_first s h (one ++ more) m ∙ ap reverse after ∙ sym (newest_first s h (two ++ more) m))
    ∙ sym (ap (λ i. root_over h i (map (node_of s h (two ++ more)) (peaks s i)) k b) two_long)
