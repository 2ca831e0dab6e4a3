-- The leaves and peaks of a list's tree.
use Rattle.std.proofs.Common.{◌≡◌, ℕ, suc, ◌+◌, ◌<◌, ◌≤◌, List, [], ◌∷◌, ◌++◌, length, take, map, get_or, sym, ◌∙◌, ap, arith, add-one}
use Rattle.std.proofs.Math.Seq.{take-suc}
use Rattle.std.proofs.lemmas.List.{take_all}
use Rattle.tree_shape.specs.declared.bagging.Bagging.{Bagging}
use Rattle.tree_shape.specs.Hashing.{Hashing}
use Rattle.tree_shape.specs.Shape.{Shape, peaks}
use Rattle.tree_shape.specs.Slow.{leaf, leaf_digests, node_of}
use Rattle.tree_shape.specs.Root.{root, root_over}
use Rattle.tree_proof.proofs.Complete.{length-leaf_digests, leaf_digests-at}

module _ {D : Type 0} (s : Shape) (h : Hashing D) (elements : List (List ℕ)) where
  pub leaves_next : (i : ℕ) (ds more : List D) (x : D) → i < length elements → ds ≡ take i (leaf_digests s h elements) → x ≡ leaf s h i (get_or elements i []) → more ≡ ds ++ (x ∷ []) → more ≡ take (i + 1) (leaf_digests s h elements)
  leaves_next i ds more x lt told e m =
      let all = leaf_digests s h elements in
      let next : take (suc i) all ≡ take i all ++ (get_or all i (h.digest []) ∷ []) = take-suc all i (h.digest []) (omega (arith, lt, length-leaf_digests s h elements)) in
      rw add-one (m ∙ rw (told, e, leaf_digests-at s h elements i lt) (sym next))

  pub leaves_all : (i : ℕ) (ds : List D) → ds ≡ take i (leaf_digests s h elements) → length elements ≤ i → ds ≡ leaf_digests s h elements
  leaves_all i ds told le = told ∙ take_all i (leaf_digests s h elements) (omega (arith, le, length-leaf_digests s h elements))

  pub peaks_are : (ps ls : List D) → ls ≡ leaf_digests s h elements → ps ≡ map (node_of s h ls) (peaks s (length ls)) → ps ≡ map (node_of s h (leaf_digests s h elements)) (peaks s (length elements))
  peaks_are ps ls l e =
      e ∙ ap (λ (ds : List D). map (node_of s h ds) (peaks s (length ds))) l ∙ ap (λ n. map (node_of s h (leaf_digests s h elements)) (peaks s n)) (length-leaf_digests s h elements)

  -- the slow root by the peaks
  pub root_is : (b : Bagging) (k : ℕ) (ps : List D) → ps ≡ map (node_of s h (leaf_digests s h elements)) (peaks s (length elements)) → root_over h (length elements) ps k b ≡ root s h (leaf_digests s h elements) k b
  root_is b k ps e =
      ap (λ ds. root_over h (length elements) ds k b) e
      ∙ ap (λ l. root_over h l (map (node_of s h (leaf_digests s h elements)) (peaks s l)) k b) (sym (length-leaf_digests s h elements))
