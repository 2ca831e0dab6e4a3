-- Two lists of elements whose trees have one root: they are one list, or two inputs clash.
use Rattle.std.proofs.Common.{◌≡◌, ℕ, zero, suc, ◌+◌, ◌*◌, ◌^◌, ◌<◌, ◌≤◌, ◌⊎◌, inl, true, List, [], ◌∷◌, ◌++◌, length, map, drop, get_or, refl, sym, ◌∙◌, ap, subst, arith}
use Rattle.std.specs.List.{flat_map, AllByRecursion}
use Rattle.std.proofs.lemmas.List.{length-map, ext_get_or, reverse-reverse}
use Rattle.std.proofs.Math.Nat.{pow-suc}
use Rattle.tree_shape.specs.declared.bagging.Bagging.{Bagging}
use Rattle.tree_shape.specs.Hashing.{Hashing, node_input}
use Rattle.tree_shape.specs.Shape.{Shape, made, PeaksStand, peaks, peaks_down}
use Rattle.tree_shape.specs.Slow.{leaf, leaf_at, leaf_digests, node, node_of}
use Rattle.tree_shape.specs.Root.{root, root_over}
use Rattle.tree_proof.specs.Cover.{Opened}
use Rattle.tree_proof.specs.Inputs.{Clash, input_of, element_of, slow_inputs, tree_inputs}
use Rattle.tree_proof.proofs.Complete.{length-leaf_digests, leaf_digests-at}
use Rattle.tree_proof.proofs.Clashes.{AllIn, OrClash, and_then, same_or_clash, in_first, in_rest, in_left, in_right, roots_is}
use Rattle.tree_proof.proofs.Soundness.{sized_node, node_input_is, Shown, both_shown, Within, sized_nodes, covered, peaks_within, few_peaks}
use Rattle.tree_shape.proofs.PeakLemmas.{all-reverse}
use Rattle.tree_proof.proofs.InputLemmas.{leaf_input_same}

abbrev everywhere : Opened
everywhere x k = true

module _ {D : Type 0} (s : Shape) (h : Hashing D) (inputs : List (List ℕ)) (size : ℕ) (exact : (a b : D) → h.bytes a ≡ h.bytes b → a ≡ b) (one_size : (m : List ℕ) → length (h.bytes (h.digest m)) ≡ size)
    (first second : List (List ℕ)) where
  abbrev In : List (List ℕ) → Type 0
  In ms = AllIn h inputs size exact one_size ms

  abbrev Or : Type 0 → Type 0
  Or P = OrClash h inputs size exact one_size P

  abbrev item : ℕ → List ℕ
  item = element_of s h second

  under : (x k y : ℕ) → x ≤ y → y < x + 2 ^ k → everywhere y 0 ≡ true → everywhere x k ≡ true
  under x k y le lt e = refl

  -- both lists have the same elements under a node
  abbrev Same : ℕ → ℕ → Type 0
  Same x k = Shown s h inputs size exact one_size first everywhere item under x k

  -- where both trees have one digest
  abbrev IsSame : ℕ → ℕ → Type 0
  IsSame x k = x + 2 ^ k ≤ length first → x + 2 ^ k ≤ length second → In (slow_inputs s h first x k) → In (slow_inputs s h second x k)
      → node s h (leaf_digests s h second) x k ≡ node s h (leaf_digests s h first) x k → Or (Same x k)

  one_leaf : (x y : ℕ) → x ≤ y → y < x + 2 ^ 0 → x ≡ y
  one_leaf x y le lt = omega arith

  leaf_same : (x : ℕ) → x + 2 ^ 0 ≤ length first → x + 2 ^ 0 ≤ length second → In (input_of s h (element_of s h first) x ∷ []) → In (input_of s h (element_of s h second) x ∷ [])
      → leaf_at h (leaf_digests s h second) x ≡ leaf_at h (leaf_digests s h first) x → Or (Same x 0)
  leaf_same x wf ws i j e =
      let both : leaf s h x (element_of s h second x) ≡ leaf s h x (element_of s h first x) =
      leaf_digests-at s h second x (omega (arith, ws)) ∙ e ∙ sym (leaf_digests-at s h first x (omega (arith, wf))) in
      and_then h inputs size exact one_size
      (same_or_clash h inputs size exact one_size (input_of s h (element_of s h second) x) (input_of s h (element_of s h first) x)
      (in_first h inputs size exact one_size (input_of s h (element_of s h second) x) [] j) (in_first h inputs size exact one_size (input_of s h (element_of s h first) x) [] i) both)
      (λ t. let here = leaf_input_same (s.position x 0) (element_of s h second x) (element_of s h first x) t in
      inl (λ y le lt my. let same = one_leaf x y le lt in ap (element_of s h second) (sym same) ∙ here ∙ ap (element_of s h first) same))

  inner_same : (x k : ℕ) → IsSame x k → IsSame (x + 2 ^ k) k → x + 2 ^ suc k ≤ length first → x + 2 ^ suc k ≤ length second
      → In (node_input h (s.position x (suc k)) (node s h (leaf_digests s h first) x k) (node s h (leaf_digests s h first) (x + 2 ^ k) k) ∷ (slow_inputs s h first x k ++ slow_inputs s h first (x + 2 ^ k) k))
      → In (node_input h (s.position x (suc k)) (node s h (leaf_digests s h second) x k) (node s h (leaf_digests s h second) (x + 2 ^ k) k) ∷ (slow_inputs s h second x k ++ slow_inputs s h second (x + 2 ^ k) k))
      → h.digest (node_input h (s.position x (suc k)) (node s h (leaf_digests s h second) x k) (node s h (leaf_digests s h second) (x + 2 ^ k) k))
      ≡ h.digest (node_input h (s.position x (suc k)) (node s h (leaf_digests s h first) x k) (node s h (leaf_digests s h first) (x + 2 ^ k) k))
      → Or (Same x (suc k))
  inner_same x k left right wf ws i j e =
      let two : 2 ^ suc k ≡ 2 ^ k * 2 = pow-suc 2 k in
      let f = node s h (leaf_digests s h first) in
      let g = node s h (leaf_digests s h second) in
      let i_rest = in_rest h inputs size exact one_size _ _ i in
      let j_rest = in_rest h inputs size exact one_size _ _ j in
      and_then h inputs size exact one_size
      (same_or_clash h inputs size exact one_size (node_input h (s.position x (suc k)) (g x k) (g (x + 2 ^ k) k)) (node_input h (s.position x (suc k)) (f x k) (f (x + 2 ^ k) k))
      (in_first h inputs size exact one_size _ (slow_inputs s h second x k ++ slow_inputs s h second (x + 2 ^ k) k) j) (in_first h inputs size exact one_size _ (slow_inputs s h first x k ++ slow_inputs s h first (x + 2 ^ k) k) i) e)
      (λ t. let halves = node_input_is s h inputs size exact one_size first everywhere item under (s.position x (suc k)) (g x k) (g (x + 2 ^ k) k) (f x k) (f (x + 2 ^ k) k)
      (sized_node s h inputs size exact one_size second everywhere item under x k) (sized_node s h inputs size exact one_size first everywhere item under x k) t in
      and_then h inputs size exact one_size
      (left (omega arith) (omega arith) (in_left h inputs size exact one_size _ _ i_rest) (in_left h inputs size exact one_size _ _ j_rest) halves.0)
      (λ same_left. and_then h inputs size exact one_size
      (right (omega arith) (omega arith) (in_right h inputs size exact one_size (slow_inputs s h first x k) _ i_rest) (in_right h inputs size exact one_size (slow_inputs s h second x k) _ j_rest) halves.1)
      (λ same_right. inl (both_shown s h inputs size exact one_size first everywhere item under x k same_left same_right))))

  node_same : (x k : ℕ) → IsSame x k
  unfolding slow_inputs node
  node_same x zero wf ws i j e = leaf_same x wf ws i j e
  node_same x (suc k) wf ws i j e = inner_same x k (node_same x k) (node_same (x + 2 ^ k) k) wf ws i j e

  -- ---- node behind node

  abbrev SameAt : ℕ × ℕ → Type 0
  SameAt p = Same p.0 p.1

  abbrev IsWithin : List (List ℕ) → ℕ × ℕ → Type 0
  IsWithin elements p = Within s h inputs size exact one_size elements everywhere item under p

  over_same : (ps : List (ℕ × ℕ)) → AllByRecursion (IsWithin first) ps → AllByRecursion (IsWithin second) ps
      → In (flat_map (λ p. slow_inputs s h first p.0 p.1) ps) → In (flat_map (λ p. slow_inputs s h second p.0 p.1) ps)
      → map (node_of s h (leaf_digests s h second)) ps ≡ map (node_of s h (leaf_digests s h first)) ps → Or (AllByRecursion SameAt ps)
  over_same [] wf ws i j e = inl tt
  over_same (p ∷ ps) wf ws i j e =
      let head : node_of s h (leaf_digests s h second) p ≡ node_of s h (leaf_digests s h first) p = ap (λ (ds : List D). get_or ds 0 (node_of s h (leaf_digests s h second) p)) e in
      let tail : map (node_of s h (leaf_digests s h second)) ps ≡ map (node_of s h (leaf_digests s h first)) ps = ap (λ (ds : List D). drop 1 ds) e in
      and_then h inputs size exact one_size
      (node_same p.0 p.1 wf.0 ws.0 (in_left h inputs size exact one_size _ _ i) (in_left h inputs size exact one_size _ _ j) head)
      (λ here. and_then h inputs size exact one_size
      (over_same ps wf.1 ws.1 (in_right h inputs size exact one_size (slow_inputs s h first p.0 p.1) _ i) (in_right h inputs size exact one_size (slow_inputs s h second p.0 p.1) _ j) tail)
      (λ rest. inl (here, rest)))

  -- ---- both whole lists

  module _ (stand : (n : ℕ) → PeaksStand s (made s n) n (s.heights n)) where
    within : (elements : List (List ℕ)) (n : ℕ) → n ≤ length elements → AllByRecursion (IsWithin elements) (peaks s n)
    within elements n le =
        all-reverse (IsWithin elements) (peaks_down n (s.heights n)) (peaks_within s h inputs size exact one_size elements everywhere item under (made s n) n (s.heights n) le (stand n))

    are_one : length first ≡ length second → AllByRecursion SameAt (peaks s (length first)) → first ≡ second
    are_one e shown =
        let n = length first in
        let down = subst (AllByRecursion SameAt) (reverse-reverse (peaks_down n (s.heights n))) (all-reverse SameAt (peaks s n) shown) in
        ext_get_or [] first second e (λ y lt. sym (covered s h inputs size exact one_size first everywhere item under (made s n) n (s.heights n) (stand n) down y lt refl))

    peaks_same : length first ≡ length second
        → In (flat_map (λ p. slow_inputs s h first p.0 p.1) (peaks s (length first))) → In (flat_map (λ p. slow_inputs s h second p.0 p.1) (peaks s (length second)))
        → map (node_of s h (leaf_digests s h first)) (peaks s (length first)) ≡ map (node_of s h (leaf_digests s h second)) (peaks s (length second)) → Or (first ≡ second)
    peaks_same e i j same =
        let n = length first in
        and_then h inputs size exact one_size
        (over_same (peaks s n) (within first n (omega arith)) (within second n (omega (arith, e))) i
        (subst (λ (l : ℕ). In (flat_map (λ p. slow_inputs s h second p.0 p.1) (peaks s l))) (sym e) j)
        (ap (λ (l : ℕ). map (node_of s h (leaf_digests s h second)) (peaks s l)) e ∙ sym same))
        (λ shown. inl (are_one e shown))

module _ {D : Type 0} (s : Shape) (h : Hashing D) (size : ℕ) (exact : (a b : D) → h.bytes a ≡ h.bytes b → a ≡ b) (one_size : (m : List ℕ) → length (h.bytes (h.digest m)) ≡ size) (stand : (n : ℕ) → PeaksStand s (made s n) n (s.heights n)) where
  root_is : (b : Bagging) (elements : List (List ℕ)) (k : ℕ) → root s h (leaf_digests s h elements) k b ≡ root_over h (length elements) (map (node_of s h (leaf_digests s h elements)) (peaks s (length elements))) k b
  root_is b elements k = ap (λ l. root_over h l (map (node_of s h (leaf_digests s h elements)) (peaks s l)) k b) (length-leaf_digests s h elements)

  pub one_root : (b : Bagging) (first second : List (List ℕ)) (j k : ℕ) → length first ≤ 2 ^ 62 → length second ≤ 2 ^ 62 → j ≤ length (s.heights (length first)) → k ≤ length (s.heights (length second))
      → root s h (leaf_digests s h first) j b ≡ root s h (leaf_digests s h second) k b
      → ((first ≡ second) × (j ≡ k)) ⊎ Clash h (tree_inputs s h first j b ++ tree_inputs s h second k b)
  one_root b first second j k few_first few_second le_j le_k e =
      let m = length first in
      let n = length second in
      let inputs = tree_inputs s h first j b ++ tree_inputs s h second k b in
      let item = element_of s h second in
      let all : AllIn h inputs size exact one_size inputs = λ x x_in. x_in in
      let in_one = in_left h inputs size exact one_size (tree_inputs s h first j b) (tree_inputs s h second k b) all in
      let in_other = in_right h inputs size exact one_size (tree_inputs s h first j b) (tree_inputs s h second k b) all in
      let ds = map (node_of s h (leaf_digests s h first)) (peaks s m) in
      let es = map (node_of s h (leaf_digests s h second)) (peaks s n) in
      let same_root : root_over h m ds j b ≡ root_over h n es k b = sym (root_is b first j) ∙ e ∙ root_is b second k in
      let f1 = few_peaks s (made s m) m (s.heights m) (stand m) in
      let f2 = few_peaks s (made s n) n (s.heights n) (stand n) in
      let all_met = under s h inputs size exact one_size first second in
      and_then h inputs size exact one_size
      (roots_is h inputs size exact one_size m n j k b ds es (omega arith) (omega arith) (omega arith) (omega arith)
      (λ q. length-map (peaks s m) (node_of s h (leaf_digests s h first)) ∙ ap (λ l. length (peaks s l)) q ∙ sym (length-map (peaks s n) (node_of s h (leaf_digests s h second))))
      (sized_nodes s h inputs size exact one_size first everywhere item all_met (peaks s m)) (sized_nodes s h inputs size exact one_size second everywhere item all_met (peaks s n))
      (in_right h inputs size exact one_size (flat_map (λ p. slow_inputs s h first p.0 p.1) (peaks s m)) _ in_one)
      (in_right h inputs size exact one_size (flat_map (λ p. slow_inputs s h second p.0 p.1) (peaks s n)) _ in_other) same_root)
      (λ r. and_then h inputs size exact one_size
      (peaks_same s h inputs size exact one_size first second stand r.0 (in_left h inputs size exact one_size _ _ in_one) (in_left h inputs size exact one_size _ _ in_other) r.2)
      (λ one. inl (one, r.1)))
