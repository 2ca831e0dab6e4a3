-- What accepted pins are: the peaks of the first leaves, or two inputs clash.
use Rattle.std.proofs.Common.{◌≡◌, ℕ, zero, suc, ◌+◌, ◌^◌, ◌<◌, ◌≤◌, inl, inr, cond, List, [], ◌∷◌, ◌++◌, length, map, take, Some, refl, sym, ◌∙◌, ap, subst, arith}
use Rattle.std.specs.List.{flat_map, AllByRecursion}
use Rattle.std.proofs.lemmas.Bool.{cases_lt}
use Rattle.std.proofs.lemmas.List.{take-map}
use Rattle.std.proofs.lemmas.List.Elements.{Contains-append_cases}
use Rattle.tree_shape.specs.declared.bagging.Bagging.{Bagging}
use Rattle.tree_shape.specs.Hashing.{Hashing, node_input}
use Rattle.tree_shape.specs.Shape.{Shape, peaks, IsLawful}
use Rattle.tree_shape.specs.Slow.{leaf, leaf_digests, node_of}
use Rattle.tree_shape.specs.Root.{root}
use Rattle.tree_shape.specs.Kept.{KeepsPeaks}
use Rattle.tree_proof.specs.declared.proof.Proof.{Proof}
use Rattle.tree_proof.specs.Cover.{Opened, meets, cover, cover_over}
use Rattle.tree_proof.specs.Check.{rebuilt_over, all_used, wholly_rebuilt, Checks}
use Rattle.tree_proof.specs.Inputs.{slow_inputs, tree_inputs, from_some, leaf_by, rebuilt_inputs, rebuilt_over_inputs, proof_inputs, pin_inputs, ShowsPins}
use Rattle.tree_proof.specs.Pinned.{above_pins, left_of, HasPins}
use Rattle.tree_proof.proofs.CoverCount.{some_bind}
use Rattle.tree_proof.proofs.RebuildLemmas.{append_nil}
use Rattle.tree_proof.proofs.LeftLemmas.{left_in, left-here, left-none, left_over, left-cover, over-ends}
use Rattle.tree_proof.proofs.Rises.{cover-rises, left-leads}
use Rattle.tree_proof.proofs.PinsComplete.{Made, AreMade, above, Left, left-are-made, pins-cover, same-rebuilt, same-wholly, left-split}
use Rattle.tree_proof.proofs.Clashes.{EachSized, AllIn, OrClash, and_then, in_left, in_right, in_rest}
use Rattle.tree_proof.proofs.Soundness.{used_is, none_left, over_shown, each_sized, shown_in, IsShown}

module _ {D : Type 0} (h : Hashing D) (inputs : List (List ℕ)) (size : ℕ) (exact : (a b : D) → h.bytes a ≡ h.bytes b → a ≡ b) (one_size : (m : List ℕ) → length (h.bytes (h.digest m)) ≡ size) where
  abbrev In : List (List ℕ) → Type 0
  In ms = AllIn h inputs size exact one_size ms

  in-none : In []
  in-none m c = absurd (let lt = c.1 in omega (arith, lt))

  in-both : (ms ns : List (List ℕ)) → In ms → In ns → In (ms ++ ns)
  in-both ms ns f g m c = elim (Contains-append_cases ms ns m c) [
    | inl d ↦ f m d
    | inr d ↦ g m d
  ]

module _ {D : Type 0} (s : Shape) (w : IsLawful s) (q : KeepsPeaks s) (h : Hashing D) (inputs : List (List ℕ)) (size : ℕ) (exact : (a b : D) → h.bytes a ≡ h.bytes b → a ≡ b) (one_size : (m : List ℕ) → length (h.bytes (h.digest m)) ≡ size)
    (elements : List (List ℕ)) (a : ℕ) (few : a ≤ length elements) where
  abbrev no_item : ℕ → List ℕ
  no_item x = []

  abbrev hashed_above : Opened
  hashed_above = above s w q (length elements) a few

  abbrev slow_of : ℕ × ℕ → List (List ℕ)
  slow_of p = slow_inputs s h elements p.0 p.1

  -- no leaf is hashed
  same-inputs : (x k : ℕ) → Made s w q (length elements) a few x k → (ds : List D) → rebuilt_inputs s h (above_pins s a) no_item x k ds ≡ rebuilt_inputs s h hashed_above no_item x k ds
  unfolding rebuilt_inputs
  same-inputs x zero m ds = rw m refl
  same-inputs x (suc k) (inl m) ds = rw m refl
  same-inputs x (suc k) (inr p) ds =
      λ i. cond (hashed_above x (suc k)) (same-inputs x k p.0 ds i
      ++ from_some s h (λ left. same-inputs (x + 2 ^ k) k p.1 left.1 i ++ from_some s h (λ right. node_input h (s.position x (suc k)) left.0 right.0 ∷ []) (same-rebuilt s w q (length elements) a few h (leaf_by s h no_item) (x + 2 ^ k) k p.1 left.1 i)) (same-rebuilt s w q (length elements) a few h (leaf_by s h no_item) x k p.0 ds i)) []

  same-over-inputs : (ps : List (ℕ × ℕ)) → AreMade s w q (length elements) a few ps → (ds : List D) → rebuilt_over_inputs s h (above_pins s a) no_item ps ds ≡ rebuilt_over_inputs s h hashed_above no_item ps ds
  unfolding rebuilt_over_inputs
  same-over-inputs [] m ds = refl
  same-over-inputs (p ∷ ps) m ds =
      λ i. same-inputs p.0 p.1 m.0 ds i ++ from_some s h (λ first. same-over-inputs ps m.1 first.1 i) (same-rebuilt s w q (length elements) a few h (leaf_by s h no_item) p.0 p.1 m.0 ds i)

  -- the inputs of a node have those of its halves
  in-halves : (x k : ℕ) → In h inputs size exact one_size (slow_inputs s h elements x (suc k)) → In h inputs size exact one_size (slow_inputs s h elements x k) × In h inputs size exact one_size (slow_inputs s h elements (x + 2 ^ k) k)
  unfolding slow_inputs
  in-halves x k i =
      let rest = in_rest h inputs size exact one_size _ _ i in
      (in_left h inputs size exact one_size _ _ rest, in_right h inputs size exact one_size (slow_inputs s h elements x k) _ rest)

  in-append : (ps qs : List (ℕ × ℕ)) → In h inputs size exact one_size (flat_map slow_of ps) → In h inputs size exact one_size (flat_map slow_of qs) → In h inputs size exact one_size (flat_map slow_of (ps ++ qs))
  in-append [] qs f g = g
  in-append (p ∷ ps) qs f g = in-both h inputs size exact one_size (slow_of p) (flat_map slow_of (ps ++ qs)) (in_left h inputs size exact one_size (slow_of p) (flat_map slow_of ps) f) (in-append ps qs (in_right h inputs size exact one_size (slow_of p) (flat_map slow_of ps) f) g)

  in-one : (x k : ℕ) → In h inputs size exact one_size (slow_inputs s h elements x k) → In h inputs size exact one_size (flat_map slow_of ((x, k) ∷ []))
  in-one x k i = in-both h inputs size exact one_size (slow_of (x, k)) [] i (in-none h inputs size exact one_size)

  in-left : (x k : ℕ) → In h inputs size exact one_size (slow_inputs s h elements x k) → In h inputs size exact one_size (flat_map slow_of (left_in a x k))
  in-left x zero i = elim (cases_lt a (x + 2 ^ 0)) [
    | inl lt ↦ subst (λ ps. In h inputs size exact one_size (flat_map slow_of ps)) (sym (left-none a x 0 lt (omega (arith, lt)))) (in-none h inputs size exact one_size)
    | inr ge ↦ subst (λ ps. In h inputs size exact one_size (flat_map slow_of ps)) (sym (left-here a x 0 ge)) (in-one x 0 i)
  ]
  in-left x (suc k) i = elim (cases_lt a (x + 2 ^ suc k)) [
    | inr ge ↦ subst (λ ps. In h inputs size exact one_size (flat_map slow_of ps)) (sym (left-here a x (suc k) ge)) (in-one x (suc k) i)
    | inl lt ↦ elim (cases_lt x a) [
      | inr past ↦ subst (λ ps. In h inputs size exact one_size (flat_map slow_of ps)) (sym (left-none a x (suc k) lt past)) (in-none h inputs size exact one_size)
      | inl below ↦ let both = in-halves x k i in
          subst (λ ps. In h inputs size exact one_size (flat_map slow_of ps)) (sym (left-split s w q (length elements) a few x k lt below)) (in-append (left_in a x k) (left_in a (x + 2 ^ k) k) (in-left x k both.0) (in-left (x + 2 ^ k) k both.1))
    ]
  ]

  in-over : (ps : List (ℕ × ℕ)) → In h inputs size exact one_size (flat_map slow_of ps) → In h inputs size exact one_size (flat_map slow_of (left_over a ps))
  in-over [] i = i
  in-over (p ∷ ps) i =
      in-append (left_in a p.0 p.1) (left_over a ps) (in-left p.0 p.1 (in_left h inputs size exact one_size (slow_of p) (flat_map slow_of ps) i)) (in-over ps (in_right h inputs size exact one_size (slow_of p) (flat_map slow_of ps) i))

  within : (ps : List (ℕ × ℕ)) → AllByRecursion (λ p. p.0 + 2 ^ p.1 ≤ a) ps → AllByRecursion (λ p. p.0 + 2 ^ p.1 ≤ length elements) ps
  within [] e = tt
  within (p ∷ ps) e = (let le = e.0 in omega (arith, le, few), within ps e.1)

  -- pins that hash to the slow nodes left of a are the peaks of a leaves
  pub pins-shown : (pins : List D) → EachSized h inputs size exact one_size pins → In h inputs size exact one_size (flat_map slow_of (peaks s (length elements)))
      → In h inputs size exact one_size (rebuilt_over_inputs s h (above_pins s a) no_item (Left s w q (length elements) a few) pins)
      → wholly_rebuilt s h (above_pins s a) (λ x. leaf s h x []) (Left s w q (length elements) a few) pins ≡ Some (map (node_of s h (leaf_digests s h elements)) (Left s w q (length elements) a few))
      → OrClash h inputs size exact one_size (pins ≡ map (node_of s h (leaf_digests s h elements)) (peaks s a))
  pins-shown pins ss in_tree in_pins hashed =
      let n = length elements in
      let ls = Left s w q n a few in
      let are_made = left-are-made s w q n a few in
      let slow = node_of s h (leaf_digests s h elements) in
      let whole = sym (same-wholly s w q n a few h (leaf_by s h no_item) ls are_made pins) ∙ hashed in
      let r = some_bind (λ r. all_used r.0 r.1) (rebuilt_over s h hashed_above (leaf_by s h no_item) ls pins) (map slow ls) whole in
      let used = used_is r.0.0 r.0.1 (map slow ls) r.2 in
      let none = none_left r.0.0 r.0.1 (map slow ls) r.2 in
      and_then h inputs size exact one_size
      (over_shown s h inputs size exact one_size elements hashed_above no_item (λ x k y le lt m. absurd (cc)) ls pins r.0 (within ls (over-ends a (peaks s n))) ss (in-over (peaks s n) in_tree)
      (subst (In h inputs size exact one_size) (same-over-inputs ls are_made pins) in_pins) r.1 used)
      (λ shown. inl (shown.1 ∙ ap (λ ds. map slow (cover_over hashed_above ls) ++ ds) none ∙ append_nil _ ∙ ap (map slow) (sym (pins-cover s w q n a few))))

module _ {F D : Type 0} (s : Shape) (w : IsLawful s) (q : KeepsPeaks s) (h : Hashing D) (size : ℕ) (exact : (a b : D) → h.bytes a ≡ h.bytes b → a ≡ b) (one_size : (m : List ℕ) → length (h.bytes (h.digest m)) ≡ size)
    (b : Bagging) (elements : List (List ℕ)) (k : ℕ) (proof : Proof F D) (a : ℕ) (items : List (List ℕ)) (pins : List D) where
  abbrev tree : List (List ℕ)
  tree = tree_inputs s h elements k b

  abbrev check : List (List ℕ)
  check = proof_inputs s h b proof a items

  abbrev hashed : List (List ℕ)
  hashed = pin_inputs s h proof a (length items) pins

  abbrev inputs : List (List ℕ)
  inputs = tree ++ (check ++ hashed)

  abbrev slow : ℕ × ℕ → D
  slow = node_of s h (leaf_digests s h elements)

  abbrev met : Opened
  met = meets a (a + length items)

  in_tree : AllIn h inputs size exact one_size tree
  in_tree = in_left h inputs size exact one_size tree (check ++ hashed) (λ x i. i)

  in_others : AllIn h inputs size exact one_size (check ++ hashed)
  in_others = in_right h inputs size exact one_size tree (check ++ hashed) (λ x i. i)

  pins_of : 0 < length items → a + length items ≤ proof.leaves → AllByRecursion (λ d. length (h.bytes d) ≡ size) pins → HasPins s h proof a (length items) pins → IsShown s h size exact one_size w.peaks elements proof a items
      → OrClash h inputs size exact one_size (pins ≡ map slow (peaks s a))
  pins_of some within_leaves whole_pins has shown =
      let n = length elements in
      let leaves : proof.leaves ≡ n = shown.leaves in
      let past : a < a + length items = omega (arith, some) in
      let le : a ≤ n = omega (arith, within_leaves, leaves) in
      let cov = cover s met n in
      let left = left_of a cov in
      let are : left_over a (peaks s n) ≡ left = left-cover a (a + length items) past (peaks s n) in
      let here : left_of a (cover s met proof.leaves) ≡ left_over a (peaks s n) = ap (λ m. left_of a (cover s met m)) leaves ∙ sym are in
      let front : take (length left) proof.digests ≡ map slow left =
      ap (take (length left)) shown.digests ∙ take-map slow (length left) cov ∙ ap (map slow) (left-leads a 0 cov (cover-rises met s n (w.peaks n))) in
      let hash : wholly_rebuilt s h (above_pins s a) (λ x. leaf s h x []) (left_over a (peaks s n)) pins ≡ Some (map slow (left_over a (peaks s n))) =
      ap (λ ps. wholly_rebuilt s h (above_pins s a) (λ x. leaf s h x []) ps pins) (sym here) ∙ has.hashed
      ∙ ap (λ ps. Some (take (length ps) proof.digests)) (here ∙ are) ∙ ap Some front ∙ ap (λ ps. Some (map slow ps)) (sym are) in
      let in_hashed : AllIn h inputs size exact one_size (rebuilt_over_inputs s h (above_pins s a) (λ x. []) (left_over a (peaks s n)) pins) =
      subst (λ ps. AllIn h inputs size exact one_size (rebuilt_over_inputs s h (above_pins s a) (λ x. []) ps pins)) here (in_right h inputs size exact one_size check hashed in_others) in
      pins-shown s w q h inputs size exact one_size elements a le pins (each_sized s h size exact one_size w.peaks inputs pins whole_pins)
      (in_left h inputs size exact one_size (flat_map (λ p. slow_inputs s h elements p.0 p.1) (peaks s n)) _ in_tree) in_hashed hash

  pub pins-sound : length elements ≤ 2 ^ 62 → k ≤ length (s.heights (length elements)) → AllByRecursion (λ d. length (h.bytes d) ≡ size) proof.digests → AllByRecursion (λ d. length (h.bytes d) ≡ size) pins
      → Checks s h b proof a items (root s h (leaf_digests s h elements) k b) → HasPins s h proof a (length items) pins → ShowsPins s h b elements k proof a items pins
  pins-sound few le_k whole whole_pins c has =
      and_then h inputs size exact one_size
      (shown_in s h size exact one_size w.peaks inputs b elements k proof a items few le_k whole c in_tree (in_left h inputs size exact one_size check hashed in_others))
      (pins_of c.bounds.some c.bounds.within whole_pins has)
