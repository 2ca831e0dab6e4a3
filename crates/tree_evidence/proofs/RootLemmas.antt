-- Two trees with one root.
use Rattle.std.proofs.Common.{◌≡◌, ℕ, zero, suc, ◌<◌, ◌≤◌, ◌^◌, List, [], ◌∷◌, length, map, drop, get_or, inl, inr, refl, sym, ◌∙◌, ap, subst, arith}
use Rattle.std.specs.Prelude.{slice_get}
use Rattle.std.specs.List.{Contains, flat_map}
use Rattle.std.proofs.lemmas.Bool.{cases_lt}
use Rattle.std.proofs.lemmas.List.{length-map}
use Rattle.std.proofs.lemmas.List.Elements.{Contains-append_left, Contains-append_right}
use Rattle.std.proofs.lemmas.Option.{slice_get_past}
use Rattle.tree_shape.specs.declared.bagging.Bagging.{Bagging}
use Rattle.tree_shape.specs.Hashing.{Hashing}
use Rattle.tree_shape.specs.Shape.{Shape, peaks}
use Rattle.tree_shape.specs.Slow.{leaf_digests, node, node_of}
use Rattle.tree_shape.specs.Root.{folded_bytes, root_input, root}
use Rattle.tree_proof.specs.Inputs.{slow_inputs, fold_inputs, root_inputs, tree_inputs}
use Rattle.tree_proof.proofs.InputLemmas.{SameRoots, root_input_same, in_flat_map}
use Rattle.tree_evidence.specs.Evidence.{IsClash}
use Rattle.tree_evidence.proofs.ClashLemmas.{among_more}
use Rattle.tree_evidence.proofs.FoldLemmas.{clash_in_front, behind}
use Rattle.tree_evidence.proofs.TreeLemmas.{root_is}

-- lists of one length that differ somewhere do so within it
pub place_within : {X : Type 0} (xs ys : List X) (i : ℕ) → length xs ≡ length ys → (slice_get xs i ≡ slice_get ys i → ⊥) → i < length xs
place_within xs ys i l differ = elim (cases_lt i (length xs)) [
  | inl lt ↦ lt
  | inr le ↦ absurd (differ (slice_get_past xs i le ∙ sym (slice_get_past ys i (omega (arith, l, le)))))
]

-- equal results have equal members
member_same : {X A : Type 0} (f g : X → A) (xs : List X) (x : X) (k : ℕ) → map f xs ≡ map g xs → k < length xs → get_or xs k x ≡ x → f x ≡ g x
member_same f g [] x k e lt q = absurd (omega (arith, lt))
member_same f g (z ∷ xs) x zero e lt q = let head : f z ≡ g z = ap (λ ys. get_or ys 0 (f z)) e in ap f (sym q) ∙ head ∙ ap g q
member_same f g (z ∷ xs) x (suc k) e lt q = member_same f g xs x k (ap (drop 1) e) (omega (arith, lt)) q

module _ {D : Type 0} (s : Shape) (h : Hashing D) (bagging : Bagging) (a b : List (List ℕ)) (j k : ℕ) where
  -- the peaks of each tree
  abbrev pub pa : List D
  pa = map (node_of s h (leaf_digests s h a)) (peaks s (length a))

  abbrev pub pb : List D
  pb = map (node_of s h (leaf_digests s h b)) (peaks s (length b))

  abbrev pub TreesClash : List ℕ → List ℕ → Type 0
  TreesClash u v = IsClash h (tree_inputs s h a j bagging) (tree_inputs s h b k bagging) u v

  -- the roots' inputs
  abbrev pub ra : List ℕ
  ra = root_input (length a) j bagging (folded_bytes h bagging j pa)

  abbrev pub rb : List ℕ
  rb = root_input (length b) k bagging (folded_bytes h bagging k pb)

  below_roots : (u v : List ℕ) → IsClash h (root_inputs h (length a) j bagging pa) (root_inputs h (length b) k bagging pb) u v → TreesClash u v
  below_roots u v c = among_more h _ _ _ _ u v (λ m. Contains-append_right (flat_map (λ p. slow_inputs s h a p.0 p.1) (peaks s (length a))) _ m) (λ m. Contains-append_right (flat_map (λ p. slow_inputs s h b p.0 p.1) (peaks s (length b))) _ m) c

  pub roots_clash : (u v : List ℕ) → u ≡ ra → v ≡ rb → (u ≡ v → ⊥) → root s h (leaf_digests s h a) j bagging ≡ root s h (leaf_digests s h b) k bagging → TreesClash u v
  roots_clash u v eu ev differ same =
      below_roots u v (clash_in_front h ra rb _ _ u v eu ev differ (root_is s h a bagging j pa refl ∙ same ∙ sym (root_is s h b bagging k pb refl)))

  pub folds_clash : (u v : List ℕ) (ps qs : List D) → ps ≡ pa → qs ≡ pb → j ≡ k → IsClash h (fold_inputs h bagging j ps) (fold_inputs h bagging j qs) u v → TreesClash u v
  folds_clash u v ps qs ep eq e c =
      let these : IsClash h (fold_inputs h bagging j pa) (fold_inputs h bagging j pb) u v = subst (λ ds. IsClash h (fold_inputs h bagging j pa) (fold_inputs h bagging j ds) u v) eq (subst (λ ds. IsClash h (fold_inputs h bagging j ds) (fold_inputs h bagging j qs) u v) ep c) in
      let there : IsClash h (fold_inputs h bagging j pa) (fold_inputs h bagging k pb) u v = subst (λ i. IsClash h (fold_inputs h bagging j pa) (fold_inputs h bagging i pb) u v) e these in
      below_roots u v (among_more h _ _ _ _ u v (behind h ra _) (behind h rb _) there)

  pub below_clash : (x i : ℕ) (u v : List ℕ) → length a ≡ length b → Contains (peaks s (length a)) (x, i) → IsClash h (slow_inputs s h a x i) (slow_inputs s h b x i) u v → TreesClash u v
  below_clash x i u v l p c =
      let q : Contains (peaks s (length b)) (x, i) = subst (λ n. Contains (peaks s n) (x, i)) l p in
      among_more h _ _ _ _ u v
      (λ m d. Contains-append_left _ (root_inputs h (length a) j bagging pa) m (in_flat_map (λ p. slow_inputs s h a p.0 p.1) (peaks s (length a)) (x, i) m p d))
      (λ m d. Contains-append_left _ (root_inputs h (length b) k bagging pb) m (in_flat_map (λ p. slow_inputs s h b p.0 p.1) (peaks s (length b)) (x, i) m q d))
      c

  -- the root's input by the digests of its peaks
  pub first_root : (u : List ℕ) (ps : List D) → ps ≡ pa → u ≡ root_input (length a) j bagging (folded_bytes h bagging j ps) → u ≡ ra
  first_root u ps e f = f ∙ ap (λ ds. root_input (length a) j bagging (folded_bytes h bagging j ds)) e

  pub second_root : (v : List ℕ) (qs : List D) → qs ≡ pb → v ≡ root_input (length b) k bagging (folded_bytes h bagging k qs) → v ≡ rb
  second_root v qs e f = f ∙ ap (λ ds. root_input (length b) k bagging (folded_bytes h bagging k ds)) e

  -- equal inputs of the roots
  pub same_roots : length a ≤ 2 ^ 62 → length b ≤ 2 ^ 62 → j < 2 ^ 64 → k < 2 ^ 64 → ra ≡ rb → SameRoots (length a) (length b) j k (folded_bytes h bagging j pa) (folded_bytes h bagging k pb)
  same_roots fa fb fj fk e = root_input_same (length a) (length b) j k bagging (folded_bytes h bagging j pa) (folded_bytes h bagging k pb) (omega (arith, fa)) (omega (arith, fb)) fj fk e

  pub same_folded : (ps qs : List D) → ps ≡ pa → qs ≡ pb → j ≡ k → folded_bytes h bagging j pa ≡ folded_bytes h bagging k pb → folded_bytes h bagging j ps ≡ folded_bytes h bagging j qs
  same_folded ps qs ep eq e f = ap (folded_bytes h bagging j) ep ∙ f ∙ ap (λ i. folded_bytes h bagging i pb) (sym e) ∙ sym (ap (folded_bytes h bagging j) eq)

  pub same_count : length a ≡ length b → length pa ≡ length pb
  same_count l = length-map (peaks s (length a)) (node_of s h (leaf_digests s h a)) ∙ ap (λ n. length (peaks s n)) l ∙ sym (length-map (peaks s (length b)) (node_of s h (leaf_digests s h b)))

  -- a peak of both
  pub same_peak : (x i : ℕ) → length a ≡ length b → pa ≡ pb → Contains (peaks s (length a)) (x, i) → node s h (leaf_digests s h a) x i ≡ node s h (leaf_digests s h b) x i
  same_peak x i l e c =
      member_same (node_of s h (leaf_digests s h a)) (node_of s h (leaf_digests s h b)) (peaks s (length a)) (x, i) c.0 (e ∙ ap (λ n. map (node_of s h (leaf_digests s h b)) (peaks s n)) (sym l)) c.1 c.2
