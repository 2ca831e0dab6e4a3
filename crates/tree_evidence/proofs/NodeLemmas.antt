-- Nodes of two trees that have one digest.
use Rattle.std.proofs.Common.{◌≡◌, ℕ, zero, suc, ◌+◌, ◌-◌, ◌^◌, ◌<◌, List, [], length, get_or, Some, refl, sym, ◌∙◌, ap, arith}
use Rattle.std.specs.Prelude.{slice_get}
use Rattle.std.proofs.lemmas.List.Elements.{Contains-append_left, Contains-append_right}
use Rattle.tree_shape.specs.Hashing.{Hashing, leaf_input, node_input}
use Rattle.tree_shape.specs.Shape.{Shape}
use Rattle.tree_shape.specs.Slow.{leaf_digests, node}
use Rattle.tree_proof.specs.Inputs.{input_of, element_of, slow_inputs}
use Rattle.tree_proof.proofs.Complete.{leaf_digests-at}
use Rattle.tree_proof.proofs.InputLemmas.{leaf_input_same}
use Rattle.tree_evidence.specs.Evidence.{IsClash}
use Rattle.tree_evidence.proofs.ClashLemmas.{among_more}
use Rattle.tree_evidence.proofs.FoldLemmas.{clash_in_front, behind}
use Rattle.tree_evidence.proofs.DifferenceLemmas.{reads}

module _ {D : Type 0} (s : Shape) (h : Hashing D) where
  pub leaf_is : (pos q : ℕ) (x y : List ℕ) → pos ≡ q → x ≡ y → leaf_input pos x ≡ leaf_input q y
  leaf_is pos q x y e f = rw (e, f) refl

  pub node_is : (pos q : ℕ) (l r l1 r1 : D) → pos ≡ q → l ≡ l1 → r ≡ r1 → node_input h pos l r ≡ node_input h q l1 r1
  node_is pos q l r l1 r1 e f f1 = rw (e, f, f1) refl

  module _ (a b : List (List ℕ)) where
    -- the node of each tree
    abbrev pub na : ℕ → ℕ → D
    na x k = node s h (leaf_digests s h a) x k

    abbrev pub nb : ℕ → ℕ → D
    nb x k = node s h (leaf_digests s h b) x k

    abbrev pub Clashes : ℕ → ℕ → List ℕ → List ℕ → Type 0
    Clashes x k u v = IsClash h (slow_inputs s h a x k) (slow_inputs s h b x k) u v

    leaves_clash_at : (x : ℕ) (u v : List ℕ) → x < length a → x < length b → (slice_get a x ≡ slice_get b x → ⊥) → na x 0 ≡ nb x 0 → u ≡ leaf_input (s.position x 0) (get_or a x []) → v ≡ leaf_input (s.position x 0) (get_or b x []) → Clashes x 0 u v
    unfolding slow_inputs node
    leaves_clash_at x u v la lb differ same eu ev =
        clash_in_front h (input_of s h (element_of s h a) x) (input_of s h (element_of s h b) x) [] [] u v eu ev
        (λ q. differ (reads a x [] la ∙ ap (λ (i : List ℕ). Some i) (leaf_input_same (s.position x 0) (get_or a x []) (get_or b x []) (sym eu ∙ q ∙ ev)) ∙ sym (reads b x [] lb)))
        (leaf_digests-at s h a x la ∙ same ∙ sym (leaf_digests-at s h b x lb))

    -- two leaves with one digest, where the lists differ
    pub leaves_clash : (x k : ℕ) (u v : List ℕ) → k ≡ 0 → x < length a → x < length b → (slice_get a x ≡ slice_get b x → ⊥) → na x k ≡ nb x k
        → u ≡ leaf_input (s.position x k) (get_or a x []) → v ≡ leaf_input (s.position x k) (get_or b x []) → Clashes x k u v
    leaves_clash x zero u v z la lb differ same eu ev = leaves_clash_at x u v la lb differ same eu ev
    leaves_clash x (suc k) u v z la lb differ same eu ev = absurd (omega (arith, z))

    -- two nodes with one digest, whose halves aren't the same
    pub halves_clash : (x k : ℕ) (u v : List ℕ) → 0 < k → na x k ≡ nb x k
        → u ≡ node_input h (s.position x k) (na x (k - 1)) (na (x + 2 ^ (k - 1)) (k - 1)) → v ≡ node_input h (s.position x k) (nb x (k - 1)) (nb (x + 2 ^ (k - 1)) (k - 1))
        → (u ≡ v → ⊥) → Clashes x k u v
    unfolding slow_inputs node
    halves_clash x zero u v some same eu ev differ = absurd (omega (arith, some))
    halves_clash x (suc k) u v some same eu ev differ =
        let q : suc k - 1 ≡ k = omega arith in
        clash_in_front h _ _ _ _ u v (rw q at eu) (rw q at ev) differ same

    -- a clash below one half
    pub left_clash : (x k : ℕ) (u v : List ℕ) → 0 < k → Clashes x (k - 1) u v → Clashes x k u v
    unfolding slow_inputs
    left_clash x zero u v some c = absurd (omega (arith, some))
    left_clash x (suc k) u v some c =
        let q : suc k - 1 ≡ k = omega arith in
        among_more h _ _ _ _ u v
        (λ m i. behind h _ _ m (Contains-append_left (slow_inputs s h a x k) (slow_inputs s h a (x + 2 ^ k) k) m i))
        (λ m i. behind h _ _ m (Contains-append_left (slow_inputs s h b x k) (slow_inputs s h b (x + 2 ^ k) k) m i))
        (rw q at c)

    pub right_clash : (x k : ℕ) (u v : List ℕ) → 0 < k → Clashes (x + 2 ^ (k - 1)) (k - 1) u v → Clashes x k u v
    unfolding slow_inputs
    right_clash x zero u v some c = absurd (omega (arith, some))
    right_clash x (suc k) u v some c =
        let q : suc k - 1 ≡ k = omega arith in
        among_more h _ _ _ _ u v
        (λ m i. behind h _ _ m (Contains-append_right (slow_inputs s h a x k) (slow_inputs s h a (x + 2 ^ k) k) m i))
        (λ m i. behind h _ _ m (Contains-append_right (slow_inputs s h b x k) (slow_inputs s h b (x + 2 ^ k) k) m i))
        (rw q at c)
