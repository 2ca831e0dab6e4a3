-- Equal digests: equal inputs, or a clash.
use Rattle.std.proofs.Common.{◌≡◌, ℕ, zero, suc, ◌^◌, ◌<◌, ◌⊎◌, inl, inr, true, false, Bool, List, [], ◌∷◌, ◌++◌, length, take, drop, refl, sym, ◌∙◌, ap, subst, arith}
use Rattle.std.specs.List.{Contains}
use Rattle.std.specs.Str.{bytes_eq}
use Rattle.std.specs.Bool.{Decides}
use Rattle.std.proofs.lemmas.List.{take-append-drop, length-take, length-drop}
use Rattle.std.proofs.lemmas.List.Elements.{Contains-append_left, Contains-append_right}
use Rattle.std.proofs.lemmas.Slice.Eq.{bytes_eq-Decides}
use Rattle.tree_shape.specs.declared.bagging.Bagging.{Bagging}
use Rattle.tree_shape.specs.declared.bagging.Bagging.TheVariants.{ForwardFold, BackwardFold}
use Rattle.tree_shape.specs.Hashing.{Hashing, fold_input}
use Rattle.tree_shape.specs.Root.{fold_forward, fold_backward, bagged, folded_bytes, root_input}
use Rattle.tree_proof.specs.Inputs.{Clash, forward_inputs, backward_inputs, bagged_inputs, fold_inputs, root_inputs}
use Rattle.tree_proof.proofs.InputLemmas.{fold_input_same, root_input_same}

module _ {D : Type 0} (h : Hashing D) (inputs : List (List ℕ)) (size : ℕ) (exact : (a b : D) → h.bytes a ≡ h.bytes b → a ≡ b) (one_size : (m : List ℕ) → length (h.bytes (h.digest m)) ≡ size) where
  abbrev pub Sized : D → Type 0
  Sized d = length (h.bytes d) ≡ size

  abbrev pub EachSized : List D → Type 0
  EachSized [] = Unit {0}
  EachSized (d ∷ ds) = Sized d × EachSized ds

  -- each of these is an input
  abbrev pub AllIn : List (List ℕ) → Type 0
  AllIn ms = (m : List ℕ) → Contains ms m → Contains inputs m

  pub same_or_clash : (m n : List ℕ) → Contains inputs m → Contains inputs n → h.digest m ≡ h.digest n → (m ≡ n) ⊎ Clash h inputs
  same_or_clash m n im in_ e = by_test (bytes_eq m n) (bytes_eq-Decides m n)
    where
      by_test : (t : Bool) → Decides t (m ≡ n) → (m ≡ n) ⊎ Clash h inputs
      by_test true d = inl (d.0 refl)
      by_test false d = inr (record { first = m; second = n; has_first = im; has_second = in_; differ = λ q. absurd (let r = d.1 q in cc); same_digest = e })

  pub in_first : (m : List ℕ) (ms : List (List ℕ)) → AllIn (m ∷ ms) → Contains inputs m
  in_first m ms f = f m (0, omega arith, refl)

  pub in_rest : (m : List ℕ) (ms : List (List ℕ)) → AllIn (m ∷ ms) → AllIn ms
  in_rest m ms f n c = f n (Contains-append_right (m ∷ []) ms n c)

  pub in_left : (ms ns : List (List ℕ)) → AllIn (ms ++ ns) → AllIn ms
  in_left ms ns f n c = f n (Contains-append_left ms ns n c)

  pub in_right : (ms ns : List (List ℕ)) → AllIn (ms ++ ns) → AllIn ns
  in_right ms ns f n c = f n (Contains-append_right ms ns n c)

  -- what follows from one fact follows from it or a clash
  abbrev pub OrClash : Type 0 → Type 0
  OrClash P = P ⊎ Clash h inputs

  pub and_then : {P Q : Type 0} → OrClash P → (P → OrClash Q) → OrClash Q
  and_then (inl p) f = f p
  and_then (inr c) f = inr c

  -- ---- folds

  forward_is : (p p1 : D) (qs qs1 : List D) → length qs ≡ length qs1 → Sized p → Sized p1 → EachSized qs → EachSized qs1 → AllIn (forward_inputs h p qs) → AllIn (forward_inputs h p1 qs1)
      → fold_forward h p qs ≡ fold_forward h p1 qs1 → OrClash ((p ≡ p1) × (qs ≡ qs1))
  forward_is p p1 [] [] l s s1 ss ss1 i i1 e = inl (e, refl)
  forward_is p p1 [] (q1 ∷ qs1) l s s1 ss ss1 i i1 e = absurd (omega (arith, l))
  forward_is p p1 (q ∷ qs) [] l s s1 ss ss1 i i1 e = absurd (omega (arith, l))
  forward_is p p1 (q ∷ qs) (q1 ∷ qs1) l s s1 ss ss1 i i1 e =
      and_then (forward_is (h.digest (fold_input h p q)) (h.digest (fold_input h p1 q1)) qs qs1 (omega (arith, l)) (one_size _) (one_size _) ss.1 ss1.1 (in_rest _ _ i) (in_rest _ _ i1) e)
      (λ r. and_then (same_or_clash (fold_input h p q) (fold_input h p1 q1) (in_first _ _ i) (in_first _ _ i1) r.0)
      (λ m. let t = fold_input_same h exact p q p1 q1 (s ∙ sym s1) m in inl (t.0, rw (t.1, r.1) refl)))

  backward_is : (p p1 : D) (qs qs1 : List D) → length qs ≡ length qs1 → Sized p → Sized p1 → EachSized qs → EachSized qs1 → AllIn (backward_inputs h p qs) → AllIn (backward_inputs h p1 qs1)
      → fold_backward h p qs ≡ fold_backward h p1 qs1 → OrClash ((p ≡ p1) × (qs ≡ qs1))
  backward_is p p1 [] [] l s s1 ss ss1 i i1 e = inl (e, refl)
  backward_is p p1 [] (q1 ∷ qs1) l s s1 ss ss1 i i1 e = absurd (omega (arith, l))
  backward_is p p1 (q ∷ qs) [] l s s1 ss ss1 i i1 e = absurd (omega (arith, l))
  backward_is p p1 (q ∷ qs) (q1 ∷ qs1) l s s1 ss ss1 i i1 e =
      and_then (same_or_clash (fold_input h p (fold_backward h q qs)) (fold_input h p1 (fold_backward h q1 qs1)) (in_first _ _ i) (in_first _ _ i1) e)
      (λ m. let t = fold_input_same h exact p (fold_backward h q qs) p1 (fold_backward h q1 qs1) (s ∙ sym s1) m in
      and_then (backward_is q q1 qs qs1 (omega (arith, l)) ss.0 ss1.0 ss.1 ss1.1 (in_rest _ _ i) (in_rest _ _ i1) t.1)
      (λ r. inl (t.0, rw (r.0, r.1) refl)))

  bagged_is : (b : Bagging) (p p1 : D) (qs qs1 : List D) → length qs ≡ length qs1 → Sized p → Sized p1 → EachSized qs → EachSized qs1 → AllIn (bagged_inputs h b p qs) → AllIn (bagged_inputs h b p1 qs1)
      → bagged h b p qs ≡ bagged h b p1 qs1 → OrClash ((p ≡ p1) × (qs ≡ qs1))
  bagged_is ForwardFold p p1 qs qs1 = forward_is p p1 qs qs1
  bagged_is BackwardFold p p1 qs qs1 = backward_is p p1 qs qs1

  sized_take : (n : ℕ) (ds : List D) → EachSized ds → EachSized (take n ds)
  sized_take zero ds s = tt
  sized_take (suc n) [] s = tt
  sized_take (suc n) (d ∷ ds) s = (s.0, sized_take n ds s.1)

  sized_drop : (n : ℕ) (ds : List D) → EachSized ds → EachSized (drop n ds)
  sized_drop zero ds s = s
  sized_drop (suc n) [] s = tt
  sized_drop (suc n) (d ∷ ds) s = sized_drop n ds s.1

  sized_forward : (p : D) (qs : List D) → Sized p → Sized (fold_forward h p qs)
  sized_forward p [] s = s
  sized_forward p (q ∷ qs) s = sized_forward (h.digest (fold_input h p q)) qs (one_size _)

  folded_is : (b : Bagging) (k : ℕ) (ps ps1 : List D) → length ps ≡ length ps1 → EachSized ps → EachSized ps1 → AllIn (fold_inputs h b k ps) → AllIn (fold_inputs h b k ps1)
      → folded_bytes h b k ps ≡ folded_bytes h b k ps1 → OrClash (ps ≡ ps1)
  folded_is b k [] [] l ss ss1 i i1 e = inl refl
  folded_is b k [] (p1 ∷ ps1) l ss ss1 i i1 e = absurd (omega (arith, l))
  folded_is b k (p ∷ ps) [] l ss ss1 i i1 e = absurd (omega (arith, l))
  folded_is b zero (p ∷ ps) (p1 ∷ ps1) l ss ss1 i i1 e =
      and_then (bagged_is b p p1 ps ps1 (omega (arith, l)) ss.0 ss1.0 ss.1 ss1.1 i i1 (exact _ _ e)) (λ r. inl (rw (r.0, r.1) refl))
  folded_is b (suc k) (p ∷ ps) (p1 ∷ ps1) l ss ss1 i i1 e =
      and_then (bagged_is b (fold_forward h p (take k ps)) (fold_forward h p1 (take k ps1)) (drop k ps) (drop k ps1) (omega (arith, l, length-drop k ps, length-drop k ps1))
      (sized_forward p (take k ps) ss.0) (sized_forward p1 (take k ps1) ss1.0) (sized_drop k ps ss.1) (sized_drop k ps1 ss1.1)
      (in_right (forward_inputs h p (take k ps)) _ i) (in_right (forward_inputs h p1 (take k ps1)) _ i1) (exact _ _ e))
      (λ r. and_then (forward_is p p1 (take k ps) (take k ps1) (omega (arith, l, length-take k ps, length-take k ps1)) ss.0 ss1.0 (sized_take k ps ss.1) (sized_take k ps1 ss1.1)
      (in_left _ _ i) (in_left _ _ i1) r.0)
      (λ t. let whole : ps ≡ ps1 = sym (take-append-drop k ps) ∙ rw (t.1, r.1) (take-append-drop k ps1) in inl (rw (t.0, whole) refl)))

  -- the roots of two lists of peaks, with equal counts or not
  pub roots_is : (m n j k : ℕ) (b : Bagging) (ps ps1 : List D) → m < 2 ^ 64 → n < 2 ^ 64 → j < 2 ^ 64 → k < 2 ^ 64 → (m ≡ n → length ps ≡ length ps1) → EachSized ps → EachSized ps1
      → AllIn (root_inputs h m j b ps) → AllIn (root_inputs h n k b ps1) → h.digest (root_input m j b (folded_bytes h b j ps)) ≡ h.digest (root_input n k b (folded_bytes h b k ps1))
      → OrClash ((m ≡ n) × (j ≡ k) × (ps ≡ ps1))
  roots_is m n j k b ps ps1 fm fn fj fk l ss ss1 i i1 e =
      and_then (same_or_clash _ _ (in_first _ _ i) (in_first _ _ i1) e)
      (λ q. let r = root_input_same m n j k b (folded_bytes h b j ps) (folded_bytes h b k ps1) fm fn fj fk q in
      let at : folded_bytes h b j ps ≡ folded_bytes h b j ps1 = r.folded ∙ ap (λ c. folded_bytes h b c ps1) (sym r.inactive) in
      let i2 : AllIn (fold_inputs h b j ps1) = subst (λ c. AllIn (fold_inputs h b c ps1)) (sym r.inactive) (in_rest _ _ i1) in
      and_then (folded_is b j ps ps1 (l r.leaves) ss ss1 (in_rest _ _ i) i2 at) (λ t. inl (r.leaves, r.inactive, t)))
