-- Folds of two trees side by side.
use Rattle.std.proofs.Common.{◌≡◌, ℕ, zero, suc, ◌-◌, ◌<◌, List, [], ◌∷◌, length, take, drop, get_or, Option, Some, None, refl, sym, ◌∙◌, ap, subst, arith}
use Rattle.std.specs.Prelude.{slice_range, Result, Ok, Err, IfOk}
use Rattle.std.specs.List.{Contains}
use Rattle.std.proofs.lemmas.List.{take-append-drop, take_all, length-drop}
use Rattle.std.proofs.lemmas.List.Elements.{Contains-append_left, Contains-append_right}
use Rattle.tree_shape.specs.declared.bagging.Bagging.{Bagging}
use Rattle.tree_shape.specs.Hashing.{Hashing, fold_input}
use Rattle.tree_shape.specs.Root.{fold_forward, fold_backward}
use Rattle.tree_proof.specs.Inputs.{forward_inputs, backward_inputs, bagged_inputs, fold_inputs}
use Rattle.tree_evidence.specs.declared.pair.Pair.{Pair}
use Rattle.tree_evidence.specs.Evidence.{IsClash}
use Rattle.tree_evidence.specs.Searches.{Finds, AreTheFold}
use Rattle.tree_evidence.proofs.ClashLemmas.{Within, among_more}

module _ {D : Type 0} (h : Hashing D) where
  -- a slice to the end
  pub from_is : (k : ℕ) (xs : List D) → take (length xs - k) (drop k xs) ≡ drop k xs
  from_is k xs = take_all (length xs - k) (drop k xs) (omega (arith, length-drop k xs))

  pub behind : (m : List ℕ) (ms : List (List ℕ)) → Within h ms (m ∷ ms)
  behind m ms n c = Contains-append_right (m ∷ []) ms n c

  in_front : (m x : List ℕ) (ms : List (List ℕ)) → x ≡ m → Contains (m ∷ ms) x
  in_front m x ms e = let here : Contains (m ∷ ms) m = (0, omega arith, refl) in subst (Contains (m ∷ ms)) (sym e) here

  -- the first of these inputs and the first of those, which differ and have one digest
  pub clash_in_front : (m n : List ℕ) (ms ns : List (List ℕ)) (x y : List ℕ) → x ≡ m → y ≡ n → (x ≡ y → ⊥) → h.digest m ≡ h.digest n → IsClash h (m ∷ ms) (n ∷ ns) x y
  clash_in_front m n ms ns x y e f differ same =
      record { has_first = in_front m x ms e; has_second = in_front n y ns f; differ = differ; same_digest = ap h.digest e ∙ same ∙ sym (ap h.digest f) }

  -- what was found
  pub found_some : (ones others : List (List ℕ)) (same : Type 0) (r : Option (List ℕ × List ℕ)) (q : List ℕ × List ℕ) → r ≡ Some q → Finds h ones others same r → IsClash h ones others q.0 q.1
  found_some ones others same r q e f = subst (λ o. Finds h ones others same o) e f

  pub found_none : (ones others : List (List ℕ)) (same : Type 0) (r : Option (List ℕ × List ℕ)) → r ≡ None → Finds h ones others same r → same
  found_none ones others same r e f = subst (λ o. Finds h ones others same o) e f

  pub fold_some : (left right : Pair D) (r : Option (List ℕ × List ℕ)) (q : List ℕ × List ℕ) → r ≡ Some q → AreTheFold h left right r → AreTheFold h left right (Some q)
  fold_some left right r q e f = subst (λ o. AreTheFold h left right o) e f

  pub fold_none : (left right : Pair D) (r : Option (List ℕ × List ℕ)) → r ≡ None → AreTheFold h left right r → AreTheFold h left right None
  fold_none left right r e f = subst (λ o. AreTheFold h left right o) e f

  -- ---- from the left

  forward_behind : (p p1 : D) (qs qs1 : List D) (q0 q1 f f1 : D) (x y : List ℕ) → 0 < length qs → 0 < length qs1 → q0 ≡ get_or qs 0 q0 → q1 ≡ get_or qs1 0 q1
      → f ≡ h.digest (fold_input h p q0) → f1 ≡ h.digest (fold_input h p1 q1)
      → IsClash h (forward_inputs h f (drop 1 qs)) (forward_inputs h f1 (drop 1 qs1)) x y → IsClash h (forward_inputs h p qs) (forward_inputs h p1 qs1) x y
  forward_behind p p1 [] qs1 q0 q1 f f1 x y lt lt1 i i1 e e1 c = absurd (omega (arith, lt))
  forward_behind p p1 (q ∷ qs) [] q0 q1 f f1 x y lt lt1 i i1 e e1 c = absurd (omega (arith, lt1))
  forward_behind p p1 (q ∷ qs) (r ∷ qs1) q0 q1 f f1 x y lt lt1 i i1 e e1 c =
      let ef : f ≡ h.digest (fold_input h p q) = e ∙ ap (λ d. h.digest (fold_input h p d)) i in
      let ef1 : f1 ≡ h.digest (fold_input h p1 r) = e1 ∙ ap (λ d. h.digest (fold_input h p1 d)) i1 in
      among_more h _ _ _ _ x y (behind (fold_input h p q) _) (behind (fold_input h p1 r) _) (rw (ef, ef1) at c)

  pub forward_later : (p p1 : D) (qs qs1 : List D) (q0 q1 f f1 : D) (x y : List ℕ) → 0 < length qs → 0 < length qs1 → q0 ≡ get_or qs 0 q0 → q1 ≡ get_or qs1 0 q1
      → f ≡ h.digest (fold_input h p q0) → f1 ≡ h.digest (fold_input h p1 q1)
      → IsClash h (forward_inputs h f (take (length qs - 1) (drop 1 qs))) (forward_inputs h f1 (take (length qs1 - 1) (drop 1 qs1))) x y → IsClash h (forward_inputs h p qs) (forward_inputs h p1 qs1) x y
  forward_later p p1 qs qs1 q0 q1 f f1 x y lt lt1 i i1 e e1 c = forward_behind p p1 qs qs1 q0 q1 f f1 x y lt lt1 i i1 e e1 (rw (from_is 1 qs, from_is 1 qs1) at c)

  -- ---- from the right

  backward_first : (p p1 : D) (qs qs1 : List D) (q0 q1 f f1 : D) (x y : List ℕ) → 0 < length qs → 0 < length qs1 → q0 ≡ get_or qs 0 q0 → q1 ≡ get_or qs1 0 q1
      → f ≡ fold_backward h q0 (drop 1 qs) → f1 ≡ fold_backward h q1 (drop 1 qs1) → fold_backward h p qs ≡ fold_backward h p1 qs1
      → AreTheFold h (record { one = p; other = p1 }) (record { one = f; other = f1 }) (Some (x, y)) → IsClash h (backward_inputs h p qs) (backward_inputs h p1 qs1) x y
  backward_first p p1 [] qs1 q0 q1 f f1 x y lt lt1 i i1 e e1 same a = absurd (omega (arith, lt))
  backward_first p p1 (q ∷ qs) [] q0 q1 f f1 x y lt lt1 i i1 e e1 same a = absurd (omega (arith, lt1))
  backward_first p p1 (q ∷ qs) (r ∷ qs1) q0 q1 f f1 x y lt lt1 i i1 e e1 same a =
      let ef : f ≡ fold_backward h q qs = e ∙ ap (λ d. fold_backward h d qs) i in
      let ef1 : f1 ≡ fold_backward h r qs1 = e1 ∙ ap (λ d. fold_backward h d qs1) i1 in
      clash_in_front _ _ _ _ x y (a.0 ∙ ap (fold_input h p) ef) (a.1 ∙ ap (fold_input h p1) ef1) a.2 same

  backward_behind : (p p1 : D) (qs qs1 : List D) (q0 q1 : D) (r : Option (List ℕ × List ℕ)) → 0 < length qs → 0 < length qs1 → q0 ≡ get_or qs 0 q0 → q1 ≡ get_or qs1 0 q1 → p ≡ p1
      → Finds h (backward_inputs h q0 (drop 1 qs)) (backward_inputs h q1 (drop 1 qs1)) ((q0 ≡ q1) × (drop 1 qs ≡ drop 1 qs1)) r
      → Finds h (backward_inputs h p qs) (backward_inputs h p1 qs1) ((p ≡ p1) × (qs ≡ qs1)) r
  backward_behind p p1 [] qs1 q0 q1 o lt lt1 i i1 e f = absurd (omega (arith, lt))
  backward_behind p p1 (q ∷ qs) [] q0 q1 o lt lt1 i i1 e f = absurd (omega (arith, lt1))
  backward_behind p p1 (q ∷ qs) (r ∷ qs1) q0 q1 None lt lt1 i i1 e f = let head : q ≡ r = sym i ∙ f.0 ∙ i1 in (e, rw (head, f.1) refl)
  backward_behind p p1 (q ∷ qs) (r ∷ qs1) q0 q1 (Some o) lt lt1 i i1 e f =
      among_more h _ _ _ _ o.0 o.1 (behind (fold_input h p (fold_backward h q qs)) _) (behind (fold_input h p1 (fold_backward h r qs1)) _) (rw (i, i1) at f)

  pub backward_here : (p p1 : D) (qs qs1 : List D) (q0 q1 f f1 : D) (x y : List ℕ) → 0 < length qs → 0 < length qs1 → q0 ≡ get_or qs 0 q0 → q1 ≡ get_or qs1 0 q1
      → f ≡ fold_backward h q0 (take (length qs - 1) (drop 1 qs)) → f1 ≡ fold_backward h q1 (take (length qs1 - 1) (drop 1 qs1)) → fold_backward h p qs ≡ fold_backward h p1 qs1
      → AreTheFold h (record { one = p; other = p1 }) (record { one = f; other = f1 }) (Some (x, y)) → IsClash h (backward_inputs h p qs) (backward_inputs h p1 qs1) x y
  backward_here p p1 qs qs1 q0 q1 f f1 x y lt lt1 i i1 e e1 same a =
      backward_first p p1 qs qs1 q0 q1 f f1 x y lt lt1 i i1 (e ∙ ap (fold_backward h q0) (from_is 1 qs)) (e1 ∙ ap (fold_backward h q1) (from_is 1 qs1)) same a

  pub backward_later : (p p1 : D) (qs qs1 : List D) (q0 q1 : D) (r : Option (List ℕ × List ℕ)) → 0 < length qs → 0 < length qs1 → q0 ≡ get_or qs 0 q0 → q1 ≡ get_or qs1 0 q1 → p ≡ p1
      → Finds h (backward_inputs h q0 (take (length qs - 1) (drop 1 qs))) (backward_inputs h q1 (take (length qs1 - 1) (drop 1 qs1))) ((q0 ≡ q1) × (take (length qs - 1) (drop 1 qs) ≡ take (length qs1 - 1) (drop 1 qs1))) r
      → Finds h (backward_inputs h p qs) (backward_inputs h p1 qs1) ((p ≡ p1) × (qs ≡ qs1)) r
  backward_later p p1 qs qs1 q0 q1 r lt lt1 i i1 e f = backward_behind p p1 qs qs1 q0 q1 r lt lt1 i i1 e (rw (from_is 1 qs, from_is 1 qs1) at f)

  -- ---- the inactive peaks first

  outer_behind : (b : Bagging) (k : ℕ) (ps ps1 : List D) (p0 p1 f f1 : D) (x y : List ℕ) → 0 < k → 0 < length ps → 0 < length ps1 → p0 ≡ get_or ps 0 p0 → p1 ≡ get_or ps1 0 p1
      → f ≡ fold_forward h p0 (slice_range ps 1 k) → f1 ≡ fold_forward h p1 (slice_range ps1 1 k)
      → IsClash h (bagged_inputs h b f (drop k ps)) (bagged_inputs h b f1 (drop k ps1)) x y → IsClash h (fold_inputs h b k ps) (fold_inputs h b k ps1) x y
  outer_behind b k [] ps1 p0 p1 f f1 x y some lt lt1 i i1 e e1 c = absurd (omega (arith, lt))
  outer_behind b k (p ∷ ps) [] p0 p1 f f1 x y some lt lt1 i i1 e e1 c = absurd (omega (arith, lt1))
  outer_behind b zero (p ∷ ps) (q ∷ ps1) p0 p1 f f1 x y some lt lt1 i i1 e e1 c = absurd (omega (arith, some))
  outer_behind b (suc k) (p ∷ ps) (q ∷ ps1) p0 p1 f f1 x y some lt lt1 i i1 e e1 c =
      let one : suc k - 1 ≡ k = omega arith in
      let ef : f ≡ fold_forward h p (take k ps) = rw one at e ∙ ap (λ d. fold_forward h d (take k ps)) i in
      let ef1 : f1 ≡ fold_forward h q (take k ps1) = rw one at e1 ∙ ap (λ d. fold_forward h d (take k ps1)) i1 in
      among_more h _ _ _ _ x y (λ m. Contains-append_right (forward_inputs h p (take k ps)) _ m) (λ m. Contains-append_right (forward_inputs h q (take k ps1)) _ m) (rw (ef, ef1) at c)

  pub outer_found : (b : Bagging) (k : ℕ) (ps ps1 : List D) (p0 p1 f f1 : D) (x y : List ℕ) → 0 < k → 0 < length ps → 0 < length ps1 → p0 ≡ get_or ps 0 p0 → p1 ≡ get_or ps1 0 p1
      → f ≡ fold_forward h p0 (slice_range ps 1 k) → f1 ≡ fold_forward h p1 (slice_range ps1 1 k)
      → IsClash h (bagged_inputs h b f (take (length ps - k) (drop k ps))) (bagged_inputs h b f1 (take (length ps1 - k) (drop k ps1))) x y → IsClash h (fold_inputs h b k ps) (fold_inputs h b k ps1) x y
  outer_found b k ps ps1 p0 p1 f f1 x y some lt lt1 i i1 e e1 c = outer_behind b k ps ps1 p0 p1 f f1 x y some lt lt1 i i1 e e1 (rw (from_is k ps, from_is k ps1) at c)

  inner_behind : (b : Bagging) (k : ℕ) (ps ps1 : List D) (p0 p1 : D) (r : Option (List ℕ × List ℕ)) → 0 < k → 0 < length ps → 0 < length ps1 → p0 ≡ get_or ps 0 p0 → p1 ≡ get_or ps1 0 p1 → drop k ps ≡ drop k ps1
      → Finds h (forward_inputs h p0 (slice_range ps 1 k)) (forward_inputs h p1 (slice_range ps1 1 k)) ((p0 ≡ p1) × (slice_range ps 1 k ≡ slice_range ps1 1 k)) r
      → Finds h (fold_inputs h b k ps) (fold_inputs h b k ps1) (ps ≡ ps1) r
  inner_behind b k [] ps1 p0 p1 o some lt lt1 i i1 t f = absurd (omega (arith, lt))
  inner_behind b k (p ∷ ps) [] p0 p1 o some lt lt1 i i1 t f = absurd (omega (arith, lt1))
  inner_behind b zero (p ∷ ps) (q ∷ ps1) p0 p1 o some lt lt1 i i1 t f = absurd (omega (arith, some))
  inner_behind b (suc k) (p ∷ ps) (q ∷ ps1) p0 p1 None some lt lt1 i i1 t f =
      let one : suc k - 1 ≡ k = omega arith in
      let head : p ≡ q = sym i ∙ f.0 ∙ i1 in
      let front : take k ps ≡ take k ps1 = rw one at f.1 in
      let whole : ps ≡ ps1 = sym (take-append-drop k ps) ∙ rw (front, t) (take-append-drop k ps1) in
      rw (head, whole) refl
  inner_behind b (suc k) (p ∷ ps) (q ∷ ps1) p0 p1 (Some o) some lt lt1 i i1 t f =
      let one : suc k - 1 ≡ k = omega arith in
      among_more h _ _ _ _ o.0 o.1 (λ m. Contains-append_left (forward_inputs h p (take k ps)) _ m) (λ m. Contains-append_left (forward_inputs h q (take k ps1)) _ m) (rw (one, i, i1) at f)

  pub inner_found : (b : Bagging) (k : ℕ) (ps ps1 : List D) (p0 p1 : D) (r : Option (List ℕ × List ℕ)) → 0 < k → 0 < length ps → 0 < length ps1 → p0 ≡ get_or ps 0 p0 → p1 ≡ get_or ps1 0 p1
      → take (length ps - k) (drop k ps) ≡ take (length ps1 - k) (drop k ps1)
      → Finds h (forward_inputs h p0 (slice_range ps 1 k)) (forward_inputs h p1 (slice_range ps1 1 k)) ((p0 ≡ p1) × (slice_range ps 1 k ≡ slice_range ps1 1 k)) r
      → Finds h (fold_inputs h b k ps) (fold_inputs h b k ps1) (ps ≡ ps1) r
  inner_found b k ps ps1 p0 p1 r some lt lt1 i i1 t f = inner_behind b k ps ps1 p0 p1 r some lt lt1 i i1 (sym (from_is k ps) ∙ t ∙ from_is k ps1) f

-- what holds where a call succeeds may be weakened
pub if_ok : {A E : Type 0} (P Q : A → Type 0) (r : Result A E) → IfOk r P → ((x : A) → P x → Q x) → IfOk r Q
if_ok P Q (Ok x) p f = f x p
if_ok P Q (Err e) p f = tt
