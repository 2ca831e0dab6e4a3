-- What `rebuilt` is in each case.
use Rattle.std.proofs.Common.{◌≡◌, ℕ, zero, suc, ◌+◌, ◌-◌, ◌^◌, ◌<◌, ◌≤◌, true, false, List, [], ◌∷◌, ◌++◌, length, Option, Some, None, refl, sym, ◌∙◌, ap, arith, append_assoc}
use Rattle.std.specs.Option.{option_and_then}
use Rattle.std.proofs.lemmas.Bool.Decides.{nat_tests}
use Rattle.tree_shape.specs.Hashing.{Hashing, node_input}
use Rattle.tree_shape.specs.Shape.{Shape}
use Rattle.tree_proof.specs.Cover.{Opened, meets}
use Rattle.tree_proof.specs.Check.{next_of, joined_by, rebuilt, before, rebuilt_over, all_used, wholly_rebuilt}

pub meets_leaf : (a b x k : ℕ) → k ≡ 0 → meets a b x k ≡ true → (a ≤ x) × (x < b)
meets_leaf a b x zero z e = grind (arith, nat_tests)
meets_leaf a b x (suc k) z e = absurd (omega arith)

-- nodes before these
abbrev pub prepended : {D : Type 0} → List D → Option (List D × List D) → Option (List D × List D)
prepended acc None = None
prepended acc (Some r) = Some (acc ++ r.0, r.1)

prepended-before : {D : Type 0} (acc : List D) (d : D) (r : Option (List D × List D)) → prepended acc (option_and_then (before d) r) ≡ prepended (acc ++ (d ∷ [])) r
prepended-before acc d None = refl
prepended-before acc d (Some r) = ap (λ xs. Some (xs, r.1)) (sym (append_assoc acc (d ∷ []) r.0))

module _ {D : Type 0} (s : Shape) (h : Hashing D) (met : Opened) (leaf_of : ℕ → D) where
  pub rebuilt-outside : (x k : ℕ) (ds : List D) → met x k ≡ false → rebuilt s h met leaf_of x k ds ≡ next_of ds
  unfolding rebuilt
  rebuilt-outside x zero ds e = rw e refl
  rebuilt-outside x (suc k) ds e = rw e refl

  pub rebuilt-leaf : (x k : ℕ) (ds : List D) → met x k ≡ true → k ≡ 0 → rebuilt s h met leaf_of x k ds ≡ Some (leaf_of x, ds)
  unfolding rebuilt
  rebuilt-leaf x (suc k) ds e z = absurd (omega arith)
  rebuilt-leaf x zero ds e z = rw e refl

  -- both halves, one after the other
  both : ℕ → ℕ → List D → Option (D × List D)
  both x k ds = option_and_then (λ left. option_and_then (λ right. joined_by s h x (k - 1) left.0 right) (rebuilt s h met leaf_of (x + 2 ^ (k - 1)) (k - 1) left.1)) (rebuilt s h met leaf_of x (k - 1) ds)

  rebuilt-inner : (x k : ℕ) (ds : List D) → met x k ≡ true → 0 < k → rebuilt s h met leaf_of x k ds ≡ both x k ds
  unfolding rebuilt both
  rebuilt-inner x zero ds e lt = absurd (omega arith)
  rebuilt-inner x (suc k) ds e lt = let q : suc k - 1 ≡ k = omega arith in rw (e, q) refl

  pub rebuilt-no_left : (x k : ℕ) (ds : List D) → met x k ≡ true → 0 < k → rebuilt s h met leaf_of x (k - 1) ds ≡ None → rebuilt s h met leaf_of x k ds ≡ None
  unfolding both
  rebuilt-no_left x k ds e lt l = rebuilt-inner x k ds e lt ∙ rw l refl

  pub rebuilt-no_right : (x k half : ℕ) (ds es : List D) (left : D) → met x k ≡ true → 0 < k → half ≡ 2 ^ (k - 1)
      → rebuilt s h met leaf_of x (k - 1) ds ≡ Some (left, es) → rebuilt s h met leaf_of (x + half) (k - 1) es ≡ None → rebuilt s h met leaf_of x k ds ≡ None
  unfolding both
  rebuilt-no_right x k half ds es left e lt q l r = rebuilt-inner x k ds e lt ∙ rw l (rw (rw q at r) refl)

  pub rebuilt-parent : (x k half : ℕ) (ds es fs : List D) (left right : D) → met x k ≡ true → 0 < k → half ≡ 2 ^ (k - 1)
      → rebuilt s h met leaf_of x (k - 1) ds ≡ Some (left, es) → rebuilt s h met leaf_of (x + half) (k - 1) es ≡ Some (right, fs)
      → rebuilt s h met leaf_of x k ds ≡ Some (h.digest (node_input h (s.position x k) left right), fs)
  unfolding both
  rebuilt-parent x k half ds es fs left right e lt q l r =
      let up : suc (k - 1) ≡ k = omega arith in
      rebuilt-inner x k ds e lt ∙ rw l (rw (rw q at r) (rw up refl))

  pub over-none : (x k : ℕ) (ps : List (ℕ × ℕ)) (ds : List D) → rebuilt s h met leaf_of x k ds ≡ None → rebuilt_over s h met leaf_of ((x, k) ∷ ps) ds ≡ None
  unfolding rebuilt_over
  over-none x k ps ds e = rw e refl

  pub over-some : (acc : List D) (x k : ℕ) (ps : List (ℕ × ℕ)) (ds es : List D) (d : D) → rebuilt s h met leaf_of x k ds ≡ Some (d, es)
      → prepended acc (rebuilt_over s h met leaf_of ((x, k) ∷ ps) ds) ≡ prepended (acc ++ (d ∷ [])) (rebuilt_over s h met leaf_of ps es)
  unfolding rebuilt_over
  over-some acc x k ps ds es d e = rw e (prepended-before acc d (rebuilt_over s h met leaf_of ps es))

pub append_nil : {X : Type 0} (xs : List X) → xs ++ [] ≡ xs
append_nil [] = refl
append_nil (x ∷ xs) = ap (λ ys. x ∷ ys) (append_nil xs)

pub prepended-nothing : {D : Type 0} (r : Option (List D × List D)) → prepended [] r ≡ r
prepended-nothing None = refl
prepended-nothing (Some r) = refl

-- at the end
pub used_up : {D : Type 0} (acc ds : List D) (r : Option (List D × List D)) → prepended acc (Some ([], ds)) ≡ r → length ds ≡ 0 → Some acc ≡ option_and_then (λ r. all_used r.0 r.1) r
used_up acc [] r e z = rw (sym e) (ap Some (sym (append_nil acc)))
used_up acc (d ∷ ds) r e z = absurd (omega arith)

pub some_left : {D : Type 0} (acc ds : List D) (r : Option (List D × List D)) → prepended acc (Some ([], ds)) ≡ r → 0 < length ds → None ≡ option_and_then (λ r. all_used r.0 r.1) r
some_left acc [] r e lt = absurd (omega arith)
some_left acc (d ∷ ds) r e lt = rw (sym e) refl

-- each node gives one digest
module _ {D : Type 0} (s : Shape) (h : Hashing D) (met : Opened) (leaf_of : ℕ → D) where
  one_more : (x : D) (r : Option (List D × List D)) (n : ℕ) (rs : List D × List D) → ((qs : List D × List D) → r ≡ Some qs → length qs.0 ≡ n) → option_and_then (before x) r ≡ Some rs → length rs.0 ≡ suc n
  one_more x None n rs f e = absurd (cc)
  one_more x (Some qs) n rs f e =
      let same : (x ∷ qs.0, qs.1) ≡ rs = cc in
      ap (λ q. length q.0) (sym same) ∙ ap suc (f qs refl)

  step_length : (ps : List (ℕ × ℕ)) (rs : List D × List D) → ((es : List D) (qs : List D × List D) → rebuilt_over s h met leaf_of ps es ≡ Some qs → length qs.0 ≡ length ps)
      → (r : Option (D × List D)) → option_and_then (λ first. option_and_then (before first.0) (rebuilt_over s h met leaf_of ps first.1)) r ≡ Some rs → length rs.0 ≡ suc (length ps)
  step_length ps rs f None q = absurd (cc)
  step_length ps rs f (Some d) q = one_more d.0 (rebuilt_over s h met leaf_of ps d.1) (length ps) rs (f d.1) q

  length-over : (ps : List (ℕ × ℕ)) (ds : List D) (rs : List D × List D) → rebuilt_over s h met leaf_of ps ds ≡ Some rs → length rs.0 ≡ length ps
  unfolding rebuilt_over
  length-over [] ds rs e = let same : ([], ds) ≡ rs = cc in ap (λ q. length q.0) (sym same)
  length-over (p ∷ ps) ds rs e = step_length ps rs (λ es qs t. length-over ps es qs t) (rebuilt s h met leaf_of p.0 p.1 ds) e

  wholly : (r : Option (List D × List D)) (rs : List D) → option_and_then (λ q. all_used q.0 q.1) r ≡ Some rs → (qs : List D × List D) × (r ≡ Some qs) × (qs.0 ≡ rs)
  wholly None rs e = absurd (cc)
  wholly (Some qs) rs e = (qs, refl, used qs.0 qs.1 e)
    where
      used : (xs ys : List D) → all_used xs ys ≡ Some rs → xs ≡ rs
      used xs [] q = cc
      used xs (y ∷ ys) q = absurd (cc)

  pub length-wholly_rebuilt : (ps : List (ℕ × ℕ)) (ds rs : List D) → wholly_rebuilt s h met leaf_of ps ds ≡ Some rs → length rs ≡ length ps
  length-wholly_rebuilt ps ds rs e = let w = wholly (rebuilt_over s h met leaf_of ps ds) rs e in ap length (sym w.2) ∙ length-over ps ds w.0 w.1
