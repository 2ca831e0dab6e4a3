-- Nodes rebuilt one after another.
use Rattle.std.proofs.Common.{◌≡◌, ℕ, ◌<◌, ◌≤◌, List, [], ◌∷◌, ◌++◌, length, drop, Some, None, refl, sym, ◌∙◌, ap, arith, length-drop}
use Rattle.tree_shape.specs.Hashing.{Hashing}
use Rattle.tree_shape.specs.Shape.{Shape}
use Rattle.tree_proof.specs.Cover.{Opened}
use Rattle.tree_proof.specs.Check.{rebuilt, rebuilt_over, wholly_rebuilt}
use Rattle.tree_proof.proofs.RebuildLemmas.{prepended, prepended-nothing, over-none, over-some, used_up, some_left}

module _ {D : Type 0} (s : Shape) (h : Hashing D) (met : Opened) (leaf_of : ℕ → D) (all : List (ℕ × ℕ)) (digests : List D) where
  -- the nodes so far, and those of the rest that the digests from here on give, are all of them
  abbrev pub Told : List D → List (ℕ × ℕ) → List D → Type 0
  Told acc rest ds = prepended acc (rebuilt_over s h met leaf_of rest ds) ≡ rebuilt_over s h met leaf_of all digests

  pub told_first : (acc : List D) (rest : List (ℕ × ℕ)) → acc ≡ [] → rest ≡ all → Told acc rest digests
  told_first acc rest e l = rw e (prepended-nothing (rebuilt_over s h met leaf_of rest digests) ∙ ap (λ ps. rebuilt_over s h met leaf_of ps digests) l)

  pub told_next : (acc more : List D) (rest later : List (ℕ × ℕ)) (x k : ℕ) (ds es : List D) (d : D) → Told acc rest ds → rest ≡ (x, k) ∷ later
      → rebuilt s h met leaf_of x k ds ≡ Some (d, es) → more ≡ acc ++ (d ∷ []) → Told more later es
  told_next acc more rest later x k ds es d t are e m =
      rw m (sym (over-some s h met leaf_of acc x k later ds es d e) ∙ ap (λ ps. prepended acc (rebuilt_over s h met leaf_of ps ds)) (sym are) ∙ t)

  pub told_none : (acc : List D) (rest later : List (ℕ × ℕ)) (x k : ℕ) (ds : List D) → Told acc rest ds → rest ≡ (x, k) ∷ later
      → rebuilt s h met leaf_of x k ds ≡ None → None ≡ wholly_rebuilt s h met leaf_of all digests
  told_none acc rest later x k ds t are e =
      let none : prepended acc (rebuilt_over s h met leaf_of rest ds) ≡ None =
      ap (λ ps. prepended acc (rebuilt_over s h met leaf_of ps ds)) are ∙ ap (prepended acc) (over-none s h met leaf_of x k later ds e) in
      let over : rebuilt_over s h met leaf_of all digests ≡ None = sym t ∙ none in
      rw over refl

  over_nothing : (rest : List (ℕ × ℕ)) (ds : List D) → rest ≡ [] → rebuilt_over s h met leaf_of rest ds ≡ Some ([], ds)
  unfolding rebuilt_over
  over_nothing rest ds z = rw z refl

  pub told_all : (acc : List D) (rest : List (ℕ × ℕ)) (at : ℕ) → Told acc rest (drop at digests) → rest ≡ [] → length digests ≤ at → Some acc ≡ wholly_rebuilt s h met leaf_of all digests
  told_all acc rest at t z le = used_up acc (drop at digests) _ (ap (prepended acc) (sym (over_nothing rest (drop at digests) z)) ∙ t) (omega (arith, length-drop at digests))

  pub told_few : (acc : List D) (rest : List (ℕ × ℕ)) (at : ℕ) → Told acc rest (drop at digests) → rest ≡ [] → at < length digests → None ≡ wholly_rebuilt s h met leaf_of all digests
  told_few acc rest at t z lt = some_left acc (drop at digests) _ (ap (prepended acc) (sym (over_nothing rest (drop at digests) z)) ∙ t) (omega (arith, length-drop at digests))
