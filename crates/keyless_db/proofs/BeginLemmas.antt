-- The root of a list of one commit.
use Rattle.std.proofs.Common.{◌≡◌, ℕ, List, [], ◌∷◌, ◌++◌, length, Some, sym, ◌∙◌, ap, subst, arith}
use Rattle.std.specs.Prelude.{unwrap_or}
use Rattle.tree_shape.specs.Hashing.{Hashing}
use Rattle.tree_shape.specs.Root.{root}
use Rattle.tree_shape.specs.Shape.{Shape, inactive}
use Rattle.tree_shape.specs.Slow.{leaf}
use Rattle.tree_shape.specs.declared.bagging.Bagging.{Bagging}
use Rattle.tree_shape.specs.declared.bagging.Bagging.TheVariants.{ForwardFold}
use Rattle.tree_core.specs.Batches.{Sealed, Unsealed, BeginsAt, IsSealedFrom, IsSealedOf, IsUnsealedOf, leaf_count, with_digests}
use Rattle.log_model.specs.Meaning.{Meaning}
use Rattle.log_model.specs.Operations.{leaves_from, root_of}
use Rattle.log_model.proofs.OperationLemmas.{root_of-parts}

module _ {D : Type 0} (s : Shape) (h : Hashing D) (u : Unsealed D) (begins : BeginsAt 0 u) (text : List ℕ) (grown : Unsealed D)
    (ok : grown ≡ with_digests u (leaf s h (leaf_count u) text ∷ [])) where
  base_count : leaf_count u ≡ 0
  base_count = omega (arith, begins.base, ap length begins.digests)

  one_digest : grown.digests ≡ leaf s h 0 text ∷ []
  one_digest = ap (λ (v : Unsealed D). v.digests) ok ∙ ap (λ (ds : List D). ds ++ (leaf s h (leaf_count u) text ∷ [])) begins.digests
      ∙ ap (λ n. leaf s h n text ∷ []) base_count

  pub one_leaf : (b : Sealed D) → IsSealedFrom grown 0 b → b.leaves ≡ 1
  one_leaf b from =
      let base : grown.base ≡ 0 = ap (λ (v : Unsealed D). v.base) ok ∙ begins.base in
      omega (arith, from.leaves, base, ap length one_digest)

  grown_of : IsUnsealedOf s h [] u → IsUnsealedOf s h [] grown
  grown_of of = subst (λ (v : Unsealed D). IsUnsealedOf s h [] v) (sym ok) (record { batch = of.batch; base = of.base })

  -- the root over the one leaf is the root of the list
  pub first_root : {Op V : Type 0} (m : Meaning Op V) (commit : Op) → m.floor commit ≡ Some 0 → text ≡ m.encoding commit → IsUnsealedOf s h [] u
      → (b : Sealed D) → IsSealedFrom grown 0 b → ((all : List D) → IsUnsealedOf s h all grown → IsSealedOf s h (all ++ grown.digests) b)
      → (n k : ℕ) (d : D) (f : Bagging) → n ≡ b.leaves → k ≡ inactive s n 0 → f ≡ ForwardFold
      → ((all : List D) → IsSealedOf s h all b → d ≡ root s h all k f) → d ≡ root_of s h m (commit ∷ [])
  first_root m commit floored spelled of b from seals n k d f at inactive_is folded told =
      let leaves : grown.digests ≡ leaves_from s h m 0 (commit ∷ []) = one_digest ∙ ap (λ t. leaf s h 0 t ∷ []) spelled in
      told grown.digests (seals [] (grown_of of)) ∙ ap (λ (x : Bagging). root s h grown.digests k x) folded
      ∙ root_of-parts s h m (commit ∷ []) grown.digests n 0 k leaves (at ∙ one_leaf b from) (sym (ap (λ o. unwrap_or o 0) floored)) inactive_is
