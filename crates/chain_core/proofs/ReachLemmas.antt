-- Chains of parents, one step on.
use Rattle.std.proofs.Common.{◌≡◌, ℕ, List, [], ◌∷◌, ◌++◌, Option, Some, refl, sym, subst, append-nil, append_assoc}
use Rattle.std.specs.Option.{IsSomeAnd}
use Rattle.chain_core.specs.declared.pool.HeldBatch.{HeldBatch}
use Rattle.chain_core.specs.Slots.{IsReach}

module _ {T : Type 0} (living : ℕ → Option (HeldBatch T)) (link next : Option ℕ) (reached : List ℕ)
    (so_far : (rest : List ℕ) → IsReach living next rest → IsReach living link (reached ++ rest)) where
  -- where the next is dead, or there is none, the chain has ended
  pub reach-end : IsReach living next [] → IsReach living link reached
  reach-end ends = subst (IsReach living link) (append-nil reached) (so_far [] ends)

  -- where the next is alive, it is the next of the chain
  pub reach-more : (id : ℕ) (b : HeldBatch T) → next ≡ Some id → living id ≡ Some b
      → (rest : List ℕ) → IsReach living b.parent rest → IsReach living link ((reached ++ (id ∷ [])) ++ rest)
  reach-more id b is found rest h =
      rw append_assoc
      (so_far (id ∷ rest)
      (subst (λ n. IsReach living n (id ∷ rest)) (sym is)
      (refl, subst (λ o. IsSomeAnd o (λ x. IsReach living x.parent rest)) (sym found) h)))
