-- Why a batch of a place isn't sealed.
use Rattle.std.proofs.Common.{◌≡◌, ℕ, ◌+◌, ◌^◌, ◌<◌, ◌≤◌, Bool, true, false, List, Some, refl, sym, arith}
use Rattle.std.specs.Prelude.{Contains, IsSome, nat_lt, Result, Err}
use Rattle.std.specs.Bool.{Decides}
use Rattle.std.specs.Cmp.{back_equiv}
use Rattle.std.specs.Ordering.{flip_args}
use Rattle.std.proofs.lemmas.Bool.Decides.{nat_tests}
use Rattle.log_model.specs.Machine.{max_leaves}
use Rattle.log_model.specs.Refusals.{floor_refusal, commit_refusal}
use Rattle.log_model.specs.declared.refusal.Refusal.TheVariants.{StaleBatch, LocationOverflow}
use Rattle.chain_core.specs.Commitments.{is_same, is_same_equivalence, is_same-exact}
use Rattle.chain_core.specs.Sealing.{refusal_of, Refuses, is_at}
use Rattle.chain_core.specs.declared.error.Error.{Error}
use Rattle.chain_core.specs.declared.error.Error.TheVariants as chain
use Rattle.chain_core.specs.declared.commitment.Commitment.{Commitment}
use Rattle.chain_core.proofs.Among.{list_any-Decides}

module _ {F D : Type 0} (bytes : D → List ℕ) (exact : (x y : D) → bytes x ≡ bytes y → x ≡ y) (current : Commitment F D) (states : List (Commitment F D)) where
  at_decides : Decides (is_at bytes current states) (Contains states current)
  at_decides = list_any-Decides {eq = flip_args (is_same bytes)} (back_equiv (is_same_equivalence bytes)) (λ a b e. sym (is_same-exact bytes exact b a e)) current states

  not_at : (t : Bool) → is_at bytes current states ≡ t → (Contains states current → ⊥) → is_at bytes current states ≡ false
  not_at true e none = absurd (none (at_decides.0 e))
  not_at false e none = e

  -- a log that stands at none of the states
  pub refused_elsewhere : {A : Type 0} (size below floor : ℕ) (r : Result A (Error F)) (e : Error F) → r ≡ Err e → e ≡ chain.StaleBatch → (Contains states current → ⊥)
      → Refuses (commit_refusal (is_at bytes current states) size below floor) r
  refused_elsewhere size below floor r e is stale none =
      let why : commit_refusal (is_at bytes current states) size below floor ≡ Some StaleBatch = rw (not_at (is_at bytes current states) refl none) refl in
      rw (is, stale, why) (refl, refl)

  -- one that stands at one of them
  module _ (here : Contains states current) (size below floor : ℕ) where
    -- where there is no room for the commit
    pub refused_full : 2 ^ 62 < size + 1 → IsSome (commit_refusal (is_at bytes current states) size below floor) × (Some (LocationOverflow (size + 1)) ≡ commit_refusal (is_at bytes current states) size below floor)
    refused_full long =
        let why : commit_refusal (is_at bytes current states) size below floor ≡ Some (LocationOverflow (size + 1)) = rw (at_decides.1 here, lt_true max_leaves (size + 1) long) refl in
        rw why (refl, refl)
      where
        lt_true : (m n : ℕ) → m < n → nat_lt m n ≡ true
        lt_true m n h = grind (arith, nat_tests)

    -- where there is room, and the floor decides
    pub by_floor : size + 1 ≤ 2 ^ 62 → commit_refusal (is_at bytes current states) size below floor ≡ floor_refusal below floor size
    by_floor few = rw (at_decides.1 here, lt_false max_leaves (size + 1) few) refl
      where
        lt_false : (m n : ℕ) → n ≤ m → nat_lt m n ≡ false
        lt_false m n h = grind (arith, nat_tests)

    pub refused_by_floor : {A : Type 0} → size + 1 ≤ 2 ^ 62 → (r : Result A (Error F)) (e : Error F) → r ≡ Err e → IsSome (floor_refusal below floor size) × (refusal_of e ≡ floor_refusal below floor size)
        → Refuses (commit_refusal (is_at bytes current states) size below floor) r
    refused_by_floor few r e is why = rw (is, by_floor few) why
