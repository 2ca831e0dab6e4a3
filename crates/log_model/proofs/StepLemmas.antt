-- What each kind of step makes of a good state is good.
use Rattle.std.proofs.Common.{◌≡◌, ℕ, ◌+◌, ◌-◌, ◌≤◌, Bool, true, false, cond, List, length, Some, None, refl, subst, arith}
use Rattle.std.specs.Prelude.{nat_lt, IfSome}
use Rattle.std.specs.Bool.{Decides}
use Rattle.log_model.specs.Meaning.{Meaning}
use Rattle.log_model.specs.Operations.{floor_of}
use Rattle.log_model.specs.StateBatches.{UnsealedBatch, SealedBatch, Unsealed, Sealed, size_of}
use Rattle.log_model.specs.Machine.{State, SameTest, max_leaves, same_operations, batch_at, with_batch, applied}
use Rattle.log_model.specs.Reach.{floor_below, may_seal, may_apply, sealed_here}
use Rattle.log_model.specs.Refusals.{seal_refusal, apply_refusal, prune_refusal}
use Rattle.log_model.specs.Good.{AnyList, IsGoodBatch, IsGood, IsGoodState}
use Rattle.log_model.specs.Laws.{Allows, StepsStayGood}
use Rattle.log_model.proofs.ReachLemmas.{floor_here, stood_alone, lists_decide, stood_on}
use Rattle.log_model.proofs.GoodLemmas.{good_lost, good_with_append, good_with_sealed, good_with_holds, good_begun, good_begun_after, good_snapshot_taken}
use Rattle.log_model.proofs.LogLemmas.{good_applied, good_committed, good_synced, good_pruned}
use Rattle.log_model.proofs.SizeLemmas.{not_lt}

-- either way of a choice, where the choice is told in what is shown
pub either_why : {A : Type 0} (P : A → Type 0) (b : Bool) (x y : A) → (b ≡ true → P x) → (b ≡ false → P y) → P (cond b x y)
either_why P true x y f g = f refl
either_why P false x y f g = g refl

-- what a seal that nothing refuses stands on
pub record SealFits {Op V : Type 0} (one : SameTest Op) (m : Meaning Op V) (s : State Op) (u : UnsealedBatch Op) (floor : ℕ) : Type 0 where
  pub here : may_seal one s u ≡ true
  pub few : size_of u + 1 ≤ max_leaves
  pub low : floor_below m s u ≤ floor
  pub high : floor ≤ size_of u

pub seal_fits : {Op V : Type 0} (one : SameTest Op) (m : Meaning Op V) (s : State Op) (u : UnsealedBatch Op) (floor : ℕ) → seal_refusal one m s u floor ≡ None → SealFits one m s u floor
seal_fits one m s u floor = either_why (λ r. r ≡ None → SealFits one m s u floor) (may_seal one s u) _ _
    (λ here. either_why (λ r. r ≡ None → SealFits one m s u floor) (nat_lt max_leaves (size_of u + 1)) _ _ (λ e none. absurd (cc))
    (λ few. either_why (λ r. r ≡ None → SealFits one m s u floor) (nat_lt floor (floor_below m s u)) _ _ (λ e none. absurd (cc))
    (λ low. either_why (λ r. r ≡ None → SealFits one m s u floor) (nat_lt (size_of u) floor) _ _ (λ e none. absurd (cc))
    (λ high none. record { here = here; few = not_lt max_leaves (size_of u + 1) few; low = not_lt floor (floor_below m s u) low; high = not_lt (size_of u) floor high }))))
    (λ e none. absurd (cc))

pub apply_fits : {Op : Type 0} (one : SameTest Op) (s : State Op) (c : SealedBatch Op) → apply_refusal one s c ≡ None → may_apply one s c ≡ true
apply_fits one s c = either_why (λ r. r ≡ None → may_apply one s c ≡ true) (may_apply one s c) _ _ (λ here none. here) (λ e none. absurd (cc))

pub prune_fits : {Op V : Type 0} (m : Meaning Op V) (s : State Op) (l : ℕ) → prune_refusal m s l ≡ None → l ≤ floor_of m s.ops
prune_fits m s l = either_why (λ r. r ≡ None → l ≤ floor_of m s.ops) (nat_lt (floor_of m s.ops) l) _ _ (λ e none. absurd (cc)) (λ e none. not_lt (floor_of m s.ops) l e)

-- the list of a good state of which something is durable isn't empty
pub filled : {Op V : Type 0} (m : Meaning Op V) (among : List Op → Type 0) (allowed : V → Type 0) (first : Op) (s : State Op) → IsGoodState m among allowed first s → 1 ≤ length s.ops
filled m among allowed first s g = let a = g.some in let b = g.good.log.within in omega (arith, a, b)

-- a batch that is sealed where nothing refuses it
pub good_sealed_here : {Op V : Type 0} (m : Meaning Op V) (same : Op → Op → Bool) → ((a b : Op) → Decides (same a b) (a ≡ b)) → (among : List Op → Type 0) (allowed : V → Type 0) (first : Op) (s : State Op) (b : ℕ) (u : UnsealedBatch Op) (commit : Op) (floor : ℕ)
    → among (sealed_here s u commit floor).list → IsGood m among allowed first s → batch_at s b ≡ Unsealed u → m.floor commit ≡ Some floor → IfSome (m.value commit) allowed
    → seal_refusal (same_operations same) m s u floor ≡ None → IsGood m among allowed first (with_batch s b (Sealed (sealed_here s u commit floor)))
good_sealed_here m same decide among allowed first s b u commit floor known g is commit_floor value none =
    let fits = seal_fits (same_operations same) m s u floor none in
    let good : IsGoodBatch m among allowed first (Unsealed u) = subst (IsGoodBatch m among allowed first) is (g.batches b) in
    let below : floor_of m u.list ≡ floor_below m s u = floor_here m among allowed first s g b u is (stood_alone same decide s u good.1 fits.here) in
    good_with_sealed m among allowed first s b u commit floor known g is commit_floor value (omega (arith, below, fits.low)) fits.high fits.few

-- a batch that is applied where nothing refuses it
pub good_applied_here : {Op V : Type 0} (m : Meaning Op V) (same : Op → Op → Bool) → ((a b : Op) → Decides (same a b) (a ≡ b)) → (among : List Op → Type 0) (allowed : V → Type 0) (first : Op) (s : State Op) (b : ℕ) (c : SealedBatch Op)
    → 1 ≤ s.durable → IsGood m among allowed first s → batch_at s b ≡ Sealed c → may_apply (same_operations same) s c ≡ true → IsGood m among allowed first (applied s c)
good_applied_here m same decide among allowed first s b c some g is may =
    let at = stood_on (same_operations same) (λ xs ys. xs ≡ ys) (λ xs ys. (lists_decide same decide xs ys).0) s c.list c.boundary c.tips may in
    good_applied m among allowed first s b c at.0 some g is at.1

module _ {Op V : Type 0} (m : Meaning Op V) (admits : V → Bool) (first : Op) (same : Op → Op → Bool) (decide : (a b : Op) → Decides (same a b) (a ≡ b)) where
  pub steps_stay_good : StepsStayGood m admits first (same_operations same)
  steps_stay_good = record {
    begins = λ s g. record { good = good_begun m AnyList (Allows m admits first) first s g.good; some = g.some };
    begins_on = λ s p c is g. record { good = good_begun_after m AnyList (Allows m admits first) first s p c g.good is; some = g.some };
    appends = λ s b u op is append value few g. record { good = good_with_append m AnyList (Allows m admits first) first s b u op g.good is (rw append refl) value few; some = g.some };
    seals = λ s b u commit floor is commit_floor value none g. record { good = good_sealed_here m same decide AnyList (Allows m admits first) first s b u commit floor tt g.good is commit_floor value none; some = g.some };
    gives_up = λ s b u is g. record { good = good_lost m AnyList (Allows m admits first) first s b u g.good is; some = g.some };
    holds = λ s b c is g. record { good = good_with_holds m AnyList (Allows m admits first) first s b c (c.holds + 1) g.good is; some = g.some };
    releases = λ s b c is g. record { good = good_with_holds m AnyList (Allows m admits first) first s b c (c.holds - 1) g.good is; some = g.some };
    takes_snapshot = λ s g. record { good = good_snapshot_taken m AnyList (Allows m admits first) first s g.good; some = g.some };
    applies = λ s b c is none g. record { good = good_applied_here m same decide AnyList (Allows m admits first) first s b c g.some g.good is (apply_fits (same_operations same) s c none); some = g.some };
    commits = λ s g. record { good = good_committed m AnyList (Allows m admits first) first s g.good; some = filled m AnyList (Allows m admits first) first s g };
    syncs = λ s g. record { good = good_synced m AnyList (Allows m admits first) first s g.good; some = filled m AnyList (Allows m admits first) first s g };
    prunes = λ log_blob witness_blob s l none g. record { good = good_pruned m AnyList (Allows m admits first) first log_blob witness_blob s l (prune_fits m s l none) g.good; some = filled m AnyList (Allows m admits first) first s g };
  }
