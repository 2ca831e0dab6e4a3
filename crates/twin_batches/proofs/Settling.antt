-- What a side stands for that was made durable, or has given up old operations.
use Rattle.std.proofs.Common.{◌≡◌, ℕ, ◌<◌, ◌≤◌, List, length, Option, Some, None, refl, sym, ◌∙◌, ap, subst}
use Rattle.volume_base.specs.Moments.{Image}
use Rattle.log_model.specs.AppliedSizes.{AreSizes}
use Rattle.log_model.specs.Good.{AnyList}
use Rattle.log_model.specs.Machine.{State, pruned}
use Rattle.log_model.specs.Operations.{floor_of}
use Rattle.log_model.specs.Refusals.{prune_refusal}
use Rattle.log_model.specs.StateBatches as batches
use Rattle.log_model.specs.declared.refusal.Refusal.{Refusal}
use Rattle.log_model.specs.declared.refusal.Refusal.TheVariants.{PruneBeyondMinRequired}
use Rattle.log_model.proofs.FloorLemmas.{floor_within}
use Rattle.list_machine.specs.Config.{Config}
use Rattle.list_machine.specs.GoodRuns.{IsGoodState}
use Rattle.list_machine.specs.Operation.{Operation, meaning}
use Rattle.list_machine.specs.Step.{plain_commit}
use Rattle.twin_batches.specs.Kind.{Kind, Kept, kept_of, kept_pruned}
use Rattle.twin_batches.specs.StateOf.{IsStateOf, AreBatchesOf, same_lists}
use Rattle.twin_batches.specs.declared.numbers.Numbers.{Numbers}
use Rattle.twin_batches.proofs.Fronts.{lt_false, lt_true}

-- the floor of a good state is within its list
good_floor : (limit : ℕ) (s : State Operation) → IsGoodState AnyList limit s → floor_of meaning s.ops ≤ length s.ops
good_floor limit s good =
    floor_within meaning AnyList (λ (v : List ℕ). length v ≤ limit) plain_commit s.ops good.good.ops.stand.0
    good.good.ops.floors

module _ {Db S U : Type 0} (k : Kind Db S U) (was is : Image) (db made : Db) (n : Numbers S U) where
  -- with another database of what is kept of another state, whose batches are the same
  with_db : (s t : State Operation) → t.batches ≡ s.batches → IsStateOf k was db n s → k.is_of (kept_of t) is made
      → IsStateOf k is made n t
  with_db s t same of log = record {
    log = log;
    batches = subst (λ (all : List (batches.Batch Operation)). AreBatchesOf (same_lists k) n.batches.items n.pool all)
        (sym same) of.batches;
    marks = of.marks;
  }

module _ {Db S U : Type 0} (k : Kind Db S U) (tells : Type 0) (was is : Image) (db made : Db) (n : Numbers S U) where
  -- after what makes this of what is kept, and leaves the batches
  pub settles : (step : State Operation → State Operation) (keeps : Kept → Kept)
      → ((s : State Operation) → kept_of (step s) ≡ keeps (kept_of s))
      → ((s : State Operation) → (step s).batches ≡ s.batches)
      → (tells → (kept : Kept) → k.is_of kept was db → k.is_of (keeps kept) is made)
      → tells → (s : State Operation) → IsStateOf k was db n s → IsStateOf k is made n (step s)
  settles step keeps kept_is leaves list told s of =
      with_db k was is db made n s (step s) (leaves s) of
      (subst (λ (kept : Kept). k.is_of kept is made) (sym (kept_is s)) (list told (kept_of s) of.log))

  -- after a prune, of a good state
  pub prunes : (l : ℕ)
      → (tells → (kept : Kept) (c : Config) → k.is_of kept was db → k.is_under c db
      → AreSizes (length kept.ops) kept.sizes → floor_of meaning kept.ops ≤ length kept.ops
      → k.is_of (kept_pruned c kept l) is made)
      → tells → (c : Config) (s : State Operation) → k.is_under c db → IsGoodState AnyList c.value_limit s
      → IsStateOf k was db n s → IsStateOf k is made n (pruned c.log_blob c.witness_blob s l)
  prunes l list told c s under good of =
      with_db k was is db made n s (pruned c.log_blob c.witness_blob s l) refl of
      (list told (kept_of s) c of.log under good.good.log.sizes (good_floor c.value_limit s good))

module _ {Db S U : Type 0} (k : Kind Db S U) (db : Db) (n : Numbers S U) (l floor : ℕ) (floor_is : floor ≡ k.floor db)
  where
    floor_here : (image : Image) (s : State Operation) → IsStateOf k image db n s → floor ≡ floor_of meaning s.ops
    floor_here image s of = floor_is ∙ k.floor_is (kept_of s) image db of.log

    -- why nothing is pruned is the list machine's refusal: past the floor, and up to it
    pub refused_past : floor < l → (image : Image) (s : State Operation) → IsStateOf k image db n s
        → (let why : Option Refusal = Some (PruneBeyondMinRequired l floor) in why) ≡ prune_refusal meaning s l
    refused_past beyond image s of =
        let here = floor_here image s of in
        let past : floor_of meaning s.ops < l = subst (λ (m : ℕ). m < l) here beyond in
        let test = lt_true (floor_of meaning s.ops) l past in
        ap (λ (m : ℕ). Some (PruneBeyondMinRequired l m)) here ∙ rw test refl

    pub refused_never : l ≤ floor → (image : Image) (s : State Operation) → IsStateOf k image db n s
        → (let why : Option Refusal = None in why) ≡ prune_refusal meaning s l
    refused_never low image s of =
        let within : l ≤ floor_of meaning s.ops = subst (λ (m : ℕ). l ≤ m) (floor_here image s of) low in
        let test = lt_false (floor_of meaning s.ops) l within in rw test refl
