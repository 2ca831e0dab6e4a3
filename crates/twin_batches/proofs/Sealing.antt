-- What a seal answers, and what it puts into the pool.
use Rattle.std.proofs.Common.{◌≡◌, inl, inr, ℕ, List, [], ◌∷◌, ◌++◌, ◌≤◌, length, get_or, set, Option, Some, None, refl, sym, ◌∙◌, ap, ap₂, subst, arith}
use Rattle.std.specs.Prelude.{IsSome}
use Rattle.std.specs.Option.{ForSome, option_map}
use Rattle.std.proofs.lemmas.Option.{none-some, same_Some}
use Rattle.chain_core.specs.Chains.{IsPoolOf, IsRefusedBy, WhyUnsealed, IsSealedAt}
use Rattle.chain_core.specs.Marks.{IsMarkedOn}
use Rattle.chain_core.specs.Reached.{item_at, IsPlaceOf}
use Rattle.chain_core.specs.Slots as slots
use Rattle.chain_core.specs.Slots.{IsAlive, link_released}
use Rattle.chain_core.specs.Sealing.{refusal_of, is_at, place_refusal}
use Rattle.chain_core.specs.declared.error.Error.{Error}
use Rattle.chain_core.specs.declared.error.Error.TheVariants.{Memory}
use Rattle.chain_core.specs.States.{sizes}
use Rattle.chain_core.specs.declared.commitment.Commitment.{Commitment}
use Rattle.chain_core.specs.declared.place.Place.{Place}
use Rattle.chain_core.specs.declared.pool.HeldBatch.{HeldBatch}
use Rattle.chain_core.proofs.PoolLemmas.{released_length, put_new, alive_is}
use Rattle.chain_core.proofs.MarkedPoolLemmas.{marked_sealed}
use Rattle.chain_core.proofs.StateLemmas.{stands_there}
use Rattle.tree_shape.specs.Mmr.{mmr}
use Rattle.tree_shape.specs.Sha256Codec.{bytes_of}
use Rattle.tree_shape.specs.declared.mmr.Mmr.{Mmr}
use Rattle.tree_shape.specs.declared.sha256.Sha256Digest.{Sha256Digest}
use Rattle.log_model.specs.StateBatches as batches
use Rattle.log_model.specs.Machine.{State, batch_at, with_batch}
use Rattle.log_model.specs.Reach.{may_seal, floor_below, sealed_here, effective_boundary, reach, tips_of}
use Rattle.log_model.specs.declared.refusal.Refusal.{Refusal}
use Rattle.op_codec.specs.declared.keyless.Operation.TheVariants.{Commit}
use Rattle.command_text.specs.declared.command.Answer.{Answer}
use Rattle.command_text.specs.declared.command.Answer.TheVariants as answer
use Rattle.volume_base.specs.Moments.{Image}
use Rattle.list_machine.specs.Operation.{Operation, meaning, sha}
use Rattle.list_machine.specs.Commitments.{same_state, IsStateIn, AreBounds}
use Rattle.list_machine.specs.Told.{IsTold}
use Rattle.list_machine.specs.Step.{lost, done_sealing, metadata_length, seal, sealed_or_lost, seal_refusal}
use Rattle.twin_batches.specs.Kind.{Kind, kept_of, size_of, sealing_of}
use Rattle.twin_batches.specs.StateOf.{HasMarks, IsUnsealedOf, HasRoom, IsSealedAs, same_lists, any_lists, IsShaped, IsStateOf, Meets}
use Rattle.twin_batches.specs.declared.numbers.Batch.{Batch}
use Rattle.twin_batches.specs.declared.numbers.Batch.TheVariants.{Unsealed, Sealed, Gone}
use Rattle.twin_batches.specs.declared.numbers.Holding.{Holding}
use Rattle.twin_batches.specs.declared.numbers.Numbers.{Numbers}
use Rattle.twin_batches.proofs.Matching.{not_both, unsealed_within, unsealed_there, parent_held, alive_where}
use Rattle.twin_batches.proofs.Marking.{parent_drawn, marks_sealed}
use Rattle.twin_batches.proofs.Changes.{batches_sealed, few_put, few_released}
use Rattle.twin_batches.proofs.Reaching.{pool_of, place_floor, place_tips, place_tips_in, place_boundary, place_boundary_in}
use Rattle.twin_batches.proofs.Handlers.{same_machine, stands_same, shape_from, state_from, meets, size_is, seal_short}

-- ---- what was put into the pool

module _ {S : Type 0} (pool new : List (Option (HeldBatch S))) (link : Option ℕ) (e : HeldBatch S) (is : new ≡ link_released pool link ++ (Some e ∷ [])) (id : ℕ) (number : id ≡ length pool) where
  made_there : slots.slot_at new id ≡ Some e
  made_there =
      subst (λ (p : List (Option (HeldBatch S))). slots.slot_at p id ≡ Some e) (sym is)
      (subst (λ i. slots.slot_at (link_released pool link ++ (Some e ∷ [])) i ≡ Some e) (released_length pool link ∙ sym number) (put_new (link_released pool link) (Some e)))

  pub made_alive : IsAlive new id
  made_alive = alive_is (slots.slot_at new id) e made_there

  pub made_item : (x : S) → item_at new id ≡ Some x → x ≡ e.item
  made_item x there = same_Some x e.item (sym there ∙ ap (option_map (λ (b : HeldBatch S). b.item)) made_there)

-- ---- why a batch isn't sealed

module _ {Db S U : Type 0} (k : Kind Db S U) (pool : List (Option (HeldBatch S))) (u : U) (db : Db) (floor : ℕ) where
  -- an error is of a batch that isn't sealed
  abbrev pub WhyHere : Error Mmr → Type 0
  WhyHere e = WhyUnsealed k.bounds bytes_of pool (sealing_of k u) (k.state db) (k.floor db) floor e

  -- its place refuses it
  abbrev pub IsRefusedHere : Option Refusal → Type 0
  IsRefusedHere why = IsRefusedBy k.bounds bytes_of pool (sealing_of k u) (k.state db) (k.floor db) floor why

  pub why_refused : (e : Error Mmr) (r : Refusal) → WhyHere e → refusal_of e ≡ Some r → IsRefusedHere (Some r)
  why_refused e r (inl memory) is = absurd (none-some r (sym (ap refusal_of memory) ∙ is))
  why_refused e r (inr why) is = subst IsRefusedHere is why.1

  pub why_memory : (e : Error Mmr) → WhyHere e → refusal_of e ≡ None → e ≡ Memory
  why_memory e (inl memory) is = memory
  why_memory e (inr why) is = absurd (none_is (refusal_of e) is why.0)
    where
      none_is : (o : Option Refusal) → o ≡ None → IsSome o → ⊥
      none_is None e h = cc
      none_is (Some x) e h = cc

-- what ends an unsealed batch is what a seal does whose metadata isn't too long
pub ended_meets : {Db S U : Type 0} (k : Kind Db S U) (limit b floor : ℕ) (metadata : Option (List ℕ)) (s : State Operation) (w : batches.UnsealedBatch Operation) → batch_at s b ≡ batches.Unsealed w → metadata_length metadata ≤ limit
    → (image : Image) (db : Db) (new : Numbers S U) (a : Answer) → Meets k (sealed_or_lost s b w metadata floor (seal_refusal s w floor)) image db new a
    → Meets k (seal limit s b metadata floor (batch_at s b)) image db new a
ended_meets k limit b floor metadata s w machine short image db new a is =
    subst (λ o. Meets k o image db new a) (sym (ap (seal limit s b metadata floor) machine ∙ seal_short s b w limit metadata floor short)) is

module _ {Db S U : Type 0} (k : Kind Db S U) (old : Numbers S U) (b : ℕ) (u : U) (at : get_or old.batches.items b Gone ≡ Unsealed u) where
  abbrev Old : List (Batch U)
  Old = old.batches.items

  -- ---- the shape

  module _ (sh : IsShaped k old) where
    pub parent_lives : ForSome (k.parent u) (IsAlive old.pool)
    parent_lives = alive_where old.pool (k.parent u) (parent_held (any_lists k) Old old.pool sh.all sh.batches b u at)

    pub sealed_shape : (room : HasRoom old) (new : Numbers S U) (taken : new.taken ≡ old.taken) (x : S) (j : Holding) → j.id ≡ length old.pool → j.holds ≡ 1 → new.batches.items ≡ set Old b (Sealed j)
        → new.pool ≡ link_released old.pool (k.parent u) ++ (Some (record { item = x; parent = k.parent u; holds = 1 }) ∷ []) → IsShaped k new
    sealed_shape room new taken x j number once items pool =
        let w = unsealed_there (any_lists k) Old old.pool sh.all sh.batches b u at in
        let made : HeldBatch S = record { item = x; parent = k.parent u; holds = 1 } in
        let left = few_released old.taken old.pool sh.few (k.parent u) (parent_held (any_lists k) Old old.pool sh.all sh.batches b u at) in
        let n = released_length old.pool (k.parent u) in
        let drawn = room.drawn in
        shape_from k new _ _ old.taken _ items pool taken
        (batches_sealed (any_lists k) Old old.pool sh.all sh.batches b u at w.0 w.1 w.2 x (batches.sealed w.0 0 [] (Commit None 0) 0) tt refl refl j number once)
        (few_put old.taken (link_released old.pool (k.parent u)) left made (omega (arith, n, drawn)) refl)

  -- ---- a state

  module _ (image : Image) (db : Db) (s : State Operation) (told : IsTold s) (is : IsStateOf k image db old s) (w : batches.UnsealedBatch Operation) (machine : batch_at s b ≡ batches.Unsealed w) where
    was : IsUnsealedOf (same_lists k) Old b u w
    was = let t = unsealed_there (same_lists k) Old old.pool s.batches is.batches b u at in
        subst (IsUnsealedOf (same_lists k) Old b u) (same_machine t.0 w (sym t.1 ∙ machine)) t.2

    alive : ForSome (k.parent u) (IsAlive old.pool)
    alive = alive_where old.pool (k.parent u) (parent_held (same_lists k) Old old.pool s.batches is.batches b u at)

    marks_here : HasMarks k old.pool u
    marks_here = is.marks.unsealed b u at

    pub pool_here : IsPoolOf k.bounds mmr sha meaning old.pool (k.parent u) w.list
    pool_here = pool_of k Old old.pool s is.batches told.parents b u w machine was

    module _ (place : Place Mmr Sha256Digest) (found : IsPlaceOf k.bounds old.pool (k.parent u) (k.base u) (k.floor db) place) where
      boundary_size : place.boundary.size ≡ effective_boundary s w
      boundary_size = ap (λ (d : Commitment Mmr Sha256Digest). d.size) found.boundary ∙ place_boundary k Old old.pool s is.batches told.parents b u w machine was alive place.ancestors found.oldest found.reach

      tips_are : sizes place.ancestors ≡ tips_of (reach s w)
      tips_are = place_tips k Old old.pool s is.batches told.parents b u w machine was alive place.ancestors found.oldest found.reach

      stands_here : is_at bytes_of (k.state db) (place.boundary ∷ place.ancestors) ≡ may_seal same_state s w
      stands_here =
          ap (λ (c : Commitment Mmr Sha256Digest). is_at bytes_of c (place.boundary ∷ place.ancestors)) (k.state_is (kept_of s) image db is.log)
          ∙ stands_there mmr sha meaning s w.list place.boundary place.ancestors
          (subst (IsStateIn w.list) (sym found.boundary) (place_boundary_in k Old old.pool s is.batches told.parents b u w machine was alive place.ancestors found.oldest found.reach))
          (place_tips_in k Old old.pool s is.batches told.parents b u w machine was alive place.ancestors found.oldest found.reach)
          ∙ stands_same same_state s w.list w.list place.boundary.size (effective_boundary s w) (sizes place.ancestors) (tips_of (reach s w)) refl boundary_size tips_are

      floor_is : place.floor ≡ floor_below meaning s w
      floor_is = found.floor_is ∙ place_floor k Old old.pool s is.batches told.parents b u w machine was alive image db is.log (k.parent u) w.parent was.link alive

      -- its place refuses a seal exactly where the state does
      pub place_refuses : (floor : ℕ) → place_refusal bytes_of place (k.state db) (size_of k u) floor ≡ seal_refusal s w floor
      place_refuses floor = rw (stands_here ∙ told.seals b w machine, size_is k u w was.is, floor_is) refl

    pub refused_here : (floor : ℕ) (why : Option Refusal) → IsRefusedHere k old.pool u db floor why → seal_refusal s w floor ≡ why
    refused_here floor why r = sym (place_refuses r.place r.place_of floor) ∙ r.why_is

    module _ (metadata : Option (List ℕ)) (floor : ℕ) where
      -- a refusal loses it
      pub lost_meets : (new : Numbers S U) (refusal : Refusal) → IsRefusedHere k old.pool u db floor (Some refusal) → IsStateOf k image db new (with_batch s b batches.Gone)
          → Meets k (sealed_or_lost s b w metadata floor (seal_refusal s w floor)) image db new (answer.Refused refusal)
      lost_meets new refusal r gone =
          meets k image db new _ (lost s b refusal) (answer.Refused refusal) (ap (sealed_or_lost s b w metadata floor) (refused_here floor (Some refusal) r)) refl gone

      module _ (x : S) (in_place : IsSealedAt k.bounds bytes_of old.pool (sealing_of k u) (k.state db) (k.floor db) floor (k.bounds x))
          (sealed : (list : List Operation) (marks : List ℕ) → k.is_unsealed list u → k.is_marked marks u → IsPoolOf k.bounds mmr sha meaning old.pool (k.parent u) list
          → IsMarkedOn k.bounds old.pool (k.parent u) (k.base u) marks → k.is_sealed (list ++ (k.pending u ++ (Commit metadata floor ∷ []))) x) where
        abbrev Made : batches.SealedBatch Operation
        Made = sealed_here s w (Commit metadata floor) floor

        made_as : IsSealedAs k x Made
        made_as = record {
          list = subst (λ (ops : List Operation). k.is_sealed (w.list ++ (ops ++ (Commit metadata floor ∷ []))) x) (sym was.is.pending) (sealed w.list marks_here.marks was.is.list marks_here.has pool_here marks_here.on);
          base = was.is.base ∙ sym (ap (λ (d : Commitment Mmr Sha256Digest). d.size) (in_place.base ∙ k.base_is w.list u was.is.list));
          boundary = sym (ap (λ (d : Commitment Mmr Sha256Digest). d.size) in_place.db ∙ boundary_size in_place.place in_place.place_of);
          tips = sym (ap sizes in_place.ancestors ∙ tips_are in_place.place in_place.place_of);
          floor = sym in_place.floor_is;
        }

        -- otherwise it is sealed
        pub sealed_meets : (new : Numbers S U) (j : Holding) (size : ℕ) (root : Sha256Digest) → j.id ≡ length old.pool → j.holds ≡ 1 → new.batches.items ≡ set Old b (Sealed j)
            → new.pool ≡ link_released old.pool (k.parent u) ++ (Some (record { item = x; parent = k.parent u; holds = 1 }) ∷ [])
            → size ≡ (k.bounds x).tip.size → root ≡ (k.bounds x).tip.root
            → Meets k (sealed_or_lost s b w metadata floor (seal_refusal s w floor)) image db new (answer.Sealed size root)
        sealed_meets new j size root number once items pool size_at root_at =
            let fits = made_as in
            let bounds : AreBounds Made.list (k.bounds x) = k.bounded Made.list x fits.list in
            meets k image db new _ (done_sealing s b Made) (answer.Sealed size root)
            (ap (sealed_or_lost s b w metadata floor) (sym (place_refuses in_place.place in_place.place_of floor) ∙ in_place.may))
            (ap₂ answer.Sealed (size_at ∙ ap (λ (d : Commitment Mmr Sha256Digest). d.size) bounds.tip) (root_at ∙ ap (λ (d : Commitment Mmr Sha256Digest). d.root) bounds.tip))
            (state_from k image db new (with_batch s b (batches.Sealed Made)) _ _ items pool is.log
            (batches_sealed (same_lists k) Old old.pool s.batches is.batches b u at w machine was x Made fits refl refl j number once)
            (marks_sealed k Old old.pool is.marks (parent_drawn (same_lists k) Old old.pool s.batches is.batches) b (Sealed j) (unsealed_within Old b u at) (λ v e. not_both v j (sym e)) (k.parent u)
            (record { item = x; parent = k.parent u; holds = 1 })
            (marked_sealed k.bounds bytes_of old.pool (sealing_of k u) (k.state db) (k.floor db) floor (k.bounds x) is.marks.sealed alive (omega arith) marks_here.on.base_is in_place)))
