-- That the batches in memory and in the pool keep their marks.
use Rattle.std.proofs.Common.{◌≡◌, ◌⊎◌, inl, inr, ℕ, ◌<◌, ◌≤◌, List, [], ◌∷◌, ◌++◌, length, get_or, set, Option, Some, None, sym, ◌∙◌, ap, subst, arith}
use Rattle.std.specs.Option.{ForSome}
use Rattle.std.proofs.lemmas.Bool.{cases_eq}
use Rattle.std.proofs.lemmas.Option.{same_Some}
use Rattle.std.proofs.lemmas.List.{get_or_append_left, get_or_push, get_or-set_same, get_or-set_other, length-append}
use Rattle.chain_core.specs.MarkedPool.{KeepsItems, IsMarkedAt, AreMarked}
use Rattle.chain_core.specs.Marks.{marks_of, IsMarkedOn}
use Rattle.chain_core.specs.Reached.{item_at}
use Rattle.chain_core.specs.Slots.{slot_at, link_held, link_released}
use Rattle.chain_core.specs.declared.commitment.Commitment.{Commitment}
use Rattle.chain_core.specs.declared.pool.HeldBatch.{HeldBatch}
use Rattle.chain_core.proofs.PoolLemmas.{alive_drawn, some_held, held_goes, released_goes}
use Rattle.chain_core.proofs.MarkedPoolLemmas.{goes_keeps, put_goes_on, marked_empty, marked_held, marked_released, marked_put, marked_first, marked_child, marked_stays}
use Rattle.tree_shape.specs.declared.mmr.Mmr.{Mmr}
use Rattle.tree_shape.specs.declared.sha256.Sha256Digest.{Sha256Digest}
use Rattle.list_machine.specs.Operation.{Operation}
use Rattle.twin_batches.specs.Kind.{Kind}
use Rattle.twin_batches.specs.StateOf.{Likeness, AreBatchesOf, HasMarks, HaveMarks}
use Rattle.twin_batches.specs.declared.numbers.Batch.{Batch}
use Rattle.twin_batches.specs.declared.numbers.Batch.TheVariants.{Unsealed, Gone}
use Rattle.twin_batches.proofs.Matching.{Model, cases_lt, same_unsealed, unsealed_within, parent_held}

-- ---- unsealed batches of a list that changes in one place

module _ {U : Type 0} (bs : List (Batch U)) (x : Batch U) (q : ℕ) (u : U) where
  unsealed_set : (b : ℕ) → b < length bs → get_or (set bs b x) q Gone ≡ Unsealed u → (get_or bs q Gone ≡ Unsealed u) ⊎ (x ≡ Unsealed u)
  unsealed_set b within at = by_case (cases_eq q b)
    where
      by_case : (q ≡ b) ⊎ (q ≡ b → ⊥) → (get_or bs q Gone ≡ Unsealed u) ⊎ (x ≡ Unsealed u)
      by_case (inl here) = inr (sym (get_or-set_same bs b x Gone within) ∙ subst (λ i. get_or (set bs b x) i Gone ≡ Unsealed u) here at)
      by_case (inr apart) = inl (sym (get_or-set_other bs b q x Gone apart) ∙ at)

  unsealed_push : get_or (bs ++ (x ∷ [])) q Gone ≡ Unsealed u → (get_or bs q Gone ≡ Unsealed u) ⊎ (x ≡ Unsealed u)
  unsealed_push at = by_case (cases_lt q (length bs))
    where
      within : q < length (bs ++ (x ∷ []))
      within = unsealed_within (bs ++ (x ∷ [])) q u at

      by_case : (q < length bs) ⊎ (length bs ≤ q) → (get_or bs q Gone ≡ Unsealed u) ⊎ (x ≡ Unsealed u)
      by_case (inl lt) = inl (sym (get_or_append_left bs (x ∷ []) Gone q lt) ∙ at)
      by_case (inr past) = let l = length-append bs (x ∷ []) in let end : length bs ≡ q = omega (arith, within, past, l) in inr (sym (get_or_push bs x Gone q end) ∙ at)

-- the parent of an unsealed batch was drawn
pub parent_drawn : {S U : Type 0} (like : Likeness S U) (bs : List (Batch U)) (pool : List (Option (HeldBatch S))) (all : List Model) → AreBatchesOf like bs pool all → (b : ℕ) (u : U) → get_or bs b Gone ≡ Unsealed u
    → ForSome (like.parent u) (λ p. p < length pool)
parent_drawn like bs pool all is b u at p e = let held = some_held pool p (parent_held like bs pool all is b u at p e) in alive_drawn pool p held.0 held.1

module _ {Db S U : Type 0} (k : Kind Db S U) where
  abbrev Slots : Type 0
  Slots = List (Option (HeldBatch S))

  pub marks_none : HaveMarks k [] []
  marks_none = record { sealed = marked_empty k.bounds; unsealed = λ b u at. absurd (let lt = unsealed_within [] b u at in omega (arith, lt)) }

  module _ (bs : List (Batch U)) (pool : Slots) (marks : HaveMarks k bs pool) (drawn : (b : ℕ) (u : U) → get_or bs b Gone ≡ Unsealed u → ForSome (k.parent u) (λ p. p < length pool)) where
    -- a pool that goes on, and batches of which each is as before, not unsealed, or has its marks
    module _ (later : Slots) (sealed : AreMarked k.bounds later) (keeps : KeepsItems pool later) where
      has_later : (u : U) → ForSome (k.parent u) (λ p. p < length pool) → HasMarks k pool u → HasMarks k later u
      has_later u within m = record { marks = m.marks; has = m.has; on = marked_stays k.bounds later sealed pool (k.parent u) (k.base u) m.marks keeps within m.on }

      one_later : (u : U) (b : ℕ) (x : Batch U) → ((w : U) → x ≡ Unsealed w → HasMarks k later w) → (get_or bs b Gone ≡ Unsealed u) ⊎ (x ≡ Unsealed u) → HasMarks k later u
      one_later u b x new (inl at) = has_later u (drawn b u at) (marks.unsealed b u at)
      one_later u b x new (inr at) = new u at

      pub marks_set : (b : ℕ) (x : Batch U) → b < length bs → ((w : U) → x ≡ Unsealed w → HasMarks k later w) → HaveMarks k (set bs b x) later
      marks_set b x within new = record { sealed = sealed; unsealed = λ q u at. one_later u q x new (unsealed_set bs x q u b within at) }

      pub marks_push : (x : Batch U) → ((w : U) → x ≡ Unsealed w → HasMarks k later w) → HaveMarks k (bs ++ (x ∷ [])) later
      marks_push x new = record { sealed = sealed; unsealed = λ q u at. one_later u q x new (unsealed_push bs x q u at) }

    -- ---- a new batch

    new_is : (later : Slots) (u w : U) → Unsealed u ≡ Unsealed w → HasMarks k later u → HasMarks k later w
    new_is later u w at m = subst (HasMarks k later) (same_unsealed u w at) m

    marks_begun : (u : U) → HasMarks k (link_held pool (k.parent u)) u → HaveMarks k (bs ++ (Unsealed u ∷ [])) (link_held pool (k.parent u))
    marks_begun u m =
        let later = link_held pool (k.parent u) in
        marks_push later (marked_held k.bounds pool (k.parent u) marks.sealed) (goes_keeps pool later (held_goes pool (k.parent u))) (Unsealed u) (λ w at. new_is later u w at m)

    -- on the present list
    pub marks_first : (u : U) → k.parent u ≡ None → k.is_marked [] u → HaveMarks k (bs ++ (Unsealed u ∷ [])) (link_held pool (k.parent u))
    marks_first u parent has =
        let later = link_held pool (k.parent u) in
        marks_begun u (record { marks = []; has = has; on = subst (λ l. IsMarkedOn k.bounds later l (k.base u) []) (sym parent) (marked_first k.bounds later (k.base u)) })

    -- on a sealed batch
    pub marks_child : (u : U) (id : ℕ) (e : HeldBatch S) (list : List Operation) → k.parent u ≡ Some id → slot_at pool id ≡ Some e → item_at pool id ≡ Some e.item → k.is_sealed list e.item → k.is_unsealed list u
        → k.is_marked (marks_of (k.bounds e.item)) u → HaveMarks k (bs ++ (Unsealed u ∷ [])) (link_held pool (k.parent u))
    marks_child u id e list parent there item sealed unsealed has =
        let later = link_held pool (k.parent u) in
        let base : (k.base u).size ≡ (k.bounds e.item).tip.size = ap (λ (c : Commitment Mmr Sha256Digest). c.size) (k.base_is list u unsealed ∙ sym (k.bounded list e.item sealed).tip) in
        let on = subst (λ l. IsMarkedOn k.bounds pool l (k.base u) (marks_of (k.bounds e.item))) (sym parent) (marked_child k.bounds pool marks.sealed id e.item (k.base u) item base) in
        let within : ForSome (k.parent u) (λ p. p < length pool) = λ p at. subst (λ i. i < length pool) (same_Some id p (sym parent ∙ at)) (alive_drawn pool id e there) in
        marks_begun u (has_later later (marked_held k.bounds pool (k.parent u) marks.sealed) (goes_keeps pool later (held_goes pool (k.parent u))) u within
        (record { marks = marks_of (k.bounds e.item); has = has; on = on }))

    -- ---- an unsealed batch takes an append

    pub marks_appended : (b : ℕ) (u v : U) → get_or bs b Gone ≡ Unsealed u → k.parent v ≡ k.parent u → k.base v ≡ k.base u → ((ms : List ℕ) → k.is_marked ms u → k.is_marked ms v) → HaveMarks k (set bs b (Unsealed v)) pool
    marks_appended b u v at parent base keeps =
        let m = marks.unsealed b u at in
        let on = subst (λ l. IsMarkedOn k.bounds pool l (k.base v) m.marks) (sym parent) (subst (λ c. IsMarkedOn k.bounds pool (k.parent u) c m.marks) (sym base) m.on) in
        let mine : HasMarks k pool v = record { marks = m.marks; has = keeps m.marks m.has; on = on } in
        marks_set pool marks.sealed (λ id x lt is. is) b (Unsealed v) (unsealed_within bs b u at) (λ w is. new_is pool v w is mine)

    -- ---- the pool changes, and a sealed batch or none takes a place

    module _ (b : ℕ) (x : Batch U) (within : b < length bs) (not : (w : U) → x ≡ Unsealed w → ⊥) where
      pub marks_held : (link : Option ℕ) → HaveMarks k (set bs b x) (link_held pool link)
      marks_held link =
          let later = link_held pool link in
          marks_set later (marked_held k.bounds pool link marks.sealed) (goes_keeps pool later (held_goes pool link)) b x within (λ w at. absurd (not w at))

      pub marks_released : (link : Option ℕ) → HaveMarks k (set bs b x) (link_released pool link)
      marks_released link =
          let later = link_released pool link in
          marks_set later (marked_released k.bounds pool link marks.sealed) (goes_keeps pool later (released_goes pool link)) b x within (λ w at. absurd (not w at))

      pub marks_sealed : (link : Option ℕ) (e : HeldBatch S) → IsMarkedAt k.bounds pool e.parent (k.bounds e.item) → HaveMarks k (set bs b x) (link_released pool link ++ (Some e ∷ []))
      marks_sealed link e m =
          let later = link_released pool link ++ (Some e ∷ []) in
          marks_set later (marked_put k.bounds pool link marks.sealed e m) (goes_keeps pool later (put_goes_on pool link (Some e))) b x within (λ w at. absurd (not w at))

    pub marks_taken : (x : Batch U) → ((w : U) → x ≡ Unsealed w → ⊥) → (e : HeldBatch S) → IsMarkedAt k.bounds pool e.parent (k.bounds e.item) → HaveMarks k (bs ++ (x ∷ [])) (pool ++ (Some e ∷ []))
    marks_taken x not e m =
        let later = pool ++ (Some e ∷ []) in
        marks_push later (marked_put k.bounds pool None marks.sealed e m) (goes_keeps pool later (put_goes_on pool None (Some e))) x (λ w at. absurd (not w at))
