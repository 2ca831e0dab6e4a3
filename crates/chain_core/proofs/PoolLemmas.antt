-- How the slots of the pool change.
use Rattle.std.proofs.Common.{◌≡◌, ◌≢◌, ◌⊎◌, inl, inr, ℕ, zero, suc, ◌+◌, ◌-◌, ◌<◌, ◌≤◌, Bool, true, false, cond, List, [], ◌∷◌, ◌++◌, length, set, Option, Some, None, refl, sym, ◌∙◌, ap, subst, arith}
use Rattle.std.specs.List.{All}
use Rattle.std.specs.Option.{option_map, option_map_or, option_and_then, IsSome}
use Rattle.std.specs.Prelude.{◌==◌, IsSomeAnd}
use Rattle.std.proofs.lemmas.Bool.{cases_eq}
use Rattle.std.proofs.lemmas.Bool.Decides.{nat_tests}
use Rattle.std.proofs.lemmas.List.{get_or_append_left, get_or_past, get_or_push, get_or-set_same, get_or-set_other, length-set, length-append}
use Rattle.std.proofs.lemmas.Option.{none-some, same_Some}
use Rattle.chain_core.specs.Slots.{slot_at, holds_of, IsAlive, IsReach, with_hold, without_hold, link_held, link_released}
use Rattle.chain_core.specs.declared.pool.HeldBatch.{HeldBatch}

still_held : (n : ℕ) → (n == 1) ≡ false → 0 < n → 0 < n - 1
still_held n e h = grind (arith, nat_tests)

module _ {T : Type 0} where
  -- ---- one slot

  -- what was there before, under the same number
  pub record Was (old : List (Option (HeldBatch T))) (id : ℕ) (e : HeldBatch T) : Type 0 where
    pub batch : HeldBatch T
    pub there : slot_at old id ≡ Some batch
    pub item : e.item ≡ batch.item
    pub parent : e.parent ≡ batch.parent
    pub held : 0 < batch.holds → 0 < e.holds

  -- the numbers that were drawn stay so, and what is alive under them was so before
  pub record Goes (old new : List (Option (HeldBatch T))) : Type 0 where
    pub drawn : length old ≤ length new
    pub was : (id : ℕ) (e : HeldBatch T) → id < length old → slot_at new id ≡ Some e → Was old id e

  pub same_was : (pool : List (Option (HeldBatch T))) (id : ℕ) (e : HeldBatch T) → slot_at pool id ≡ Some e → Was pool id e
  same_was pool id e is = record { batch = e; there = is; item = refl; parent = refl; held = λ h. h }

  pub same_goes : (pool : List (Option (HeldBatch T))) → Goes pool pool
  same_goes pool = record { drawn = omega arith; was = λ id e lt is. same_was pool id e is }

  -- what is alive was drawn
  pub alive_drawn : (pool : List (Option (HeldBatch T))) (id : ℕ) (e : HeldBatch T) → slot_at pool id ≡ Some e → id < length pool
  alive_drawn pool id e is = elim within as (λ (c : (id < length pool) ⊎ (length pool ≤ id)). id < length pool) [
    | inl lt ↦ lt
    | inr past ↦ absurd (none-some e (sym (get_or_past pool id None past) ∙ is))
  ]
    where
      within : (id < length pool) ⊎ (length pool ≤ id)
      within = grind arith

  -- ---- another slot under one number

  abbrev pub holds_in : Option (HeldBatch T) → ℕ
  holds_in o = option_map_or (λ (b : HeldBatch T). b.holds) o 0

  -- it keeps what was there but for its holds
  pub record Keeps (o : Option (HeldBatch T)) (e : HeldBatch T) : Type 0 where
    pub batch : HeldBatch T
    pub there : o ≡ Some batch
    pub item : e.item ≡ batch.item
    pub parent : e.parent ≡ batch.parent
    pub held : 0 < batch.holds → 0 < e.holds

  module _ (pool : List (Option (HeldBatch T))) (at : ℕ) (f : Option (HeldBatch T) → Option (HeldBatch T)) where
    abbrev New : List (Option (HeldBatch T))
    New = set pool at (f (slot_at pool at))

    pub set_here : at < length pool → slot_at New at ≡ f (slot_at pool at)
    set_here lt = get_or-set_same pool at (f (slot_at pool at)) None lt

    pub set_other : (id : ℕ) → id ≢ at → slot_at New id ≡ slot_at pool id
    set_other id apart = get_or-set_other pool at id (f (slot_at pool at)) None apart

    pub set_holds : (id : ℕ) → id ≢ at → holds_of New id ≡ holds_of pool id
    set_holds id apart = ap holds_in (set_other id apart)

    module _ (keeping : (o : Option (HeldBatch T)) (e : HeldBatch T) → f o ≡ Some e → Keeps o e) where
      set_was : (id : ℕ) (e : HeldBatch T) → id < length pool → slot_at New id ≡ Some e → (id ≡ at) ⊎ (id ≡ at → ⊥) → Was pool id e
      set_was id e lt is (inl here) =
          let there : slot_at New at ≡ Some e = subst (λ i. slot_at New i ≡ Some e) here is in
          let within : at < length pool = omega (arith, here, lt) in
          let k = keeping (slot_at pool at) e (sym (set_here within) ∙ there) in
          record { batch = k.batch; there = ap (slot_at pool) here ∙ k.there; item = k.item; parent = k.parent; held = k.held }
      set_was id e lt is (inr apart) = same_was pool id e (sym (set_other id apart) ∙ is)

      pub set_goes : Goes pool New
      set_goes = record { drawn = simp length-set (omega arith); was = λ id e lt is. set_was id e lt is (cases_eq id at) }

  hold_keeping : (o : Option (HeldBatch T)) (e : HeldBatch T) → option_map with_hold o ≡ Some e → Keeps o e
  hold_keeping None e is = absurd (none-some e is)
  hold_keeping (Some d) e is =
      let same : with_hold d ≡ e = same_Some (with_hold d) e is in
      record { batch = d; there = refl; item = ap (λ (x : HeldBatch T). x.item) (sym same); parent = ap (λ (x : HeldBatch T). x.parent) (sym same); held = λ h. let more = ap (λ (x : HeldBatch T). x.holds) (sym same) in omega (arith, more, h) }

  not_none : (t : Bool) (x e : HeldBatch T) → cond t None (Some x) ≡ Some e → (t ≡ false) × (x ≡ e)
  not_none true x e is = absurd (none-some e is)
  not_none false x e is = (refl, same_Some x e is)

  abbrev less : HeldBatch T → HeldBatch T
  less d = record d { holds = d.holds - 1 }

  release_keeping : (o : Option (HeldBatch T)) (e : HeldBatch T) → option_and_then without_hold o ≡ Some e → Keeps o e
  release_keeping None e is = absurd (none-some e is)
  release_keeping (Some d) e is =
      let k = not_none (d.holds == 1) (less d) e is in
      let same : less d ≡ e = k.1 in
      record { batch = d; there = refl; item = ap (λ (x : HeldBatch T). x.item) (sym same); parent = ap (λ (x : HeldBatch T). x.parent) (sym same); held = λ h. let fewer = ap (λ (x : HeldBatch T). x.holds) (sym same) in let more = still_held d.holds k.0 h in omega (arith, fewer, more) }

  -- ---- a link that is held, and one that is released

  module _ (pool : List (Option (HeldBatch T))) where
    pub held_goes : (link : Option ℕ) → Goes pool (link_held pool link)
    held_goes None = same_goes pool
    held_goes (Some at) = set_goes pool at (option_map with_hold) hold_keeping

    pub released_goes : (link : Option ℕ) → Goes pool (link_released pool link)
    released_goes None = same_goes pool
    released_goes (Some at) = set_goes pool at (option_and_then without_hold) release_keeping

    pub held_length : (link : Option ℕ) → length (link_held pool link) ≡ length pool
    held_length None = refl
    held_length (Some at) = length-set pool at _

    pub released_length : (link : Option ℕ) → length (link_released pool link) ≡ length pool
    released_length None = refl
    released_length (Some at) = length-set pool at _

    pub some_held : (id : ℕ) → 0 < holds_of pool id → (e : HeldBatch T) × (slot_at pool id ≡ Some e) × (e.holds ≡ holds_of pool id)
    some_held id held = found (slot_at pool id) refl held
      where
        found : (o : Option (HeldBatch T)) → slot_at pool id ≡ o → 0 < holds_in o → (e : HeldBatch T) × (slot_at pool id ≡ Some e) × (e.holds ≡ holds_of pool id)
        found None is h = absurd (omega (arith, h))
        found (Some e) is h = (e, is, sym (ap holds_in is))

    pub held_more : (id : ℕ) → 0 < holds_of pool id → holds_of (link_held pool (Some id)) id ≡ holds_of pool id + 1
    held_more id held =
        let k = some_held id held in
        ap holds_in (set_here pool id (option_map with_hold) (alive_drawn pool id k.0 k.1) ∙ ap (option_map with_hold) k.1) ∙ ap (λ (n : ℕ). n + 1) k.2

    once_less : (e : HeldBatch T) (t : Bool) → (e.holds == 1) ≡ t → 0 < e.holds → holds_in (cond t None (Some (less e))) + 1 ≡ e.holds
    once_less e true is h = grind (arith, nat_tests)
    once_less e false is h = omega (arith, h)

    pub released_less : (id : ℕ) → 0 < holds_of pool id → holds_of (link_released pool (Some id)) id + 1 ≡ holds_of pool id
    released_less id held =
        let k = some_held id held in
        let h : 0 < k.0.holds = omega (arith, held, k.2) in
        ap (λ (o : Option (HeldBatch T)). holds_in o + 1) (set_here pool id (option_and_then without_hold) (alive_drawn pool id k.0 k.1) ∙ ap (option_and_then without_hold) k.1)
        ∙ once_less k.0 (k.0.holds == 1) refl h ∙ k.2

    pub held_other : (at id : ℕ) → id ≢ at → holds_of (link_held pool (Some at)) id ≡ holds_of pool id
    held_other at id apart = set_holds pool at (option_map with_hold) id apart

    pub released_other : (at id : ℕ) → id ≢ at → holds_of (link_released pool (Some at)) id ≡ holds_of pool id
    released_other at id apart = set_holds pool at (option_and_then without_hold) id apart

    -- ---- a new number

    module _ (x : Option (HeldBatch T)) where
      pub put_same : (id : ℕ) → id < length pool → slot_at (pool ++ (x ∷ [])) id ≡ slot_at pool id
      put_same id lt = get_or_append_left pool (x ∷ []) None id lt

      pub put_goes : Goes pool (pool ++ (x ∷ []))
      put_goes = record { drawn = simp length-append (omega arith); was = λ id e lt is. same_was pool id e (sym (put_same id lt) ∙ is) }

      pub put_holds : (id : ℕ) → id < length pool → holds_of (pool ++ (x ∷ [])) id ≡ holds_of pool id
      put_holds id lt = ap holds_in (put_same id lt)

      pub put_new : slot_at (pool ++ (x ∷ [])) (length pool) ≡ x
      put_new = get_or_push pool x None (length pool) refl

  -- ---- what is reached

  pub some_and : (o : Option (HeldBatch T)) (P : HeldBatch T → Type 0) → IsSomeAnd o P → (e : HeldBatch T) × (o ≡ Some e) × P e
  some_and None P h = absurd h
  some_and (Some e) P h = (e, refl, h)

  pub alive_is : (o : Option (HeldBatch T)) (e : HeldBatch T) → o ≡ Some e → IsSome o
  alive_is o e is = rw is refl

  pub alive_held : (o : Option (HeldBatch T)) → IsSome o → (e : HeldBatch T) × (o ≡ Some e)
  alive_held None h = absurd (cc)
  alive_held (Some e) h = (e, refl)

  module _ (pool : List (Option (HeldBatch T))) where
    pub reach_alive : (ids : List ℕ) (link : Option ℕ) → IsReach (slot_at pool) link ids → All (IsAlive pool) ids
    reach_alive [] link h k d lt = absurd (omega arith)
    reach_alive (first ∷ rest) None h k d lt = absurd (cc)
    reach_alive (first ∷ rest) (Some id) h zero d lt =
        let s = some_and (slot_at pool id) (λ b. IsReach (slot_at pool) b.parent rest) h.1 in
        rw h.0 (alive_is (slot_at pool id) s.0 s.1)
    reach_alive (first ∷ rest) (Some id) h (suc k) d lt =
        let s = some_and (slot_at pool id) (λ b. IsReach (slot_at pool) b.parent rest) h.1 in
        reach_alive rest s.0.parent s.2 k d (omega arith)
