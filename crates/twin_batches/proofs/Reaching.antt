-- What is reached in the pool, and what the list machine reaches.
use Rattle.std.proofs.Common.{◌≡◌, ℕ, zero, suc, ◌+◌, ◌<◌, ◌≤◌, Bool, true, false, ◌||◌, cond, List, [], ◌∷◌, ◌++◌, length, map, take, get_or, Option, Some, None, refl, sym, ◌∙◌, ap, ap₂, subst, arith}
use Rattle.std.specs.Prelude.{nat_lt, IfSome, IsSomeAnd}
use Rattle.std.specs.List.{count_by, list_any, AllByRecursion}
use Rattle.std.specs.Option.{option_map, option_map_or, ForSome}
use Rattle.std.proofs.lemmas.Option.{none-some, same_Some}
use Rattle.chain_core.specs.Commitments.{later_state}
use Rattle.chain_core.specs.Slots as slots
use Rattle.chain_core.specs.Slots.{holds_of, IsAlive, IsReach}
use Rattle.chain_core.specs.declared.commitment.Commitment.{Commitment}
use Rattle.chain_core.specs.declared.pool.HeldBatch.{HeldBatch}
use Rattle.tree_shape.specs.declared.mmr.Mmr.{Mmr}
use Rattle.tree_shape.specs.declared.sha256.Sha256Digest.{Sha256Digest}
use Rattle.log_model.specs.StateBatches as batches
use Rattle.log_model.specs.Good.{ParentFits, HasParent}
use Rattle.log_model.specs.Machine.{State, batch_at}
use Rattle.log_model.specs.Operations.{floor_of}
use Rattle.log_model.specs.Reach as model
use Rattle.log_model.specs.Reach.{is_child, is_alive, if_alive, alive_at, linked, reach_from, reach, link_bound, tips_of, oldest_base, later, effective_boundary}
use Rattle.log_model.proofs.ReachLemmas.{LinksFall, reach_end, reach_more, Begins, begins_take, begins_begins}
use Rattle.tree_shape.specs.Mmr.{mmr}
use Rattle.chain_core.specs.Reached.{one_or_none, item_at, linked_item, items_at, oldest_in, inherited_state, parent_floor, Reaches}
use Rattle.chain_core.specs.Chains.{StandsIn, IsPoolOf}
use Rattle.chain_core.specs.States.{sizes}
use Rattle.volume_base.specs.Moments.{Image}
use Rattle.chain_core.proofs.StateLemmas.{state_of_front, state_behind, whole, later_size, later_in}
use Rattle.chain_core.proofs.PoolLemmas.{holds_in, some_and, alive_held}
use Rattle.list_machine.specs.Operation.{Operation, meaning, sha}
use Rattle.list_machine.specs.Commitments.{IsStateIn, AreStatesIn, AreBounds}
use Rattle.twin_batches.specs.Kind.{Kind, kept_of}
use Rattle.twin_batches.specs.StateOf.{Stands, LinkIs, IsUnsealedOf, IsItemOf, IsEntryOf, AreBatchesOf, same_lists}
use Rattle.twin_batches.specs.declared.numbers.Batch.{Batch}
use Rattle.twin_batches.specs.declared.numbers.Batch.TheVariants.{Gone}
use Rattle.twin_batches.proofs.Fronts.{lt_true}
use Rattle.twin_batches.proofs.Matching.{model_sealed, sealed_there, any_counted, none_counted}

-- what the pool keeps under a number
pub item_some : {S : Type 0} (pool : List (Option (HeldBatch S))) (id : ℕ) (x : S) → item_at pool id ≡ Some x → (e : HeldBatch S) × (slots.slot_at pool id ≡ Some e) × (e.item ≡ x)
item_some {S} pool id x = found (slots.slot_at pool id) refl
  where
    found : (o : Option (HeldBatch S)) → slots.slot_at pool id ≡ o → option_map (λ (b : HeldBatch S). b.item) o ≡ Some x → (e : HeldBatch S) × (slots.slot_at pool id ≡ Some e) × (e.item ≡ x)
    found None is e = absurd (none-some x e)
    found (Some d) is e = (d, is, same_Some d.item x e)

module _ {Db S U : Type 0} (k : Kind Db S U) where
  -- ---- what one batch that is reached fits

  -- its states are those of fronts of a list, and its sizes are the list machine's
  pub record Mirrors (list : List Operation) (d : S) (c : batches.SealedBatch Operation) : Type 0 where
    pub tip_in : IsStateIn list (k.bounds d).tip
    pub base_in : IsStateIn list (k.bounds d).base
    pub tip : (k.bounds d).tip.size ≡ length c.list
    pub base : (k.bounds d).base.size ≡ c.base

  abbrev pub AllMirror : List Operation → List S → List (batches.SealedBatch Operation) → Type 0
  AllMirror list [] [] = Unit {0}
  AllMirror list [] (c ∷ cs) = ⊥
  AllMirror list (d ∷ ds) [] = ⊥
  AllMirror list (d ∷ ds) (c ∷ cs) = Mirrors list d c × AllMirror list ds cs

  module _ (list : List Operation) where
    pub mirrored_tips : (ds : List S) (cs : List (batches.SealedBatch Operation)) → AllMirror list ds cs → sizes (map (λ (x : S). (k.bounds x).tip) ds) ≡ tips_of cs
    mirrored_tips [] [] m = refl
    mirrored_tips [] (c ∷ cs) m = absurd m
    mirrored_tips (d ∷ ds) [] m = absurd m
    mirrored_tips (d ∷ ds) (c ∷ cs) m = ap₂ (λ (n : ℕ) (ns : List ℕ). n ∷ ns) m.0.tip (mirrored_tips ds cs m.1)

    pub mirrored_tips_in : (ds : List S) (cs : List (batches.SealedBatch Operation)) → AllMirror list ds cs → AreStatesIn list (map (λ (x : S). (k.bounds x).tip) ds)
    mirrored_tips_in [] [] m = tt
    mirrored_tips_in [] (c ∷ cs) m = absurd m
    mirrored_tips_in (d ∷ ds) [] m = absurd m
    mirrored_tips_in (d ∷ ds) (c ∷ cs) m = (m.0.tip_in, mirrored_tips_in ds cs m.1)

    pub mirrored_stand : (ds : List S) (cs : List (batches.SealedBatch Operation)) → AllMirror list ds cs → AllByRecursion (StandsIn k.bounds mmr sha meaning list) ds
    mirrored_stand [] [] m = tt
    mirrored_stand [] (c ∷ cs) m = absurd m
    mirrored_stand (d ∷ ds) [] m = absurd m
    mirrored_stand (d ∷ ds) (c ∷ cs) m = ((m.0.base_in, m.0.tip_in), mirrored_stand ds cs m.1)

    pub mirrored_oldest : (ds : List S) (cs : List (batches.SealedBatch Operation)) → AllMirror list ds cs → option_map (λ (c : Commitment Mmr Sha256Digest). c.size) (oldest_in k.bounds ds) ≡ oldest_base cs
    mirrored_oldest [] [] m = refl
    mirrored_oldest [] (c ∷ cs) m = absurd m
    mirrored_oldest (d ∷ ds) [] m = absurd m
    mirrored_oldest (d ∷ []) (c ∷ []) m = ap Some m.0.base
    mirrored_oldest (d ∷ []) (c ∷ b ∷ cs) m = absurd m.1
    mirrored_oldest (d ∷ e ∷ ds) (c ∷ []) m = absurd m.1
    mirrored_oldest (d ∷ e ∷ ds) (c ∷ b ∷ cs) m = mirrored_oldest (e ∷ ds) (b ∷ cs) m.1

    pub mirrored_oldest_in : (ds : List S) (cs : List (batches.SealedBatch Operation)) → AllMirror list ds cs → IfSome (oldest_in k.bounds ds) (IsStateIn list)
    mirrored_oldest_in [] [] m = tt
    mirrored_oldest_in [] (c ∷ cs) m = absurd m
    mirrored_oldest_in (d ∷ ds) [] m = absurd m
    mirrored_oldest_in (d ∷ []) (c ∷ []) m = m.0.base_in
    mirrored_oldest_in (d ∷ []) (c ∷ b ∷ cs) m = absurd m.1
    mirrored_oldest_in (d ∷ e ∷ ds) (c ∷ []) m = absurd m.1
    mirrored_oldest_in (d ∷ e ∷ ds) (c ∷ b ∷ cs) m = mirrored_oldest_in (e ∷ ds) (b ∷ cs) m.1

  module _ (bs : List (Batch U)) (pool : List (Option (HeldBatch S))) (s : State Operation) (is : AreBatchesOf (same_lists k) bs pool s.batches) where
    -- ---- what is alive

    alive_if : (p : ℕ) (c : batches.SealedBatch Operation) (t : Bool) → batch_at s p ≡ batches.Sealed c → is_alive s p c ≡ t → alive_at s (Some p) ≡ cond t (Some c) None
    alive_if p c t e told = ap (if_alive s p) e ∙ ap (λ (b : Bool). cond b (Some c) None) told

    held_or_child : (n m : ℕ) (any : Bool) → (0 < m → any ≡ true) → 0 < n + m → (nat_lt 0 n || any) ≡ true
    held_or_child zero m any child some = child (omega (arith, some))
    held_or_child (suc n) m any child some = rw (lt_true 0 (suc n) (omega arith)) refl

    pub alive_there : (p id : ℕ) (e : HeldBatch S) → Stands bs p id → slots.slot_at pool id ≡ Some e
        → (c : batches.SealedBatch Operation) × (batch_at s p ≡ batches.Sealed c) × (alive_at s (Some p) ≡ Some c) × IsItemOf (same_lists k) bs p e c
    alive_there p id e st there =
        let j = st.holding in
        let found : slots.slot_at pool j.id ≡ Some e = ap (slots.slot_at pool) st.id_is ∙ there in
        let c = sealed_there (same_lists k) bs pool s.batches is p j st.sealed in
        let held : 0 < holds_of pool j.id = let n : holds_of pool j.id ≡ e.holds = ap holds_in found in let some = is.kept id e there in omega (arith, n, some) in
        let alive : is_alive s p c.0 ≡ true = held_or_child c.0.holds (count_by (is_child p) s.batches) (list_any (is_child p) s.batches) (any_counted (is_child p) s.batches) (let n = c.2.count in let x = c.2.holds in omega (arith, held, n, x)) in
        (c.0, c.1, alive_if p c.0 true c.1 alive, c.2.item e found)

    not_held : (n : ℕ) (any : Bool) → n ≡ 0 → any ≡ false → (nat_lt 0 n || any) ≡ false
    not_held n any e f = rw (e, f) refl

    pub dead_there : (p id : ℕ) → Stands bs p id → slots.slot_at pool id ≡ None → alive_at s (Some p) ≡ None
    dead_there p id st none =
        let j = st.holding in
        let c = sealed_there (same_lists k) bs pool s.batches is p j st.sealed in
        let free : holds_of pool j.id ≡ 0 = ap (λ i. holds_of pool i) st.id_is ∙ ap holds_in none in
        let n = c.2.count in
        let x = c.2.holds in
        let dead : is_alive s p c.0 ≡ false = not_held c.0.holds (list_any (is_child p) s.batches) (omega (arith, free, n, x)) (none_counted (is_child p) s.batches (omega (arith, free, n))) in
        alive_if p c.0 false c.1 dead

    falls : LinksFall s
    falls p c e =
        let j = model_sealed (same_lists k) bs pool s.batches p (get_or bs p Gone) c (subst (λ y. IsEntryOf (same_lists k) bs pool s.batches p (get_or bs p Gone) y) e (is.each p)) in
        j.2.below

    -- ---- what is reached

    module _ (parents : (b : ℕ) → HasParent s b (batch_at s b)) where
      -- the list of the batch that a link names is a front of this one
      abbrev LinkFront : List Operation → Option ℕ → Type 0
      LinkFront list None = Unit {0}
      LinkFront list (Some p) = (c : batches.SealedBatch Operation) → batch_at s p ≡ batches.Sealed c → Begins c.list list

      link_front : (b : ℕ) (list : List Operation) (base : ℕ) (link : Option ℕ) → base ≤ length list → ParentFits s b list base link → LinkFront list link
      link_front b list base None le fits = tt
      link_front b list base (Some p) le fits = λ c at.
          let same : c.list ≡ take base list = subst (λ (y : batches.Batch Operation). IsSomeAnd (model.as_sealed y) (λ d. d.list ≡ take base list)) at fits.1 in
          begins_take c.list list base le same

      wider_front : (xs ys : List Operation) (link : Option ℕ) → Begins xs ys → LinkFront xs link → LinkFront ys link
      wider_front xs ys None begins front = tt
      wider_front xs ys (Some p) begins front = λ c at. begins_begins c.list xs ys (front c at) begins

      items_first : (id : ℕ) (e : HeldBatch S) (rest : List ℕ) → slots.slot_at pool id ≡ Some e → items_at pool (id ∷ rest) ≡ e.item ∷ items_at pool rest
      items_first id e rest there = ap (λ (o : Option (HeldBatch S)). one_or_none (option_map (λ (b : HeldBatch S). b.item) o) ++ items_at pool rest) there

      pub reached : (list : List Operation) (ids : List ℕ) (b : ℕ) (link p : Option ℕ) → LinkIs bs b link p → IsReach (slots.slot_at pool) link ids → LinkFront list p → AllMirror list (items_at pool ids) (reach_from s (link_bound p) p)
      reached list [] b None None l r front = tt
      reached list [] b (Some id) (Some p) l r front =
          subst (AllMirror list []) (sym (reach_end s falls (Some p) (dead_there p id l.1 r))) tt
      reached list (first ∷ rest) b None None l r front = absurd (cc)
      reached list (first ∷ rest) b (Some id) (Some p) l r front =
          let a = some_and (slots.slot_at pool id) (λ x. IsReach (slots.slot_at pool) x.parent rest) r.1 in
          let e = a.0 in
          let c = alive_there p id e l.1 a.1 in
          let own : List Operation = c.0.list in
          let bounds : AreBounds own (k.bounds e.item) = k.bounded own e.item c.3.is.list in
          let begins : Begins own list = front c.0 c.1 in
          let has : HasParent s p (batches.Sealed c.0) = subst (HasParent s p) c.1 (parents p) in
          let base_is = c.3.is.base in
          let next : LinkFront own c.0.parent = link_front p own c.0.base c.0.parent (let le = bounds.base.0 in omega (arith, base_is, le)) has in
          let here : Mirrors list e.item c.0 = record {
            tip_in = subst (IsStateIn list) (sym bounds.tip) (state_of_front mmr sha meaning own list begins);
            base_in = state_behind mmr sha meaning own list begins (k.bounds e.item).base bounds.base;
            tip = ap (λ (d : Commitment Mmr Sha256Digest). d.size) bounds.tip;
            base = sym base_is;
          } in
          let more = reached list rest p e.parent c.0.parent c.3.link a.2 (wider_front own list c.0.parent begins next) in
          let all : AllMirror list (e.item ∷ items_at pool rest) (c.0 ∷ reach_from s (link_bound c.0.parent) c.0.parent) = (here, more) in
          subst (λ ds. AllMirror list ds (reach_from s (suc p) (Some p))) (sym (ap (λ i. items_at pool (i ∷ rest)) r.0 ∙ items_first id e rest a.1))
          (subst (AllMirror list (e.item ∷ items_at pool rest)) (sym (reach_more s falls p c.0 c.2)) all)
      reached list ids b None (Some p) l r front = absurd l
      reached list ids b (Some id) None l r front = absurd l

      -- ---- the place of an unsealed batch

      module _ (b : ℕ) (u : U) (w : batches.UnsealedBatch Operation) (at : batch_at s b ≡ batches.Unsealed w) (was : IsUnsealedOf (same_lists k) bs b u w) where
        front : LinkFront w.list w.parent
        front = link_front b w.list w.base w.parent (let e = was.is.base in omega (arith, e)) (subst (HasParent s b) at (parents b))

        boundary_in : (link p : Option ℕ) → LinkIs bs b link p → LinkFront w.list p → (x : S) → linked_item pool link ≡ Some x → IsStateIn w.list (k.bounds x).db
        boundary_in None None l f x some = absurd (none-some x some)
        boundary_in (Some id) (Some p) l f x some =
            let e = item_some pool id x some in
            let c = alive_there p id e.0 l.1 e.1 in
            let bounds : AreBounds c.0.list (k.bounds e.0.item) = k.bounded c.0.list e.0.item c.3.is.list in
            subst (λ (y : S). IsStateIn w.list (k.bounds y).db) e.2 (state_behind mmr sha meaning c.0.list w.list (f c.0 c.1) (k.bounds e.0.item).db bounds.db)
        boundary_in None (Some p) l f x some = absurd l
        boundary_in (Some id) None l f x some = absurd l

        mirror : (ids : List ℕ) → IsReach (slots.slot_at pool) (k.parent u) ids → AllMirror w.list (items_at pool ids) (reach s w)
        mirror ids r = reached w.list ids b (k.parent u) w.parent was.link r front

        -- the pool is that of its list
        pub pool_of : IsPoolOf k.bounds mmr sha meaning pool (k.parent u) w.list
        pool_of = record {
          boundary = boundary_in (k.parent u) w.parent was.link front;
          reached = λ ids r. mirrored_stand w.list (items_at pool ids) (reach s w) (mirror ids r);
        }

        module _ (alive : ForSome (k.parent u) (IsAlive pool)) where
          base_size : (k.base u).size ≡ w.base
          base_size = ap (λ (d : Commitment Mmr Sha256Digest). d.size) (k.base_is w.list u was.is.list) ∙ sym was.is.base

          -- what a link names, alive
          linked_there : (p id : ℕ) (e : HeldBatch S) → Stands bs p id → slots.slot_at pool id ≡ Some e → (c : batches.SealedBatch Operation) × (linked s (Some p) ≡ Some c) × IsItemOf (same_lists k) bs p e c
          linked_there p id e st there =
              let c = alive_there p id e st there in
              (c.0, ap model.as_sealed c.1, c.3)

          inherits : (link p : Option ℕ) → LinkIs bs b link p → ForSome link (IsAlive pool) → (inherited_state k.bounds pool link (k.base u)).size ≡ option_map_or (λ (c : batches.SealedBatch Operation). c.boundary) (linked s p) w.base
          inherits None None l a = base_size
          inherits (Some id) (Some p) l a =
              let e = alive_held (slots.slot_at pool id) (a id refl) in
              let c = linked_there p id e.0 l.1 e.1 in
              ap (λ (o : Option (HeldBatch S)). (option_map_or (λ (x : S). (k.bounds x).db) (option_map (λ (b : HeldBatch S). b.item) o) (k.base u)).size) e.1
              ∙ sym c.2.is.boundary
              ∙ sym (ap (λ o. option_map_or (λ (x : batches.SealedBatch Operation). x.boundary) o w.base) c.1)
          inherits None (Some p) l a = absurd l
          inherits (Some id) None l a = absurd l

          inherits_in : (link p : Option ℕ) → LinkIs bs b link p → LinkFront w.list p → ForSome link (IsAlive pool) → IsStateIn w.list (inherited_state k.bounds pool link (k.base u))
          inherits_in None None l f a = subst (IsStateIn w.list) (sym (k.base_is w.list u was.is.list)) (state_of_front mmr sha meaning w.list w.list (whole w.list))
          inherits_in (Some id) (Some p) l f a =
              let e = alive_held (slots.slot_at pool id) (a id refl) in
              let state : IsStateIn w.list (k.bounds e.0.item).db = boundary_in (Some id) (Some p) l f e.0.item (ap (option_map (λ (b : HeldBatch S). b.item)) e.1) in
              subst (λ (o : Option (HeldBatch S)). IsStateIn w.list (option_map_or (λ (x : S). (k.bounds x).db) (option_map (λ (b : HeldBatch S). b.item) o) (k.base u))) (sym e.1) state
          inherits_in None (Some p) l f a = absurd l
          inherits_in (Some id) None l f a = absurd l

          pub place_floor : (image : Image) (db : Db) → k.is_of (kept_of s) image db → (link p : Option ℕ) → LinkIs bs b link p → ForSome link (IsAlive pool)
              → parent_floor k.bounds pool link (k.floor db) ≡ option_map_or (λ (c : batches.SealedBatch Operation). c.floor) (linked s p) (floor_of meaning s.ops)
          place_floor image db of None None l a = k.floor_is (kept_of s) image db of
          place_floor image db of (Some id) (Some p) l a =
              let e = alive_held (slots.slot_at pool id) (a id refl) in
              let c = linked_there p id e.0 l.1 e.1 in
              ap (λ (o : Option (HeldBatch S)). option_map_or (λ (x : S). (k.bounds x).inactivity_floor) (option_map (λ (b : HeldBatch S). b.item) o) (k.floor db)) e.1
              ∙ sym c.2.is.floor
              ∙ sym (ap (λ o. option_map_or (λ (x : batches.SealedBatch Operation). x.floor) o (floor_of meaning s.ops)) c.1)
          place_floor image db of None (Some p) l a = absurd l
          place_floor image db of (Some id) None l a = absurd l

          module _ (tips : List (Commitment Mmr Sha256Digest)) (oldest : Option (Commitment Mmr Sha256Digest)) (found : Reaches k.bounds pool (k.parent u) tips oldest) where
            here : AllMirror w.list (items_at pool found.ids) (reach s w)
            here = mirror found.ids found.reach

            pub place_tips : sizes tips ≡ tips_of (reach s w)
            place_tips = ap sizes found.tips_are ∙ mirrored_tips w.list (items_at pool found.ids) (reach s w) here

            pub place_tips_in : AreStatesIn w.list tips
            place_tips_in = subst (AreStatesIn w.list) (sym found.tips_are) (mirrored_tips_in w.list (items_at pool found.ids) (reach s w) here)

            place_oldest : option_map (λ (c : Commitment Mmr Sha256Digest). c.size) oldest ≡ oldest_base (reach s w)
            place_oldest = ap (option_map (λ (c : Commitment Mmr Sha256Digest). c.size)) found.oldest_is ∙ mirrored_oldest w.list (items_at pool found.ids) (reach s w) here

            place_oldest_in : IfSome oldest (IsStateIn w.list)
            place_oldest_in = subst (λ o. IfSome o (IsStateIn w.list)) (sym found.oldest_is) (mirrored_oldest_in w.list (items_at pool found.ids) (reach s w) here)

            pub place_boundary : (later_state (inherited_state k.bounds pool (k.parent u) (k.base u)) oldest).size ≡ effective_boundary s w
            place_boundary = later_size (inherited_state k.bounds pool (k.parent u) (k.base u)) oldest ∙ ap₂ later (inherits (k.parent u) w.parent was.link alive) place_oldest

            pub place_boundary_in : IsStateIn w.list (later_state (inherited_state k.bounds pool (k.parent u) (k.base u)) oldest)
            place_boundary_in = later_in mmr sha meaning w.list (inherited_state k.bounds pool (k.parent u) (k.base u)) oldest (inherits_in (k.parent u) w.parent was.link front alive) place_oldest_in
