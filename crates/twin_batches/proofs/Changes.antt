-- What each kind of step makes of the batches in memory and in the pool.
use Rattle.std.proofs.Common.{◌≡◌, ◌⊎◌, inl, inr, ℕ, ◌+◌, ◌-◌, ◌<◌, ◌≤◌, false, List, [], ◌∷◌, ◌++◌, length, get_or, set, Option, Some, None, refl, sym, ◌∙◌, ap, subst, arith}
use Rattle.std.specs.List.{count_by}
use Rattle.std.specs.Option.{ForSome}
use Rattle.std.proofs.lemmas.Bool.{cases_eq}
use Rattle.std.proofs.lemmas.List.{length-append, get_or_past, set-set, get_or-set_same, length-set}
use Rattle.std.proofs.lemmas.Option.{same_Some}
use Rattle.chain_core.specs.Slots as slots
use Rattle.chain_core.specs.Slots.{holds_of}
use Rattle.chain_core.specs.declared.pool.HeldBatch.{HeldBatch}
use Rattle.log_model.specs.StateBatches as batches
use Rattle.log_model.specs.Reach.{names, is_child, link_bound}
use Rattle.chain_core.specs.Slots.{link_held, link_released}
use Rattle.chain_core.proofs.PoolLemmas.{Goes, same_goes, holds_in, alive_drawn, held_goes, released_goes, held_length, released_length, held_more, held_other, released_less, released_other, put_goes, put_holds, put_new}
use Rattle.list_machine.specs.Operation.{Operation}
use Rattle.twin_batches.specs.StateOf.{Likeness, LinkIs, PoolKept, IsUnsealedOf, IsItemOf, IsSealedOf, AreApart, AreBatchesOf, AreFew}
use Rattle.twin_batches.specs.declared.numbers.Batch.{Batch}
use Rattle.twin_batches.specs.declared.numbers.Batch.TheVariants.{Unsealed, Sealed, Gone}
use Rattle.twin_batches.specs.declared.numbers.Holding.{Holding}
use Rattle.twin_batches.proofs.Matching.{Model, bit, cases_lt, same_holding, not_both, not_gone, sealed_within, unsealed_within, count_set, count_push, StandsOn, still_link, still_item, still_batch, still_kept, stands_set, apart_set, stands_push, apart_push, no_children, parent_held, sealed_there, held_by, released_by, kept_after, batches_set, batches_push}

module _ {U : Type 0} where
  -- a link's number is below its batch's
  pub link_below : (bs : List (Batch U)) (b : ℕ) (link p : Option ℕ) → LinkIs bs b link p → link_bound p ≤ b
  link_below bs b None None l = omega arith
  link_below bs b (Some id) (Some p) l = omega (arith, l.0)
  link_below bs b None (Some p) l = absurd l
  link_below bs b (Some id) None l = absurd l

module _ {S U : Type 0} (like : Likeness S U) (bs : List (Batch U)) (pool : List (Option (HeldBatch S))) (all : List Model) (is : AreBatchesOf like bs pool all) where
  abbrev Slots : Type 0
  Slots = List (Option (HeldBatch S))

  -- ---- a batch that is put into the pool

  module _ (e : HeldBatch S) (held : 0 < e.holds) where
    abbrev Put : Slots
    Put = pool ++ (Some e ∷ [])

    put_even : (q : ℕ) (k : Holding) → get_or bs q Gone ≡ Sealed k → holds_of Put k.id + count_by (is_child q) all ≡ holds_of pool k.id + count_by (is_child q) all
    put_even q k at = let s = sealed_there like bs pool all is q k at in let same = put_holds pool (Some e) k.id s.2.drawn in omega (arith, same)

    put_kept : PoolKept Put
    put_kept id d there = by_case (cases_lt id (length pool))
      where
        by_case : (id < length pool) ⊎ (length pool ≤ id) → 0 < d.holds
        by_case (inl lt) = still_kept like bs bs (λ p i st. st) pool Put (put_goes pool (Some e)) is.kept id d lt there
        by_case (inr past) =
            let lt = alive_drawn Put id d there in
            let l = length-append pool (Some e ∷ []) in
            let at : id ≡ length pool = omega (arith, lt, l, past) in
            let same : e ≡ d = same_Some e d (sym (put_new pool (Some e)) ∙ ap (slots.slot_at Put) (sym at) ∙ there) in
            subst (λ (x : HeldBatch S). 0 < x.holds) same held

    pub batches_put : AreBatchesOf like bs (pool ++ (Some e ∷ [])) all
    batches_put = record {
      count = is.count;
      each = λ q. still_batch like bs bs (λ p i st. st) pool Put (put_goes pool (Some e)) is.kept all all q (get_or bs q Gone) (get_or all q batches.Gone) (is.each q) (put_even q);
      apart = is.apart;
      kept = put_kept;
    }

  -- ---- an unsealed batch

  module _ (b : ℕ) (u : U) (at : get_or bs b Gone ≡ Unsealed u) (w : batches.UnsealedBatch Operation) (machine : get_or all b batches.Gone ≡ batches.Unsealed w) (was : IsUnsealedOf like bs b u w) where
    within : b < length bs
    within = unsealed_within bs b u at

    pub any_stands : (x : Batch U) → StandsOn bs (set bs b x)
    any_stands x = stands_set bs b x (λ k e. absurd (not_both u k (sym at ∙ e)))

    -- what takes its place leaves its parent one child less
    counts : (q : ℕ) (y : Model) → is_child q y ≡ false → count_by (is_child q) (set all b y) + bit (names q w.parent) ≡ count_by (is_child q) all
    counts q y not =
        let lt = within in
        let c = count_set all q b y (omega (arith, lt, is.count)) in
        let was : bit (is_child q (get_or all b batches.Gone)) ≡ bit (names q w.parent) = ap (λ z. bit (is_child q z)) machine in
        let now : bit (is_child q y) ≡ 0 = ap bit not in
        omega (arith, c, was, now)

    released_even : (y : Model) → ((q : ℕ) → is_child q y ≡ false) → (q : ℕ) (k : Holding) → (q ≡ b → ⊥) → get_or bs q Gone ≡ Sealed k
        → holds_of (link_released pool (like.parent u)) k.id + count_by (is_child q) all ≡ holds_of pool k.id + count_by (is_child q) (set all b y)
    released_even y not q k other sealed =
        let r = released_by like bs pool all is q k sealed b (like.parent u) w.parent was.link (parent_held like bs pool all is b u at) in
        let c = counts q y (not q) in
        omega (arith, r, c)

    pub batches_lost : AreBatchesOf like (set bs b Gone) (link_released pool (like.parent u)) (set all b batches.Gone)
    batches_lost =
        batches_set like bs pool all is (link_released pool (like.parent u)) (released_goes pool (like.parent u)) b Gone batches.Gone within (any_stands Gone) (released_even batches.Gone (λ q. refl)) tt
        (apart_set bs b Gone within is.apart (λ k e. absurd (not_gone Gone k refl e)))
        (kept_after like bs pool all is (link_released pool (like.parent u)) (released_goes pool (like.parent u)) (released_length pool (like.parent u)))

    -- it takes an append
    pub batches_appended : (v : U) (op : Operation) → like.parent v ≡ like.parent u → like.unsealed v (batches.appended w op)
        → AreBatchesOf like (set bs b (Unsealed v)) pool (set all b (batches.Unsealed (batches.appended w op)))
    batches_appended v op parent same =
        let y : Model = batches.Unsealed (batches.appended w op) in
        let ds : List (Batch U) = set bs b (Unsealed v) in
        let this : IsUnsealedOf like ds b v (batches.appended w op) = record {
          is = same;
          link = subst (λ (l : Option ℕ). LinkIs ds b l w.parent) (sym parent) (still_link bs ds (any_stands (Unsealed v)) b (like.parent u) w.parent was.link);
        } in
        batches_set like bs pool all is pool (same_goes pool) b (Unsealed v) y within (any_stands (Unsealed v))
        (λ q k other sealed.
        let lt = within in
        let c = count_set all q b y (omega (arith, lt, is.count)) in
        let before : bit (is_child q (get_or all b batches.Gone)) ≡ bit (names q w.parent) = ap (λ z. bit (is_child q z)) machine in
        omega (arith, c, before))
        this (apart_set bs b (Unsealed v) within is.apart (λ k e. absurd (not_both v k e))) is.kept

  -- ---- a batch takes the place of one that is gone

  module _ (b : ℕ) (at : get_or bs b Gone ≡ Gone) (lt : b < length bs) (machine : get_or all b batches.Gone ≡ batches.Gone)
      (k : Holding) (c : batches.SealedBatch Operation) (e : HeldBatch S) (put : slots.slot_at pool k.id ≡ Some e) (once : e.holds ≡ 1) (held : k.holds ≡ 1) (holds : c.holds ≡ 1)
      (fresh : (q : ℕ) (j : Holding) → get_or bs q Gone ≡ Sealed j → j.id ≡ k.id → ⊥) (item : IsItemOf like bs b e c) where
    gone_stands : StandsOn bs (set bs b (Sealed k))
    gone_stands = stands_set bs b (Sealed k) (λ j f. absurd (not_gone (get_or bs b Gone) j at f))

    gone_count : (q : ℕ) → count_by (is_child q) (set all b (batches.Sealed c)) ≡ count_by (is_child q) all
    gone_count q =
        let n = count_set all q b (batches.Sealed c) (omega (arith, lt, is.count)) in
        let before : bit (is_child q (get_or all b batches.Gone)) ≡ 0 = ap (λ z. bit (is_child q z)) machine in
        omega (arith, n, before)

    pub batches_filled : AreBatchesOf like (set bs b (Sealed k)) pool (set all b (batches.Sealed c))
    batches_filled =
        let ds : List (Batch U) = set bs b (Sealed k) in
        let one : holds_of pool k.id ≡ e.holds = ap holds_in put in
        let none = no_children like bs pool all is b (λ j f. not_gone (get_or bs b Gone) j at f) in
        let counted = gone_count b in
        let this : IsSealedOf like ds pool (set all b (batches.Sealed c)) b k c = record {
          holds = holds ∙ sym held;
          drawn = alive_drawn pool k.id e put;
          below = link_below bs b e.parent c.parent item.link;
          count = omega (arith, one, once, none, counted, held);
          item = λ d there. subst (λ (x : HeldBatch S). IsItemOf like ds b x c) (same_Some e d (sym put ∙ there))
              (record { is = item.is; link = still_link bs ds gone_stands b e.parent c.parent item.link });
        } in
        batches_set like bs pool all is pool (same_goes pool) b (Sealed k) (batches.Sealed c) lt gone_stands
        (λ q j other sealed. let n = gone_count q in omega (arith, n))
        this (apart_set bs b (Sealed k) lt is.apart (λ j f q i other s e2. fresh q i s (e2 ∙ sym (ap (λ (x : Holding). x.id) (same_holding k j f))))) is.kept

  -- ---- a new batch

  pub batches_begun : (u : U) (w : batches.UnsealedBatch Operation) → like.unsealed u w → LinkIs bs (length bs) (like.parent u) w.parent → ForSome (like.parent u) (λ id. 0 < holds_of pool id)
      → AreBatchesOf like (bs ++ (Unsealed u ∷ [])) (link_held pool (like.parent u)) (all ++ (batches.Unsealed w ∷ []))
  batches_begun u w same link held =
      let after : Slots = link_held pool (like.parent u) in
      let ds : List (Batch U) = bs ++ (Unsealed u ∷ []) in
      let goes = held_goes pool (like.parent u) in
      let this : IsUnsealedOf like ds (length bs) u w = record { is = same; link = still_link bs ds (stands_push bs (Unsealed u)) (length bs) (like.parent u) w.parent link } in
      batches_push like bs pool all is after goes (Unsealed u) (batches.Unsealed w)
      (λ q k sealed.
      let r = held_by like bs pool all is q k sealed (length bs) (like.parent u) w.parent link held in
      let c = count_push all q (batches.Unsealed w) in
      omega (arith, r, c))
      this (apart_push bs (Unsealed u) is.apart (λ k e. absurd (not_both u k e))) (kept_after like bs pool all is after goes (held_length pool (like.parent u)))

  pub batches_added : (k : Holding) (c : batches.SealedBatch Operation) (e : HeldBatch S) → slots.slot_at pool k.id ≡ Some e → e.holds ≡ 1 → k.holds ≡ 1 → c.holds ≡ 1
      → ((q : ℕ) (j : Holding) → get_or bs q Gone ≡ Sealed j → j.id ≡ k.id → ⊥) → IsItemOf like (bs ++ (Sealed k ∷ [])) (length bs) e c
      → AreBatchesOf like (bs ++ (Sealed k ∷ [])) pool (all ++ (batches.Sealed c ∷ []))
  batches_added k c e put once held holds fresh item =
      let ds : List (Batch U) = bs ++ (Sealed k ∷ []) in
      let one : holds_of pool k.id ≡ e.holds = ap holds_in put in
      let none = no_children like bs pool all is (length bs) (λ j f. let lt = sealed_within bs (length bs) j f in absurd (omega (arith, lt))) in
      let counted = count_push all (length bs) (batches.Sealed c) in
      let this : IsSealedOf like ds pool (all ++ (batches.Sealed c ∷ [])) (length bs) k c = record {
        holds = holds ∙ sym held;
        drawn = alive_drawn pool k.id e put;
        below = link_below ds (length bs) e.parent c.parent item.link;
        count = omega (arith, one, once, none, counted, held);
        item = λ d there. subst (λ (x : HeldBatch S). IsItemOf like ds (length bs) x c) (same_Some e d (sym put ∙ there)) item;
      } in
      batches_push like bs pool all is pool (same_goes pool) (Sealed k) (batches.Sealed c)
      (λ q j sealed. let n = count_push all q (batches.Sealed c) in omega (arith, n))
      this (apart_push bs (Sealed k) is.apart (λ j f q i s e2. fresh q i s (e2 ∙ sym (ap (λ (x : Holding). x.id) (same_holding k j f))))) is.kept

  -- ---- holds of a sealed batch

  module _ (b : ℕ) (k : Holding) (at : get_or bs b Gone ≡ Sealed k) (c : batches.SealedBatch Operation) (machine : get_or all b batches.Gone ≡ batches.Sealed c) (was : IsSealedOf like bs pool all b k c) (some : 0 < k.holds) where
    within_all : b < length all
    within_all = let lt = sealed_within bs b k at in omega (arith, lt, is.count)

    pub pool_holds : 0 < holds_of pool k.id
    pool_holds = let n = was.count in omega (arith, some, n)

    module _ (j : Holding) (same : j.id ≡ k.id) where
      other_stands : StandsOn bs (set bs b (Sealed j))
      other_stands = stands_set bs b (Sealed j) (λ i e. (j, refl, same ∙ ap (λ (x : Holding). x.id) (same_holding k i (sym at ∙ e))))

      other_apart : AreApart (set bs b (Sealed j))
      other_apart = apart_set bs b (Sealed j) (sealed_within bs b k at) is.apart (λ l f q i other s e2.
          other (is.apart q b i k s at (e2 ∙ sym (ap (λ (x : Holding). x.id) (same_holding j l f)) ∙ same)))

      same_count : (q : ℕ) (d : batches.SealedBatch Operation) → count_by (is_child q) (set all b (batches.Sealed d)) ≡ count_by (is_child q) all
      same_count q d =
          let n = count_set all q b (batches.Sealed d) within_all in
          let before : bit (is_child q (get_or all b batches.Gone)) ≡ 0 = ap (λ z. bit (is_child q z)) machine in
          omega (arith, n, before)

      module _ (d : batches.SealedBatch Operation) (keeps : (x : S) → like.sealed x c → like.sealed x d) (link : d.parent ≡ c.parent) where
        moved : (after : Slots) (goes : Goes pool after) → d.holds ≡ j.holds → holds_of after k.id ≡ j.holds + count_by (is_child b) all
            → IsSealedOf like (set bs b (Sealed j)) after (set all b (batches.Sealed d)) b j d
        moved after goes holds count =
            let n = same_count b d in record {
              holds = holds;
              drawn = omega (arith, same, was.drawn, goes.drawn);
              below = rw link was.below;
              count = rw (same, n) count;
              item = λ e there.
                  let v = goes.was k.id e was.drawn (rw same at there) in
                  let i = still_item like bs (set bs b (Sealed j)) other_stands pool after goes is.kept b k.id e v c (was.item v.batch v.there) in
                  record { is = keeps e.item i.is; link = subst (λ (p : Option ℕ). LinkIs (set bs b (Sealed j)) b e.parent p) (sym link) i.link };
            }

        pub batches_held : j.holds ≡ k.holds + 1 → d.holds ≡ c.holds + 1 → AreBatchesOf like (set bs b (Sealed j)) (link_held pool (Some k.id)) (set all b (batches.Sealed d))
        batches_held more also =
            let after : Slots = link_held pool (Some k.id) in
            let goes = held_goes pool (Some k.id) in
            let up = held_more pool k.id pool_holds in
            batches_set like bs pool all is after goes b (Sealed j) (batches.Sealed d) (sealed_within bs b k at) other_stands
            (λ q i other sealed.
            let o = held_other pool k.id i.id (λ e. other (is.apart q b i k sealed at e)) in
            let n = same_count q d in
            omega (arith, o, n))
            (moved after goes (let x = was.holds in omega (arith, more, also, x)) (let n = was.count in omega (arith, up, more, n)))
            other_apart (kept_after like bs pool all is after goes (held_length pool (Some k.id)))

        pub batches_released : j.holds ≡ k.holds - 1 → d.holds ≡ c.holds - 1 → AreBatchesOf like (set bs b (Sealed j)) (link_released pool (Some k.id)) (set all b (batches.Sealed d))
        batches_released fewer also =
            let after : Slots = link_released pool (Some k.id) in
            let goes = released_goes pool (Some k.id) in
            let down = released_less pool k.id pool_holds in
            batches_set like bs pool all is after goes b (Sealed j) (batches.Sealed d) (sealed_within bs b k at) other_stands
            (λ q i other sealed.
            let o = released_other pool k.id i.id (λ e. other (is.apart q b i k sealed at e)) in
            let n = same_count q d in
            omega (arith, o, n))
            (moved after goes (let x = was.holds in omega (arith, fewer, also, x)) (let n = was.count in omega (arith, down, fewer, some, n)))
            other_apart (kept_after like bs pool all is after goes (released_length pool (Some k.id)))

-- ---- a seal

module _ {S U : Type 0} (like : Likeness S U) (bs : List (Batch U)) (pool : List (Option (HeldBatch S))) (all : List Model) (is : AreBatchesOf like bs pool all)
    (b : ℕ) (u : U) (at : get_or bs b Gone ≡ Unsealed u) (w : batches.UnsealedBatch Operation) (machine : get_or all b batches.Gone ≡ batches.Unsealed w) (was : IsUnsealedOf like bs b u w)
    (x : S) (c : batches.SealedBatch Operation) (same : like.sealed x c) (once : c.holds ≡ 1) (parent : c.parent ≡ w.parent) where
  abbrev Made : HeldBatch S
  Made = record { item = x; parent = like.parent u; holds = 1 }

  abbrev Left : List (Option (HeldBatch S))
  Left = link_released pool (like.parent u)

  there : b < length bs
  there = unsealed_within bs b u at

  left : AreBatchesOf like (set bs b Gone) Left (set all b batches.Gone)
  left = batches_lost like bs pool all is b u at w machine was

  put : AreBatchesOf like (set bs b Gone) (Left ++ (Some Made ∷ [])) (set all b batches.Gone)
  put = batches_put like (set bs b Gone) Left (set all b batches.Gone) left Made (omega arith)

  -- a batch is sealed, where its batch stands in the pool under a number of its own
  pub batches_sealed : (j : Holding) → j.id ≡ length pool → j.holds ≡ 1
      → AreBatchesOf like (set bs b (Sealed j)) (link_released pool (like.parent u) ++ (Some (record { item = x; parent = like.parent u; holds = 1 }) ∷ [])) (set all b (batches.Sealed c))
  batches_sealed j number held =
      let lt = there in
      let n = released_length pool (like.parent u) in
      let new : slots.slot_at (Left ++ (Some Made ∷ [])) j.id ≡ Some Made = subst (λ i. slots.slot_at (Left ++ (Some Made ∷ [])) i ≡ Some Made) (n ∙ sym number) (put_new Left (Some Made)) in
      let link : LinkIs (set bs b Gone) b (like.parent u) c.parent = subst (λ (p : Option ℕ). LinkIs (set bs b Gone) b (like.parent u) p) (sym parent)
      (still_link bs (set bs b Gone) (any_stands like bs pool all is b u at w machine was Gone) b (like.parent u) w.parent was.link) in
      let filled = batches_filled like (set bs b Gone) (Left ++ (Some Made ∷ [])) (set all b batches.Gone) put b
      (get_or-set_same bs b Gone Gone lt) (let l = length-set bs b Gone in omega (arith, l, lt)) (get_or-set_same all b batches.Gone batches.Gone (omega (arith, lt, is.count)))
      j c Made new refl held once
      (λ q i sealed e. let d = (sealed_there like (set bs b Gone) Left (set all b batches.Gone) left q i sealed).2.drawn in omega (arith, d, e, n, number))
      (record { is = same; link = link }) in
      rw (set-set, set-set) at filled

-- ---- how many

module _ {S : Type 0} (n : ℕ) (pool : List (Option (HeldBatch S))) (few : AreFew n pool) where
  pub few_held : ((id : ℕ) → holds_of pool id < n) → (link : Option ℕ) → ForSome link (λ id. 0 < holds_of pool id) → AreFew n (link_held pool link)
  few_held room None held = few
  few_held room (Some at) held = record { drawn = rw (held_length pool (Some at)) few.drawn; holds = λ id. by_case id (cases_eq id at) }
    where
      by_case : (id : ℕ) → (id ≡ at) ⊎ (id ≡ at → ⊥) → holds_of (link_held pool (Some at)) id ≤ n
      by_case id (inl here) = let up = held_more pool at (held at refl) in let r = room at in rw here (omega (arith, up, r))
      by_case id (inr apart) = let o = held_other pool at id apart in let f = few.holds id in omega (arith, o, f)

  pub few_released : (link : Option ℕ) → ForSome link (λ id. 0 < holds_of pool id) → AreFew n (link_released pool link)
  few_released None held = few
  few_released (Some at) held = record { drawn = rw (released_length pool (Some at)) few.drawn; holds = λ id. by_case id (cases_eq id at) }
    where
      by_case : (id : ℕ) → (id ≡ at) ⊎ (id ≡ at → ⊥) → holds_of (link_released pool (Some at)) id ≤ n
      by_case id (inl here) = let down = released_less pool at (held at refl) in let f = few.holds at in rw here (omega (arith, down, f))
      by_case id (inr apart) = let o = released_other pool at id apart in let f = few.holds id in omega (arith, o, f)

  pub few_put : (e : HeldBatch S) → length pool < n → e.holds ≡ 1 → AreFew n (pool ++ (Some e ∷ []))
  few_put e room once = record { drawn = let l = length-append pool (Some e ∷ []) in omega (arith, l, room); holds = λ id. by_case id (cases_lt id (length pool)) }
    where
      by_case : (id : ℕ) → (id < length pool) ⊎ (length pool ≤ id) → holds_of (pool ++ (Some e ∷ [])) id ≤ n
      by_case id (inl lt) = let s = put_holds pool (Some e) id lt in let f = few.holds id in omega (arith, s, f)
      by_case id (inr past) = at_end (cases_eq id (length pool))
        where
          at_end : (id ≡ length pool) ⊎ (id ≡ length pool → ⊥) → holds_of (pool ++ (Some e ∷ [])) id ≤ n
          at_end (inl here) = let s : holds_of (pool ++ (Some e ∷ [])) id ≡ 1 = ap (λ i. holds_of (pool ++ (Some e ∷ [])) i) here ∙ ap holds_in (put_new pool (Some e)) ∙ once in omega (arith, s, room)
          at_end (inr apart) = let s : holds_of (pool ++ (Some e ∷ [])) id ≡ 0 = ap holds_in (get_or_past (pool ++ (Some e ∷ [])) id None (let l = length-append pool (Some e ∷ []) in omega (arith, l, past, apart))) in omega (arith, s)
