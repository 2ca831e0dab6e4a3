-- What the batches in memory and in the pool have in common with a state's, and that it stays so.
use Rattle.std.proofs.Common.{◌≡◌, ◌⊎◌, inl, inr, ℕ, suc, ◌+◌, ◌<◌, ◌≤◌, Bool, true, false, ◌||◌, cond, List, [], ◌∷◌, ◌++◌, length, get_or, set, Option, Some, None, refl, sym, ◌∙◌, ap, subst, arith}
use Rattle.std.specs.List.{count_by, list_any}
use Rattle.std.specs.Option.{ForSome}
use Rattle.std.proofs.lemmas.Bool.{cases_eq}
use Rattle.std.proofs.lemmas.Bool.Decides.{nat_tests}
use Rattle.std.proofs.lemmas.List.{get_or_append_left, get_or_past, get_or_push, get_or-set_same, get_or-set_other, length-set, length-append}
use Rattle.std.proofs.lemmas.List.Sums.{sum_by-set, sum_by_push, sum_by-cons, get_or-le-sum_by}
use Rattle.std.proofs.lemmas.Option.{none-some, same_Some, slice_get_read, get_or_from_slice_get}
use Rattle.chain_core.specs.Slots as slots
use Rattle.chain_core.specs.Slots.{holds_of, IsAlive}
use Rattle.chain_core.specs.declared.pool.HeldBatch.{HeldBatch}
use Rattle.log_model.specs.StateBatches as batches
use Rattle.log_model.specs.Reach.{names, is_child}
use Rattle.chain_core.specs.Slots.{link_held, link_released}
use Rattle.chain_core.proofs.PoolLemmas.{Was, Goes, holds_in, alive_held, alive_drawn, some_held, alive_is, held_more, held_other, released_less, released_other}
use Rattle.list_machine.specs.Operation.{Operation}
use Rattle.twin_batches.specs.StateOf.{Likeness, Stands, LinkIs, PoolKept, IsUnsealedOf, IsItemOf, IsSealedOf, IsEntryOf, AreApart, AreBatchesOf}
use Rattle.twin_batches.specs.declared.numbers.Batch.{Batch}
use Rattle.twin_batches.specs.declared.numbers.Batch.TheVariants.{Unsealed, Sealed, Gone}
use Rattle.twin_batches.specs.declared.numbers.Holding.{Holding}

abbrev pub Model : Type 0
Model = batches.Batch Operation

pub cases_lt : (m n : ℕ) → (m < n) ⊎ (n ≤ m)
cases_lt m n = grind arith

-- ---- counts of children

abbrev pub bit : Bool → ℕ
bit t = cond t 1 0

module _ (all : List Model) where
  pub count_set : (p b : ℕ) (y : Model) → b < length all → count_by (is_child p) (set all b y) + bit (is_child p (get_or all b batches.Gone)) ≡ count_by (is_child p) all + bit (is_child p y)
  count_set p b y lt = sum_by-set (λ (x : Model). bit (is_child p x)) all b y batches.Gone lt

  pub count_push : (p : ℕ) (y : Model) → count_by (is_child p) (all ++ (y ∷ [])) ≡ count_by (is_child p) all + bit (is_child p y)
  count_push p y = sum_by_push (λ (x : Model). bit (is_child p x)) all y

  pub child_counted : (p b : ℕ) → b < length all → is_child p (get_or all b batches.Gone) ≡ true → 0 < count_by (is_child p) all
  child_counted p b lt child = let le = get_or-le-sum_by (λ (x : Model). bit (is_child p x)) all b batches.Gone lt in omega (arith, rw child at le)

pub one_named : (p : ℕ) → names p (Some p) ≡ true
one_named p = grind (arith, nat_tests)

pub other_named : (p q : ℕ) → (p ≡ q → ⊥) → names p (Some q) ≡ false
other_named p q apart = grind (arith, nat_tests)

-- whether any is a child says whether their count is above 0
module _ (test : Model → Bool) where
  any_step : (t : Bool) (n : ℕ) (any : Bool) → (0 < n → any ≡ true) → 0 < bit t + n → (t || any) ≡ true
  any_step true n any f h = refl
  any_step false n any f h = f (omega (arith, h))

  pub any_counted : (xs : List Model) → 0 < count_by test xs → list_any test xs ≡ true
  any_counted [] h = absurd (omega (arith, h))
  any_counted (x ∷ xs) h =
      let c = sum_by-cons (λ (y : Model). bit (test y)) x xs in
      any_step (test x) (count_by test xs) (list_any test xs) (any_counted xs) (omega (arith, h, c))

  none_step : (t : Bool) (n : ℕ) (any : Bool) → (n ≡ 0 → any ≡ false) → bit t + n ≡ 0 → (t || any) ≡ false
  none_step true n any f h = absurd (omega (arith, h))
  none_step false n any f h = f (omega (arith, h))

  pub none_counted : (xs : List Model) → count_by test xs ≡ 0 → list_any test xs ≡ false
  none_counted [] h = refl
  none_counted (x ∷ xs) h =
      let c = sum_by-cons (λ (y : Model). bit (test y)) x xs in
      none_step (test x) (count_by test xs) (list_any test xs) (none_counted xs) (omega (arith, h, c))

-- ---- batches by number

module _ {U : Type 0} where
  -- an element that was read
  pub read_at : (bs : List (Batch U)) (b : ℕ) (x : Batch U) → b < length bs → x ≡ get_or bs b x → get_or bs b Gone ≡ x
  read_at bs b x lt e = get_or_from_slice_get bs b x Gone (slice_get_read bs (length bs) b x refl lt e)

  holding_or : Batch U → Holding → Holding
  holding_or (Unsealed u) k = k
  holding_or (Sealed j) k = j
  holding_or Gone k = k

  own_or : Batch U → U → U
  own_or (Unsealed w) u = w
  own_or (Sealed c) u = u
  own_or Gone u = u

  abbrev pub sealed_as : Holding → Batch U
  sealed_as k = Sealed k

  pub same_holding : (j k : Holding) → sealed_as j ≡ sealed_as k → j ≡ k
  unfolding holding_or
  same_holding j k e = ap (λ (x : Batch U). holding_or x k) e

  pub same_unsealed : (u v : U) → Unsealed u ≡ Unsealed v → u ≡ v
  unfolding own_or
  same_unsealed u v e = ap (λ (x : Batch U). own_or x u) e

  pub not_both : (u : U) (k : Holding) → Unsealed u ≡ Sealed k → ⊥
  not_both u k e = cc

  pub not_gone : (x : Batch U) (k : Holding) → x ≡ Gone → x ≡ Sealed k → ⊥
  not_gone x k e f = let never : Gone ≡ sealed_as k = sym e ∙ f in cc

  -- a batch that is there has a number below the count
  pub sealed_within : (bs : List (Batch U)) (b : ℕ) (k : Holding) → get_or bs b Gone ≡ Sealed k → b < length bs
  sealed_within bs b k is = elim (cases_lt b (length bs)) as (λ (c : (b < length bs) ⊎ (length bs ≤ b)). b < length bs) [
    | inl lt ↦ lt
    | inr past ↦ absurd (not_gone (get_or bs b Gone) k (get_or_past bs b Gone past) is)
  ]

  pub unsealed_within : (bs : List (Batch U)) (b : ℕ) (u : U) → get_or bs b Gone ≡ Unsealed u → b < length bs
  unsealed_within bs b u is = elim (cases_lt b (length bs)) as (λ (c : (b < length bs) ⊎ (length bs ≤ b)). b < length bs) [
    | inl lt ↦ lt
    | inr past ↦ absurd (let never : Gone ≡ Unsealed u = sym (get_or_past bs b Gone past) ∙ is in cc)
  ]

  -- what was sealed stays sealed under its number in the pool
  abbrev pub StandsOn : List (Batch U) → List (Batch U) → Type 0
  StandsOn bs ds = (p id : ℕ) → Stands bs p id → Stands ds p id

  pub still_link : (bs ds : List (Batch U)) (stands : StandsOn bs ds) (b : ℕ) (link p : Option ℕ) → LinkIs bs b link p → LinkIs ds b link p
  still_link bs ds stands b None None is = tt
  still_link bs ds stands b (Some id) (Some p) is = (is.0, stands p id is.1)
  still_link bs ds stands b None (Some p) is = absurd is
  still_link bs ds stands b (Some id) None is = absurd is

  -- ---- one batch is replaced, or added

  module _ (bs : List (Batch U)) (b : ℕ) (x : Batch U) where
    -- a sealed batch may be replaced by one of the same number in the pool, and an unsealed one by any
    pub stands_set : ((k : Holding) → get_or bs b Gone ≡ Sealed k → (j : Holding) × (x ≡ Sealed j) × (j.id ≡ k.id)) → StandsOn bs (set bs b x)
    stands_set keeps p id st = by_case (cases_eq p b)
      where
        by_case : (p ≡ b) ⊎ (p ≡ b → ⊥) → Stands (set bs b x) p id
        by_case (inl here) =
            let there : get_or bs b Gone ≡ Sealed st.holding = subst (λ i. get_or bs i Gone ≡ Sealed st.holding) here st.sealed in
            let k = keeps st.holding there in
            subst (λ i. Stands (set bs b x) i id) (sym here) (record { holding = k.0; sealed = get_or-set_same bs b x Gone (sealed_within bs b st.holding there) ∙ k.1; id_is = k.2 ∙ st.id_is })
        by_case (inr apart) = record { holding = st.holding; sealed = get_or-set_other bs b p x Gone apart ∙ st.sealed; id_is = st.id_is }

    pub apart_set : b < length bs → AreApart bs → ((k : Holding) → x ≡ Sealed k → (q : ℕ) (j : Holding) → (q ≡ b → ⊥) → get_or bs q Gone ≡ Sealed j → j.id ≡ k.id → ⊥) → AreApart (set bs b x)
    apart_set within apart fresh p q j k ep eq same = by_case (cases_eq p b) (cases_eq q b)
      where
        here : (i : ℕ) (l : Holding) → i ≡ b → get_or (set bs b x) i Gone ≡ Sealed l → x ≡ Sealed l
        here i l at e = sym (get_or-set_same bs b x Gone within) ∙ subst (λ n. get_or (set bs b x) n Gone ≡ Sealed l) at e

        there : (i : ℕ) (l : Holding) → (i ≡ b → ⊥) → get_or (set bs b x) i Gone ≡ Sealed l → get_or bs i Gone ≡ Sealed l
        there i l other e = sym (get_or-set_other bs b i x Gone other) ∙ e

        by_case : (p ≡ b) ⊎ (p ≡ b → ⊥) → (q ≡ b) ⊎ (q ≡ b → ⊥) → p ≡ q
        by_case (inl pb) (inl qb) = pb ∙ sym qb
        by_case (inl pb) (inr other) = absurd (fresh j (here p j pb ep) q k other (there q k other eq) (sym same))
        by_case (inr other) (inl qb) = absurd (fresh k (here q k qb eq) p j other (there p j other ep) same)
        by_case (inr po) (inr qo) = apart p q j k (there p j po ep) (there q k qo eq) same

  module _ (bs : List (Batch U)) (x : Batch U) where
    pub stands_push : StandsOn bs (bs ++ (x ∷ []))
    stands_push p id st = record { holding = st.holding; sealed = get_or_append_left bs (x ∷ []) Gone p (sealed_within bs p st.holding st.sealed) ∙ st.sealed; id_is = st.id_is }

    pub push_read : (q : ℕ) (k : Holding) → get_or (bs ++ (x ∷ [])) q Gone ≡ Sealed k → (get_or bs q Gone ≡ Sealed k) ⊎ ((q ≡ length bs) × (x ≡ Sealed k))
    push_read q k e = by_case (cases_lt q (length bs)) (cases_eq q (length bs))
      where
        within : q < length (bs ++ (x ∷ []))
        within = sealed_within (bs ++ (x ∷ [])) q k e

        by_case : (q < length bs) ⊎ (length bs ≤ q) → (q ≡ length bs) ⊎ (q ≡ length bs → ⊥) → (get_or bs q Gone ≡ Sealed k) ⊎ ((q ≡ length bs) × (x ≡ Sealed k))
        by_case (inl lt) c = inl (sym (get_or_append_left bs (x ∷ []) Gone q lt) ∙ e)
        by_case (inr past) (inl at) = inr (at, sym (get_or_push bs x Gone q (sym at)) ∙ e)
        by_case (inr past) (inr apart) = absurd (let l = length-append bs (x ∷ []) in omega (arith, within, past, apart, l))

    pub apart_push : AreApart bs → ((k : Holding) → x ≡ Sealed k → (q : ℕ) (j : Holding) → get_or bs q Gone ≡ Sealed j → j.id ≡ k.id → ⊥) → AreApart (bs ++ (x ∷ []))
    apart_push apart fresh p q j k ep eq same = by_case (push_read p j ep) (push_read q k eq)
      where
        by_case : (get_or bs p Gone ≡ Sealed j) ⊎ ((p ≡ length bs) × (x ≡ Sealed j)) → (get_or bs q Gone ≡ Sealed k) ⊎ ((q ≡ length bs) × (x ≡ Sealed k)) → p ≡ q
        by_case (inl e) (inl f) = apart p q j k e f same
        by_case (inl e) (inr f) = absurd (fresh k f.1 p j e same)
        by_case (inr e) (inl f) = absurd (fresh j e.1 q k f (sym same))
        by_case (inr e) (inr f) = e.0 ∙ sym f.0

module _ {S U : Type 0} (like : Likeness S U) where
  abbrev Bs : Type 0
  Bs = List (Batch U)

  abbrev Slots : Type 0
  Slots = List (Option (HeldBatch S))

  -- ---- phases

  module _ (bs : Bs) (pool : Slots) (all : List Model) where
    pub unsealed_is : (b : ℕ) (u : U) (y : Model) → IsEntryOf like bs pool all b (Unsealed u) y → (w : batches.UnsealedBatch Operation) × (y ≡ batches.Unsealed w) × IsUnsealedOf like bs b u w
    unsealed_is b u (batches.Unsealed w) is = (w, refl, is)
    unsealed_is b u (batches.Sealed c) is = absurd is
    unsealed_is b u batches.Gone is = absurd is

    pub sealed_is : (b : ℕ) (k : Holding) (y : Model) → IsEntryOf like bs pool all b (Sealed k) y → (c : batches.SealedBatch Operation) × (y ≡ batches.Sealed c) × IsSealedOf like bs pool all b k c
    sealed_is b k (batches.Unsealed w) is = absurd is
    sealed_is b k (batches.Sealed c) is = (c, refl, is)
    sealed_is b k batches.Gone is = absurd is

    pub model_sealed : (b : ℕ) (x : Batch U) (c : batches.SealedBatch Operation) → IsEntryOf like bs pool all b x (batches.Sealed c) → (k : Holding) × (x ≡ Sealed k) × IsSealedOf like bs pool all b k c
    model_sealed b (Unsealed u) c is = absurd is
    model_sealed b (Sealed k) c is = (k, refl, is)
    model_sealed b Gone c is = absurd is

    pub model_unsealed : (b : ℕ) (x : Batch U) (w : batches.UnsealedBatch Operation) → IsEntryOf like bs pool all b x (batches.Unsealed w) → (u : U) × (x ≡ Unsealed u) × IsUnsealedOf like bs b u w
    model_unsealed b (Unsealed u) w is = (u, refl, is)
    model_unsealed b (Sealed k) w is = absurd is
    model_unsealed b Gone w is = absurd is

  -- ---- what stays as it was, where a batch or the pool changes

  module _ (bs ds : Bs) (stands : StandsOn bs ds) (before after : Slots) (goes : Goes before after) (kept : PoolKept before) where
    pub still_unsealed : (b : ℕ) (u : U) (w : batches.UnsealedBatch Operation) → IsUnsealedOf like bs b u w → IsUnsealedOf like ds b u w
    still_unsealed b u w is = record { is = is.is; link = still_link bs ds stands b (like.parent u) w.parent is.link }

    pub still_item : (b id : ℕ) (e : HeldBatch S) (w : Was before id e) (c : batches.SealedBatch Operation) → IsItemOf like bs b w.batch c → IsItemOf like ds b e c
    still_item b id e w c is = record {
      is = subst (λ (x : S). like.sealed x c) (sym w.item) is.is;
      link = subst (λ (l : Option ℕ). LinkIs ds b l c.parent) (sym w.parent) (still_link bs ds stands b w.batch.parent c.parent is.link);
    }

    module _ (all others : List Model) where
      pub still_sealed : (b : ℕ) (k : Holding) (c : batches.SealedBatch Operation) → IsSealedOf like bs before all b k c
          → holds_of after k.id + count_by (is_child b) all ≡ holds_of before k.id + count_by (is_child b) others → IsSealedOf like ds after others b k c
      still_sealed b k c is even = record {
        holds = is.holds;
        drawn = omega (arith, is.drawn, goes.drawn);
        below = is.below;
        count = omega (arith, is.count, even);
        item = λ e there. let w = goes.was k.id e is.drawn there in still_item b k.id e w c (is.item w.batch w.there);
      }

      pub still_batch : (b : ℕ) (x : Batch U) (y : Model) → IsEntryOf like bs before all b x y
          → ((k : Holding) → x ≡ Sealed k → holds_of after k.id + count_by (is_child b) all ≡ holds_of before k.id + count_by (is_child b) others) → IsEntryOf like ds after others b x y
      still_batch b (Unsealed u) (batches.Unsealed w) is even = still_unsealed b u w is
      still_batch b (Unsealed u) (batches.Sealed c) is even = absurd is
      still_batch b (Unsealed u) batches.Gone is even = absurd is
      still_batch b (Sealed k) (batches.Unsealed w) is even = absurd is
      still_batch b (Sealed k) (batches.Sealed c) is even = still_sealed b k c is (even k refl)
      still_batch b (Sealed k) batches.Gone is even = absurd is
      still_batch b Gone (batches.Unsealed w) is even = absurd is
      still_batch b Gone (batches.Sealed c) is even = absurd is
      still_batch b Gone batches.Gone is even = tt

    -- what was alive is kept
    pub still_kept : (id : ℕ) (e : HeldBatch S) → id < length before → slots.slot_at after id ≡ Some e → 0 < e.holds
    still_kept id e lt there = let w = goes.was id e lt there in w.held (kept id w.batch w.there)

  -- ---- all batches of a pool

  module _ (bs : Bs) (before : Slots) (all : List Model) (is : AreBatchesOf like bs before all) where
    -- a number that isn't a sealed batch's is no batch's parent
    module _ (b : ℕ) (not : (k : Holding) → get_or bs b Gone ≡ Sealed k → ⊥) where
      not_named : (i : ℕ) (link p : Option ℕ) → LinkIs bs i link p → names b p ≡ false
      not_named i None None l = refl
      not_named i (Some id) (Some p) l = other_named b p (λ e. not l.1.holding (subst (λ n. get_or bs n Gone ≡ Sealed l.1.holding) (sym e) l.1.sealed))
      not_named i None (Some p) l = absurd l
      not_named i (Some id) None l = absurd l

      not_child : (i : ℕ) (x : Batch U) (y : Model) → IsEntryOf like bs before all i x y → is_child b y ≡ false
      not_child i x (batches.Unsealed w) m = let u = model_unsealed bs before all i x w m in not_named i (like.parent u.0) w.parent u.2.link
      not_child i x (batches.Sealed c) m = refl
      not_child i x batches.Gone m = refl

      count_none : (xs : List Model) → ((i : ℕ) → is_child b (get_or xs i batches.Gone) ≡ false) → count_by (is_child b) xs ≡ 0
      count_none [] f = refl
      count_none (y ∷ xs) f =
          let c = sum_by-cons (λ (z : Model). bit (is_child b z)) y xs in
          let first : bit (is_child b y) ≡ 0 = ap bit (f 0) in
          let rest = count_none xs (λ i. f (suc i)) in
          omega (arith, c, first, rest)

      pub no_children : count_by (is_child b) all ≡ 0
      no_children = count_none all (λ i. not_child i (get_or bs i Gone) (get_or all i batches.Gone) (is.each i))

    -- the pool holds the parent of an unsealed batch
    module _ (b : ℕ) (u : U) (at : get_or bs b Gone ≡ Unsealed u) where
      pub unsealed_there : (w : batches.UnsealedBatch Operation) × (get_or all b batches.Gone ≡ batches.Unsealed w) × IsUnsealedOf like bs b u w
      unsealed_there = unsealed_is bs before all b u (get_or all b batches.Gone) (subst (λ x. IsEntryOf like bs before all b x (get_or all b batches.Gone)) at (is.each b))

      held_parent : (w : batches.UnsealedBatch Operation) → get_or all b batches.Gone ≡ batches.Unsealed w → (link p : Option ℕ) → w.parent ≡ p → LinkIs bs b link p → ForSome link (λ id. 0 < holds_of before id)
      held_parent w machine None None e l id some = absurd (none-some id some)
      held_parent w machine (Some i) (Some p) e l id some =
          let st = l.1 in
          let c = sealed_is bs before all p st.holding (get_or all p batches.Gone) (subst (λ x. IsEntryOf like bs before all p x (get_or all p batches.Gone)) st.sealed (is.each p)) in
          let child : is_child p (get_or all b batches.Gone) ≡ true = ap (is_child p) machine ∙ ap (names p) e ∙ one_named p in
          let within = unsealed_within bs b u at in
          let counted = child_counted all p b (omega (arith, within, is.count)) child in
          let held : 0 < holds_of before st.holding.id = let n = c.2.count in omega (arith, counted, n) in
          subst (λ n. 0 < holds_of before n) (st.id_is ∙ same_Some i id some) held
      held_parent w machine None (Some p) e l id some = absurd l
      held_parent w machine (Some i) None e l id some = absurd l

      pub parent_held : ForSome (like.parent u) (λ id. 0 < holds_of before id)
      parent_held = let w = unsealed_there in held_parent w.0 w.1 (like.parent u) w.0.parent refl w.2.link

    pub sealed_there : (b : ℕ) (k : Holding) → get_or bs b Gone ≡ Sealed k → (c : batches.SealedBatch Operation) × (get_or all b batches.Gone ≡ batches.Sealed c) × IsSealedOf like bs before all b k c
    sealed_there b k at = sealed_is bs before all b k (get_or all b batches.Gone) (subst (λ x. IsEntryOf like bs before all b x (get_or all b batches.Gone)) at (is.each b))

    -- ---- the holds of others

    module _ (q : ℕ) (k : Holding) (sealed : get_or bs q Gone ≡ Sealed k) where
      same_number : (p id : ℕ) (st : Stands bs p id) → q ≡ p → id ≡ k.id
      same_number p id st e = sym st.id_is ∙ ap (λ (j : Holding). j.id) (same_holding st.holding k (sym st.sealed ∙ ap (λ i. get_or bs i Gone) (sym e) ∙ sealed))

      other_number : (p id : ℕ) (st : Stands bs p id) → (q ≡ p → ⊥) → k.id ≡ id → ⊥
      other_number p id st apart e = apart (is.apart q p k st.holding sealed st.sealed (e ∙ sym st.id_is))

      held_case : (p id : ℕ) → Stands bs p id → 0 < holds_of before id → (q ≡ p) ⊎ (q ≡ p → ⊥) → holds_of (link_held before (Some id)) k.id ≡ holds_of before k.id + bit (names q (Some p))
      held_case p id st held (inl e) = rw (← same_number p id st e, ← e, one_named q) (held_more before id held)
      held_case p id st held (inr apart) = let o = held_other before id k.id (other_number p id st apart) in let n = other_named q p apart in rw n (omega (arith, o))

      pub held_by : (b : ℕ) (link p : Option ℕ) → LinkIs bs b link p → ForSome link (λ id. 0 < holds_of before id) → holds_of (link_held before link) k.id ≡ holds_of before k.id + bit (names q p)
      held_by b None None l held = omega arith
      held_by b (Some id) (Some p) l held = held_case p id l.1 (held id refl) (cases_eq q p)
      held_by b None (Some p) l held = absurd l
      held_by b (Some id) None l held = absurd l

      released_case : (p id : ℕ) → Stands bs p id → 0 < holds_of before id → (q ≡ p) ⊎ (q ≡ p → ⊥) → holds_of (link_released before (Some id)) k.id + bit (names q (Some p)) ≡ holds_of before k.id
      released_case p id st held (inl e) = rw (← same_number p id st e, ← e, one_named q) (released_less before id held)
      released_case p id st held (inr apart) = let o = released_other before id k.id (other_number p id st apart) in let n = other_named q p apart in rw n (omega (arith, o))

      pub released_by : (b : ℕ) (link p : Option ℕ) → LinkIs bs b link p → ForSome link (λ id. 0 < holds_of before id) → holds_of (link_released before link) k.id + bit (names q p) ≡ holds_of before k.id
      released_by b None None l held = omega arith
      released_by b (Some id) (Some p) l held = released_case p id l.1 (held id refl) (cases_eq q p)
      released_by b None (Some p) l held = absurd l
      released_by b (Some id) None l held = absurd l

    -- ---- all batches

    module _ (after : Slots) (goes : Goes before after) where
      -- where no new number was drawn all that is alive is kept
      pub kept_after : length after ≡ length before → PoolKept after
      kept_after same id e there = still_kept bs bs (λ p i st. st) before after goes is.kept id e (let lt = alive_drawn after id e there in omega (arith, lt, same)) there

      module _ (b : ℕ) (x : Batch U) (y : Model) (within : b < length bs) (stands : StandsOn bs (set bs b x))
          (even : (q : ℕ) (k : Holding) → (q ≡ b → ⊥) → get_or bs q Gone ≡ Sealed k → holds_of after k.id + count_by (is_child q) all ≡ holds_of before k.id + count_by (is_child q) (set all b y))
          (this : IsEntryOf like (set bs b x) after (set all b y) b x y) (apart : AreApart (set bs b x)) (kept : PoolKept after) where
        set_each : (q : ℕ) → (q ≡ b) ⊎ (q ≡ b → ⊥) → IsEntryOf like (set bs b x) after (set all b y) q (get_or (set bs b x) q Gone) (get_or (set all b y) q batches.Gone)
        set_each q (inl here) =
            subst (λ i. IsEntryOf like (set bs b x) after (set all b y) i (get_or (set bs b x) i Gone) (get_or (set all b y) i batches.Gone)) (sym here)
            (subst (λ m. IsEntryOf like (set bs b x) after (set all b y) b (get_or (set bs b x) b Gone) m) (sym (get_or-set_same all b y batches.Gone (omega (arith, within, is.count))))
            (subst (λ z. IsEntryOf like (set bs b x) after (set all b y) b z y) (sym (get_or-set_same bs b x Gone within)) this))
        set_each q (inr other) =
            subst (λ m. IsEntryOf like (set bs b x) after (set all b y) q (get_or (set bs b x) q Gone) m) (sym (get_or-set_other all b q y batches.Gone other))
            (subst (λ z. IsEntryOf like (set bs b x) after (set all b y) q z (get_or all q batches.Gone)) (sym (get_or-set_other bs b q x Gone other))
            (still_batch bs (set bs b x) stands before after goes is.kept all (set all b y) q (get_or bs q Gone) (get_or all q batches.Gone) (is.each q) (λ k e. even q k other e)))

        pub batches_set : AreBatchesOf like (set bs b x) after (set all b y)
        batches_set = record {
          count = simp length-set is.count;
          each = λ q. set_each q (cases_eq q b);
          apart = apart;
          kept = kept;
        }

      module _ (x : Batch U) (y : Model)
          (even : (q : ℕ) (k : Holding) → get_or bs q Gone ≡ Sealed k → holds_of after k.id + count_by (is_child q) all ≡ holds_of before k.id + count_by (is_child q) (all ++ (y ∷ [])))
          (this : IsEntryOf like (bs ++ (x ∷ [])) after (all ++ (y ∷ [])) (length bs) x y) (apart : AreApart (bs ++ (x ∷ []))) (kept : PoolKept after) where
        push_each : (q : ℕ) → (q < length bs) ⊎ (length bs ≤ q) → (q ≡ length bs) ⊎ (q ≡ length bs → ⊥) → IsEntryOf like (bs ++ (x ∷ [])) after (all ++ (y ∷ [])) q (get_or (bs ++ (x ∷ [])) q Gone) (get_or (all ++ (y ∷ [])) q batches.Gone)
        push_each q (inl lt) c =
            subst (λ m. IsEntryOf like (bs ++ (x ∷ [])) after (all ++ (y ∷ [])) q (get_or (bs ++ (x ∷ [])) q Gone) m) (sym (get_or_append_left all (y ∷ []) batches.Gone q (omega (arith, lt, is.count))))
            (subst (λ z. IsEntryOf like (bs ++ (x ∷ [])) after (all ++ (y ∷ [])) q z (get_or all q batches.Gone)) (sym (get_or_append_left bs (x ∷ []) Gone q lt))
            (still_batch bs (bs ++ (x ∷ [])) (stands_push bs x) before after goes is.kept all (all ++ (y ∷ [])) q (get_or bs q Gone) (get_or all q batches.Gone) (is.each q) (even q)))
        push_each q (inr past) (inl here) =
            subst (λ i. IsEntryOf like (bs ++ (x ∷ [])) after (all ++ (y ∷ [])) i (get_or (bs ++ (x ∷ [])) i Gone) (get_or (all ++ (y ∷ [])) i batches.Gone)) (sym here)
            (subst (λ m. IsEntryOf like (bs ++ (x ∷ [])) after (all ++ (y ∷ [])) (length bs) (get_or (bs ++ (x ∷ [])) (length bs) Gone) m) (sym (get_or_push all y batches.Gone (length bs) is.count))
            (subst (λ z. IsEntryOf like (bs ++ (x ∷ [])) after (all ++ (y ∷ [])) (length bs) z y) (sym (get_or_push bs x Gone (length bs) refl)) this))
        push_each q (inr past) (inr other) =
            subst (λ m. IsEntryOf like (bs ++ (x ∷ [])) after (all ++ (y ∷ [])) q (get_or (bs ++ (x ∷ [])) q Gone) m) (sym (get_or_past (all ++ (y ∷ [])) q batches.Gone (let l = length-append all (y ∷ []) in omega (arith, past, other, is.count, l))))
            (subst (λ z. IsEntryOf like (bs ++ (x ∷ [])) after (all ++ (y ∷ [])) q z batches.Gone) (sym (get_or_past (bs ++ (x ∷ [])) q Gone (let l = length-append bs (x ∷ []) in omega (arith, past, other, l)))) tt)

        pub batches_push : AreBatchesOf like (bs ++ (x ∷ [])) after (all ++ (y ∷ []))
        batches_push = record {
          count = let k = length-append bs (x ∷ []) in let l = length-append all (y ∷ []) in omega (arith, is.count, k, l);
          each = λ q. push_each q (cases_lt q (length bs)) (cases_eq q (length bs));
          apart = apart;
          kept = kept;
        }

module _ {S : Type 0} where
  -- what is held is alive
  pub alive_where : (pool : List (Option (HeldBatch S))) (link : Option ℕ) → ForSome link (λ id. 0 < holds_of pool id) → ForSome link (IsAlive pool)
  alive_where pool link held id e = let k = some_held pool id (held id e) in alive_is (slots.slot_at pool id) k.0 k.1

  -- what is alive in a pool that is kept is held
  pub held_where : (pool : List (Option (HeldBatch S))) (link : Option ℕ) → PoolKept pool → ForSome link (IsAlive pool) → ForSome link (λ id. 0 < holds_of pool id)
  held_where pool link kept alive id e =
      let a = alive_held (slots.slot_at pool id) (alive id e) in
      let n : holds_of pool id ≡ a.0.holds = ap holds_in a.1 in
      let some = kept id a.0 a.1 in
      omega (arith, n, some)
