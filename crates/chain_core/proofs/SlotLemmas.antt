-- A pool's slots, and the map that keeps them.
use Rattle.std.proofs.Common.{◌≡◌, ◌≢◌, ℕ, zero, suc, ◌+◌, ◌<◌, ◌≤◌, ◌⊎◌, ⊎_elim, List, [], ◌∷◌, ◌++◌, length, get_or, set, refl, sym, ◌∙◌, ap, subst, arith, false, Option, Some, None, Result, Ok, Err, OnOk, length-append, add-one}
use Rattle.std.specs.Borrow.{Bor}
use Rattle.std.specs.Option.{option_copied, option_map_or, IfSome, ForSome}
use Rattle.std.specs.Ordering.{nat_cmp}
use Rattle.std.specs.BTreeMap.{BTreeMap, get, is_at, Updates}
use Rattle.std.proofs.lemmas.Grind.{common_steps}
use Rattle.std.proofs.lemmas.List.{get_or_append_left, set-append_left, set_past, get_or-set_same, get_or-set_other, length-set}
use Rattle.std.proofs.lemmas.Bool.Decides.{nat_tests}
use Rattle.std.proofs.Math.Seq.{set-append_seam, get_or-append_seam}
use Rattle.chain_core.specs.Slots.{slot_at, holds_of, KeepsDead}
use Rattle.chain_core.specs.declared.pool.HeldBatch.{HeldBatch}
use Rattle.chain_core.specs.PoolMap.{values_below, slots_of, IsKept, IsKeptAt, SetsAt}

pub length-values_below : {X : Type 0} (f : ℕ → X) (n : ℕ) → length (values_below f n) ≡ n
length-values_below f zero = refl
length-values_below f (suc n) = simp length-append (grind (arith, length-values_below f n))

values_below-last : {X : Type 0} (f : ℕ → X) (n : ℕ) (d : X) → get_or (values_below f (suc n)) n d ≡ f n
values_below-last f n d =
    subst (λ i. get_or (values_below f (suc n)) i d ≡ f n) (length-values_below f n) (get_or-append_seam (values_below f n) (f n) [] d)

pub values_below-at : {X : Type 0} (f : ℕ → X) (n k : ℕ) (d : X) → k < n → get_or (values_below f n) k d ≡ f k
values_below-at f zero k d within = absurd (omega arith)
values_below-at {X} f (suc n) k d within = ⊎_elim (earlier (values_below-at f n k d)) last cases
  where
    cases : (k < n) ⊎ (n ≡ k)
    cases = grind arith

    earlier : (k < n → get_or (values_below f n) k d ≡ f k) → k < n → get_or (values_below f (suc n)) k d ≡ f k
    earlier at below =
        get_or_append_left (values_below f n) (f n ∷ []) d k (omega (arith, length-values_below f n)) ∙ at below

    last : n ≡ k → get_or (values_below f (suc n)) k d ≡ f k
    last e = subst (λ i. get_or (values_below f (suc n)) i d ≡ f i) e (values_below-last f n d)

pub values_below-past : {X : Type 0} (f : ℕ → X) (n k : ℕ) (d : X) → n ≤ k → get_or (values_below f n) k d ≡ d
values_below-past f n k d past = grind (arith, common_steps, length-values_below f n)

pub values_below-same : {X : Type 0} (f g : ℕ → X) (n : ℕ) → ((k : ℕ) → k < n → g k ≡ f k) → values_below g n ≡ values_below f n
values_below-same f g zero same = refl
values_below-same f g (suc n) same =
    ap (λ xs. xs ++ (g n ∷ [])) (values_below-same f g n (λ k below. same k (omega arith)))
    ∙ ap (λ x. values_below f n ++ (x ∷ [])) (same n (omega arith))

pub values_below-set : {X : Type 0} (f g : ℕ → X) (n k : ℕ) → k < n → ((q : ℕ) → q ≢ k → g q ≡ f q) → values_below g n ≡ set (values_below f n) k (g k)
values_below-set f g zero k within same = absurd (omega arith)
values_below-set {X} f g (suc n) k within same = ⊎_elim (earlier (λ below. values_below-set f g n k below same)) last cases
  where
    cases : (k < n) ⊎ (n ≡ k)
    cases = grind arith

    earlier : (k < n → values_below g n ≡ set (values_below f n) k (g k)) → k < n → values_below g (suc n) ≡ set (values_below f (suc n)) k (g k)
    earlier before below =
        ap (λ xs. xs ++ (g n ∷ [])) (before below)
        ∙ ap (λ x. set (values_below f n) k (g k) ++ (x ∷ [])) (same n (omega arith))
        ∙ sym (set-append_left (values_below f n) (f n ∷ []) k (g k) (omega (arith, length-values_below f n)))

    last : n ≡ k → values_below g (suc n) ≡ set (values_below f (suc n)) k (g k)
    last e =
        subst (λ i. values_below g (suc n) ≡ set (values_below f (suc n)) i (g i)) e
        (ap (λ xs. xs ++ (g n ∷ [])) (values_below-same f g n (λ q below. same q (omega arith)))
        ∙ sym (set-append_seam (values_below f n) (f n) [] (g n))
        ∙ ap (λ i. set (values_below f (suc n)) i (g n)) (length-values_below f n))

module _ {T : Type 0} where
  -- nothing is kept under a number that was not drawn
  pub undrawn : (batches : BTreeMap ℕ (HeldBatch T)) (drawn k : ℕ) → IsKept batches drawn → drawn ≤ k → get nat_cmp batches k ≡ None
  undrawn batches drawn k kept past = none (get nat_cmp batches k) refl
    where
      none : (b : Option (HeldBatch T)) → get nat_cmp batches k ≡ b → b ≡ None
      none None e = refl
      none (Some b) e = absurd (omega (arith, (kept k b e).below))

  -- what is alive is what is kept
  pub slot_at-slots_of : (batches : BTreeMap ℕ (HeldBatch T)) (drawn k : ℕ) → IsKept batches drawn → slot_at (slots_of batches drawn) k ≡ get nat_cmp batches k
  slot_at-slots_of batches drawn k kept = ⊎_elim within past cases
    where
      cases : (k < drawn) ⊎ (drawn ≤ k)
      cases = grind arith

      within : k < drawn → slot_at (slots_of batches drawn) k ≡ get nat_cmp batches k
      within below = values_below-at (get nat_cmp batches) drawn k None below

      past : drawn ≤ k → slot_at (slots_of batches drawn) k ≡ get nat_cmp batches k
      past above = values_below-past (get nat_cmp batches) drawn k None above ∙ sym (undrawn batches drawn k kept above)

  -- what a look-up lends is kept
  pub lent-kept : (batches : BTreeMap ℕ (HeldBatch T)) (drawn k : ℕ) → IsKept batches drawn
      → (r : Option (Bor (HeldBatch T))) → option_copied r ≡ get nat_cmp batches k → IfSome r (λ b. IsKeptAt drawn k b.now)
  lent-kept batches drawn k kept None e = tt
  lent-kept batches drawn k kept (Some b) e = kept k b.now (sym e)

  -- so it is held, and its parent stands before it
  pub lent-held : (drawn k : ℕ) (r : Option (Bor (HeldBatch T))) → IfSome r (λ b. IsKeptAt drawn k b.now) → IfSome r (λ b. 0 < b.now.holds)
  lent-held drawn k None h = tt
  lent-held drawn k (Some b) h = h.held

  pub lent-after : (drawn k : ℕ) (r : Option (Bor (HeldBatch T))) → IfSome r (λ b. IsKeptAt drawn k b.now) → IfSome r (λ b. ForSome b.now.parent (λ p. p < k))
  lent-after drawn k None h = tt
  lent-after drawn k (Some b) h = h.after

-- two numbers that differ are told apart
apart : (k q : ℕ) → q ≢ k → is_at (nat_cmp k) q ≡ false
apart k q ne = grind (arith, nat_tests)

pub on_ok : {A E : Type 0} {P : Type 0} (r : Result A E) → P → OnOk r P
on_ok (Ok x) p = p
on_ok (Err e) p = tt

module _ {T : Type 0} (slots : List (Option (HeldBatch T))) where
  -- new slots behind the others change none of them
  dead-grown : (more : List (Option (HeldBatch T))) → KeepsDead slots (slots ++ more)
  dead-grown more = record {
    drawn = simp length-append (omega arith);
    dead = λ id within e. get_or_append_left slots more None id within ∙ e;
  }

  -- a change that makes nothing of nothing revives no batch
  dead-changed : (k : ℕ) (f : Option (HeldBatch T) → Option (HeldBatch T)) → f None ≡ None → KeepsDead slots (set slots k (f (slot_at slots k)))
  dead-changed k f nothing = record { drawn = simp length-set (omega arith); dead = stays }
    where
      stays : (id : ℕ) → id < length slots → slot_at slots id ≡ None → slot_at (set slots k (f (slot_at slots k))) id ≡ None
      stays id within e = ⊎_elim here other cases
        where
          cases : (k ≡ id) ⊎ (id ≢ k)
          cases = grind arith

          here : k ≡ id → slot_at (set slots k (f (slot_at slots k))) id ≡ None
          here same =
              subst (λ i. slot_at (set slots i (f (slot_at slots i))) id ≡ None) (sym same)
              (get_or-set_same slots id (f (slot_at slots id)) None within ∙ ap f e ∙ nothing)

          other : id ≢ k → slot_at (set slots k (f (slot_at slots k))) id ≡ None
          other apart = get_or-set_other slots k id (f (slot_at slots k)) None apart ∙ e

module _ {T : Type 0} (batches : BTreeMap ℕ (HeldBatch T)) (drawn : ℕ) (slots : List (Option (HeldBatch T))) (is : slots_of batches drawn ≡ slots) where
  pub drawn-is : drawn ≡ length slots
  drawn-is = sym (length-values_below (get nat_cmp batches) drawn) ∙ ap length is

  -- another value under one number
  set-slots : (new : BTreeMap ℕ (HeldBatch T)) (k : ℕ) (w : Option (HeldBatch T)) → SetsAt batches new k w → slots_of new drawn ≡ set slots k w
  set-slots new k w sets = ⊎_elim within past cases
    where
      cases : (k < drawn) ⊎ (drawn ≤ k)
      cases = grind arith

      within : k < drawn → slots_of new drawn ≡ set slots k w
      within below =
          values_below-set (get nat_cmp batches) (get nat_cmp new) drawn k below sets.1
          ∙ ap (λ x. set (slots_of batches drawn) k x) sets.0
          ∙ ap (λ xs. set xs k w) is

      past : drawn ≤ k → slots_of new drawn ≡ set slots k w
      past above =
          values_below-same (get nat_cmp batches) (get nat_cmp new) drawn (λ q below. sets.1 q (omega arith))
          ∙ is ∙ sym (set_past slots k w (omega (arith, drawn-is)))

  module _ (kept : IsKept batches drawn) (j k : ℕ) (same : j ≡ k) where
    pub slot_at-found : slot_at slots k ≡ get nat_cmp batches j
    slot_at-found = ap (λ xs. slot_at xs k) (sym is) ∙ slot_at-slots_of batches drawn k kept ∙ ap (get nat_cmp batches) (sym same)

    pub holds_of-found : (b : HeldBatch T) → get nat_cmp batches j ≡ Some b → holds_of slots k ≡ b.holds
    holds_of-found b e = ap (λ o. option_map_or (λ (x : HeldBatch T). x.holds) o 0) (slot_at-found ∙ e)

    pub slots-changed : (new : BTreeMap ℕ (HeldBatch T)) (f : Option (HeldBatch T) → Option (HeldBatch T)) → SetsAt batches new j (f (get nat_cmp batches j))
        → slots_of new drawn ≡ set slots k (f (slot_at slots k))
    slots-changed new f sets =
        set-slots new j (f (get nat_cmp batches j)) sets
        ∙ ap (λ i. set slots i (f (get nat_cmp batches j))) same
        ∙ ap (λ o. set slots k (f o)) (sym slot_at-found)

    pub dead-kept : (new : BTreeMap ℕ (HeldBatch T)) (f : Option (HeldBatch T) → Option (HeldBatch T)) → SetsAt batches new j (f (get nat_cmp batches j))
        → f None ≡ None → KeepsDead slots (slots_of new drawn)
    dead-kept new f sets nothing = subst (KeepsDead slots) (sym (slots-changed new f sets)) (dead-changed slots k f nothing)

  -- a new number
  module _ (new : BTreeMap ℕ (HeldBatch T)) (b : HeldBatch T) (puts : Updates nat_cmp batches new drawn (Some b)) where
    pub slots-grown : slots_of new (drawn + 1) ≡ slots ++ (Some b ∷ [])
    slots-grown =
        ap (slots_of new) (add-one drawn)
        ∙ ap (λ xs. xs ++ (get nat_cmp new drawn ∷ []))
        (values_below-same (get nat_cmp batches) (get nat_cmp new) drawn (λ q below. puts.2 q (apart drawn q (omega arith))) ∙ is)
        ∙ ap (λ x. slots ++ (x ∷ [])) puts.1

    pub dead-before : KeepsDead slots (slots_of new (drawn + 1))
    dead-before = subst (KeepsDead slots) (sym slots-grown) (dead-grown slots (Some b ∷ []))

    pub kept-grown : IsKept batches drawn → 0 < b.holds → ForSome b.parent (λ p. p < length slots) → IsKept new (drawn + 1)
    kept-grown kept held after k c e = ⊎_elim at_end before cases
      where
        cases : (k ≡ drawn) ⊎ (k ≢ drawn)
        cases = grind arith

        at_end : k ≡ drawn → IsKeptAt (drawn + 1) k c
        at_end here =
            let found : Some c ≡ Some b = sym e ∙ ap (get nat_cmp new) here ∙ puts.1 in
            let same : c ≡ b = cc in
            subst (λ x. IsKeptAt (drawn + 1) k x) (sym same) (record { below = omega arith; held = held; after = λ p q. omega (arith, after p q, drawn-is) })

        before : k ≢ drawn → IsKeptAt (drawn + 1) k c
        before other =
            let h = kept k c (sym (puts.2 k (apart drawn k other)) ∙ e) in
            record { below = omega (arith, h.below); held = h.held; after = h.after }
