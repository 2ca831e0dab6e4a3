-- What holds of the reach of a batch, and of where it stands.
use Rattle.std.proofs.Common.{◌≡◌, ℕ, zero, suc, ◌≤◌, Bool, true, false, cond, ◌||◌, List, [], ◌∷◌, length, take, Option, Some, None, refl, sym, ◌∙◌, ap, subst, arith, take-take, length-take}
use Rattle.std.specs.Prelude.{IsSomeAnd, IfSome, nat_lt}
use Rattle.std.specs.List.{list_any}
use Rattle.std.specs.Option.{option_map_or}
use Rattle.std.specs.Bool.{Decides}
use Rattle.std.proofs.Math.Seq.{take-length}
use Rattle.std.proofs.lemmas.List.{length-take-le}
use Rattle.std.proofs.lemmas.Option.{none-some, cond_some}
use Rattle.std.proofs.lemmas.Slice.Eq.{slice_eq-Decides}
use Rattle.log_model.specs.Meaning.{Meaning}
use Rattle.log_model.specs.Operations.{floor_of}
use Rattle.log_model.specs.StateBatches.{Batch, Unsealed, Sealed, Gone, UnsealedBatch, SealedBatch}
use Rattle.log_model.specs.Machine.{State, SameTest, batch_at, same_operations, stands_at}
use Rattle.log_model.specs.Reach.{is_alive, as_sealed, linked, if_alive, alive_at, reach_from, link_bound, reach, tips_of, oldest_base, later, inherited_boundary, effective_boundary, floor_below, stands_on, may_seal}
use Rattle.log_model.specs.Good.{IsStand, IsMark, AreMarks, IsGoodBatch, ParentFits, HasParent, IsGood}

-- Each sealed batch links to one of a lower number, or to none.
abbrev pub LinksFall : {Op : Type 0} → State Op → Type 0
LinksFall {Op} s = (p : ℕ) (c : SealedBatch Op) → batch_at s p ≡ Sealed c → link_bound c.parent ≤ p

module _ {Op : Type 0} (s : State Op) where
  pub alive_is : (p : ℕ) (x : Batch Op) (c : SealedBatch Op) → if_alive s p x ≡ Some c → x ≡ Sealed c
  alive_is p (Unsealed u) c e = absurd (none-some c e)
  alive_is p (Sealed d) c e = ap Sealed ((cond_some (is_alive s p d) d c e).1)
  alive_is p Gone c e = absurd (none-some c e)

  alive_linked : (link : Option ℕ) (c : SealedBatch Op) → alive_at s link ≡ Some c → linked s link ≡ Some c
  alive_linked None c e = absurd (none-some c e)
  alive_linked (Some p) c e = ap as_sealed (alive_is p (batch_at s p) c e)

  module _ (falls : LinksFall s) where
    one_step : (n k p : ℕ) → p ≤ n → p ≤ k → ((link : Option ℕ) → link_bound link ≤ n → link_bound link ≤ k → reach_from s n link ≡ reach_from s k link)
        → (o : Option (SealedBatch Op)) → alive_at s (Some p) ≡ o → option_map_or (λ c. c ∷ reach_from s n c.parent) o [] ≡ option_map_or (λ c. c ∷ reach_from s k c.parent) o []
    one_step n k p le le' rest None e = refl
    one_step n k p le le' rest (Some c) e =
        let below : link_bound c.parent ≤ p = falls p c (alive_is p (batch_at s p) c e) in
        ap (λ cs. c ∷ cs) (rest c.parent (omega (arith, below, le)) (omega (arith, below, le')))

    -- more than a link's bound reaches no further
    pub same_reach : (n k : ℕ) (link : Option ℕ) → link_bound link ≤ n → link_bound link ≤ k → reach_from s n link ≡ reach_from s k link
    same_reach zero zero link h h' = refl
    same_reach zero (suc k) None h h' = refl
    same_reach zero (suc k) (Some p) h h' = absurd (omega (arith, h))
    same_reach (suc n) zero None h h' = refl
    same_reach (suc n) zero (Some p) h h' = absurd (omega (arith, h'))
    same_reach (suc n) (suc k) None h h' = refl
    same_reach (suc n) (suc k) (Some p) h h' = one_step n k p (omega (arith, h)) (omega (arith, h')) (λ link a b. same_reach n k link a b) (alive_at s (Some p)) refl

    -- where nothing is alive the reach has ended
    pub reach_end : (link : Option ℕ) → alive_at s link ≡ None → reach_from s (link_bound link) link ≡ []
    reach_end None e = refl
    reach_end (Some p) e = ap (λ o. option_map_or (λ c. c ∷ reach_from s p c.parent) o []) e

    -- what is alive is the next of the reach
    pub reach_more : (p : ℕ) (c : SealedBatch Op) → alive_at s (Some p) ≡ Some c → reach_from s (suc p) (Some p) ≡ c ∷ reach_from s (link_bound c.parent) c.parent
    reach_more p c e =
        ap (λ o. option_map_or (λ c. c ∷ reach_from s p c.parent) o []) e
        ∙ ap (λ cs. c ∷ cs) (same_reach p (link_bound c.parent) c.parent (falls p c (alive_is p (batch_at s p) c e)) (omega arith))

-- the first is a front of the second
abbrev pub Begins : {Op : Type 0} → List Op → List Op → Type 0
Begins xs ys = (length xs ≤ length ys) × (xs ≡ take (length xs) ys)

pub begins_take : {Op : Type 0} (xs ys : List Op) (n : ℕ) → n ≤ length ys → xs ≡ take n ys → Begins xs ys
begins_take xs ys n le e =
    let l : length xs ≡ n = ap length e ∙ length-take-le n ys le in
    (omega (arith, l, le), rw l e)

pub begins_begins : {Op : Type 0} (xs ys zs : List Op) → Begins xs ys → Begins ys zs → Begins xs zs
begins_begins xs ys zs a b = (omega (arith, a.0, b.0), a.1 ∙ ap (take (length xs)) b.1 ∙ take-take (length xs) (length ys) zs a.0)

-- the front of a front
pub front_of : {Op : Type 0} (xs ys : List Op) (n : ℕ) → Begins xs ys → n ≤ length xs → take n xs ≡ take n ys
front_of xs ys n a le = ap (take n) a.1 ∙ take-take n (length xs) ys le

module _ {Op V : Type 0} (m : Meaning Op V) (among : List Op → Type 0) where
  mark_of : (xs ys : List Op) (n : ℕ) → Begins xs ys → IsMark m among xs n → IsMark m among ys n
  mark_of xs ys n a h = (omega (arith, a.0, h.0), subst (IsStand m among) (front_of xs ys n a h.0) h.1)

  whole_mark : (xs ys : List Op) → Begins xs ys → IsStand m among xs → IsMark m among ys (length xs)
  whole_mark xs ys a h = (a.0, subst (IsStand m among) a.1 h)

  -- a batch whose list is a front of this one, and whose marks are marks of it
  record Fits (list : List Op) (c : SealedBatch Op) : Type 0 where
    pub begins : Begins c.list list
    pub base : IsMark m among list c.base
    pub tip : IsMark m among list (length c.list)

  abbrev AllFit : List Op → List (SealedBatch Op) → Type 0
  AllFit list [] = Unit {0}
  AllFit list (c ∷ cs) = Fits list c × AllFit list cs

  tips_fit : (list : List Op) (cs : List (SealedBatch Op)) → AllFit list cs → AreMarks m among list (tips_of cs)
  tips_fit list [] h = tt
  tips_fit list (c ∷ cs) h = (h.0.tip, tips_fit list cs h.1)

  oldest_fits : (list : List Op) (cs : List (SealedBatch Op)) → AllFit list cs → IfSome (oldest_base cs) (IsMark m among list)
  oldest_fits list [] h = tt
  oldest_fits list (c ∷ []) h = h.0.base
  oldest_fits list (c ∷ next ∷ cs) h = oldest_fits list (next ∷ cs) h.1

  pick_mark : (list : List Op) (b : Bool) (x y : ℕ) → IsMark m among list x → IsMark m among list y → IsMark m among list (cond b x y)
  pick_mark list true x y h k = h
  pick_mark list false x y h k = k

  later_fits : (list : List Op) (n : ℕ) (o : Option ℕ) → IsMark m among list n → IfSome o (IsMark m among list) → IsMark m among list (later n o)
  later_fits list n None h k = h
  later_fits list n (Some base) h k = pick_mark list (nat_lt n base) base n k h

  module _ (allowed : V → Type 0) (first : Op) (s : State Op) (g : IsGood m among allowed first s) where
    -- what a link names, if anything, has a list that is a front of this one
    abbrev LinkFits : List Op → Option ℕ → Type 0
    LinkFits list link = IfSome (linked s link) (λ c. Begins c.list list)

    if_some : (o : Option (SealedBatch Op)) (list : List Op) (base : ℕ) → base ≤ length list → IsSomeAnd o (λ c. c.list ≡ take base list) → IfSome o (λ c. Begins c.list list)
    if_some None list base le h = absurd h
    if_some (Some c) list base le h = begins_take c.list list base le h

    parent_fits : (b : ℕ) (list : List Op) (base : ℕ) (link : Option ℕ) → base ≤ length list → ParentFits s b list base link → LinkFits list link
    parent_fits b list base None le h = tt
    parent_fits b list base (Some p) le h = if_some (as_sealed (batch_at s p)) list base le h.1

    wider : (o : Option (SealedBatch Op)) (xs ys : List Op) → Begins xs ys → IfSome o (λ c. Begins c.list xs) → IfSome o (λ c. Begins c.list ys)
    wider None xs ys a h = tt
    wider (Some c) xs ys a h = begins_begins c.list xs ys h a

    reached_fits : (n : ℕ) (p : ℕ) (c : SealedBatch Op) (list : List Op) → batch_at s p ≡ Sealed c → Begins c.list list
        → ((link : Option ℕ) → LinkFits list link → AllFit list (reach_from s n link)) → AllFit list (c ∷ reach_from s n c.parent)
    reached_fits n p c list is begins rest =
        let good : IsGoodBatch m among allowed first (Sealed c) = subst (IsGoodBatch m among allowed first) is (g.batches p) in
        let has : HasParent s p (Sealed c) = subst (HasParent s p) is (g.parents p) in
        let next : LinkFits c.list c.parent = parent_fits p c.list c.base c.parent good.1.0 has in
        (record { begins = begins; base = mark_of c.list list c.base begins good.1; tip = whole_mark c.list list begins good.0.stand }, rest c.parent (wider (linked s c.parent) c.list list begins next))

    step_fits : (n : ℕ) (link : Option ℕ) (list : List Op) → LinkFits list link → ((link : Option ℕ) → LinkFits list link → AllFit list (reach_from s n link))
        → (o : Option (SealedBatch Op)) → alive_at s link ≡ o → AllFit list (option_map_or (λ c. c ∷ reach_from s n c.parent) o [])
    step_fits n link list h rest None e = tt
    step_fits n None list h rest (Some c) e = absurd (none-some c e)
    step_fits n (Some p) list h rest (Some c) e =
        let begins : Begins c.list list = subst (λ o. IfSome o (λ d. Begins d.list list)) (alive_linked s (Some p) c e) h in
        reached_fits n p c list (alive_is s p (batch_at s p) c e) begins rest

    reach_fits : (n : ℕ) (link : Option ℕ) (list : List Op) → LinkFits list link → AllFit list (reach_from s n link)
    reach_fits zero link list h = tt
    reach_fits (suc n) link list h = step_fits n link list h (λ l k. reach_fits n l list k) (alive_at s link) refl

    inherits : (x : Batch Op) (list : List Op) (base : ℕ) → base ≤ length list → IsGoodBatch m among allowed first x → IsSomeAnd (as_sealed x) (λ c. c.list ≡ take base list)
        → IsMark m among list (option_map_or (λ c. c.boundary) (as_sealed x) base)
    inherits (Unsealed u) list base le good h = absurd h
    inherits (Sealed c) list base le good h = mark_of c.list list c.boundary (begins_take c.list list base le h) good.2
    inherits Gone list base le good h = absurd h

    inherited_fits : (b : ℕ) (list : List Op) (base : ℕ) (link : Option ℕ) → IsMark m among list base → ParentFits s b list base link → IsMark m among list (option_map_or (λ c. c.boundary) (linked s link) base)
    inherited_fits b list base None mark h = mark
    inherited_fits b list base (Some p) mark h = inherits (batch_at s p) list base mark.0 (g.batches p) h.1

    -- the boundary and the tips with which an unsealed batch is sealed are marks of the list on which it stands
    pub marks_here : (b : ℕ) (u : UnsealedBatch Op) → batch_at s b ≡ Unsealed u → IsMark m among u.list (effective_boundary s u) × AreMarks m among u.list (tips_of (reach s u))
    marks_here b u is =
        let good : IsGoodBatch m among allowed first (Unsealed u) = subst (IsGoodBatch m among allowed first) is (g.batches b) in
        let has : HasParent s b (Unsealed u) = subst (HasParent s b) is (g.parents b) in
        let mark : IsMark m among u.list u.base = (omega (arith, good.1), rw (good.1, take-length u.list) good.0.stand) in
        let fit : AllFit u.list (reach s u) = reach_fits (link_bound u.parent) u.parent u.list (parent_fits b u.list u.base u.parent mark.0 has) in
        (later_fits u.list (inherited_boundary s u) (oldest_base (reach s u)) (inherited_fits b u.list u.base u.parent mark has) (oldest_fits u.list (reach s u) fit), tips_fit u.list (reach s u) fit)

    parent_floor : (x : Batch Op) (list : List Op) (base other : ℕ) → base ≡ length list → IsGoodBatch m among allowed first x → IsSomeAnd (as_sealed x) (λ c. c.list ≡ take base list)
        → floor_of m list ≡ option_map_or (λ c. c.floor) (as_sealed x) other
    parent_floor (Unsealed u) list base other e good h = absurd h
    parent_floor (Sealed c) list base other e good h =
        let whole : c.list ≡ list = h ∙ rw e (take-length list) in
        ap (floor_of m) (sym whole) ∙ sym good.4
    parent_floor Gone list base other e good h = absurd h

    floor_linked : (b : ℕ) (list : List Op) (base : ℕ) (link : Option ℕ) → base ≡ length list → (link ≡ None → s.ops ≡ list) → ParentFits s b list base link
        → floor_of m list ≡ option_map_or (λ c. c.floor) (linked s link) (floor_of m s.ops)
    floor_linked b list base None e alone h = ap (floor_of m) (sym (alone refl))
    floor_linked b list base (Some p) e alone h = parent_floor (batch_at s p) list base (floor_of m s.ops) e (g.batches p) h.1

    -- the floor that an unsealed batch builds on is that of the list on which it stands
    pub floor_here : (b : ℕ) (u : UnsealedBatch Op) → batch_at s b ≡ Unsealed u → (u.parent ≡ None → s.ops ≡ u.list) → floor_of m u.list ≡ floor_below m s u
    floor_here b u is alone =
        let good : IsGoodBatch m among allowed first (Unsealed u) = subst (IsGoodBatch m among allowed first) is (g.batches b) in
        let has : HasParent s b (Unsealed u) = subst (HasParent s b) is (g.parents b) in
        floor_linked b u.list u.base u.parent good.1 alone has

-- ---- where the present list stands, by a test of lists

module _ {Op : Type 0} (one : SameTest Op) (Told : List Op → List Op → Type 0) (tells : (xs ys : List Op) → one xs ys ≡ true → Told xs ys) (s : State Op) (list : List Op) where
  either_stood : (a b : Bool) → (a || b) ≡ true → (P : Type 0) → (a ≡ true → P) → (b ≡ true → P) → P
  either_stood true b e P p q = p refl
  either_stood false b e P p q = q e

  abbrev pub Stood : Type 0
  Stood = (n : ℕ) × Told s.ops (take n list)

  any_stood : (tips : List ℕ) → list_any (stands_at one s list) tips ≡ true → Stood
  any_stood [] e = absurd (cc)
  any_stood (n ∷ tips) e = either_stood (stands_at one s list n) (list_any (stands_at one s list) tips) e Stood (λ t. (n, tells s.ops (take n list) t)) (λ t. any_stood tips t)

  -- what the test tells of the present list and a front of a list on which it stands
  pub stood_on : (boundary : ℕ) (tips : List ℕ) → stands_on one s list boundary tips ≡ true → Stood
  stood_on boundary tips e = either_stood (stands_at one s list boundary) (list_any (stands_at one s list) tips) e Stood (λ t. (boundary, tells s.ops (take boundary list) t)) (λ t. any_stood tips t)

-- a list is no longer than one on which it stands
pub not_longer : {Op : Type 0} (one : SameTest Op) → ((xs ys : List Op) → one xs ys ≡ true → length xs ≡ length ys) → (s : State Op) (list : List Op) (boundary : ℕ) (tips : List ℕ) → stands_on one s list boundary tips ≡ true
    → length s.ops ≤ length list
not_longer one tells s list boundary tips e =
    let at = stood_on one (λ xs ys. length xs ≡ length ys) tells s list boundary tips e in
    let l = length-take at.0 list in
    let k = at.1 in
    omega (arith, l, k)

-- two tests that agree on the places of a list say the same of it
module _ {Op : Type 0} (one other : SameTest Op) (s : State Op) (list : List Op) where
  abbrev pub Agree : ℕ → Type 0
  Agree n = stands_at one s list n ≡ stands_at other s list n

  abbrev pub AllAgree : List ℕ → Type 0
  AllAgree [] = Unit {0}
  AllAgree (n ∷ ns) = Agree n × AllAgree ns

  any_agree : (tips : List ℕ) → AllAgree tips → list_any (stands_at one s list) tips ≡ list_any (stands_at other s list) tips
  any_agree [] all = refl
  any_agree (n ∷ tips) all = rw (all.0, any_agree tips all.1) refl

  pub stands_agree : (boundary : ℕ) (tips : List ℕ) → Agree boundary → AllAgree tips → stands_on one s list boundary tips ≡ stands_on other s list boundary tips
  stands_agree boundary tips here all = rw (here, any_agree tips all) refl

module _ {Op : Type 0} (same : Op → Op → Bool) (decide : (a b : Op) → Decides (same a b) (a ≡ b)) where
  pub lists_decide : (xs ys : List Op) → Decides (same_operations same xs ys) (xs ≡ ys)
  lists_decide xs ys = slice_eq-Decides decide xs ys _ refl

  -- a batch without parent stands on the whole present list where it may be sealed
  pub stood_alone : (s : State Op) (u : UnsealedBatch Op) → u.base ≡ length u.list → may_seal (same_operations same) s u ≡ true → u.parent ≡ None → s.ops ≡ u.list
  stood_alone s u base may none =
      let here : stands_on (same_operations same) s u.list u.base [] ≡ true = rw none at may in
      let at : s.ops ≡ take u.base u.list = alone (stands_at (same_operations same) s u.list u.base) here (lists_decide s.ops (take u.base u.list)).0 in
      at ∙ rw base (take-length u.list)
    where
      alone : {P : Type 0} (a : Bool) → (a || false) ≡ true → (a ≡ true → P) → P
      alone true e p = p refl
      alone false e p = absurd (let never : false ≡ true = e in cc)
