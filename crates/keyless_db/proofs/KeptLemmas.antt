-- What a batch's chain keeps, and what its database does.
use Rattle.std.proofs.Common.{◌≡◌, ℕ, zero, suc, ◌+◌, ◌-◌, ◌<◌, ◌≤◌, Bool, true, false, List, [], ◌∷◌, ◌++◌, length, drop, map, Some, None, Option, Ok, Err, refl, sym, ◌∙◌, ap, subst, arith}
use Rattle.std.specs.Prelude.{Contains, min, slice_get, nat_lt, nat_le, not, ◌&&◌, ◌||◌, if◌then◌else◌}
use Rattle.std.proofs.lemmas.Bool.Decides.{nat_tests}
use Rattle.merkle_full.proofs.ListLemmas.{get_behind, there_is}
use Rattle.log_model.specs.Meaning.{Meaning}
use Rattle.log_model.specs.Reads.{or_else, refuse_if, unless_refused, unordered, first_below, many_refusal, value_at}
use Rattle.log_model.specs.declared.refusal.Refusal.{Refusal}
use Rattle.log_model.specs.declared.refusal.Refusal.TheVariants as refusal
use Rattle.chain_core.specs.declared.commitment.Commitment.{Commitment}
use Rattle.keyless_db.specs.Batches.{MerkleizedView}
use Rattle.keyless_db.specs.Reading.{Kept, lost, location_refusal, locations_refusal, floored_refusal, first_refused, last_past, from_start, kept_value, batch_answer, batch_many_answer}
use Rattle.keyless_db.proofs.LocationLemmas.{neither, not_refused, last_of_list, le_true, le_false, lt_true, lt_false, le_holds, le_fails}
use Rattle.keyless_db.proofs.ReadLemmas.{value_there}

-- ---- the lists of a chain

-- what is kept from a place on is the list's
pub kept_there : {Op : Type 0} (first : ℕ) (joined list : List Op) (l : ℕ) (op : Op) → joined ≡ drop first list → (if nat_le first l then slice_get joined (l - first) else None) ≡ Some op
    → (first ≤ l) × (slice_get list l ≡ Some op)
kept_there {Op = Op} first joined list l op of is = by (nat_le first l) refl
  where
    by : (b : Bool) → nat_le first l ≡ b → (first ≤ l) × (slice_get list l ≡ Some op)
    by true t =
        let low : first ≤ l = grind (arith, nat_tests) in
        let place : first + (l - first) ≡ l = omega (arith, low) in
        let here : slice_get joined (l - first) ≡ Some op = sym (ap (λ b. if b then slice_get joined (l - first) else None) t) ∙ is in
        (low, ap (slice_get list) (sym place) ∙ sym (get_behind list first (l - first)) ∙ ap (λ (xs : List Op). slice_get xs (l - first)) (sym of) ∙ here)
    by false t =
        let none : None ≡ Some op = sym (ap (λ b. if b then slice_get joined (l - first) else None) t) ∙ is in
        absurd cc

absent : {X : Type 0} (xs : List X) (i : ℕ) → slice_get xs i ≡ None → length xs ≤ i
absent [] i is = omega arith
absent (x ∷ xs) zero is = absurd cc
absent (x ∷ xs) (suc i) is = let le = absent xs i is in omega (arith, le)

-- what isn't kept lies before that place
pub kept_nowhere : {Op : Type 0} (first : ℕ) (joined list : List Op) (l : ℕ) → joined ≡ drop first list → (if nat_le first l then slice_get joined (l - first) else None) ≡ None → l < length list → l < first
kept_nowhere {Op = Op} first joined list l of is within = by (nat_le first l) refl
  where
    by : (b : Bool) → nat_le first l ≡ b → l < first
    by true t =
        let low : first ≤ l = grind (arith, nat_tests) in
        let place : first + (l - first) ≡ l = omega (arith, low) in
        let gone : slice_get joined (l - first) ≡ None = sym (ap (λ b. if b then slice_get joined (l - first) else None) t) ∙ is in
        let past = absent list l (ap (slice_get list) (sym place) ∙ sym (get_behind list first (l - first)) ∙ ap (λ (xs : List Op). slice_get xs (l - first)) (sym of) ∙ gone) in
        absurd (omega (arith, past, within))
    by false t = le_fails first l t

-- ---- values that are kept

and_false : (b : Bool) → (b && false) ≡ false
and_false true = refl
and_false false = refl

or_false : (b : Bool) → (b || false) ≡ b
or_false true = refl
or_false false = refl

and_true : (b : Bool) → (b && true) ≡ b
and_true true = refl
and_true false = refl

not_le : (start l : ℕ) → not (nat_le start l) ≡ nat_lt l start
not_le start l = by (nat_le start l) refl
  where
    by : (b : Bool) → nat_le start l ≡ b → not b ≡ nat_lt l start
    by true is = let low : start ≤ l = grind (arith, nat_tests) in sym (lt_false l start low)
    by false is = sym (lt_true l start (le_fails start l is))

module _ {Op V : Type 0} (m : Meaning Op V) (list : List Op) (k : Kept) (l : ℕ) where
  pub from_chain : (op : Op) → k.chain ≤ l → slice_get list l ≡ Some op → kept_value m list k l ≡ Ok (m.value op)
  from_chain op low at =
      ap (λ b. unless_refused (refuse_if (not (b || (nat_le k.start l && nat_lt l k.size))) (refusal.ItemPruned l)) (value_at m list l)) (le_true k.chain l low)
      ∙ ap Ok (value_there m list l op at)

  pub from_nowhere : l < k.chain → k.size ≤ l → kept_value m list k l ≡ Err (refusal.ItemPruned l)
  from_nowhere below past =
      ap (λ b. unless_refused (refuse_if (not (b || (nat_le k.start l && nat_lt l k.size))) (refusal.ItemPruned l)) (value_at m list l)) (le_false k.chain l below)
      ∙ ap (λ b. unless_refused (refuse_if (not (nat_le k.start l && b)) (refusal.ItemPruned l)) (value_at m list l)) (lt_false l k.size past)
      ∙ ap (λ b. unless_refused (refuse_if (not b) (refusal.ItemPruned l)) (value_at m list l)) (and_false (nat_le k.start l))

  pub from_database : (op : Op) → l < k.chain → l < k.size → slice_get list l ≡ Some op → from_start k.start l (m.value op) ≡ kept_value m list k l
  from_database op below within at =
      sym (
      ap (λ b. unless_refused (refuse_if (not (b || (nat_le k.start l && nat_lt l k.size))) (refusal.ItemPruned l)) (value_at m list l)) (le_false k.chain l below)
      ∙ ap (λ b. unless_refused (refuse_if (not (nat_le k.start l && b)) (refusal.ItemPruned l)) (value_at m list l)) (lt_true l k.size within)
      ∙ ap (λ b. unless_refused (refuse_if (not b) (refusal.ItemPruned l)) (value_at m list l)) (and_true (nat_le k.start l))
      ∙ ap (λ b. unless_refused (refuse_if b (refusal.ItemPruned l)) (value_at m list l)) (not_le k.start l)
      ∙ ap (λ v. from_start k.start l v) (value_there m list l op at))

  -- ---- refusals before

  module _ (floor : ℕ) where
    pub batch_fit : location_refusal (length list) floor l ≡ None → batch_answer m list floor k l ≡ kept_value m list k l
    batch_fit fit = ap (λ o. unless_refused (or_else o (lost k l)) (value_at m list l)) fit

    pub batch_unfit : (why : Refusal) → location_refusal (length list) floor l ≡ Some why → batch_answer m list floor k l ≡ Err why
    batch_unfit why is = ap (λ o. unless_refused (or_else o (lost k l)) (value_at m list l)) is

-- ---- with what is collected behind

pub get_later : {X : Type 0} (xs ys : List X) (i : ℕ) (x : X) → length xs ≤ i → slice_get ys (i - length xs) ≡ Some x → slice_get (xs ++ ys) i ≡ Some x
get_later [] ys i x le at = let e : i - 0 ≡ i = omega arith in ap (slice_get ys) (sym e) ∙ at
get_later (z ∷ xs) ys zero x le at = absurd (omega (arith, le))
get_later (z ∷ xs) ys (suc i) x le at =
    let e : suc i - suc (length xs) ≡ i - length xs = omega arith in
    get_later xs ys i x (omega (arith, le)) (ap (slice_get ys) (sym e) ∙ at)

pub get_earlier : {X : Type 0} (xs ys : List X) (i : ℕ) (x : X) → slice_get xs i ≡ Some x → slice_get (xs ++ ys) i ≡ Some x
get_earlier [] ys i x at = absurd cc
get_earlier (z ∷ xs) ys zero x at = at
get_earlier (z ∷ xs) ys (suc i) x at = get_earlier xs ys i x at

le_least : (base first l : ℕ) → l < base → nat_le first l ≡ nat_le (min base first) l
le_least base first l lt = by (nat_le first l) refl
  where
    by : (b : Bool) → nat_le first l ≡ b → b ≡ nat_le (min base first) l
    by true is = let low : first ≤ l = le_holds first l is in sym (le_true (min base first) l (omega (arith, low)))
    by false is = let high = le_fails first l is in sym (le_false (min base first) l (omega (arith, high, lt)))

-- before what is collected the longer list has the same
pub kept_longer : {Op V : Type 0} (m : Meaning Op V) (list more : List Op) (base first start size l : ℕ) → l < length list → l < base
    → kept_value m list (record { chain = first; start = start; size = size }) l ≡ kept_value m (list ++ more) (record { chain = min base first; start = start; size = size }) l
kept_longer m list more base first start size l within below =
    let entry = there_is list l within in
    ap (λ b. unless_refused (refuse_if (not (b || (nat_le start l && nat_lt l size))) (refusal.ItemPruned l)) (value_at m list l)) (le_least base first l below)
    ∙ ap (λ v. unless_refused (refuse_if (not (nat_le (min base first) l || (nat_le start l && nat_lt l size))) (refusal.ItemPruned l)) v)
    (value_there m list l entry.0 entry.1 ∙ sym (value_there m (list ++ more) l entry.0 (get_earlier list more l entry.0 entry.1)))

pub fit_below : (size floor l : ℕ) → location_refusal size floor l ≡ None → l < size
fit_below size floor l fit =
    let r = neither (refuse_if (nat_le size l) (refusal.LocationOutOfBounds l size)) (refuse_if (nat_lt l floor) (refusal.BelowInactivityFloor l)) fit in
    le_fails size l (not_refused (nat_le size l) (refusal.LocationOutOfBounds l size) r.0)

or_assoc : (x y z : Option Refusal) → or_else x (or_else y z) ≡ or_else (or_else x y) z
or_assoc None y z = refl
or_assoc (Some r) y z = refl

module _ {Op V : Type 0} (m : Meaning Op V) (list : List Op) (k : Kept) (floor : ℕ) (ls : List ℕ) where
  refusal_is : many_refusal list floor refusal.BelowInactivityFloor ls ≡ floored_refusal (length list) floor ls
  refusal_is =
      ap (λ o. or_else (unordered ls) (or_else o (first_below floor refusal.BelowInactivityFloor ls))) (last_of_list list ls)
      ∙ or_assoc (unordered ls) (last_past (length list) ls) (first_below floor refusal.BelowInactivityFloor ls)

  pub batch_many_fit : floored_refusal (length list) floor ls ≡ None → batch_many_answer m list floor k ls ≡ unless_refused (first_refused (lost k) ls) (map (value_at m list) ls)
  batch_many_fit fit = ap (λ o. unless_refused (or_else o (first_refused (lost k) ls)) (map (value_at m list) ls)) (refusal_is ∙ fit)

  pub batch_many_unfit : (why : Refusal) → floored_refusal (length list) floor ls ≡ Some why → batch_many_answer m list floor k ls ≡ Err why
  batch_many_unfit why is = ap (λ o. unless_refused (or_else o (first_refused (lost k) ls)) (map (value_at m list) ls)) (refusal_is ∙ is)

-- locations that may be read are in the list
pub floored_within : (size floor : ℕ) (ls : List ℕ) → floored_refusal size floor ls ≡ None → locations_refusal size ls ≡ None
floored_within size floor ls fit = (neither (locations_refusal size ls) (first_below floor refusal.BelowInactivityFloor ls) fit).0

-- ---- the chain

-- the state that was tested is the database's, and the chain is the batch's
pub chain_here : {F D Op : Type 0} {a b : MerkleizedView F D Op} {x y : Commitment F D} → a ≡ b → x ≡ y → Contains (a.bounds.tip ∷ a.bounds.db ∷ a.bounds.ancestors) x → Contains (b.bounds.tip ∷ b.bounds.db ∷ b.bounds.ancestors) y
chain_here {F = F} {D = D} {Op = Op} {a = a} {b = b} {x = x} {y = y} same at here =
    subst (λ (v : MerkleizedView F D Op). Contains (v.bounds.tip ∷ v.bounds.db ∷ v.bounds.ancestors) y) same
    (subst (λ (s : Commitment F D). Contains (a.bounds.tip ∷ a.bounds.db ∷ a.bounds.ancestors) s) at here)
