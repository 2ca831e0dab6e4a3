-- What a database whose witnesses are held serves.
use Rattle.std.proofs.Common.{◌≡◌, ◌⊎◌, inl, inr, ℕ, zero, suc, ◌+◌, ◌-◌, ◌^◌, ◌<◌, ◌≤◌, true, false, List, [], ◌∷◌, length, map, take, drop, Option, Some, None, refl, sym, ◌∙◌, ap, subst, arith}
use Rattle.std.specs.Prelude.{◌&&◌, nat_lt, nat_le, Bool, slice_get, Result, Ok, Err, IfOk, IfErr, IsErrOf, IsOk, if◌then◌else◌}
use Rattle.std.specs.List.{AllByRecursion}
use Rattle.std.specs.Option.{option_map}
use Rattle.std.proofs.lemmas.Bool.Decides.{nat_tests}
use Rattle.std.proofs.lemmas.List.{drop-map, length-take, take-append-drop}
use Rattle.std.proofs.lemmas.Option.{slice_get-map}
use Rattle.codec_base.specs.declared.error.CodecError.{CodecError}
use Rattle.journal_base.specs.Answers.{IsOfRead}
use Rattle.journal_base.specs.Items.{Items, IsCorrupt}
use Rattle.journal_base.specs.View.{View, IsHeld, IsWithin}
use Rattle.volume_base.specs.Volume.{State}
use Rattle.volume_base.specs.declared.error.JournalError.{JournalError}
use Rattle.volume_base.specs.declared.error.JournalError.TheVariants.{ItemPruned, ItemOutOfRange, EmptyAppend, SizeOverflow, Corruption, Tree, Volume, Memory}
use Rattle.tree_shape.specs.Hashing.{Hashing}
use Rattle.tree_shape.specs.Shape.{Shape}
use Rattle.log_model.specs.Meaning.{Meaning}
use Rattle.chain_core.specs.Answers.{IsOutside}
use Rattle.chain_core.specs.Errors.{from_journal}
use Rattle.chain_core.specs.declared.error.DataFault.TheVariants as fault
use Rattle.chain_core.specs.declared.error.Error.{Error}
use Rattle.chain_core.specs.declared.error.Error.TheVariants as chain
use Rattle.chain_core.specs.declared.error.Error.TheVariants.{DataCorrupted, Journal}
use Rattle.witness_store.specs.Searched.{IsWitnessAt}
use Rattle.witness_store.specs.Witnesses.{witnesses_of, Keeps, IsKept}
use Rattle.witness_store.specs.declared.witness.Witness.{Witness}
use Rattle.compact_db.specs.DbView.{DbView, seen_log}
use Rattle.compact_db.specs.Held.{IsSizeOf, IsHeldFor}
use Rattle.compact_db.specs.Rebuild.{RefusedOnlyAs, fits_witness, commit_answer, decoded_answer, rebuild_answer}
use Rattle.compact_db.specs.Serving.{IsKeptAt, has_size, kept_answer, AnswersAs, IsDamaged, IsLogFault, IsRebuiltAt}
use Rattle.compact_db.specs.WitnessOf.{witness_of}
use Rattle.compact_db.specs.declared.verified.VerifiedWitness.{VerifiedWitness}
use Rattle.compact_db.proofs.WitnessLemmas.{longer}

-- ---- lists

-- what a map has at a place is of what the list has there
pub of_mapped : {A B : Type 0} (f : A → B) (xs : List A) (k : ℕ) (y : B) → slice_get (map f xs) k ≡ Some y → (x : A) × (slice_get xs k ≡ Some x) × (f x ≡ y)
of_mapped f [] k y is = absurd cc
of_mapped f (x ∷ xs) zero y is = (x, refl, cc)
of_mapped f (x ∷ xs) (suc k) y is = of_mapped f xs k y is

to_mapped : {A B : Type 0} (f : A → B) (xs : List A) (k : ℕ) (x : A) → slice_get xs k ≡ Some x → slice_get (map f xs) k ≡ Some (f x)
to_mapped f xs k x is = slice_get-map f xs k ∙ ap (option_map f) is

get_behind : {X : Type 0} (xs : List X) (s n : ℕ) → slice_get (drop s xs) n ≡ slice_get xs (s + n)
get_behind xs zero n = ap (slice_get xs) (omega arith)
get_behind [] (suc s) n = refl
get_behind (x ∷ xs) (suc s) n =
    let next : suc (s + n) ≡ suc s + n = omega arith in
    get_behind xs s n ∙ ap (slice_get (x ∷ xs)) next

pub get_take : {X : Type 0} (xs : List X) (n i : ℕ) → i < n → slice_get (take n xs) i ≡ slice_get xs i
get_take xs zero i lt = absurd (omega (arith, lt))
get_take [] (suc n) i lt = refl
get_take (x ∷ xs) (suc n) zero lt = refl
get_take (x ∷ xs) (suc n) (suc i) lt = get_take xs n i (omega (arith, lt))

each_at : {A : Type 0} (P : A → Type 0) (xs : List A) (k : ℕ) (x : A) → AllByRecursion P xs → slice_get xs k ≡ Some x → P x
each_at P [] k x all is = absurd cc
each_at P (y ∷ ys) zero x all is = let e : y ≡ x = cc in subst P e all.0
each_at P (y ∷ ys) (suc k) x all is = each_at P ys k x all.1 is

any_at : (ns : List ℕ) (k n : ℕ) → slice_get ns k ≡ Some n → has_size ns n ≡ true
any_at [] k n is = absurd cc
any_at (m ∷ ns) zero n is = let e : m ≡ n = cc in grind (arith, nat_tests)
any_at (m ∷ ns) (suc k) n is = let rest = any_at ns k n is in grind (arith, nat_tests)

any_none : (ns : List ℕ) (n : ℕ) → ((k : ℕ) → slice_get ns k ≡ Some n → ⊥) → has_size ns n ≡ false
any_none [] n none = refl
any_none (m ∷ ns) n none =
    let other : m ≡ n → ⊥ = λ e. none 0 (ap Some e) in
    let rest = any_none ns n (λ k is. none (suc k) is) in
    grind (arith, nat_tests)

-- ---- a state that is kept, or isn't

pub kept_true : (sizes : List ℕ) (start p size : ℕ) → IsKeptAt sizes start size (Some p) → has_size (drop start sizes) size ≡ true
kept_true sizes start p size at =
    let there : start + (p - start) ≡ p = omega (arith, at.0) in
    any_at (drop start sizes) (p - start) size (get_behind sizes start (p - start) ∙ ap (slice_get sizes) there ∙ at.1)

pub kept_false : (sizes : List ℕ) (start size : ℕ) → IsKeptAt sizes start size None → has_size (drop start sizes) size ≡ false
kept_false sizes start size none =
    any_none (drop start sizes) size (λ k is. none (start + k) (omega arith) (sym (get_behind sizes start k) ∙ is))

module _ {F D Op V : Type 0} (s : Shape) (h : Hashing D) (m : Meaning Op V) (ops : List Op) (sizes : List ℕ) (start size : ℕ) where
  pub size_none : IsKept (map (witness_of {F = F} s h m ops) sizes) start size None → IsKeptAt sizes start size None
  size_none none p low is = none p (witness_of s h m ops size) low (to_mapped (witness_of {F = F} s h m ops) sizes p size is) refl

  pub size_here : (p : ℕ) (w : Witness F D) → IsKept (map (witness_of s h m ops) sizes) start size (Some (p, w)) → IsKeptAt sizes start size (Some p)
  size_here p w kept =
      let one = of_mapped (witness_of {F = F} s h m ops) sizes p w kept.1 in
      let n : one.0 ≡ size = ap (λ (x : Witness F D). x.size) one.2 ∙ kept.2 in
      (kept.0, one.1 ∙ ap Some n)

  pub witness_here : (p : ℕ) (w : Witness F D) → IsKept (map (witness_of s h m ops) sizes) start size (Some (p, w)) → w ≡ witness_of s h m ops size
  witness_here p w kept =
      let one = of_mapped (witness_of {F = F} s h m ops) sizes p w kept.1 in
      let n : one.0 ≡ size = ap (λ (x : Witness F D). x.size) one.2 ∙ kept.2 in
      sym one.2 ∙ ap (witness_of s h m ops) n

  pub front_witness : 0 < size → size ≤ length ops → witness_of {F = F} s h m ops size ≡ witness_of s h m (take size ops) (length (take size ops))
  front_witness some le =
      let count : length (take size ops) ≡ size = omega (arith, le, length-take size ops) in
      ap (λ os. witness_of {F = F} s h m os size) (sym (take-append-drop size ops))
      ∙ longer s h m (take size ops) (drop size ops) size some (omega (arith, count))
      ∙ ap (witness_of s h m (take size ops)) (sym count)

-- ---- faults

-- where a list's witnesses are kept, none is corrupt
none_corrupt : {F D : Type 0} (items : Items (Witness F D)) (ws : List (Witness F D)) (p : ℕ) → Keeps items ws → IsCorrupt items p → ⊥
none_corrupt items ws p keeps bad =
    let start = items.log.start in
    let texts = keeps.spelled.items ∙ drop-map items.spelling start ws in
    let one = of_mapped items.spelling (drop start ws) (p - start) bad.bytes (sym (ap (λ l. slice_get l (p - start)) texts) ∙ bad.here.here) in
    bad.unspelled one.0 (each_at items.admits (drop start ws) (p - start) one.0 keeps.allowed one.1) (sym one.2)

outside_of : (F : Type 0) {A : Type 0} (told within : Type 0) (items : Items A) (cause : JournalError) → IsOfRead cause
    → ((p : ℕ) → cause ≡ Corruption p → ⊥) → ((p : ℕ) → cause ≡ ItemPruned p → ⊥) → ((p : ℕ) → cause ≡ ItemOutOfRange p → ⊥)
    → IsOutside {F = F} (from_journal cause)
outside_of F told within items (ItemPruned p) of a b c = absurd (b p refl)
outside_of F told within items (ItemOutOfRange p) of a b c = absurd (c p refl)
outside_of F told within items EmptyAppend of a b c = absurd cc
outside_of F told within items SizeOverflow of a b c = absurd cc
outside_of F told within items (Corruption p) of a b c = absurd (a p refl)
outside_of F told within items (Tree x) of a b c = absurd cc
outside_of F told within items Volume of a b c = tt
outside_of F told within items Memory of a b c = tt

within_held : {C : Type 0} (view : View C) (state : State) → IsHeld view state → IsWithin view state
within_held view state held = record { start_is = held.start_is; low = omega (arith, held.start_is, held.end_is); high = omega (arith, held.end_is) }

-- a fault over held witnesses is the volume's, or want of memory
pub fault_outside : {F D Op V Cfg : Type 0} (s : Shape) (h : Hashing D) (m : Meaning Op V) (spelling : D → List ℕ) (admits : D → Type 0) (told : Type 0)
    (db : DbView F D Op Cfg) (state : State) (e : Error F)
    → IsLogFault told (IsWithin (seen_log db.log) state) (witnesses_of {F = F} spelling admits (seen_log db.log) state) e
    → told → (ops : List Op) (sizes : List ℕ) → IsHeldFor s h m spelling admits ops sizes db state → IsOutside e
fault_outside {F} s h m spelling admits told db state e fault tells ops sizes held =
    let items = witnesses_of {F = F} spelling admits (seen_log db.log) state in
    let within = within_held (seen_log db.log) state held.bounds in
    subst (λ (x : Error F). IsOutside x) (sym fault.is)
    (outside_of F told (IsWithin (seen_log db.log) state) items fault.cause fault.of_read
    (λ p is. none_corrupt items (map (witness_of s h m ops) sizes) p held.witnesses (fault.corrupt p is tells))
    (fault.not_pruned tells within) (fault.not_out_of_range tells within))

-- ---- what a witness rebuilds, as an answer

never_if : {T E : Type 0} (b : Bool) (x y : Result T E) (e : E) → (x ≡ Err e → ⊥) → (y ≡ Err e → ⊥) → (if b then x else y) ≡ Err e → ⊥
never_if true x y e first second is = first is
never_if false x y e first second is = second is

never_commit : {F D Op V : Type 0} (s : Shape) (m : Meaning Op V) (w : Witness F D) (op : Op) (floor : Option ℕ) → commit_answer s m w op floor ≡ Err chain.Volume → ⊥
never_commit s m w op None is = absurd cc
never_commit s m w op (Some floor) is = never_if (fits_witness s m w floor) (Ok op) (Err (DataCorrupted fault.Witness)) chain.Volume (λ e. cc) (λ e. cc) is

never_decoded : {F D Op V : Type 0} (s : Shape) (m : Meaning Op V) (w : Witness F D) (r : Result Op CodecError) → decoded_answer s m w r ≡ Err chain.Volume → ⊥
never_decoded s m w (Ok op) is = never_commit s m w op (m.floor op) is
never_decoded s m w (Err e) is = absurd cc

-- it isn't refused by the volume
pub never_volume : {F D Op V : Type 0} (s : Shape) (m : Meaning Op V) (decoded : List ℕ → Result Op CodecError) (w : Witness F D) → rebuild_answer s m decoded w ≡ Err chain.Volume → ⊥
never_volume s m decoded w is =
    never_if (nat_lt 0 w.size && nat_le w.size (2 ^ 62)) (decoded_answer s m w (decoded w.op_bytes)) (Err (DataCorrupted fault.Witness)) chain.Volume
    (never_decoded s m w (decoded w.op_bytes)) (λ e. cc) is

pub not_volume : {F T U : Type 0} (answer : Result U (Error F)) (r : Result T (Error F)) → RefusedOnlyAs answer r → (answer ≡ Err chain.Volume → ⊥) → IsErrOf r chain.Volume → ⊥
not_volume answer (Ok x) f never is = absurd cc
not_volume {F} answer (Err e) f never is =
    let v : Error F = chain.Volume in
    let same : e ≡ v = cc in
    elim f [
      | inl a ↦ never (a ∙ ap Err same)
      | inr a ↦ let both : v ≡ chain.Memory = sym same ∙ a in absurd cc
    ]

-- a kept state is rebuilt, or its witness says why not
pub rebuilt_as : {F T U : Type 0} (size : ℕ) (kept : Bool) (answer : Result U (Error F)) (r : Result T (Error F)) → kept ≡ true → RefusedOnlyAs answer r
    → AnswersAs (kept_answer size kept) answer r
rebuilt_as size kept answer (Ok x) is f = rw is refl
rebuilt_as size kept answer (Err e) is f = elim f [
  | inl a ↦ inr (inr (rw is refl, a))
  | inr a ↦ inr (inl (subst (λ x. IsOutside x) (sym a) tt))
]

pub damaged_as : {F D Op V T : Type 0} (s : Shape) (m : Meaning Op V) (decoded : List ℕ → Result Op CodecError) (told within : Type 0) (items : Items (Witness F D)) (size : ℕ)
    (other : Error F → Type 0) (p : ℕ) (w : Witness F D) (first : Result (Unit {0}) (Error F)) (r : Result T (Error F))
    → (told → within → IsWitnessAt items p w × (w.size ≡ size)) → RefusedOnlyAs (rebuild_answer s m decoded w) r
    → IfErr r (λ e. (first ≡ Err e) ⊎ (IsOutside e ⊎ (other e ⊎ IsDamaged s m decoded told within items size e)))
damaged_as s m decoded told within items size other p w first (Ok x) here f = tt
damaged_as s m decoded told within items size other p w first (Err e) here f = elim f [
  | inl a ↦ inr (inr (inr (record { position = p; witness = w; here = here; why = a })))
  | inr a ↦ inr (inl (subst (λ x. IsOutside x) (sym a) tt))
]

pub none_kept : {F : Type 0} (size : ℕ) (kept : Bool) → kept ≡ false → kept_answer {F = F} size kept ≡ Err (Journal (ItemPruned (size - 1)))
none_kept size kept is = rw is refl

pub if_ok : {A E : Type 0} (r : Result A E) (P R : A → Type 0) → IfOk r P → ((a : A) → P a → R a) → IfOk r R
if_ok (Ok a) P R p give = give a p
if_ok (Err e) P R p give = tt

-- at a kept size the list ends with a commit
pub size_ended : {Op V : Type 0} (m : Meaning Op V) (ops : List Op) (sizes : List ℕ) (start p size : ℕ) → AllByRecursion (IsSizeOf m ops) (drop start sizes) →
    IsKeptAt sizes start size (Some p) → IsSizeOf m ops size
size_ended m ops sizes start p size all at =
    let there : start + (p - start) ≡ p = omega (arith, at.0) in
    each_at (IsSizeOf m ops) (drop start sizes) (p - start) size all (get_behind sizes start (p - start) ∙ ap (slice_get sizes) there ∙ at.1)

pub and_ok : {A E : Type 0} (r : Result A E) (P R : A → Type 0) → IfOk r P → IfOk r R → IfOk r (λ a. P a × R a)
and_ok (Ok a) P R p q = (p, q)
and_ok (Err e) P R p q = tt

pub is_ok : {A E : Type 0} (r : Result A E) (a : A) → r ≡ Ok a → IsOk r
is_ok r a is = subst (λ x. IsOk x) (sym is) refl

-- a witness that stands here, and has been rebuilt
pub rebuilt_here : {F D Op V : Type 0} (s : Shape) (m : Meaning Op V) (decoded : List ℕ → Result Op CodecError) (items : Items (Witness F D)) (size p : ℕ) (w : Witness F D)
    (v : VerifiedWitness F D) (commit : Op) → IsWitnessAt items p w × (w.size ≡ size) → rebuild_answer s m decoded w ≡ Ok commit → v.witness ≡ w
    → IsRebuiltAt s m decoded items size v commit
rebuilt_here {F} {D} s m decoded items size p w v commit here answer is = record {
  position = p;
  here = subst (λ (x : Witness F D). IsWitnessAt items p x) (sym is) here.0;
  sized = ap (λ (x : Witness F D). x.size) is ∙ here.1;
  rebuilt = ap (λ (x : Witness F D). rebuild_answer s m decoded x) is ∙ answer;
}
