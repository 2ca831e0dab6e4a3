-- Proofs made of what memory and log tell.
use Rattle.std.proofs.Common.{◌≡◌, inl, inr, ℕ, ◌^◌, ◌<◌, ◌≤◌, Bool, true, false, List, length, Some, Option, Ok, Err, refl, sym, ◌∙◌, ap, subst, arith}
use Rattle.std.specs.Prelude.{◌||◌, nat_le, slice_get, is_some, IsSome, Result, IfOk, IfErr, OnOk}
use Rattle.std.specs.Option.{option_map}
use Rattle.std.proofs.lemmas.Bool.Decides.{leb_tells}
use Rattle.std.proofs.lemmas.Option.{slice_get-map}
use Rattle.codec_base.specs.Codec.{Reading, IsLawful}
use Rattle.volume_base.specs.Moments.{Image}
use Rattle.tree_shape.specs.Hashing.{Hashing}
use Rattle.tree_shape.specs.Shape.{Shape, made}
use Rattle.tree_shape.specs.Shape as shape
use Rattle.tree_shape.specs.Kept.{KeepsPeaks}
use Rattle.tree_shape.specs.Needed.{IsNeeded}
use Rattle.tree_shape.specs.Pins.{position_of}
use Rattle.tree_shape.proofs.NeededLemmas.{made_le, needed_from}
use Rattle.tree_proof.specs.Cover.{Opened, meets, cover}
use Rattle.tree_proof.specs.declared.proof.Proof.{Proof}
use Rattle.tree_store.specs.Stores.{IsOutside, IsOutsideOr}
use Rattle.tree_store.specs.declared.error.Error.{Error}
use Rattle.tree_store.specs.declared.error.Error.TheVariants.{RangeOutOfBounds, ElementPruned, Volume, Memory}
use Rattle.tree_verification.specs.Ranges.{cover_positions, range_answer, TakesFrom}
use Rattle.tree_verification.proofs.CoverLemmas.{cover-below}
use Rattle.tree_verification.proofs.NeededLemmas.{cover-needed}
use Rattle.tree_core.specs.Pruned.{is_peak_at, keeps}
use Rattle.tree_core.proofs.PrunedLemmas.{kept_past, peak_at_true}
use Rattle.merkle_full.specs.Full.{Full, IsKept, told_at}
use Rattle.merkle_full.specs.Lists.{IsFullOf}
use Rattle.merkle_full.specs.Proving.{history_answer, IsProved}
use Rattle.merkle_full.proofs.FullLemmas.{needed_told}
use Rattle.merkle_full.proofs.ListLemmas.{all_at, mapped_some}

-- ---- answers that no read decides

pub history_past : {F : Type 0} (stored n a b : ℕ) → stored < n → history_answer {F = F} stored n a b ≡ Err (RangeOutOfBounds n)
history_past stored n a b lt = elim (leb_tells n stored) [
  | inl le ↦ absurd (omega (arith, lt, le.1))
  | inr past ↦ rw past.0 refl
]

pub history_within : {F : Type 0} (stored n a b : ℕ) → n ≤ stored → history_answer {F = F} stored n a b ≡ range_answer stored n a b
history_within stored n a b le = elim (leb_tells n stored) [
  | inl ok ↦ rw ok.0 refl
  | inr past ↦ absurd (omega (arith, le, past.1))
]

-- a range that is answered lies within the leaves
pub range_in : {F : Type 0} (stored n a b : ℕ) → range_answer {F = F} stored n a b ≡ Ok tt → (a < b) × (b ≤ n) × (n ≤ stored)
range_in stored n a b e = elim (leb_tells b a) [
  | inl t ↦ absurd (let f = rw t.0 at e in cc)
  | inr u ↦ elim (leb_tells b (2 ^ 62)) [
    | inl few ↦ elim (leb_tells n stored) [
      | inl there ↦ elim (leb_tells b n) [
        | inl le ↦ (u.1, le.1, there.1)
        | inr past ↦ absurd (let f = rw (u.0, few.0, there.0, past.0) at e in cc)
      ]
      | inr less ↦ absurd (let f = rw (u.0, few.0, less.0) at e in cc)
    ]
    | inr many ↦ absurd (let f = rw (u.0, many.0) at e in cc)
  ]
]

-- ---- what is needed is told

module _ {D : Type 0} (s : Shape) (h : Hashing D) (spelling : D → List ℕ) (admits : D → Type 0) (all : List D) (t : Full D) (image : Image) (reads : List ℕ → Reading D) (lawful : IsLawful spelling admits reads) (w : shape.IsLawful s) (q : KeepsPeaks s) where
  or_second : (x y : Bool) → y ≡ true → (x || y) ≡ true
  or_second true y e = refl
  or_second false y e = e

  pub cover_told : IsFullOf s h spelling admits all t image → IsKept s t → (n a b : ℕ) → n ≤ t.tree.leaves → t.boundary ≤ n → t.boundary ≤ a → (i p : ℕ) → slice_get (cover_positions s (meets a b) n) i ≡ Some p → is_some (told_at reads t image p) ≡ true
  cover_told full kept n a b few low from i p is =
      let m = mapped_some (position_of s) (slice_get (cover s (meets a b) n) i) p (sym (slice_get-map (position_of s) (cover s (meets a b) n) i) ∙ is) in
      let need = all_at (λ (c : ℕ × ℕ). IsNeeded s n t.boundary c.0 c.1) (cover s (meets a b) n) i m.0 (cover-needed s w n t.boundary a b from) m.1 in
      let below : p < length (made s n) = all_at (λ (r : ℕ). r < length (made s n)) (cover_positions s (meets a b) n) i p (cover-below s (meets a b) n n w (omega arith)) is in
      let keeps_it : keeps s t.boundary p ≡ true = elim (needed_from s w q n t.boundary m.0.0 m.0.1 low need) [
        | inl late ↦ kept_past s t.boundary p (omega (arith, late, m.2))
        | inr peak ↦ or_second (nat_le (length (made s t.boundary)) p) (is_peak_at s t.boundary (s.heights t.boundary) p) (ap (is_peak_at s t.boundary (s.heights t.boundary)) m.2 ∙ peak_at_true s t.boundary (s.heights t.boundary) m.0.0 m.0.1 peak)
      ] in
      needed_told s h spelling admits all t image reads lawful full kept p (omega (arith, below, made_le s n t.tree.leaves few)) keeps_it

-- each node of a cover from which digests are taken is told
pub taken_there : {F D : Type 0} (s : Shape) (told : ℕ → Option D) (n : ℕ) (met : Opened) (proof : Proof F D) → TakesFrom s told n met proof → (i p : ℕ) → slice_get (cover_positions s met n) i ≡ Some p → IsSome (told p)
taken_there s told n met proof is i p at =
    let here : option_map Some (slice_get proof.digests i) ≡ Some (told p) =
    sym (slice_get-map Some proof.digests i) ∙ ap (λ (l : List (Option _)). slice_get l i) is ∙ slice_get-map told (cover_positions s met n) i ∙ ap (option_map told) at in
    let m = mapped_some Some (slice_get proof.digests i) (told p) here in
    let some : IsSome (Some m.0) = refl in
    subst (λ (o : Option _). IsSome o) (sym m.2) some

-- where each is told, only the outside refuses
pub outside_told : {F D : Type 0} (told : ℕ → Option D) (ps : List ℕ) (e : Error F) → ((i p : ℕ) → slice_get ps i ≡ Some p → is_some (told p) ≡ true) → IsOutsideOr told ps e → IsOutside e
outside_told told ps (ElementPruned p) there absent = absurd (let some = there absent.index p absent.here in let none = ap is_some absent.absent in cc)
outside_told told ps Volume there out = tt
outside_told told ps Memory there out = tt
outside_told told ps _ there out = absurd out

pub if_outside : {F D T : Type 0} (told : ℕ → Option D) (ps : List ℕ) (result : Result T (Error F)) → ((i p : ℕ) → slice_get ps i ≡ Some p → is_some (told p) ≡ true) → IfErr result (IsOutsideOr told ps) → IfErr result IsOutside
if_outside told ps (Ok x) there of = tt
if_outside told ps (Err e) there of = outside_told told ps e there of

-- ---- the answer of a proof

same_err : {E : Type 0} (r : Result (Unit {0}) E) (d e : E) → r ≡ Err d → r ≡ Err e → d ≡ e
same_err r d e one two = let both = sym one ∙ two in cc

no_ok : {E : Type 0} (r : Result (Unit {0}) E) (e : E) → r ≡ Ok tt → r ≡ Err e → ⊥
no_ok r e one two = absurd (let bad = sym one ∙ two in cc)

pub on_answer : {T E : Type 0} (r : Result T E) (P Q : Type 0) → (P → Q) → IfOk r (λ x. P) → OnOk r Q
on_answer (Ok x) P Q then is = then is
on_answer (Err e) P Q then is = tt

module _ {F D : Type 0} (tells : Type 0) (s : Shape) (spelling : D → List ℕ) (admits : D → Type 0) (reads : List ℕ → Reading D) (t : Full D) (image : Image) where
  -- where the answer is a refusal
  pub proved_refused : (answer : Result (Unit {0}) (Error F)) (n inactive a b : ℕ) (e : Error F) → answer ≡ Err e → IsProved tells s spelling admits reads t image answer n inactive a b (Err e)
  proved_refused answer n inactive a b e is = record {
    refused = λ d same. ap (λ (x : Error F). Err x) (same_err answer e d is same);
    within = tt;
    form = tt;
    told = tt;
    list = tt;
    kept = λ ok. absurd (no_ok answer e ok is);
    first = λ ok. absurd (no_ok answer e ok is);
    fault = λ ok. absurd (no_ok answer e ok is);
  }
