-- Where a log keeps the witnesses of a list of states, what a search has found is the first of at least so many operations.
use Rattle.std.proofs.Common.{◌≡◌, inl, inr, ℕ, zero, suc, ◌+◌, ◌-◌, ◌<◌, ◌≤◌, List, [], ◌∷◌, length, map, drop, Option, Some, None, refl, sym, ◌∙◌, ap, subst, arith}
use Rattle.std.specs.Prelude.{slice_get}
use Rattle.std.specs.List.{AllByRecursion}
use Rattle.std.specs.Option.{option_map}
use Rattle.std.proofs.lemmas.Bool.{cases_lt}
use Rattle.std.proofs.lemmas.Bool.Decides.{leb_tells}
use Rattle.std.proofs.lemmas.Option.{slice_get-map, slice_get_within}
use Rattle.std.proofs.lemmas.List.{length-map, length-drop, drop-map}
use Rattle.codec_base.specs.Codec.{Reading, IsLawful}
use Rattle.codec_base.specs.Reads.{one_value}
use Rattle.journal_base.specs.Items.{Items}
use Rattle.log_model.specs.AppliedSizes.{first_at_least}
use Rattle.volume_base.specs.Log.{end_of}
use Rattle.witness_store.specs.declared.search.Found.{Found}
use Rattle.witness_store.specs.declared.witness.Witness.{Witness}
use Rattle.witness_store.specs.Searched.{IsWitnessAt, IsBefore, IsHere, IsFirst}
use Rattle.witness_store.specs.Witnesses.{Rises, sizes_of, Keeps, place_of}

-- ---- numbers that rise

pub rises_tail : (m : ℕ) (ms : List ℕ) → Rises (m ∷ ms) → Rises ms
rises_tail m [] r = tt
rises_tail m (k ∷ ks) r = r.1

-- the first is the least, and an earlier one is at most a later
head_least : (m : ℕ) (ms : List ℕ) (j x : ℕ) → Rises (m ∷ ms) → slice_get (m ∷ ms) j ≡ Some x → m ≤ x
head_least m ms zero x r is = let e : m ≡ x = cc in omega (arith, e)
head_least m [] (suc j) x r is = absurd cc
head_least m (k ∷ ks) (suc j) x r is = let later = head_least k ks j x r.1 is in let first = r.0 in omega (arith, later, first)

rises_to : (ns : List ℕ) (i j x y : ℕ) → Rises ns → i ≤ j → slice_get ns i ≡ Some x → slice_get ns j ≡ Some y → x ≤ y
rises_to [] i j x y r le here there = absurd cc
rises_to (m ∷ ms) zero j x y r le here there = let e : m ≡ x = cc in let least = head_least m ms j y r there in omega (arith, e, least)
rises_to (m ∷ ms) (suc i) zero x y r le here there = absurd (omega (arith, le))
rises_to (m ∷ ms) (suc i) (suc j) x y r le here there = rises_to ms i j x y (rises_tail m ms r) (omega (arith, le)) here there

get_some : {X : Type 0} (xs : List X) (i : ℕ) → i < length xs → (x : X) × (slice_get xs i ≡ Some x)
get_some [] i lt = absurd (omega (arith, lt))
get_some (x ∷ xs) zero lt = (x, refl)
get_some (x ∷ xs) (suc i) lt = get_some xs i (omega (arith, lt))

-- where all before are less and the one here isn't
pub first_is : (n : ℕ) (ns : List ℕ) (i : ℕ) → Rises ns → i ≤ length ns → ((j m : ℕ) → suc j ≡ i → slice_get ns j ≡ Some m → m < n) → ((m : ℕ) → slice_get ns i ≡ Some m → n ≤ m) → first_at_least n ns ≡ i
first_is n [] i r le before here = omega (arith, le)
first_is n (m ∷ ms) zero r le before here = elim (leb_tells n m) [
  | inl t ↦ rw t.0 refl
  | inr t ↦ let least = here m refl in absurd (omega (arith, t.1, least))
]
first_is n (m ∷ ms) (suc i) r le before here =
    let some = get_some (m ∷ ms) i (omega (arith, le)) in
    let less = before i some.0 refl some.1 in
    let least = head_least m ms i some.0 r some.1 in
    let rest = first_is n ms i (rises_tail m ms r) (omega (arith, le)) (λ j x e is. before (suc j) x (ap suc e) is) here in
    elim (leb_tells n m) [
      | inl t ↦ absurd (omega (arith, t.1, less, least))
      | inr t ↦ rw t.0 (ap suc rest)
    ]

-- ---- parts of lists

pub get_drop : {X : Type 0} (xs : List X) (s n : ℕ) → slice_get (drop s xs) n ≡ slice_get xs (s + n)
get_drop xs zero n = ap (slice_get xs) (omega arith)
get_drop [] (suc s) n = refl
get_drop (x ∷ xs) (suc s) n =
    let next : suc (s + n) ≡ suc s + n = omega arith in
    get_drop xs s n ∙ ap (slice_get (x ∷ xs)) next

pub all_at : {A : Type 0} (P : A → Type 0) (xs : List A) (k : ℕ) (x : A) → AllByRecursion P xs → slice_get xs k ≡ Some x → P x
all_at P [] k x all is = absurd cc
all_at P (y ∷ ys) zero x all is = let e : y ≡ x = cc in subst P e all.0
all_at P (y ∷ ys) (suc k) x all is = all_at P ys k x all.1 is

-- ---- a log that keeps the witnesses of a list

module _ {F D : Type 0} (items : Items (Witness F D)) (reads : List ℕ → Reading (Witness F D)) (lawful : IsLawful items.spelling items.admits reads) (ws : List (Witness F D)) (keeps : Keeps items ws) where
  abbrev start : ℕ
  start = items.log.start

  abbrev kept : List (Witness F D)
  kept = drop start ws

  texts : items.log.items ≡ map items.spelling kept
  texts = keeps.spelled.items ∙ drop-map items.spelling start ws

  pub kept_count : length kept ≡ length items.log.items
  kept_count = sym (length-map kept items.spelling) ∙ sym (ap length texts)

  pub kept_end : end_of items.log ≡ length ws
  kept_end = omega (arith, kept_count, length-drop start ws, keeps.spelled.within, length-map ws items.spelling)

  spelled_is : (k : ℕ) (w : Witness F D) (o : Option (Witness F D)) → slice_get kept k ≡ o → option_map items.spelling o ≡ Some (items.spelling w) → items.admits w → slice_get kept k ≡ Some w
  spelled_is k w None is same ok = absurd cc
  spelled_is k w (Some v) is same ok =
      let one : items.spelling v ≡ items.spelling w = cc in
      is ∙ ap Some (one_value items.spelling items.admits reads lawful v w (all_at items.admits kept k v keeps.allowed is) ok one)

  -- a witness that stands in the log is the list's
  pub kept_is : (p : ℕ) (w : Witness F D) → IsWitnessAt items p w → slice_get kept (p - start) ≡ Some w
  kept_is p w at =
      let here : slice_get (map items.spelling kept) (p - start) ≡ Some (items.spelling w) = sym (ap (λ (l : List (List ℕ)). slice_get l (p - start)) texts) ∙ at.0.here in
      spelled_is (p - start) w (slice_get kept (p - start)) refl (sym (slice_get-map items.spelling kept (p - start)) ∙ here) at.1

  pub listed : (p : ℕ) (w : Witness F D) → start ≤ p → IsWitnessAt items p w → slice_get ws p ≡ Some w
  listed p w low at =
      let there : start + (p - start) ≡ p = omega (arith, low) in
      ap (slice_get ws) (sym there) ∙ sym (get_drop ws start (p - start)) ∙ kept_is p w at

  size_at : (k : ℕ) (w : Witness F D) → slice_get kept k ≡ Some w → slice_get (sizes_of kept) k ≡ Some w.size
  size_at k w is = slice_get-map (λ (v : Witness F D). v.size) kept k ∙ ap (option_map (λ (v : Witness F D). v.size)) is

  size_is : (p m : ℕ) (w : Witness F D) → IsWitnessAt items p w → slice_get (sizes_of kept) (p - start) ≡ Some m → m ≡ w.size
  size_is p m w at size = let e : Some m ≡ Some w.size = sym size ∙ size_at (p - start) w (kept_is p w at) in cc

  sizes_count : length (sizes_of kept) ≡ length items.log.items
  sizes_count = length-map kept (λ (v : Witness F D). v.size) ∙ kept_count

  less_before : (n p j m : ℕ) (before : Option (Witness F D)) → start + suc j ≡ p → IsBefore items start p n before → slice_get (sizes_of kept) j ≡ Some m → m < n
  less_before n p j m None at before size = absurd (omega (arith, at, before))
  less_before n p j m (Some w) at before size =
      let place : p - 1 - start ≡ j = omega (arith, at) in
      let is = size_is (p - 1) m w before.1 (subst (λ (k : ℕ). slice_get (sizes_of kept) k ≡ Some m) (sym place) size) in
      let less = before.2 in
      omega (arith, is, less)

  least_here : (n p m : ℕ) (here : Option (Witness F D)) → start ≤ p → IsHere items (end_of items.log) p n here → slice_get (sizes_of kept) (p - start) ≡ Some m → n ≤ m
  least_here n p m None low here size =
      let within = slice_get_within (sizes_of kept) (p - start) m size in
      absurd (omega (arith, within, sizes_count, here))
  least_here n p m (Some w) low here size =
      let is = size_is p m w here.1 size in
      let least = here.2 in
      omega (arith, is, least)

  -- the place that a search finds
  pub place_found : (n : ℕ) (found : Found F D) → IsFirst items start (end_of items.log) n found → place_of ws start n ≡ found.position
  place_found n found first =
      let p = found.position in
      let back : start + (p - start) ≡ p = omega (arith, first.low) in
      ap (λ (i : ℕ). start + i) (first_is n (sizes_of kept) (p - start) keeps.rising (omega (arith, first.high, sizes_count))
      (λ j m e size. less_before n p j m found.before (omega (arith, e, back, first.low)) first.before size)
      (λ m size. least_here n p m found.here first.low first.here size)) ∙ back

  within_log : (q : ℕ) (v : Witness F D) → start ≤ q → slice_get ws q ≡ Some v → slice_get (sizes_of kept) (q - start) ≡ Some v.size
  within_log q v low there =
      let back : start + (q - start) ≡ q = omega (arith, low) in
      size_at (q - start) v (get_drop ws start (q - start) ∙ ap (slice_get ws) back ∙ there)

  size_of_kept : (p : ℕ) (w : Witness F D) → IsWitnessAt items p w → slice_get (sizes_of kept) (p - start) ≡ Some w.size
  size_of_kept p w at = size_at (p - start) w (kept_is p w at)

  kept_before : (n p q : ℕ) (v : Witness F D) (w : Option (Witness F D)) → q < p → start ≤ q → IsBefore items start p n w → slice_get (sizes_of kept) (q - start) ≡ Some v.size → v.size < n
  kept_before n p q v None lt low is at = absurd (omega (arith, lt, low, is))
  kept_before n p q v (Some w) lt low is at =
      let most = rises_to (sizes_of kept) (q - start) (p - 1 - start) v.size w.size keeps.rising (omega (arith, lt)) at (size_of_kept (p - 1) w is.1) in
      let less = is.2 in
      omega (arith, most, less)

  kept_behind : (n p q : ℕ) (v : Witness F D) (w : Option (Witness F D)) → p ≤ q → start ≤ p → IsHere items (end_of items.log) p n w → slice_get (sizes_of kept) (q - start) ≡ Some v.size → n ≤ v.size
  kept_behind n p q v None le low is at =
      let within = slice_get_within (sizes_of kept) (q - start) v.size at in
      absurd (omega (arith, within, sizes_count, is, le))
  kept_behind n p q v (Some w) le low is at =
      let least = rises_to (sizes_of kept) (p - start) (q - start) w.size v.size keeps.rising (omega (arith, le, low)) (size_of_kept p w is.1) at in
      let more = is.2 in
      omega (arith, least, more)

  -- where the one that was found is of more operations, none that is kept is of so many
  pub none_of_size : (n : ℕ) (found : Found F D) → IsFirst items start (end_of items.log) n found → IsHere items (end_of items.log) found.position (n + 1) found.here
      → (q : ℕ) (v : Witness F D) → start ≤ q → slice_get ws q ≡ Some v → v.size ≡ n → ⊥
  none_of_size n found first more q v low there same =
      let at = within_log q v low there in
      elim (cases_lt q found.position) [
        | inl lt ↦ let less = kept_before n found.position q v found.before lt low first.before at in omega (arith, less, same)
        | inr ge ↦ let least = kept_behind (n + 1) found.position q v found.here ge first.low more at in omega (arith, least, same)
      ]
