-- Logs that have the witnesses of a list's states, from call to call.
use Rattle.std.proofs.Common.{◌≡◌, ℕ, zero, suc, ◌+◌, ◌-◌, ◌^◌, ◌<◌, ◌≤◌, List, [], ◌∷◌, ◌++◌, length, map, take, drop, Option, Some, None, refl, sym, ◌∙◌, ap, subst, arith}
use Rattle.std.specs.Prelude.{slice_get}
use Rattle.std.specs.List.{AllByRecursion}
use Rattle.std.proofs.lemmas.List.{length-append, length-take, length-map, length-drop, map-append, take-map, drop-map, drop-append-le, drop_all, drop-drop, drop-take, take-append-drop}
use Rattle.std.proofs.lemmas.Option.{slice_get_within}
use Rattle.journal_base.specs.Items.{Items}
use Rattle.tree_shape.specs.Hashing.{Hashing}
use Rattle.tree_shape.specs.Shape.{Shape}
use Rattle.log_model.specs.AppliedSizes.{first_at_least}
use Rattle.log_model.specs.Meaning.{Meaning}
use Rattle.log_model.specs.Good.{EndsWithCommit}
use Rattle.witness_store.specs.declared.witness.Witness.{Witness}
use Rattle.witness_store.specs.Selected.{end_within, IsLastWithin}
use Rattle.witness_store.specs.Witnesses.{Rises, sizes_of, Keeps}
use Rattle.compact_db.specs.Held.{IsSizeOf, HasStates}
use Rattle.compact_db.specs.Opening.{IsCapped, IsPast, IsLatest}
use Rattle.compact_db.specs.WitnessOf.{witness_of}
use Rattle.compact_db.proofs.SizeLemmas.{all_more, all_behind, all_before, all_weaker, all_both, all_at, get_behind, get_before, got_map, size_longer, size_shorter, size_whole, size_some, all_upto, before_first, from_first}
use Rattle.compact_db.proofs.WitnessLemmas.{longer}

-- as many of a size that is free
abbrev pub ones : ℕ → List ℕ
ones zero = []
ones (suc n) = 1 ∷ ones n

pub length-ones : (n : ℕ) → length (ones n) ≡ n
length-ones zero = refl
length-ones (suc n) = ap suc (length-ones n)

-- another list with the same kept witnesses
keeps_same : {F D : Type 0} (items : Items (Witness F D)) (ws vs : List (Witness F D)) → length vs ≡ length ws
    → drop items.log.start vs ≡ drop items.log.start ws → Keeps items ws → Keeps items vs
keeps_same items ws vs count same keeps = record {
  spelled = record {
    items = keeps.spelled.items ∙ drop-map items.spelling items.log.start ws ∙ ap (map items.spelling) (sym same) ∙ sym (drop-map items.spelling items.log.start vs);
    within = omega (arith, keeps.spelled.within, length-map ws items.spelling, length-map vs items.spelling, count);
  };
  allowed = subst (AllByRecursion items.admits) (sym same) keeps.allowed;
  rising = subst (λ l. Rises (sizes_of l)) (sym same) keeps.rising;
}

sizes_are : (F : Type 0) {D Op V : Type 0} (s : Shape) (h : Hashing D) (m : Meaning Op V) (ops : List Op) (sizes : List ℕ)
    → sizes_of (map (witness_of {F = F} s h m ops) sizes) ≡ sizes
sizes_are F s h m ops [] = refl
sizes_are F s h m ops (n ∷ sizes) = ap (λ l. n ∷ l) (sizes_are F s h m ops sizes)

module _ {F D Op V : Type 0} (s : Shape) (h : Hashing D) (m : Meaning Op V) where
  -- the witnesses of a list at these sizes
  abbrev pub witnesses_at : List Op → List ℕ → List (Witness F D)
  witnesses_at ops sizes = map (witness_of s h m ops) sizes

  same_witnesses : (ops more : List Op) (sizes : List ℕ) → AllByRecursion (IsSizeOf m ops) sizes → witnesses_at (ops ++ more) sizes ≡ witnesses_at ops sizes
  same_witnesses ops more [] all = refl
  same_witnesses ops more (n ∷ sizes) all =
      let here : witness_of {F = F} s h m (ops ++ more) n ≡ witness_of s h m ops n = longer s h m ops more n (size_some m ops n all.0) all.0.0 in
      let rest = same_witnesses ops more sizes all.1 in
      rw (here, rest) refl

  behind_more : (k : ℕ) (ops : List Op) (sizes : List ℕ) (w : Witness F D) → k ≤ length sizes → drop k (witnesses_at ops sizes ++ (w ∷ [])) ≡ witnesses_at ops (drop k sizes) ++ (w ∷ [])
  behind_more k ops sizes w le =
      drop-append-le k (witnesses_at ops sizes) (w ∷ []) (omega (arith, le, length-map sizes (witness_of {F = F} s h m ops)))
      ∙ ap (λ (l : List (Witness F D)). l ++ (w ∷ [])) (drop-map (witness_of s h m ops) k sizes)

  module _ (items new : Items (Witness F D)) (ops : List Op) (sizes : List ℕ) where
    -- a longer list, whose last witness is added
    pub states_more : (more : List Op) (w : Witness F D) → new.log.start ≡ items.log.start → HasStates s h m ops sizes items
        → EndsWithCommit m (ops ++ more) → length (ops ++ more) ≤ 2 ^ 62 → w ≡ witness_of s h m (ops ++ more) (length (ops ++ more))
        → Keeps new (witnesses_at ops sizes ++ (w ∷ [])) → HasStates s h m (ops ++ more) (sizes ++ (length (ops ++ more) ∷ [])) new
    states_more more w start was ends few is keeps =
        let n = length (ops ++ more) in
        let k = new.log.start in
        let kept : AllByRecursion (IsSizeOf m ops) (drop k sizes) = subst (λ (i : ℕ). AllByRecursion (IsSizeOf m ops) (drop i sizes)) (sym start) was.within in
        let low : k ≤ length sizes = omega (arith, start, was.witnesses.spelled.within, length-map (witnesses_at ops sizes) items.spelling, length-map sizes (witness_of {F = F} s h m ops)) in
        let split : witnesses_at (ops ++ more) (sizes ++ (n ∷ [])) ≡ witnesses_at (ops ++ more) sizes ++ (witness_of s h m (ops ++ more) n ∷ []) = map-append (witness_of s h m (ops ++ more)) sizes (n ∷ []) in
        let same : drop k (witnesses_at (ops ++ more) (sizes ++ (n ∷ []))) ≡ drop k (witnesses_at ops sizes ++ (w ∷ [])) =
        ap (drop k) split ∙ behind_more k (ops ++ more) sizes (witness_of s h m (ops ++ more) n) low
        ∙ ap (λ (l : List (Witness F D)). l ++ (witness_of s h m (ops ++ more) n ∷ [])) (same_witnesses ops more (drop k sizes) kept)
        ∙ ap (λ (x : Witness F D). witnesses_at ops (drop k sizes) ++ (x ∷ [])) (sym is) ∙ sym (behind_more k ops sizes w low) in
        let count : length (witnesses_at (ops ++ more) (sizes ++ (n ∷ []))) ≡ length (witnesses_at ops sizes ++ (w ∷ [])) =
        omega (arith, length-map (sizes ++ (n ∷ [])) (witness_of {F = F} s h m (ops ++ more)), length-append sizes (n ∷ []), length-append (witnesses_at ops sizes) (w ∷ []), length-map sizes (witness_of {F = F} s h m ops)) in
        record {
          few = few;
          witnesses = keeps_same new (witnesses_at ops sizes ++ (w ∷ [])) (witnesses_at (ops ++ more) (sizes ++ (n ∷ []))) count same keeps;
          within = subst (AllByRecursion (IsSizeOf m (ops ++ more))) (sym (drop-append-le k sizes (n ∷ []) low))
              (all_more (IsSizeOf m (ops ++ more)) (drop k sizes) n (all_weaker (IsSizeOf m ops) (IsSizeOf m (ops ++ more)) (drop k sizes) (size_longer m ops more) kept) (size_whole m (ops ++ more) ends));
        }

    -- fewer are kept
    pub states_behind : items.log.start ≤ new.log.start → HasStates s h m ops sizes items → Keeps new (witnesses_at ops sizes) → HasStates s h m ops sizes new
    states_behind le was keeps =
        let whole : items.log.start + (new.log.start - items.log.start) ≡ new.log.start = omega (arith, le) in
        let behind : drop (new.log.start - items.log.start) (drop items.log.start sizes) ≡ drop new.log.start sizes = drop-drop (new.log.start - items.log.start) items.log.start sizes ∙ ap (λ (k : ℕ). drop k sizes) whole in
        record {
          few = was.few;
          witnesses = keeps;
          within = subst (AllByRecursion (IsSizeOf m ops)) behind (all_behind (IsSizeOf m ops) (new.log.start - items.log.start) (drop items.log.start sizes) was.within);
        }

    -- a front of the list, whose last witness is the last one that is left
    pub states_cut : (count size : ℕ) → new.log.start ≡ items.log.start → items.log.start < count → HasStates s h m ops sizes items → slice_get sizes (count - 1) ≡ Some size
        → Keeps new (take count (witnesses_at ops sizes)) → HasStates s h m (take size ops) (take count sizes) new
    states_cut count size start some was last keeps =
        let k = new.log.start in
        let kept : AllByRecursion (IsSizeOf m ops) (drop k sizes) = subst (λ (i : ℕ). AllByRecursion (IsSizeOf m ops) (drop i sizes)) (sym start) was.within in
        let whole : k + (count - k) ≡ count = omega (arith, start, some) in
        let front : take (count - k) (drop k sizes) ≡ drop k (take count sizes) = sym (drop-take k (count - k) sizes) ∙ ap (λ (i : ℕ). drop k (take i sizes)) whole in
        let taken : take count (witnesses_at ops sizes) ≡ witnesses_at ops (take count sizes) = take-map (witness_of s h m ops) count sizes in
        let here : Keeps new (witnesses_at ops (take count sizes)) = subst (Keeps new) taken keeps in
        let rising : Rises (drop k (take count sizes)) =
        subst Rises (ap sizes_of (drop-map (witness_of s h m ops) k (take count sizes)) ∙ sizes_are F s h m ops (drop k (take count sizes))) here.rising in
        let there : slice_get (take count sizes) (count - 1) ≡ Some size = get_before sizes count (count - 1) (omega (arith, some)) ∙ last in
        let long : length (take count sizes) ≡ count = (let in_it = slice_get_within (take count sizes) (count - 1) size there in omega (arith, in_it, some, length-take count sizes)) in
        let ends : slice_get (drop k (take count sizes)) (length (drop k (take count sizes)) - 1) ≡ Some size =
        get_behind (take count sizes) k (length (drop k (take count sizes)) - 1) ∙ ap (slice_get (take count sizes)) (omega (arith, length-drop k (take count sizes), long, start, some)) ∙ there in
        let low : AllByRecursion (λ n. n ≤ size) (drop k (take count sizes)) = all_upto (drop k (take count sizes)) size rising ends in
        let all : AllByRecursion (IsSizeOf m ops) (drop k (take count sizes)) = subst (AllByRecursion (IsSizeOf m ops)) front (all_before (IsSizeOf m ops) (count - k) (drop k sizes) kept) in
        let within : AllByRecursion (IsSizeOf m (take size ops)) (drop k (take count sizes)) = all_both (λ n. n ≤ size) (IsSizeOf m ops) (IsSizeOf m (take size ops)) (drop k (take count sizes)) (size_shorter m ops size) low all in
        let same : drop k (witnesses_at (take size ops) (take count sizes)) ≡ drop k (witnesses_at ops (take count sizes)) =
        drop-map (witness_of s h m (take size ops)) k (take count sizes)
        ∙ sym (same_witnesses (take size ops) (drop size ops) (drop k (take count sizes)) within)
        ∙ ap (λ (os : List Op). witnesses_at os (drop k (take count sizes))) (take-append-drop size ops)
        ∙ sym (drop-map (witness_of s h m ops) k (take count sizes)) in
        record {
          few = (let most = was.few in omega (arith, most, length-take size ops));
          witnesses = keeps_same new (witnesses_at ops (take count sizes)) (witnesses_at (take size ops) (take count sizes))
              (length-map (take count sizes) (witness_of s h m (take size ops)) ∙ sym (length-map (take count sizes) (witness_of s h m ops))) same here;
          within = within;
        }

  -- a log that begins with the witness of a list, behind any others
  pub states_begun : (new : Items (Witness F D)) (ops : List Op) (place : ℕ) (w : Witness F D) → new.log.start ≡ place → EndsWithCommit m ops → length ops ≤ 2 ^ 62
      → w ≡ witness_of s h m ops (length ops) → Keeps new (witnesses_at ops (ones place) ++ (w ∷ [])) → HasStates s h m ops (ones place ++ (length ops ∷ [])) new
  states_begun new ops place w start ends few is keeps =
      let n = length ops in
      let low : place ≤ length (ones place) = omega (arith, length-ones place) in
      let split : witnesses_at ops (ones place) ++ (w ∷ []) ≡ witnesses_at ops (ones place ++ (n ∷ [])) =
      ap (λ (x : Witness F D). witnesses_at ops (ones place) ++ (x ∷ [])) is ∙ sym (map-append (witness_of s h m ops) (ones place) (n ∷ [])) in
      let none : drop place (ones place) ≡ [] = drop_all place (ones place) (omega (arith, length-ones place)) in
      let kept : drop new.log.start (ones place ++ (n ∷ [])) ≡ n ∷ [] =
      ap (λ (k : ℕ). drop k (ones place ++ (n ∷ []))) start ∙ drop-append-le place (ones place) (n ∷ []) low ∙ ap (λ (l : List ℕ). l ++ (n ∷ [])) none in
      record {
        few = few;
        witnesses = subst (Keeps new) split keeps;
        within = subst (AllByRecursion (IsSizeOf m ops)) (sym kept) (size_whole m ops ends, tt);
      }

-- ---- what is selected of them

-- where the sizes within a cap end
abbrev pub end_among : List ℕ → ℕ → Option ℕ → ℕ
end_among sizes start None = length sizes
end_among sizes start (Some c) = start + first_at_least (c + 1) (drop start sizes)

within_cap : (sizes : List ℕ) (start end n : ℕ) (cap : Option ℕ) → end ≡ end_among sizes start cap → start < end → slice_get sizes (end - 1) ≡ Some n → IsCapped cap n
within_cap sizes start end n None place some is = tt
within_cap sizes start end n (Some c) place some is =
    let back : start + (end - 1 - start) ≡ end - 1 = omega (arith, some) in
    let at : slice_get (drop start sizes) (end - 1 - start) ≡ Some n = get_behind sizes start (end - 1 - start) ∙ ap (slice_get sizes) back ∙ is in
    let less = before_first (c + 1) (drop start sizes) (end - 1 - start) n (omega (arith, place, some)) at in
    omega (arith, less)

past_cap : (sizes : List ℕ) (start end : ℕ) (cap : Option ℕ) → Rises (drop start sizes) → end ≡ end_among sizes start cap → start < end
    → (i n : ℕ) → end ≤ i → slice_get sizes i ≡ Some n → IsPast cap n
past_cap sizes start end None rising place some i n le is = let lt = slice_get_within sizes i n is in absurd (omega (arith, place, le, lt))
past_cap sizes start end (Some c) rising place some i n le is =
    let back : start + (i - start) ≡ i = omega (arith, some, le) in
    let at : slice_get (drop start sizes) (i - start) ≡ Some n = get_behind sizes start (i - start) ∙ ap (slice_get sizes) back ∙ is in
    let low = from_first (c + 1) (drop start sizes) (i - start) n rising (omega (arith, place, some, le)) at in
    omega (arith, low)

pub end_is : (F : Type 0) {D Op V : Type 0} (s : Shape) (h : Hashing D) (m : Meaning Op V) (ops : List Op) (sizes : List ℕ) (start : ℕ) (cap : Option ℕ)
    → end_within (map (witness_of {F = F} s h m ops) sizes) start cap ≡ end_among sizes start cap
end_is F s h m ops sizes start None = length-map sizes (witness_of s h m ops)
end_is F s h m ops sizes start (Some c) =
    ap (λ (l : List ℕ). start + first_at_least (c + 1) l) (ap sizes_of (drop-map (witness_of {F = F} s h m ops) start sizes) ∙ sizes_are F s h m ops (drop start sizes))

module _ {F D Op V : Type 0} (s : Shape) (h : Hashing D) (m : Meaning Op V) (ops : List Op) (sizes : List ℕ) (start : ℕ) where
  pub latest_is : (cap : Option ℕ) (end : ℕ) (w : Witness F D) → Rises (drop start sizes) → IsLastWithin (witnesses_at s h m ops sizes) start cap (Some (end, w))
      → (size : ℕ) × IsLatest sizes start cap end size × (w ≡ witness_of s h m ops size)
  latest_is cap end w rising last =
      let some = last.1 in
      let got = got_map (witness_of {F = F} s h m ops) sizes (end - 1) w last.2 in
      let place : end ≡ end_among sizes start cap = last.0 ∙ end_is F s h m ops sizes start cap in (
        got.0,
        record {
          kept = some;
          here = got.1;
          within = within_cap sizes start end got.0 cap place some got.1;
          above = past_cap sizes start end cap rising place some;
        },
        got.2,
      )

  -- the kept sizes rise, as their witnesses do
  pub rising_sizes : (items : Items (Witness F D)) → items.log.start ≡ start → Keeps items (witnesses_at s h m ops sizes) → Rises (drop start sizes)
  rising_sizes items at keeps =
      subst (λ (k : ℕ). Rises (drop k sizes)) at
      (subst Rises (ap sizes_of (drop-map (witness_of s h m ops) items.log.start sizes) ∙ sizes_are F s h m ops (drop items.log.start sizes)) keeps.rising)

-- ---- the front that it is of

-- the last operation of a front
pub last_taken : {Op V : Type 0} (m : Meaning Op V) (size : ℕ) (ops : List Op) → IsSizeOf m ops size → (op : Op)
    → slice_get (take size ops) (length (take size ops) - 1) ≡ Some op → slice_get ops (size - 1) ≡ Some op
last_taken m size ops of op is =
    let le = of.0 in
    let some = size_some m ops size of in
    let count : length (take size ops) ≡ size = omega (arith, le, length-take size ops) in
    sym (get_before ops size (size - 1) (omega (arith, some))) ∙ ap (λ (k : ℕ). slice_get (take size ops) (k - 1)) (sym count) ∙ is

module _ {D Op V : Type 0} (s : Shape) (h : Hashing D) (m : Meaning Op V) (ops : List Op) (sizes : List ℕ) (start count size : ℕ)
    (within : AllByRecursion (IsSizeOf m ops) (drop start sizes)) (some : start < count) (here : slice_get sizes (count - 1) ≡ Some size) where
  pub kept_size : IsSizeOf m ops size
  kept_size =
      let back : start + (count - 1 - start) ≡ count - 1 = omega (arith, some) in
      let at : slice_get (drop start sizes) (count - 1 - start) ≡ Some size = get_behind sizes start (count - 1 - start) ∙ ap (slice_get sizes) back ∙ here in
      all_at (IsSizeOf m ops) (drop start sizes) (count - 1 - start) size within at

  pub front_length : length (take size ops) ≡ size
  front_length = let le = kept_size.0 in omega (arith, le, length-take size ops)

  pub front_ends : EndsWithCommit m (take size ops)
  front_ends = kept_size.1

  pub last_cut : slice_get (take count sizes) (length (take count sizes) - 1) ≡ Some (length (take size ops))
  last_cut =
      let in_it = slice_get_within sizes (count - 1) size here in
      let long : length (take count sizes) - 1 ≡ count - 1 = omega (arith, in_it, some, length-take count sizes) in
      ap (slice_get (take count sizes)) long ∙ get_before sizes count (count - 1) (omega (arith, some)) ∙ here ∙ ap Some (sym front_length)

  pub front_witness : {F : Type 0} → witness_of {F = F} s h m ops size ≡ witness_of s h m (take size ops) (length (take size ops))
  front_witness {F} =
      let le : size ≤ length (take size ops) = omega (arith, front_length) in
      ap (λ (os : List Op). witness_of {F = F} s h m os size) (sym (take-append-drop size ops))
      ∙ longer s h m (take size ops) (drop size ops) size (size_some m ops size kept_size) le
      ∙ ap (witness_of s h m (take size ops)) (sym front_length)
