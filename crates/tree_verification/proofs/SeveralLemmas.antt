-- Rising lists of leaves.
use Rattle.std.proofs.Common.{◌≡◌, ℕ, zero, suc, ◌+◌, ◌<◌, ◌≤◌, Bool, true, false, cond, List, [], ◌∷◌, length, drop, get_or, Ok, Err, refl, sym, ◌∙◌, ap, arith}
use Rattle.std.specs.Prelude.{AllPairs, nat_lt, nat_le, ◌&&◌}
use Rattle.std.specs.List.{list_any}
use Rattle.std.proofs.lemmas.List.{drop_all}
use Rattle.tree_shape.proofs.NodeLemmas.{read-get_or}
use Rattle.std.proofs.lemmas.Bool.Decides.{nat_tests}
use Rattle.std.proofs.lemmas.List.Folds.{list_any_at, list_any_none}
use Rattle.tree_store.specs.declared.error.Error.TheVariants.{UnsortedLocation, DuplicateLocation}
use Rattle.tree_verification.specs.Several.{rising_from, order_answer}

abbrev pub IsRising : List ℕ → Type 0
IsRising ls = AllPairs (λ l m. l < m) ls

rise : (l m : ℕ) (ms : List ℕ) → l < m → IsRising (m ∷ ms) → IsRising (l ∷ (m ∷ ms))
rise l m ms lt r i zero d ij jl = absurd (omega arith)
rise l m ms lt r zero (suc zero) d ij jl = lt
rise l m ms lt r zero (suc (suc j)) d ij jl = let on : m < get_or (m ∷ ms) (suc j) d = r 0 (suc j) d (omega arith) (omega arith) in omega (arith, lt, on)
rise l m ms lt r (suc i) (suc j) d ij jl = r i j d (omega arith) (omega arith)

one : (l : ℕ) → IsRising (l ∷ [])
one l i j d ij jl = absurd (omega arith)

rise_or : {F : Type 0} (l m : ℕ) (ms : List ℕ) → (rising_from {F = F} m ms ≡ Ok tt → IsRising (m ∷ ms)) → (b c : Bool) → nat_lt l m ≡ b
    → cond b (rising_from {F = F} m ms) (cond c (Err (UnsortedLocation m)) (Err (DuplicateLocation m))) ≡ Ok tt → IsRising (l ∷ (m ∷ ms))
rise_or l m ms ih true c t q = let lt : l < m = grind (arith, nat_tests) in rise l m ms lt (ih q)
rise_or l m ms ih false true t q = absurd (cc)
rise_or l m ms ih false false t q = absurd (cc)

-- what passes the test rises
rising : {F : Type 0} (l : ℕ) (ls : List ℕ) → rising_from {F = F} l ls ≡ Ok tt → IsRising (l ∷ ls)
rising l [] e = one l
rising {F = F} l (m ∷ ms) e = rise_or {F = F} l m ms (rising {F = F} m ms) (nat_lt l m) (nat_lt m l) refl e

pub order-rising : {F : Type 0} (ls : List ℕ) → Ok tt ≡ order_answer {F = F} ls → IsRising ls
order-rising [] e = absurd (cc)
order-rising {F = F} (l ∷ ls) e = rising {F = F} l ls (sym e)

pub order-last : {F : Type 0} (ls : List ℕ) (i l : ℕ) → rising_from {F = F} l (drop i ls) ≡ order_answer {F = F} ls → length ls ≤ i → Ok tt ≡ order_answer {F = F} ls
order-last {F = F} ls i l inv le = sym (ap (rising_from {F = F} l) (drop_all i ls le)) ∙ inv

-- ---- finding a leaf among them

module _ (ls : List ℕ) (x mid m : ℕ) where
  pub up-to : IsRising ls → mid < length ls → m ≡ get_or ls mid m → m < x → (k d : ℕ) → k < mid + 1 → get_or ls k d < x
  up-to r lt is below k d kl = at (nat_lt k mid) refl
    where
      here : m ≡ get_or ls mid d
      here = read-get_or ls mid m d lt is

      at : (b : Bool) → nat_lt k mid ≡ b → get_or ls k d < x
      at true t = let past : k < mid = grind (arith, nat_tests) in let on = r k mid d past lt in omega (arith, on, here, below)
      at false t = let same : k ≡ mid = grind (arith, nat_tests) in omega (arith, ap (λ j. get_or ls j d) same, here, below)

  pub from-on : IsRising ls → mid < length ls → m ≡ get_or ls mid m → x ≤ m → (k d : ℕ) → mid ≤ k → k < length ls → x ≤ get_or ls k d
  from-on r lt is past k d km kl = at (nat_lt mid k) refl
    where
      here : m ≡ get_or ls mid d
      here = read-get_or ls mid m d lt is

      at : (b : Bool) → nat_lt mid k ≡ b → x ≤ get_or ls k d
      at true t = let more : mid < k = grind (arith, nat_tests) in let on = r mid k d more kl in omega (arith, on, here, past)
      at false t = let same : mid ≡ k = grind (arith, nat_tests) in omega (arith, ap (λ j. get_or ls j d) same, here, past)

-- ---- one of them between two leaves

abbrev between : ℕ → ℕ → ℕ → Bool
between x e l = nat_le x l && nat_lt l e

module _ (ls : List ℕ) (x e at : ℕ) where
  -- those below x, and the others
  pub record SplitAt : Type 0 where
    pub before : (k d : ℕ) → k < at → get_or ls k d < x
    pub since : (k d : ℕ) → at ≤ k → k < length ls → x ≤ get_or ls k d

  pub holds-here : (l : ℕ) → SplitAt → at < length ls → l ≡ get_or ls at l → l < e → list_any (between x e) ls ≡ true
  holds-here l split lt is below =
      let from : x ≤ get_or ls at l = split.since at l (omega arith) lt in
      let test : between x e (get_or ls at l) ≡ true = let to : get_or ls at l < e = omega (arith, sym is, below) in grind (arith, nat_tests) in
      list_any_at (between x e) ls at l lt test

  pub holds-none : IsRising ls → SplitAt → (at < length ls → (d : ℕ) → e ≤ get_or ls at d) → list_any (between x e) ls ≡ false
  holds-none r split past = list_any_none (between x e) ls (λ k d lt. none k d lt (nat_lt k at) refl)
    where
      none : (k d : ℕ) → k < length ls → (b : Bool) → nat_lt k at ≡ b → between x e (get_or ls k d) ≡ false
      none k d lt true t =
          let below : k < at = grind (arith, nat_tests) in
          let low = split.before k d below in
          grind (arith, nat_tests)
      none k d lt false t =
          let from : at ≤ k = grind (arith, nat_tests) in
          let first : e ≤ get_or ls at d = past (omega (arith, from, lt)) d in
          let high : e ≤ get_or ls k d = later k d lt (nat_lt at k) refl from first in
          grind (arith, nat_tests)
        where
          later : (k d : ℕ) → k < length ls → (b : Bool) → nat_lt at k ≡ b → at ≤ k → e ≤ get_or ls at d → e ≤ get_or ls k d
          later k d lt true t from first = let past : at < k = grind (arith, nat_tests) in let on = r at k d past lt in omega (arith, on, first)
          later k d lt false t from first = let same : at ≡ k = grind (arith, nat_tests) in omega (arith, ap (λ j. get_or ls j d) same, first)

  pub met-then : (l : ℕ) → IsRising ls → SplitAt → at < length ls → l ≡ get_or ls at l → nat_lt l e ≡ list_any (between x e) ls
  met-then l r split lt is = tell (nat_lt l e) refl
    where
      tell : (b : Bool) → nat_lt l e ≡ b → b ≡ list_any (between x e) ls
      tell true t = let below : l < e = grind (arith, nat_tests) in sym (holds-here l split lt is below)
      tell false t =
          let past : e ≤ l = grind (arith, nat_tests) in
          sym (holds-none r split (λ lt d. let here = read-get_or ls at l d lt is in omega (arith, here, past)))

  pub met-else : IsRising ls → SplitAt → length ls ≤ at → nat_lt at (length ls) ≡ list_any (between x e) ls
  met-else r split le =
      let no : nat_lt at (length ls) ≡ false = grind (arith, nat_tests) in
      no ∙ sym (holds-none r split (λ lt d. absurd (omega (arith, lt, le))))
