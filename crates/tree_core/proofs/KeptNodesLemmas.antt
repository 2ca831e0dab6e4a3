-- Nodes with their positions: pins, and a run behind them.
use Rattle.std.proofs.Common.{◌≡◌, ℕ, zero, suc, ◌+◌, ◌-◌, ◌<◌, ◌≤◌, inl, inr, cond, List, [], ◌∷◌, ◌++◌, length, take, drop, get_or, Some, None, refl, sym, ◌∙◌, ap, arith, append_assoc}
use Rattle.std.specs.Prelude.{slice_get}
use Rattle.std.specs.BTreeMap.{is_at}
use Rattle.std.specs.Ordering.{nat_cmp}
use Rattle.std.proofs.lemmas.Bool.Decides.{eqb_tells}
use Rattle.std.proofs.lemmas.List.{take_all}
use Rattle.std.proofs.lemmas.Option.{slice_get_past, slice_get-get_or, slice_get_read, get_or_from_slice_get, same_Some}
use Rattle.tree_core.specs.Pruned.{Extends}
use Rattle.tree_core.specs.KeptNodes.{entry_at, placed, AreBefore}
use Rattle.tree_verification.proofs.KeyLemmas.{key_apart, key_itself}
use Rattle.tree_store.proofs.StoreLemmas.{take-next}

-- ---- an entry of a list, and of two joined

pub entry_here : {D : Type 0} (es : List (ℕ × D)) (e : ℕ × D) (p : ℕ) → p ≡ e.0 → entry_at (e ∷ es) p ≡ Some e.1
entry_here es e p same = ap (λ t. cond t (Some e.1) (entry_at es p)) (ap (is_at (nat_cmp p)) (sym same) ∙ key_itself p)

pub entry_on : {D : Type 0} (es : List (ℕ × D)) (e : ℕ × D) (p : ℕ) → (p ≡ e.0 → ⊥) → entry_at (e ∷ es) p ≡ entry_at es p
entry_on es e p apart = ap (λ t. cond t (Some e.1) (entry_at es p)) (key_apart p e.0 apart)

pub entry_first : {D : Type 0} (xs ys : List (ℕ × D)) (p : ℕ) → entry_at ys p ≡ None → entry_at (xs ++ ys) p ≡ entry_at xs p
entry_first [] ys p none = none
entry_first (x ∷ xs) ys p none = ap (cond (is_at (nat_cmp p) x.0) (Some x.1)) (entry_first xs ys p none)

pub entry_second : {D : Type 0} (xs ys : List (ℕ × D)) (p : ℕ) → entry_at xs p ≡ None → entry_at (xs ++ ys) p ≡ entry_at ys p
entry_second [] ys p none = refl
entry_second (x ∷ xs) ys p none = elim (eqb_tells p x.0) [
  | inl e ↦ absurd (let here = entry_here xs x p e.1 in cc)
  | inr e ↦ entry_on (xs ++ ys) x p e.1 ∙ entry_second xs ys p (sym (entry_on xs x p e.1) ∙ none)
]

pub none_before : {D : Type 0} (es : List (ℕ × D)) (first p : ℕ) → AreBefore first es → first ≤ p → entry_at es p ≡ None
none_before [] first p b le = refl
none_before (e ∷ es) first p b le = entry_on es e p (λ same. let lt = b.0 in omega (arith, same, lt)) ∙ none_before es first p b.1 le

pub none_placed : {D : Type 0} (ds : List D) (first p : ℕ) → p < first → entry_at (placed first ds) p ≡ None
none_placed [] first p lt = refl
none_placed (d ∷ ds) first p lt = entry_on (placed (suc first) ds) (first, d) p (λ same. omega (arith, same)) ∙ none_placed ds (suc first) p (omega arith)

pub placed_at : {D : Type 0} (ds : List D) (first p : ℕ) → first ≤ p → entry_at (placed first ds) p ≡ slice_get ds (p - first)
placed_at [] first p le = refl
placed_at (d ∷ ds) first p le = elim (eqb_tells p first) [
  | inl e ↦ entry_here (placed (suc first) ds) (first, d) p e.1 ∙ (let z : p - first ≡ 0 = omega (arith, e.1) in ap (slice_get (d ∷ ds)) (sym z))
  | inr e ↦
      let more : p - first ≡ suc (p - suc first) = omega (arith, e.1) in
      entry_on (placed (suc first) ds) (first, d) p e.1 ∙ placed_at ds (suc first) p (omega (arith, e.1)) ∙ ap (slice_get (d ∷ ds)) (sym more)
]

pub placed-append : {D : Type 0} (ds es : List D) (first : ℕ) → placed first (ds ++ es) ≡ placed first ds ++ placed (first + length ds) es
placed-append [] es first = let e : first + 0 ≡ first = omega arith in ap (λ n. placed n es) (sym e)
placed-append (d ∷ ds) es first =
    let e : suc first + length ds ≡ first + suc (length ds) = omega arith in
    ap (λ rest. (first, d) ∷ rest) (placed-append ds es (suc first) ∙ ap (λ n. placed (suc first) ds ++ placed n es) e)

-- ---- the first entries, in turn

pub none_yet : {D : Type 0} (es : List (ℕ × D)) (i p : ℕ) (e : ℕ × D) → entry_at (take i es) p ≡ None → slice_get es i ≡ Some e → (e.0 ≡ p → ⊥) → entry_at (take (suc i) es) p ≡ None
none_yet es i p e none g apart =
    ap (λ xs. entry_at xs p) (take-next es i e g) ∙ entry_second (take i es) (e ∷ []) p none ∙ entry_on [] e p (λ same. apart (sym same))

pub found_here : {D : Type 0} (es : List (ℕ × D)) (i j p : ℕ) (e : ℕ × D) → entry_at (take i es) p ≡ None → i < j → slice_get es i ≡ Some e → e.0 ≡ p → entry_at (take j es) p ≡ Some e.1
found_here [] i j p e none lt g same = absurd (cc)
found_here (x ∷ es) i zero p e none lt g same = absurd (omega arith)
found_here (x ∷ es) zero (suc j) p e none lt g same = let q : x ≡ e = same_Some x e g in entry_here (take j es) x p (sym same ∙ ap (λ (y : ℕ × _). y.0) (sym q)) ∙ ap (λ (y : ℕ × _). Some y.1) q
found_here (x ∷ es) (suc i) (suc j) p e none lt g same = elim (eqb_tells p x.0) [
  | inl t ↦ absurd (let here = entry_here (take i es) x p t.1 in cc)
  | inr t ↦ entry_on (take j es) x p t.1 ∙ found_here es i j p e (sym (entry_on (take i es) x p t.1) ∙ none) (omega arith) g same
]

pub none_read : {D : Type 0} (es : List (ℕ × D)) (i p : ℕ) (d : ℕ × D) → entry_at (take i es) p ≡ None → i < length es → ((get_or es i d).0 ≡ p → ⊥) → entry_at (take (suc i) es) p ≡ None
none_read es i p d none less apart = none_yet es i p (get_or es i d) none (slice_get-get_or es i d less) apart

pub found_read : {D : Type 0} (es : List (ℕ × D)) (i j p : ℕ) (d e : ℕ × D) → entry_at (take i es) p ≡ None → i < j → i < length es → (get_or es i d).0 ≡ p → Some (get_or es i e).1 ≡ entry_at (take j es) p
found_read es i j p d e none lt less same =
    let g = slice_get-get_or es i e less in
    let both : get_or es i d ≡ get_or es i e = get_or_from_slice_get es i (get_or es i e) d g in
    sym (found_here es i j p (get_or es i e) none lt g (ap (λ (q : ℕ × _). q.0) (sym both) ∙ same))

-- ---- pins, then a run

pub low_entry : {D : Type 0} (pins : List (ℕ × D)) (run : List D) (first p : ℕ) → p < first → entry_at (pins ++ placed first run) p ≡ entry_at pins p
low_entry pins run first p lt = entry_first pins (placed first run) p (none_placed run first p lt)

pub run_entry : {D : Type 0} (pins : List (ℕ × D)) (run : List D) (first p : ℕ) → AreBefore first pins → first ≤ p → entry_at (pins ++ placed first run) p ≡ slice_get run (p - first)
run_entry pins run first p b le = entry_second pins (placed first run) p (none_before pins first p b le) ∙ placed_at run first p le

pub run_at : {D : Type 0} (pins : List (ℕ × D)) (run : List D) (first i : ℕ) → AreBefore first pins → entry_at (pins ++ placed first run) (first + i) ≡ slice_get run i
run_at pins run first i b =
    let q : first + i - first ≡ i = omega arith in
    run_entry pins run first (first + i) b (omega arith) ∙ ap (slice_get run) q

pub run_read : {D : Type 0} (pins : List (ℕ × D)) (run : List D) (first p : ℕ) (d : D) → AreBefore first pins → first ≤ p → p - first < length run → d ≡ get_or run (p - first) d
    → Some d ≡ entry_at (pins ++ placed first run) p
run_read pins run first p d b le lt is = sym (run_entry pins run first p b le ∙ slice_get_read run (length run) (p - first) d refl lt is)

pub run_past : {D : Type 0} (pins : List (ℕ × D)) (run : List D) (first p : ℕ) → AreBefore first pins → first ≤ p → length run ≤ p - first → entry_at (pins ++ placed first run) p ≡ None
run_past pins run first p b le past = run_entry pins run first p b le ∙ slice_get_past run (p - first) past

-- of all pins that there are
pub whole_before : {D : Type 0} (pins es : List (ℕ × D)) (m first count : ℕ) → es ≡ pins → count ≡ length pins → first ≡ m → AreBefore m pins → AreBefore first (take count es)
whole_before pins es m first count e l f b =
    let all : take count es ≡ pins = ap (take count) e ∙ take_all count pins (omega (arith, l)) in
    rw (all, f) b

pub whole_entry : {D : Type 0} (pins es : List (ℕ × D)) (run ds : List D) (m first count : ℕ) → es ≡ pins → ds ≡ run → count ≡ length pins → first ≡ m
    → take count es ++ placed first ds ≡ pins ++ placed m run
whole_entry pins es run ds m first count e d l f =
    let all : take count es ≡ pins = ap (take count) e ∙ take_all count pins (omega (arith, l)) in
    ap (λ xs. xs ++ placed first ds) all ∙ ap (λ xs. pins ++ placed first xs) d ∙ ap (λ n. pins ++ placed n run) f

-- more of them behind the run
pub run_grown : {D : Type 0} (pins : List (ℕ × D)) (run more : List D) (first end : ℕ) → first + length run ≡ end → pins ++ placed first (run ++ more) ≡ (pins ++ placed first run) ++ placed end more
run_grown pins run more first end l =
    ap (λ es. pins ++ es) (placed-append run more first ∙ ap (λ n. placed first run ++ placed n more) l) ∙ sym (append_assoc pins (placed first run) (placed end more))

-- where all that is there stands before the end
pub extends_placed : {D : Type 0} (end : ℕ) (es fs : List (ℕ × D)) (more : List D) → ((p : ℕ) → end ≤ p → entry_at es p ≡ None) → fs ≡ es ++ placed end more → Extends (entry_at es) (entry_at fs) end more
extends_placed end es fs more none e = record {
  before = λ p lt. ap (λ xs. entry_at xs p) e ∙ entry_first es (placed end more) p (none_placed more end p lt);
  since = λ i.
      let q : end + i - end ≡ i = omega arith in
      ap (λ xs. entry_at xs (end + i)) e ∙ entry_second es (placed end more) (end + i) (none (end + i) (omega arith)) ∙ placed_at more end (end + i) (omega arith) ∙ ap (slice_get more) q;
}

pub before_joined : {D : Type 0} (xs ys : List (ℕ × D)) (first : ℕ) → AreBefore first xs → AreBefore first ys → AreBefore first (xs ++ ys)
before_joined [] ys first a b = b
before_joined (x ∷ xs) ys first a b = (a.0, before_joined xs ys first a.1 b)

-- what stands behind the first is what is left of them
pub dropped-get : {X : Type 0} (xs : List X) (n i : ℕ) → slice_get (drop n xs) i ≡ slice_get xs (n + i)
dropped-get xs zero i = let e : 0 + i ≡ i = omega arith in ap (slice_get xs) (sym e)
dropped-get [] (suc n) i = refl
dropped-get (x ∷ xs) (suc n) i = let e : suc n + i ≡ suc (n + i) = omega arith in dropped-get xs n i ∙ ap (slice_get (x ∷ xs)) (sym e)
