-- The nodes that are found at peaks.
use Rattle.std.proofs.Common.{◌≡◌, ℕ, ◌+◌, ◌-◌, ◌^◌, ◌<◌, ◌≤◌, inl, inr, Bool, true, false, cond, List, [], ◌∷◌, ◌++◌, length, take, drop, get_or, Some, None, Option, refl, sym, ◌∙◌, ap, arith, length-append, append_assoc}
use Rattle.std.specs.Prelude.{◌||◌, slice_get, ◌==◌}
use Rattle.std.proofs.lemmas.Bool.Decides.{eqb_tells, leb_tells}
use Rattle.std.proofs.lemmas.List.{append-nil, drop_more, take-append-le}
use Rattle.std.proofs.Math.Seq.{drop-append_seam}
use Rattle.tree_shape.specs.Shape.{Shape, made, IsLawful}
use Rattle.tree_core.specs.Pruned.{is_peak_at, pruned}
use Rattle.tree_core.specs.KeptNodes.{entry_at, placed, AreBefore, found_at, peaks_found}
use Rattle.tree_core.specs.Tree.{rests}
use Rattle.tree_core.proofs.KeptNodesLemmas.{entry_here, entry_on, entry_second, low_entry, run_entry, whole_entry, before_joined, dropped-get}
use Rattle.tree_core.proofs.PinnedLemmas.{pins_below}

none_either_way : {D : Type 0} (t : Bool) (o : Option D) → o ≡ None → cond t o None ≡ None
none_either_way true o none = none
none_either_way false o none = refl

or_else : (a b : Bool) → b ≡ true → (a || b) ≡ true
or_else true b e = refl
or_else false b e = e

-- what is found of a node that stands elsewhere
found_apart : {D : Type 0} (q p : ℕ) (o : Option D) → (p ≡ q → ⊥) → entry_at (found_at q o) p ≡ None
found_apart q p None apart = refl
found_apart q p (Some d) apart = entry_on [] (q, d) p apart

-- what is found of a node that stands there
found_same : {D : Type 0} (q p : ℕ) (o u : Option D) (es : List (ℕ × D)) (b : Bool) → q ≡ p → o ≡ u → entry_at es p ≡ cond b u None → entry_at (found_at q o ++ es) p ≡ u
found_same q p (Some d) u es b same is rest = entry_here es (q, d) p (sym same) ∙ is
found_same q p None u es b same is rest = rest ∙ none_either_way b u (sym is) ∙ is

-- at a peak's position stands what is told there, and nothing elsewhere
pub found_entry : {D : Type 0} (s : Shape) (f : ℕ → Option D) (e : ℕ) (hs : List ℕ) (p : ℕ) → entry_at (peaks_found s f e hs) p ≡ cond (is_peak_at s e hs p) (f p) None
found_entry s f e [] p = refl
found_entry s f e (k ∷ ks) p =
    let q = s.position (e - 2 ^ k) k in
    let rest = found_entry s f (e - 2 ^ k) ks p in
    elim (eqb_tells q p) [
      | inl t ↦ rw t.0 (found_same q p (f q) (f p) (peaks_found s f (e - 2 ^ k) ks) (is_peak_at s (e - 2 ^ k) ks p) t.1 (ap f t.1) rest)
      | inr t ↦ rw t.0 (entry_second (found_at q (f q)) (peaks_found s f (e - 2 ^ k) ks) p (found_apart q p (f q) (λ same. t.1 (sym same))) ∙ rest)
    ]

pub found_one : {D : Type 0} (p : ℕ) (o : Option D) → length (found_at p o) ≤ 1
found_one p None = omega arith
found_one p (Some d) = omega arith

pub found_few : {D : Type 0} (s : Shape) (f : ℕ → Option D) (e : ℕ) (hs : List ℕ) → length (peaks_found s f e hs) ≤ length hs
found_few s f e [] = omega arith
found_few s f e (k ∷ ks) =
    let q = s.position (e - 2 ^ k) k in
    let one = found_one q (f q) in
    let rest = found_few s f (e - 2 ^ k) ks in
    omega (arith, one, rest, length-append (found_at q (f q)) (peaks_found s f (e - 2 ^ k) ks))

pub found_before : {D : Type 0} (s : Shape) (f : ℕ → Option D) (e : ℕ) (hs : List ℕ) (first : ℕ) → ((p : ℕ) (d : D) → is_peak_at s e hs p ≡ true → f p ≡ Some d → p < first) → AreBefore first (peaks_found s f e hs)
found_before s f e [] first low = tt
found_before {D = D} s f e (k ∷ ks) first low =
    before_joined (found_at q (f q)) (peaks_found s f (e - 2 ^ k) ks) first (here (f q) refl)
    (found_before s f (e - 2 ^ k) ks first (λ p d peak is. low p d (or_else (q == p) (is_peak_at s (e - 2 ^ k) ks p) peak) is))
  where
    q : ℕ
    q = s.position (e - 2 ^ k) k

    itself : is_peak_at s e (k ∷ ks) q ≡ true
    itself = elim (eqb_tells q q) [
      | inl t ↦ rw t.0 refl
      | inr t ↦ absurd (t.1 refl)
    ]

    here : (o : Option D) → f q ≡ o → AreBefore first (found_at q o)
    here None is = tt
    here (Some d) is = (low q d itself is, tt)

-- the next peak, in turn
pub found_next : {D : Type 0} (s : Shape) (f : ℕ → Option D) (e i k w p : ℕ) (hs : List ℕ) (o : Option D) (es fs all : List (ℕ × D)) → i < length hs → es ++ peaks_found s f e (drop i hs) ≡ all
    → k ≡ get_or hs i 0 → w ≡ 2 ^ k → p ≡ s.position (e - w) k → o ≡ f p → fs ≡ es ++ found_at p o → fs ++ peaks_found s f (e - w) (drop (i + 1) hs) ≡ all
found_next s f e i k w p hs o es fs all lt told high wide place node is =
    let q = s.position (e - 2 ^ k) k in
    let rest = peaks_found s f (e - 2 ^ k) (drop (i + 1) hs) in
    let parts : drop i hs ≡ k ∷ drop (i + 1) hs = drop_more hs i 0 lt ∙ ap (λ j. j ∷ drop (i + 1) hs) (sym high) in
    let at : p ≡ q = place ∙ ap (λ v. s.position (e - v) k) wide in
    let one : fs ≡ es ++ found_at q (f q) = is ∙ ap (λ x. es ++ found_at x o) at ∙ ap (λ x. es ++ found_at q x) (node ∙ ap f at) in
    ap (λ v. fs ++ peaks_found s f (e - v) (drop (i + 1) hs)) wide ∙ ap (λ xs. xs ++ rest) one ∙ append_assoc es (found_at q (f q)) rest
    ∙ sym (ap (λ ns. es ++ peaks_found s f e ns) parts) ∙ told

-- no peak is left
pub found_last : {D : Type 0} (s : Shape) (f : ℕ → Option D) (e : ℕ) (hs : List ℕ) (es all : List (ℕ × D)) → es ++ peaks_found s f e hs ≡ all → hs ≡ [] → es ≡ all
found_last s f e hs es all told none = sym (append-nil es) ∙ sym (ap (λ ns. es ++ peaks_found s f e ns) none) ∙ told

-- ---- what a prune and a rest leave

-- the peaks stand before the position
pub pruned_before : {D : Type 0} (s : Shape) (f : ℕ → Option D) (m : ℕ) → IsLawful s → AreBefore (length (made s m)) (peaks_found s f m (s.heights m))
pruned_before s f m w = found_before s f m (s.heights m) (length (made s m)) (λ p d peak is. elim (leb_tells (length (made s m)) p) [
  | inl t ↦ absurd (let none = pins_below s (made s m) m (s.heights m) p (w.peaks m) t.1 in cc)
  | inr t ↦ omega (arith, t.1)
])

-- a front of the run is let go of, and the peaks are found
pub pruned_entry : {D : Type 0} (s : Shape) (m first gone : ℕ) (pins : List (ℕ × D)) (run : List D) → IsLawful s → AreBefore first pins → first + gone ≡ length (made s m) → (p : ℕ)
    → entry_at (peaks_found s (entry_at (pins ++ placed first run)) m (s.heights m) ++ placed (length (made s m)) (drop gone run)) p ≡ pruned s m (entry_at (pins ++ placed first run)) p
pruned_entry {D = D} s m first gone pins run w before sum p = elim (leb_tells (length (made s m)) p) [
  | inl t ↦
      let le : length (made s m) ≤ p = t.1 in
      let place : gone + (p - length (made s m)) ≡ p - first = omega arith in
      rw t.0 (run_entry found (drop gone run) (length (made s m)) p (pruned_before s f m w) le ∙ dropped-get run gone (p - length (made s m)) ∙ ap (slice_get run) place
      ∙ sym (run_entry pins run first p before (omega arith)))
  | inr t ↦ rw t.0 (low_entry found (drop gone run) (length (made s m)) p (omega (arith, t.1)) ∙ found_entry s f m (s.heights m) p)
]
  where
    f : ℕ → Option D
    f = entry_at (pins ++ placed first run)

    found : List (ℕ × D)
    found = peaks_found s f m (s.heights m)

-- two tables, of which each has what is told where its test says
joined_entry : {D : Type 0} (xs ys : List (ℕ × D)) (p : ℕ) (a b : Bool) (o : Option D) → entry_at xs p ≡ cond a o None → entry_at ys p ≡ cond b o None → entry_at (xs ++ ys) p ≡ cond (a || b) o None
joined_entry xs ys p false b o x y = entry_second xs ys p x ∙ y
joined_entry xs ys p true b None x y = entry_second xs ys p x ∙ y ∙ none_either_way b None refl
joined_entry {D = D} xs ys p true b (Some d) x y = some_first xs p x
  where
    some_first : (es : List (ℕ × D)) (q : ℕ) → entry_at es q ≡ Some d → entry_at (es ++ ys) q ≡ Some d
    some_first [] q is = absurd (cc)
    some_first (e ∷ es) q is = elim (eqb_tells q e.0) [
      | inl t ↦ entry_here (es ++ ys) e q t.1 ∙ sym (entry_here es e q t.1) ∙ is
      | inr t ↦ entry_on (es ++ ys) e q t.1 ∙ some_first es q (sym (entry_on es e q t.1) ∙ is)
    ]

-- the peaks of the leaves and of the boundary are found, and no run is left
pub rested_entry : {D : Type 0} (s : Shape) (n b end : ℕ) (f : ℕ → Option D) (p : ℕ)
    → entry_at ((peaks_found s f n (s.heights n) ++ peaks_found s f b (s.heights b)) ++ placed end []) p ≡ cond (rests s n b p) (f p) None
rested_entry s n b end f p =
    ap (λ es. entry_at es p) (append-nil (peaks_found s f n (s.heights n) ++ peaks_found s f b (s.heights b)))
    ∙ joined_entry (peaks_found s f n (s.heights n)) (peaks_found s f b (s.heights b)) p (is_peak_at s n (s.heights n) p) (is_peak_at s b (s.heights b) p) (f p)
    (found_entry s f n (s.heights n) p) (found_entry s f b (s.heights b) p)

-- and all of them stand before the end
pub rested_before : {D : Type 0} (s : Shape) (n b end : ℕ) (f : ℕ → Option D) → ((p : ℕ) → end ≤ p → f p ≡ None) → AreBefore end (peaks_found s f n (s.heights n) ++ peaks_found s f b (s.heights b))
rested_before {D = D} s n b end f ended =
    before_joined (peaks_found s f n (s.heights n)) (peaks_found s f b (s.heights b)) end
    (found_before s f n (s.heights n) end (λ p d peak is. within p d is))
    (found_before s f b (s.heights b) end (λ p d peak is. within p d is))
  where
    within : (p : ℕ) (d : D) → f p ≡ Some d → p < end
    within p d is = elim (leb_tells end p) [
      | inl t ↦ absurd (let none = ended p t.1 in cc)
      | inr t ↦ omega (arith, t.1)
    ]

-- ---- tables of pins, of which the old ones are let go

-- the table after a prune
pub repinned : {D : Type 0} (s : Shape) (pins : List (ℕ × D)) (run ds : List D) (m first count n : ℕ) (next last : List (ℕ × D)) → ds ≡ run → first ≡ m → count ≡ length pins
    → next ≡ pins ++ peaks_found s (entry_at (take count pins ++ placed first ds)) n (s.heights n) → last ≡ drop count next
    → last ≡ peaks_found s (entry_at (pins ++ placed m run)) n (s.heights n)
repinned s pins run ds m first count n next last d f l pushed dropped =
    let found = peaks_found s (entry_at (pins ++ placed m run)) n (s.heights n) in
    dropped ∙ ap (drop count) (pushed ∙ ap (λ es. pins ++ peaks_found s (entry_at es) n (s.heights n)) (whole_entry pins pins run ds m first count refl d l f))
    ∙ ap (λ i. drop i (pins ++ found)) l ∙ drop-append_seam pins found

-- the table after a rest
pub rerested : {D : Type 0} (s : Shape) (pins : List (ℕ × D)) (run ds es : List D) (m first count n b : ℕ) (next then last : List (ℕ × D)) → ds ≡ run → es ≡ run → first ≡ m → count ≡ length pins
    → next ≡ pins ++ peaks_found s (entry_at (take count pins ++ placed first ds)) n (s.heights n)
    → then ≡ next ++ peaks_found s (entry_at (take count next ++ placed first es)) b (s.heights b) → last ≡ drop count then
    → last ≡ peaks_found s (entry_at (pins ++ placed m run)) n (s.heights n) ++ peaks_found s (entry_at (pins ++ placed m run)) b (s.heights b)
rerested {D = D} s pins run ds es m first count n b next then last d e f l one two dropped =
    dropped ∙ ap (drop count) (two ∙ ap (λ xs. next ++ peaks_found s (entry_at (xs ++ placed first es)) b (s.heights b)) front
    ∙ ap (λ xs. next ++ peaks_found s (entry_at xs) b (s.heights b)) (whole_entry pins pins run es m first count refl e l f)
    ∙ ap (λ xs. xs ++ peaks_found s h b (s.heights b)) start ∙ append_assoc pins (peaks_found s h n (s.heights n)) (peaks_found s h b (s.heights b)))
    ∙ ap (λ i. drop i (pins ++ (peaks_found s h n (s.heights n) ++ peaks_found s h b (s.heights b)))) l ∙ drop-append_seam pins (peaks_found s h n (s.heights n) ++ peaks_found s h b (s.heights b))
  where
    h : ℕ → Option D
    h = entry_at (pins ++ placed m run)

    start : next ≡ pins ++ peaks_found s h n (s.heights n)
    start = one ∙ ap (λ xs. pins ++ peaks_found s (entry_at xs) n (s.heights n)) (whole_entry pins pins run ds m first count refl d l f)

    front : take count next ≡ take count pins
    front = ap (take count) start ∙ take-append-le count pins (peaks_found s h n (s.heights n)) (omega (arith, l))

-- what a prune leaves
pub pruned_at : {D : Type 0} (s : Shape) (m first gone : ℕ) (pins last : List (ℕ × D)) (run tail : List D) → IsLawful s → AreBefore first pins → first + gone ≡ length (made s m)
    → last ≡ peaks_found s (entry_at (pins ++ placed first run)) m (s.heights m) → tail ≡ drop gone run → (p : ℕ)
    → entry_at (last ++ placed (length (made s m)) tail) p ≡ pruned s m (entry_at (pins ++ placed first run)) p
pruned_at s m first gone pins last run tail w before sum table left p =
    ap (λ es. entry_at (es ++ placed (length (made s m)) tail) p) table
    ∙ ap (λ ds. entry_at (peaks_found s (entry_at (pins ++ placed first run)) m (s.heights m) ++ placed (length (made s m)) ds) p) left
    ∙ pruned_entry s m first gone pins run w before sum p

-- what a rest leaves
pub rested_at : {D : Type 0} (s : Shape) (n b end : ℕ) (f : ℕ → Option D) (last : List (ℕ × D)) (tail : List D) → last ≡ peaks_found s f n (s.heights n) ++ peaks_found s f b (s.heights b) → tail ≡ [] → (p : ℕ)
    → entry_at (last ++ placed end tail) p ≡ cond (rests s n b p) (f p) None
rested_at s n b end f last tail table none p =
    ap (λ es. entry_at (es ++ placed end tail) p) table
    ∙ ap (λ ds. entry_at ((peaks_found s f n (s.heights n) ++ peaks_found s f b (s.heights b)) ++ placed end ds) p) none
    ∙ rested_entry s n b end f p
