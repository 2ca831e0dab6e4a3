-- The peaks of a tree, and those that a walk from the oldest on has left.
use Rattle.std.proofs.Common.{◌≡◌, ℕ, zero, suc, ◌+◌, ◌-◌, ◌^◌, ◌<◌, ◌≤◌, List, [], ◌∷◌, ◌++◌, length, reverse, take, drop, get_or, drop-cons, refl, sym, ◌∙◌, ap, subst, arith, append_assoc}
use Rattle.std.specs.Prelude.{All}
use Rattle.std.specs.List.{AllByRecursion}
use Rattle.std.specs.Prelude.{◌==◌, ◌&&◌}
use Rattle.std.specs.Bool.{Decides}
use Rattle.std.proofs.lemmas.Bool.Decides.{Decides-eqb, Decides-and, Decides-or}
use Rattle.std.proofs.lemmas.List.{length-reverse, reverse-append}
use Rattle.tree_shape.specs.Kept.{PeakIn, is_peak}
use Rattle.tree_shape.specs.Shape.{Shape, made, PeaksStand, peaks, peaks_down}
use Rattle.tree_shape.specs.Pins.{base, IsWalk}
use Rattle.tree_shape.proofs.NodeLemmas.{low_height}
use Rattle.tree_shape.proofs.PinLemmas.{length-peaks_down, peaks_down-at, oldest, take-all, base-end, steps_on}

abbrev pub peaks_left : Shape → ℕ → ℕ → List (ℕ × ℕ)
peaks_left s n left = reverse (take left (peaks_down n (s.heights n)))

pub peaks_left-all : (s : Shape) (n : ℕ) → peaks_left s n (length (s.heights n)) ≡ peaks s n
peaks_left-all s n =
    let hs = s.heights n in
    ap reverse (ap (λ i. take i (peaks_down n hs)) (sym (length-peaks_down n hs)) ∙ take-all (peaks_down n hs))

pub all_left : (s : Shape) (n left : ℕ) → left ≡ length (s.heights n) → peaks_left s n left ≡ peaks s n
all_left s n left e = ap (peaks_left s n) e ∙ peaks_left-all s n

pub none_left : (s : Shape) (n left : ℕ) → left ≡ 0 → peaks_left s n left ≡ []
none_left s n left e = ap (peaks_left s n) e

pub peaks_left-next : (s : Shape) (n left : ℕ) → 0 < left → left ≤ length (s.heights n)
    → peaks_left s n left ≡ (base n (s.heights n) left, get_or (s.heights n) (left - 1) 0) ∷ peaks_left s n (left - 1)
peaks_left-next s n zero some le = absurd (omega arith)
peaks_left-next s n (suc i) some le =
    let hs = s.heights n in
    let l = length-peaks_down n hs in
    let one : suc i - 1 ≡ i = omega arith in
    rw one (oldest (peaks_down n hs) i (0, 0) (omega arith) ∙ ap (λ p. p ∷ reverse (take i (peaks_down n hs))) (peaks_down-at n hs i (0, 0) (omega arith)))

-- the next of the peaks that are left, with what later ones need
pub record NextPeak (s : Shape) (n x left later k : ℕ) : Type 0 where
  pub low : k < 63
  pub room : x + 2 ^ k ≤ 2 ^ 62
  pub next : IsWalk s n (x + 2 ^ k) later
  pub are : peaks_left s n left ≡ (x, k) ∷ peaks_left s n later

pub next_of_left : (s : Shape) (n x count i k : ℕ) → PeaksStand s (made s n) n (s.heights n) → IsWalk s n x (count - i) → i < count → k ≡ get_or (s.heights n) (count - 1 - i) 0
    → NextPeak s n x (count - i) (count - (i + 1)) k
next_of_left s n x count i k stand w lt e =
    let one : count - 1 - i ≡ count - i - 1 = omega arith in
    let later : count - i - 1 ≡ count - (i + 1) = omega arith in
    let height : k ≡ get_or (s.heights n) (count - i - 1) 0 = e ∙ ap (λ j. get_or (s.heights n) j 0) one in
    let st = steps_on s n x (count - i) k stand w (λ z. omega arith) height in
    record {
      low = st.low;
      room = st.room;
      next = rw later at st.next;
      are = peaks_left-next s n (count - i) (omega arith) w.within ∙ rw (sym w.at, sym height, later) refl;
    }

pub first_walk : (s : Shape) (n count : ℕ) → PeaksStand s (made s n) n (s.heights n) → n ≤ 2 ^ 62 → count ≡ length (s.heights n) → IsWalk s n 0 (count - 0)
first_walk s n count stand few e =
    let all : count - 0 ≡ length (s.heights n) = omega arith in
    record { few = few; within = omega arith; at = rw all (sym (base-end s (made s n) n (s.heights n) stand)) }

pub length-peaks : (s : Shape) (n : ℕ) → length (peaks s n) ≡ length (s.heights n)
length-peaks s n = length-reverse (peaks_down n (s.heights n)) ∙ length-peaks_down n (s.heights n)

-- ---- what holds of each

pub all-append : {X : Type 0} (P : X → Type 0) (xs ys : List X) → AllByRecursion P xs → AllByRecursion P ys → AllByRecursion P (xs ++ ys)
all-append P [] ys a b = b
all-append P (x ∷ xs) ys a b = (a.0, all-append P xs ys a.1 b)

pub all-reverse : {X : Type 0} (P : X → Type 0) (xs : List X) → AllByRecursion P xs → AllByRecursion P (reverse xs)
all-reverse P [] a = tt
all-reverse P (x ∷ xs) a = subst (AllByRecursion P) (sym (reverse-append (x ∷ []) xs)) (all-append P (reverse xs) (x ∷ []) (all-reverse P xs a.1) (a.0, tt))

-- these nodes end at or below a
abbrev pub EndBy : ℕ → List (ℕ × ℕ) → Type 0
EndBy a ps = AllByRecursion (λ p. p.0 + 2 ^ p.1 ≤ a) ps

-- so they are small, where a is
pub small : (a : ℕ) (ps : List (ℕ × ℕ)) → a ≤ 2 ^ 62 → EndBy a ps → All (λ p. (p.0 + 2 ^ p.1 ≤ 2 ^ 62) × (p.1 < 63)) ps
small a [] few e k d lt = absurd (omega arith)
small a (p ∷ ps) few e zero d lt = let le = e.0 in (omega (arith, le, few), low_height p.1 (2 ^ 62) (omega (arith, le, few)) (omega arith))
small a (p ∷ ps) few e (suc k) d lt = small a ps few e.1 k d (omega arith)

peaks_down-end : (s : Shape) (cs : List (ℕ × ℕ)) (n e : ℕ) (hs : List ℕ) → e ≤ n → PeaksStand s cs e hs → EndBy n (peaks_down e hs)
peaks_down-end s cs n e [] le p = tt
peaks_down-end s cs n e (k ∷ ks) le p = (omega (arith, p.0, le), peaks_down-end s cs n (e - 2 ^ k) ks (omega (arith, le)) p.2)

-- the peaks of a tree end at or below its leaves
pub peaks-end : (s : Shape) (n : ℕ) → PeaksStand s (made s n) n (s.heights n) → EndBy n (peaks s n)
peaks-end s n stand = all-reverse (λ p. p.0 + 2 ^ p.1 ≤ n) (peaks_down n (s.heights n)) (peaks_down-end s (made s n) n n (s.heights n) (omega arith) stand)

-- so the one at a place does
pub end-at : (a i : ℕ) (ps : List (ℕ × ℕ)) (p : ℕ × ℕ) → EndBy a ps → i < length ps → p ≡ get_or ps i p → p.0 + 2 ^ p.1 ≤ a
end-at a i [] p e lt is = absurd (omega arith)
end-at a zero (q ∷ ps) p e lt is = let le = e.0 in subst (λ (c : ℕ × ℕ). c.0 + 2 ^ c.1 ≤ a) (sym is) le
end-at a (suc i) (q ∷ ps) p e lt is = end-at a i ps p e.1 (omega (arith, lt)) is

-- ---- the list of them

-- a walk over a list comes to the item at a place, and has those behind it left
pub next_in : {X : Type 0} (xs : List X) (i : ℕ) (x : X) → i < length xs → x ≡ get_or xs i x → drop i xs ≡ x ∷ drop (i + 1) xs
next_in xs i x lt is =
    let up : suc i ≡ i + 1 = omega arith in
    drop-cons xs i x lt ∙ ap (λ y. y ∷ drop (suc i) xs) (sym is) ∙ ap (λ j. x ∷ drop j xs) up

-- these nodes and the peaks that are left are all
abbrev pub Listed : Shape → ℕ → List (ℕ × ℕ) → ℕ → Type 0
Listed s n nodes left = nodes ++ peaks_left s n left ≡ peaks s n

pub listed_next : (s : Shape) (n : ℕ) (nodes more : List (ℕ × ℕ)) (left later x k : ℕ) → Listed s n nodes left → peaks_left s n left ≡ (x, k) ∷ peaks_left s n later
    → more ≡ nodes ++ ((x, k) ∷ []) → Listed s n more later
listed_next s n nodes more left later x k l are m =
    ap (λ ps. ps ++ peaks_left s n later) m ∙ append_assoc nodes ((x, k) ∷ []) (peaks_left s n later) ∙ ap (λ ps. nodes ++ ps) (sym are) ∙ l

pub listed_all : (s : Shape) (n : ℕ) (nodes : List (ℕ × ℕ)) (left : ℕ) → Listed s n nodes left → left ≡ 0 → nodes ≡ peaks s n
listed_all s n nodes left l z = sym (ap (λ ps. nodes ++ ps) (none_left s n left z) ∙ nothing_behind nodes) ∙ l
  where
    nothing_behind : (ps : List (ℕ × ℕ)) → ps ++ [] ≡ ps
    nothing_behind [] = refl
    nothing_behind (p ∷ ps) = ap (λ qs. p ∷ qs) (nothing_behind ps)

-- ---- whether a node is one

pub peak_decides : (e : ℕ) (hs : List ℕ) (x k : ℕ) → Decides (is_peak e hs x k) (PeakIn e hs x k)
peak_decides e [] x k = (λ no. absurd cc, λ no. absurd no)
peak_decides e (j ∷ js) x k =
    let here = Decides-and (x == e - 2 ^ j) (k == j) (Decides-eqb x (e - 2 ^ j)) (Decides-eqb k j) in
    Decides-or ((x == e - 2 ^ j) && (k == j)) (is_peak (e - 2 ^ j) js x k) here (peak_decides (e - 2 ^ j) js x k)
