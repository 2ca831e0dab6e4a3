-- The peaks one by one, the oldest first.
use Rattle.std.proofs.Common.{◌≡◌, ℕ, zero, suc, ◌+◌, ◌-◌, ◌^◌, ◌<◌, ◌≤◌, List, [], ◌∷◌, length, map, reverse, take, get_or, refl, sym, ◌∙◌, ap, arith}
use Rattle.std.proofs.Math.Seq.{take-suc}
use Rattle.std.proofs.lemmas.List.{reverse-append}
use Rattle.tree_shape.specs.Shape.{Shape, made, PeaksStand, peaks_down}
use Rattle.tree_shape.specs.Pins.{base, pins, pins_left, position_of, IsWalk}
use Rattle.tree_shape.proofs.NodeLemmas.{low_height}

pub base-le : (e : ℕ) (hs : List ℕ) (i : ℕ) → base e hs i ≤ e
base-le e hs zero = omega arith
base-le e [] (suc i) = omega arith
base-le e (k ∷ ks) (suc i) = let h = base-le (e - 2 ^ k) ks i in omega arith

-- each begins where the next ends
pub base-next : (s : Shape) (cs : List (ℕ × ℕ)) (e : ℕ) (hs : List ℕ) (i : ℕ) → PeaksStand s cs e hs → i < length hs
    → base e hs i ≡ base e hs (suc i) + 2 ^ get_or hs i 0
base-next s cs e [] i p lt = absurd (omega arith)
base-next s cs e (k ∷ ks) zero p lt = omega (arith, p.0)
base-next s cs e (k ∷ ks) (suc i) p lt = base-next s cs (e - 2 ^ k) ks i p.2 (omega arith)

-- the oldest begins at 0
pub base-end : (s : Shape) (cs : List (ℕ × ℕ)) (e : ℕ) (hs : List ℕ) → PeaksStand s cs e hs → base e hs (length hs) ≡ 0
base-end s cs e [] p = p
base-end s cs e (k ∷ ks) p = base-end s cs (e - 2 ^ k) ks p.2

pub length-peaks_down : (e : ℕ) (hs : List ℕ) → length (peaks_down e hs) ≡ length hs
length-peaks_down e [] = refl
length-peaks_down e (k ∷ ks) = ap suc (length-peaks_down (e - 2 ^ k) ks)

pub peaks_down-at : (e : ℕ) (hs : List ℕ) (i : ℕ) (d : ℕ × ℕ) → i < length hs → get_or (peaks_down e hs) i d ≡ (base e hs (suc i), get_or hs i 0)
peaks_down-at e [] i d lt = absurd (omega arith)
peaks_down-at e (k ∷ ks) zero d lt = refl
peaks_down-at e (k ∷ ks) (suc i) d lt = peaks_down-at (e - 2 ^ k) ks i d (omega arith)

-- the oldest of those that are left, and the others
pub oldest : {X : Type 0} (xs : List X) (i : ℕ) (d : X) → i < length xs → reverse (take (suc i) xs) ≡ get_or xs i d ∷ reverse (take i xs)
oldest xs i d lt = ap reverse (take-suc xs i d lt) ∙ reverse-append (take i xs) (get_or xs i d ∷ [])

pub pins_left-next : (s : Shape) (n i : ℕ) → i < length (s.heights n)
    → pins_left s n (suc i) ≡ s.position (base n (s.heights n) (suc i)) (get_or (s.heights n) i 0) ∷ pins_left s n i
pins_left-next s n i lt =
    let hs = s.heights n in
    let l = length-peaks_down n hs in
    ap (map (position_of s)) (oldest (peaks_down n hs) i (0, 0) (omega arith)
    ∙ ap (λ p. p ∷ reverse (take i (peaks_down n hs))) (peaks_down-at n hs i (0, 0) lt))

pub take-all : {X : Type 0} (xs : List X) → take (length xs) xs ≡ xs
take-all [] = refl
take-all (x ∷ xs) = ap (λ ys. x ∷ ys) (take-all xs)

-- at first all are left
pub pins_left-all : (s : Shape) (n : ℕ) → pins_left s n (length (s.heights n)) ≡ pins s n
pins_left-all s n =
    let hs = s.heights n in
    ap (λ ps. map (position_of s) (reverse ps)) (ap (λ i. take i (peaks_down n hs)) (sym (length-peaks_down n hs)) ∙ take-all (peaks_down n hs))

-- what a step to the next peak needs and gives
pub record StepsOn (s : Shape) (n start left h : ℕ) : Type 0 where
  pub low : h < 63
  pub room : start + 2 ^ h ≤ 2 ^ 62
  pub next : IsWalk s n (start + 2 ^ h) (left - 1)
  pub gives : pins_left s n left ≡ s.position start h ∷ pins_left s n (left - 1)

steps_from : (s : Shape) (n start i h : ℕ) → PeaksStand s (made s n) n (s.heights n) → IsWalk s n start (suc i) → h ≡ get_or (s.heights n) i 0 → StepsOn s n start (suc i) h
steps_from s n start i h stand w e =
    let hs = s.heights n in
    let lt : i < length hs = omega (arith, w.within) in
    let one : suc i - 1 ≡ i = omega arith in
    let at : base n hs i ≡ start + 2 ^ h = base-next s (made s n) n hs i stand lt ∙ rw (e, w.at) refl in
    let le = base-le n hs i in
    let few = w.few in
    record {
      low = low_height h (2 ^ 62) (omega arith) (omega arith);
      room = omega arith;
      next = record { few = few; within = rw one (omega arith); at = rw one (sym at) };
      gives = rw (one, e, w.at) (pins_left-next s n i lt);
    }

pub steps_on : (s : Shape) (n start left h : ℕ) → PeaksStand s (made s n) n (s.heights n) → IsWalk s n start left → (left ≡ 0 → ⊥) → h ≡ get_or (s.heights n) (left - 1) 0 → StepsOn s n start left h
steps_on s n start zero h stand w nz e = absurd (nz refl)
steps_on s n start (suc i) h stand w nz e = let one : suc i - 1 ≡ i = omega arith in steps_from s n start i h stand w (rw one at e)
