-- The peak over a leaf.
use Rattle.std.proofs.Common.{◌≡◌, ℕ, zero, suc, ◌+◌, ◌-◌, ◌^◌, ◌<◌, List, [], ◌∷◌, length, drop, get_or, reverse, refl, sym, ◌∙◌, ap, subst, arith, add-one, drop-cons}
use Rattle.std.specs.List.{Contains}
use Rattle.std.proofs.lemmas.List.{reverse-append}
use Rattle.std.proofs.lemmas.List.Elements.{Contains-append_left, Contains-append_right}
use Rattle.tree_shape.specs.Shape.{Shape, peaks, peaks_down}

in_reverse_at : {X : Type 0} (xs : List X) (y : X) (k : ℕ) → k < length xs → get_or xs k y ≡ y → Contains (reverse xs) y
in_reverse_at [] y k lt e = absurd (omega (arith, lt))
in_reverse_at (x ∷ xs) y zero lt e =
    subst (λ zs. Contains zs y) (sym (reverse-append (x ∷ []) xs)) (Contains-append_right (reverse xs) (x ∷ []) y (0, omega arith, e))
in_reverse_at (x ∷ xs) y (suc k) lt e =
    subst (λ zs. Contains zs y) (sym (reverse-append (x ∷ []) xs)) (Contains-append_left (reverse xs) (x ∷ []) y (in_reverse_at xs y k (omega (arith, lt)) e))

in_reverse : {X : Type 0} (xs : List X) (y : X) → Contains xs y → Contains (reverse xs) y
in_reverse xs y c = in_reverse_at xs y c.0 c.1 c.2

peaks_next : (e i : ℕ) (hs : List ℕ) → i < length hs → peaks_down e (drop i hs) ≡ (e - 2 ^ get_or hs i 0, get_or hs i 0) ∷ peaks_down (e - 2 ^ get_or hs i 0) (drop (i + 1) hs)
peaks_next e i hs lt = ap (peaks_down e) (drop-cons hs i 0 lt) ∙ rw add-one refl

abbrev pub AreLeft : ℕ → ℕ → ℕ → List ℕ → Type 0
AreLeft n e i hs = (p : ℕ × ℕ) → Contains (peaks_down e (drop i hs)) p → Contains (peaks_down n hs) p

-- the next of the peaks that are left is a peak
pub next_is_peak : (s : Shape) (n e i k end : ℕ) → AreLeft n e i (s.heights n) → i < length (s.heights n) → k ≡ get_or (s.heights n) i 0 → end ≡ e - 2 ^ k → Contains (peaks s n) (end, k)
next_is_peak s n e i k end left lt ek ee =
    let hs = s.heights n in
    let here : Contains ((e - 2 ^ get_or hs i 0, get_or hs i 0) ∷ peaks_down (e - 2 ^ get_or hs i 0) (drop (i + 1) hs)) (end, k) = (0, omega arith, rw (ee, ek) refl) in
    in_reverse (peaks_down n hs) (end, k) (left (end, k) (subst (λ ps. Contains ps (end, k)) (sym (peaks_next e i hs lt)) here))

-- and so are the others
pub left_next : (n e i k end : ℕ) (hs : List ℕ) → AreLeft n e i hs → i < length hs → k ≡ get_or hs i 0 → end ≡ e - 2 ^ k → AreLeft n end (i + 1) hs
left_next n e i k end hs left lt ek ee p c =
    let same : end ≡ e - 2 ^ get_or hs i 0 = rw (ee, ek) refl in
    let later : Contains (peaks_down (e - 2 ^ get_or hs i 0) (drop (i + 1) hs)) p = rw same at c in
    let first : List (ℕ × ℕ) = (e - 2 ^ get_or hs i 0, get_or hs i 0) ∷ [] in
    left p (subst (λ ps. Contains ps p) (sym (peaks_next e i hs lt)) (Contains-append_right first _ p later))
