-- Peaks read one by one, and folded.
use Rattle.std.proofs.Common.{◌≡◌, ℕ, zero, suc, ◌+◌, ◌-◌, ◌^◌, ◌<◌, ◌≤◌, List, [], ◌∷◌, length, take, drop, get_or, Some, Option, refl, sym, ◌∙◌, ap, arith, inl, inr, drop-cons}
use Rattle.std.proofs.lemmas.Option.{same_Some}
use Rattle.tree_shape.specs.Hashing.{Hashing, fold_input}
use Rattle.tree_shape.specs.Shape.{Shape, made, IsLawful}
use Rattle.tree_shape.specs.Kept.{PeakIn, PeakOf}
use Rattle.tree_shape.specs.Pins.{base}
use Rattle.tree_shape.specs.declared.bagging.Bagging.{Bagging}
use Rattle.tree_shape.specs.declared.bagging.Bagging.TheVariants.{ForwardFold, BackwardFold}
use Rattle.tree_shape.specs.Root.{fold_forward, fold_backward, folded_bytes}
use Rattle.tree_shape.proofs.NodeLemmas.{low_height}
use Rattle.tree_shape.proofs.PinLemmas.{base-le, base-next, base-end}
use Rattle.tree_core.specs.Reading.{ArePeaks}

pub in_peaks : (e : ℕ) (hs : List ℕ) (i : ℕ) → i < length hs → PeakIn e hs (base e hs (suc i)) (get_or hs i 0)
in_peaks e [] i lt = absurd (omega arith)
in_peaks e (k ∷ ks) zero lt = inl (refl, refl)
in_peaks e (k ∷ ks) (suc i) lt = inr (in_peaks (e - 2 ^ k) ks i (omega arith))

-- the i-th newest peak, from its first leaf
pub record StepsUp (s : Shape) (n i start h : ℕ) : Type 0 where
  pub low : h < 63
  pub room : start + 2 ^ h ≤ 2 ^ 62
  pub peak : PeakOf s n start h
  pub at : start + 2 ^ h ≡ base n (s.heights n) i

pub steps_up : (s : Shape) (n i start h : ℕ) → IsLawful s → n ≤ 2 ^ 62 → i < length (s.heights n) → start ≡ base n (s.heights n) (suc i) → h ≡ get_or (s.heights n) i 0 → StepsUp s n i start h
steps_up s n i start h w few lt e eh =
    let hs = s.heights n in
    let at : start + 2 ^ h ≡ base n hs i = rw (e, eh) (sym (base-next s (made s n) n hs i (w.peaks n) lt)) in
    let le = base-le n hs i in
    record {
      low = low_height h (2 ^ 62) (omega arith) (omega arith);
      room = omega arith;
      peak = rw (e, eh) (in_peaks n hs i lt);
      at = at;
    }

-- and from its end
pub record StepsDown (s : Shape) (n i end h : ℕ) : Type 0 where
  pub low : h < 63
  pub fits : 2 ^ h ≤ end
  pub room : end - 2 ^ h + 2 ^ h ≤ 2 ^ 62
  pub peak : PeakOf s n (end - 2 ^ h) h
  pub at : end - 2 ^ h ≡ base n (s.heights n) (suc i)

pub steps_down : (s : Shape) (n i end h : ℕ) → IsLawful s → n ≤ 2 ^ 62 → i < length (s.heights n) → end ≡ base n (s.heights n) i → h ≡ get_or (s.heights n) i 0 → StepsDown s n i end h
steps_down s n i end h w few lt e eh =
    let hs = s.heights n in
    let two : 2 ^ h ≡ 2 ^ get_or hs i 0 = ap (λ k. 2 ^ k) eh in
    let next = base-next s (made s n) n hs i (w.peaks n) lt in
    let at : end - 2 ^ h ≡ base n hs (suc i) = omega arith in
    let le = base-le n hs i in
    record {
      low = low_height h (2 ^ 62) (omega arith) (omega arith);
      fits = omega arith;
      room = omega arith;
      peak = rw (at, eh) (in_peaks n hs i lt);
      at = at;
    }

-- the oldest begins at 0
pub oldest_at : (s : Shape) (n m : ℕ) → IsLawful s → m ≡ length (s.heights n) → 0 ≡ base n (s.heights n) m
oldest_at s n m w e = rw e (sym (base-end s (made s n) n (s.heights n) (w.peaks n)))

-- what is read of peak i is entry j
pub read_is : {D : Type 0} (s : Shape) (n : ℕ) (t : ℕ → ℕ → Option D) (ds : List D) (i j x h : ℕ) (a d : D) → ArePeaks s n t ds → i < length (s.heights n) → i + j + 1 ≡ length (s.heights n)
    → x ≡ base n (s.heights n) (suc i) → h ≡ get_or (s.heights n) i 0 → Some a ≡ t x h → a ≡ get_or ds j d
read_is s n t ds i j x h a d p lt e ex eh r =
    let one : length (s.heights n) - j ≡ suc i = omega arith in
    let two : length (s.heights n) - 1 - j ≡ i = omega arith in
    let told = p.told j d (omega arith) in
    let told' = rw (one, two) at told in
    same_Some a (get_or ds j d) (r ∙ rw (ex, eh) told')

-- one more from the left
pub first_step : {D : Type 0} (h : Hashing D) (acc d : D) (ds : List D) (first j : ℕ) (a : D) → 1 ≤ j → j < first → first ≤ length ds + 1 → a ≡ get_or (d ∷ ds) j d
    → fold_forward h (h.digest (fold_input h acc a)) (take (first - (j + 1)) (drop (j + 1 - 1) ds)) ≡ fold_forward h acc (take (first - j) (drop (j - 1) ds))
first_step h acc d ds first zero a one lt le e = absurd (omega arith)
first_step {D = D} h acc d ds first (suc j) a one lt le e =
    let p : suc j - 1 ≡ j = omega arith in
    let q : suc j + 1 - 1 ≡ suc j = omega arith in
    let r : first - suc j ≡ suc (first - (suc j + 1)) = omega arith in
    let cons : drop j ds ≡ get_or ds j d ∷ drop (suc j) ds = drop-cons ds j d (omega arith) in
    rw (p, q, r, cons, e) refl

-- one more from the right
pub last_step : {D : Type 0} (h : Hashing D) (acc a d0 : D) (ds es : List D) (d : D) (j : ℕ) → j < length ds → a ≡ get_or ds j d0 → drop j ds ≡ d ∷ es
    → ((fs : List D) (f : D) → drop (suc j) ds ≡ f ∷ fs → acc ≡ fold_backward h f fs) → suc j < length ds → h.digest (fold_input h a acc) ≡ fold_backward h d es
last_step {D = D} h acc a d0 ds es d j lt e at before more =
    let cons : drop j ds ≡ get_or ds j d0 ∷ drop (suc j) ds = drop-cons ds j d0 lt in
    let next : drop (suc j) ds ≡ get_or ds (suc j) d0 ∷ drop (suc (suc j)) ds = drop-cons ds (suc j) d0 more in
    let both : get_or ds j d0 ∷ drop (suc j) ds ≡ d ∷ es = sym cons ∙ at in
    let head : get_or ds j d0 ≡ d = cc in
    let tail : drop (suc j) ds ≡ es = cc in
    let is = before (drop (suc (suc j)) ds) (get_or ds (suc j) d0) next in
    let es_is : es ≡ get_or ds (suc j) d0 ∷ drop (suc (suc j)) ds = sym tail ∙ next in
    rw (es_is, e, head, is) refl

forward_joined : {D : Type 0} (h : Hashing D) (d : D) (ds : List D) (k : ℕ) → fold_forward h (fold_forward h d (take k ds)) (drop k ds) ≡ fold_forward h d ds
forward_joined h d ds zero = refl
forward_joined h d [] (suc k) = refl
forward_joined h d (e ∷ ds) (suc k) = forward_joined h (h.digest (fold_input h d e)) ds k

take_all : {X : Type 0} (xs : List X) (n : ℕ) → length xs ≤ n → take n xs ≡ xs
take_all [] zero le = refl
take_all [] (suc n) le = refl
take_all (x ∷ xs) zero le = absurd (omega arith)
take_all (x ∷ xs) (suc n) le = ap (λ ys. x ∷ ys) (take_all xs n (omega arith))

drop_past : {X : Type 0} (xs : List X) (i : ℕ) → length xs ≤ i → drop i xs ≡ []
drop_past [] zero le = refl
drop_past [] (suc i) le = refl
drop_past (x ∷ xs) zero le = absurd (omega arith)
drop_past (x ∷ xs) (suc i) le = drop_past xs i (omega arith)

-- the newest alone
pub last_one : {D : Type 0} (h : Hashing D) (a : D) (ds es : List D) (d : D) (j : ℕ) → suc j ≡ length ds → drop j ds ≡ d ∷ es → a ≡ get_or ds j d → a ≡ fold_backward h d es
last_one {D = D} h a ds es d j l at e =
    let cons : drop j ds ≡ get_or ds j d ∷ drop (suc j) ds = drop-cons ds j d (omega arith) in
    let none : drop (suc j) ds ≡ [] = drop_past ds (suc j) (omega arith) in
    let both : get_or ds j d ∷ drop (suc j) ds ≡ d ∷ es = sym cons ∙ at in
    let head : get_or ds j d ≡ d = cc in
    let empty : es ≡ [] = cc in
    rw empty (e ∙ head)

-- from the left, how many are inactive makes no difference
pub forward_bytes : {D : Type 0} (s : Shape) (n : ℕ) (t : ℕ → ℕ → Option D) (h : Hashing D) (b : Bagging) (k count : ℕ) (ds : List D) (r : D) → b ≡ ForwardFold → 0 < length (s.heights n) → count ≡ length (s.heights n) → ArePeaks s n t ds
    → ((d : D) (es : List D) → ArePeaks s n t (d ∷ es) → r ≡ fold_forward h d (take (count - 1) es)) → h.bytes r ≡ folded_bytes h b k ds
forward_bytes s n t h b k count [] r eb some ec p told = absurd (let l = p.counted in omega (arith, l))
forward_bytes s n t h b zero count (d ∷ es) r eb some ec p told =
    let l = p.counted in
    rw eb (ap h.bytes (told d es p ∙ ap (fold_forward h d) (take_all es (count - 1) (omega (arith, l)))))
forward_bytes s n t h b (suc k) count (d ∷ es) r eb some ec p told =
    let l = p.counted in
    rw eb (ap h.bytes (told d es p ∙ ap (fold_forward h d) (take_all es (count - 1) (omega (arith, l))) ∙ sym (forward_joined h d es k)))

-- from the right, none of them inactive
pub backward_bytes : {D : Type 0} (s : Shape) (n : ℕ) (t : ℕ → ℕ → Option D) (h : Hashing D) (b : Bagging) (k : ℕ) (ds : List D) (r : D) → b ≡ BackwardFold → 0 < length (s.heights n) → k ≡ 0 → ArePeaks s n t ds
    → ((ds es : List D) (d : D) → ArePeaks s n t ds → drop 0 ds ≡ d ∷ es → r ≡ fold_backward h d es) → h.bytes r ≡ folded_bytes h b k ds
backward_bytes s n t h b k [] r eb some ek p told = absurd (let l = p.counted in omega (arith, l))
backward_bytes s n t h b k (d ∷ es) r eb some ek p told = rw (ek, eb) (ap h.bytes (told (d ∷ es) es d p refl))

-- all of them
pub joined_bytes : {D : Type 0} (s : Shape) (n : ℕ) (t : ℕ → ℕ → Option D) (h : Hashing D) (b : Bagging) (k : ℕ) (ds : List D) (r : D) → b ≡ BackwardFold → 0 < length (s.heights n) → k ≡ length (s.heights n) → ArePeaks s n t ds
    → ((d : D) (es : List D) → ArePeaks s n t (d ∷ es) → r ≡ fold_forward h d (take (k - 1) es)) → h.bytes r ≡ folded_bytes h b k ds
joined_bytes s n t h b k [] r eb some ek p told = absurd (let l = p.counted in omega (arith, l))
joined_bytes s n t h b zero (d ∷ es) r eb some ek p told = absurd (omega (arith, ek))
joined_bytes s n t h b (suc k) (d ∷ es) r eb some ek p told =
    let l = p.counted in
    let one : suc k - 1 ≡ k = omega arith in
    let none : drop k es ≡ [] = drop_past es k (omega (arith, l)) in
    let is = rw one at (told d es p) in
    rw eb (ap h.bytes (is ∙ sym (ap (fold_backward h (fold_forward h d (take k es))) none)))

-- some of them
pub mixed_bytes : {D : Type 0} (s : Shape) (n : ℕ) (t : ℕ → ℕ → Option D) (h : Hashing D) (b : Bagging) (k : ℕ) (ds : List D) (j r : D) → b ≡ BackwardFold → 0 < k → k < length (s.heights n) → ArePeaks s n t ds
    → ((d : D) (es : List D) → ArePeaks s n t (d ∷ es) → j ≡ fold_forward h d (take (k - 1) es))
    → ((ds es : List D) (d : D) → ArePeaks s n t ds → drop k ds ≡ d ∷ es → r ≡ fold_backward h d es) → h.bytes (h.digest (fold_input h j r)) ≡ folded_bytes h b k ds
mixed_bytes s n t h b k [] j r eb some more p first last = absurd (let l = p.counted in omega (arith, l))
mixed_bytes s n t h b zero (d ∷ es) j r eb some more p first last = absurd (omega arith)
mixed_bytes s n t h b (suc k) (d ∷ es) j r eb some more p first last =
    let l = p.counted in
    let one : suc k - 1 ≡ k = omega arith in
    let ej = rw one at (first d es p) in
    let cons : drop k es ≡ get_or es k d ∷ drop (suc k) es = drop-cons es k d (omega (arith, l)) in
    let er = last (d ∷ es) (drop (suc k) es) (get_or es k d) p cons in
    rw eb (ap h.bytes (rw (ej, er) refl ∙ sym (ap (fold_backward h (fold_forward h d (take k es))) cons)))

-- no leaves have no peaks
pub no_peaks : {D : Type 0} (h : Hashing D) (b : Bagging) (k : ℕ) (ds : List D) → length ds ≡ 0 → folded_bytes h b k ds ≡ []
no_peaks h b k [] l = refl
no_peaks h b k (d ∷ ds) l = absurd (omega (arith, l))
