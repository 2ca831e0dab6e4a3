-- The peaks of the first leaves of a list hash to the nodes of a cover left of what stands behind these leaves.
use Rattle.std.proofs.Common.{◌≡◌, ◌⊎◌, ℕ, zero, suc, ◌+◌, ◌-◌, ◌*◌, ◌^◌, ◌<◌, ◌≤◌, inl, inr, Bool, true, false, cond, List, [], ◌∷◌, ◌++◌, length, map, take, get_or, Some, refl, sym, ◌∙◌, ap, subst, arith}
use Rattle.std.specs.Prelude.{not, ◌&&◌, ◌||◌, ◌==◌}
use Rattle.std.specs.List.{AllByRecursion}
use Rattle.std.specs.Option.{option_and_then}
use Rattle.std.proofs.Math.Nat.{pow-suc}
use Rattle.std.proofs.lemmas.Bool.{cases_lt}
use Rattle.std.proofs.lemmas.Bool.Decides.{eqb_tells}
use Rattle.std.proofs.lemmas.List.{take-map}
use Rattle.std.proofs.lemmas.Nat.{pow_pos}
use Rattle.std.proofs.lemmas.Option.{slice_get_within}
use Rattle.tree_shape.specs.Hashing.{Hashing}
use Rattle.tree_shape.specs.Shape.{Shape, made, Stands, PeaksStand, peaks, peaks_down, IsLawful}
use Rattle.tree_shape.specs.Slow.{leaf, node_of}
use Rattle.tree_shape.specs.Kept.{PeakOf, PeakIn, IsPeakOrLater, KeepsPeaks}
use Rattle.tree_shape.specs.Needed.{IsNeeded}
use Rattle.tree_shape.specs.Pins.{base}
use Rattle.tree_shape.specs.Places.{get-behind}
use Rattle.tree_shape.proofs.NodeLemmas.{length-peaks}
use Rattle.tree_shape.proofs.NeededLemmas.{leaf_position, made_le, needed, late_halves}
use Rattle.tree_shape.proofs.PinLemmas.{base-next, base-end}
use Rattle.tree_proof.specs.declared.proof.Proof.{Proof}
use Rattle.tree_proof.specs.Cover.{Opened, meets, cover_in, cover_over, cover}
use Rattle.tree_proof.specs.Check.{next_of, joined_by, rebuilt, before, rebuilt_over, all_used, wholly_rebuilt}
use Rattle.tree_proof.specs.Pinned.{above_pins, left_of, HasPins}
use Rattle.tree_shape.specs.Kept.{is_peak}
use Rattle.tree_proof.proofs.Complete.{wholly_rebuilt-cover}
use Rattle.tree_proof.proofs.RebuildLemmas.{append_nil}
use Rattle.tree_proof.proofs.LeftLemmas.{left_in, left-here, left-none, left-both, left_over, left-cover}
use Rattle.tree_proof.proofs.Rises.{cover-rises, left-leads}
use Rattle.tree_shape.proofs.PeakLemmas.{peaks_left, peaks_left-next, peaks_left-all, all-append, all-reverse}

-- ---- nodes one behind another without a gap

abbrev Tiles : ℕ → ℕ → List (ℕ × ℕ) → Type 0
Tiles e f [] = e ≡ f
Tiles e f (p ∷ ps) = (p.0 ≡ e) × Tiles (e + 2 ^ p.1) f ps

tiles-append : (e f g : ℕ) (ps qs : List (ℕ × ℕ)) → Tiles e f ps → Tiles f g qs → Tiles e g (ps ++ qs)
tiles-append e f g [] qs t u = subst (λ x. Tiles x g qs) (sym t) u
tiles-append e f g (p ∷ ps) qs t u = (t.0, tiles-append (e + 2 ^ p.1) f g ps qs t.1 u)

tiles-rise : (e f : ℕ) (ps : List (ℕ × ℕ)) → Tiles e f ps → e ≤ f
tiles-rise e f [] t = omega (arith, t)
tiles-rise e f (p ∷ ps) t = let r = tiles-rise (e + 2 ^ p.1) f ps t.1 in omega (arith, r)

-- ---- peaks

abbrev IsPin : ℕ → List ℕ → ℕ × ℕ → Type 0
IsPin e hs p = is_peak e hs p.0 p.1 ≡ true

here-or : (x k e j : ℕ) (b : Bool) → ((x == e) && (k == j)) || b ≡ true → ((x ≡ e) × (k ≡ j)) ⊎ (b ≡ true)
here-or x k e j b t = elim (eqb_tells x e) [
  | inl p ↦ elim (eqb_tells k j) [
    | inl q ↦ inl (p.1, q.1)
    | inr q ↦ inr (rw (p.0, q.0) at t)
  ]
  | inr p ↦ inr (rw p.0 at t)
]

is-here : (x k e j : ℕ) (b : Bool) → x ≡ e → k ≡ j → ((x == e) && (k == j)) || b ≡ true
is-here x k e j b p q = elim (eqb_tells x e) [
  | inl r ↦ elim (eqb_tells k j) [
    | inl t ↦ rw (r.0, t.0) refl
    | inr t ↦ absurd (t.1 q)
  ]
  | inr r ↦ absurd (r.1 p)
]

is-later : (c b : Bool) → b ≡ true → c || b ≡ true
is-later true b t = refl
is-later false b t = t

-- a peak ends by the end of the peaks
peak-ends : (s : Shape) (cs : List (ℕ × ℕ)) (e : ℕ) (hs : List ℕ) (x k : ℕ) → PeaksStand s cs e hs → is_peak e hs x k ≡ true → x + 2 ^ k ≤ e
peak-ends s cs e [] x k st t = absurd (cc)
peak-ends s cs e (j ∷ js) x k st t = elim (here-or x k (e - 2 ^ j) j (is_peak (e - 2 ^ j) js x k) t) [
  | inl p ↦ let le = st.0 in let same : 2 ^ k ≡ 2 ^ j = ap (λ i. 2 ^ i) p.1 in omega (arith, p.0, le, same)
  | inr r ↦ let below = peak-ends s cs (e - 2 ^ j) js x k st.2 r in omega (arith, below)
]

-- and one begins at a leaf
one-peak : (s : Shape) (cs : List (ℕ × ℕ)) (e : ℕ) (hs : List ℕ) (x k l : ℕ) → PeaksStand s cs e hs → is_peak e hs x k ≡ true → is_peak e hs x l ≡ true → k ≡ l
one-peak s cs e [] x k l st t u = absurd (cc)
one-peak s cs e (j ∷ js) x k l st t u = elim (here-or x k (e - 2 ^ j) j (is_peak (e - 2 ^ j) js x k) t) [
  | inl p ↦ elim (here-or x l (e - 2 ^ j) j (is_peak (e - 2 ^ j) js x l) u) [
    | inl q ↦ p.1 ∙ sym q.1
    | inr r ↦ absurd (let below = peak-ends s cs (e - 2 ^ j) js x l st.2 r in omega (arith, below, p.0, pow_pos l))
  ]
  | inr r ↦ elim (here-or x l (e - 2 ^ j) j (is_peak (e - 2 ^ j) js x l) u) [
    | inl q ↦ absurd (let below = peak-ends s cs (e - 2 ^ j) js x k st.2 r in omega (arith, below, q.0, pow_pos k))
    | inr v ↦ one-peak s cs (e - 2 ^ j) js x k l st.2 r v
  ]
]

peak-tells : (e : ℕ) (hs : List ℕ) (x k : ℕ) → PeakIn e hs x k → is_peak e hs x k ≡ true
peak-tells e [] x k p = absurd p
peak-tells e (j ∷ js) x k (inl p) = is-here x k (e - 2 ^ j) j (is_peak (e - 2 ^ j) js x k) p.0 p.1
peak-tells e (j ∷ js) x k (inr r) = is-later ((x == e - 2 ^ j) && (k == j)) (is_peak (e - 2 ^ j) js x k) (peak-tells (e - 2 ^ j) js x k r)

pair-path : {A B : Type 0} (p q : A × B) → p.0 ≡ q.0 → p.1 ≡ q.1 → p ≡ q
pair-path (a, b) (c, d) e f = λ i. (e i, f i)

-- two runs of peaks over the same leaves are one
one-tiling : (s : Shape) (cs : List (ℕ × ℕ)) (a : ℕ) (hs : List ℕ) → PeaksStand s cs a hs → (e f : ℕ) (ps qs : List (ℕ × ℕ)) → Tiles e f ps → Tiles e f qs → AllByRecursion (IsPin a hs) ps → AllByRecursion (IsPin a hs) qs → ps ≡ qs
one-tiling s cs a hs st e f [] [] t u i j = refl
one-tiling s cs a hs st e f [] (q ∷ qs) t u i j = absurd (let r = tiles-rise (e + 2 ^ q.1) f qs u.1 in omega (arith, t, r, pow_pos q.1))
one-tiling s cs a hs st e f (p ∷ ps) [] t u i j = absurd (let r = tiles-rise (e + 2 ^ p.1) f ps t.1 in omega (arith, u, r, pow_pos p.1))
one-tiling s cs a hs st e f (p ∷ ps) (q ∷ qs) t u i j =
    let first : p.0 ≡ q.0 = t.0 ∙ sym u.0 in
    let height : p.1 ≡ q.1 = one-peak s cs a hs q.0 p.1 q.1 st (ap (λ x. is_peak a hs x p.1) (sym first) ∙ i.0) j.0 in
    let rest = one-tiling s cs a hs st (e + 2 ^ q.1) f ps qs (subst (λ k. Tiles (e + 2 ^ k) f ps) height t.1) u.1 i.1 j.1 in
    ap (λ r. r ∷ ps) (pair-path p q first height) ∙ ap (λ rs. q ∷ rs) rest

-- the peaks of a tree are such a run
peaks-tile : (s : Shape) (a left : ℕ) → PeaksStand s (made s a) a (s.heights a) → left ≤ length (s.heights a) → Tiles (base a (s.heights a) left) a (peaks_left s a left)
peaks-tile s a zero st le = refl
peaks-tile s a (suc i) st le =
    let hs = s.heights a in
    let one : suc i - 1 ≡ i = omega arith in
    let next : peaks_left s a (suc i) ≡ (base a hs (suc i), get_or hs i 0) ∷ peaks_left s a i = peaks_left-next s a (suc i) (omega arith) le ∙ rw one refl in
    subst (Tiles (base a hs (suc i)) a) (sym next) (refl, subst (λ e. Tiles e a (peaks_left s a i)) (base-next s (made s a) a hs i st (omega arith)) (peaks-tile s a i st (omega arith)))

all-peaks-tile : (s : Shape) (a : ℕ) → PeaksStand s (made s a) a (s.heights a) → Tiles 0 a (peaks s a)
all-peaks-tile s a st =
    let hs = s.heights a in
    subst (Tiles 0 a) (peaks_left-all s a) (subst (λ e. Tiles e a (peaks_left s a (length hs))) (base-end s (made s a) a hs st) (peaks-tile s a (length hs) st (omega arith)))

down-pins : (e : ℕ) (hs : List ℕ) → AllByRecursion (IsPin e hs) (peaks_down e hs)
down-pins e [] = tt
down-pins e (j ∷ js) = (is-here (e - 2 ^ j) j (e - 2 ^ j) j (is_peak (e - 2 ^ j) js (e - 2 ^ j) j) refl refl, weaker (peaks_down (e - 2 ^ j) js) (down-pins (e - 2 ^ j) js))
  where
    weaker : (ps : List (ℕ × ℕ)) → AllByRecursion (IsPin (e - 2 ^ j) js) ps → AllByRecursion (IsPin e (j ∷ js)) ps
    weaker [] i = tt
    weaker (p ∷ ps) i = (is-later ((p.0 == e - 2 ^ j) && (p.1 == j)) (is_peak (e - 2 ^ j) js p.0 p.1) i.0, weaker ps i.1)

not-false : (b : Bool) → not b ≡ false → b ≡ true
not-false true e = refl
not-false false e = absurd (cc)

leaf-within : (s : Shape) (x : ℕ) → length (made s x) < length (made s (suc x))
unfolding made
leaf-within s x = slice_get_within (made s x ++ ((x, 0) ∷ s.parents x)) (length (made s x)) (x, 0) (get-behind (made s x) (s.parents x) (x, 0))

-- ---- what is made of pins

module _ (s : Shape) (w : IsLawful s) (q : KeepsPeaks s) (n a : ℕ) (few : a ≤ n) where
  abbrev hs : List ℕ
  hs = s.heights a

  -- it is a pin, or made of two such halves
  abbrev pub Made : ℕ → ℕ → Type 0
  Made x zero = above_pins s a x 0 ≡ false
  Made x (suc k) = (above_pins s a x (suc k) ≡ false) ⊎ (Made x k × Made (x + 2 ^ k) k)

  abbrev pub AreMade : List (ℕ × ℕ) → Type 0
  AreMade ps = AllByRecursion (λ p. Made p.0 p.1) ps

  -- what is at hand and ends by a is made of pins
  at-hand-made : (i x k : ℕ) → Stands (made s n) i x k → x + 2 ^ k ≤ a → IsPeakOrLater s a x k → Made x k
  at-hand-made i x zero st le hand = elim hand [
    | inr peak ↦ ap not (peak-tells a hs x 0 peak)
    | inl late ↦ absurd (let before = made_le s (suc x) a (omega (arith, le)) in omega (arith, late, leaf_position s w x, leaf_position s w a, leaf-within s x, before))
  ]
  at-hand-made i x (suc k) st le hand = elim hand [
    | inr peak ↦ inl (ap not (peak-tells a hs x (suc k) peak))
    | inl late ↦ let c = late_halves s w q n a i x k st late in
        let stands = (w.well_made n).behind i x (suc k) st in
        let two : 2 ^ suc k ≡ 2 ^ k * 2 = pow-suc 2 k in
        inr (at-hand-made (s.position x k) x k stands.0 (omega (arith, le, two)) c.0, at-hand-made (s.position (x + 2 ^ k) k) (x + 2 ^ k) k stands.1 (omega (arith, le, two)) c.1)
  ]

  -- its cover are pins, one behind another
  abbrev AreTiles : ℕ → ℕ → List (ℕ × ℕ) → Type 0
  AreTiles e f ps = Tiles e f ps × AllByRecursion (IsPin a hs) ps

  one-tiles : (x k : ℕ) → above_pins s a x k ≡ false → AreTiles x (x + 2 ^ k) ((x, k) ∷ [])
  one-tiles x k m = ((refl, refl), (not-false (is_peak a hs x k) m, tt))

  both-tile : (e f g : ℕ) (ps qs : List (ℕ × ℕ)) → AreTiles e f ps → AreTiles f g qs → AreTiles e g (ps ++ qs)
  both-tile e f g ps qs l r = (tiles-append e f g ps qs l.0 r.0, all-append (IsPin a hs) ps qs l.1 r.1)

  -- no leaf is asked for, so it is the same where none is met
  abbrev pub above : Opened
  above x zero = false
  above x (suc k) = above_pins s a x (suc k)

  halves-tile : (x k : ℕ) → AreTiles x (x + 2 ^ k) (cover_in above x k) → AreTiles (x + 2 ^ k) (x + 2 ^ k + 2 ^ k) (cover_in above (x + 2 ^ k) k)
      → (m : Bool) → above x (suc k) ≡ m → AreTiles x (x + 2 ^ suc k) (cond m (cover_in above x k ++ cover_in above (x + 2 ^ k) k) ((x, suc k) ∷ []))
  halves-tile x k l r false e = one-tiles x (suc k) e
  halves-tile x k l r true e =
      let two : 2 ^ suc k ≡ 2 ^ k * 2 = pow-suc 2 k in
      let end : x + 2 ^ k + 2 ^ k ≡ x + 2 ^ suc k = omega (arith, two) in
      let ls = cover_in above x k in
      let rs = cover_in above (x + 2 ^ k) k in
      subst (λ f. AreTiles x f (ls ++ rs)) end (both-tile x (x + 2 ^ k) (x + 2 ^ k + 2 ^ k) ls rs l r)

  made-tiles : (x k : ℕ) → Made x k → AreTiles x (x + 2 ^ k) (cover_in above x k)
  unfolding cover_in
  made-tiles x zero m = one-tiles x 0 m
  made-tiles x (suc k) (inl m) = subst (λ b. AreTiles x (x + 2 ^ suc k) (cond b (cover_in above x k ++ cover_in above (x + 2 ^ k) k) ((x, suc k) ∷ []))) (sym m) (one-tiles x (suc k) m)
  made-tiles x (suc k) (inr p) = halves-tile x k (made-tiles x k p.0) (made-tiles (x + 2 ^ k) k p.1) (above x (suc k)) refl

  over-tile : (e f : ℕ) (ps : List (ℕ × ℕ)) → Tiles e f ps → AreMade ps → AreTiles e f (cover_over above ps)
  over-tile e f [] t m = (t, tt)
  over-tile e f (p ∷ ps) t m =
      let first = subst (λ x. AreTiles x (x + 2 ^ p.1) (cover_in above p.0 p.1)) t.0 (made-tiles p.0 p.1 m.0) in
      both-tile e (e + 2 ^ p.1) f (cover_in above p.0 p.1) (cover_over above ps) first (over-tile (e + 2 ^ p.1) f ps t.1 m.1)

  -- what is made of pins is rebuilt the same
  module _ {D : Type 0} (h : Hashing D) (lf : ℕ → D) where
    pub same-rebuilt : (x k : ℕ) → Made x k → (ds : List D) → rebuilt s h (above_pins s a) lf x k ds ≡ rebuilt s h above lf x k ds
    unfolding rebuilt
    same-rebuilt x zero m ds = rw m refl
    same-rebuilt x (suc k) (inl m) ds = rw m refl
    same-rebuilt x (suc k) (inr p) ds =
        λ i. cond (above x (suc k)) (option_and_then (λ left. option_and_then (λ right. joined_by s h x k left.0 right) (same-rebuilt (x + 2 ^ k) k p.1 left.1 i)) (same-rebuilt x k p.0 ds i)) (next_of ds)

    same-over : (ps : List (ℕ × ℕ)) → AreMade ps → (ds : List D) → rebuilt_over s h (above_pins s a) lf ps ds ≡ rebuilt_over s h above lf ps ds
    unfolding rebuilt_over
    same-over [] m ds = refl
    same-over (p ∷ ps) m ds = λ i. option_and_then (λ first. option_and_then (before first.0) (same-over ps m.1 first.1 i)) (same-rebuilt p.0 p.1 m.0 ds i)

    pub same-wholly : (ps : List (ℕ × ℕ)) → AreMade ps → (ds : List D) → wholly_rebuilt s h (above_pins s a) lf ps ds ≡ wholly_rebuilt s h above lf ps ds
    same-wholly ps m ds = ap (option_and_then (λ r. all_used r.0 r.1)) (same-over ps m ds)

  -- ---- the nodes of a cover left of a

  pub left-split : (x k : ℕ) → a < x + 2 ^ suc k → x < a → left_in a x (suc k) ≡ left_in a x k ++ left_in a (x + 2 ^ k) k
  left-split x k lt below = let one : suc k - 1 ≡ k = omega arith in left-both a x (suc k) (2 ^ k) lt below (omega arith) (rw one refl) ∙ rw one refl

  abbrev LeftTiles : ℕ → ℕ → Type 0
  LeftTiles x k = (f : ℕ) → (x + 2 ^ k ≤ a → f ≡ x + 2 ^ k) → (a ≤ x + 2 ^ k → f ≡ a) → x ≤ a → Tiles x f (left_in a x k)

  left-halves-tile : (x k : ℕ) → LeftTiles x k → LeftTiles (x + 2 ^ k) k → a < x + 2 ^ suc k → x < a → Tiles x a (left_in a x k ++ left_in a (x + 2 ^ k) k)
  left-halves-tile x k lh rh lt below =
      let two : 2 ^ suc k ≡ 2 ^ k * 2 = pow-suc 2 k in
      let ls = left_in a x k in
      elim (cases_lt a (x + 2 ^ k)) [
        | inl short ↦ let none : left_in a (x + 2 ^ k) k ≡ [] = left-none a (x + 2 ^ k) k (omega (arith, lt, two)) (omega (arith, short)) in
            subst (λ rs. Tiles x a (ls ++ rs)) (sym none) (subst (Tiles x a) (sym (append_nil ls)) (lh a (λ ge. absurd (omega (arith, ge, short))) (λ ge. refl) (omega (arith, below))))
        | inr ge ↦ tiles-append x (x + 2 ^ k) a ls (left_in a (x + 2 ^ k) k) (lh (x + 2 ^ k) (λ z. refl) (λ z. omega (arith, z, ge)) (omega (arith, below))) (rh a (λ z. omega (arith, z, lt, two)) (λ z. refl) ge)
      ]

  -- they reach from the node's first leaf to its end, or to a
  left-tiles : (x k : ℕ) → LeftTiles x k
  left-tiles x zero f low high le = elim (cases_lt a (x + 2 ^ 0)) [
    | inl lt ↦ subst (Tiles x f) (sym (left-none a x 0 lt (omega (arith, lt)))) (let e = high (omega (arith, lt)) in omega (arith, e, lt, le))
    | inr ge ↦ subst (Tiles x f) (sym (left-here a x 0 ge)) (refl, sym (low ge))
  ]
  left-tiles x (suc k) f low high le = elim (cases_lt a (x + 2 ^ suc k)) [
    | inr ge ↦ subst (Tiles x f) (sym (left-here a x (suc k) ge)) (refl, sym (low ge))
    | inl lt ↦ let e : f ≡ a = high (omega (arith, lt)) in elim (cases_lt x a) [
      | inr past ↦ subst (Tiles x f) (sym (left-none a x (suc k) lt past)) (omega (arith, e, past, le))
      | inl below ↦ subst (Tiles x f) (sym (left-split x k lt below)) (subst (λ g. Tiles x g (left_in a x k ++ left_in a (x + 2 ^ k) k)) (sym e) (left-halves-tile x k (left-tiles x k) (left-tiles (x + 2 ^ k) k) lt below))
    ]
  ]

  past-none : (e f : ℕ) (ps : List (ℕ × ℕ)) → Tiles e f ps → a ≤ e → left_over a ps ≡ []
  past-none e f [] t le = refl
  past-none e f (p ∷ ps) t le =
      let pos = pow_pos p.1 in
      ap (λ ls. ls ++ left_over a ps) (left-none a p.0 p.1 (omega (arith, t.0, le, pos)) (omega (arith, t.0, le))) ∙ past-none (e + 2 ^ p.1) f ps t.1 (omega (arith, le))

  over-left : (e f : ℕ) (ps : List (ℕ × ℕ)) → Tiles e f ps → e ≤ a → a ≤ f → Tiles e a (left_over a ps)
  over-left e f [] t le ge = omega (arith, t, le, ge)
  over-left e f (p ∷ ps) t le ge = elim (cases_lt a (e + 2 ^ p.1)) [
    | inl lt ↦ subst (λ rs. Tiles e a (left_in a p.0 p.1 ++ rs)) (sym (past-none (e + 2 ^ p.1) f ps t.1 (omega (arith, lt))))
        (subst (Tiles e a) (sym (append_nil (left_in a p.0 p.1))) (subst (λ x. Tiles x a (left_in a p.0 p.1)) t.0 (left-tiles p.0 p.1 a (λ z. omega (arith, z, lt, t.0)) (λ z. refl) (omega (arith, t.0, le)))))
    | inr reach ↦ tiles-append e (e + 2 ^ p.1) a (left_in a p.0 p.1) (left_over a ps)
        (subst (λ x. Tiles x (x + 2 ^ p.1) (left_in a p.0 p.1)) t.0 (left-tiles p.0 p.1 (p.0 + 2 ^ p.1) (λ z. refl) (λ z. omega (arith, z, reach, t.0)) (omega (arith, t.0, le))))
        (over-left (e + 2 ^ p.1) f ps t.1 reach ge)
  ]

  -- each is made of pins
  left-made : (i x k : ℕ) → Stands (made s n) i x k → IsNeeded s n a x k → AreMade (left_in a x k)
  left-made i x zero st need = elim (cases_lt a (x + 2 ^ 0)) [
    | inl lt ↦ subst AreMade (sym (left-none a x 0 lt (omega (arith, lt)))) tt
    | inr ge ↦ subst AreMade (sym (left-here a x 0 ge)) (at-hand-made i x 0 st ge (needed s w q n a x 0 few need), tt)
  ]
  left-made i x (suc k) st need = elim (cases_lt a (x + 2 ^ suc k)) [
    | inr ge ↦ subst AreMade (sym (left-here a x (suc k) ge)) (at-hand-made i x (suc k) st ge (needed s w q n a x (suc k) few need), tt)
    | inl lt ↦ elim (cases_lt x a) [
      | inr past ↦ subst AreMade (sym (left-none a x (suc k) lt past)) tt
      | inl below ↦ let stands = (w.well_made n).behind i x (suc k) st in
          subst AreMade (sym (left-split x k lt below))
          (all-append (λ p. Made p.0 p.1) (left_in a x k) (left_in a (x + 2 ^ k) k)
          (left-made (s.position x k) x k stands.0 (inr (record { place = i; start = x; parent = st; past = lt; side = inl refl })))
          (left-made (s.position (x + 2 ^ k) k) (x + 2 ^ k) k stands.1 (inr (record { place = i; start = x; parent = st; past = lt; side = inr refl }))))
    ]
  ]

  abbrev IsTop : ℕ × ℕ → Type 0
  IsTop p = Stands (made s n) (s.position p.0 p.1) p.0 p.1 × PeakOf s n p.0 p.1

  over-made : (ps : List (ℕ × ℕ)) → AllByRecursion IsTop ps → AreMade (left_over a ps)
  over-made [] t = tt
  over-made (p ∷ ps) t = all-append (λ p. Made p.0 p.1) (left_in a p.0 p.1) (left_over a ps) (left-made (s.position p.0 p.1) p.0 p.1 t.0.0 (inl t.0.1)) (over-made ps t.1)

  tops-down : (e : ℕ) (ks : List ℕ) → PeaksStand s (made s n) e ks → ((x k : ℕ) → PeakIn e ks x k → PeakOf s n x k) → AllByRecursion IsTop (peaks_down e ks)
  tops-down e [] st f = tt
  tops-down e (k ∷ ks) st f = ((st.1, f (e - 2 ^ k) k (inl (refl, refl))), tops-down (e - 2 ^ k) ks st.2 (λ x j p. f x j (inr p)))

  abbrev pub Left : List (ℕ × ℕ)
  Left = left_over a (peaks s n)

  pub left-are-made : AreMade Left
  left-are-made = over-made (peaks s n) (all-reverse IsTop (peaks_down n (s.heights n)) (tops-down n (s.heights n) (w.peaks n) (λ x k p. p)))

  -- so the pins are their cover
  pub pins-cover : peaks s a ≡ cover_over above Left
  pins-cover =
      let tiled = over-tile 0 a Left (over-left 0 n (peaks s n) (all-peaks-tile s n (w.peaks n)) (omega arith) few) left-are-made in
      one-tiling s (made s a) a hs (w.peaks a) 0 a (peaks s a) (cover_over above Left) (all-peaks-tile s a (w.peaks a)) tiled.0 (all-reverse (IsPin a hs) (peaks_down a hs) (down-pins a hs)) tiled.1

  pub pins-hash : {D : Type 0} (h : Hashing D) (leaves : List D) → wholly_rebuilt s h (above_pins s a) (λ x. leaf s h x []) Left (map (node_of s h leaves) (peaks s a)) ≡ Some (map (node_of s h leaves) Left)
  pins-hash h leaves =
      let ds = map (node_of s h leaves) (peaks s a) in
      same-wholly h (λ x. leaf s h x []) Left left-are-made ds
      ∙ ap (λ ps. wholly_rebuilt s h above (λ x. leaf s h x []) Left (map (node_of s h leaves) ps)) pins-cover
      ∙ wholly_rebuilt-cover s h leaves above (λ x. leaf s h x []) (λ x m. absurd (cc)) Left

-- the peaks of the first a leaves of a list are the pins of each proof from there on
pub slow-pins : {F D : Type 0} (s : Shape) (h : Hashing D) (w : IsLawful s) (q : KeepsPeaks s) (leaves : List D) (proof : Proof F D) (a b count : ℕ) → a < b → a ≤ proof.leaves → a + count ≡ b
    → proof.digests ≡ map (node_of s h leaves) (cover s (meets a b) proof.leaves) → HasPins s h proof a count (map (node_of s h leaves) (peaks s a))
slow-pins s h w q leaves proof a b count some le end digests =
    let n = proof.leaves in
    let left = left_of a (cover s (meets a b) n) in
    let are : left_over a (peaks s n) ≡ left = left-cover a b some (peaks s n) in
    let front : map (node_of s h leaves) left ≡ take (length left) proof.digests =
    ap (map (node_of s h leaves)) (sym (left-leads a 0 (cover s (meets a b) n) (cover-rises (meets a b) s n (w.peaks n))))
    ∙ sym (take-map (node_of s h leaves) (length left) (cover s (meets a b) n)) ∙ ap (take (length left)) (sym digests) in
    record {
      counted = length-peaks s h leaves a;
      hashed = rw end (ap (λ ps. wholly_rebuilt s h (above_pins s a) (λ x. leaf s h x []) ps (map (node_of s h leaves) (peaks s a))) (sym are) ∙ pins-hash s w q n a le h leaves ∙ ap (λ ps. Some (map (node_of s h leaves) ps)) are ∙ ap Some front);
    }
