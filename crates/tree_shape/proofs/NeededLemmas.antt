-- What a tree needs later is at hand before.
use Rattle.std.proofs.Common.{◌≡◌, ℕ, zero, suc, ◌+◌, ◌-◌, ◌^◌, ◌<◌, ◌≤◌, ◌⊎◌, inl, inr, List, [], ◌∷◌, ◌++◌, length, Some, sym, ◌∙◌, ap, subst, arith, length-append}
use Rattle.std.specs.Prelude.{slice_get}
use Rattle.std.proofs.lemmas.Bool.{cases_lt}
use Rattle.std.proofs.lemmas.Option.{some_pair_parts, slice_get_within}
use Rattle.tree_shape.specs.Shape.{Shape, made, Stands, IsLawful}
use Rattle.tree_shape.specs.Places.{get-append, get-behind}
use Rattle.tree_shape.specs.Kept.{PeakOf, IsPeakOrLater, KeepsPeaks}
use Rattle.tree_shape.specs.Needed.{IsNeeded}

-- a place of a joined list is one of the first list or of the second
pub data Side {X : Type 0} (xs ys : List X) (i : ℕ) (x : X) : Type 0 where
  first : slice_get xs i ≡ Some x → Side xs ys i x
  second : (j : ℕ) → slice_get ys j ≡ Some x → Side xs ys i x

pub side_of : {X : Type 0} (xs ys : List X) (i : ℕ) (x : X) → slice_get (xs ++ ys) i ≡ Some x → Side xs ys i x
side_of [] ys i x e = second i e
side_of (y ∷ xs) ys zero x e = first e
side_of (y ∷ xs) ys (suc i) x e = elim (side_of xs ys i x e) [
  | first p ↦ first p
  | second j p ↦ second j p
]

pub leaf_position : (s : Shape) → IsLawful s → (n : ℕ) → s.position n 0 ≡ length (made s n)
unfolding made
leaf_position s w n = (w.well_made (suc n)).placed (length (made s n)) n 0 (get-behind (made s n) (s.parents n) (n, 0))

-- what stands in a tree stands in a longer one
pub stands_later : (s : Shape) (b t i x k : ℕ) → Stands (made s b) i x k → Stands (made s (b + t)) i x k
unfolding made
stands_later s b zero i x k e = let P : ℕ → Type 0 = λ n. Stands (made s n) i x k in let q : b ≡ b + 0 = omega arith in subst P q e
stands_later s b (suc t) i x k e =
    let P : ℕ → Type 0 = λ n. Stands (made s n) i x k in
    let q : suc (b + t) ≡ b + suc t = omega arith in
    subst P q (get-append (made s (b + t)) ((b + t, 0) ∷ s.parents (b + t)) i (x, k) (stands_later s b t i x k e))

pub made_longer : (s : Shape) (b t : ℕ) → length (made s b) ≤ length (made s (b + t))
unfolding made
made_longer s b zero = let q : b + 0 ≡ b = omega arith in let e : length (made s (b + 0)) ≡ length (made s b) = ap (λ n. length (made s n)) q in omega (arith, e)
made_longer s b (suc t) =
    let q : b + suc t ≡ suc (b + t) = omega arith in
    let e : length (made s (b + suc t)) ≡ length (made s (suc (b + t))) = ap (λ n. length (made s n)) q in
    omega (arith, e, made_longer s b t, length-append (made s (b + t)) ((b + t, 0) ∷ s.parents (b + t)))

pub made_le : (s : Shape) (b n : ℕ) → b ≤ n → length (made s b) ≤ length (made s n)
made_le s b n le = let q : b + (n - b) ≡ n = omega arith in let e : length (made s (b + (n - b))) ≡ length (made s n) = ap (λ m. length (made s m)) q in omega (arith, e, made_longer s b (n - b))

-- what is a peak later, or stands late, is at hand before
pub at_hand_back : (s : Shape) → IsLawful s → KeepsPeaks s → (b t x k : ℕ) → IsPeakOrLater s (b + t) x k → IsPeakOrLater s b x k
at_hand_back s w q b zero x k a = let P : ℕ → Type 0 = λ n. IsPeakOrLater s n x k in let e : b + 0 ≡ b = omega arith in subst P e a
at_hand_back s w q b (suc t) x k a = elim a [
  | inl late ↦ inl (let pb = leaf_position s w b in let pn = leaf_position s w (b + suc t) in let le = made_le s b (b + suc t) (omega arith) in omega (arith, late, pb, pn, le))
  | inr peak ↦ let P : ℕ → Type 0 = λ n. PeakOf s n x k in let e : b + suc t ≡ suc (b + t) = omega arith in at_hand_back s w q b t x k (q.peaks (b + t) x k (subst P e peak))
]

-- a node above the leaves was made by an append that it ends with or before, after what ends before it
data MadeBy (s : Shape) (n x k : ℕ) : Type 0 where
  by : (m j : ℕ) → m < n → slice_get (s.parents m) j ≡ Some (x, suc k) → MadeBy s n x k

made_by : (s : Shape) (n i x k : ℕ) → Stands (made s n) i x (suc k) → MadeBy s n x k
unfolding made
made_by s zero i x k e = absurd (cc)
made_by s (suc n) i x k e = elim (side_of (made s n) ((n, 0) ∷ s.parents n) i (x, suc k) e) [
  | first p ↦ elim (made_by s n i x k p) [
    | by m j lt q ↦ by m j (omega arith) q
  ]
  | second j p ↦ newest j p
]
  where
    newest : (j : ℕ) → slice_get {X = ℕ × ℕ} ((n, 0) ∷ s.parents n) j ≡ Some (x, suc k) → MadeBy s (suc n) x k
    newest zero p = let parts = some_pair_parts n x 0 (suc k) p in absurd (let z : 0 ≡ suc k = parts.1 in omega (arith, z))
    newest (suc j) p = by n j (omega arith) p

-- where the nodes that the append of leaf m makes stand
stands_here : (s : Shape) (m j x k : ℕ) → slice_get (s.parents m) j ≡ Some (x, k) → Stands (made s (suc m)) (length (made s m) + suc j) x k
unfolding made
stands_here s m j x k e = past (made s m)
  where
    past : (xs : List (ℕ × ℕ)) → slice_get (xs ++ ((m, 0) ∷ s.parents m)) (length xs + suc j) ≡ Some (x, k)
    past [] = let q : 0 + suc j ≡ suc j = omega arith in ap (slice_get ((m, 0) ∷ s.parents m)) q ∙ e
    past (y ∷ xs) = let q : suc (length xs) + suc j ≡ suc (length xs + suc j) = omega arith in ap (slice_get (y ∷ (xs ++ ((m, 0) ∷ s.parents m)))) q ∙ past xs

-- the append of leaf m makes no node that ends past it
made_here : (s : Shape) → IsLawful s → (m j x k : ℕ) → slice_get (s.parents m) j ≡ Some (x, k) → x + 2 ^ k ≤ suc m
made_here s w m j x k e = (w.well_made (suc m)).within (length (made s m) + suc j) x k (stands_here s m j x k e)

child_at_hand : (s : Shape) → IsLawful s → KeepsPeaks s → (m j y x k : ℕ) → slice_get (s.parents m) j ≡ Some (y, suc k) → (x ≡ y) ⊎ (x ≡ y + 2 ^ k) → IsPeakOrLater s m x k
child_at_hand s w q m j y x k e side = let P : ℕ → Type 0 = λ z. IsPeakOrLater s m z k in elim side [
  | inl l ↦ subst P (sym l) (q.left m j y k e)
  | inr r ↦ subst P (sym r) (q.right m j y k e)
]

pub needed : (s : Shape) → IsLawful s → KeepsPeaks s → (n b x h : ℕ) → b ≤ n → IsNeeded s n b x h → IsPeakOrLater s b x h
needed s w q n b x h le need = elim need [
  | inl peak ↦ back n le (inr peak)
  | inr c ↦ elim (made_by s n c.place c.start h c.parent) [
    | by m j lt e ↦ back m (let late = made_here s w m j c.start (suc h) e in omega (arith, late, c.past)) (child_at_hand s w q m j c.start x h e c.side)
  ]
]
  where
    back : (m : ℕ) → b ≤ m → IsPeakOrLater s m x h → IsPeakOrLater s b x h
    back m bm a = let P : ℕ → Type 0 = λ n. IsPeakOrLater s n x h in let e : m ≡ b + (m - b) = omega arith in at_hand_back s w q b (m - b) x h (subst P e a)

-- by the position where b leaves end
pub needed_from : (s : Shape) → IsLawful s → KeepsPeaks s → (n b x h : ℕ) → b ≤ n → IsNeeded s n b x h → (length (made s b) ≤ s.position x h) ⊎ PeakOf s b x h
needed_from s w q n b x h le need = elim (needed s w q n b x h le need) [
  | inl late ↦ inl (omega (arith, late, leaf_position s w b))
  | inr peak ↦ inr peak
]

-- what stands behind the nodes of b leaves was made by a later append
came_after : (s : Shape) → IsLawful s → (b m j x k : ℕ) → slice_get (s.parents m) j ≡ Some (x, k) → s.position b 0 ≤ s.position x k → b ≤ m
came_after s w b m j x k e late = elim (cases_lt m b) [
  | inl lt ↦ absurd (let here = stands_here s m j x k e in
      let place = (w.well_made (suc m)).placed (length (made s m) + suc j) x k here in
      let within = slice_get_within (made s (suc m)) (length (made s m) + suc j) (x, k) here in
      let before = made_le s (suc m) b (omega (arith, lt)) in
      omega (arith, place, within, before, late, leaf_position s w b))
  | inr le ↦ le
]

at_hand_before : (s : Shape) → IsLawful s → KeepsPeaks s → (b m x k : ℕ) → b ≤ m → IsPeakOrLater s m x k → IsPeakOrLater s b x k
at_hand_before s w q b m x k le a = let P : ℕ → Type 0 = λ n. IsPeakOrLater s n x k in let e : m ≡ b + (m - b) = omega arith in at_hand_back s w q b (m - b) x k (subst P e a)

-- so its halves are at hand there
pub late_halves : (s : Shape) → IsLawful s → KeepsPeaks s → (n b i x k : ℕ) → Stands (made s n) i x (suc k) → s.position b 0 ≤ s.position x (suc k) → IsPeakOrLater s b x k × IsPeakOrLater s b (x + 2 ^ k) k
late_halves s w q n b i x k st late = elim (made_by s n i x k st) [
  | by m j lt e ↦ let after = came_after s w b m j x (suc k) e late in (at_hand_before s w q b m x k after (q.left m j x k e), at_hand_before s w q b m (x + 2 ^ k) k after (q.right m j x k e))
]
