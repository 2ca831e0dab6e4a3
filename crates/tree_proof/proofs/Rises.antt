-- The nodes of a cover stand one behind another.
use Rattle.std.proofs.Common.{◌≡◌, ℕ, zero, suc, ◌+◌, ◌-◌, ◌*◌, ◌^◌, ◌<◌, ◌≤◌, Bool, true, false, cond, List, [], ◌∷◌, ◌++◌, length, take, get_or, refl, sym, ◌∙◌, ap, subst, arith, append_assoc}
use Rattle.std.specs.Prelude.{nat_le}
use Rattle.std.proofs.Math.Nat.{pow-suc}
use Rattle.std.proofs.lemmas.Bool.Decides.{nat_tests}
use Rattle.std.proofs.lemmas.Nat.{pow_pos}
use Rattle.tree_shape.specs.Shape.{Shape, made, PeaksStand}
use Rattle.tree_shape.specs.Pins.{base}
use Rattle.tree_shape.proofs.PinLemmas.{base-next, base-end}
use Rattle.tree_proof.specs.Cover.{Opened, cover_in, cover_over, cover}
use Rattle.tree_proof.specs.Pinned.{left_of}
use Rattle.tree_shape.proofs.PeakLemmas.{peaks_left, peaks_left-next, peaks_left-all}

-- each begins where those before it end, or later
abbrev pub RisesFrom : ℕ → List (ℕ × ℕ) → Type 0
RisesFrom e [] = Unit {0}
RisesFrom e (p ∷ ps) = (e ≤ p.0) × RisesFrom (p.0 + 2 ^ p.1) ps

pub lower : (d e : ℕ) (ps : List (ℕ × ℕ)) → d ≤ e → RisesFrom e ps → RisesFrom d ps
lower d e [] le r = tt
lower d e (p ∷ ps) le r = (let q = r.0 in omega (arith, q, le), r.1)

module _ (met : Opened) where
  abbrev Rises : ℕ → ℕ → Type 0
  Rises x k = (rest : List (ℕ × ℕ)) → RisesFrom (x + 2 ^ k) rest → RisesFrom x (cover_in met x k ++ rest)

  leaf-rises : (x : ℕ) (rest : List (ℕ × ℕ)) → RisesFrom (x + 2 ^ 0) rest → (m : Bool) → RisesFrom x (cond m [] ((x, 0) ∷ []) ++ rest)
  leaf-rises x rest r true = lower x (x + 2 ^ 0) rest (omega arith) r
  leaf-rises x rest r false = (omega arith, r)

  halves-rise : (x k : ℕ) → Rises x k → Rises (x + 2 ^ k) k → (rest : List (ℕ × ℕ)) → RisesFrom (x + 2 ^ suc k) rest → (m : Bool) → RisesFrom x (cond m (cover_in met x k ++ cover_in met (x + 2 ^ k) k) ((x, suc k) ∷ []) ++ rest)
  halves-rise x k lh rh rest r true =
      let two : 2 ^ suc k ≡ 2 ^ k * 2 = pow-suc 2 k in
      let end : x + 2 ^ suc k ≡ x + 2 ^ k + 2 ^ k = omega (arith, two) in
      subst (RisesFrom x) (sym (append_assoc (cover_in met x k) (cover_in met (x + 2 ^ k) k) rest)) (lh (cover_in met (x + 2 ^ k) k ++ rest) (rh rest (subst (λ e. RisesFrom e rest) end r)))
  halves-rise x k lh rh rest r false = (omega arith, r)

  inside-rises : (x k : ℕ) → Rises x k
  unfolding cover_in
  inside-rises x zero rest r = leaf-rises x rest r (met x 0)
  inside-rises x (suc k) rest r = halves-rise x k (inside-rises x k) (inside-rises (x + 2 ^ k) k) rest r (met x (suc k))

  left-rises : (s : Shape) (n left : ℕ) → PeaksStand s (made s n) n (s.heights n) → left ≤ length (s.heights n) → RisesFrom (base n (s.heights n) left) (cover_over met (peaks_left s n left))
  left-rises s n zero stand le = tt
  left-rises s n (suc i) stand le =
      let hs = s.heights n in
      let one : suc i - 1 ≡ i = omega arith in
      let next : peaks_left s n (suc i) ≡ (base n hs (suc i), get_or hs i 0) ∷ peaks_left s n i = peaks_left-next s n (suc i) (omega arith) le ∙ rw one refl in
      let rest = cover_over met (peaks_left s n i) in
      subst (λ ps. RisesFrom (base n hs (suc i)) (cover_over met ps)) (sym next)
      (inside-rises (base n hs (suc i)) (get_or hs i 0) rest (subst (λ e. RisesFrom e rest) (base-next s (made s n) n hs i stand (omega arith)) (left-rises s n i stand (omega arith))))

  pub cover-rises : (s : Shape) (n : ℕ) → PeaksStand s (made s n) n (s.heights n) → RisesFrom 0 (cover s met n)
  cover-rises s n stand =
      let hs = s.heights n in
      subst (λ ps. RisesFrom 0 (cover_over met ps)) (peaks_left-all s n)
      (subst (λ e. RisesFrom e (cover_over met (peaks_left s n (length hs)))) (base-end s (made s n) n hs stand) (left-rises s n (length hs) stand (omega arith)))

-- ---- those that end by a leaf lead

none-past : (a e : ℕ) (ps : List (ℕ × ℕ)) → a ≤ e → RisesFrom e ps → left_of a ps ≡ []
none-past a e [] le r = refl
none-past a e (p ∷ ps) le r =
    let pos = pow_pos p.1 in
    let from = r.0 in
    let no : nat_le (p.0 + 2 ^ p.1) a ≡ false = grind (arith, nat_tests) in
    let rest = none-past a (p.0 + 2 ^ p.1) ps (omega (arith, from, le)) r.1 in
    ap (λ m. cond m (p ∷ left_of a ps) (left_of a ps)) no ∙ rest

pub left-leads : (a e : ℕ) (ps : List (ℕ × ℕ)) → RisesFrom e ps → take (length (left_of a ps)) ps ≡ left_of a ps
left-leads a e [] r = refl
left-leads a e (p ∷ ps) r = by (nat_le (p.0 + 2 ^ p.1) a) refl (left-leads a (p.0 + 2 ^ p.1) ps r.1)
  where
    by : (m : Bool) → nat_le (p.0 + 2 ^ p.1) a ≡ m → take (length (left_of a ps)) ps ≡ left_of a ps → take (length (cond m (p ∷ left_of a ps) (left_of a ps))) (p ∷ ps) ≡ cond m (p ∷ left_of a ps) (left_of a ps)
    by true t f = ap (λ qs. p ∷ qs) f
    by false t f =
        let past : a < p.0 + 2 ^ p.1 = grind (arith, nat_tests) in
        let none = none-past a (p.0 + 2 ^ p.1) ps (omega (arith, past)) r.1 in
        ap (λ qs. take (length qs) (p ∷ ps)) none ∙ sym none
