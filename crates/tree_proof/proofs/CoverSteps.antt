-- What the cover inside one node is in each case.
use Rattle.std.proofs.Common.{◌≡◌, ℕ, zero, suc, ◌+◌, ◌-◌, ◌*◌, ◌^◌, ◌<◌, ◌≤◌, true, false, inl, inr, [], ◌∷◌, ◌++◌, refl, ◌∙◌, ap, arith}
use Rattle.std.proofs.Math.Nat.{pow-suc}
use Rattle.std.proofs.lemmas.Nat.{pow_pos}
use Rattle.std.proofs.lemmas.Bool.Decides.{leb_tells}
use Rattle.tree_proof.specs.Cover.{Opened, meets, cover_in}

pub cover_in-outside : (met : Opened) (x k : ℕ) → met x k ≡ false → cover_in met x k ≡ (x, k) ∷ []
unfolding cover_in
cover_in-outside met x zero e = rw e refl
cover_in-outside met x (suc k) e = rw e refl

pub cover_in-leaf : (met : Opened) (x k : ℕ) → met x k ≡ true → k ≡ 0 → cover_in met x k ≡ []
unfolding cover_in
cover_in-leaf met x zero e z = rw e refl
cover_in-leaf met x (suc k) e z = absurd (omega arith)

pub cover_in-halves : (met : Opened) (x k half : ℕ) → met x k ≡ true → 0 < k → half ≡ 2 ^ (k - 1) → cover_in met x k ≡ cover_in met x (k - 1) ++ cover_in met (x + half) (k - 1)
unfolding cover_in
cover_in-halves met x zero half e lt he = absurd (omega arith)
cover_in-halves met x (suc k) half e lt he = let one : suc k - 1 ≡ k = omega arith in rw (e, he, one) refl

-- where each node inside is met, the cover has none there
pub whole-none : (met : Opened) (x k : ℕ) → ((y j : ℕ) → x ≤ y → y + 2 ^ j ≤ x + 2 ^ k → met y j ≡ true) → cover_in met x k ≡ []
unfolding cover_in
whole-none met x zero all = rw (all x 0 (omega arith) (omega arith)) refl
whole-none met x (suc k) all =
    let two : 2 ^ suc k ≡ 2 ^ k * 2 = pow-suc 2 k in
    let left = whole-none met x k (λ y j le end. all y j le (omega (arith, end, two))) in
    let right = whole-none met (x + 2 ^ k) k (λ y j le end. all y j (omega (arith, le)) (omega (arith, end, two))) in
    rw (all x (suc k) (omega arith) (omega arith)) (ap (λ ps. ps ++ cover_in met (x + 2 ^ k) k) left ∙ right)

-- a range meets each node that lies in it
pub meets-inside : (a b x k : ℕ) → a ≤ x → x + 2 ^ k ≤ b → (y j : ℕ) → x ≤ y → y + 2 ^ j ≤ x + 2 ^ k → meets a b y j ≡ true
meets-inside a b x k low high y j le end =
    let wide = pow_pos j in
    elim (leb_tells (suc a) (y + 2 ^ j)) [
      | inl t ↦ elim (leb_tells (suc y) b) [
        | inl u ↦ rw (t.0, u.0) refl
        | inr u ↦ absurd (omega (arith, u.1, end, high, wide))
      ]
      | inr t ↦ absurd (omega (arith, t.1, le, low, wide))
    ]
