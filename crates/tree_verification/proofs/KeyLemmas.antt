-- Entries at number keys.
use Rattle.std.proofs.Common.{◌≡◌, ℕ, suc, inl, inr, true, false, refl, arith}
use Rattle.std.specs.BTreeMap.{is_at}
use Rattle.std.specs.Ordering.{nat_cmp}
use Rattle.std.proofs.lemmas.Bool.Decides.{eqb_tells, leb_tells}

pub key_apart : (k q : ℕ) → (k ≡ q → ⊥) → is_at (nat_cmp k) q ≡ false
key_apart k q ne = elim (leb_tells (suc k) q) [
  | inl t ↦ rw t.0 refl
  | inr t ↦ elim (eqb_tells k q) [
    | inl e ↦ absurd (ne e.1)
    | inr e ↦ rw (t.0, e.0) refl
  ]
]

pub key_same : (k q : ℕ) → is_at (nat_cmp k) q ≡ true → k ≡ q
key_same k q t = elim (eqb_tells k q) [
  | inl e ↦ e.1
  | inr e ↦ absurd (let f = key_apart k q e.1 in cc)
]

pub key_itself : (k : ℕ) → is_at (nat_cmp k) k ≡ true
key_itself k = elim (leb_tells (suc k) k) [
  | inl t ↦ absurd (omega (arith, t.1))
  | inr t ↦ elim (eqb_tells k k) [
    | inl e ↦ rw (t.0, e.0) refl
    | inr e ↦ absurd (e.1 refl)
  ]
]
