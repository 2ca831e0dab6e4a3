-- Sizes rise with the leaves.
use Rattle.std.proofs.Common.{◌≡◌, ℕ, zero, suc, ◌+◌, ◌-◌, ◌<◌, ◌≤◌, inl, inr, ◌∷◌, length, arith, length-append}
use Rattle.std.proofs.lemmas.Bool.Decides.{eqb_tells}
use Rattle.tree_shape.specs.Shape.{Shape, made}

pub size_step : (s : Shape) (n : ℕ) → length (made s n) < length (made s (suc n))
unfolding made
size_step s n = omega (arith, length-append (made s n) ((n, 0) ∷ s.parents n))

sizes_later : (s : Shape) (m t : ℕ) → length (made s m) + t ≤ length (made s (m + t))
sizes_later s m zero = let e : m + 0 ≡ m = omega arith in rw e (omega arith)
sizes_later s m (suc t) =
    let e : m + suc t ≡ suc (m + t) = omega arith in
    let h = sizes_later s m t in
    let st = size_step s (m + t) in
    rw e (omega arith)

-- a tree of more leaves has more nodes
pub size_rise : (s : Shape) (m n : ℕ) → m < n → length (made s m) < length (made s n)
size_rise s m n lt = let e : m + (n - m) ≡ n = omega arith in let h = rw e at (sizes_later s m (n - m)) in omega arith

pub size_grow : (s : Shape) (m n : ℕ) → m ≤ n → length (made s m) ≤ length (made s n)
size_grow s m n le = let e : m + (n - m) ≡ n = omega arith in let h = rw e at (sizes_later s m (n - m)) in omega arith

-- two numbers of leaves with one size are one
pub size_one : (s : Shape) (m n : ℕ) → length (made s m) ≡ length (made s n) → m ≡ n
size_one s m n e = elim (eqb_tells (m - n) 0) [
  | inl a ↦ elim (eqb_tells (n - m) 0) [
    | inl b ↦ omega (arith, a.1, b.1)
    | inr b ↦ let lt : m < n = omega (arith, b.1) in let h = size_rise s m n lt in absurd (omega arith)
  ]
  | inr a ↦ let lt : n < m = omega (arith, a.1) in let h = size_rise s n m lt in absurd (omega arith)
]

pub leaves_below : (s : Shape) (n : ℕ) → n ≤ length (made s n)
leaves_below s n = let h = sizes_later s 0 n in let e : 0 + n ≡ n = omega arith in let g = rw e at h in omega arith

-- of fewer nodes, fewer leaves
pub size_below : (s : Shape) (m n p : ℕ) → length (made s m) ≤ p → p < length (made s n) → m < n
size_below s m n p le lt = elim (eqb_tells (n - m) 0) [
  | inl a ↦ let le2 : n ≤ m = omega (arith, a.1) in let h = size_grow s n m le2 in absurd (omega arith)
  | inr a ↦ omega (arith, a.1)
]
