-- Applied sizes.
use Rattle.std.proofs.Common.{◌≡◌, ℕ, zero, suc, ◌<◌, ◌≤◌, Bool, true, false, cond, List, [], ◌∷◌, ◌++◌, refl, arith}
use Rattle.std.specs.Prelude.{nat_le, nat_lt, Contains}
use Rattle.std.proofs.lemmas.Bool.Decides.{nat_tests}
use Rattle.log_model.specs.AppliedSizes.{RiseTo, AreSizes, first_at_least}
use Rattle.std.proofs.lemmas.List.Elements.{Contains-append_left}

pub le_is : (m n : ℕ) → nat_le m n ≡ true → m ≤ n
le_is m n e = grind (arith, nat_tests)

pub not_le : (m n : ℕ) → nat_le m n ≡ false → n < m
not_le m n e = grind (arith, nat_tests)

pub lt_is : (m n : ℕ) → nat_lt m n ≡ true → m < n
lt_is m n e = grind (arith, nat_tests)

pub not_lt : (m n : ℕ) → nat_lt m n ≡ false → n ≤ m
not_lt m n e = grind (arith, nat_tests)

-- either way of a choice
pub either : {A : Type 0} (P : A → Type 0) (b : Bool) (x y : A) → (b ≡ true → P x) → (b ≡ false → P y) → P (cond b x y)
either P true x y f g = f refl
either P false x y f g = g refl

-- ---- sizes that rise

pub rise_le : (low high : ℕ) (ns : List ℕ) → RiseTo low high ns → low ≤ high
rise_le low high [] e = omega (arith, e)
rise_le low high (n ∷ ns) h = let more = rise_le n high ns h.1 in omega (arith, more, h.0)

pub rise_with : (low high next : ℕ) (ns : List ℕ) → RiseTo low high ns → high < next → RiseTo low next (ns ++ (next ∷ []))
rise_with low high next [] e lt = (omega (arith, e, lt), refl)
rise_with low high next (n ∷ ns) h lt = (h.0, rise_with n high next ns h.1 lt)

pub rise_has : (low high : ℕ) (ns : List ℕ) → RiseTo low high ns → low < high → Contains ns high
rise_has low high [] e lt = absurd (omega (arith, e, lt))
rise_has low high (n ∷ ns) h lt = last (λ more. rise_has n high ns h.1 more) (nat_lt n high) refl
  where
    last : (n < high → Contains ns high) → (b : Bool) → nat_lt n high ≡ b → Contains (n ∷ ns) high
    last later true e = let c = later (lt_is n high e) in (suc c.0, omega (arith, c.1), c.2)
    last later false e = let le = rise_le n high ns h.1 in let ge = not_lt n high e in let same : n ≡ high = omega (arith, le, ge) in (0, omega arith, same)

-- so the last size is one of them
pub last_applied : (total : ℕ) (sizes : List ℕ) → AreSizes total sizes → Contains sizes total
last_applied total [] h = absurd h
last_applied total (n ∷ ns) h = pick (nat_lt 1 total) refl
  where
    pick : (b : Bool) → nat_lt 1 total ≡ b → Contains (n ∷ ns) total
    pick true e = let c = rise_has 1 total ns h.1 (lt_is 1 total e) in (suc c.0, omega (arith, c.1), c.2)
    pick false e = let le = rise_le 1 total ns h.1 in let ge = not_lt 1 total e in let one = h.0 in let same : n ≡ total = omega (arith, le, ge, one) in (0, omega arith, same)

pub sizes_grow : (total next : ℕ) (sizes : List ℕ) → AreSizes total sizes → total < next → AreSizes next (sizes ++ (next ∷ []))
sizes_grow total next [] h lt = absurd h
sizes_grow total next (n ∷ ns) h lt = (h.0, rise_with 1 total next ns h.1 lt)

pub has_longer : (xs ys : List ℕ) (n : ℕ) → Contains xs n → Contains (xs ++ ys) n
has_longer xs ys n c = Contains-append_left xs ys n c

-- ---- the first that is at least a number

pub first_longer : (l : ℕ) (xs ys : List ℕ) → first_at_least l xs ≤ first_at_least l (xs ++ ys)
first_longer l [] ys = omega arith
first_longer l (n ∷ ns) ys = pick (first_longer l ns ys) (nat_le l n)
  where
    pick : first_at_least l ns ≤ first_at_least l (ns ++ ys) → (b : Bool) → cond b zero (suc (first_at_least l ns)) ≤ cond b zero (suc (first_at_least l (ns ++ ys)))
    pick more true = omega arith
    pick more false = omega (arith, more)

pub first_higher : (l k : ℕ) (ns : List ℕ) → l ≤ k → first_at_least l ns ≤ first_at_least k ns
first_higher l k [] le = omega arith
first_higher l k (n ∷ ns) le = pick (first_higher l k ns le) (nat_le l n) (nat_le k n) refl refl
  where
    pick : first_at_least l ns ≤ first_at_least k ns → (a b : Bool) → nat_le l n ≡ a → nat_le k n ≡ b → cond a zero (suc (first_at_least l ns)) ≤ cond b zero (suc (first_at_least k ns))
    pick more true b e f = omega arith
    pick more false true e f = let out = not_le l n e in let in_ = le_is k n f in absurd (omega (arith, le, out, in_))
    pick more false false e f = omega (arith, more)
