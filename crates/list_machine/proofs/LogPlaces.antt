-- Which positions a log has.
use Rattle.std.proofs.Common.{◌≡◌, ℕ, ◌<◌, ◌≤◌, Bool, true, false, ◌&&◌, refl, arith}
use Rattle.std.specs.Prelude.{nat_le, nat_lt}
use Rattle.std.proofs.lemmas.Bool.Decides.{nat_tests}
use Rattle.volume_base.specs.Log.{Log, end_of}
use Rattle.log_model.specs.Opening.{has}
use Rattle.log_model.proofs.SizeLemmas.{le_is, lt_is}

pub both_so : (x y : Bool) → (x && y) ≡ true → (x ≡ true) × (y ≡ true)
both_so true true e = (refl, refl)
both_so true false e = absurd cc
both_so false y e = absurd cc

-- where a log has a position
pub has_at : (log : Log) (p : ℕ) → log.start ≤ p → p < end_of log → has log p ≡ true
has_at log p low high = all (nat_le log.start p) (nat_lt p (end_of log)) (le_so log.start p low) (lt_so p (end_of log) high)
  where
    le_so : (m n : ℕ) → m ≤ n → nat_le m n ≡ true
    le_so m n le = grind (arith, nat_tests)

    lt_so : (m n : ℕ) → m < n → nat_lt m n ≡ true
    lt_so m n lt = grind (arith, nat_tests)

    all : (x y : Bool) → x ≡ true → y ≡ true → (x && y) ≡ true
    all true true e f = refl
    all true false e f = absurd cc
    all false y e f = absurd cc

pub at_has : (log : Log) (p : ℕ) → has log p ≡ true → (log.start ≤ p) × (p < end_of log)
at_has log p e = (let b = both_so (nat_le log.start p) (nat_lt p (end_of log)) e in (le_is log.start p b.0, lt_is p (end_of log) b.1))
