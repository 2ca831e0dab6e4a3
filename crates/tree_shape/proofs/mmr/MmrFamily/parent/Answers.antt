use Rattle.std.proofs.Common.{◌≡◌, ◌≤◌, ◌<◌, ◌^◌, ◌+◌, ◌-◌, ◌*◌, ◌%◌, ℕ, sym, arith, Some, None, w64}
use Rattle.std.specs.Prelude.{slice_get}
use Rattle.std.specs.Int.{trailing_ones}
use Rattle.tree_shape.specs.Mmr.{joins, mmr_heights}
use Rattle.tree_shape.proofs.MmrBits.{height_below, raised-zero, ends_in_trailing_ones, ones_fit, shifted_two, joins-some, joins-none}
use Rattle.tree_shape.proofs.mmr.MmrFamily.parent.Goals as goal

fits : (n i : ℕ) → n < 2 ^ 62 → i < trailing_ones w64 n → 2 ^ (i + 1) ≤ n + 1
fits n i small lt = ones_fit (trailing_ones w64 n) n i (ends_in_trailing_ones n (omega arith)) lt

some : (n i : ℕ) → n < 2 ^ 62 → i < trailing_ones w64 n
    → Some (n + 1 - 2 * 2 ^ i % 18446744073709551616, i + 1) ≡ slice_get (joins (n + 1) 0 (mmr_heights n)) i
some n i small lt =
    let le = fits n i small lt in
    let k : 0 + i + 1 ≡ i + 1 = omega arith in
    let at = joins-some (trailing_ones w64 n) (n + 1) 0 n i (ends_in_trailing_ones n (omega arith)) lt in
    rw (shifted_two i n small le) (sym (rw (k, raised-zero) at at))

none : (n i : ℕ) → n < 2 ^ 62 → trailing_ones w64 n ≤ i → None ≡ slice_get (joins (n + 1) 0 (mmr_heights n)) i
none n i small le = sym (rw raised-zero at (joins-none (trailing_ones w64 n) (n + 1) 0 n i (ends_in_trailing_ones n (omega arith)) le))

pub overflow_sub-result : goal.overflow_sub-result
overflow_sub-result c =
    let lt : c.args.i < trailing_ones w64 c.args.n = omega arith in
    let le = fits c.args.n c.args.i c.requires lt in
    rw (shifted_two c.args.i c.args.n c.requires le) le

low : (n i : ℕ) → n < 2 ^ 62 → i < trailing_ones w64 n → i < 62
low n i small lt =
    let le = fits n i small lt in
    let b : i + 1 < 63 = height_below (i + 1) (omega (arith, le)) in
    omega (arith, b)

pub returns-then-i-trailing_ones-clause-value : goal.returns-then-i-trailing_ones-clause-value
returns-then-i-trailing_ones-clause-value c = some c.args.n c.args.i c.requires (omega arith)

pub returns-then-i-trailing_ones-clause-low : goal.returns-then-i-trailing_ones-clause-low
returns-then-i-trailing_ones-clause-low c = let b : c.args.i < 62 = low c.args.n c.args.i c.requires (omega arith) in (omega arith, omega arith, omega arith)

pub returns-else-i-trailing_ones-clause-value : goal.returns-else-i-trailing_ones-clause-value
returns-else-i-trailing_ones-clause-value c = none c.args.n c.args.i c.requires (omega arith)
