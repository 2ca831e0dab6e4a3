use Rattle.std.proofs.Common.{◌≡◌, ◌≤◌, ◌<◌, ◌^◌, ◌+◌, ◌-◌, ◌*◌, ◌%◌, ℕ, None, Some, refl, sym, ◌∙◌, arith, w64}
use Rattle.std.specs.Prelude.{slice_get}
use Rattle.std.specs.Int.{trailing_ones}
use Rattle.tree_shape.proofs.Merge.{the_merge, the_merge-some, the_merge-none, the_merge-one, ones_low, width_of, three_of}
use Rattle.tree_shape.specs.Mmb.{mmb_heights}
use Rattle.tree_shape.proofs.mmb.MmbFamily.parent.Goals as goal

differs : (n : ℕ) → n < 2 ^ 62 → (n + 2 ≡ 1 * 2 ^ trailing_ones w64 (n + 1) % 18446744073709551616 → ⊥) → (n + 2 ≡ 2 ^ trailing_ones w64 (n + 1) → ⊥)
differs n small ne e = ne (e ∙ sym (width_of n small))

pub returns-then-i-gt0-clause-value : goal.returns-then-i-gt0-clause-value
returns-then-i-gt0-clause-value c = the_merge-one (c.args.n + 1) 0 (mmb_heights c.args.n) c.args.i (omega arith)

nothing : (n i : ℕ) → n < 2 ^ 62 → n + 2 ≡ 1 * 2 ^ trailing_ones w64 (n + 1) % 18446744073709551616 → None ≡ slice_get (the_merge n) i
nothing n i small e = rw (the_merge-none n (e ∙ width_of n small)) refl

pub returns-then-n-width-clause-value : goal.returns-then-n-width-clause-value
returns-then-n-width-clause-value c = nothing c.args.n c.args.i c.requires (rw c.trailing_ones-ones.ensures at c.if-n-width.true)

fits : (n : ℕ) → n < 2 ^ 62 → (n + 2 ≡ 1 * 2 ^ trailing_ones w64 (n + 1) % 18446744073709551616 → ⊥) → 3 * (1 * 2 ^ trailing_ones w64 (n + 1) % 18446744073709551616) ≤ n + 2
fits n small ne = rw (width_of n small) (three_of n small (differs n small ne))

pub overflow_sub-result : goal.overflow_sub-result
overflow_sub-result c = let f = fits c.args.n c.requires (rw c.trailing_ones-ones.ensures at c.if-n-width.false) in rw c.trailing_ones-ones.ensures (omega (arith, f))

pub overflow_mul-result : goal.overflow_mul-result
overflow_mul-result c = let f = fits c.args.n c.requires (rw c.trailing_ones-ones.ensures at c.if-n-width.false) in rw c.trailing_ones-ones.ensures (omega (arith, f, c.requires))

pub overflow_sub-result-2 : goal.overflow_sub-result-2
overflow_sub-result-2 c = let f = fits c.args.n c.requires (rw c.trailing_ones-ones.ensures at c.if-n-width.false) in rw c.trailing_ones-ones.ensures (omega (arith, f))

something : (n i : ℕ) → n < 2 ^ 62 → i ≡ 0 → (n + 2 ≡ 1 * 2 ^ trailing_ones w64 (n + 1) % 18446744073709551616 → ⊥)
    → Some (n + 2 - 1 * 2 ^ trailing_ones w64 (n + 1) % 18446744073709551616 - 2 * (1 * 2 ^ trailing_ones w64 (n + 1) % 18446744073709551616), trailing_ones w64 (n + 1) + 1) ≡ slice_get (the_merge n) i
something n i small z ne = rw (z, the_merge-some n small (differs n small ne), width_of n small) refl

pub returns-clause-value : goal.returns-clause-value
returns-clause-value c = rw c.trailing_ones-ones.ensures (something c.args.n c.args.i c.requires (omega arith) (rw c.trailing_ones-ones.ensures at c.if-n-width.false))

pub returns-clause-low : goal.returns-clause-low
returns-clause-low c =
    let ne = rw c.trailing_ones-ones.ensures at c.if-n-width.false in
    let l = ones_low (trailing_ones w64 (c.args.n + 1)) c.args.n c.requires (three_of c.args.n c.requires (differs c.args.n c.requires ne)) in
    rw c.trailing_ones-ones.ensures (omega arith, omega arith, omega (arith, l))
