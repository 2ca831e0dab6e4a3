-- The last digit of a number, behind the others.
use Rattle.std.proofs.Common.{◌≡◌, ℕ, ◌+◌, ◌/◌, ◌%◌, ◌^◌, ◌<◌, ◌≤◌, [], ◌∷◌}
use Rattle.std.specs.Prelude.{decimal}
use Rattle.std.proofs.lemmas.Fmt.{decimal_step}
use Rattle.stream_base.specs.Writing.{text_then}

pub decimal_then : (n : ℕ) → 10 ≤ n → n < 2 ^ 64 → decimal n ≡ text_then (decimal (n / 10)) ((48 + n % 10) ∷ [])
unfolding text_then
decimal_then n le fits = decimal_step n le fits
