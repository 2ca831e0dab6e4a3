-- The peaks of both families by the binary digits of a number, the newest first.
use Rattle.std.specs.Prelude.{ℕ, ◌+◌, ◌==◌, List, filter, map}
use Rattle.std.specs.Int.{bit_at}
use Rattle.std.specs.List.{range_with_len}

-- the places of the ones among the k lowest digits of n
abbrev pub ones : ℕ → ℕ → List ℕ
ones n k = filter (λ i. bit_at n i == 1) (range_with_len 0 k)

-- i + b(i) for each of the k lowest digits b(i) of n
abbrev pub raised_digits : ℕ → ℕ → List ℕ
raised_digits n k = map (λ i. i + bit_at n i) (range_with_len 0 k)
