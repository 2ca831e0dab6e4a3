-- Applied sizes.
use Rattle.std.specs.Prelude.{◌≡◌, ℕ, zero, suc, ◌<◌, nat_le, List, [], ◌∷◌, if◌then◌else◌}

-- From this size on they rise strictly, to that one.
abbrev pub RiseTo : ℕ → ℕ → List ℕ → Type 0
RiseTo low high [] = low ≡ high
RiseTo low high (n ∷ ns) = (low < n) × RiseTo n high ns

-- They begin with 1, rise strictly, and end with the length of the list.
abbrev pub AreSizes : ℕ → List ℕ → Type 0
AreSizes total [] = ⊥
AreSizes total (n ∷ ns) = (n ≡ 1) × RiseTo 1 total ns

-- Those that are at most this.
abbrev pub sizes_to : ℕ → List ℕ → List ℕ
sizes_to most [] = []
sizes_to most (n ∷ ns) = if nat_le n most then n ∷ sizes_to most ns else []

-- The index of the first size that is at least this; their number where none is.
abbrev pub first_at_least : ℕ → List ℕ → ℕ
first_at_least least [] = zero
first_at_least least (n ∷ ns) = if nat_le least n then zero else suc (first_at_least least ns)
