-- Names that are one.
use Rattle.std.specs.Prelude.{ℕ, Bool, ◌||◌, nat_eq, List}
use Rattle.std.specs.Cmp.Lexicographic.{pointwise}

abbrev pub same_name : List ℕ → List ℕ → Bool
same_name a b = pointwise nat_eq a b

-- two of the four names are one
abbrev pub are_names_same : List ℕ → List ℕ → List ℕ → List ℕ → Bool
are_names_same log nodes metadata witness =
    same_name log nodes || same_name log metadata || same_name log witness || same_name nodes metadata
    || same_name nodes witness || same_name metadata witness
