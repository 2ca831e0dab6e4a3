-- The entries of an ordered map, as pairs of byte lists.
use Rattle.std.specs.Prelude.{ℕ, List, map}
use Rattle.std.specs.Global.{Vec}
use Rattle.std.specs.Map.Iter.{ShowsInOrder, deref_pair}

-- a key with its value
abbrev pub Entry : Type 0
Entry = Vec ℕ × List ℕ

abbrev pub pair_of : Entry → List ℕ × List ℕ
pair_of entry = (entry.0.items, entry.1)

abbrev pub pairs_of : List Entry → List (List ℕ × List ℕ)
pairs_of entries = map pair_of entries

-- an iterator over the entries gives them from the first on
abbrev pub GivesEntries : Type 0
GivesEntries = ShowsInOrder (deref_pair {K = Vec ℕ} {X = List ℕ})
