-- The parts of an operation's text: a value by its encoding, a key by its raw bytes.
use Rattle.std.specs.Prelude.{ℕ, List, ◌++◌, codes, decimal, Option, Some, None}
use Rattle.hex.specs.Hex.{encode_lower}

abbrev pub append_text : List ℕ → List ℕ
append_text value = codes "[append value:" ++ encode_lower value ++ codes "]"

abbrev pub set_text : List ℕ → List ℕ → List ℕ
set_text key value = codes "[key:" ++ encode_lower key ++ codes " value:" ++ encode_lower value ++ codes "]"

abbrev pub commit_text : {A : Type 0} → (A → List ℕ) → Option A → ℕ → List ℕ
commit_text spelling None floor = codes "[commit floor:" ++ decimal floor ++ codes "]"
commit_text spelling (Some x) floor =
    codes "[commit " ++ encode_lower (spelling x) ++ codes " floor:" ++ decimal floor ++ codes "]"
