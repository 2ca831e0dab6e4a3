-- What words and lines say, whatever the commands are.
use Rattle.std.specs.Prelude.{◌≡◌, ℕ, ◌/◌, ◌%◌, ◌^◌, ◌<◌, List, [], ◌∷◌, Option, Some, None, MatchOption, codes, decimal}
use Rattle.hex.specs.Hex.{hex_digit_value}

-- what is found has P, and nothing is found where nothing has it
abbrev pub IsTheOne : {A : Type 0} → Option A → (A → Type 0) → Type 0
IsTheOne {A} found P = MatchOption found ((a : A) → P a → ⊥) P

-- each byte stands in two digits, of either case, the high half first
abbrev pub IsHex : List ℕ → List ℕ → Type 0
IsHex [] [] = Unit {0}
IsHex [] (b ∷ bytes) = ⊥
IsHex (digit ∷ []) bytes = ⊥
IsHex (high ∷ low ∷ text) [] = ⊥
IsHex (high ∷ low ∷ text) (b ∷ bytes) = (hex_digit_value high ≡ Some (b / 16)) × (hex_digit_value low ≡ Some (b % 16)) × IsHex text bytes

-- a full stop stands for no bytes
abbrev pub IsBytesWord : List ℕ → List ℕ → Type 0
IsBytesWord text [] = text ≡ codes "."
IsBytesWord text (b ∷ bytes) = IsHex text (b ∷ bytes)

-- a hyphen stands for none
abbrev pub IsOptionalWord : List ℕ → Option (List ℕ) → Type 0
IsOptionalWord text None = text ≡ codes "-"
IsOptionalWord text (Some bytes) = IsBytesWord text bytes

-- the word is the number, in decimal
pub record IsNumberWord (text : List ℕ) (n : ℕ) : Type 0 where
  pub digits : text ≡ decimal n
  pub fits : n < 2 ^ 64

-- the number that the first word is, behind which these are left; none where it is none
abbrev pub IsFirstNumber : List (List ℕ) → List (List ℕ) → Option ℕ → Type 0
IsFirstNumber words left found = MatchOption found
    ((word : List ℕ) (rest : List (List ℕ)) (n : ℕ) → words ≡ word ∷ rest → IsNumberWord word n → ⊥)
    (λ n. (word : List ℕ) × (words ≡ word ∷ left) × IsNumberWord word n)

-- the number that the only word is; none where it is none
abbrev pub IsOnlyNumber : List (List ℕ) → Option ℕ → Type 0
IsOnlyNumber words found = MatchOption found
    ((word : List ℕ) (n : ℕ) → words ≡ word ∷ [] → IsNumberWord word n → ⊥)
    (λ n. (word : List ℕ) × (words ≡ word ∷ []) × IsNumberWord word n)

-- an empty line, or a comment, which begins with a number sign
abbrev pub IsSkipped : List ℕ → Type 0
IsSkipped [] = Unit {0}
IsSkipped (b ∷ line) = b ≡ 35
