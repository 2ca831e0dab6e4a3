-- Texts of numbers, digests and values.
use Rattle.std.specs.Prelude.{ℕ, List, [], ◌∷◌, Option, Some, None, codes, decimal}
use Rattle.stream_base.specs.Writing.{text_then}
use Rattle.hex.specs.Hex.{encode_lower}
use Rattle.tree_shape.specs.declared.sha256.Sha256Digest.{Sha256Digest}
use Rattle.tree_shape.specs.Sha256Codec.{bytes_of}

-- a word and a number behind it, in decimal
abbrev pub numbered : List ℕ → ℕ → List ℕ
numbered word n = text_then word (decimal n)

-- a word and a digest behind it, in hexadecimal
abbrev pub titled : List ℕ → Sha256Digest → List ℕ
titled word digest = text_then word (encode_lower (bytes_of digest))

-- no value is a hyphen, and no bytes a full stop
abbrev pub value_text : Option (List ℕ) → List ℕ
value_text None = codes "-"
value_text (Some []) = codes "."
value_text (Some (b ∷ bytes)) = encode_lower (b ∷ bytes)
