-- What is hashed: the inputs of leaves, nodes, folds and roots.
use Rattle.std.specs.Prelude.{ℕ, List, ◌∷◌, ◌++◌}
use Rattle.std.specs.Int.{w64, to_be_bytes}

-- a hash function: the digest of a message, and the bytes of a digest
pub record Hashing (D : Type 0) : Type 0 where
  pub digest : List ℕ → D
  pub bytes : D → List ℕ

-- a number in 8 bytes, high byte first
unfoldable pub number : ℕ → List ℕ
number n = to_be_bytes w64 n

abbrev pub leaf_input : ℕ → List ℕ → List ℕ
leaf_input position element = (0 ∷ number position) ++ element

abbrev pub node_input : {D : Type 0} → Hashing D → ℕ → D → D → List ℕ
node_input h position left right = ((1 ∷ number position) ++ h.bytes left) ++ h.bytes right

abbrev pub fold_input : {D : Type 0} → Hashing D → D → D → List ℕ
fold_input h a b = (2 ∷ h.bytes a) ++ h.bytes b
