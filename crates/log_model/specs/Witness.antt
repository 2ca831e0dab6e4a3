-- Witnesses: what is kept of a list at a commit, so that the tree goes on from there without the list.
use Rattle.std.specs.Prelude.{ℕ, ◌-◌, List, [], ◌++◌, map, take, slice_index_or}
use Rattle.codec_base.specs.Varint.{varint}
use Rattle.codec_base.specs.Parts.{byte_list, spelled_list}
use Rattle.tree_shape.specs.Hashing.{Hashing}
use Rattle.tree_shape.specs.Shape.{Shape, peaks}
use Rattle.tree_shape.specs.Slow.{node_of}
use Rattle.log_model.specs.Meaning.{Meaning}
use Rattle.log_model.specs.Operations.{leaves_from}

module _ {D Op V : Type 0} (s : Shape) (h : Hashing D) (m : Meaning Op V) where
  -- The peaks of the tree of the first n operations, the oldest first.
  abbrev pub pins_of : List Op → ℕ → List D
  pins_of ops n = map (node_of s h (leaves_from s h m 0 (take n ops))) (peaks s n)

  -- The bytes of the last of the first operations, so many.
  abbrev pub last_bytes : List Op → ℕ → List ℕ
  last_bytes ops size = slice_index_or (map m.encoding ops) (size - 1) []

  -- The bytes of the witness of a list at a size: the commit there, the size, and the peaks of the tree before the commit.
  abbrev pub witness_text : (D → List ℕ) → List Op → ℕ → List ℕ
  witness_text spelling ops size =
      byte_list (last_bytes ops size) ++ (varint size ++ spelled_list spelling (pins_of ops (size - 1)))
