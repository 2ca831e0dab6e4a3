-- What a database serves of a list.
use Rattle.std.specs.Prelude.{◌≡◌, ℕ, ◌∷◌, [], List, map}
use Rattle.std.specs.NonZero.{non_zero_u64_get}
use Rattle.tree_shape.specs.Hashing.{Hashing}
use Rattle.tree_shape.specs.Shape.{Shape, peaks}
use Rattle.tree_shape.specs.Slow.{node_of}
use Rattle.target_codec.specs.declared.request.Request.{Request}
use Rattle.target_codec.specs.declared.request.Request.TheVariants as request
use Rattle.target_codec.specs.declared.response.Response.{Response}
use Rattle.target_codec.specs.declared.response.Response.TheVariants.{Operations, Boundary}
use Rattle.log_model.specs.Meaning.{Meaning}
use Rattle.log_model.specs.Operations.{leaves_from}
use Rattle.log_model.specs.Proofs.{proof_answer, proof_end}

-- How many operations a request is answered with at most: of a boundary the one there.
abbrev pub most_of : {F : Type 0} → Request F → ℕ
most_of (request.Operations n a most) = non_zero_u64_get most
most_of (request.Boundary n a most) = 1

module _ {F D Op V : Type 0} (s : Shape) (h : Hashing D) (m : Meaning Op V) (ops : List Op) where
  -- It has the list's proof of the one operation at a in the first n, this operation, and the list's nodes at the peaks
  -- of those before it.
  abbrev pub IsBoundaryAt : ℕ → ℕ → Response F Op D → Type 0
  IsBoundaryAt n a (Boundary proof op pins) =
      ((proof, op ∷ []) ≡ proof_answer s h m ops n a (proof_end n a 1)) × (pins ≡ map (node_of s h (leaves_from s h m 0 ops)) (peaks s a))
  IsBoundaryAt n a (Operations proof operations) = ⊥

  -- To a request for operations it has the list's proof of them, and these; to one for a boundary the one operation
  -- there.
  abbrev pub IsResponseTo : Request F → Response F Op D → Type 0
  IsResponseTo (request.Operations n a most) (Operations proof operations) =
      (proof, operations) ≡ proof_answer s h m ops n a (proof_end n a (non_zero_u64_get most))
  IsResponseTo (request.Boundary n a most) response = IsBoundaryAt n a response
  IsResponseTo (request.Operations n a most) (Boundary proof op pins) = ⊥
