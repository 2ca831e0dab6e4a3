-- Decoding keyless operations is exact.
use Rattle.std.proofs.Common.{◌≡◌, ℕ, List, length}
use Rattle.codec_base.specs.Codec.{Reading, IsLawful}
use Rattle.codec_base.specs.Combine.{through_at, through_lawful}
use Rattle.op_codec.specs.Decoding.{IsExact}
use Rattle.op_codec.specs.Keyless.{IsAllowed, parts, of_parts, of_parts_of, parts_of_parts, variable_spelling, variable_admits, variable_at, variable_lawful, fixed_spelling, fixed_admits, fixed_at, fixed_lawful}
use Rattle.op_codec.specs.declared.keyless.Operation.{Operation}
use Rattle.op_codec.specs.declared.keyless.Operation.TheVariants.{Append, Commit}
use Rattle.op_codec.proofs.Exact.{exact_where, floor_to, filled_to, filled_from}

module _ (F V A C : Type 0) (spelling : A → List ℕ) (admits : A → Type 0) (reads : List ℕ → Reading A) (lawful : IsLawful spelling admits reads) where
  variable_to : (op : Operation F V A C) → IsAllowed admits op → variable_admits admits (parts op)
  variable_to (Append x) h = h
  variable_to (Commit m f) h = (h.0, floor_to f h.1)

  variable_from : (op : Operation F V A C) → variable_admits admits (parts op) → IsAllowed admits op
  variable_from (Append x) h = h
  variable_from (Commit m f) h = (h.0, h.1.1)

  fixed_to : (op : Operation F V A C) → IsAllowed admits op → fixed_admits admits (parts op)
  fixed_to (Append x) h = h
  fixed_to (Commit m f) h = (filled_to admits m h.0, floor_to f h.1)

  fixed_from : (op : Operation F V A C) → fixed_admits admits (parts op) → IsAllowed admits op
  fixed_from (Append x) h = h
  fixed_from (Commit m f) h = (filled_from admits m h.0, h.1.1)

  pub variable_exact : IsExact {A = Operation F V A C} (IsAllowed admits) (λ op. variable_spelling spelling (parts op)) (through_at of_parts (variable_at reads))
  variable_exact =
      exact_where _ _ _ _
      (through_lawful parts of_parts of_parts_of (parts_of_parts F V A C) (variable_spelling spelling) (variable_admits admits) (variable_at reads) (variable_lawful spelling admits reads lawful))
      variable_to variable_from

  module _ (width : ℕ) (one_width : (x : A) → admits x → length (spelling x) ≡ width) where
    pub fixed_exact : IsExact {A = Operation F V A C} (IsAllowed admits) (λ op. fixed_spelling width spelling (parts op)) (through_at of_parts (fixed_at width reads))
    fixed_exact =
        exact_where _ _ _ _
        (through_lawful parts of_parts of_parts_of (parts_of_parts F V A C) (fixed_spelling width spelling) (fixed_admits admits) (fixed_at width reads) (fixed_lawful spelling admits reads lawful width one_width))
        fixed_to fixed_from
