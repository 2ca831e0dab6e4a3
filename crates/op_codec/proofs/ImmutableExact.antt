-- Decoding immutable operations is exact.
use Rattle.std.proofs.Common.{◌≡◌, ℕ, List, length}
use Rattle.codec_base.specs.Codec.{Reading, IsLawful}
use Rattle.codec_base.specs.Combine.{through_at, through_lawful}
use Rattle.op_codec.specs.Decoding.{IsExact}
use Rattle.op_codec.specs.Immutable.{IsAllowed, parts, of_parts, of_parts_of, parts_of_parts, variable_spelling, variable_admits, variable_at, variable_lawful, fixed_spelling, fixed_admits, fixed_at, fixed_lawful}
use Rattle.op_codec.specs.declared.immutable.Operation.{Operation}
use Rattle.op_codec.specs.declared.immutable.Operation.TheVariants.{Set, Commit}
use Rattle.op_codec.proofs.Exact.{exact_where, floor_to, filled_to, filled_from}

module _ (F K V D A C : Type 0) (sk : K → List ℕ) (pk : K → Type 0) (rk : List ℕ → Reading K) (lk : IsLawful sk pk rk)
    (sv : A → List ℕ) (pv : A → Type 0) (rv : List ℕ → Reading A) (lv : IsLawful sv pv rv) where
  variable_to : (op : Operation F K V D A C) → IsAllowed pk pv op → variable_admits pk pv (parts op)
  variable_to (Set k x) h = h
  variable_to (Commit m f) h = (h.0, floor_to f h.1)

  variable_from : (op : Operation F K V D A C) → variable_admits pk pv (parts op) → IsAllowed pk pv op
  variable_from (Set k x) h = h
  variable_from (Commit m f) h = (h.0, h.1.1)

  fixed_to : (op : Operation F K V D A C) → IsAllowed pk pv op → fixed_admits pk pv (parts op)
  fixed_to (Set k x) h = h
  fixed_to (Commit m f) h = (filled_to pv m h.0, floor_to f h.1)

  fixed_from : (op : Operation F K V D A C) → fixed_admits pk pv (parts op) → IsAllowed pk pv op
  fixed_from (Set k x) h = h
  fixed_from (Commit m f) h = (filled_from pv m h.0, h.1.1)

  pub variable_exact : IsExact {A = Operation F K V D A C} (IsAllowed pk pv) (λ op. variable_spelling sk sv (parts op)) (through_at of_parts (variable_at rk rv))
  variable_exact =
      exact_where _ _ _ _
      (through_lawful parts of_parts of_parts_of (parts_of_parts F K V D A C) (variable_spelling sk sv) (variable_admits pk pv) (variable_at rk rv) (variable_lawful sk pk rk lk sv pv rv lv))
      variable_to variable_from

  module _ (k v : ℕ) (one_k : (x : K) → pk x → length (sk x) ≡ k) (one_v : (x : A) → pv x → length (sv x) ≡ v) where
    pub fixed_exact : IsExact {A = Operation F K V D A C} (IsAllowed pk pv) (λ op. fixed_spelling k v sk sv (parts op)) (through_at of_parts (fixed_at k v rk rv))
    fixed_exact =
        exact_where _ _ _ _
        (through_lawful parts of_parts of_parts_of (parts_of_parts F K V D A C) (fixed_spelling k v sk sv) (fixed_admits pk pv) (fixed_at k v rk rv) (fixed_lawful sk pk rk lk sv pv rv lv k v one_k one_v))
        fixed_to fixed_from
