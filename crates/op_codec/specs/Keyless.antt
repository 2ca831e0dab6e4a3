-- What a keyless operation means, and its two encodings.
use Rattle.std.proofs.Common.{◌≡◌, ℕ, ◌+◌, ◌≤◌, List, length, Option, Some, None, Bool, true, false, refl, arith, inl, inr, ◌⊎◌}
use Rattle.std.proofs.lemmas.List.{length-append}
use Rattle.codec_base.specs.declared.error.CodecError.TheVariants.{InvalidEnum}
use Rattle.codec_base.specs.Codec.{Reading, IsLawful, held}
use Rattle.codec_base.specs.Parts.{admits_optional}
use Rattle.codec_base.specs.Combine.{choice_spelling, choice_admits, choice_at, choice_lawful, zeros, length-zeros, sized_at, sized_lawful}
use Rattle.op_codec.specs.declared.keyless.Operation.{Operation}
use Rattle.op_codec.specs.declared.keyless.Operation.TheVariants.{Append, Commit}
use Rattle.log_model.specs.Machine.{max_leaves}
use Rattle.op_codec.specs.Commits.{Commits, variable_commit, admits_commit, variable_commit_at, variable_commit_lawful, padded, padded_at, padded_lawful, fixed_commit, admits_fixed_commit, fixed_commit_at, fixed_commit_lawful, fixed_commit_length}

-- a commit's metadata and floor, or an append's value
abbrev pub Parts : Type 0 → Type 0
Parts A = Commits A ⊎ A

module _ {F V A C : Type 0} where
  abbrev pub parts : Operation F V A C → Parts A
  parts (Append x) = inr x
  parts (Commit m floor) = inl (m, floor)

  abbrev pub of_parts : Parts A → Operation F V A C
  of_parts (inl p) = Commit p.0 p.1
  of_parts (inr x) = Append x

  pub of_parts_of : (op : Operation F V A C) → of_parts (parts op) ≡ op
  of_parts_of (Append x) = refl
  of_parts_of (Commit m floor) = refl

  -- the value; of a commit, its metadata
  abbrev pub value_of : Operation F V A C → Option A
  value_of (Append x) = Some x
  value_of (Commit m floor) = m

  -- the floor of a commit
  abbrev pub floor_of : Operation F V A C → Option ℕ
  floor_of (Append x) = None
  floor_of (Commit m floor) = Some floor

  abbrev pub commits : Operation F V A C → Bool
  commits (Append x) = false
  commits (Commit m floor) = true

  -- its value is allowed; of a commit, its metadata, and its floor is a number of leaves of a tree
  abbrev pub IsAllowed : (A → Type 0) → Operation F V A C → Type 0
  IsAllowed admits (Append x) = admits x
  IsAllowed admits (Commit m floor) = admits_optional admits m × (floor ≤ max_leaves)

pub parts_of_parts : (F V A C : Type 0) (p : Parts A) → parts (of_parts {F = F} {V = V} {C = C} p) ≡ p
parts_of_parts F V A C (inl p) = refl
parts_of_parts F V A C (inr x) = refl

-- ---- variable: 00, option, floor as varint; 01, value

abbrev pub variable_spelling : {A : Type 0} → (A → List ℕ) → Parts A → List ℕ
variable_spelling spelling = choice_spelling (variable_commit spelling) spelling

abbrev pub variable_admits : {A : Type 0} → (A → Type 0) → Parts A → Type 0
variable_admits admits = choice_admits (admits_commit admits) admits

abbrev pub variable_at : {A : Type 0} → (List ℕ → Reading A) → List ℕ → Reading (Parts A)
variable_at reads = choice_at InvalidEnum (variable_commit_at reads) reads

-- ---- fixed: 00, option byte, value or as many zeros, floor in eight bytes; 01, value, nine zeros

-- 1 + 1 + V + 8 bytes
abbrev pub fixed_width : ℕ → ℕ
fixed_width width = width + 10

abbrev pub fixed_spelling : {A : Type 0} → ℕ → (A → List ℕ) → Parts A → List ℕ
fixed_spelling width spelling = choice_spelling (fixed_commit width spelling) (padded 9 spelling)

abbrev pub fixed_admits : {A : Type 0} → (A → Type 0) → Parts A → Type 0
fixed_admits admits = choice_admits (admits_fixed_commit admits) admits

-- the whole length is tested first
abbrev pub fixed_at : {A : Type 0} → ℕ → (List ℕ → Reading A) → List ℕ → Reading (Parts A)
fixed_at width reads =
    sized_at (held (fixed_width width)) (choice_at InvalidEnum (fixed_commit_at width reads) (padded_at 9 reads))

module _ {A : Type 0} (spelling : A → List ℕ) (admits : A → Type 0) (reads : List ℕ → Reading A)
    (lawful : IsLawful spelling admits reads) where
  pub variable_lawful : IsLawful (variable_spelling spelling) (variable_admits admits) (variable_at reads)
  variable_lawful = choice_lawful InvalidEnum _ _ _ _ _ _ (variable_commit_lawful spelling admits reads lawful) lawful

  module _ (width : ℕ) (one_width : (x : A) → admits x → length (spelling x) ≡ width) where
    pub fixed_length : (p : Parts A) → fixed_admits admits p
        → length (fixed_spelling width spelling p) ≡ fixed_width width
    fixed_length (inl c) h = omega (arith, fixed_commit_length width spelling admits one_width c h)
    fixed_length (inr x) h = omega (arith, length-append (spelling x) (zeros 9), one_width x h, length-zeros 9)

    pub fixed_lawful : IsLawful (fixed_spelling width spelling) (fixed_admits admits) (fixed_at width reads)
    fixed_lawful =
        sized_lawful (held (fixed_width width)) _ _ _
        (choice_lawful InvalidEnum _ _ _ _ _ _ (fixed_commit_lawful spelling admits reads lawful width)
        (padded_lawful spelling admits reads lawful 9))
        (λ x h. omega (arith, fixed_length x h))
