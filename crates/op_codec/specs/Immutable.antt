-- What an immutable operation means, and its two encodings.
use Rattle.std.proofs.Common.{◌≡◌, ℕ, ◌+◌, ◌-◌, ◌≤◌, max, List, ◌++◌, length, Option, Some, None, Bool, true, false, refl, arith, inl, inr, ◌⊎◌}
use Rattle.std.proofs.lemmas.List.{length-append}
use Rattle.codec_base.specs.declared.error.CodecError.TheVariants.{InvalidEnum}
use Rattle.codec_base.specs.Codec.{Reading, IsLawful, held}
use Rattle.codec_base.specs.Parts.{admits_optional}
use Rattle.codec_base.specs.Combine.{pair_spelling, pair_admits, pair_at, pair_lawful, choice_spelling, choice_admits, choice_at, choice_lawful, zeros, length-zeros, sized_at, sized_lawful}
use Rattle.op_codec.specs.declared.immutable.Operation.{Operation}
use Rattle.op_codec.specs.declared.immutable.Operation.TheVariants.{Set, Commit}
use Rattle.log_model.specs.Machine.{max_leaves}
use Rattle.op_codec.specs.Commits.{Commits, variable_commit, admits_commit, variable_commit_at, variable_commit_lawful, padded, padded_at, padded_lawful, fixed_commit, admits_fixed_commit, fixed_commit_at, fixed_commit_lawful, fixed_commit_length}

-- a key and its value, or a commit's metadata and floor
abbrev pub Parts : Type 0 → Type 0 → Type 0
Parts K A = (K × A) ⊎ Commits A

module _ {F K V D A C : Type 0} where
  abbrev pub parts : Operation F K V D A C → Parts K A
  parts (Set k x) = inl (k, x)
  parts (Commit m floor) = inr (m, floor)

  abbrev pub of_parts : Parts K A → Operation F K V D A C
  of_parts (inl p) = Set p.0 p.1
  of_parts (inr p) = Commit p.0 p.1

  pub of_parts_of : (op : Operation F K V D A C) → of_parts (parts op) ≡ op
  of_parts_of (Set k x) = refl
  of_parts_of (Commit m floor) = refl

  -- the key that is set
  abbrev pub key_of : Operation F K V D A C → Option K
  key_of (Set k x) = Some k
  key_of (Commit m floor) = None

  -- the value; of a commit, its metadata
  abbrev pub value_of : Operation F K V D A C → Option A
  value_of (Set k x) = Some x
  value_of (Commit m floor) = m

  -- the floor of a commit
  abbrev pub floor_of : Operation F K V D A C → Option ℕ
  floor_of (Set k x) = None
  floor_of (Commit m floor) = Some floor

  abbrev pub sets : Operation F K V D A C → Bool
  sets (Set k x) = true
  sets (Commit m floor) = false

  abbrev pub commits : Operation F K V D A C → Bool
  commits (Set k x) = false
  commits (Commit m floor) = true

  -- its key and its value are allowed; of a commit, its metadata, and its floor is a number of leaves of a tree
  abbrev pub IsAllowed : (K → Type 0) → (A → Type 0) → Operation F K V D A C → Type 0
  IsAllowed key value (Set k x) = key k × value x
  IsAllowed key value (Commit m floor) = admits_optional value m × (floor ≤ max_leaves)

pub parts_of_parts : (F K V D A C : Type 0) (p : Parts K A) → parts (of_parts {F = F} {V = V} {D = D} {C = C} p) ≡ p
parts_of_parts F K V D A C (inl p) = refl
parts_of_parts F K V D A C (inr p) = refl

-- ---- variable: 00, key, value; 01, option, floor as varint

abbrev pub variable_spelling : {K A : Type 0} → (K → List ℕ) → (A → List ℕ) → Parts K A → List ℕ
variable_spelling key value = choice_spelling (pair_spelling key value) (variable_commit value)

abbrev pub variable_admits : {K A : Type 0} → (K → Type 0) → (A → Type 0) → Parts K A → Type 0
variable_admits key value = choice_admits (pair_admits key value) (admits_commit value)

abbrev pub variable_at : {K A : Type 0} → (List ℕ → Reading K) → (List ℕ → Reading A) → List ℕ → Reading (Parts K A)
variable_at key value = choice_at InvalidEnum (pair_at key value) (variable_commit_at value)

-- ---- fixed: 00, key, value; 01, option byte, value or as many zeros, floor in eight bytes; each with zeros to the size

-- max(1 + K + V, 1 + 1 + V + 8) bytes
abbrev pub fixed_width : ℕ → ℕ → ℕ
fixed_width k v = max (1 + (k + v)) (1 + (v + 9))

-- the zeros behind a set, and behind a commit
abbrev pub set_padding : ℕ → ℕ
set_padding k = 9 - k

abbrev pub commit_padding : ℕ → ℕ
commit_padding k = k - 9

abbrev pub fixed_spelling : {K A : Type 0} → ℕ → ℕ → (K → List ℕ) → (A → List ℕ) → Parts K A → List ℕ
fixed_spelling k v key value =
    choice_spelling (padded (set_padding k) (pair_spelling key value))
    (padded (commit_padding k) (fixed_commit v value))

abbrev pub fixed_admits : {K A : Type 0} → (K → Type 0) → (A → Type 0) → Parts K A → Type 0
fixed_admits key value = choice_admits (pair_admits key value) (admits_fixed_commit value)

-- the whole length is tested first
abbrev pub fixed_at : {K A : Type 0} → ℕ → ℕ → (List ℕ → Reading K) → (List ℕ → Reading A) → List ℕ
    → Reading (Parts K A)
fixed_at k v key value =
    sized_at (held (fixed_width k v))
    (choice_at InvalidEnum (padded_at (set_padding k) (pair_at key value))
    (padded_at (commit_padding k) (fixed_commit_at v value)))

module _ {K A : Type 0} (sk : K → List ℕ) (pk : K → Type 0) (rk : List ℕ → Reading K) (lk : IsLawful sk pk rk)
    (sv : A → List ℕ) (pv : A → Type 0) (rv : List ℕ → Reading A) (lv : IsLawful sv pv rv) where
  pub variable_lawful : IsLawful (variable_spelling sk sv) (variable_admits pk pv) (variable_at rk rv)
  variable_lawful =
      choice_lawful InvalidEnum _ _ _ _ _ _ (pair_lawful sk sv pk pv rk rv lk lv) (variable_commit_lawful sv pv rv lv)

  module _ (k v : ℕ) (one_k : (x : K) → pk x → length (sk x) ≡ k) (one_v : (x : A) → pv x → length (sv x) ≡ v) where
    pub fixed_length : (p : Parts K A) → fixed_admits pk pv p → length (fixed_spelling k v sk sv p) ≡ fixed_width k v
    fixed_length (inl p) h =
        omega (
          arith,
          length-append (sk p.0 ++ sv p.1) (zeros (set_padding k)),
          length-append (sk p.0)
              (sv p.1),
          one_k p.0 h.0,
          one_v p.1 h.1,
          length-zeros (set_padding k),
        )
    fixed_length (inr c) h =
        omega (
          arith,
          length-append (fixed_commit v sv c)
              (zeros (commit_padding k)),
          fixed_commit_length v sv pv one_v c h,
          length-zeros (commit_padding k),
        )

    pub fixed_lawful : IsLawful (fixed_spelling k v sk sv) (fixed_admits pk pv) (fixed_at k v rk rv)
    fixed_lawful =
        sized_lawful (held (fixed_width k v)) _ _ _
        (choice_lawful InvalidEnum _ _ _ _ _ _
        (padded_lawful _ _ _ (pair_lawful sk sv pk pv rk rv lk lv) (set_padding k))
        (padded_lawful _ _ _ (fixed_commit_lawful sv pv rv lv v) (commit_padding k)))
        (λ x h. omega (arith, fixed_length x h))
