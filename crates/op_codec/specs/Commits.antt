-- How a commit's metadata and floor are spelled, in both encodings.
use Rattle.std.proofs.Common.{◌≡◌, ℕ, suc, ◌+◌, List, ◌++◌, length, Option, Some, None, refl, ap, arith, inl, inr, ◌⊎◌}
use Rattle.std.proofs.lemmas.List.{length-append}
use Rattle.codec_base.specs.declared.error.CodecError.{CodecError}
use Rattle.codec_base.specs.declared.error.CodecError.TheVariants.{Invalid}
use Rattle.codec_base.specs.declared.error.InvalidAt.TheVariants as at
use Rattle.codec_base.specs.Codec.{Reading, IsLawful}
use Rattle.codec_base.specs.Numbers.{u64_at}
use Rattle.codec_base.specs.Varint.{varint, varint_at}
use Rattle.codec_base.specs.VarintLaws.{varint_lawful}
use Rattle.codec_base.specs.Parts.{optional, optional_at, admits_optional}
use Rattle.codec_base.specs.PartsLaws.{optional_lawful}
use Rattle.codec_base.specs.Laws.{eight_bytes, below_64, u64_lawful}
use Rattle.log_model.specs.Machine.{max_leaves}
use Rattle.target_codec.specs.Target.{both_sizes}
use Rattle.codec_base.specs.Combine.{pair_spelling, pair_admits, pair_at, pair_lawful, choice_spelling, choice_admits, choice_at, choice_lawful, through_at, through_lawful, bounded_admits, bounded_at, bounded_lawful, zeros, zeros_at, zeros_spelling, anything, zeros_lawful, length-zeros}

-- a floor is a number of leaves of a tree
abbrev pub IsFloor : ℕ → Type 0
IsFloor = bounded_admits max_leaves below_64

-- a commit's metadata and its floor
abbrev pub Commits : Type 0 → Type 0
Commits A = Option A × ℕ

-- ---- variable: the option, and the floor as a varint

abbrev pub variable_commit : {A : Type 0} → (A → List ℕ) → Commits A → List ℕ
variable_commit spelling = pair_spelling (optional spelling) varint

abbrev pub admits_commit : {A : Type 0} → (A → Type 0) → Commits A → Type 0
admits_commit admits = pair_admits (admits_optional admits) IsFloor

abbrev pub floor_at : List ℕ → Reading ℕ
floor_at = bounded_at max_leaves (Invalid at.Location) varint_at

abbrev pub variable_commit_at : {A : Type 0} → (List ℕ → Reading A) → List ℕ → Reading (Commits A)
variable_commit_at reads = pair_at (optional_at reads) floor_at

pub floor_lawful : IsLawful varint IsFloor floor_at
floor_lawful = bounded_lawful max_leaves (Invalid at.Location) varint below_64 varint_at varint_lawful

-- ---- fixed: an option byte, the value or as many zeros, and the floor in eight bytes

-- a value and zeros behind it
abbrev pub padded : {A : Type 0} → ℕ → (A → List ℕ) → A → List ℕ
padded count spelling x = spelling x ++ zeros count

abbrev pub padded_at : {A : Type 0} → ℕ → (List ℕ → Reading A) → List ℕ → Reading A
padded_at count reads = through_at (λ p. p.0) (pair_at reads (zeros_at count))

abbrev pub maybe : {A : Type 0} → Option A → Unit {0} ⊎ A
maybe None = inl tt
maybe (Some x) = inr x

abbrev pub of_maybe : {A : Type 0} → Unit {0} ⊎ A → Option A
of_maybe (inl x) = None
of_maybe (inr x) = Some x

abbrev pub option_fault : ℕ → CodecError
option_fault flag = Invalid at.Option

-- 00 and zeros, or 01 and a value
abbrev pub filled : {A : Type 0} → ℕ → (A → List ℕ) → Option A → List ℕ
filled width spelling o = choice_spelling (zeros_spelling width) spelling (maybe o)

abbrev pub admits_filled : {A : Type 0} → (A → Type 0) → Option A → Type 0
admits_filled admits o = choice_admits anything admits (maybe o)

abbrev pub filled_at : {A : Type 0} → ℕ → (List ℕ → Reading A) → List ℕ → Reading (Option A)
filled_at width reads = through_at of_maybe (choice_at option_fault (zeros_at width) reads)

abbrev pub wide_floor_at : List ℕ → Reading ℕ
wide_floor_at = bounded_at max_leaves (Invalid at.Location) u64_at

abbrev pub fixed_commit : {A : Type 0} → ℕ → (A → List ℕ) → Commits A → List ℕ
fixed_commit width spelling = pair_spelling (filled width spelling) eight_bytes

abbrev pub admits_fixed_commit : {A : Type 0} → (A → Type 0) → Commits A → Type 0
admits_fixed_commit admits = pair_admits (admits_filled admits) IsFloor

abbrev pub fixed_commit_at : {A : Type 0} → ℕ → (List ℕ → Reading A) → List ℕ → Reading (Commits A)
fixed_commit_at width reads = pair_at (filled_at width reads) wide_floor_at

pub wide_floor_lawful : IsLawful eight_bytes IsFloor wide_floor_at
wide_floor_lawful = bounded_lawful max_leaves (Invalid at.Location) eight_bytes below_64 u64_at u64_lawful

-- ---- each is lawful where the value is

module _ {A : Type 0} (spelling : A → List ℕ) (admits : A → Type 0) (reads : List ℕ → Reading A)
    (lawful : IsLawful spelling admits reads) where
  pub variable_commit_lawful : IsLawful (variable_commit spelling) (admits_commit admits) (variable_commit_at reads)
  variable_commit_lawful = pair_lawful _ _ _ _ _ _ (optional_lawful spelling admits reads lawful) floor_lawful

  pub padded_lawful : (count : ℕ) → IsLawful (padded count spelling) admits (padded_at count reads)
  padded_lawful count =
      let both =
      pair_lawful spelling (zeros_spelling count) admits anything reads (zeros_at count) lawful
      (zeros_lawful count) in
      let here =
      through_lawful {A = A × Unit {0}} {B = A} (λ x. (x, tt)) (λ p. p.0) (λ x. refl) (λ p. refl)
      (pair_spelling spelling (zeros_spelling count)) (pair_admits admits anything)
      (pair_at reads (zeros_at count)) both in
      record {
        exact = λ bytes x rest fits e. let h = here.exact bytes x rest fits e in (h.0, h.1.0);
        again = λ x rest h. here.again x rest (h, tt);
      }

  of_maybe_of : (o : Option A) → of_maybe (maybe o) ≡ o
  of_maybe_of None = refl
  of_maybe_of (Some x) = refl

  maybe_of : (p : Unit {0} ⊎ A) → maybe (of_maybe p) ≡ p
  maybe_of (inl x) = refl
  maybe_of (inr x) = refl

  filled_lawful : (width : ℕ) → IsLawful (filled width spelling) (admits_filled admits) (filled_at width reads)
  filled_lawful width =
      through_lawful maybe of_maybe of_maybe_of maybe_of (choice_spelling (zeros_spelling width) spelling)
      (choice_admits anything admits) (choice_at option_fault (zeros_at width) reads)
      (choice_lawful option_fault _ _ _ _ _ _ (zeros_lawful width) lawful)

  pub fixed_commit_lawful : (width : ℕ)
      → IsLawful (fixed_commit width spelling) (admits_fixed_commit admits) (fixed_commit_at width reads)
  fixed_commit_lawful width = pair_lawful _ _ _ _ _ _ (filled_lawful width) wide_floor_lawful

module _ {A : Type 0} (width : ℕ) (spelling : A → List ℕ) (admits : A → Type 0)
    (one_width : (x : A) → admits x → length (spelling x) ≡ width) where
  filled_length : (o : Option A) → admits_filled admits o → length (filled width spelling o) ≡ suc width
  filled_length None h = ap suc (length-zeros width)
  filled_length (Some x) h = ap suc (one_width x h)

  pub fixed_commit_length : (c : Commits A) → admits_fixed_commit admits c
      → length (fixed_commit width spelling c) ≡ width + 9
  fixed_commit_length c h =
      omega (arith, length-append (filled width spelling c.0) (eight_bytes c.1), filled_length c.0 h.0)

-- ---- lengths, for the code's sizes

pub padded_size : (text : List ℕ) (count : ℕ) → length (text ++ zeros count) ≡ length text + count
padded_size text count = omega (arith, length-append text (zeros count), length-zeros count)

pub eight_more : (text : List ℕ) (n : ℕ) → length (text ++ eight_bytes n) ≡ length text + 8
eight_more text n = omega (arith, length-append text (eight_bytes n))

pub ruleset lengths = (padded_size, eight_more, length-zeros)

pub ruleset more_lengths = (padded_size, eight_more, length-zeros, both_sizes)
