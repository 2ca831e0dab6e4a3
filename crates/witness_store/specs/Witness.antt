-- What is kept of an applied state, and its spelling.
use Rattle.std.proofs.Common.{◌≡◌, ℕ, ◌+◌, ◌-◌, ◌^◌, List, ◌++◌, length, refl}
use Rattle.std.proofs.lemmas.List.{length-append}
use Rattle.codec_base.specs.declared.error.CodecError.TheVariants.{Invalid}
use Rattle.codec_base.specs.declared.error.InvalidAt.TheVariants as at
use Rattle.codec_base.specs.Codec.{Reading, IsLawful}
use Rattle.codec_base.specs.Varint.{varint, varint_at}
use Rattle.codec_base.specs.VarintLaws.{varint_lawful}
use Rattle.codec_base.specs.Laws.{below_64}
use Rattle.codec_base.specs.Parts.{byte_list, byte_list_at, admits_bytes, spelled_list, list_at, admits_list}
use Rattle.codec_base.specs.PartsLaws.{byte_list_lawful, list_lawful}
use Rattle.codec_base.specs.Combine.{pair_spelling, pair_admits, pair_at, pair_lawful, through_at, through_lawful, bounded_admits, bounded_at, bounded_lawful}
use Rattle.witness_store.specs.declared.witness.Witness.{Witness}

-- The commit's bytes, the size, and the pins.
abbrev pub Parts : Type 0 → Type 0
Parts D = List ℕ × (ℕ × List D)

module _ {F D : Type 0} where
  abbrev pub parts : Witness F D → Parts D
  parts w = (w.op_bytes, (w.size, w.pinned_nodes))

  abbrev pub of_parts : Parts D → Witness F D
  of_parts p = record { op_bytes = p.0; size = p.1.0; pinned_nodes = p.1.1 }

-- The bytes as a byte list, the size as a varint, and the pins as a list.
abbrev pub witness_spelling : {D : Type 0} → (D → List ℕ) → Parts D → List ℕ
witness_spelling spelling = pair_spelling byte_list (pair_spelling varint (spelled_list spelling))

-- A size is a number of leaves of a tree, and there are at most 64 pins.
abbrev pub witness_admits : {D : Type 0} → (D → Type 0) → Parts D → Type 0
witness_admits admits =
    pair_admits (admits_bytes (2 ^ 64 - 1)) (pair_admits (bounded_admits (2 ^ 62) below_64) (admits_list 64 admits))

abbrev pub witness_at : {D : Type 0} → (List ℕ → Reading D) → List ℕ → Reading (Parts D)
witness_at reads =
    pair_at (byte_list_at (2 ^ 64 - 1)) (pair_at (bounded_at (2 ^ 62) (Invalid at.Witness) varint_at) (list_at 64 reads))

-- The one spelling of a witness, and whether it is allowed, where digests are spelled and allowed so.
abbrev pub text_of : {F D : Type 0} → (D → List ℕ) → Witness F D → List ℕ
text_of spelling w = witness_spelling spelling (parts w)

abbrev pub IsAllowed : {F D : Type 0} → (D → Type 0) → Witness F D → Type 0
IsAllowed admits w = witness_admits admits (parts w)

pub witness_lawful : {F D : Type 0} (spelling : D → List ℕ) (admits : D → Type 0) (reads : List ℕ → Reading D) → IsLawful spelling admits reads
    → IsLawful (text_of {F = F} spelling) (IsAllowed admits) (through_at of_parts (witness_at reads))
witness_lawful spelling admits reads lawful =
    let size = bounded_lawful (2 ^ 62) (Invalid at.Witness) _ _ _ varint_lawful in
    let pins = list_lawful spelling admits reads lawful 64 in
    through_lawful parts of_parts (λ w. refl) (λ p. refl) _ _ _
    (pair_lawful _ _ _ _ _ _ (byte_list_lawful (2 ^ 64 - 1)) (pair_lawful _ _ _ _ _ _ size pins))

-- ---- lengths, for the code's sizes

pub both_sizes : (text more : List ℕ) → length (text ++ more) ≡ length text + length more
both_sizes text more = length-append text more

pub ruleset lengths = (both_sizes)
