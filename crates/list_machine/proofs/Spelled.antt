-- How many bytes an operation has.
use Rattle.std.proofs.Common.{ℕ, zero, suc, ◌+◌, ◌/◌, ◌%◌, ◌<◌, ◌≤◌, ◌^◌, List, [], ◌∷◌, length, map, Some, None, arith}
use Rattle.std.specs.Prelude.{nat_lt, slice_index_or}
use Rattle.std.specs.List.{AllByRecursion}
use Rattle.std.proofs.lemmas.List.{length-append}
use Rattle.codec_base.specs.Parts.{byte_list}
use Rattle.codec_base.specs.Varint.{groups, varint}
use Rattle.log_model.proofs.SizeLemmas.{either}
use Rattle.op_codec.specs.declared.keyless.Operation.TheVariants.{Append, Commit}
use Rattle.list_machine.specs.Operation.{Operation, meaning}
use Rattle.list_machine.proofs.StateLaws.{Admits}

few_groups : (more n : ℕ) → length (groups more n) ≤ more + 1
unfolding groups
few_groups zero n = omega arith
few_groups (suc more) n =
    either (λ (bytes : List ℕ). length bytes ≤ suc more + 1) (nat_lt n 128) (n ∷ [])
    ((n % 128 + 128) ∷ groups more (n / 128)) (λ e. omega arith)
    (λ e. (let later = few_groups more (n / 128) in omega (arith, later)))

few_bytes : (n : ℕ) → length (varint n) ≤ 10
unfolding varint
few_bytes n = few_groups 9 n

module _ (limit : ℕ) (small : limit ≤ 16777216) where
  short_value : (v : List ℕ) → length v ≤ limit → length (byte_list v) ≤ limit + 10
  short_value v le = omega (arith, length-append (varint (length v)) v, few_bytes (length v), le)

  short : (op : Operation) → Admits limit op → length (meaning.encoding op) < 2 ^ 64
  short (Append v) admits = (let le = short_value v admits.0 in omega (arith, le, small))
  short (Commit None floor) admits = omega (arith, few_bytes floor)
  short (Commit (Some v) floor) admits =
      let le = short_value v admits.0.0 in
      omega (arith, le, small, few_bytes floor, length-append (byte_list v) (varint floor))

  pub short_at : (ops : List Operation) (i : ℕ) → AllByRecursion (Admits limit) ops
      → length (slice_index_or (map meaning.encoding ops) i []) < 2 ^ 64
  short_at [] zero all = omega arith
  short_at [] (suc i) all = omega arith
  short_at (op ∷ ops) zero all = short op all.0
  short_at (op ∷ ops) (suc i) all = short_at ops i all.1
