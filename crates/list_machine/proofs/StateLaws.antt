-- Where nothing clashes, size and root tell the lists of a good state.
use Rattle.std.proofs.Common.{◌≡◌, ℕ, zero, suc, ◌+◌, ◌^◌, ◌<◌, ◌≤◌, Bool, true, List, [], ◌∷◌, length, take, Option, Some, None, refl, sym, ap, subst, arith}
use Rattle.std.specs.Prelude.{unwrap_or, IfSome, Contains}
use Rattle.std.specs.List.{AllByRecursion}
use Rattle.std.proofs.lemmas.Bool.Decides.{same_from_decides}
use Rattle.std.specs.Option.{option_map_or}
use Rattle.std.proofs.lemmas.List.{length-take-le, take_all}
use Rattle.codec_base.specs.Parts.{admits_bytes}
use Rattle.tree_shape.specs.Mmr.{mmr}
use Rattle.tree_shape.specs.Sha256Codec.{bytes_of}
use Rattle.tree_shape.specs.declared.sha256.Sha256Digest.{Sha256Digest}
use Rattle.log_model.specs.Hashed.{NoClash}
use Rattle.log_model.specs.StateBatches.{Batch, UnsealedBatch, SealedBatch, Unsealed, Sealed, Gone}
use Rattle.log_model.specs.Machine.{State, SameTest, batch_at}
use Rattle.log_model.specs.Reach.{effective_boundary, tips_of, reach, stands_on, may_seal, may_apply, may_read_sealed, may_read_unsealed, as_sealed, linked}
use Rattle.log_model.proofs.ReachLemmas.{AllAgree, lists_decide, marks_here, stands_agree}
use Rattle.log_model.specs.Good.{FloorFits, FloorsRise, ValuesAre, IsGoodList, IsStand, IsMark, AreMarks, IsGoodBatch}
use Rattle.op_codec.specs.Keyless.{parts, variable_admits}
use Rattle.op_codec.specs.declared.keyless.Operation.TheVariants.{Append, Commit}
use Rattle.chain_core.specs.Commitments.{is_same-exact, is_same_equivalence}
use Rattle.list_machine.specs.Operation.{Operation, meaning, operation_decide, sha, one_list, same_operation}
use Rattle.list_machine.specs.Step.{root_of_list, plain_commit}
use Rattle.list_machine.specs.Commitments.{commitment_of, same_state}
use Rattle.list_machine.specs.GoodRuns.{IsGoodState}
use Rattle.list_machine.specs.Told.{StatesAreTold}

abbrev pub Allowed : ℕ → List ℕ → Type 0
Allowed limit v = length v ≤ limit

-- ---- operations of a good list have one spelling

abbrev pub Admits : ℕ → Operation → Type 0
Admits limit op = variable_admits (admits_bytes limit) (parts op)

-- the operation at location i of a list that a tree can hold
pub admits_one : (limit low i : ℕ) (op : Operation) → limit < 2 ^ 64 → i < 2 ^ 62 → IfSome (meaning.value op) (Allowed limit) → FloorFits low i (meaning.floor op) → Admits limit op
admits_one limit low i (Append v) small few value floor = (value, omega arith)
admits_one limit low i (Commit None floor) small few value fits = (tt, (omega (arith, fits.1), omega (arith, fits.1)))
admits_one limit low i (Commit (Some v) floor) small few value fits = ((value, omega arith), (omega (arith, fits.1), omega (arith, fits.1)))

pub admits_all : (limit low i : ℕ) (ops : List Operation) → limit < 2 ^ 64 → i + length ops ≤ 2 ^ 62 → ValuesAre meaning (Allowed limit) ops → FloorsRise meaning low i ops → AllByRecursion (Admits limit) ops
admits_all limit low i [] small few values floors = tt
admits_all limit low i (op ∷ ops) small few values floors =
    (admits_one limit low i op small (omega arith) values.0 floors.0, admits_all limit (unwrap_or (meaning.floor op) low) (i + 1) ops small (omega arith) values.1 floors.1)

pub all_take : (P : Operation → Type 0) (n : ℕ) (ops : List Operation) → AllByRecursion P ops → AllByRecursion P (take n ops)
all_take P zero ops all = tt
all_take P (suc n) [] all = tt
all_take P (suc n) (op ∷ ops) all = (all.0, all_take P n ops all.1)

-- ---- size and root tell two lists of the run

-- what the law of clashes says of the run's operations
abbrev pub RootsTellLists : ℕ → Type 0
RootsTellLists limit = (lists : List (List Operation)) (first second : List Operation) → NoClash mmr sha meaning lists → Contains lists first → Contains lists second
    → AllByRecursion (Admits limit) first → AllByRecursion (Admits limit) second → length first ≤ 2 ^ 62 → length second ≤ 2 ^ 62 → root_of_list first ≡ root_of_list second → first ≡ second

-- digests with the same bytes are one
same_digest : (x y : Sha256Digest) → bytes_of x ≡ bytes_of y → x ≡ y
same_digest x y e = ap (λ (b : List ℕ). record { bytes = b }) e

-- one of these lists, whose operations are allowed, and that a tree can hold
record Fits (limit : ℕ) (lists : List (List Operation)) (list : List Operation) : Type 0 where
  pub has : Contains lists list
  pub all : AllByRecursion (Admits limit) list
  pub few : length list ≤ 2 ^ 62

module _ (limit : ℕ) (small : limit < 2 ^ 64) (law : RootsTellLists limit) (lists : List (List Operation)) (none : NoClash mmr sha meaning lists) where
  one_told : (first second : List Operation) → Fits limit lists first → Fits limit lists second → same_state first second ≡ true → first ≡ second
  one_told first second a b e =
      law lists first second none a.has b.has a.all b.all a.few b.few (ap (λ c. c.root) (is_same-exact bytes_of same_digest (commitment_of first) (commitment_of second) e))

  one_tells : (first second : List Operation) → first ≡ second → same_state first second ≡ true
  one_tells first second e = subst (λ (list : List Operation). same_state first list ≡ true) e ((is_same_equivalence bytes_of).refl (commitment_of first))

  tests_agree : (first second : List Operation) → Fits limit lists first → Fits limit lists second → same_state first second ≡ one_list first second
  tests_agree first second a b =
      same_from_decides (same_state first second) (one_list first second) (one_told first second a b, one_tells first second) (lists_decide same_operation operation_decide first second)

  -- the lists at which the log may stand
  abbrev Among : List Operation → Type 0
  Among list = Contains lists list

  abbrev IsGoodHere : List Operation → Type 0
  IsGoodHere list = IsGoodList meaning Among (Allowed limit) plain_commit list

  all_admitted : (list : List Operation) → IsGoodHere list → AllByRecursion (Admits limit) list
  all_admitted list g = admits_all limit 0 0 list small (omega (arith, g.few)) g.values g.floors

  list_fits : (list : List Operation) → IsGoodHere list → Fits limit lists list
  list_fits list g = record { has = g.stand.1; all = all_admitted list g; few = g.few }

  mark_fits : (list : List Operation) (n : ℕ) → IsGoodHere list → IsMark meaning Among list n → Fits limit lists (take n list)
  mark_fits list n g mark = record {
    has = mark.1.1;
    all = all_take (Admits limit) n list (all_admitted list g);
    few = omega (arith, length-take-le n list mark.0, mark.0, g.few);
  }

  -- ---- so both tests stand on the same places

  module _ (s : State Operation) (g : IsGoodState Among limit s) where
    mark_agrees : (list : List Operation) (n : ℕ) → IsGoodHere list → IsMark meaning Among list n → same_state s.ops (take n list) ≡ one_list s.ops (take n list)
    mark_agrees list n good mark = tests_agree s.ops (take n list) (list_fits s.ops g.good.ops) (mark_fits list n good mark)

    marks_agree : (list : List Operation) (ns : List ℕ) → IsGoodHere list → AreMarks meaning Among list ns → AllAgree same_state one_list s list ns
    marks_agree list [] good marks = tt
    marks_agree list (n ∷ ns) good marks = (mark_agrees list n good marks.0, marks_agree list ns good marks.1)

    stand_same : (list : List Operation) (boundary : ℕ) (tips : List ℕ) → IsGoodHere list → IsMark meaning Among list boundary → AreMarks meaning Among list tips
        → stands_on same_state s list boundary tips ≡ stands_on one_list s list boundary tips
    stand_same list boundary tips good mark marks = stands_agree same_state one_list s list boundary tips (mark_agrees list boundary good mark) (marks_agree list tips good marks)

    seals_same : (b : ℕ) (u : UnsealedBatch Operation) → batch_at s b ≡ Unsealed u → may_seal same_state s u ≡ may_seal one_list s u
    seals_same b u is =
        let good : IsGoodBatch meaning Among (Allowed limit) plain_commit (Unsealed u) = subst (IsGoodBatch meaning Among (Allowed limit) plain_commit) is (g.good.batches b) in
        let marks = marks_here meaning Among (Allowed limit) plain_commit s g.good b u is in
        stand_same u.list (effective_boundary s u) (tips_of (reach s u)) good.0 marks.0 marks.1

    applies_same : (b : ℕ) (c : SealedBatch Operation) → batch_at s b ≡ Sealed c → may_apply same_state s c ≡ may_apply one_list s c
    applies_same b c is =
        let good : IsGoodBatch meaning Among (Allowed limit) plain_commit (Sealed c) = subst (IsGoodBatch meaning Among (Allowed limit) plain_commit) is (g.good.batches b) in
        stand_same c.list c.boundary c.tips good.0 good.2 good.3

    -- ---- and so they do for reads

    -- a good list is its own mark
    whole_mark : (list : List Operation) → IsGoodHere list → IsMark meaning Among list (length list)
    whole_mark list good = (omega arith, subst (IsStand meaning Among) (sym (take_all (length list) list (omega arith))) good.stand)

    sealed_reads_same : (b : ℕ) (c : SealedBatch Operation) → batch_at s b ≡ Sealed c → may_read_sealed same_state s c ≡ may_read_sealed one_list s c
    sealed_reads_same b c is =
        let good : IsGoodBatch meaning Among (Allowed limit) plain_commit (Sealed c) = subst (IsGoodBatch meaning Among (Allowed limit) plain_commit) is (g.good.batches b) in
        stand_same c.list c.boundary (length c.list ∷ c.tips) good.0 good.2 (whole_mark c.list good.0, good.3)

    -- an unsealed batch by its parent, or by its own list
    abbrev ReadBy : SameTest Operation → Bool → Option (SealedBatch Operation) → Bool
    ReadBy same here parent = option_map_or (λ (c : SealedBatch Operation). may_read_sealed same s c) parent here

    parent_reads : (here here' : Bool) → here ≡ here' → (p : ℕ) (x : Batch Operation) → batch_at s p ≡ x → ReadBy same_state here (as_sealed x) ≡ ReadBy one_list here' (as_sealed x)
    parent_reads here here' same p (Unsealed u) is = same
    parent_reads here here' same p (Sealed c) is = sealed_reads_same p c is
    parent_reads here here' same p Gone is = same

    linked_reads : (here here' : Bool) → here ≡ here' → (link : Option ℕ) → ReadBy same_state here (linked s link) ≡ ReadBy one_list here' (linked s link)
    linked_reads here here' same None = same
    linked_reads here here' same (Some p) = parent_reads here here' same p (batch_at s p) refl

    unsealed_reads_same : (b : ℕ) (u : UnsealedBatch Operation) → batch_at s b ≡ Unsealed u → may_read_unsealed same_state s u ≡ may_read_unsealed one_list s u
    unsealed_reads_same b u is =
        let good : IsGoodBatch meaning Among (Allowed limit) plain_commit (Unsealed u) = subst (IsGoodBatch meaning Among (Allowed limit) plain_commit) is (g.good.batches b) in
        linked_reads (same_state s.ops u.list) (one_list s.ops u.list) (tests_agree s.ops u.list (list_fits s.ops g.good.ops) (list_fits u.list good.0)) u.parent

-- where nothing clashes, size and root tell the lists of a good state
pub are_told : (limit : ℕ) → limit < 2 ^ 64 → RootsTellLists limit → StatesAreTold limit
are_told limit small law lists s none g = record {
  seals = seals_same limit small law lists none s g;
  applies = applies_same limit small law lists none s g;
  sealed_reads = sealed_reads_same limit small law lists none s g;
  unsealed_reads = unsealed_reads_same limit small law lists none s g;
  parents = g.good.parents;
}
