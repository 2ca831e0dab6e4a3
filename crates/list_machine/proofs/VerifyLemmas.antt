-- The proofs that a run answers verify.
use Rattle.std.proofs.Common.{◌≡◌, ℕ, ◌<◌, ◌≤◌, ◌^◌, List, length, take, map, Option, Some, None, refl, subst, arith}
use Rattle.std.specs.NonZero.{non_zero_u64_get}
use Rattle.std.specs.declared.num.NonZeroU64.{NonZeroU64}
use Rattle.tree_shape.specs.Mmr.{mmr}
use Rattle.tree_shape.specs.declared.bagging.Bagging.TheVariants.{ForwardFold}
use Rattle.tree_shape.specs.declared.mmr.Mmr.{Mmr}
use Rattle.tree_proof.specs.Check.{Checks}
use Rattle.log_model.specs.Machine.{State}
use Rattle.log_model.specs.Operations.{root_of}
use Rattle.log_model.specs.Proofs.{proof_answer, proof_end, proof_refusal}
use Rattle.log_model.specs.declared.refusal.Refusal.{Refusal}
use Rattle.command_text.specs.declared.command.Answer.TheVariants as answer
use Rattle.command_text.specs.declared.command.ProofAnswer.{ProofAnswer}
use Rattle.list_machine.specs.Operation.{Operation, meaning, sha}
use Rattle.list_machine.specs.Step.{prove, proof_here, unless, root_of_list}

-- what the law of the database says of the run's operations
abbrev pub AnswersVerify : Type 0
AnswersVerify = (ops : List Operation) (start n a most : ℕ) → length ops ≤ 2 ^ 62 → 0 < most → proof_refusal meaning ops start n a ≡ None
    → Checks mmr sha ForwardFold (proof_answer mmr sha meaning {F = Mmr} ops n a (proof_end n a most)).0 a (map meaning.encoding (proof_answer mmr sha meaning {F = Mmr} ops n a (proof_end n a most)).1) (root_of mmr sha meaning (take n ops))

pub some_count : (count : NonZeroU64) → 0 < non_zero_u64_get count
some_count count = omega (arith, count.ok)

module _ (s : State Operation) (n a : ℕ) (count : NonZeroU64) (p : ProofAnswer) (few : length s.ops ≤ 2 ^ 62) (law : AnswersVerify) where
  abbrev pub IsShown : ProofAnswer → Type 0
  IsShown q = (q.start ≡ a) × Checks mmr sha ForwardFold q.proof a q.operations (root_of_list (take n s.ops))

  -- an answer that is a proof is that of the list
  by : (r : Option Refusal) → proof_refusal meaning s.ops s.start n a ≡ r
      → (unless s r (answer.Proof (proof_here s n a (proof_end n a (non_zero_u64_get count))))).0 ≡ answer.Proof p → IsShown p
  by (Some why) refused is = absurd cc
  by None passed is =
      let same : proof_here s n a (proof_end n a (non_zero_u64_get count)) ≡ p = cc in
      subst IsShown same (refl, law s.ops s.start n a (non_zero_u64_get count) few (some_count count) passed)

  pub verified : (prove s n a (non_zero_u64_get count)).0 ≡ answer.Proof p → IsShown p
  verified is = by (proof_refusal meaning s.ops s.start n a) refl is
