use Rattle.std.proofs.Common.{rules}
use Rattle.list_machine.specs.Generator.{is_refusal}
use Rattle.list_machine.proofs.Generating.{other_answer}
use Rattle.list_machine.proofs.generator.is_refusal.Goals as goal

pub returns-in-Refused : goal.returns-in-Refused
unfolding is_refusal
returns-in-Refused c = search rules

pub returns-in_default : goal.returns-in_default
returns-in_default c = other_answer c.args.answer.now c.in_default.not-Refused
