use Rattle.std.proofs.Common.{ap}
use Rattle.command_text.specs.declared.command.Answer.TheVariants as answer
use Rattle.twin_batches.specs.Kind.{kept_of}
use Rattle.twin_side.proofs.side.Side.metadata.Goals as goal

pub returns-clause-ok : goal.returns-clause-ok
returns-clause-ok g c = λ image s is. ap answer.Metadata (c.in_ok-metadata.ensures.value (kept_of s) image is.log)
