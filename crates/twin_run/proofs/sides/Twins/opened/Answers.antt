use Rattle.std.proofs.Common.{◌∙◌, ap}
use Rattle.command_text.specs.declared.command.Answer.TheVariants as answer
use Rattle.twin_batches.specs.Kind.{kept_of}
use Rattle.twin_databases.specs.FullKind.{full_kind}
use Rattle.twin_run.proofs.sides.Twins.opened.Goals as goal

pub returns : goal.returns
returns c = λ config image s of i.
    answer.Opened ((c.as_u64.ensures ∙ ap (λ d. d.size) (c.commitment.ensures
    ∙ full_kind.state_is (kept_of s) image c.args.self.now.full.db of.full.log)) i)
    (c.start.ensures image s of.full i)
