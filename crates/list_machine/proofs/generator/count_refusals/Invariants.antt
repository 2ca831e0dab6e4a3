use Rattle.std.proofs.Common.{◌≡◌, ◌≤◌, take}
use Rattle.list_machine.specs.Generator.{refusals}
use Rattle.list_machine.proofs.generator.count_refusals.Given as goal

abbrev pub invariant-loop-reply : goal.invariant-loop-reply
invariant-loop-reply l = record {
  counted : l.refused ≡ refusals (take l.reply-index l.replies);
  few : l.refused ≤ l.reply-index;
}
