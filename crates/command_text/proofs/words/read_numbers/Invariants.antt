use Rattle.std.proofs.Common.{length}
use Rattle.command_text.proofs.NumberWords.{AreReadSoFar}
use Rattle.command_text.proofs.words.read_numbers.Given as goal

abbrev pub invariant-loop-word : goal.invariant-loop-word
invariant-loop-word l = AreReadSoFar l.fn.words l.numbers l.words

abbrev pub decreases-loop-word : goal.decreases-loop-word
decreases-loop-word l = length l.words
