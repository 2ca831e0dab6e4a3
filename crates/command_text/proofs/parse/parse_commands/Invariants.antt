use Rattle.std.proofs.Common.{length}
use Rattle.line_text.specs.Lines.{lines_of}
use Rattle.command_text.proofs.CommandLines.{IsReadSoFar}
use Rattle.command_text.proofs.parse.parse_commands.Given as goal

abbrev pub invariant-loop-line : goal.invariant-loop-line
invariant-loop-line l = IsReadSoFar (lines_of l.input) l.commands.items l.number l.lines

abbrev pub decreases-loop-line : goal.decreases-loop-line
decreases-loop-line l = length l.lines
