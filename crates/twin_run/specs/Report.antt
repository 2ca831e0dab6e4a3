-- The exit code of the program and its line on standard error, by status.
use Rattle.std.specs.Prelude.{ℕ, List, [], ◌++◌, codes, decimal}
use Rattle.twin_run.specs.declared.ending.Status.{Status}
use Rattle.twin_run.specs.declared.ending.Status.TheVariants.{Done, BadWords, BadLine, ReadFault, WriteFault, Volume, Corrupt, Memory, TooLong}

abbrev pub exit_code : Status → ℕ
exit_code Done = 0
exit_code BadWords = 2
exit_code (BadLine n) = 3
exit_code ReadFault = 4
exit_code WriteFault = 5
exit_code Volume = 6
exit_code Corrupt = 7
exit_code Memory = 8
exit_code TooLong = 9

-- the line, without its end; none where all is done
abbrev pub status_text : Status → List ℕ
status_text Done = []
status_text BadWords = codes "twins: usage: twins [FOLDER] [--gen NUMBER COUNT]"
status_text (BadLine n) = codes "twins: line " ++ (decimal n ++ codes ": not a command")
status_text ReadFault = codes "twins: cannot read input"
status_text WriteFault = codes "twins: cannot write output"
status_text Volume = codes "twins: volume failed"
status_text Corrupt = codes "twins: volume holds no valid state"
status_text Memory = codes "twins: out of memory"
status_text TooLong = codes "twins: input longer than 16777216 bytes"
