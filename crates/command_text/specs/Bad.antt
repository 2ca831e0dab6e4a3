-- The first line of an input that is no command.
use Rattle.std.specs.Prelude.{◌≡◌, ◌⊎◌, ℕ, ◌+◌, List, [], ◌∷◌, ◌++◌, length}
use Rattle.command_text.specs.declared.command.Command.{Command}
use Rattle.command_text.specs.declared.parse.LineError.{LineError}
use Rattle.command_text.specs.declared.parse.LineError.TheVariants.{Bad, Memory}
use Rattle.line_text.specs.Lines.{words_of}
use Rattle.line_text.specs.Said.{IsSkipped}
use Rattle.command_text.specs.Grammar.{Says, LinesSay, SayNothing}

-- the line says no command and isn't skipped
pub record IsBad (line : List ℕ) : Type 0 where
  pub words : SayNothing (words_of line)
  pub not_skipped : IsSkipped line → ⊥

-- line n, counted from 1 over all lines, is bad, and none before it is
pub record IsFirstBad (lines : List (List ℕ)) (n : ℕ) : Type 0 where
  pub before : List (List ℕ)
  pub line : List ℕ
  pub after : List (List ℕ)
  pub commands : List Command
  pub parts : lines ≡ before ++ line ∷ after
  pub number : n ≡ length before + 1
  pub said : LinesSay before commands
  pub bad : IsBad line

-- why the lines weren't read as commands; want of memory may come at any time
abbrev pub IsCause : List (List ℕ) → LineError → Type 0
IsCause lines (Bad n) = IsFirstBad lines n
IsCause lines Memory = Unit {0}

-- why this line, of this number, wasn't read
abbrev pub IsBadHere : ℕ → List ℕ → LineError → Type 0
IsBadHere number line (Bad n) = (n ≡ number) × IsBad line
IsBadHere number line Memory = Unit {0}

-- what a line adds to the commands that were read before it
abbrev pub Adds : List ℕ → List Command → List Command → Type 0
Adds line before after = (IsSkipped line × (after ≡ before)) ⊎ ((command : Command) × Says line command × (after ≡ before ++ command ∷ []))
