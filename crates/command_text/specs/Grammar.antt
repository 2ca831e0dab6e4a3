-- The grammar of the input: which command a line says.
use Rattle.std.specs.Prelude.{◌≡◌, ◌⊎◌, ℕ, List, [], ◌∷◌, Option, Some, None, codes}
use Rattle.std.specs.NonZero.{non_zero_u64_get}
use Rattle.command_text.specs.declared.command.Command.{Command}
use Rattle.command_text.specs.declared.command.Command.TheVariants.{New, Append, Seal, Apply, Hold, Release, Snapshot, Get, GetMany, BatchGet, BatchGetMany, Size, Metadata, Proof, CommitProof, Commit, Sync, StartSync, Prune}
use Rattle.line_text.specs.Lines.{lines_of, words_of}
use Rattle.line_text.specs.Said.{IsNumberWord, IsBytesWord, IsOptionalWord, IsSkipped}

-- these words are these numbers, one each
abbrev pub AreNumberWords : List (List ℕ) → List ℕ → Type 0
AreNumberWords [] [] = Unit {0}
AreNumberWords [] (n ∷ numbers) = ⊥
AreNumberWords (word ∷ words) [] = ⊥
AreNumberWords (word ∷ words) (n ∷ numbers) = IsNumberWord word n × AreNumberWords words numbers

-- these words say the command
abbrev pub WordsSay : List (List ℕ) → Command → Type 0
WordsSay words (New None) = words ≡ codes "new" ∷ []
WordsSay words (New (Some b)) = (number : List ℕ) × (words ≡ codes "new" ∷ number ∷ []) × IsNumberWord number b
WordsSay words (Append b value) = (number : List ℕ) × (text : List ℕ) × (words ≡ codes "append" ∷ number ∷ text ∷ []) × IsNumberWord number b × IsBytesWord text value
WordsSay words (Seal b metadata floor) = (number : List ℕ) × (text : List ℕ) × (last : List ℕ) × (words ≡ codes "seal" ∷ number ∷ text ∷ last ∷ []) × IsNumberWord number b × IsOptionalWord text metadata × IsNumberWord last floor
WordsSay words (Apply b) = (number : List ℕ) × (words ≡ codes "apply" ∷ number ∷ []) × IsNumberWord number b
WordsSay words (Hold b) = (number : List ℕ) × (words ≡ codes "hold" ∷ number ∷ []) × IsNumberWord number b
WordsSay words (Release b) = (number : List ℕ) × (words ≡ codes "release" ∷ number ∷ []) × IsNumberWord number b
WordsSay words Snapshot = words ≡ codes "snapshot" ∷ []
WordsSay words (Get l) = (number : List ℕ) × (words ≡ codes "get" ∷ number ∷ []) × IsNumberWord number l
WordsSay words (GetMany ls) = (numbers : List (List ℕ)) × (words ≡ codes "get-many" ∷ numbers) × AreNumberWords numbers ls
WordsSay words (BatchGet b l) = (number : List ℕ) × (last : List ℕ) × (words ≡ codes "batch-get" ∷ number ∷ last ∷ []) × IsNumberWord number b × IsNumberWord last l
WordsSay words (BatchGetMany b ls) = (number : List ℕ) × (numbers : List (List ℕ)) × (words ≡ codes "batch-get-many" ∷ number ∷ numbers) × IsNumberWord number b × AreNumberWords numbers ls
WordsSay words Size = words ≡ codes "size" ∷ []
WordsSay words Metadata = words ≡ codes "metadata" ∷ []
WordsSay words (Proof size start count) = (number : List ℕ) × (next : List ℕ) × (last : List ℕ) × (words ≡ codes "proof" ∷ number ∷ next ∷ last ∷ []) × IsNumberWord number size × IsNumberWord next start × IsNumberWord last (non_zero_u64_get count)
WordsSay words (CommitProof size) = (number : List ℕ) × (words ≡ codes "commit-proof" ∷ number ∷ []) × IsNumberWord number size
WordsSay words Commit = words ≡ codes "commit" ∷ []
WordsSay words Sync = words ≡ codes "sync" ∷ []
WordsSay words StartSync = words ≡ codes "start-sync" ∷ []
WordsSay words (Prune l) = (number : List ℕ) × (words ≡ codes "prune" ∷ number ∷ []) × IsNumberWord number l

abbrev pub SayNothing : List (List ℕ) → Type 0
SayNothing words = (command : Command) → WordsSay words command → ⊥

-- what was read from the words: the command that they say, or nothing where they say none
abbrev pub IsReading : List (List ℕ) → Option Command → Type 0
IsReading words None = SayNothing words
IsReading words (Some command) = WordsSay words command

-- the line says the command
abbrev pub Says : List ℕ → Command → Type 0
Says line command = WordsSay (words_of line) command

-- the lines say these commands, in their order, between lines that are skipped
abbrev pub LinesSay : List (List ℕ) → List Command → Type 0
LinesSay [] [] = Unit {0}
LinesSay [] (command ∷ commands) = ⊥
LinesSay (line ∷ lines) [] = IsSkipped line × LinesSay lines []
LinesSay (line ∷ lines) (command ∷ commands) = (IsSkipped line × LinesSay lines (command ∷ commands)) ⊎ (Says line command × LinesSay lines commands)

-- the input says these commands
abbrev pub InputSays : List ℕ → List Command → Type 0
InputSays input commands = LinesSay (lines_of input) commands
