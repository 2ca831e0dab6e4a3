-- The words of the program: the folder in which it runs, where one is named, and what it runs.
use Rattle.std.specs.Prelude.{◌≡◌, ◌≢◌, ◌≤◌, ℕ, List, [], ◌∷◌, map, codes, Option, Some, None, String, string_bytes}
use Rattle.std.specs.declared.alloc.Global.{Global}
use Rattle.line_text.specs.Said.{IsNumberWord}
use Rattle.twin_run.specs.declared.words.Task.{Task}
use Rattle.twin_run.specs.declared.words.Task.TheVariants.{Commands, Generate}

-- The texts of words.
abbrev pub texts_of : List (String Global) → List (List ℕ)
texts_of words = map string_bytes words

-- A folder's name has a byte, and doesn't begin with a hyphen.
abbrev pub IsFolder : List ℕ → Type 0
IsFolder [] = ⊥
IsFolder (b ∷ name) = b ≢ 45

-- No word says the commands of the input; `--gen`, a number and a count say so many rounds of generated ones.
abbrev pub SayTask : List (List ℕ) → Task → Type 0
SayTask words Commands = words ≡ []
SayTask words (Generate number count) =
    (first : List ℕ) × (second : List ℕ) × (words ≡ codes "--gen" ∷ first ∷ second ∷ [])
    × IsNumberWord first number × IsNumberWord second count × (count ≤ 10000)

-- Of words with a folder the first names it, and those behind it say the task.
abbrev pub SayFor : List (List ℕ) → Option (List ℕ) → Task → Type 0
SayFor words None task = SayTask words task
SayFor words (Some folder) task =
    (rest : List (List ℕ)) × (words ≡ folder ∷ rest) × IsFolder folder × SayTask rest task

-- The words have one of the four forms, and say this task.
abbrev pub WordsSay : List (List ℕ) → Task → Type 0
WordsSay words task = (folder : Option (List ℕ)) × SayFor words folder task

-- They have none of them.
abbrev pub HaveNoForm : List (List ℕ) → Type 0
HaveNoForm words = (task : Task) → WordsSay words task → ⊥

-- They have one of the two forms with a folder, and name this one.
abbrev pub WordsName : List (List ℕ) → List ℕ → Type 0
WordsName words folder = (task : Task) × SayFor words (Some folder) task
