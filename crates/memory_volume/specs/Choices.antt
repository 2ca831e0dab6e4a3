-- The image of a log that a list of choices picks.
use Rattle.std.specs.Prelude.{◌≡◌, ℕ, ◌<◌, ◌^◌, List, [], ◌∷◌, if◌then◌else◌}
use Rattle.std.specs.Str.{bytes_eq}
use Rattle.volume_base.specs.Log.{Log}
use Rattle.memory_volume.specs.Choice.{chosen}
use Rattle.memory_volume.specs.Versions.{Versions}
use Rattle.memory_volume.specs.declared.choice.LogChoice.{LogChoice}

-- the first choice of its name picks it, and without one the present contents stay
abbrev pub chosen_log : List LogChoice → Versions → List ℕ → Log
chosen_log [] versions name = versions.present
chosen_log (choice ∷ choices) versions name = if bytes_eq choice.name name then chosen versions choice.version choice.start choice.end else chosen_log choices versions name

-- A choice of numbers of 64 bits picks this image of a log. Only the version's number may be greater, where there are more versions.
pub record IsChosen (versions : Versions) (image : Log) : Type 0 where
  pub version : ℕ
  pub start : ℕ
  pub end : ℕ
  pub start_fits : start < 2 ^ 64
  pub end_fits : end < 2 ^ 64
  pub picked : chosen versions version start end ≡ image
