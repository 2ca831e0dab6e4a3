-- The versions of a log, and the images that they leave.
use Rattle.std.specs.Prelude.{◌≡◌, ◌⊎◌, ℕ, ◌-◌, ◌≤◌, max, min, List, [], ◌∷◌, take, drop}
use Rattle.volume_base.specs.Log.{Log, end_of, appended}

-- the contents that a log had since its last sync: those of now, and the others with the newest first
pub record Versions : Type 0 where
  pub present : Log
  pub earlier : List Log

abbrev pub only : Log → Versions
only log = record { present = log; earlier = [] }

abbrev pub then_is : Versions → Log → Versions
then_is versions log = record { present = log; earlier = versions.present ∷ versions.earlier }

-- each prefix of the items is a version
abbrev pub grown : Versions → List (List ℕ) → Versions
grown versions [] = versions
grown versions (item ∷ items) = grown (then_is versions (appended versions.present (item ∷ []))) items

abbrev pub least_of : ℕ → List Log → ℕ
least_of end [] = end
least_of end (log ∷ logs) = min (end_of log) (least_of end logs)

abbrev pub greatest_of : ℕ → List Log → ℕ
greatest_of start [] = start
greatest_of start (log ∷ logs) = max log.start (greatest_of start logs)

-- the least end and the greatest start among the versions
abbrev pub least_end : Versions → ℕ
least_end versions = least_of (end_of versions.present) versions.earlier

abbrev pub greatest_start : Versions → ℕ
greatest_start versions = greatest_of versions.present.start versions.earlier

abbrev pub IsAmong : List Log → Log → Type 0
IsAmong [] log = ⊥
IsAmong (one ∷ logs) log = (log ≡ one) ⊎ IsAmong logs log

abbrev pub IsVersion : Versions → Log → Type 0
IsVersion versions log = (log ≡ versions.present) ⊎ IsAmong versions.earlier log

-- the part of a log between two positions
abbrev pub part_of : Log → ℕ → ℕ → Log
part_of log start end = record { start = start; items = take (end - start) (drop (start - log.start) log.items) }

-- An image takes one version and a part of it, between these positions.
pub record IsPart (versions : Versions) (version : Log) (from to : ℕ) : Type 0 where
  pub its_start : version.start ≤ from
  pub start_high : from ≤ greatest_start versions
  pub end_low : least_end versions ≤ to
  pub its_end : to ≤ end_of version
  pub in_order : from ≤ to

abbrev pub IsImage : Versions → Log → Type 0
IsImage versions image = (version : Log) × IsVersion versions version × ((from to : ℕ) × IsPart versions version from to × (image ≡ part_of version from to))
