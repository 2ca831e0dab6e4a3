-- The image that a choice of a version and a part of it picks, each number moved to the nearest allowed.
use Rattle.std.specs.Prelude.{ℕ, suc, zero, max, min, List, [], ◌∷◌}
use Rattle.volume_base.specs.Log.{Log, end_of}
use Rattle.memory_volume.specs.Versions.{Versions, least_end, greatest_start, part_of}

-- 0 is the newest
abbrev pub version_from : Log → List Log → ℕ → Log
version_from log [] n = log
version_from log (older ∷ logs) zero = log
version_from log (older ∷ logs) (suc n) = version_from older logs n

abbrev pub nearest : ℕ → ℕ → ℕ → ℕ
nearest low high n = min high (max low n)

abbrev pub chosen : Versions → ℕ → ℕ → ℕ → Log
chosen versions version start end =
    let log = version_from versions.present versions.earlier version in
    let from = nearest log.start (min (greatest_start versions) (end_of log)) start in
    let to = nearest (max (least_end versions) from) (end_of log) end in
    part_of log from to
