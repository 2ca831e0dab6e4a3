-- The table of versions that a replay of the record makes.
use Rattle.std.specs.Prelude.{List, ℕ}
use Rattle.volume_base.specs.Log.{no_log}
use Rattle.memory_volume.specs.Versions.{Versions, only}
use Rattle.memory_volume.specs.Tables.{value_in}
use Rattle.memory_volume.specs.declared.replay.Replayed.{Replayed}

abbrev pub replay_name : Replayed → List ℕ
replay_name row = row.name

abbrev pub versions_in : Replayed → Versions
versions_in row = record { present = row.present; earlier = row.earlier.items }

abbrev pub replayed : List Replayed → List ℕ → Versions
replayed rows name = value_in replay_name versions_in (only no_log) rows name
