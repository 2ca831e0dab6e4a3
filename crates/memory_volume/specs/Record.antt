-- What a record of calls says of each log and map.
use Rattle.std.specs.Prelude.{ℕ, ◌+◌, ◌<◌, ◌≤◌, ◌^◌, List, length, fold, if◌then◌else◌}
use Rattle.std.specs.Str.{bytes_eq}
use Rattle.std.specs.FinMap as map
use Rattle.volume_base.specs.Log.{Log, end_of, no_log, appended, cut_to, pruned_to}
use Rattle.volume_base.specs.Volume.{Map}
use Rattle.memory_volume.specs.Versions.{Versions, only, then_is, grown}
use Rattle.memory_volume.specs.declared.entry.LogChange.{LogChange}
use Rattle.memory_volume.specs.declared.entry.LogChange.TheVariants.{Append, Sync, Cut, Prune, Put}
use Rattle.memory_volume.specs.declared.entry.Entry.{Entry}
use Rattle.memory_volume.specs.declared.entry.Entry.TheVariants.{OfLog, OfMap}

-- what a log holds after a change
abbrev pub after : Log → LogChange → Log
after log (Append items) = appended log items
after log Sync = log
after log (Cut end) = cut_to log end
after log (Prune start) = pruned_to log start
after log (Put start items) = record { start = start; items = items }

-- what a change needs: positions stay below 2^64, and a cut and a prune stay within the log
abbrev pub CanChange : Log → LogChange → Type 0
CanChange log (Append items) = end_of log + length items < 2 ^ 64
CanChange log Sync = Unit {0}
CanChange log (Cut end) = (log.start ≤ end) × (end ≤ end_of log)
CanChange log (Prune start) = (log.start ≤ start) × (start ≤ end_of log)
CanChange log (Put start items) = start + length items < 2 ^ 64

-- its versions after a change
abbrev pub changed : Versions → LogChange → Versions
changed versions (Append items) = grown versions items
changed versions Sync = only versions.present
changed versions (Cut end) = then_is versions (cut_to versions.present end)
changed versions (Prune start) = then_is versions (pruned_to versions.present start)
changed versions (Put start items) = only (record { start = start; items = items })

abbrev pub next_versions : List ℕ → Versions → Entry → Versions
next_versions name versions (OfLog its change) = if bytes_eq its name then changed versions change else versions
next_versions name versions (OfMap its map) = versions

abbrev pub next_map : List ℕ → Map → Entry → Map
next_map name m (OfLog its change) = m
next_map name m (OfMap its map) = if bytes_eq its name then map else m

-- the versions of a log after these calls, and a map after them
abbrev pub versions_of : List Entry → List ℕ → Versions
versions_of entries name = fold (next_versions name) (only no_log) entries

abbrev pub map_of : List Entry → List ℕ → Map
map_of entries name = fold (next_map name) map.empty entries
