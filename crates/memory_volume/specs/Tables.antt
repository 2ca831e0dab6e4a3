-- What the tables of logs and maps hold by name.
use Rattle.std.specs.Prelude.{◌≡◌, ℕ, suc, ◌<◌, ◌^◌, List, [], ◌∷◌, drop, if◌then◌else◌}
use Rattle.std.specs.Str.{bytes_eq}
use Rattle.std.specs.FinMap as map
use Rattle.volume_base.specs.Log.{Log, no_log, end_of}
use Rattle.volume_base.specs.Volume.{Map}
use Rattle.memory_volume.specs.Versions.{IsVersion}
use Rattle.memory_volume.specs.Record.{versions_of, map_of}
use Rattle.memory_volume.specs.declared.entry.Entry.{Entry}
use Rattle.memory_volume.specs.declared.stored.StoredLog.{StoredLog}
use Rattle.memory_volume.specs.declared.stored.StoredMap.{StoredMap}

-- the value of the first row of this name, or none
abbrev pub value_in : {X V : Type 0} → (X → List ℕ) → (X → V) → V → List X → List ℕ → V
value_in name_of value_of none [] name = none
value_in name_of value_of none (row ∷ rows) name = if bytes_eq (name_of row) name then value_of row else value_in name_of value_of none rows name

-- where that row stands, or the length
abbrev pub row_of : {X : Type 0} → (X → List ℕ) → List X → List ℕ → ℕ
row_of name_of [] name = 0
row_of name_of (row ∷ rows) name = if bytes_eq (name_of row) name then 0 else suc (row_of name_of rows name)

-- the value of one name has changed, and no other
pub record Sets {V : Type 0} (name : List ℕ) (value : V) (old new : List ℕ → V) : Type 0 where
  pub each : (other : List ℕ) → new other ≡ (if bytes_eq name other then value else old other)

abbrev pub log_name : StoredLog → List ℕ
log_name stored = stored.name

abbrev pub log_of : StoredLog → Log
log_of stored = record { start = stored.start; items = drop stored.skipped stored.items.items }

abbrev pub stored_log : List StoredLog → List ℕ → Log
stored_log logs name = value_in log_name log_of no_log logs name

abbrev pub map_name : StoredMap → List ℕ
map_name stored = stored.name

abbrev pub held_map : StoredMap → Map
held_map stored = stored.map

abbrev pub stored_map : List StoredMap → List ℕ → Map
stored_map maps name = value_in map_name held_map map.empty maps name

-- The tables hold what the record says, and all positions stay below 2^64.
pub record AreKept (calls : List Entry) (logs : List StoredLog) (maps : List StoredMap) : Type 0 where
  pub logs_match : (name : List ℕ) → stored_log logs name ≡ (versions_of calls name).present
  pub maps_match : (name : List ℕ) → stored_map maps name ≡ map_of calls name
  pub ends_fit : (name : List ℕ) (log : Log) → IsVersion (versions_of calls name) log → end_of log < 2 ^ 64
