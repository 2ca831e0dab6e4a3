-- That the tables are kept has one proof at most.
use Rattle.std.specs.Prelude.{List, ℕ}
use Rattle.std.specs.Coded.{Coded-set, coded_list, coded_ℕ, le_prop}
use Rattle.std.specs.FinMap as map
use Rattle.volume_base.specs.Volume.{Map}
use Rattle.memory_volume.specs.Tables.{AreKept}
use Rattle.memory_volume.specs.declared.entry.Entry.{Entry}
use Rattle.memory_volume.specs.declared.stored.StoredLog.{StoredLog}
use Rattle.memory_volume.specs.declared.stored.StoredMap.{StoredMap}

Map-set : IsSet Map
Map-set = Coded-set (map.code (coded_list coded_ℕ) (coded_list coded_ℕ))

ℕ-set : IsSet ℕ
ℕ-set = Coded-set coded_ℕ

items-set : IsSet (List (List ℕ))
items-set = Coded-set (coded_list (coded_list coded_ℕ))

pub AreKept-prop : (calls : List Entry) (logs : List StoredLog) (maps : List StoredMap) → IsProp (AreKept calls logs maps)
AreKept-prop calls logs maps = hlevel (Map-set, ℕ-set, items-set, le_prop)
