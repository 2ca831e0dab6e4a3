-- A log beside a map that marks its items.
use Rattle.std.specs.Prelude.{◌≡◌, ◌⊎◌, ℕ, List, Result, take}
use Rattle.volume_base.specs.Log.{Log, appended}
use Rattle.volume_base.specs.Moments.{Image, NamesLeft, Steps}
use Rattle.volume_base.specs.Names.{log_and_map}
use Rattle.volume_base.specs.Volume.{State, Map, OnlyLeft}

-- A crash now leaves of this log and of this map what they hold.
pub record AreDurable (log map : List ℕ) (state : State) : Type 0 where
  pub items : OnlyLeft (state.log_left state.clock log) (state.log log)
  pub mark : OnlyLeft (state.map_left state.clock map) (state.map map)

-- The log has what it held and a front of the items behind that, and the map is this one.
pub record IsUnmarked (log map : List ℕ) (held : Log) (items : List (List ℕ)) (unmarked : Map) (image : Image)
    : Type 0 where
  pub front : (count : ℕ) × (image.log log ≡ appended held (take count items))
  pub map_is : image.map map ≡ unmarked

-- The log is whole, and the map is the old one or the mark.
pub record IsWhole (log map : List ℕ) (whole : Log) (unmarked mark : Map) (image : Image) : Type 0 where
  pub log_is : image.log log ≡ whole
  pub map_is : (image.map map ≡ unmarked) ⊎ (image.map map ≡ mark)

-- Items are appended to the log and then marked in the map: up to a turn a crash leaves the old map beside a front of
-- the items, and from it on all items, beside the old map or the mark.
abbrev pub Marks : {T E : Type 0} → List ℕ → List ℕ → List (List ℕ) → Map → State → State → Result T E → Type 0
Marks log map items mark old new result =
    Steps (NamesLeft (log_and_map log map))
    (IsUnmarked log map (old.log log) items (old.map map))
    (IsWhole log map (appended (old.log log) items) (old.map map) mark)
    old new result
