-- What a run of calls leaves, as one statement on each moment.
use Rattle.std.specs.Prelude.{◌⊎◌, ℕ, ◌≤◌, List, [], ◌∷◌, Result, OnOk, OnErr}
use Rattle.volume_base.specs.Log.{Log}
use Rattle.volume_base.specs.Volume.{State, Map, PastStays}
use Rattle.volume_base.specs.Names.{Names, EachOf}

-- What a crash leaves of the whole volume: one image of each log and of each map, each chosen apart.
pub record Image : Type 0 where
  pub log : List ℕ → Log
  pub map : List ℕ → Map

pub record LeftAt (state : State) (t : ℕ) (image : Image) : Type 0 where
  pub logs : (name : List ℕ) → state.log_left t name (image.log name)
  pub maps : (name : List ℕ) → state.map_left t name (image.map name)

-- A crash at that moment may leave this of this log; or of this map; or of the logs and maps of these names together.
abbrev pub LogLeft : List ℕ → State → ℕ → Log → Type 0
LogLeft name state t log = state.log_left t name log

abbrev pub MapLeft : List ℕ → State → ℕ → Map → Type 0
MapLeft name state t m = state.map_left t name m

pub record NamesLeft (names : Names) (state : State) (t : ℕ) (image : Image) : Type 0 where
  pub logs : EachOf (λ name. state.log_left t name (image.log name)) names.logs
  pub maps : EachOf (λ name. state.map_left t name (image.map name)) names.maps

-- What is there now, as an image.
abbrev pub present : State → Image
present state = record { log = state.log; map = state.map }

-- Statements on moments. What is left is of one log (`LogLeft name`), of one map (`MapLeft name`), of the names of
-- a store
-- (`NamesLeft names`), or of the whole volume (`LeftAt`): each word below is the same for all four.

-- A crash now leaves only what has P.
abbrev pub Now : {A : Type 0} → (State → ℕ → A → Type 0) → (A → Type 0) → State → Type 0
Now {A} left P state = (x : A) → left state state.clock x → P x

abbrev pub LogHas : State → List ℕ → (Log → Type 0) → Type 0
LogHas state name Q = (log : Log) → state.log_left state.clock name log → Q log

abbrev pub MapHas : State → List ℕ → (Map → Type 0) → Type 0
MapHas state name Q = (m : Map) → state.map_left state.clock name m → Q m

abbrev pub EachNow : (Image → Type 0) → State → Type 0
EachNow P state = (image : Image) → LeftAt state state.clock image → P image

-- At each moment from this one to that one only what has P is left.
abbrev pub Between : {A : Type 0} → (ℕ → A → Type 0) → ℕ → ℕ → (A → Type 0) → Type 0
Between {A} left from to P = (t : ℕ) (x : A) → from ≤ t → t ≤ to → left t x → P x

-- A run of calls over which nothing turns: at each moment from old to new a crash leaves only what has P.
pub record Keeps {A : Type 0} (left : State → ℕ → A → Type 0) (P : A → Type 0) (old new : State) : Type 0 where
  pub past : PastStays old new
  pub during : Between (left new) old.clock new.clock P

abbrev pub LogKeeps : List ℕ → (Log → Type 0) → State → State → Type 0
LogKeeps name = Keeps (LogLeft name)

abbrev pub MapKeeps : List ℕ → (Map → Type 0) → State → State → Type 0
MapKeeps name = Keeps (MapLeft name)

abbrev pub EachMoment : (Image → Type 0) → State → State → Type 0
EachMoment = Keeps LeftAt

-- Up to a turn only what has P is left, and from it on only what has Q; at the turn both.
pub record Turns {A : Type 0} (left : ℕ → A → Type 0) (from to : ℕ) (P Q : A → Type 0) : Type 0 where
  pub turn : ℕ
  pub begun : from ≤ turn
  pub within : turn ≤ to
  pub first : Between left from turn P
  pub second : Between left turn to Q

abbrev pub LogTurns : List ℕ → (Log → Type 0) → (Log → Type 0) → State → State → Type 0
LogTurns name P Q old new = Turns (LogLeft name new) old.clock new.clock P Q

-- A call that takes what has P to what has Q: after Ok it has turned; after an error it has, or all still has P.
pub record Steps {A T E : Type 0} (left : State → ℕ → A → Type 0) (P Q : A → Type 0)
    (old new : State) (result : Result T E) : Type 0 where
  pub past : PastStays old new
  pub ok : OnOk result (Turns (left new) old.clock new.clock P Q)
  pub err : OnErr result (Between (left new) old.clock new.clock P ⊎ Turns (left new) old.clock new.clock P Q)

-- From this moment to that one what is left stands for these states, one after another; at the turn of one to the next
-- for both.
abbrev pub Covers : {A M : Type 0} → (ℕ → A → Type 0) → (M → A → Type 0) → ℕ → ℕ → List M → Type 0
Covers left stands from to [] = ⊥
Covers left stands from to (s ∷ []) = (from ≤ to) × Between left from to (stands s)
Covers left stands from to (s ∷ next ∷ rest) =
    (turn : ℕ) × (from ≤ turn) × (turn ≤ to) × Between left from turn (stands s)
    × Covers left stands turn to (next ∷ rest)

-- One log beside one map, by their values: at each moment from old to new each image of this log, beside each of
-- this map,
-- has Q with it.
pub record PairKeeps (one two : List ℕ) (Q : Log → Map → Type 0) (old new : State) : Type 0 where
  pub past : PastStays old new
  pub during : (t : ℕ) (log : Log) (m : Map) → old.clock ≤ t → t ≤ new.clock
      → new.log_left t one log → new.map_left t two m → Q log m

abbrev pub PairHas : State → List ℕ → List ℕ → (Log → Map → Type 0) → Type 0
PairHas state one two Q =
    (log : Log) (m : Map) → state.log_left state.clock one log → state.map_left state.clock two m → Q log m
