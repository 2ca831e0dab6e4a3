-- The names of a store: its logs and its maps.
use Rattle.std.specs.Prelude.{◌≡◌, ◌≢◌, ◌⊎◌, ℕ, List, [], ◌∷◌, ◌++◌}
use Rattle.volume_base.specs.Volume.{State, PastStays, LogStays, MapStays}

pub record Names : Type 0 where
  pub logs : List (List ℕ)
  pub maps : List (List ℕ)

abbrev pub log_alone : List ℕ → Names
log_alone log = record { logs = log ∷ []; maps = [] }

abbrev pub log_and_map : List ℕ → List ℕ → Names
log_and_map log map = record { logs = log ∷ []; maps = map ∷ [] }

abbrev pub two_logs_and_map : List ℕ → List ℕ → List ℕ → Names
two_logs_and_map one two map = record { logs = one ∷ two ∷ []; maps = map ∷ [] }

-- the names of two stores
abbrev pub joined : Names → Names → Names
joined names more = record { logs = names.logs ++ more.logs; maps = names.maps ++ more.maps }

-- each of these names has it
abbrev pub EachOf : (List ℕ → Type 0) → List (List ℕ) → Type 0
EachOf P [] = Unit {0}
EachOf P (name ∷ names) = P name × EachOf P names

-- this name is one of these, or none of them
abbrev pub IsOneOf : List ℕ → List (List ℕ) → Type 0
IsOneOf name [] = ⊥
IsOneOf name (first ∷ names) = (name ≡ first) ⊎ IsOneOf name names

abbrev pub IsNoneOf : List ℕ → List (List ℕ) → Type 0
IsNoneOf other names = EachOf (λ name. other ≢ name) names

-- Two stores have no name in common.
pub record AreApart (names others : Names) : Type 0 where
  pub logs : EachOf (λ other. IsNoneOf other names.logs) others.logs
  pub maps : EachOf (λ other. IsNoneOf other names.maps) others.maps

-- Of the logs and maps at most these have changed.
pub record OnlyNames (names : Names) (old new : State) : Type 0 where
  pub logs : (other : List ℕ) → IsNoneOf other names.logs → new.log other ≡ old.log other
  pub maps : (other : List ℕ) → IsNoneOf other names.maps → new.map other ≡ old.map other

-- At each moment from old to new every other log and map than these has the images of before.
pub record OthersStay (names : Names) (old new : State) : Type 0 where
  pub past : PastStays old new
  pub logs : (other : List ℕ) → IsNoneOf other names.logs → LogStays other old new
  pub maps : (other : List ℕ) → IsNoneOf other names.maps → MapStays other old new

-- A call on these logs and maps: of every other the contents and the images stay.
pub record NamesCall (names : Names) (old new : State) : Type 0 where
  pub others : OnlyNames names old new
  pub images : OthersStay names old new
