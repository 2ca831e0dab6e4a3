-- Calls on one log, on one map, and on the names of a store, one after another.
use Rattle.std.proofs.Common.{◌≡◌, ℕ, List, refl}
use Rattle.std.specs.Prelude.{Result}
use Rattle.volume_base.specs.Log.{Log, Stays}
use Rattle.volume_base.specs.Names.{Names, IsOneOf, NamesCall}
use Rattle.volume_base.specs.Volume.{State, Map, PastStays, SameContents, LogCall, MapCall, Reads}
use Rattle.volume_base.proofs.JoinLemmas.{only_log_joins, only_log_same, only_map_same}
use Rattle.volume_base.proofs.MomentLemmas.{log_moves_none, log_moves_idle, log_moves_joins, log_moves_after_idle, log_moves_then_stays, log_moves_wider, map_moves_idle}
use Rattle.volume_base.proofs.NameLemmas.{stay_none, stay_idle, stay_log, stay_map, stay_joins, only_names_log, only_names_map, only_names_same, only_names_joins}

-- One log.

pub log_call_none : (name : List ℕ) (step : Log → Log → Type 0) (s : State) → ((log : Log) → step log log) → LogCall name step s s
log_call_none name step s same = record {
  others = record { logs = λ other ne. refl; maps = λ other. refl };
  images = log_moves_none name step s same;
}

-- a call that leaves the clock
pub log_call_idle : (name : List ℕ) (step : Log → Log → Type 0) (a b : State) → b.clock ≡ a.clock → PastStays a b → SameContents a b → ((log : Log) → step log log) → LogCall name step a b
log_call_idle name step a b clock past contents same = record { others = only_log_same name a b contents; images = log_moves_idle name step a b clock past same }

pub log_call_wider : (name : List ℕ) (first second : Log → Log → Type 0) (a b : State) → LogCall name first a b → ((old new : Log) → first old new → second old new) → LogCall name second a b
log_call_wider name first second a b call wider = record { others = call.others; images = log_moves_wider name first second a b call.images wider }

-- one run after another, where the steps join
pub log_call_joins : (name : List ℕ) (first second both : Log → Log → Type 0) (a b c : State) → LogCall name first a b → LogCall name second b c → ((old new : Log) → first old new → both old new) → ((old mid new : Log) → first old mid → second mid new → both old new) → LogCall name both a c
log_call_joins name first second both a b c ab bc early both_are = record {
  others = only_log_joins name a b c ab.others bc.others;
  images = log_moves_joins name first second both a b c ab.images bc.images early both_are;
}

pub log_call_then_stays : (name : List ℕ) (step : Log → Log → Type 0) (a b c : State) → LogCall name step a b → LogCall name Stays b c → LogCall name step a c
log_call_then_stays name step a b c ab bc = record {
  others = only_log_joins name a b c ab.others bc.others;
  images = log_moves_then_stays name step a b c ab.images bc.images;
}

-- What only reads, alone and before a call that writes.
module _ {T E : Type 0} (tells : Type 0) (fault : E) (name : List ℕ) (step : Log → Log → Type 0) (same : (log : Log) → step log log) (a b : State) (answer : Result T E) (read : Reads tells fault a b answer) where
  pub log_call_read : tells → LogCall name step a b
  log_call_read told = log_call_idle name step a b read.clock (read.past told) (read.contents told) same

  pub log_call_after_read : (c : State) → tells → LogCall name step b c → LogCall name step a c
  log_call_after_read c told bc = record {
    others = only_log_joins name a b c (only_log_same name a b (read.contents told)) bc.others;
    images = log_moves_after_idle name step a b c read.clock (read.past told) same bc.images;
  }

-- One map.

pub map_call_idle : (name : List ℕ) (step : Map → Map → Type 0) (a b : State) → b.clock ≡ a.clock → PastStays a b → SameContents a b → ((m : Map) → step m m) → MapCall name step a b
map_call_idle name step a b clock past contents same = record { others = only_map_same name a b contents; images = map_moves_idle name step a b clock past same }

-- The names of a store.

pub names_call_none : (names : Names) (s : State) → NamesCall names s s
names_call_none names s = record { others = record { logs = λ other none. refl; maps = λ other none. refl }; images = stay_none names s }

pub names_call_idle : (names : Names) (a b : State) → b.clock ≡ a.clock → PastStays a b → SameContents a b → NamesCall names a b
names_call_idle names a b clock past contents = record { others = only_names_same names a b contents; images = stay_idle names a b clock past }

pub names_call_log : (names : Names) (name : List ℕ) (step : Log → Log → Type 0) (a b : State) → IsOneOf name names.logs → LogCall name step a b → NamesCall names a b
names_call_log names name step a b one call = record { others = only_names_log names name a b one call.others; images = stay_log names name step a b one call.images }

pub names_call_map : (names : Names) (name : List ℕ) (step : Map → Map → Type 0) (a b : State) → IsOneOf name names.maps → MapCall name step a b → NamesCall names a b
names_call_map names name step a b one call = record { others = only_names_map names name a b one call.others; images = stay_map names name step a b one call.images }

pub names_call_joins : (names : Names) (a b c : State) → NamesCall names a b → NamesCall names b c → NamesCall names a c
names_call_joins names a b c ab bc = record { others = only_names_joins names a b c ab.others bc.others; images = stay_joins names a b c ab.images bc.images }
