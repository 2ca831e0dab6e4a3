-- How statements on each moment are made and joined.
use Rattle.std.proofs.Common.{◌≡◌, ◌≢◌, ◌↔◌, ⊎_elim, ℕ, ◌≤◌, List, refl, sym, subst, arith}
use Rattle.std.proofs.lemmas.Bool.{cases_lt}
use Rattle.volume_base.specs.Log.{Log, Stays}
use Rattle.volume_base.specs.Volume.{State, Map, Follows, OnlyLeft, PastStays, LogMoves, MapMoves}
use Rattle.volume_base.specs.Moments.{Image, LeftAt, present, LogHas, MapHas, LogKeeps, MapKeeps, EachMoment, PairKeeps, PairHas}

pub iff_then : {A B C : Type 0} → (A ↔ B) → (B ↔ C) → (A ↔ C)
iff_then ab bc = (λ a. bc.0 (ab.0 a), λ c. ab.1 (bc.1 c))

pub same_at : {A : Type 0} (P : A → Type 0) (x y : A) → x ≡ y → (P x ↔ P y)
same_at P x y is = (subst P is, subst P (sym is))

pub past_same : (s : State) → PastStays s s
past_same s = record { later = omega arith; logs = λ t n l le. (λ x. x, λ x. x); maps = λ t n m le. (λ x. x, λ x. x) }

pub past_joins : (a b c : State) → PastStays a b → PastStays b c → PastStays a c
past_joins a b c ab bc = record {
  later = omega (arith, ab.later, bc.later);
  logs = λ t n l le. let le' : t ≤ b.clock = omega (arith, le, ab.later) in
      (λ x. (ab.logs t n l le).0 ((bc.logs t n l le').0 x), λ x. (bc.logs t n l le').1 ((ab.logs t n l le).1 x));
  maps = λ t n m le. let le' : t ≤ b.clock = omega (arith, le, ab.later) in
      (λ x. (ab.maps t n m le).0 ((bc.maps t n m le').0 x), λ x. (bc.maps t n m le').1 ((ab.maps t n m le).1 x));
}

-- One name, over runs of calls.

-- a call on this log: what was left has Q, and what follows from it has R
pub log_moves : (name : List ℕ) (step : Log → Log → Type 0) (Q R : Log → Type 0) (a b : State) → LogMoves name step a b → LogHas a name Q → ((old new : Log) → Q old → step old new → R new) → LogKeeps name R a b
log_moves name step Q R a b moves has goes = record {
  past = moves.past;
  during = λ t log lo hi left. let from = moves.this t log lo hi left in goes from.0 log (has from.0 from.1) from.2;
}

-- a call on another log or on a map
pub log_stays_log : (name other : List ℕ) (step : Log → Log → Type 0) (Q : Log → Type 0) (a b : State) → LogMoves name step a b → other ≢ name → LogHas a other Q → LogKeeps other Q a b
log_stays_log name other step Q a b moves ne has = record { past = moves.past; during = λ t log lo hi left. has log ((moves.logs t other log lo hi ne).0 left) }

pub log_stays_map : (name other : List ℕ) (step : Map → Map → Type 0) (Q : Log → Type 0) (a b : State) → MapMoves name step a b → LogHas a other Q → LogKeeps other Q a b
log_stays_map name other step Q a b moves has = record { past = moves.past; during = λ t log lo hi left. has log ((moves.logs t other log lo hi).0 left) }

pub map_moves : (name : List ℕ) (step : Map → Map → Type 0) (Q R : Map → Type 0) (a b : State) → MapMoves name step a b → MapHas a name Q → ((old new : Map) → Q old → step old new → R new) → MapKeeps name R a b
map_moves name step Q R a b moves has goes = record {
  past = moves.past;
  during = λ t m lo hi left. let from = moves.this t m lo hi left in goes from.0 m (has from.0 from.1) from.2;
}

pub map_stays_map : (name other : List ℕ) (step : Map → Map → Type 0) (Q : Map → Type 0) (a b : State) → MapMoves name step a b → other ≢ name → MapHas a other Q → MapKeeps other Q a b
map_stays_map name other step Q a b moves ne has = record { past = moves.past; during = λ t m lo hi left. has m ((moves.maps t other m lo hi ne).0 left) }

pub map_stays_log : (name other : List ℕ) (step : Log → Log → Type 0) (Q : Map → Type 0) (a b : State) → LogMoves name step a b → MapHas a other Q → MapKeeps other Q a b
map_stays_log name other step Q a b moves has = record { past = moves.past; during = λ t m lo hi left. has m ((moves.maps t other m lo hi).0 left) }

-- The whole volume.

-- two logs over one run, joined
pub each_moment_of_two : (one two : List ℕ) (Q R : Log → Type 0) (P : Image → Type 0) (a b : State) → LogKeeps one Q a b → LogKeeps two R a b → ((image : Image) → Q (image.log one) → R (image.log two) → P image) → EachMoment P a b
each_moment_of_two one two Q R P a b keeps_one keeps_two gives = record {
  past = keeps_one.past;
  during = λ t image lo hi left. gives image (keeps_one.during t (image.log one) lo hi (left.logs one)) (keeps_two.during t (image.log two) lo hi (left.logs two));
}

-- A run of calls on one log.

now_is : (s : State) (t : ℕ) → s.clock ≤ t → t ≤ s.clock → t ≡ s.clock
now_is s t lo hi = omega arith

pub log_moves_none : (name : List ℕ) (step : Log → Log → Type 0) (s : State) → ((log : Log) → step log log) → LogMoves name step s s
log_moves_none name step s same = record {
  past = past_same s;
  this = λ t log lo hi left. (log, subst (λ u. s.log_left u name log) (now_is s t lo hi) left, same log);
  logs = λ t other log lo hi ne. same_at (λ u. s.log_left u other log) t s.clock (now_is s t lo hi);
  maps = λ t other m lo hi. same_at (λ u. s.map_left u other m) t s.clock (now_is s t lo hi);
}

-- a call that leaves the clock and what may be left
pub log_moves_idle : (name : List ℕ) (step : Log → Log → Type 0) (a b : State) → b.clock ≡ a.clock → PastStays a b → ((log : Log) → step log log) → LogMoves name step a b
log_moves_idle name step a b clock past same = record {
  past = past;
  this = λ t log lo hi left. (log, (past.logs a.clock name log (omega arith)).0 (subst (λ u. b.log_left u name log) (now t lo hi) left), same log);
  logs = λ t other log lo hi ne. iff_then (same_at (λ u. b.log_left u other log) t a.clock (now t lo hi)) (past.logs a.clock other log (omega arith));
  maps = λ t other m lo hi. iff_then (same_at (λ u. b.map_left u other m) t a.clock (now t lo hi)) (past.maps a.clock other m (omega arith));
}
  where
    now : (t : ℕ) → a.clock ≤ t → t ≤ b.clock → t ≡ a.clock
    now t lo hi = omega (arith, clock)

pub map_moves_idle : (name : List ℕ) (step : Map → Map → Type 0) (a b : State) → b.clock ≡ a.clock → PastStays a b → ((m : Map) → step m m) → MapMoves name step a b
map_moves_idle name step a b clock past same = record {
  past = past;
  this = λ t m lo hi left. (m, (past.maps a.clock name m (omega arith)).0 (subst (λ u. b.map_left u name m) (now t lo hi) left), same m);
  logs = λ t other log lo hi. iff_then (same_at (λ u. b.log_left u other log) t a.clock (now t lo hi)) (past.logs a.clock other log (omega arith));
  maps = λ t other m lo hi ne. iff_then (same_at (λ u. b.map_left u other m) t a.clock (now t lo hi)) (past.maps a.clock other m (omega arith));
}
  where
    now : (t : ℕ) → a.clock ≤ t → t ≤ b.clock → t ≡ a.clock
    now t lo hi = omega (arith, clock)

-- one run after another, where the steps join
pub log_moves_joins : (name : List ℕ) (first second both : Log → Log → Type 0) (a b c : State) → LogMoves name first a b → LogMoves name second b c → ((old new : Log) → first old new → both old new) → ((old mid new : Log) → first old mid → second mid new → both old new) → LogMoves name both a c
log_moves_joins name first second both a b c ab bc early_is both_are = record {
  past = past_joins a b c ab.past bc.past;
  this = λ t log lo hi left. ⊎_elim
      (λ early. let le : t ≤ b.clock = omega (arith, early) in let from = ab.this t log lo le ((bc.past.logs t name log le).0 left) in (from.0, from.1, early_is from.0 log from.2))
      (λ late. let mid = bc.this t log late hi left in let from = ab.this b.clock mid.0 ab.past.later (omega arith) mid.1 in (from.0, from.1, both_are from.0 mid.0 log from.2 mid.2))
      (cases_lt t b.clock);
  logs = λ t other log lo hi ne. ⊎_elim
      (λ early. let le : t ≤ b.clock = omega (arith, early) in iff_then (bc.past.logs t other log le) (ab.logs t other log lo le ne))
      (λ late. iff_then (bc.logs t other log late hi ne) (ab.logs b.clock other log ab.past.later (omega arith) ne))
      (cases_lt t b.clock);
  maps = λ t other m lo hi. ⊎_elim
      (λ early. let le : t ≤ b.clock = omega (arith, early) in iff_then (bc.past.maps t other m le) (ab.maps t other m lo le))
      (λ late. iff_then (bc.maps t other m late hi) (ab.maps b.clock other m ab.past.later (omega arith)))
      (cases_lt t b.clock);
}

-- a run after a call that only read
pub log_moves_after_idle : (name : List ℕ) (step : Log → Log → Type 0) (a b c : State) → b.clock ≡ a.clock → PastStays a b → ((log : Log) → step log log) → LogMoves name step b c → LogMoves name step a c
log_moves_after_idle name step a b c clock past same bc =
    log_moves_joins name (λ old new. new ≡ old) step step a b c (log_moves_idle name (λ old new. new ≡ old) a b clock past (λ log. refl)) bc
    (λ old new is. subst (step old) (sym is) (same old))
    (λ old mid new is goes. subst (λ (from : Log). step from new) is goes)

-- a sync after a run
pub log_moves_then_stays : (name : List ℕ) (step : Log → Log → Type 0) (a b c : State) → LogMoves name step a b → LogMoves name Stays b c → LogMoves name step a c
log_moves_then_stays name step a b c ab bc =
    log_moves_joins name step Stays step a b c ab bc (λ old new goes. goes) (λ old mid new goes is. subst (step old) (sym is) goes)

-- a wider step
pub log_moves_wider : (name : List ℕ) (first second : Log → Log → Type 0) (a b : State) → LogMoves name first a b → ((old new : Log) → first old new → second old new) → LogMoves name second a b
log_moves_wider name first second a b moves wider = record {
  past = moves.past;
  this = λ t log lo hi left. let from = moves.this t log lo hi left in (from.0, from.1, wider from.0 log from.2);
  logs = moves.logs;
  maps = moves.maps;
}

-- A log beside a map.

pub pair_has_after : (one two : List ℕ) (Q : Log → Map → Type 0) (a b : State) → PairKeeps one two Q a b → PairHas b one two Q
pair_has_after one two Q a b keeps log m left_log left_map = keeps.during b.clock log m keeps.past.later (omega arith) left_log left_map

pub pair_keeps_joins : (one two : List ℕ) (Q : Log → Map → Type 0) (a b c : State) → PairKeeps one two Q a b → PairKeeps one two Q b c → PairKeeps one two Q a c
pair_keeps_joins one two Q a b c ab bc = record {
  past = past_joins a b c ab.past bc.past;
  during = λ t log m lo hi left_log left_map. ⊎_elim
      (λ early. let le : t ≤ b.clock = omega (arith, early) in ab.during t log m lo le ((bc.past.logs t one log le).0 left_log) ((bc.past.maps t two m le).0 left_map))
      (λ late. bc.during t log m late hi left_log left_map)
      (cases_lt t b.clock);
}

-- a call on the log of the two
pub pair_moves_log : (one two : List ℕ) (step : Log → Log → Type 0) (Q R : Log → Map → Type 0) (a b : State) → LogMoves one step a b → PairHas a one two Q → ((old new : Log) (m : Map) → Q old m → step old new → R new m) → PairKeeps one two R a b
pair_moves_log one two step Q R a b moves has goes = record {
  past = moves.past;
  during = λ t log m lo hi left_log left_map. let from = moves.this t log lo hi left_log in goes from.0 log m (has from.0 m from.1 ((moves.maps t two m lo hi).0 left_map)) from.2;
}

-- a call on the map of the two
pub pair_moves_map : (one two : List ℕ) (step : Map → Map → Type 0) (Q R : Log → Map → Type 0) (a b : State) → MapMoves two step a b → PairHas a one two Q → ((log : Log) (old new : Map) → Q log old → step old new → R log new) → PairKeeps one two R a b
pair_moves_map one two step Q R a b moves has goes = record {
  past = moves.past;
  during = λ t log m lo hi left_log left_map. let from = moves.this t m lo hi left_map in goes log from.0 m (has log from.0 ((moves.logs t one log lo hi).0 left_log) from.1) from.2;
}

pub each_moment_of_pair : (one two : List ℕ) (Q : Log → Map → Type 0) (P : Image → Type 0) (a b : State) → PairKeeps one two Q a b → ((image : Image) → Q (image.log one) (image.map two) → P image) → EachMoment P a b
each_moment_of_pair one two Q P a b keeps gives = record {
  past = keeps.past;
  during = λ t image lo hi left. gives image (keeps.during t (image.log one) (image.map two) lo hi (left.logs one) (left.maps two));
}

-- Whatever a call answers, the contents that it leaves are one of its images: they follow by its step from an image of before.
pub contents_follow : (name : List ℕ) (step : Log → Log → Type 0) (a b : State) → LogMoves name step a b → LeftAt b b.clock (present b) → Follows (a.log_left a.clock name) step (b.log name)
contents_follow name step a b moves now = moves.this b.clock (b.log name) moves.past.later (omega arith) (now.logs name)

-- so where a crash left the contents alone, they have made one step
pub contents_step : (name : List ℕ) (step : Log → Log → Type 0) (a b : State) → OnlyLeft (a.log_left a.clock name) (a.log name) → LogMoves name step a b → LeftAt b b.clock (present b) → step (a.log name) (b.log name)
contents_step name step a b only moves now =
    let from = contents_follow name step a b moves now in
    subst (λ (l : Log). step l (b.log name)) (only from.0 from.1) from.2
