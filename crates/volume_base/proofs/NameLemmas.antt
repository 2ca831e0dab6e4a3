-- The names of a store: what is left of them together, and what stays of every other name.
use Rattle.std.proofs.Common.{◌≡◌, ◌≢◌, inl, inr, ⊎_elim, ℕ, ◌≤◌, true, false, if◌then◌else◌, List, [], ◌∷◌, ◌++◌, refl, sym, ◌∙◌, subst, arith}
use Rattle.std.proofs.lemmas.Bool.{cases_lt}
use Rattle.std.proofs.lemmas.Slice.Eq.{bytes_eq-Decides}
use Rattle.std.specs.Str.{bytes_eq}
use Rattle.std.specs.Prelude.{Result}
use Rattle.volume_base.specs.Log.{Log}
use Rattle.volume_base.specs.Volume.{State, Map, PastStays, SameContents, OnlyLog, OnlyMap, LogMoves, MapMoves, OnlyLeft}
use Rattle.volume_base.specs.Moments.{Image, LeftAt, NamesLeft, LogHas, MapHas, LogKeeps, MapKeeps, Now, Keeps, Steps, EachNow, present}
use Rattle.volume_base.specs.Names.{Names, EachOf, IsOneOf, IsNoneOf, AreApart, OnlyNames, OthersStay, joined, log_and_map, two_logs_and_map}
use Rattle.volume_base.proofs.MomentLemmas.{iff_then, same_at, past_same, past_joins}
use Rattle.volume_base.proofs.ImageLemmas.{with_log, with_map, chosen, chosen_left, chosen_at}
use Rattle.volume_base.proofs.TurnLemmas.{each_of_weaker, steps_beside, steps_of_part, keeps_of_part}

-- Lists of names.

pub each_at : (P : List ℕ → Type 0) (names : List (List ℕ)) (name : List ℕ) → EachOf P names → IsOneOf name names → P name
each_at P [] name all one = absurd one
each_at P (first ∷ names) name all (inl is) = subst P (sym is) all.0
each_at P (first ∷ names) name all (inr later) = each_at P names name all.1 later

pub each_of_two : (P Q R : List ℕ → Type 0) (names : List (List ℕ)) → ((name : List ℕ) → P name → Q name → R name) → EachOf P names → EachOf Q names → EachOf R names
each_of_two P Q R [] goes ps qs = tt
each_of_two P Q R (name ∷ names) goes ps qs = (goes name ps.0 qs.0, each_of_two P Q R names goes ps.1 qs.1)

pub each_of_all : (P : List ℕ → Type 0) (names : List (List ℕ)) → ((name : List ℕ) → P name) → EachOf P names
each_of_all P [] all = tt
each_of_all P (name ∷ names) all = (all name, each_of_all P names all)

pub each_of_first : (P : List ℕ → Type 0) (names more : List (List ℕ)) → EachOf P (names ++ more) → EachOf P names
each_of_first P [] more all = tt
each_of_first P (name ∷ names) more all = (all.0, each_of_first P names more all.1)

pub each_of_second : (P : List ℕ → Type 0) (names more : List (List ℕ)) → EachOf P (names ++ more) → EachOf P more
each_of_second P [] more all = all
each_of_second P (name ∷ names) more all = each_of_second P names more all.1

apart : (names : List (List ℕ)) (name other : List ℕ) → IsOneOf name names → IsNoneOf other names → other ≢ name
apart names name other one none = each_at (λ n. other ≢ n) names name none one

-- What is left of names together, of one of them.

pub names_of_image : (names : Names) (s : State) (t : ℕ) (image : Image) → LeftAt s t image → NamesLeft names s t image
names_of_image names s t image at = record {
  logs = each_of_all (λ name. s.log_left t name (image.log name)) names.logs at.logs;
  maps = each_of_all (λ name. s.map_left t name (image.map name)) names.maps at.maps;
}

pub log_of_names : (names : Names) (name : List ℕ) → IsOneOf name names.logs → (s : State) (t : ℕ) (image : Image) → NamesLeft names s t image → s.log_left t name (image.log name)
log_of_names names name one s t image at = each_at (λ n. s.log_left t n (image.log n)) names.logs name at.logs one

pub map_of_names : (names : Names) (name : List ℕ) → IsOneOf name names.maps → (s : State) (t : ℕ) (image : Image) → NamesLeft names s t image → s.map_left t name (image.map name)
map_of_names names name one s t image at = each_at (λ n. s.map_left t n (image.map n)) names.maps name at.maps one

-- of the names of two stores, those of the first, and those of the second
pub names_of_first : (names more : Names) (s : State) (t : ℕ) (image : Image) → NamesLeft (joined names more) s t image → NamesLeft names s t image
names_of_first names more s t image at = record {
  logs = each_of_first (λ n. s.log_left t n (image.log n)) names.logs more.logs at.logs;
  maps = each_of_first (λ n. s.map_left t n (image.map n)) names.maps more.maps at.maps;
}

pub names_of_second : (names more : Names) (s : State) (t : ℕ) (image : Image) → NamesLeft (joined names more) s t image → NamesLeft more s t image
names_of_second names more s t image at = record {
  logs = each_of_second (λ n. s.log_left t n (image.log n)) names.logs more.logs at.logs;
  maps = each_of_second (λ n. s.map_left t n (image.map n)) names.maps more.maps at.maps;
}

-- Every other name stays, over calls in sequence.

pub stay_none : (names : Names) (s : State) → OthersStay names s s
stay_none names s = record {
  past = past_same s;
  logs = λ other none t log lo hi. same_at (λ u. s.log_left u other log) t s.clock (omega (arith, lo, hi));
  maps = λ other none t m lo hi. same_at (λ u. s.map_left u other m) t s.clock (omega (arith, lo, hi));
}

-- a call that leaves the clock
pub stay_idle : (names : Names) (a b : State) → b.clock ≡ a.clock → PastStays a b → OthersStay names a b
stay_idle names a b clock past = record {
  past = past;
  logs = λ other none t log lo hi. iff_then (same_at (λ u. b.log_left u other log) t a.clock (omega (arith, lo, hi, clock))) (past.logs a.clock other log (omega arith));
  maps = λ other none t m lo hi. iff_then (same_at (λ u. b.map_left u other m) t a.clock (omega (arith, lo, hi, clock))) (past.maps a.clock other m (omega arith));
}

-- a call on a log of the store, and one on a map
pub stay_log : (names : Names) (name : List ℕ) (step : Log → Log → Type 0) (a b : State) → IsOneOf name names.logs → LogMoves name step a b → OthersStay names a b
stay_log names name step a b one moves = record {
  past = moves.past;
  logs = λ other none t log lo hi. moves.logs t other log lo hi (apart names.logs name other one none);
  maps = λ other none t m lo hi. moves.maps t other m lo hi;
}

pub stay_map : (names : Names) (name : List ℕ) (step : Map → Map → Type 0) (a b : State) → IsOneOf name names.maps → MapMoves name step a b → OthersStay names a b
stay_map names name step a b one moves = record {
  past = moves.past;
  logs = λ other none t log lo hi. moves.logs t other log lo hi;
  maps = λ other none t m lo hi. moves.maps t other m lo hi (apart names.maps name other one none);
}

pub stay_joins : (names : Names) (a b c : State) → OthersStay names a b → OthersStay names b c → OthersStay names a c
stay_joins names a b c ab bc = record {
  past = past_joins a b c ab.past bc.past;
  logs = λ other none t log lo hi. ⊎_elim
      (λ early. let le : t ≤ b.clock = omega (arith, early) in iff_then (bc.past.logs t other log le) (ab.logs other none t log lo le))
      (λ late. iff_then (bc.logs other none t log late hi) (ab.logs other none b.clock log ab.past.later (omega arith)))
      (cases_lt t b.clock);
  maps = λ other none t m lo hi. ⊎_elim
      (λ early. let le : t ≤ b.clock = omega (arith, early) in iff_then (bc.past.maps t other m le) (ab.maps other none t m lo le))
      (λ late. iff_then (bc.maps other none t m late hi) (ab.maps other none b.clock m ab.past.later (omega arith)))
      (cases_lt t b.clock);
}

-- a call on the names of one of two stores
pub stay_first : (names more : Names) (a b : State) → OthersStay names a b → OthersStay (joined names more) a b
stay_first names more a b stay = record {
  past = stay.past;
  logs = λ other none t log lo hi. stay.logs other (each_of_first (λ n. other ≢ n) names.logs more.logs none) t log lo hi;
  maps = λ other none t m lo hi. stay.maps other (each_of_first (λ n. other ≢ n) names.maps more.maps none) t m lo hi;
}

pub stay_second : (names more : Names) (a b : State) → OthersStay more a b → OthersStay (joined names more) a b
stay_second names more a b stay = record {
  past = stay.past;
  logs = λ other none t log lo hi. stay.logs other (each_of_second (λ n. other ≢ n) names.logs more.logs none) t log lo hi;
  maps = λ other none t m lo hi. stay.maps other (each_of_second (λ n. other ≢ n) names.maps more.maps none) t m lo hi;
}

-- What is so of another log or map, or of the names of another store, is so all along.

pub log_beside : (names : Names) (name : List ℕ) (Q : Log → Type 0) (a b : State) → OthersStay names a b → IsNoneOf name names.logs → LogHas a name Q → LogKeeps name Q a b
log_beside names name Q a b stay none has = record { past = stay.past; during = λ t log lo hi at. has log ((stay.logs name none t log lo hi).0 at) }

pub map_beside : (names : Names) (name : List ℕ) (Q : Map → Type 0) (a b : State) → OthersStay names a b → IsNoneOf name names.maps → MapHas a name Q → MapKeeps name Q a b
map_beside names name Q a b stay none has = record { past = stay.past; during = λ t m lo hi at. has m ((stay.maps name none t m lo hi).0 at) }

pub names_beside : (names others : Names) (Q : Image → Type 0) (a b : State) → OthersStay names a b → AreApart names others → Now (NamesLeft others) Q a → Keeps (NamesLeft others) Q a b
names_beside names others Q a b stay are has = record {
  past = stay.past;
  during = λ t image lo hi at. has image (record {
    logs = each_of_two (λ n. IsNoneOf n names.logs) (λ n. b.log_left t n (image.log n)) (λ n. a.log_left a.clock n (image.log n)) others.logs (λ n none left. (stay.logs n none t (image.log n) lo hi).0 left) are.logs at.logs;
    maps = each_of_two (λ n. IsNoneOf n names.maps) (λ n. b.map_left t n (image.map n)) (λ n. a.map_left a.clock n (image.map n)) others.maps (λ n none left. (stay.maps n none t (image.map n) lo hi).0 left) are.maps at.maps;
  });
}

-- what was durable in another log, or map, stays so
pub durable_after : (names : Names) (other : List ℕ) (a b : State) → OthersStay names a b → IsNoneOf other names.logs → b.log other ≡ a.log other → OnlyLeft (a.log_left a.clock other) (a.log other) → OnlyLeft (b.log_left b.clock other) (b.log other)
durable_after names other a b stay none same only image left = only image ((stay.logs other none b.clock image stay.past.later (omega arith)).0 left) ∙ sym same

pub durable_map_after : (names : Names) (other : List ℕ) (a b : State) → OthersStay names a b → IsNoneOf other names.maps → b.map other ≡ a.map other → OnlyLeft (a.map_left a.clock other) (a.map other) → OnlyLeft (b.map_left b.clock other) (b.map other)
durable_map_after names other a b stay none same only image left = only image ((stay.maps other none b.clock image stay.past.later (omega arith)).0 left) ∙ sym same

-- Of the contents at most these names have changed.

pub only_names_log : (names : Names) (name : List ℕ) (a b : State) → IsOneOf name names.logs → OnlyLog name a b → OnlyNames names a b
only_names_log names name a b one only = record { logs = λ other none. only.logs other (apart names.logs name other one none); maps = λ other none. only.maps other }

pub only_names_map : (names : Names) (name : List ℕ) (a b : State) → IsOneOf name names.maps → OnlyMap name a b → OnlyNames names a b
only_names_map names name a b one only = record { logs = λ other none. only.logs other; maps = λ other none. only.maps other (apart names.maps name other one none) }

pub only_names_same : (names : Names) (a b : State) → SameContents a b → OnlyNames names a b
only_names_same names a b same = record { logs = λ other none. same.logs other; maps = λ other none. same.maps other }

pub only_names_joins : (names : Names) (a b c : State) → OnlyNames names a b → OnlyNames names b c → OnlyNames names a c
only_names_joins names a b c ab bc = record { logs = λ other none. bc.logs other none ∙ ab.logs other none; maps = λ other none. bc.maps other none ∙ ab.maps other none }

-- A call on one log, or map, of a store: what was left has P with the older log in its place, and what follows has R.

module _ (names : Names) (name : List ℕ) (P R : Image → Type 0) (a b : State) where
  log_before : (step : Log → Log → Type 0) → LogMoves name step a b → (t : ℕ) (image : Image) → a.clock ≤ t → t ≤ b.clock → (was : Log) → a.log_left a.clock name was → (n : List ℕ) → b.log_left t n (image.log n) → a.log_left a.clock n ((with_log name was image).log n)
  log_before step moves t image lo hi was from n at = elim (bytes_eq name n) as (λ is. bytes_eq name n ≡ is → a.log_left a.clock n (if is then was else image.log n)) [
    | true ↦ λ same. subst (λ k. a.log_left a.clock k was) ((bytes_eq-Decides name n).0 same) from
    | false ↦ λ no. (moves.logs t n (image.log n) lo hi (λ same. let never : true ≡ false = sym ((bytes_eq-Decides name n).1 (sym same)) ∙ no in absurd cc)).0 at
  ] refl

  pub names_move_log : (step : Log → Log → Type 0) → IsOneOf name names.logs → LogMoves name step a b → Now (NamesLeft names) P a → ((image : Image) (was : Log) → P (with_log name was image) → step was (image.log name) → R image) → Keeps (NamesLeft names) R a b
  names_move_log step one moves has goes = record {
    past = moves.past;
    during = λ t image lo hi at.
        let from = moves.this t (image.log name) lo hi (log_of_names names name one b t image at) in
        goes image from.0 (has (with_log name from.0 image) (record {
          logs = each_of_weaker (λ n. b.log_left t n (image.log n)) (λ n. a.log_left a.clock n ((with_log name from.0 image).log n)) names.logs (log_before step moves t image lo hi from.0 from.1) at.logs;
          maps = each_of_weaker (λ n. b.map_left t n (image.map n)) (λ n. a.map_left a.clock n (image.map n)) names.maps (λ n left. (moves.maps t n (image.map n) lo hi).0 left) at.maps;
        })) from.2;
  }

  map_before : (step : Map → Map → Type 0) → MapMoves name step a b → (t : ℕ) (image : Image) → a.clock ≤ t → t ≤ b.clock → (was : Map) → a.map_left a.clock name was → (n : List ℕ) → b.map_left t n (image.map n) → a.map_left a.clock n ((with_map name was image).map n)
  map_before step moves t image lo hi was from n at = elim (bytes_eq name n) as (λ is. bytes_eq name n ≡ is → a.map_left a.clock n (if is then was else image.map n)) [
    | true ↦ λ same. subst (λ k. a.map_left a.clock k was) ((bytes_eq-Decides name n).0 same) from
    | false ↦ λ no. (moves.maps t n (image.map n) lo hi (λ same. let never : true ≡ false = sym ((bytes_eq-Decides name n).1 (sym same)) ∙ no in absurd cc)).0 at
  ] refl

  pub names_move_map : (step : Map → Map → Type 0) → IsOneOf name names.maps → MapMoves name step a b → Now (NamesLeft names) P a → ((image : Image) (was : Map) → P (with_map name was image) → step was (image.map name) → R image) → Keeps (NamesLeft names) R a b
  names_move_map step one moves has goes = record {
    past = moves.past;
    during = λ t image lo hi at.
        let from = moves.this t (image.map name) lo hi (map_of_names names name one b t image at) in
        goes image from.0 (has (with_map name from.0 image) (record {
          logs = each_of_weaker (λ n. b.log_left t n (image.log n)) (λ n. a.log_left a.clock n (image.log n)) names.logs (λ n left. (moves.logs t n (image.log n) lo hi).0 left) at.logs;
          maps = each_of_weaker (λ n. b.map_left t n (image.map n)) (λ n. a.map_left a.clock n ((with_map name from.0 image).map n)) names.maps (map_before step moves t image lo hi from.0 from.1) at.maps;
        })) from.2;
  }

-- What each image of the volume has, what is left of the names has, where that speaks of these names alone.

pub record AgreeOn (names : Names) (one two : Image) : Type 0 where
  pub logs : EachOf (λ name. two.log name ≡ one.log name) names.logs
  pub maps : EachOf (λ name. two.map name ≡ one.map name) names.maps

pub names_of_each : (names : Names) (P : Image → Type 0) (s : State) → ((one two : Image) → AgreeOn names one two → P one → P two) → LeftAt s s.clock (present s) → EachNow P s → Now (NamesLeft names) P s
names_of_each names P s alone now each image at =
    let whole : Image = record { log = chosen names.logs image.log s.log; map = chosen names.maps image.map s.map } in
    alone whole image
    (record { logs = each_chosen names.logs image.log s.log; maps = each_chosen names.maps image.map s.map })
    (each whole (record {
      logs = chosen_left (λ n log. s.log_left s.clock n log) names.logs image.log s.log at.logs now.logs;
      maps = chosen_left (λ n m. s.map_left s.clock n m) names.maps image.map s.map at.maps now.maps;
    }))
  where
    each_chosen : {A : Type 0} (list : List (List ℕ)) (one two : List ℕ → A) → EachOf (λ n. one n ≡ chosen list one two n) list
    each_chosen list one two = each_in list (λ n is. sym (chosen_at list one two n is))
      where
        each_in : {P : List ℕ → Type 0} (list : List (List ℕ)) → ((n : List ℕ) → IsOneOf n list → P n) → EachOf P list
        each_in [] all = tt
        each_in (n ∷ list) all = (all n (inl refl), each_in list (λ k is. all k (inr is)))

-- so does what speaks of a log beside a map, or of two logs beside a map, by their values
pub agree_pair : (log map : List ℕ) (Q : Log → Map → Type 0) (one two : Image) → AgreeOn (log_and_map log map) one two → Q (one.log log) (one.map map) → Q (two.log log) (two.map map)
agree_pair log map Q one two agree is = subst (λ (m : Map). Q (two.log log) m) (sym agree.maps.0) (subst (λ (l : Log). Q l (one.map map)) (sym agree.logs.0) is)

pub agree_three : (log more map : List ℕ) (Q : Log → Log → Map → Type 0) (one two : Image) → AgreeOn (two_logs_and_map log more map) one two → Q (one.log log) (one.log more) (one.map map) → Q (two.log log) (two.log more) (two.map map)
agree_three log more map Q one two agree is =
    subst (λ (m : Map). Q (two.log log) (two.log more) m) (sym agree.maps.0) (subst (λ (l : Log). Q (two.log log) l (one.map map)) (sym agree.logs.1.0) (subst (λ (l : Log). Q l (one.log more) (one.map map)) (sym agree.logs.0) is))

-- A call on the names of one of two stores, in what it leaves of both; and of the whole volume.

module _ {T E : Type 0} (names others : Names) (P Q R : Image → Type 0) (a b : State) (result : Result T E) where
  pub first_steps : OthersStay names a b → AreApart names others → Steps (NamesLeft names) P Q a b result → Now (NamesLeft others) R a → Steps (NamesLeft (joined names others)) (λ image. P image × R image) (λ image. Q image × R image) a b result
  first_steps stay are steps has =
      steps_beside (NamesLeft (joined names others)) P Q R a b result
      (steps_of_part (NamesLeft (joined names others)) (NamesLeft names) (λ image. image) (names_of_first names others) P Q a b result steps)
      (keeps_of_part (NamesLeft (joined names others)) (NamesLeft others) (λ image. image) (names_of_second names others) R a b (names_beside names others R a b stay are has))

  pub second_steps : OthersStay others a b → AreApart others names → Steps (NamesLeft others) P Q a b result → Now (NamesLeft names) R a → Steps (NamesLeft (joined names others)) (λ image. P image × R image) (λ image. Q image × R image) a b result
  second_steps stay are steps has =
      steps_beside (NamesLeft (joined names others)) P Q R a b result
      (steps_of_part (NamesLeft (joined names others)) (NamesLeft others) (λ image. image) (names_of_second names others) P Q a b result steps)
      (keeps_of_part (NamesLeft (joined names others)) (NamesLeft names) (λ image. image) (names_of_first names others) R a b (names_beside others names R a b stay are has))

  pub image_steps : Steps (NamesLeft names) P Q a b result → Steps LeftAt P Q a b result
  image_steps steps = steps_of_part LeftAt (NamesLeft names) (λ image. image) (names_of_image names) P Q a b result steps
