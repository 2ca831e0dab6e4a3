-- What a volume in memory stands for, one call later.
use Rattle.std.proofs.Common.{◌≡◌, ◌≢◌, inl, inr, ⊎_elim, ℕ, ◌+◌, ◌<◌, ◌≤◌, true, false, if◌then◌else◌, List, [], ◌∷◌, ◌++◌, length, take, refl, sym, ◌∙◌, ap, subst, arith, length-append}
use Rattle.std.specs.Prelude.{fold}
use Rattle.std.proofs.lemmas.List.{take_all, take-append-le}
use Rattle.std.proofs.lemmas.Bool.{cases_lt}
use Rattle.std.specs.Str.{bytes_eq}
use Rattle.volume_base.specs.Log.{Log, end_of, Grows, Shrinks, Advances, Stays, BecomesOneOf, no_log}
use Rattle.volume_base.specs.Volume.{Map, Follows, PastStays, SameContents, OnlyLog, OnlyMap, LogMoves, LogCall, MapCall, OnlyLeft}
use Rattle.volume_base.proofs.CallLemmas.{log_call_idle, map_call_idle}
use Rattle.volume_base.proofs.MomentLemmas.{same_at}
use Rattle.volume_base.proofs.StepLemmas.{grows_same, shrinks_same}
use Rattle.stream_base.specs.Failing.{Failing}
use Rattle.memory_volume.specs.Versions.{Versions, only, IsImage}
use Rattle.memory_volume.specs.VersionLaws.{greatest_of_ge, present_is_image}
use Rattle.memory_volume.specs.Record.{after, changed, versions_of, map_of, next_versions}
use Rattle.memory_volume.specs.Memory.{memory_state}
use Rattle.memory_volume.specs.declared.entry.LogChange.{LogChange}
use Rattle.memory_volume.specs.declared.entry.LogChange.TheVariants.{Append, Sync, Cut, Prune, Put}
use Rattle.memory_volume.specs.declared.entry.Entry.{Entry}
use Rattle.memory_volume.specs.declared.entry.Entry.TheVariants.{OfLog, OfMap}
use Rattle.memory_volume.proofs.TableLemmas.{same_name, other_name}
use Rattle.memory_volume.proofs.KeptLemmas.{versions_push, map_push, present_after}
use Rattle.memory_volume.proofs.VersionLemmas.{IsLevel, grown_greatest, grown_start, prune_level, images_grow, images_cut, images_prune, advances_same, only_image}

-- the counts stand beside what the record says
pub past_counts : (calls calls' : List Entry) (f g : Failing) (r s : ℕ) → calls' ≡ calls → PastStays (memory_state calls f r) (memory_state calls' g s)
past_counts calls calls' f g r s is = subst (λ (c : List Entry). PastStays (memory_state calls f r) (memory_state c g s)) (sym is) (record { later = omega arith; logs = λ t n l le. (λ x. x, λ x. x); maps = λ t n m le. (λ x. x, λ x. x) })

same_counts : (calls calls' : List Entry) (f g : Failing) (r s : ℕ) → calls' ≡ calls → SameContents (memory_state calls f r) (memory_state calls' g s)
same_counts calls calls' f g r s is = record { logs = λ name. ap (λ (c : List Entry). (versions_of c name).present) is; maps = λ name. ap (λ (c : List Entry). map_of c name) is }

-- a call that puts nothing behind the record

pub idle_log_call : (calls calls' : List Entry) (f g : Failing) (r s : ℕ) (name : List ℕ) (step : Log → Log → Type 0) → calls' ≡ calls → ((log : Log) → step log log) → LogCall name step (memory_state calls f r) (memory_state calls' g s)
idle_log_call calls calls' f g r s name step is same = log_call_idle name step (memory_state calls f r) (memory_state calls' g s) (ap length is) (past_counts calls calls' f g r s is) (same_counts calls calls' f g r s is) same

pub idle_map_call : (calls calls' : List Entry) (f g : Failing) (r s : ℕ) (name : List ℕ) (step : Map → Map → Type 0) → calls' ≡ calls → ((m : Map) → step m m) → MapCall name step (memory_state calls f r) (memory_state calls' g s)
idle_map_call calls calls' f g r s name step is same = map_call_idle name step (memory_state calls f r) (memory_state calls' g s) (ap length is) (past_counts calls calls' f g r s is) (same_counts calls calls' f g r s is) same

-- A log's start never falls, so the greatest start among its versions is the present one.

level_keeps : (name : List ℕ) (versions : Versions) (call : Entry) → IsLevel versions → IsLevel (next_versions name versions call)
level_keeps name versions (OfMap its map) level = level
level_keeps name versions (OfLog its change) level = elim (bytes_eq its name) as (λ b. IsLevel (if b then changed versions change else versions)) [ true ↦ by_change change | false ↦ level ]
  where
    by_change : (change : LogChange) → IsLevel (changed versions change)
    by_change (Append items) = omega (arith, level, grown_greatest versions items, grown_start versions items)
    by_change Sync = omega arith
    by_change (Cut end) = omega (arith, level, greatest_of_ge versions.present.start versions.earlier)
    by_change (Prune start) = prune_level versions start level
    by_change (Put start items) = omega arith

level_from : (name : List ℕ) (versions : Versions) (calls : List Entry) → IsLevel versions → IsLevel (fold (next_versions name) versions calls)
level_from name versions [] level = level
level_from name versions (call ∷ calls) level = level_from name (next_versions name versions call) calls (level_keeps name versions call level)

pub level_all : (calls : List Entry) (name : List ℕ) → IsLevel (versions_of calls name)
level_all calls name = level_from name (only no_log) calls (omega arith)

-- A call is put behind the record.
module _ (calls calls' : List Entry) (call : Entry) (pushed : calls' ≡ calls ++ call ∷ []) where
  longer : length calls' ≡ length calls + 1
  longer = ap length pushed ∙ length-append calls (call ∷ [])

  early : (t : ℕ) → t ≤ length calls → take t calls' ≡ take t calls
  early t le = ap (take t) pushed ∙ take-append-le t calls (call ∷ []) le

  at_start : take (length calls) calls ≡ calls
  at_start = take_all (length calls) calls (omega arith)

  at_end : (t : ℕ) → length calls < t → t ≤ length calls' → take t calls' ≡ calls'
  at_end t lt le = take_all t calls' (omega (arith, longer))

  early_now : (t : ℕ) → length calls ≤ t → t ≤ length calls → take t calls' ≡ take (length calls) calls
  early_now t lo hi = early t hi ∙ ap (λ n. take n calls) (omega arith)

  -- what the call leaves of a name, each moment of it leaves
  versions_stay : (name : List ℕ) → versions_of calls' name ≡ versions_of calls name → (t : ℕ) → length calls ≤ t → t ≤ length calls' → versions_of (take t calls') name ≡ versions_of (take (length calls) calls) name
  versions_stay name same t lo hi = ⊎_elim
      (λ after. ap (λ (c : List Entry). versions_of c name) (at_end t after hi) ∙ same ∙ ap (λ (c : List Entry). versions_of c name) (sym at_start))
      (λ before. ap (λ (c : List Entry). versions_of c name) (early_now t lo before))
      (cases_lt (length calls) t)

  map_stays : (name : List ℕ) → map_of calls' name ≡ map_of calls name → (t : ℕ) → length calls ≤ t → t ≤ length calls' → map_of (take t calls') name ≡ map_of (take (length calls) calls) name
  map_stays name same t lo hi = ⊎_elim
      (λ after. ap (λ (c : List Entry). map_of c name) (at_end t after hi) ∙ same ∙ ap (λ (c : List Entry). map_of c name) (sym at_start))
      (λ before. ap (λ (c : List Entry). map_of c name) (early_now t lo before))
      (cases_lt (length calls) t)

  past : (f g : Failing) (r s : ℕ) → PastStays (memory_state calls f r) (memory_state calls' g s)
  past f g r s = record {
    later = omega (arith, longer);
    logs = λ t n l le. same_at (λ (c : List Entry). IsImage (versions_of c n) l) (take t calls') (take t calls) (early t le);
    maps = λ t n m le. same_at (λ (c : List Entry). m ≡ map_of c n) (take t calls') (take t calls) (early t le);
  }

-- A change of a log.
module _ (calls calls' : List Entry) (name : List ℕ) (change : LogChange) (pushed : calls' ≡ calls ++ OfLog name change ∷ []) where
  pub versions_are : versions_of calls' name ≡ changed (versions_of calls name) change
  versions_are =
      ap (λ (c : List Entry). versions_of c name) pushed ∙ versions_push calls (OfLog name change) name
      ∙ ap (λ b. if b then changed (versions_of calls name) change else versions_of calls name) (same_name name)

  other_versions : (other : List ℕ) → other ≢ name → versions_of calls' other ≡ versions_of calls other
  other_versions other ne =
      ap (λ (c : List Entry). versions_of c other) pushed ∙ versions_push calls (OfLog name change) other
      ∙ ap (λ b. if b then changed (versions_of calls other) change else versions_of calls other) (other_name name other (λ same. ne (sym same)))

  all_maps : (other : List ℕ) → map_of calls' other ≡ map_of calls other
  all_maps other = ap (λ (c : List Entry). map_of c other) pushed ∙ map_push calls (OfLog name change) other

  pub contents_are : (versions_of calls' name).present ≡ after (versions_of calls name).present change
  contents_are = ap (λ (v : Versions). v.present) versions_are ∙ present_after (versions_of calls name) change

  module _ (f g : Failing) (r s : ℕ) where
    only_log : OnlyLog name (memory_state calls f r) (memory_state calls' g s)
    only_log = record { logs = λ other ne. ap (λ (v : Versions). v.present) (other_versions other ne); maps = all_maps }

    call_moves : (step : Log → Log → Type 0) → ((log : Log) → step log log) → ((image : Log) → IsImage (changed (versions_of calls name) change) image → Follows (IsImage (versions_of calls name)) step image) → LogMoves name step (memory_state calls f r) (memory_state calls' g s)
    call_moves step same goes = record {
      past = past calls calls' (OfLog name change) pushed f g r s;
      this = λ t log lo hi left. ⊎_elim
          (λ after.
          let image = subst (λ (v : Versions). IsImage v log) versions_are (subst (λ (c : List Entry). IsImage (versions_of c name) log) (at_end calls calls' (OfLog name change) pushed t after hi) left) in
          subst (λ (c : List Entry). Follows (IsImage (versions_of c name)) step log) (sym (at_start calls calls' (OfLog name change) pushed)) (goes log image))
          (λ before. (log, subst (λ (c : List Entry). IsImage (versions_of c name) log) (early_now calls calls' (OfLog name change) pushed t lo before) left, same log))
          (cases_lt (length calls) t);
      logs = λ t other log lo hi ne. same_at (λ (v : Versions). IsImage v log) _ _ (versions_stay calls calls' (OfLog name change) pushed other (other_versions other ne) t lo hi);
      maps = λ t other m lo hi. same_at (λ (held : Map). m ≡ held) _ _ (map_stays calls calls' (OfLog name change) pushed other (all_maps other) t lo hi);
    }

    change_call : (step : Log → Log → Type 0) → ((log : Log) → step log log) → ((image : Log) → IsImage (changed (versions_of calls name) change) image → Follows (IsImage (versions_of calls name)) step image) → LogCall name step (memory_state calls f r) (memory_state calls' g s)
    change_call step same goes = record { others = only_log; images = call_moves step same goes }

    -- after a change that leaves one version nothing else is left
    pub only_one_left : (log : Log) → changed (versions_of calls name) change ≡ only log → OnlyLeft ((memory_state calls' g s).log_left (length calls') name) log
    only_one_left log is image left =
        let at_now = subst (λ (c : List Entry). IsImage (versions_of c name) image) (take_all (length calls') calls' (omega arith)) left in
        only_image log image (subst (λ (v : Versions). IsImage v image) (versions_are ∙ is) at_now)

    -- and the only new image is that one
    pub one_call : (step : Log → Log → Type 0) (log : Log) → changed (versions_of calls name) change ≡ only log → ((old : Log) → step old old) → step (versions_of calls name).present log → LogCall name step (memory_state calls f r) (memory_state calls' g s)
    one_call step log is same goes = change_call step same (λ image left.
        let image_is = only_image log image (subst (λ (v : Versions). IsImage v image) is left) in
        ((versions_of calls name).present, present_is_image (versions_of calls name), subst (step (versions_of calls name).present) (sym image_is) goes))

module _ (calls calls' : List Entry) (name : List ℕ) (f g : Failing) (r s : ℕ) where
  pub append_call : (items : List (List ℕ)) → calls' ≡ calls ++ OfLog name (Append items) ∷ [] → LogCall name (Grows (versions_of calls name).present items) (memory_state calls f r) (memory_state calls' g s)
  append_call items pushed = change_call calls calls' name (Append items) pushed f g r s (Grows (versions_of calls name).present items) (grows_same _ _) (λ image left. images_grow (versions_of calls name) items image (level_all calls name) left)

  pub cut_call : (end : ℕ) → (versions_of calls name).present.start ≤ end → end ≤ end_of (versions_of calls name).present → calls' ≡ calls ++ OfLog name (Cut end) ∷ [] → LogCall name (Shrinks end) (memory_state calls f r) (memory_state calls' g s)
  cut_call end low high pushed = change_call calls calls' name (Cut end) pushed f g r s (Shrinks end) (shrinks_same end) (λ image left. images_cut (versions_of calls name) end image low high left)

  pub prune_call : (start : ℕ) → (versions_of calls name).present.start ≤ start → start ≤ end_of (versions_of calls name).present → calls' ≡ calls ++ OfLog name (Prune start) ∷ [] → LogCall name (Advances start) (memory_state calls f r) (memory_state calls' g s)
  prune_call start low high pushed = change_call calls calls' name (Prune start) pushed f g r s (Advances start) (advances_same start) (λ image left. images_prune (versions_of calls name) start image (level_all calls name) low high left)

  pub sync_call : calls' ≡ calls ++ OfLog name Sync ∷ [] → LogCall name Stays (memory_state calls f r) (memory_state calls' g s)
  sync_call pushed = one_call calls calls' name Sync pushed f g r s Stays (versions_of calls name).present refl (λ log. refl) refl

-- Another map.
module _ (calls calls' : List Entry) (name : List ℕ) (m : Map) (pushed : calls' ≡ calls ++ OfMap name m ∷ []) where
  all_versions : (other : List ℕ) → versions_of calls' other ≡ versions_of calls other
  all_versions other = ap (λ (c : List Entry). versions_of c other) pushed ∙ versions_push calls (OfMap name m) other

  each_map : (other : List ℕ) → map_of calls' other ≡ (if bytes_eq name other then m else map_of calls other)
  each_map other = ap (λ (c : List Entry). map_of c other) pushed ∙ map_push calls (OfMap name m) other

  pub this_map : map_of calls' name ≡ m
  this_map = each_map name ∙ ap (λ b. if b then m else map_of calls name) (same_name name)

  other_map : (other : List ℕ) → other ≢ name → map_of calls' other ≡ map_of calls other
  other_map other ne = each_map other ∙ ap (λ b. if b then m else map_of calls other) (other_name name other (λ same. ne (sym same)))

  module _ (f g : Failing) (r s : ℕ) where
    only_map : OnlyMap name (memory_state calls f r) (memory_state calls' g s)
    only_map = record { logs = λ other. ap (λ (v : Versions). v.present) (all_versions other); maps = other_map }

    pub only_map_left : OnlyLeft ((memory_state calls' g s).map_left (length calls') name) m
    only_map_left image left = left ∙ ap (λ (c : List Entry). map_of c name) (take_all (length calls') calls' (omega arith)) ∙ this_map

    pub replace_call : MapCall name (BecomesOneOf m) (memory_state calls f r) (memory_state calls' g s)
    replace_call = record {
      others = only_map;
      images = record {
        past = past calls calls' (OfMap name m) pushed f g r s;
        this = λ t q lo hi left. ⊎_elim
            (λ after. (map_of calls name, ap (λ (c : List Entry). map_of c name) (sym (at_start calls calls' (OfMap name m) pushed)), inr (left ∙ ap (λ (c : List Entry). map_of c name) (at_end calls calls' (OfMap name m) pushed t after hi) ∙ this_map)))
            (λ before. (q, left ∙ ap (λ (c : List Entry). map_of c name) (early_now calls calls' (OfMap name m) pushed t lo before), inl refl))
            (cases_lt (length calls) t);
        logs = λ t other log lo hi. same_at (λ (v : Versions). IsImage v log) _ _ (versions_stay calls calls' (OfMap name m) pushed other (all_versions other) t lo hi);
        maps = λ t other q lo hi ne. same_at (λ (held : Map). q ≡ held) _ _ (map_stays calls calls' (OfMap name m) pushed other (other_map other ne) t lo hi);
      };
    }
