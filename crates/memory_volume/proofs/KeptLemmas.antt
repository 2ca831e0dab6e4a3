-- The tables go on as the record does.
use Rattle.std.proofs.Common.{◌≡◌, inl, inr, ⊎_elim, ℕ, ◌-◌, ◌<◌, ◌^◌, true, false, if◌then◌else◌, List, [], ◌∷◌, ◌++◌, take, refl, sym, ◌∙◌, ap, subst, arith, length-append}
use Rattle.std.proofs.lemmas.List.{length-take, length-drop}
use Rattle.std.proofs.lemmas.List.Sums.{fold-append}
use Rattle.std.proofs.lemmas.Slice.Eq.{bytes_eq-Decides}
use Rattle.std.specs.FinMap as map
use Rattle.std.specs.Str.{bytes_eq}
use Rattle.volume_base.specs.Log.{Log, no_log, end_of}
use Rattle.volume_base.specs.Volume.{Map}
use Rattle.memory_volume.specs.Versions.{Versions, only, IsVersion}
use Rattle.memory_volume.specs.Record.{after, CanChange, changed, next_versions, next_map, versions_of, map_of}
use Rattle.memory_volume.specs.Tables.{Sets, stored_log, stored_map, AreKept}
use Rattle.memory_volume.specs.declared.entry.LogChange.{LogChange}
use Rattle.memory_volume.specs.declared.entry.LogChange.TheVariants.{Append, Sync, Cut, Prune, Put}
use Rattle.memory_volume.specs.declared.entry.Entry.{Entry}
use Rattle.memory_volume.specs.declared.entry.Entry.TheVariants.{OfLog, OfMap}
use Rattle.memory_volume.specs.declared.stored.StoredLog.{StoredLog}
use Rattle.memory_volume.specs.declared.stored.StoredMap.{StoredMap}
use Rattle.memory_volume.proofs.VersionLemmas.{grown_present, grown_version}

pub versions_push : (calls : List Entry) (call : Entry) (name : List ℕ) → versions_of (calls ++ call ∷ []) name ≡ next_versions name (versions_of calls name) call
versions_push calls call name = fold-append (next_versions name) (only no_log) calls (call ∷ [])

pub map_push : (calls : List Entry) (call : Entry) (name : List ℕ) → map_of (calls ++ call ∷ []) name ≡ next_map name (map_of calls name) call
map_push calls call name = fold-append (next_map name) map.empty calls (call ∷ [])

-- what a log holds after a change is the newest of its versions
pub present_after : (versions : Versions) (change : LogChange) → (changed versions change).present ≡ after versions.present change
present_after versions (Append items) = grown_present versions items
present_after versions Sync = refl
present_after versions (Cut end) = refl
present_after versions (Prune start) = refl
present_after versions (Put start items) = refl

-- all positions stay below 2^64
abbrev pub EndsFit : Versions → Type 0
EndsFit versions = (log : Log) → IsVersion versions log → end_of log < 2 ^ 64

pub ends_changed : (versions : Versions) (change : LogChange) → EndsFit versions → CanChange versions.present change → EndsFit (changed versions change)
ends_changed versions (Append items) fits can log is =
    ⊎_elim (λ old. fits log old) (λ grows. omega (arith, ap end_of grows.1, length-append versions.present.items (take grows.0 items), length-take grows.0 items, can)) (grown_version versions items log is)
ends_changed versions Sync fits can log (inl is) = fits log (inl is)
ends_changed versions Sync fits can log (inr none) = absurd none
ends_changed versions (Cut end) fits can log (inl is) =
    omega (arith, ap end_of is, length-take (end - versions.present.start) versions.present.items, fits versions.present (inl refl))
ends_changed versions (Cut end) fits can log (inr old) = fits log old
ends_changed versions (Prune start) fits can log (inl is) =
    omega (arith, ap end_of is, length-drop (start - versions.present.start) versions.present.items, fits versions.present (inl refl), can.0, can.1)
ends_changed versions (Prune start) fits can log (inr old) = fits log old
ends_changed versions (Put start items) fits can log (inl is) = omega (arith, ap end_of is, can)
ends_changed versions (Put start items) fits can log (inr none) = absurd none

-- a call that left what the tables hold by name
pub kept_same : (calls calls' : List Entry) (logs logs' : List StoredLog) (maps maps' : List StoredMap) → calls' ≡ calls → ((other : List ℕ) → stored_log logs' other ≡ stored_log logs other) → ((other : List ℕ) → stored_map maps' other ≡ stored_map maps other) → AreKept calls logs maps → AreKept calls' logs' maps'
kept_same calls calls' logs logs' maps maps' is same_logs same_maps kept = subst (λ (c : List Entry). AreKept c logs' maps') (sym is) (record {
  logs_match = λ name. same_logs name ∙ kept.logs_match name;
  maps_match = λ name. same_maps name ∙ kept.maps_match name;
  ends_fit = kept.ends_fit;
})

-- a change of a log
kept_log_at : (calls : List Entry) (name : List ℕ) (change : LogChange) (logs logs' : List StoredLog) (maps : List StoredMap) → Sets name (after (stored_log logs name) change) (stored_log logs) (stored_log logs') → CanChange (stored_log logs name) change → AreKept calls logs maps → AreKept (calls ++ OfLog name change ∷ []) logs' maps
kept_log_at calls name change logs logs' maps sets can kept = record {
  logs_match = λ other. sets.each other ∙ elim (bytes_eq name other) as (λ b. bytes_eq name other ≡ b → (if b then after (stored_log logs name) change else stored_log logs other) ≡ (if b then changed (versions_of calls other) change else versions_of calls other).present) [
    | true ↦ λ same.
        ap (λ n. after (stored_log logs n) change) (its_name other same)
        ∙ ap (λ (l : Log). after l change) (kept.logs_match other)
        ∙ sym (present_after (versions_of calls other) change)
    | false ↦ λ apart. kept.logs_match other
  ] refl ∙ sym (ap (λ (v : Versions). v.present) (versions_push calls (OfLog name change) other));
  maps_match = λ other. kept.maps_match other ∙ sym (map_push calls (OfLog name change) other);
  ends_fit = λ other log is. (elim (bytes_eq name other) as (λ b. bytes_eq name other ≡ b → EndsFit (if b then changed (versions_of calls other) change else versions_of calls other)) [
    | true ↦ λ same. ends_changed (versions_of calls other) change (kept.ends_fit other) (subst (λ (l : Log). CanChange l change) (kept.logs_match other) (subst (λ n. CanChange (stored_log logs n) change) (its_name other same) can))
    | false ↦ λ apart. kept.ends_fit other
  ] refl) log (subst (λ (v : Versions). IsVersion v log) (versions_push calls (OfLog name change) other) is);
}
  where
    its_name : (other : List ℕ) → bytes_eq name other ≡ true → name ≡ other
    its_name other same = (bytes_eq-Decides name other).0 same

pub kept_log : (calls calls' : List Entry) (name : List ℕ) (change : LogChange) (logs logs' : List StoredLog) (maps : List StoredMap) → calls' ≡ calls ++ OfLog name change ∷ [] → Sets name (after (stored_log logs name) change) (stored_log logs) (stored_log logs') → CanChange (stored_log logs name) change → AreKept calls logs maps → AreKept calls' logs' maps
kept_log calls calls' name change logs logs' maps is sets can kept = subst (λ (c : List Entry). AreKept c logs' maps) (sym is) (kept_log_at calls name change logs logs' maps sets can kept)

-- another map
kept_map_at : (calls : List Entry) (name : List ℕ) (m : Map) (logs : List StoredLog) (maps maps' : List StoredMap) → Sets name m (stored_map maps) (stored_map maps') → AreKept calls logs maps → AreKept (calls ++ OfMap name m ∷ []) logs maps'
kept_map_at calls name m logs maps maps' sets kept = record {
  logs_match = λ other. kept.logs_match other ∙ sym (ap (λ (v : Versions). v.present) (versions_push calls (OfMap name m) other));
  maps_match = λ other. sets.each other ∙ ap (λ (held : Map). if bytes_eq name other then m else held) (kept.maps_match other) ∙ sym (map_push calls (OfMap name m) other);
  ends_fit = λ other log is. kept.ends_fit other log (subst (λ (v : Versions). IsVersion v log) (versions_push calls (OfMap name m) other) is);
}

pub kept_map : (calls calls' : List Entry) (name : List ℕ) (m : Map) (logs : List StoredLog) (maps maps' : List StoredMap) → calls' ≡ calls ++ OfMap name m ∷ [] → Sets name m (stored_map maps) (stored_map maps') → AreKept calls logs maps → AreKept calls' logs maps'
kept_map calls calls' name m logs maps maps' is sets kept = subst (λ (c : List Entry). AreKept c logs maps') (sym is) (kept_map_at calls name m logs maps maps' sets kept)

-- a change of one name's versions, as the record says it of each name
pub sets_next : (name other : List ℕ) (change : LogChange) (held : List ℕ → Versions) → (if bytes_eq name other then changed (held name) change else held other) ≡ next_versions other (held other) (OfLog name change)
sets_next name other change held = elim (bytes_eq name other) as (λ b. bytes_eq name other ≡ b → (if b then changed (held name) change else held other) ≡ (if b then changed (held other) change else held other)) [
  | true ↦ λ same. ap (λ n. changed (held n) change) ((bytes_eq-Decides name other).0 same)
  | false ↦ λ apart. refl
] refl
