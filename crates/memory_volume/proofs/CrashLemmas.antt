-- The image that a crash puts, log after log from the last row on.
use Rattle.std.proofs.Common.{◌≡◌, ◌⊎◌, inl, inr, ⊎_elim, ℕ, zero, suc, ◌+◌, ◌<◌, ◌≤◌, Bool, true, false, if◌then◌else◌, List, [], ◌∷◌, length, take, drop, get_or, refl, sym, ◌∙◌, ap, subst, arith}
use Rattle.std.proofs.lemmas.List.{drop_more, take_all}
use Rattle.std.proofs.lemmas.Slice.Eq.{bytes_eq-Decides}
use Rattle.std.specs.Str.{bytes_eq}
use Rattle.volume_base.specs.Log.{Log, no_log}
use Rattle.stream_base.specs.Failing.{Failing}
use Rattle.volume_base.specs.Moments.{LeftAt, present}
use Rattle.memory_volume.specs.Choices.{chosen_log, IsChosen}
use Rattle.memory_volume.specs.Memory.{memory_state}
use Rattle.memory_volume.specs.Record.{versions_of, map_of}
use Rattle.memory_volume.specs.declared.entry.Entry.{Entry}
use Rattle.memory_volume.specs.Replay.{replay_name, versions_in, replayed}
use Rattle.memory_volume.specs.Tables.{value_in, row_of, stored_map}
use Rattle.memory_volume.specs.Versions.{Versions, only, IsImage}
use Rattle.memory_volume.specs.declared.choice.LogChoice.{LogChoice}
use Rattle.memory_volume.specs.declared.replay.Replayed.{Replayed}
use Rattle.memory_volume.specs.declared.stored.StoredMap.{StoredMap}
use Rattle.memory_volume.proofs.ChoiceLemmas.{chosen_log_none, chosen_log_is_image, is_chosen}
use Rattle.memory_volume.proofs.KeptLemmas.{EndsFit}
use Rattle.memory_volume.proofs.TableLemmas.{same_name, value_absent}

-- a row stands where its name is found, or behind that
pub row_found : {X : Type 0} (name_of : X → List ℕ) (rows : List X) (i : ℕ) (row : X) → i < length rows → row ≡ get_or rows i row → row_of name_of rows (name_of row) < length rows
row_found name_of [] i row lt is = absurd (omega arith)
row_found name_of (one ∷ rows) zero row lt is =
    let here : bytes_eq (name_of one) (name_of row) ≡ true = ap (λ x. bytes_eq (name_of x) (name_of row)) (sym is) ∙ same_name (name_of row) in
    rw here (omega arith)
row_found name_of (one ∷ rows) (suc i) row lt is = elim (bytes_eq (name_of one) (name_of row)) as (λ b. (if b then 0 else suc (row_of name_of rows (name_of row))) < suc (length rows)) [
  | true ↦ omega arith
  | false ↦ let later = row_found name_of rows i row (omega arith) is in omega arith
]

-- what each name has, of what its row has by its name
value_named : {X V : Type 0} (name_of : X → List ℕ) (f : List ℕ → V) (none : V) (rows : List X) (name : List ℕ) → (value_in name_of (λ row. f (name_of row)) none rows name ≡ f name) ⊎ ((length rows ≤ row_of name_of rows name) × (value_in name_of (λ row. f (name_of row)) none rows name ≡ none))
value_named name_of f none [] name = inr (omega arith, refl)
value_named {X} {V} name_of f none (row ∷ rows) name = elim (bytes_eq (name_of row) name) as (λ b. bytes_eq (name_of row) name ≡ b → ((if b then f (name_of row) else rest) ≡ f name) ⊎ ((suc (length rows) ≤ (if b then 0 else suc (row_of name_of rows name))) × ((if b then f (name_of row) else rest) ≡ none))) [
  | true ↦ λ same. inl (ap f ((bytes_eq-Decides (name_of row) name).0 same))
  | false ↦ λ apart. ⊎_elim (λ here. inl here) (λ absent. inr (omega (arith, absent.0), absent.1)) (value_named name_of f none rows name)
] refl
  where
    rest : V
    rest = value_in name_of (λ x. f (name_of x)) none rows name

-- the images of the rows that are left
abbrev pub crashed : List LogChoice → List Replayed → List Replayed → List ℕ → Log
crashed choices rows left name = value_in replay_name (λ row. chosen_log choices (replayed rows (replay_name row)) (replay_name row)) no_log left name

pub crashed_whole : (choices : List LogChoice) (rows : List Replayed) (name : List ℕ) → crashed choices rows rows name ≡ chosen_log choices (replayed rows name) name
crashed_whole choices rows name = ⊎_elim (λ here. here)
    (λ absent. absent.1 ∙ sym (ap (λ (v : Versions). chosen_log choices v name) (value_absent replay_name versions_in (only no_log) rows name absent.0) ∙ chosen_log_none choices name))
    (value_named replay_name (λ n. chosen_log choices (replayed rows n) n) no_log rows name)

pub crashed_step : (choices : List LogChoice) (rows : List Replayed) (i : ℕ) (row : Replayed) (name : List ℕ) → i < length rows → row ≡ get_or rows i row → crashed choices rows (drop i rows) name ≡ (if bytes_eq row.name name then chosen_log choices (replayed rows row.name) row.name else crashed choices rows (drop (i + 1) rows) name)
crashed_step choices rows i row name lt is =
    ap (λ (l : List Replayed). crashed choices rows l name) (drop_more rows i row lt)
    ∙ ap (λ (x : Replayed). crashed choices rows (x ∷ drop (i + 1) rows) name) (sym is)

pub only_if : (b : Bool) (x y : Log) → (if b then only x else only y) ≡ only (if b then x else y)
only_if true x y = refl
only_if false x y = refl

pub stored_map_step : (maps : List StoredMap) (i : ℕ) (row : StoredMap) (name : List ℕ) → i < length maps → row ≡ get_or maps i row → stored_map (drop i maps) name ≡ (if bytes_eq row.name name then row.map else stored_map (drop (i + 1) maps) name)
stored_map_step maps i row name lt is =
    ap (λ (l : List StoredMap). stored_map l name) (drop_more maps i row lt)
    ∙ ap (λ (x : StoredMap). stored_map (x ∷ drop (i + 1) maps) name) (sym is)

pub every_image : (calls : List Entry) (name : List ℕ) (log : Log) → EndsFit (versions_of calls name) → IsImage (versions_of (take (length calls) calls) name) log → IsChosen (versions_of calls name) log
every_image calls name log fits left = is_chosen (versions_of calls name) log fits (subst (λ (c : List Entry). IsImage (versions_of c name) log) (take_all (length calls) calls (omega arith)) left)

-- what is chosen for each name is left
pub chosen_left : (calls made : List Entry) (f g : Failing) (r s : ℕ) (choices : List LogChoice) → ((name : List ℕ) → (versions_of made name).present ≡ chosen_log choices (versions_of calls name) name) → ((name : List ℕ) → map_of made name ≡ map_of calls name) → LeftAt (memory_state calls f r) (length calls) (present (memory_state made g s))
chosen_left calls made f g r s choices logs_are maps_are = record {
  logs = λ name. subst (λ (c : List Entry). IsImage (versions_of c name) (versions_of made name).present) (sym (take_all (length calls) calls (omega arith))) (subst (IsImage (versions_of calls name)) (sym (logs_are name)) (chosen_log_is_image choices (versions_of calls name) name));
  maps = λ name. maps_are name ∙ ap (λ (c : List Entry). map_of c name) (sym (take_all (length calls) calls (omega arith)));
}
