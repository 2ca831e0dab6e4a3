-- What is there now is one of the images.
use Rattle.std.specs.Prelude.{◌≡◌, ℕ, ◌-◌, ◌≤◌, List, [], ◌∷◌, length, take, drop}
use Rattle.std.proofs.Common.{refl, inl, sym, ◌∙◌, ap, subst, arith}
use Rattle.std.proofs.lemmas.List.{take_all}
use Rattle.volume_base.specs.Log.{Log, end_of}
use Rattle.volume_base.specs.Moments.{LeftAt, present}
use Rattle.stream_base.specs.Failing.{Failing}
use Rattle.memory_volume.specs.Memory.{memory_state}
use Rattle.memory_volume.specs.Versions.{Versions, least_of, greatest_of, part_of, IsImage}
use Rattle.memory_volume.specs.Record.{versions_of, map_of}
use Rattle.memory_volume.specs.declared.entry.Entry.{Entry}

pub least_of_le : (end : ℕ) (logs : List Log) → least_of end logs ≤ end
least_of_le end [] = omega arith
least_of_le end (log ∷ logs) = omega (arith, least_of_le end logs)

pub greatest_of_ge : (start : ℕ) (logs : List Log) → start ≤ greatest_of start logs
greatest_of_ge start [] = omega arith
greatest_of_ge start (log ∷ logs) = omega (arith, greatest_of_ge start logs)

pub part_whole : (log : Log) → part_of log log.start (end_of log) ≡ log
part_whole log =
    let none : log.start - log.start ≡ 0 = omega arith in
    let all : take (end_of log - log.start) (drop (log.start - log.start) log.items) ≡ log.items =
    ap (λ (n : ℕ). take (end_of log - log.start) (drop n log.items)) none ∙ take_all (end_of log - log.start) log.items (omega arith) in
    ap (λ (l : List (List ℕ)). let made : Log = record { start = log.start; items = l } in made) all

pub present_is_image : (versions : Versions) → IsImage versions versions.present
present_is_image versions = (
  versions.present,
  inl refl,
  (
    versions.present.start,
    end_of versions.present,
    record {
      its_start = omega arith;
      start_high = greatest_of_ge versions.present.start versions.earlier;
      end_low = least_of_le (end_of versions.present) versions.earlier;
      its_end = omega arith;
      in_order = omega arith;
    },
    sym (part_whole versions.present),
  ),
)

pub contents_left : (calls : List Entry) (name : List ℕ) → IsImage (versions_of (take (length calls) calls) name) (versions_of calls name).present
contents_left calls name =
    subst (λ (es : List Entry). IsImage (versions_of es name) (versions_of calls name).present) (sym (take_all (length calls) calls (omega arith))) (present_is_image (versions_of calls name))

pub map_contents_left : (calls : List Entry) (name : List ℕ) → map_of calls name ≡ map_of (take (length calls) calls) name
map_contents_left calls name = ap (λ (es : List Entry). map_of es name) (sym (take_all (length calls) calls (omega arith)))

pub state_left : (calls : List Entry) (failing : Failing) (reads : ℕ) → LeftAt (memory_state calls failing reads) (length calls) (present (memory_state calls failing reads))
state_left calls failing reads = record { logs = contents_left calls; maps = map_contents_left calls }
