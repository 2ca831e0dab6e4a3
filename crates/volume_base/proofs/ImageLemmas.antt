-- An image of the volume takes one image of each log and of each map, each chosen apart.
use Rattle.std.proofs.Common.{◌≡◌, ◌≢◌, ⊎_elim, ℕ, true, false, if◌then◌else◌, List, [], ◌∷◌, refl, sym, ◌∙◌, ap, subst}
use Rattle.std.proofs.lemmas.Slice.Eq.{bytes_eq-Decides}
use Rattle.std.specs.Str.{bytes_eq}
use Rattle.volume_base.specs.Log.{Log}
use Rattle.volume_base.specs.Volume.{State, Map}
use Rattle.volume_base.specs.Moments.{Image, LeftAt, EachNow, LogHas, MapHas, PairHas, present}
use Rattle.volume_base.specs.Names.{EachOf, IsOneOf}

abbrev pub with_log : List ℕ → Log → Image → Image
with_log name log image = record { log = λ other. if bytes_eq name other then log else image.log other; map = image.map }

abbrev pub with_map : List ℕ → Map → Image → Image
with_map name m image = record { log = image.log; map = λ other. if bytes_eq name other then m else image.map other }

pub with_log_here : (name : List ℕ) (log : Log) (image : Image) → (with_log name log image).log name ≡ log
with_log_here name log image = ap (λ b. if b then log else image.log name) ((bytes_eq-Decides name name).1 refl)

pub with_map_here : (name : List ℕ) (m : Map) (image : Image) → (with_map name m image).map name ≡ m
with_map_here name m image = ap (λ b. if b then m else image.map name) ((bytes_eq-Decides name name).1 refl)

pub left_with_log : (s : State) (t : ℕ) (name : List ℕ) (log : Log) (image : Image) → LeftAt s t image → s.log_left t name log → LeftAt s t (with_log name log image)
left_with_log s t name log image left here = record {
  logs = λ other. elim (bytes_eq name other) as (λ b. bytes_eq name other ≡ b → s.log_left t other (if b then log else image.log other)) [
    | true ↦ λ same. subst (λ n. s.log_left t n log) ((bytes_eq-Decides name other).0 same) here
    | false ↦ λ apart. left.logs other
  ] refl;
  maps = left.maps;
}

pub left_with_map : (s : State) (t : ℕ) (name : List ℕ) (m : Map) (image : Image) → LeftAt s t image → s.map_left t name m → LeftAt s t (with_map name m image)
left_with_map s t name m image left here = record {
  logs = left.logs;
  maps = λ other. elim (bytes_eq name other) as (λ b. bytes_eq name other ≡ b → s.map_left t other (if b then m else image.map other)) [
    | true ↦ λ same. subst (λ n. s.map_left t n m) ((bytes_eq-Decides name other).0 same) here
    | false ↦ λ apart. left.maps other
  ] refl;
}

-- What each image of the volume has, each image of a log has beside each of a map.
pub pair_of_each : (s : State) (one two : List ℕ) (Q : Log → Map → Type 0) → LeftAt s s.clock (present s) → EachNow (λ image. Q (image.log one) (image.map two)) s → PairHas s one two Q
pair_of_each s one two Q now each log m left_log left_map =
    let image = with_map two m (with_log one log (present s)) in
    let left = left_with_map s s.clock two m (with_log one log (present s)) (left_with_log s s.clock one log (present s) now left_log) left_map in
    subst (Q log) (with_map_here two m (with_log one log (present s))) (subst (λ (l : Log). Q l (image.map two)) (with_log_here one log (present s)) (each image left))

pub with_log_other : (name other : List ℕ) (log : Log) (image : Image) → name ≢ other → (with_log name log image).log other ≡ image.log other
with_log_other name other log image apart = elim (bytes_eq name other) as (λ b. bytes_eq name other ≡ b → (if b then log else image.log other) ≡ image.log other) [
  | true ↦ λ same. absurd (apart ((bytes_eq-Decides name other).0 same))
  | false ↦ λ no. refl
] refl

pub with_map_other : (name other : List ℕ) (m : Map) (image : Image) → name ≢ other → (with_map name m image).map other ≡ image.map other
with_map_other name other m image apart = elim (bytes_eq name other) as (λ b. bytes_eq name other ≡ b → (if b then m else image.map other) ≡ image.map other) [
  | true ↦ λ same. absurd (apart ((bytes_eq-Decides name other).0 same))
  | false ↦ λ no. refl
] refl

-- What each image of the volume has of one log, or map, each image of that has.
pub log_of_each : (s : State) (name : List ℕ) (Q : Log → Type 0) → LeftAt s s.clock (present s) → EachNow (λ image. Q (image.log name)) s → LogHas s name Q
log_of_each s name Q now each log left = subst Q (with_log_here name log (present s)) (each (with_log name log (present s)) (left_with_log s s.clock name log (present s) now left))

pub map_of_each : (s : State) (name : List ℕ) (Q : Map → Type 0) → LeftAt s s.clock (present s) → EachNow (λ image. Q (image.map name)) s → MapHas s name Q
map_of_each s name Q now each m left = subst Q (with_map_here name m (present s)) (each (with_map name m (present s)) (left_with_map s s.clock name m (present s) now left))

-- at these names the one, and elsewhere the other
abbrev pub chosen : {A : Type 0} → List (List ℕ) → (List ℕ → A) → (List ℕ → A) → List ℕ → A
chosen [] one two other = two other
chosen (name ∷ names) one two other = if bytes_eq name other then one other else chosen names one two other

pub chosen_left : {A : Type 0} (P : List ℕ → A → Type 0) (names : List (List ℕ)) (one two : List ℕ → A) → EachOf (λ n. P n (one n)) names → ((n : List ℕ) → P n (two n)) → (other : List ℕ) → P other (chosen names one two other)
chosen_left P [] one two all rest other = rest other
chosen_left P (name ∷ names) one two all rest other = elim (bytes_eq name other) as (λ b. bytes_eq name other ≡ b → P other (if b then one other else chosen names one two other)) [
  | true ↦ λ same. subst (λ n. P n (one n)) ((bytes_eq-Decides name other).0 same) all.0
  | false ↦ λ apart. chosen_left P names one two all.1 rest other
] refl

pub chosen_at : {A : Type 0} (names : List (List ℕ)) (one two : List ℕ → A) (other : List ℕ) → IsOneOf other names → chosen names one two other ≡ one other
chosen_at [] one two other is = absurd is
chosen_at (name ∷ names) one two other is = elim (bytes_eq name other) as (λ b. bytes_eq name other ≡ b → (if b then one other else chosen names one two other) ≡ one other) [
  | true ↦ λ same. refl
  | false ↦ λ no. ⊎_elim (λ same. let never : true ≡ false = sym ((bytes_eq-Decides name other).1 (sym same)) ∙ no in absurd cc) (λ later. chosen_at names one two other later) is
] refl
