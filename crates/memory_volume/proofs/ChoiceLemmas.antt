-- Each choice is an image, and each image is a choice.
use Rattle.std.proofs.Common.{◌≡◌, ◌⊎◌, inl, inr, ⊎_elim, ℕ, zero, suc, ◌+◌, ◌-◌, ◌<◌, ◌≤◌, ◌^◌, true, false, if◌then◌else◌, max, min, List, [], ◌∷◌, length, drop, get_or, refl, sym, ◌∙◌, ap, arith}
use Rattle.std.proofs.lemmas.List.{length-take}
use Rattle.std.specs.Str.{bytes_eq}
use Rattle.volume_base.specs.Log.{Log, end_of, no_log}
use Rattle.memory_volume.specs.Versions.{Versions, only, least_end, greatest_start, IsAmong, IsVersion, part_of, IsPart, IsImage}
use Rattle.memory_volume.specs.VersionLaws.{present_is_image}
use Rattle.memory_volume.specs.Choice.{version_from, nearest, chosen}
use Rattle.memory_volume.specs.Choices.{chosen_log, IsChosen}
use Rattle.memory_volume.specs.declared.choice.LogChoice.{LogChoice}
use Rattle.memory_volume.proofs.KeptLemmas.{EndsFit}
use Rattle.memory_volume.proofs.VersionLemmas.{least_end_low, version_start_high, only_image}

pub version_is : (present : Log) (earlier : List Log) (n : ℕ) → (version_from present earlier n ≡ present) ⊎ IsAmong earlier (version_from present earlier n)
version_is present [] n = inl refl
version_is present (older ∷ logs) zero = inl refl
version_is present (older ∷ logs) (suc n) = inr (version_is older logs n)

pub chosen_is_image : (versions : Versions) (version start end : ℕ) → IsImage versions (chosen versions version start end)
chosen_is_image versions version start end =
    let log = version_from versions.present versions.earlier version in
    let is : IsVersion versions log = version_is versions.present versions.earlier version in
    let high = version_start_high versions log is in
    let low = least_end_low versions log is in
    let from = nearest log.start (min (greatest_start versions) (end_of log)) start in
    let to = nearest (max (least_end versions) from) (end_of log) end in
    (log, is, (from, to, record { its_start = omega (arith, high); start_high = omega arith; end_low = omega (arith, low); its_end = omega arith; in_order = omega (arith, high, low) }, refl))

among_from : (present : Log) (earlier : List Log) (log : Log) → IsAmong earlier log → (n : ℕ) × (version_from present earlier n ≡ log)
among_from present [] log among = absurd among
among_from present (older ∷ logs) log (inl is) = (1, first older logs ∙ sym is)
  where
    first : (a : Log) (l : List Log) → version_from a l 0 ≡ a
    first a [] = refl
    first a (b ∷ l) = refl
among_from present (older ∷ logs) log (inr among) = let rest = among_from older logs log among in (suc rest.0, rest.1)

image_is_chosen_at : (versions : Versions) (image log : Log) → IsVersion versions log → (from to : ℕ) → IsPart versions log from to → image ≡ part_of log from to → (version : ℕ) × (chosen versions version from to ≡ image)
image_is_chosen_at versions image log is from to part same =
    let at = ⊎_elim (λ now. here now) (λ among. among_from versions.present versions.earlier log among) is in
    (at.0, exact at.0 at.1)
  where
    here : log ≡ versions.present → (n : ℕ) × (version_from versions.present versions.earlier n ≡ log)
    here now = (0, first versions.present versions.earlier ∙ sym now)
      where
        first : (a : Log) (l : List Log) → version_from a l 0 ≡ a
        first a [] = refl
        first a (b ∷ l) = refl

    exact : (n : ℕ) → version_from versions.present versions.earlier n ≡ log → chosen versions n from to ≡ image
    exact n at =
        let from_is : nearest log.start (min (greatest_start versions) (end_of log)) from ≡ from = omega (arith, part.its_start, part.start_high, part.its_end, part.in_order) in
        let to_is : nearest (max (least_end versions) from) (end_of log) to ≡ to = omega (arith, part.end_low, part.its_end, part.in_order) in
        ap (λ (l : Log). part_of l (nearest l.start (min (greatest_start versions) (end_of l)) from) (nearest (max (least_end versions) (nearest l.start (min (greatest_start versions) (end_of l)) from)) (end_of l) to)) at
        ∙ ap (λ (k : ℕ). part_of log k (nearest (max (least_end versions) k) (end_of log) to)) from_is
        ∙ ap (part_of log from) to_is
        ∙ sym same

pub part_end : (log : Log) (from to : ℕ) → from ≤ to → end_of (part_of log from to) ≤ to
part_end log from to order = omega (arith, length-take (to - from) (drop (from - log.start) log.items))

-- so what is chosen stays below 2^64 where the versions do
pub chosen_fits : (versions : Versions) (version start end : ℕ) → EndsFit versions → end_of (chosen versions version start end) < 2 ^ 64
chosen_fits versions version start end fits =
    let log = version_from versions.present versions.earlier version in
    let is : IsVersion versions log = version_is versions.present versions.earlier version in
    let low = least_end_low versions log is in
    let from = nearest log.start (min (greatest_start versions) (end_of log)) start in
    let to = nearest (max (least_end versions) from) (end_of log) end in
    omega (arith, part_end log from to (omega (arith, low)), fits log is)

pub chosen_log_fits : (choices : List LogChoice) (versions : Versions) (name : List ℕ) → EndsFit versions → end_of (chosen_log choices versions name) < 2 ^ 64
chosen_log_fits [] versions name fits = fits versions.present (inl refl)
chosen_log_fits (choice ∷ choices) versions name fits = elim (bytes_eq choice.name name) as (λ b. end_of (if b then chosen versions choice.version choice.start choice.end else chosen_log choices versions name) < 2 ^ 64) [
  | true ↦ chosen_fits versions choice.version choice.start choice.end fits
  | false ↦ chosen_log_fits choices versions name fits
]

pub chosen_log_is_image : (choices : List LogChoice) (versions : Versions) (name : List ℕ) → IsImage versions (chosen_log choices versions name)
chosen_log_is_image [] versions name = present_is_image versions
chosen_log_is_image (choice ∷ choices) versions name = elim (bytes_eq choice.name name) as (λ b. IsImage versions (if b then chosen versions choice.version choice.start choice.end else chosen_log choices versions name)) [
  | true ↦ chosen_is_image versions choice.version choice.start choice.end
  | false ↦ chosen_log_is_image choices versions name
]

-- a log that isn't there has that image alone
pub chosen_log_none : (choices : List LogChoice) (name : List ℕ) → chosen_log choices (only no_log) name ≡ no_log
chosen_log_none choices name = only_image no_log _ (chosen_log_is_image choices (only no_log) name)

pub is_chosen : (versions : Versions) (image : Log) → EndsFit versions → IsImage versions image → IsChosen versions image
is_chosen versions image fits (log, is, (from, to, part, same)) =
    let picked = image_is_chosen_at versions image log is from to part same in
    record { version = picked.0; start = from; end = to; start_fits = omega (arith, part.in_order, part.its_end, fits log is); end_fits = omega (arith, part.its_end, fits log is); picked = picked.1 }

-- the version of a number, by its place among the earlier ones

pub version_from_none : (present : Log) (earlier : List Log) (n : ℕ) → min n (length earlier) ≡ 0 → version_from present earlier n ≡ present
version_from_none present [] n none = refl
version_from_none present (older ∷ logs) zero none = refl
version_from_none present (older ∷ logs) (suc n) none = absurd (omega arith)

pub version_from_at : (present : Log) (earlier : List Log) (n i : ℕ) (log : Log) → i + 1 ≡ min n (length earlier) → log ≡ get_or earlier i log → version_from present earlier n ≡ log
version_from_at present [] n i log at is = absurd (omega arith)
version_from_at present (older ∷ logs) zero i log at is = absurd (omega arith)
version_from_at present (older ∷ logs) (suc n) zero log at is = version_from_none older logs n (omega arith) ∙ sym is
version_from_at present (older ∷ logs) (suc n) (suc i) log at is = version_from_at older logs n i log (omega arith) is

pub among_at : (logs : List Log) (i : ℕ) (log : Log) → i < length logs → log ≡ get_or logs i log → IsAmong logs log
among_at [] i log lt is = absurd (omega arith)
among_at (one ∷ logs) zero log lt is = inl is
among_at (one ∷ logs) (suc i) log lt is = inr (among_at logs i log (omega arith) is)
