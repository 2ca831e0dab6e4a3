-- How the images of a log go on from call to call.
use Rattle.std.proofs.Common.{◌≡◌, ◌⊎◌, inl, inr, ⊎_elim, ℕ, suc, ◌+◌, ◌-◌, ◌≤◌, ◌<◌, max, min, List, [], ◌∷◌, ◌++◌, length, take, drop, refl, sym, ◌∙◌, ap, arith, append_assoc, length-append}
use Rattle.std.proofs.lemmas.List.{take-take, take-append-le, append-nil, length-take, length-drop, drop-take, drop-drop}
use Rattle.std.proofs.lemmas.Bool.{cases_lt}
use Rattle.std.proofs.Math.Seq.{take-append-add}
use Rattle.volume_base.specs.Log.{Log, end_of, appended, cut_to, pruned_to, Grows, Shrinks, Advances, Vanishes}
use Rattle.volume_base.specs.Volume.{Follows}
use Rattle.volume_base.proofs.StepLemmas.{shrinks_same}
use Rattle.memory_volume.specs.Versions.{Versions, only, then_is, grown, least_of, greatest_of, least_end, greatest_start, IsAmong, IsVersion, part_of, IsImage}
use Rattle.memory_volume.specs.VersionLaws.{least_of_le, greatest_of_ge, part_whole, present_is_image}

items_are : (start : ℕ) (one two : List (List ℕ)) → one ≡ two → (let a : Log = record { start = start; items = one } in a) ≡ (let b : Log = record { start = start; items = two } in b)
items_are start one two same = ap (λ (l : List (List ℕ)). let made : Log = record { start = start; items = l } in made) same

least_of_among : (end : ℕ) (logs : List Log) (log : Log) → IsAmong logs log → least_of end logs ≤ end_of log
least_of_among end [] log among = absurd among
least_of_among end (one ∷ logs) log (inl is) = omega (arith, ap end_of is)
least_of_among end (one ∷ logs) log (inr among) = omega (arith, least_of_among end logs log among)

pub least_end_low : (versions : Versions) (log : Log) → IsVersion versions log → least_end versions ≤ end_of log
least_end_low versions log (inl is) = omega (arith, ap end_of is, least_of_le (end_of versions.present) versions.earlier)
least_end_low versions log (inr among) = least_of_among (end_of versions.present) versions.earlier log among

-- A log's start never falls, so the greatest start is the present one.
abbrev pub IsLevel : Versions → Type 0
IsLevel versions = greatest_start versions ≤ versions.present.start

-- a lower end below which nothing was
least_of_min : (low high : ℕ) (logs : List Log) → low ≤ high → min low (least_of high logs) ≡ least_of low logs
least_of_min low high [] le = omega arith
least_of_min low high (log ∷ logs) le = omega (arith, least_of_min low high logs le)

pub grown_present : (versions : Versions) (items : List (List ℕ)) → (grown versions items).present ≡ appended versions.present items
grown_present versions [] = items_are _ _ _ (sym (append-nil versions.present.items))
grown_present versions (item ∷ items) =
    grown_present (then_is versions (appended versions.present (item ∷ []))) items ∙ items_are _ _ _ (append_assoc versions.present.items (item ∷ []) items)

grown_least : (versions : Versions) (items : List (List ℕ)) → least_end (grown versions items) ≡ least_end versions
grown_least versions [] = refl
grown_least versions (item ∷ items) =
    let next = appended versions.present (item ∷ []) in
    grown_least (then_is versions next) items ∙ least_of_min (end_of versions.present) (end_of next) versions.earlier (omega (arith, length-append versions.present.items (item ∷ [])))

pub grown_greatest : (versions : Versions) (items : List (List ℕ)) → greatest_start (grown versions items) ≡ greatest_start versions
grown_greatest versions [] = refl
grown_greatest versions (item ∷ items) =
    let next = appended versions.present (item ∷ []) in
    grown_greatest (then_is versions next) items ∙ (omega (arith, greatest_of_ge versions.present.start versions.earlier))

pub grown_start : (versions : Versions) (items : List (List ℕ)) → (grown versions items).present.start ≡ versions.present.start
grown_start versions items = ap (λ (l : Log). l.start) (grown_present versions items)

pub grown_version : (versions : Versions) (items : List (List ℕ)) (log : Log) → IsVersion (grown versions items) log → IsVersion versions log ⊎ ((count : ℕ) × (log ≡ appended versions.present (take count items)))
grown_version versions [] log is = inl is
grown_version versions (item ∷ items) log is =
    let next = appended versions.present (item ∷ []) in
    elim (grown_version (then_is versions next) items log is) [
      | inl (inl now) ↦ inr (1, now)
      | inl (inr among) ↦ inl among
      | inr (count, behind) ↦ inr (suc count, behind ∙ items_are _ _ _ (append_assoc versions.present.items (item ∷ []) (take count items)))
    ]

-- after a sync there is one image
pub only_image : (log image : Log) → IsImage (only log) image → image ≡ log
only_image log image (version, inl is, (from, to, part, same)) =
    let at_start : from ≡ log.start = omega (arith, part.its_start, part.start_high, ap (λ (l : Log). l.start) is) in
    let at_end : to ≡ end_of log = omega (arith, part.end_low, part.its_end, ap end_of is) in
    same ∙ ap (λ (l : Log). part_of l from to) is ∙ ap (λ (n : ℕ). part_of log n to) at_start ∙ ap (part_of log log.start) at_end ∙ part_whole log
only_image log image (version, inr none, rest) = absurd none

-- a part of a log that reaches its end is the same part of a longer one
part_of_longer : (log : Log) (items : List (List ℕ)) (to : ℕ) → to ≤ end_of log → part_of (appended log items) log.start to ≡ part_of log log.start to
part_of_longer log items to le =
    let none : log.start - log.start ≡ 0 = omega arith in
    items_are log.start _ _ (
    ap (λ (n : ℕ). take (to - log.start) (drop n (log.items ++ items))) none
    ∙ take-append-le (to - log.start) log.items items (omega arith)
    ∙ sym (ap (λ (n : ℕ). take (to - log.start) (drop n log.items)) none)
    )

-- a part past the end has some of the items behind it
part_past : (log : Log) (items : List (List ℕ)) (count to : ℕ) → end_of log ≤ to → to ≤ end_of (appended log (take count items)) → part_of (appended log (take count items)) log.start to ≡ appended log (take (to - end_of log) items)
part_past log items count to past le =
    let none : log.start - log.start ≡ 0 = omega arith in
    let more = to - end_of log in
    let long : to - log.start ≡ length log.items + more = omega arith in
    let few : more ≤ count = omega (arith, length-append log.items (take count items), length-take count items) in
    items_are log.start _ _ (
    ap (λ (n : ℕ). take (to - log.start) (drop n (log.items ++ take count items))) none
    ∙ ap (λ (n : ℕ). take n (log.items ++ take count items)) long
    ∙ take-append-add log.items (take count items) more
    ∙ ap (λ (l : List (List ℕ)). log.items ++ l) (take-take more count items few)
    )

pruned_to_start : (log : Log) → log ≡ pruned_to log log.start
pruned_to_start log =
    let none : log.start - log.start ≡ 0 = omega arith in
    let low : max log.start log.start ≡ log.start = omega arith in
    ap (λ (n : ℕ). let made : Log = record { start = log.start; items = drop n log.items } in made) (sym none)
    ∙ ap (λ (n : ℕ). let made : Log = record { start = n; items = drop (log.start - log.start) log.items } in made) (sym low)

-- an append
pub images_grow : (versions : Versions) (items : List (List ℕ)) (image : Log) → IsLevel versions → IsImage (grown versions items) image → Follows (IsImage versions) (Grows versions.present items) image
images_grow versions items image level (version, is_version, (from, to, part, same)) =
    ⊎_elim old behind (grown_version versions items version is_version)
  where
    low_from : from ≤ versions.present.start
    low_from = omega (arith, part.start_high, grown_greatest versions items, level)

    low_end : least_end versions ≤ to
    low_end = omega (arith, part.end_low, grown_least versions items)

    old : IsVersion versions version → Follows (IsImage versions) (Grows versions.present items) image
    old is = (
      image,
      (
        version,
        is,
        (
          from,
          to,
          record {
            its_start = part.its_start;
            start_high = omega (arith, low_from, greatest_of_ge versions.present.start versions.earlier);
            end_low = low_end;
            its_end = part.its_end;
            in_order = part.in_order;
          },
          same,
        ),
      ),
      inl refl,
    )

    behind : (count : ℕ) × (version ≡ appended versions.present (take count items)) → Follows (IsImage versions) (Grows versions.present items) image
    behind (count, is) =
        let at_start : from ≡ versions.present.start = omega (arith, part.its_start, low_from, ap (λ (l : Log). l.start) is) in
        let high : to ≤ end_of (appended versions.present (take count items)) = omega (arith, part.its_end, ap end_of is) in
        let image_is : image ≡ part_of (appended versions.present (take count items)) versions.present.start to =
        same ∙ ap (λ (l : Log). part_of l from to) is ∙ ap (λ (n : ℕ). part_of (appended versions.present (take count items)) n to) at_start in
        ⊎_elim
        (λ within. (
          image,
          (
            versions.present,
            inl refl,
            (
              versions.present.start,
              to,
              record {
                its_start = omega arith;
                start_high = greatest_of_ge versions.present.start versions.earlier;
                end_low = low_end;
                its_end = omega (arith, within);
                in_order = omega (arith, part.in_order, at_start);
              },
              image_is ∙ part_of_longer versions.present (take count items) to (omega (arith, within)),
            ),
          ),
          inl refl,
        ))
        (λ past. (
          versions.present,
          present_is_image versions,
          inr (versions.present.start, to - end_of versions.present, omega arith, pruned_to_start versions.present, image_is ∙ part_past versions.present items count to past high),
        ))
        (cases_lt to (end_of versions.present))

-- a part of a part
part_shorter : (log : Log) (from to end : ℕ) → to ≤ end → cut_to (part_of log from end) to ≡ part_of log from to
part_shorter log from to end le = items_are from _ _ (take-take (to - from) (end - from) (drop (from - log.start) log.items) (omega arith))

-- the images of the old versions, with a lower least end
images_lower : (versions : Versions) (end : ℕ) (image version : Log) (from to low : ℕ) → IsVersion versions version → low ≡ min end (least_end versions) → version.start ≤ from → from ≤ greatest_start versions → low ≤ to → to ≤ end_of version → from ≤ to → image ≡ part_of version from to → Follows (IsImage versions) (Shrinks end) image
images_lower versions end image version from to low is_version low_is its_start start_high end_low its_end in_order same =
    ⊎_elim
    (λ short.
    let old_end = max to (least_end versions) in
    let old = part_of version from old_end in
    let highest : least_end versions ≤ end_of version = least_end_low versions version is_version in (
      old,
      (version, is_version, (from, old_end, record { its_start = its_start; start_high = start_high; end_low = omega arith; its_end = omega (arith, its_end, highest); in_order = omega (arith, in_order) }, refl)),
      (to, omega (arith, short), same ∙ sym (part_shorter version from to old_end (omega arith))),
    ))
    (λ kept. (
      image,
      (version, is_version, (from, to, record { its_start = its_start; start_high = start_high; end_low = omega (arith, kept, low_is, end_low); its_end = its_end; in_order = in_order }, same)),
      shrinks_same end image,
    ))
    (cases_lt_or end to)
  where
    cases_lt_or : (m n : ℕ) → (m ≤ n) ⊎ (n < m)
    cases_lt_or m n = ⊎_elim (λ lt. inr lt) (λ le. inl le) (cases_lt n m)

least_of_cut : (end high : ℕ) (logs : List Log) → end ≤ high → min high (least_of end logs) ≡ min end (least_of high logs)
least_of_cut end high [] le = omega arith
least_of_cut end high (log ∷ logs) le = omega (arith, least_of_cut end high logs le)

-- a part below the cut is that of what was cut
part_of_cut : (log : Log) (end from to : ℕ) → log.start ≤ from → from ≤ to → to ≤ end → part_of (cut_to log end) from to ≡ part_of log from to
part_of_cut log end from to low order high =
    let reach : end - log.start ≡ (from - log.start) + (end - from) = omega arith in
    items_are from _ _ (
    ap (λ (n : ℕ). take (to - from) (drop (from - log.start) (take n log.items))) reach
    ∙ ap (take (to - from)) (drop-take (from - log.start) (end - from) log.items)
    ∙ take-take (to - from) (end - from) (drop (from - log.start) log.items) (omega arith)
    )

-- a cut
pub images_cut : (versions : Versions) (end : ℕ) (image : Log) → versions.present.start ≤ end → end ≤ end_of versions.present → IsImage (then_is versions (cut_to versions.present end)) image → Follows (IsImage versions) (Shrinks end) image
images_cut versions end image low high (version, is_version, (from, to, part, same)) = elim is_version [
  | inl is ↦
      let start_is : version.start ≡ versions.present.start = ap (λ (l : Log). l.start) is in
      let to_low : to ≤ end = omega (arith, part.its_end, ap end_of is, cut_end) in
      let cut_part : part_of version from to ≡ part_of versions.present from to =
      ap (λ (l : Log). part_of l from to) is ∙ part_of_cut versions.present end from to (omega (arith, part.its_start, start_is)) part.in_order to_low in
      images_lower versions end image versions.present from to (least_end (then_is versions (cut_to versions.present end))) (inl refl) least_is (omega (arith, part.its_start, ap (λ (l : Log). l.start) is)) start_high part.end_low (omega (arith, part.its_end, ap end_of is, cut_end)) part.in_order (same ∙ cut_part)
  | inr (inl is) ↦ images_lower versions end image version from to (least_end (then_is versions (cut_to versions.present end))) (inl is) least_is part.its_start start_high part.end_low part.its_end part.in_order same
  | inr (inr among) ↦ images_lower versions end image version from to (least_end (then_is versions (cut_to versions.present end))) (inr among) least_is part.its_start start_high part.end_low part.its_end part.in_order same
]
  where
    cut_end : end_of (cut_to versions.present end) ≡ end
    cut_end = omega (arith, length-take (end - versions.present.start) versions.present.items)

    least_is : least_end (then_is versions (cut_to versions.present end)) ≡ min end (least_end versions)
    least_is = ap (λ (n : ℕ). min (end_of versions.present) (least_of n versions.earlier)) cut_end ∙ least_of_cut end (end_of versions.present) versions.earlier high

    start_high : from ≤ greatest_start versions
    start_high = omega (arith, part.start_high, greatest_of_ge versions.present.start versions.earlier)

greatest_of_max : (low high : ℕ) (logs : List Log) → low ≤ high → max high (greatest_of low logs) ≡ greatest_of high logs
greatest_of_max low high [] le = omega arith
greatest_of_max low high (log ∷ logs) le = omega (arith, greatest_of_max low high logs le)

-- a prune keeps the present start the greatest
pub prune_level : (versions : Versions) (start : ℕ) → IsLevel versions → IsLevel (then_is versions (pruned_to versions.present start))
prune_level versions start level = omega (arith, level, greatest_of_max versions.present.start (max versions.present.start start) versions.earlier (omega arith))

-- a part that begins later
part_later : (log : Log) (mid from to : ℕ) → log.start ≤ mid → mid ≤ from → from ≤ to → pruned_to (part_of log mid to) from ≡ part_of log from to
part_later log mid from to low le order =
    let starts : max mid from ≡ from = omega arith in
    let reach : to - mid ≡ (from - mid) + (to - from) = omega arith in
    let skip : (mid - log.start) + (from - mid) ≡ from - log.start = omega arith in
    ap (λ (n : ℕ). let made : Log = record { start = n; items = drop (from - mid) (take (to - mid) (drop (mid - log.start) log.items)) } in made) starts
    ∙ items_are from _ _ (
    ap (λ (n : ℕ). drop (from - mid) (take n (drop (mid - log.start) log.items))) reach
    ∙ drop-take (from - mid) (to - from) (drop (mid - log.start) log.items)
    ∙ ap (take (to - from)) (drop-drop (from - mid) (mid - log.start) log.items)
    ∙ ap (λ (n : ℕ). take (to - from) (drop n log.items)) skip
    )

pub advances_same : (start : ℕ) (log : Log) → Advances start log log
advances_same start log =
    let starts : max log.start 0 ≡ log.start = omega arith in
    let none : 0 - log.start ≡ 0 = omega arith in (
      0,
      omega arith,
      omega arith,
      sym (
          ap (λ (n : ℕ). let made : Log = record { start = n; items = drop (0 - log.start) log.items } in made) starts
          ∙ ap (λ (n : ℕ). let made : Log = record { start = log.start; items = drop n log.items } in made) none
          ),
    )

-- the images of the old versions, with a greater greatest start
images_higher : (versions : Versions) (start : ℕ) (image version : Log) (from to : ℕ) → IsVersion versions version → IsLevel versions → version.start ≤ from → from ≤ max start versions.present.start → least_end versions ≤ to → to ≤ end_of version → from ≤ to → image ≡ part_of version from to → Follows (IsImage versions) (Advances start) image
images_higher versions start image version from to is_version level its_start high end_low its_end order same =
    let highest = greatest_of_ge versions.present.start versions.earlier in
    ⊎_elim
    (λ later.
    let mid = max version.start (min from versions.present.start) in
    let length_is : length (take (to - mid) (drop (mid - version.start) version.items)) ≡ to - mid = omega (arith, length-take (to - mid) (drop (mid - version.start) version.items), length-drop (mid - version.start) version.items, its_end) in (
      part_of version mid to,
      (version, is_version, (mid, to, record { its_start = omega arith; start_high = omega (arith, version_low, highest, its_start, later); end_low = end_low; its_end = its_end; in_order = omega (arith, its_start, order, later) }, refl)),
      (from, omega (arith, later, high), omega (arith, length_is, order, its_start), same ∙ sym (part_later version mid from to (omega arith) (omega (arith, its_start)) order)),
    ))
    (λ kept. (
      image,
      (version, is_version, (from, to, record { its_start = its_start; start_high = omega (arith, kept, highest); end_low = end_low; its_end = its_end; in_order = order }, same)),
      advances_same start image,
    ))
    (cases_lt versions.present.start from)
  where
    among_low : (logs : List Log) (first : ℕ) (log : Log) → IsAmong logs log → log.start ≤ greatest_of first logs
    among_low [] first log among = absurd among
    among_low (one ∷ logs) first log (inl is) = omega (arith, ap (λ (l : Log). l.start) is)
    among_low (one ∷ logs) first log (inr among) = omega (arith, among_low logs first log among)

    version_low : version.start ≤ greatest_start versions
    version_low = ⊎_elim (λ is. omega (arith, ap (λ (l : Log). l.start) is, greatest_of_ge versions.present.start versions.earlier)) (λ among. among_low versions.earlier versions.present.start version among) is_version

-- a prune
pub images_prune : (versions : Versions) (start : ℕ) (image : Log) → IsLevel versions → versions.present.start ≤ start → start ≤ end_of versions.present → IsImage (then_is versions (pruned_to versions.present start)) image → Follows (IsImage versions) (Advances start) image
images_prune versions start image level low high (version, is_version, (from, to, part, same)) = elim is_version [
  | inl is ↦
      let start_is : version.start ≡ start = omega (arith, ap (λ (l : Log). l.start) is) in
      let skip : (start - versions.present.start) + (from - start) ≡ from - versions.present.start = omega (arith, part.its_start, start_is) in
      let later : part_of version from to ≡ part_of versions.present from to =
      ap (λ (l : Log). part_of l from to) is
      ∙ items_are from _ _ (
      ap (λ (n : ℕ). take (to - from) (drop (from - n) (drop (start - versions.present.start) versions.present.items))) max_start
      ∙ ap (take (to - from)) (drop-drop (from - start) (start - versions.present.start) versions.present.items)
      ∙ ap (λ (n : ℕ). take (to - from) (drop n versions.present.items)) skip
      ) in
      images_higher versions start image versions.present from to (inl refl) level (omega (arith, part.its_start, start_is)) from_high least_is (omega (arith, part.its_end, ap end_of is, same_end)) part.in_order (same ∙ later)
  | inr (inl is) ↦ images_higher versions start image version from to (inl is) level part.its_start from_high least_is part.its_end part.in_order same
  | inr (inr among) ↦ images_higher versions start image version from to (inr among) level part.its_start from_high least_is part.its_end part.in_order same
]
  where
    max_start : max versions.present.start start ≡ start
    max_start = omega arith

    same_end : end_of (pruned_to versions.present start) ≡ end_of versions.present
    same_end = omega (arith, length-drop (start - versions.present.start) versions.present.items)

    least_is : least_end versions ≤ to
    least_is = omega (arith, part.end_low, ap (λ (n : ℕ). min (end_of versions.present) (least_of n versions.earlier)) same_end, least_of_le (end_of versions.present) versions.earlier)

    from_high : from ≤ max start versions.present.start
    from_high = omega (arith, part.start_high, prune_level versions start level)

pub vanishes_same : (log : Log) → Vanishes log log
vanishes_same log = let same = advances_same 0 log in inl (same.0, same.2, same.3)

greatest_among : (logs : List Log) (first : ℕ) (log : Log) → IsAmong logs log → log.start ≤ greatest_of first logs
greatest_among [] first log among = absurd among
greatest_among (one ∷ logs) first log (inl is) = omega (arith, ap (λ (l : Log). l.start) is)
greatest_among (one ∷ logs) first log (inr among) = omega (arith, greatest_among logs first log among)

pub version_start_high : (versions : Versions) (log : Log) → IsVersion versions log → log.start ≤ greatest_start versions
version_start_high versions log (inl is) = omega (arith, ap (λ (l : Log). l.start) is, greatest_of_ge versions.present.start versions.earlier)
version_start_high versions log (inr among) = greatest_among versions.earlier versions.present.start log among
