-- Memory that is built of pins, and the log behind it.
use Rattle.std.proofs.Common.{◌≡◌, inl, inr, ℕ, ◌+◌, ◌-◌, ◌<◌, Bool, true, false, List, [], ◌++◌, length, map, take, get_or, Some, None, Option, Result, Ok, Err, refl, sym, ◌∙◌, ap, arith}
use Rattle.std.specs.Prelude.{◌⊎◌, ◌&&◌, nat_le, nat_lt, slice_get, reverse, OnOk, if◌then◌else◌}
use Rattle.std.specs.Option.{option_map}
use Rattle.std.proofs.lemmas.Bool.{leb-true, ltb-true}
use Rattle.std.proofs.lemmas.List.{take-append-le, take_all, length-reverse, get_or-reverse}
use Rattle.std.proofs.lemmas.Option.{slice_get-map, slice_get-get_or}
use Rattle.volume_base.specs.Log.{Log, end_of, cut_to}
use Rattle.tree_shape.specs.Pins.{pins, position_of}
use Rattle.tree_shape.specs.Shape.{Shape, made, peaks, peaks_down}
use Rattle.tree_shape.proofs.PinLemmas.{length-peaks_down, peaks_down-at}
use Rattle.tree_store.specs.Stored.{size}
use Rattle.tree_core.specs.Pruned.{is_peak_at, keeps}
use Rattle.tree_core.specs.Tree.{Tree, IsBuilt, IsPinned, IsRested, node_at, either, rests}
use Rattle.tree_core.proofs.BuiltLemmas.{peak_place, told_at}
use Rattle.merkle_full.specs.Flushing.{IsFilled}
use Rattle.merkle_full.specs.Pinning.{IsPinAt}
use Rattle.merkle_full.specs.Preparing.{has_orphan}
use Rattle.merkle_full.proofs.PeakLemmas.{peak_from}
use Rattle.merkle_full.proofs.RepinLemmas.{or_splits}

-- ---- nodes of memory at rest

either_of : {D : Type 0} (a b : Option D) (d : D) → either a b ≡ Some d → (a ≡ Some d) ⊎ (b ≡ Some d)
either_of (Some x) b d is = inl is
either_of None b d is = inr is

kept_of : {D : Type 0} (r : Bool) (o : Option D) (d : D) → (if r then o else None) ≡ Some d → o ≡ Some d
kept_of true o d is = is
kept_of false o d is = absurd (cc)

-- what is at rest was there
pub rested_node : {D : Type 0} (s : Shape) (b : ℕ) (t u : Tree D) (p : ℕ) (d : D) → IsRested s b t u → node_at u p ≡ Some d → node_at t p ≡ Some d
rested_node s b t u p d rested is = kept_of (rests s t.leaves b p) (node_at t p) d (sym (rested.nodes p) ∙ is)

-- and with pins is one of them or was there
pub repinned_node : {D : Type 0} (s : Shape) (b : ℕ) (t u v : Tree D) (pinned : ℕ → Option D) (p : ℕ) (d : D) → IsPinned pinned t u → IsRested s b u v → node_at v p ≡ Some d → (node_at t p ≡ Some d) ⊎ (pinned p ≡ Some d)
repinned_node s b t u v pinned p d put rested is = either_of (node_at t p) (pinned p) d (sym (put.nodes p) ∙ rested_node s b u v p d rested is)

-- ---- nodes of memory that is built of peaks alone

module _ {D : Type 0} (s : Shape) (b : ℕ) (more pinned : List D) (t : Tree D) (built : IsBuilt s b more pinned t) (none : more ≡ []) (p : ℕ) (d : D) (is : node_at t p ≡ Some d) where
  at_peak : is_peak_at s b (s.heights b) p ≡ true → IsPinAt (pins s b) pinned p d
  at_peak peak =
      let hs = s.heights b in
      let xs = peaks_down b hs in
      let found = peak_from s b hs p peak in
      let here = peak_place b hs found.0 found.1 found.2 in
      let w = here.within in
      let lx = length-peaks_down b hs in
      let lr = length-reverse xs in
      let i = length hs - 1 - here.place in
      let back : length xs - 1 - i ≡ here.place = omega (arith, w, lx) in
      let at : get_or (reverse xs) i (0, 0) ≡ (found.0, found.1) =
      get_or-reverse xs i (0, 0) (omega (arith, w, lx)) ∙ ap (λ (m : ℕ). get_or xs m (0, 0)) back ∙ peaks_down-at b hs here.place (0, 0) w ∙ ap (λ (x : ℕ). (x, get_or hs here.place 0)) (sym here.first) ∙ ap (λ (k : ℕ). (found.0, k)) (sym here.height) in
      let there : slice_get (peaks s b) i ≡ Some (found.0, found.1) = slice_get-get_or (peaks s b) i (0, 0) (omega (arith, w, lx, lr)) ∙ ap Some at in
      let told = told_at s b (λ x k. node_at t (s.position x k)) pinned found.0 found.1 built.pins here d in
      record {
        index = i;
        position = slice_get-map (position_of s) (peaks s b) i ∙ ap (option_map (position_of s)) there ∙ ap Some found.3;
        digest = slice_get-get_or pinned i d (omega (arith, built.pins.counted, w)) ∙ sym told ∙ ap (node_at t) found.3 ∙ is;
      }

  pub built_pin : IsPinAt (pins s b) pinned p d
  built_pin = by (keeps s b p) refl
    where
      past : nat_le (length (made s b)) p ≡ true → IsPinAt (pins s b) pinned p d
      past le =
          let low = leb-true (length (made s b)) p le in
          let q : length (made s b) + (p - length (made s b)) ≡ p = omega (arith, low) in
          let gone : Some d ≡ slice_get [] (p - length (made s b)) = sym is ∙ ap (node_at t) (sym q) ∙ built.nodes (p - length (made s b)) ∙ ap (λ (l : List D). slice_get l (p - length (made s b))) none in
          absurd (let bad : Some d ≡ None = gone in cc)

      by : (k : Bool) → keeps s b p ≡ k → IsPinAt (pins s b) pinned p d
      by true keep = elim (or_splits (nat_le (length (made s b)) p) (is_peak_at s b (s.heights b) p) keep) [
        | inl le ↦ past le
        | inr peak ↦ at_peak peak
      ]
      by false gone = absurd (let bad : Some d ≡ None = sym is ∙ built.others p gone in cc)

-- ---- an orphan

both_true : (a b : Bool) → (a && b) ≡ true → (a ≡ true) × (b ≡ true)
both_true true b is = (refl, is)
both_true false b is = absurd (cc)

-- one stands there, and the cap allows it
pub orphan_here : (s : Shape) (high end n : ℕ) → has_orphan s high end n ≡ true → (n < high) × (size s n < end)
orphan_here s high end n has = let two = both_true (nat_lt n high) (nat_lt (size s n) end) has in (ltb-true n high two.0, ltb-true (size s n) end two.1)

-- ---- the log behind a flush

-- up to where it ended it is as it was
pub filled_front : {D : Type 0} (s : Shape) (spelling : D → List ℕ) (t : Tree D) (from : ℕ) (old new : Log) → IsFilled s spelling t from old new → end_of old ≡ from → cut_to new from ≡ old
filled_front s spelling t from old new filled ends =
    let items = map spelling filled.more in
    let long : from - old.start ≡ length old.items = omega (arith, ends) in
    ap (λ (l : Log). cut_to l from) filled.log ∙ ap (λ (l : List (List ℕ)). record { start = old.start; items = l }) (ap (λ (n : ℕ). take n (old.items ++ items)) long ∙ take-append-le (length old.items) old.items items (omega arith) ∙ take_all (length old.items) old.items (omega arith))

pub ok_any : {T E : Type 0} (r : Result T E) (P : Type 0) → P → OnOk r P
ok_any (Ok x) P p = p
ok_any (Err e) P p = tt
