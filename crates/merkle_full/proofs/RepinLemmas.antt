-- Memory at rest with other pins.
use Rattle.std.proofs.Common.{◌≡◌, inl, inr, ℕ, ◌+◌, ◌<◌, ◌≤◌, Bool, true, false, cond, List, length, map, Some, None, Option, refl, sym, ◌∙◌, ap, subst, arith}
use Rattle.std.specs.Prelude.{◌⊎◌, ◌||◌, slice_get, IsSome, is_some}
use Rattle.std.specs.Option.{option_map}
use Rattle.std.specs.BTreeMap.{is_at}
use Rattle.std.specs.Ordering.{nat_cmp}
use Rattle.std.proofs.lemmas.Bool.{cases_lt}
use Rattle.std.proofs.lemmas.Option.{slice_get-map, same_Some}
use Rattle.tree_verification.proofs.KeyLemmas.{key_same, key_itself}
use Rattle.tree_verification.proofs.NodeLemmas.{stands-later}
use Rattle.tree_shape.specs.Hashing.{Hashing}
use Rattle.tree_shape.specs.Shape.{Shape, made, peaks, IsLawful}
use Rattle.tree_shape.specs.Kept.{KeepsPeaks}
use Rattle.tree_shape.specs.Pins.{pins}
use Rattle.tree_shape.specs.Slow.{nodes, node_of}
use Rattle.tree_core.specs.Pruned.{is_peak_at}
use Rattle.tree_core.specs.Tree.{Tree, IsSound, IsPinned, IsRested, node_at, either, rests}
use Rattle.tree_core.proofs.PrunedLemmas.{pruned_peak, peak_stands}
use Rattle.merkle_full.specs.Pinning.{IsPinAt}
use Rattle.merkle_full.proofs.PeakLemmas.{peak_from, pin_of_peak, peak_of_pin}

-- the digests at the pins are the slow nodes there
pub pin_node : {D : Type 0} (s : Shape) (h : Hashing D) (all digests : List D) (n p : ℕ) (d : D) → IsLawful s → n ≤ length all → digests ≡ map (node_of s h all) (peaks s n) → IsPinAt (pins s n) digests p d → slice_get (nodes s h all) p ≡ Some d
pin_node s h all digests n p d w le is pin =
    let at = peak_of_pin s n pin.index p pin.position in
    let stands = stands-later s n (length all) (s.position at.start at.height) at.start at.height le (peak_stands s (made s n) n (s.heights n) at.start at.height (w.peaks n) at.peak) in
    let digest : Some (node_of s h all (at.start, at.height)) ≡ Some d =
    sym (ap (option_map (node_of s h all)) at.place) ∙ sym (slice_get-map (node_of s h all) (peaks s n) pin.index) ∙ ap (λ l. slice_get l pin.index) (sym is) ∙ pin.digest in
    ap (slice_get (nodes s h all)) at.position ∙ slice_get-map (node_of s h all) (made s (length all)) (s.position at.start at.height) ∙ ap (option_map (node_of s h all)) stands ∙ digest

-- ---- memory at rest with other pins

left_some : {D : Type 0} (a b : Option D) → IsSome a → IsSome (either a b)
left_some (Some x) b h = refl
left_some None b h = absurd cc

right_some : {D : Type 0} (a b : Option D) → IsSome b → IsSome (either a b)
right_some (Some x) b h = refl
right_some None b h = h

pub or_splits : (a b : Bool) → (a || b) ≡ true → (a ≡ true) ⊎ (b ≡ true)
or_splits true b t = inl refl
or_splits false b t = inr t

pub repinned_exact : {D : Type 0} (s : Shape) (b : ℕ) (t u v : Tree D) (pinned : ℕ → Option D) → IsLawful s → KeepsPeaks s → IsSound s t → IsPinned pinned t u → IsRested s b u v
    → ((i p : ℕ) → slice_get (pins s b) i ≡ Some p → IsSome (pinned p)) → (p : ℕ) → is_some (node_at v p) ≡ rests s t.leaves b p
repinned_exact {D = D} s b t u v pinned w q sound put rested all p = ap is_some (rested.nodes p) ∙ by (rests s u.leaves b p) refl ∙ ap (λ n. rests s n b p) put.leaves
  where
    has : rests s t.leaves b p ≡ true → is_some (node_at u p) ≡ true
    has r = ap is_some (put.nodes p) ∙ (elim (or_splits (is_peak_at s t.leaves (s.heights t.leaves) p) (is_peak_at s b (s.heights b) p) r) [
      | inl leaf ↦
          let found = peak_from s t.leaves (s.heights t.leaves) p leaf in
          let there = pruned_peak s t.leaves t.boundary t.leaves (node_at t) found.0 found.1 w q sound.held sound.within (omega arith) found.2 in
          left_some (node_at t p) (pinned p) (ap (λ r. is_some (node_at t r)) (sym found.3) ∙ there)
      | inr pin ↦
          let found = peak_from s b (s.heights b) p pin in
          let at = pin_of_peak s b found.0 found.1 found.2 in
          right_some (node_at t p) (pinned p) (all at.0 p (at.1 ∙ ap Some found.3))
    ])

    by : (r : Bool) → rests s u.leaves b p ≡ r → is_some (cond r (node_at u p) None) ≡ r
    by true is = has (ap (λ n. rests s n b p) (sym put.leaves) ∙ is)
    by false is = refl

-- ---- a map of pins, one more

pub more_among : {D : Type 0} (positions : List ℕ) (digests : List D) (i k : ℕ) (v : D) (f g : ℕ → Option D) → ((q : ℕ) → g q ≡ cond (is_at (nat_cmp k) q) (Some v) (f q)) → slice_get positions i ≡ Some k → slice_get digests i ≡ Some v
    → ((p : ℕ) (d : D) → f p ≡ Some d → IsPinAt positions digests p d) → (p : ℕ) (d : D) → g p ≡ Some d → IsPinAt positions digests p d
more_among {D = D} positions digests i k v f g puts at_k at_v among p d is = by (is_at (nat_cmp k) p) refl (sym (puts p) ∙ is)
  where
    by : (t : Bool) → is_at (nat_cmp k) p ≡ t → cond t (Some v) (f p) ≡ Some d → IsPinAt positions digests p d
    by true here e = record { index = i; position = at_k ∙ ap Some (key_same k p here); digest = at_v ∙ e }
    by false past e = among p d e

pub more_all : {D : Type 0} (positions : List ℕ) (i k : ℕ) (v : D) (f g : ℕ → Option D) → ((q : ℕ) → g q ≡ cond (is_at (nat_cmp k) q) (Some v) (f q)) → slice_get positions i ≡ Some k
    → ((j p : ℕ) → j < i → slice_get positions j ≡ Some p → IsSome (f p)) → (j p : ℕ) → j < i + 1 → slice_get positions j ≡ Some p → IsSome (g p)
more_all {D = D} positions i k v f g puts at_k all j p lt at = ap is_some (puts p) ∙ by (is_at (nat_cmp k) p) refl
  where
    by : (t : Bool) → is_at (nat_cmp k) p ≡ t → is_some (cond t (Some v) (f p)) ≡ true
    by true here = refl
    by false past = elim (cases_lt j i) [
      | inl before ↦ all j p before at
      | inr late ↦
          let same : j ≡ i = omega arith in
          let both : k ≡ p = same_Some k p (sym at_k ∙ ap (slice_get positions) (sym same) ∙ at) in
          absurd (let hit : is_at (nat_cmp k) p ≡ true = subst (λ q. is_at (nat_cmp k) q ≡ true) both (key_itself k) in cc)
    ]
