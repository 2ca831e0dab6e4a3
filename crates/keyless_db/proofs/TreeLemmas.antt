-- A tree that is opened of a node log and a map that stand for leaves is refused by the volume or for want of memory
-- alone.
use Rattle.std.proofs.Common.{◌≡◌, ◌⊎◌, inl, inr, ℕ, ◌+◌, ◌-◌, ◌*◌, ◌<◌, ◌≤◌, ◌^◌, Bool, true, false, List, length, map, take, drop, Option, Some, None, Ok, Err, refl, sym, ◌∙◌, ap, subst, arith}
use Rattle.std.specs.Prelude.{slice_get, unwrap_or, nat_le, IsSome, if◌then◌else◌}
use Rattle.std.specs.FinMap as finmap
use Rattle.std.specs.Int.{w64, from_be_bytes}
use Rattle.std.proofs.lemmas.Bool.{le-leb}
use Rattle.std.proofs.lemmas.Nat.{from_be_bytes-to_be_bytes_8}
use Rattle.std.proofs.lemmas.Option.{slice_get-map, slice_get_within}
use Rattle.codec_base.specs.Laws.{eight_bytes}
use Rattle.volume_base.specs.Log.{Log, end_of}
use Rattle.volume_base.specs.Volume.{Map}
use Rattle.journal_base.specs.Items.{IsCorrupt}
use Rattle.tree_shape.specs.Hashing.{Hashing}
use Rattle.tree_shape.specs.Kept.{KeepsPeaks}
use Rattle.tree_shape.specs.Pins.{pins}
use Rattle.tree_shape.specs.Shape.{Shape, IsLawful}
use Rattle.tree_shape.specs.Slow.{nodes}
use Rattle.tree_shape.proofs.NeededLemmas.{made_le, needed_from}
use Rattle.tree_store.specs.Stored.{size, node_key, StoresBoundary, TreeStands}
use Rattle.tree_store.specs.Stores.{IsOutside}
use Rattle.tree_store.specs.declared.error.Error.{Error}
use Rattle.tree_store.specs.declared.error.Error.TheVariants.{LocationOverflow}
use Rattle.tree_store.proofs.StoreLemmas.{get-take}
use Rattle.merkle_full.specs.Lists.{AreDigests}
use Rattle.merkle_full.specs.Opening.{some_ok, stored_as, stored_in, NotSelected}
use Rattle.merkle_full.specs.Preparing.{contents_of, leaves_reached, log_kept, has_orphan, NotReached, NotOpened, NotPrepared, Opens}
use Rattle.merkle_full.specs.Recovering.{Source, IsNoDigest, NotRecovered, NotAllRecovered}
use Rattle.merkle_full.proofs.ListLemmas.{all_at, get_behind, mapped_some, taken}
use Rattle.merkle_full.proofs.PeakLemmas.{peak_of_pin, pin_below}
use Rattle.merkle_full.proofs.PrepareLemmas.{durable_fits, kept_standing}
use Rattle.merkle_full.proofs.SettleLemmas.{pruned_stored, stored_read}

-- a stored boundary can be read
boundary_read : {F : Type 0} (n : ℕ) (e : Error F) → n ≤ 2 ^ 62
    → some_ok (if nat_le n (2 ^ 62) then Ok n else Err (LocationOverflow n)) ≡ Err e → ⊥
boundary_read {F = F} n e few bad =
    let read : some_ok {F = F} (if nat_le n (2 ^ 62) then Ok n else Err (LocationOverflow n)) ≡ Ok (Some n) =
    ap (λ (t : Bool). some_ok {F = F} (if t then Ok n else Err (LocationOverflow n))) (le-leb n (2 ^ 62) few) in
    absurd cc

stored_there : {F : Type 0} (m : Map) (b : ℕ) (e : Error F) → StoresBoundary m b → b ≤ 2 ^ 62 → stored_in m ≡ Err e → ⊥
stored_there {F = F} m b e (inl there) few bad =
    let back : from_be_bytes w64 (eight_bytes b) ≡ b = from_be_bytes-to_be_bytes_8 b (omega (arith, few)) in
    boundary_read (from_be_bytes w64 (eight_bytes b)) e (omega (arith, back, few)) (ap (stored_as {F = F}) (sym there)
    ∙ bad)
stored_there {F = F} m b e (inr (none, zero)) few bad =
    let never : Ok None ≡ Err e = ap (stored_as {F = F}) (sym none) ∙ bad in
    absurd cc

reached_least : (s : Shape) (cap end complete : ℕ) → complete ≤ leaves_reached s cap end complete
reached_least s cap end complete = by (has_orphan s cap end complete)
  where
    by : (b : Bool) → complete ≤ (if b then complete + 1 else complete)
    by true = omega arith
    by false = omega arith

-- what an opened tree has is at least what is durable
pub opened_past : {F D : Type 0} (s : Shape) (h : Hashing D) (spelling : D → List ℕ) (admits : D → Type 0)
    (all : List D) (durable top : ℕ) (log : Log) (m : Map) (high boundary complete pruned leaves : ℕ)
    → TreeStands s h spelling all durable top log m
    → Opens F spelling admits s m log high boundary complete pruned leaves → durable ≤ high → durable ≤ leaves
opened_past {F = F} s h spelling admits all durable top log m high boundary complete pruned leaves stands opens few =
    let fits = durable_fits F s h spelling admits all durable top log m high boundary complete pruned leaves stands
    opens few in
    omega (
      arith,
      fits,
      opens.leaves_are,
      reached_least s high (end_of (log_kept opens.stored log)) complete,
    )

module _ {D : Type 0} (s : Shape) (h : Hashing D) (lawful : IsLawful s) (keeps : KeepsPeaks s)
    (small : (n : ℕ) → size s n ≤ 2 * n) (spelling : D → List ℕ) (admits : D → Type 0) (all : List D)
    (durable top : ℕ) (log : Log) (m : Map) (stands : TreeStands s h spelling all durable top log m)
    (digests : AreDigests s h admits all) where
  abbrev Contents : Source D
  Contents = contents_of spelling admits m log

  -- a spelling of the list's nodes is that of a digest
  spelled_node : (p : ℕ) (bytes : List ℕ) → slice_get (map spelling (nodes s h all)) p ≡ Some bytes
      → (d : D) × admits d × (bytes ≡ spelling d)
  spelled_node p bytes at =
      let node = mapped_some spelling (slice_get (nodes s h all) p) bytes
      (sym (slice_get-map spelling (nodes s h all) p) ∙ at) in
      (node.0, all_at admits (nodes s h all) p node.0 digests node.1, node.2)

  -- what stands in the log
  logged : (p : ℕ) → IsCorrupt Contents.items p → ⊥
  logged p bad =
      let i = p - log.start in
      let list = map spelling (nodes s h all) in
      let within = slice_get_within log.items i bad.bytes bad.here.here in
      let low = bad.here.low in
      let place : log.start + i ≡ p = omega (arith, low) in
      let at : slice_get list p ≡ Some bad.bytes =
      ap (slice_get list) (sym place) ∙ sym (get_behind list log.start i)
      ∙ sym (get-take (drop log.start list) (length log.items) i within)
      ∙ ap (λ (xs : List (List ℕ)). slice_get xs i) (sym stands.nodes.items) ∙ bad.here.here in
      let node = spelled_node p bad.bytes at in
      bad.unspelled node.0 node.1 node.2

  -- what is pinned
  pinned : (p : ℕ) → p < 2 ^ 64 → IsNoDigest Contents p → ⊥
  pinned p fits bad = by (finmap.get m (node_key p)) refl bad.some
    where
      by : (o : Option (List ℕ)) → finmap.get m (node_key p) ≡ o → IsSome o → ⊥
      by None is some = absurd cc
      by (Some bytes) is some =
          let front = take (size s stands.boundary) (nodes s h all) in
          let node = mapped_some spelling (slice_get front p) bytes
          (sym (slice_get-map spelling front p) ∙ stands.pins.pins p bytes fits is) in
          let there = taken (nodes s h all) (size s stands.boundary) p node.0 node.1 in
          bad.unspelled bytes node.0 is (all_at admits (nodes s h all) p node.0 digests there) node.2

  -- a peak before the log's start is pinned
  kept_peak : (n i p : ℕ) → stands.boundary ≤ n → slice_get (pins s n) i ≡ Some p → p < log.start
      → IsSome (finmap.get m (node_key p))
  kept_peak n i p past at before =
      let peak = peak_of_pin s n i p at in
      elim (needed_from s lawful keeps n stands.boundary peak.start peak.height past (inl peak.peak)) [
        | inl late ↦ absurd (let high = stands.nodes.start_high in let is = peak.position in
            omega (arith, late, high, is, before))
        | inr old ↦ subst (λ (q : ℕ). IsSome (finmap.get m (node_key q))) (sym peak.position)
            (stands.pins.peaks peak.start peak.height old)
      ]

  -- a peak that the log reaches is recovered
  found : {F : Type 0} (n i p : ℕ) (e : Error F) → stands.boundary ≤ n → n ≤ 2 ^ 62 → size s n ≤ end_of log
      → slice_get (pins s n) i ≡ Some p → NotRecovered (Unit {0}) Contents p e → IsOutside e
  found n i p e past few reached at (inl outside) = outside
  found n i p e past few reached at (inr (inl (is, bad))) =
      let below = pin_below s n i p lawful at in let most = small n in
      absurd (pinned p (omega (arith, below, most, few)) bad)
  found n i p e past few reached at (inr (inr (none, inl (is, missing)))) = by (missing tt)
    where
      by : (p < log.start) ⊎ (end_of log ≤ p) → IsOutside e
      by (inl before) = absurd (let some = kept_peak n i p past at before in cc)
      by (inr behind) = absurd (let below = pin_below s n i p lawful at in omega (arith, below, reached, behind))
  found n i p e past few reached at (inr (inr (none, inr (is, bad)))) = absurd (logged p (bad tt))

  all_found : {F : Type 0} (n : ℕ) (e : Error F) → stands.boundary ≤ n → n ≤ 2 ^ 62 → size s n ≤ end_of log
      → NotAllRecovered (Unit {0}) Contents (pins s n) e → IsOutside e
  all_found n e past few reached (inl outside) = outside
  all_found n e past few reached (inr lost) = found n lost.index lost.position e past few reached lost.here lost.why

  -- The boundary is durable, and so is no more than the cap allows.
  module _ (cap : ℕ) (allowed : cap ≤ 2 ^ 62) (within : top ≤ durable) (under : durable ≤ cap) where
    low : stands.boundary ≤ durable
    low = let high = stands.high in omega (arith, high, within)

    durable_there : size s stands.boundary ≤ end_of log
    durable_there = let most = made_le s stands.boundary durable low in let end = stands.nodes.end_low in
        omega (arith, most, end)

    selected : {F : Type 0} (e : Error F) → NotSelected s stands.boundary log.start (end_of log) cap e → IsOutside e
    selected e (inl (is, below)) = absurd (let le = low in omega (arith, below, le, under))
    selected e (inr (inl (is, above, below))) =
        absurd (let most = made_le s stands.boundary cap above in let high = stands.nodes.start_high in
        omega (arith, below, most, high))
    selected e (inr (inr (above, reached, (pruned, before, is)))) =
        let least = before.is_least.least stands.boundary stands.nodes.start_high in
        let end = stands.nodes.end_low in
        let most = before.most.most durable under (omega (arith, end)) in
        let le = low in
        absurd (omega (arith, least, most, le, before.pruned_is, before.past))

    reached_all : {F : Type 0} (complete : ℕ) (e : Error F)
        → NotReached Contents.items s cap (end_of log) complete e → IsOutside e
    reached_all complete e (inl outside) = outside
    reached_all complete e (inr (has, is, bad)) = absurd (logged (size s complete) bad)

    opened : {F : Type 0} (e : Error F) → NotOpened (Unit {0}) Contents s stands.boundary cap e → IsOutside e
    opened e (inl not) = selected e not
    opened e (inr (complete, pruned, selects, inl (inl lost))) =
        let end = stands.nodes.end_low in
        let most = selects.most.most durable under (omega (arith, end)) in
        let le = low in
        all_found complete e (omega (arith, le, most)) (omega (arith, selects.most.few, allowed)) selects.most.fits lost
    opened e (inr (complete, pruned, selects, inl (inr (all_of, lost)))) =
        let same = pruned_stored s stands.boundary log.start (end_of log) cap complete pruned selects
        stands.nodes.start_high in
        let bound = subst (λ (n : ℕ). NotAllRecovered (Unit {0}) Contents (pins s n) e) same lost in
        let le = low in
        all_found stands.boundary e (omega arith) (omega (arith, le, under, allowed)) durable_there bound
    opened e (inr (complete, pruned, selects, inr (peaks, not))) = reached_all complete e not

    pub prepared : {F : Type 0} (e : Error F) → NotPrepared spelling admits s m log cap e → IsOutside e
    prepared e (inl outside) = outside
    prepared e (inr (inl bad)) =
        let le = low in
        absurd (stored_there m stands.boundary e stands.pins.stored (omega (arith, le, under, allowed)) bad)
    prepared {F = F} e (inr (inr (stored, is, not))) =
        let le = low in
        let same = kept_standing {F = F} s h spelling all durable top log m stored stands is in
        let boundary = stored_read {F = F} m stored stands.boundary is stands.pins.stored
        (omega (arith, le, under, allowed)) in
        let here = subst (λ (l : Log). NotOpened (Unit {0}) (contents_of spelling admits m l) s (unwrap_or stored 0)
        cap e)
        same not in
        opened e (subst (λ (n : ℕ). NotOpened (Unit {0}) Contents s n cap e) (sym boundary) here)
