-- A tree whose boundary moves: first in memory and in its map, and then in its log.
use Rattle.std.proofs.Common.{◌≡◌, inl, inr, ℕ, ◌*◌, ◌≤◌, max, List, length, map, take, sym, ◌∙◌, ap, subst, arith}
use Rattle.std.specs.Prelude.{◌^◌, is_some}
use Rattle.std.proofs.Math.Nat.{mul-div-le}
use Rattle.volume_base.specs.Bounds.{IsPartOf}
use Rattle.volume_base.specs.Log.{Log, end_of, pruned_to, Advances, BecomesOneOf}
use Rattle.volume_base.specs.Moments.{Image, LeftAt, present, PairKeeps}
use Rattle.volume_base.specs.Volume.{State, Map, LogMoves, MapMoves, OnlyLeft}
use Rattle.volume_base.proofs.BoundLemmas.{part_of_run, part_wider, part_advances}
use Rattle.volume_base.proofs.MomentLemmas.{pair_moves_log, pair_moves_map, pair_keeps_joins}
use Rattle.journal_base.specs.Blobs.{blob_start}
use Rattle.journal_base.specs.Items.{Spells}
use Rattle.tree_shape.specs.Hashing.{Hashing}
use Rattle.tree_shape.specs.Pins.{pins}
use Rattle.tree_shape.specs.Shape.{Shape, made, peaks, IsLawful}
use Rattle.tree_shape.specs.Slow.{nodes, node_of}
use Rattle.tree_shape.proofs.NeededLemmas.{made_le}
use Rattle.tree_store.specs.Stored.{IsMapOf, TreeStands}
use Rattle.tree_core.specs.Tree.{IsOf, IsSound, node_at, rests}
use Rattle.merkle_full.specs.Flushing.{IsSameTree, AllStand}
use Rattle.merkle_full.specs.Full.{Full, IsKept, Rests}
use Rattle.merkle_full.specs.Lists.{IsFullOf}
use Rattle.merkle_full.specs.Pruning.{pinned_map, IsMovedTo, beside_map}
use Rattle.merkle_full.proofs.PinnedLemmas.{pinned_is_map}
use Rattle.merkle_full.proofs.StandLemmas.{full_run}

pub moved_rests : {D : Type 0} (s : Shape) (n b : ℕ) (u : Full D) → u.tree.leaves ≡ n → u.tree.boundary ≡ n → u.boundary ≡ b → ((p : ℕ) → is_some (node_at u.tree p) ≡ rests s n b p) → Rests s u
moved_rests s n b u leaves boundary is exact = record {
  boundary = boundary ∙ sym leaves;
  exact = λ p. exact p ∙ ap (λ m. rests s m b p) (sym leaves) ∙ ap (λ c. rests s u.tree.leaves c p) (sym is);
}

pub moved_kept : {D : Type 0} (s : Shape) (n b : ℕ) (u : Full D) → IsSound s u.tree → u.tree.leaves ≡ n → u.tree.boundary ≡ n → u.boundary ≡ b → b ≤ n → ((p : ℕ) → is_some (node_at u.tree p) ≡ rests s n b p) → IsKept s u
moved_kept s n b u sound leaves boundary is le exact = record {
  sound = sound;
  low = omega (arith, boundary, is, le);
  exact = λ p lt. exact p ∙ ap (λ m. rests s m b p) (sym boundary) ∙ ap (λ c. rests s u.tree.boundary c p) (sym is);
}

pub blob_low : (blob p : ℕ) → blob_start blob p ≤ p
blob_low blob p = omega (arith, mul-div-le p blob)

module _ {D : Type 0} (s : Shape) (h : Hashing D) (spelling : D → List ℕ) (admits : D → Type 0) (all : List D) (t u : Full D) where
  -- in memory and in the map
  pub ready_full : (ds : List D) (a : Image) (b : State) (m : Map) (c : ℕ) → IsLawful s → length (made s c) ≤ 2 * c → c ≤ 2 ^ 62 → t.boundary ≤ c → c ≤ length all
      → IsMovedTo c t u → u.tree.boundary ≡ u.tree.leaves → t.tree.boundary ≡ t.tree.leaves → IsOf s h all u.tree
      → length (pins s c) ≡ length ds → ds ≡ map (node_of s h all) (peaks s c) → b.log t.log.name ≡ a.log t.log.name → m ≡ pinned_map spelling (a.map t.metadata) (pins s c) ds c
      → IsFullOf s h spelling admits all t a → IsFullOf s h spelling admits all u (beside_map b m)
  ready_full ds a b m c w small few le within moved rest flushed of counted is log stored full =
      let name : u.log.name ≡ t.log.name = ap (λ v. v.name) moved.log in
      let same : b.log u.log.name ≡ a.log t.log.name = ap b.log name ∙ log in
      let whole : u.tree.boundary ≡ t.tree.boundary = rest ∙ moved.leaves ∙ sym flushed in
      record {
        digests = full.digests;
        tree = of;
        start_is = ap (λ v. v.start) moved.log ∙ full.start_is ∙ ap (λ (l : Log). l.start) (sym same);
        end_is = ap (λ v. v.end) moved.log ∙ full.end_is ∙ ap end_of (sym same);
        nodes = subst (λ (l : Log). Spells spelling (take (length (made s u.tree.boundary)) (nodes s h all)) l) (sym same) (subst (λ (e : ℕ). Spells spelling (take (length (made s e)) (nodes s h all)) (a.log t.log.name)) (sym whole) full.nodes);
        low = omega (arith, ap (λ v. v.start) moved.log, full.low, made_le s t.boundary c le, ap (λ n. length (made s n)) moved.boundary);
        pins = subst (λ (n : ℕ). IsMapOf s h spelling all n m) (sym moved.boundary) (subst (λ (x : Map). IsMapOf s h spelling all c x) (sym stored) (pinned_is_map s h spelling all ds t.boundary c (a.map t.metadata) w small few le within counted is full.pins));
      }

  -- in the log
  pub pruned_full : (old new : Image) (point : ℕ) → u.tree ≡ t.tree → IsSameTree t u → point ≤ length (made s t.boundary)
      → new.log t.log.name ≡ pruned_to (old.log t.log.name) point
      → ((list : List D) → Spells spelling list (old.log t.log.name) → Spells spelling list (new.log t.log.name))
      → u.log.start ≡ (new.log u.log.name).start → u.log.end ≡ end_of (new.log u.log.name) → new.map t.metadata ≡ old.map t.metadata
      → IsFullOf s h spelling admits all t old → IsFullOf s h spelling admits all u new
  pruned_full old new point tree same le pruned listed start end maps full =
      let name : u.log.name ≡ t.log.name = ap (λ v. v.name) same.log in
      let begins : (new.log u.log.name).start ≡ max (old.log t.log.name).start point = ap (λ (n : List ℕ). (new.log n).start) name ∙ ap (λ (l : Log). l.start) pruned in
      let run : Spells spelling (take (length (made s t.tree.boundary)) (nodes s h all)) (new.log t.log.name) = listed (take (length (made s t.tree.boundary)) (nodes s h all)) full.nodes in
      record {
        digests = full.digests;
        tree = subst (λ v. IsOf s h all v) (sym tree) full.tree;
        start_is = start;
        end_is = end;
        nodes = subst (λ (k : List ℕ). Spells spelling (take (length (made s u.tree.boundary)) (nodes s h all)) (new.log k)) (sym name) (subst (λ v. Spells spelling (take (length (made s v.boundary)) (nodes s h all)) (new.log t.log.name)) (sym tree) run);
        low = omega (arith, start, begins, le, full.start_is, full.low, ap (λ (c : ℕ). length (made s c)) same.boundary);
        pins = subst (λ (c : ℕ). IsMapOf s h spelling all c (new.map u.metadata)) (sym same.boundary) (subst (λ (k : List ℕ). IsMapOf s h spelling all t.boundary (new.map k)) (sym same.metadata) (subst (λ (x : Map). IsMapOf s h spelling all t.boundary x) (sym maps) full.pins));
      }

-- ---- what each moment leaves

module _ {D : Type 0} (s : Shape) (h : Hashing D) (spelling : D → List ℕ) (admits : D → Type 0) (all : List D) (durable top : ℕ) (t : Full D) (flushed : t.tree.boundary ≡ t.tree.leaves) where
  abbrev list : List (List ℕ)
  list = map spelling (nodes s h all)

  abbrev wide : Log → Map → Type 0
  wide = TreeStands s h spelling all durable (max top t.boundary)

  -- the whole log, from the boundary on
  whole_part : (image : Image) → IsFullOf s h spelling admits all t image → length (made s durable) ≤ length list → IsPartOf list (length (made s t.boundary)) (length (made s durable)) (image.log t.log.name)
  whole_part image full long = part_wider list (image.log t.log.name).start (length (made s t.boundary)) (length list) (length (made s durable)) (image.log t.log.name) (omega (arith, full.start_is, full.low)) long (part_of_run list (image.log t.log.name) (full_run s h spelling admits all t image flushed full))

  -- and beside the next map
  next_stands : (m : Map) (image : Image) → IsFullOf s h spelling admits all t image → length (made s durable) ≤ length list → m ≡ image.map t.metadata → wide (image.log t.log.name) m
  next_stands m image full long is = record {
    boundary = t.boundary;
    high = omega arith;
    pins = subst (λ (x : Map). IsMapOf s h spelling all t.boundary x) (sym is) full.pins;
    nodes = whole_part image full long;
  }

  -- the map is replaced
  pub store_stands : (a b : State) (m : Map) → IsFullOf s h spelling admits all t (beside_map a m) → OnlyLeft (a.log_left a.clock t.log.name) (a.log t.log.name)
      → AllStand s h spelling all durable top t a → MapMoves t.metadata (BecomesOneOf m) a b → PairKeeps t.log.name t.metadata wide a b
  store_stands a b m full only stand moves =
      pair_moves_map t.log.name t.metadata (BecomesOneOf m) (λ log x. (log ≡ a.log t.log.name) × TreeStands s h spelling all durable top log x) wide a b moves
      (λ log x at_log at_map. (only log at_log, stand log x at_log at_map)) goes
    where
      goes : (log : Log) (old new : Map) → (log ≡ a.log t.log.name) × TreeStands s h spelling all durable top log old → BecomesOneOf m old new → wide log new
      goes log old new was (inl same) = record {
        boundary = was.1.boundary;
        high = omega (arith, was.1.high);
        pins = subst (λ (x : Map). IsMapOf s h spelling all was.1.boundary x) (sym same) was.1.pins;
        nodes = was.1.nodes;
      }
      goes log old new was (inr is) = subst (λ (l : Log). wide l new) (sym was.0) (next_stands new (beside_map a m) full (omega (arith, was.1.nodes.end_low, was.1.nodes.within)) is)

  -- and then the log begins later
  pub move_stands : (a b : State) (to : ℕ) → IsFullOf s h spelling admits all t (present a) → to ≤ length (made s t.boundary) → length (made s durable) ≤ length list
      → OnlyLeft (a.log_left a.clock t.log.name) (a.log t.log.name) → OnlyLeft (a.map_left a.clock t.metadata) (a.map t.metadata) → LogMoves t.log.name (Advances to) a b → PairKeeps t.log.name t.metadata wide a b
  move_stands a b to full le long only_log only_map moves =
      pair_moves_log t.log.name t.metadata (Advances to) (λ log x. (log ≡ a.log t.log.name) × (x ≡ a.map t.metadata)) wide a b moves
      (λ log x at_log at_map. (only_log log at_log, only_map x at_map)) goes
    where
      goes : (old new : Log) (x : Map) → (old ≡ a.log t.log.name) × (x ≡ a.map t.metadata) → Advances to old new → wide new x
      goes old new x was step =
          let part : IsPartOf list (length (made s t.boundary)) (length (made s durable)) old = subst (λ (l : Log). IsPartOf list (length (made s t.boundary)) (length (made s durable)) l) (sym was.0) (whole_part (present a) full long) in
          let moved : IsPartOf list (max (length (made s t.boundary)) to) (length (made s durable)) new = part_advances list old new (length (made s t.boundary)) (length (made s durable)) to step part in
          record {
            boundary = t.boundary;
            high = omega arith;
            pins = subst (λ (m : Map). IsMapOf s h spelling all t.boundary m) (sym was.1) full.pins;
            nodes = part_wider list (max (length (made s t.boundary)) to) (length (made s t.boundary)) (length (made s durable)) (length (made s durable)) new (omega (arith, le)) (omega arith) moved;
          }

  -- what is durable is within the list
  pub durable_within : (a : State) → LeftAt a a.clock (present a) → AllStand s h spelling all durable top t a → length (made s durable) ≤ length list
  durable_within a left stand =
      let here = stand (a.log t.log.name) (a.map t.metadata) (left.logs t.log.name) (left.maps t.metadata) in
      omega (arith, here.nodes.end_low, here.nodes.within)

  -- the one after the other
  pub stored_stands : (a b d : State) (m : Map) (to : ℕ) → LeftAt a a.clock (present a) → IsFullOf s h spelling admits all t (beside_map a m) → OnlyLeft (a.log_left a.clock t.log.name) (a.log t.log.name)
      → AllStand s h spelling all durable top t a → MapMoves t.metadata (BecomesOneOf m) a b → b.log t.log.name ≡ a.log t.log.name → OnlyLeft (b.map_left b.clock t.metadata) (b.map t.metadata)
      → IsFullOf s h spelling admits all t (present b) → to ≤ length (made s t.boundary) → LogMoves t.log.name (Advances to) b d → PairKeeps t.log.name t.metadata wide a d
  stored_stands a b d m to left full only stand moves same only_map full_b le goes =
      pair_keeps_joins t.log.name t.metadata wide a b d (store_stands a b m full only stand moves)
      (move_stands b d to full_b le (durable_within a left stand)
      (λ image at. only image ((moves.logs b.clock t.log.name image moves.past.later (omega arith)).0 at) ∙ sym same) only_map goes)
