-- What the calls of a tree leave of its log beside its map, at each moment.
use Rattle.std.proofs.Common.{◌≡◌, ℕ, List, ◌++◌, length, map, take, drop, sym, ◌∙◌, ap, subst, arith, inl, inr}
use Rattle.std.proofs.lemmas.List.{take_all, take-append-drop, map-append, length-map}
use Rattle.volume_base.specs.Bounds.{IsRunOf, IsPartOf}
use Rattle.volume_base.specs.Log.{Log, Grows, Stays}
use Rattle.volume_base.specs.Moments.{Image, present, PairHas, PairKeeps}
use Rattle.volume_base.specs.Volume.{State, Map, PastStays, LogMoves}
use Rattle.volume_base.proofs.BoundLemmas.{part_of_run, part_wider, part_grows_whole, part_grows, part_of_longer, run_pruned}
use Rattle.volume_base.proofs.MomentLemmas.{past_same, pair_moves_log, pair_has_after, pair_keeps_joins}
use Rattle.journal_base.specs.Items.{Spells}
use Rattle.journal_base.specs.View.{IsDurable}
use Rattle.tree_shape.specs.Hashing.{Hashing}
use Rattle.tree_shape.specs.Shape.{Shape, made, IsLawful}
use Rattle.tree_shape.specs.Slow.{nodes}
use Rattle.tree_store.specs.Stored.{TreeStands}
use Rattle.merkle_full.specs.Flushing.{IsSameTree, AllStand, AllKeepStanding}
use Rattle.tree_store.proofs.StoredLemmas.{nodes_on}
use Rattle.merkle_full.specs.Full.{Full}
use Rattle.merkle_full.specs.Lists.{IsFullOf}
use Rattle.merkle_full.proofs.FullLemmas.{length-nodes}

-- where nothing is called
pub pair_none : (one two : List ℕ) (Q : Log → Map → Type 0) (s : State) → PairHas s one two Q → PairKeeps one two Q s s
pair_none one two Q s has = record {
  past = past_same s;
  during = λ t log m lo hi left_log left_map.
      let now : t ≡ s.clock = omega (arith, lo, hi) in
      has log m (subst (λ u. s.log_left u one log) now left_log) (subst (λ u. s.map_left u two m) now left_map);
}

-- calls that leave the clock
pub pair_idle : (one two : List ℕ) (Q : Log → Map → Type 0) (a b : State) → b.clock ≡ a.clock → PastStays a b → PairHas a one two Q → PairKeeps one two Q a b
pair_idle one two Q a b clock past has = record {
  past = past;
  during = λ t log m lo hi left_log left_map.
      let now : t ≡ a.clock = omega (arith, lo, hi, clock) in
      has log m ((past.logs a.clock one log (omega arith)).0 (subst (λ u. b.log_left u one log) now left_log)) ((past.maps a.clock two m (omega arith)).0 (subst (λ u. b.map_left u two m) now left_map));
}

-- the log of a tree at rest has all nodes from its start on
pub full_run : {D : Type 0} (s : Shape) (h : Hashing D) (spelling : D → List ℕ) (admits : D → Type 0) (all : List D) (t : Full D) (image : Image)
    → t.tree.boundary ≡ t.tree.leaves → IsFullOf s h spelling admits all t image → IsRunOf (map spelling (nodes s h all)) (image.log t.log.name)
full_run {D = D} s h spelling admits all t image flushed full =
    let whole : take (length (made s t.tree.boundary)) (nodes s h all) ≡ nodes s h all = take_all (length (made s t.tree.boundary)) (nodes s h all) (omega (arith, length-nodes s h all, ap (λ n. length (made s n)) (flushed ∙ full.tree.count))) in
    subst (λ (l : List D). IsRunOf (map spelling l) (image.log t.log.name)) whole full.nodes

module _ {D : Type 0} (s : Shape) (h : Hashing D) (spelling : D → List ℕ) (all : List D) (durable top : ℕ) where
  -- an append of the nodes that the log lacks
  pub stands_grows : (tail : List D) (e : ℕ) (contents old new : Log) (m : Map)
      → Spells spelling (take e (nodes s h all)) contents → tail ≡ drop e (nodes s h all) → Grows contents (map spelling tail) old new
      → TreeStands s h spelling all durable top old m → TreeStands s h spelling all durable top new m
  stands_grows tail e contents old new m run is grows stands =
      let joined : take e (nodes s h all) ++ tail ≡ nodes s h all = ap (λ (l : List D). take e (nodes s h all) ++ l) is ∙ take-append-drop e (nodes s h all) in
      let spelled : map spelling (take e (nodes s h all)) ++ map spelling tail ≡ map spelling (nodes s h all) = sym (map-append spelling (take e (nodes s h all)) tail) ∙ ap (map spelling) joined in
      let P : List (List ℕ) → Log → Type 0 = λ list log. IsPartOf list (length (made s stands.boundary)) (length (made s durable)) log in
      record {
        boundary = stands.boundary;
        high = stands.high;
        pins = stands.pins;
        nodes = subst (λ (l : List (List ℕ)). P l new) spelled (part_grows_whole (map spelling (take e (nodes s h all))) (map spelling tail) contents old new (length (made s stands.boundary)) (length (made s durable)) run grows (subst (λ (l : List (List ℕ)). P l old) (sym spelled) stands.nodes));
      }

  pub flush_stands : (admits : D → Type 0) (tail : List D) (t : Full D) (a b : State) → IsFullOf s h spelling admits all t (present a)
      → tail ≡ drop (length (made s t.tree.boundary)) (nodes s h all) → LogMoves t.log.name (Grows (a.log t.log.name) (map spelling tail)) a b
      → AllStand s h spelling all durable top t a → AllKeepStanding s h spelling all durable top t a b
  flush_stands admits tail t a b full is moves has =
      let Q : Log → Map → Type 0 = TreeStands s h spelling all durable top in
      pair_moves_log t.log.name t.metadata (Grows (a.log t.log.name) (map spelling tail)) Q Q a b moves has
      (λ old new m was goes. stands_grows tail (length (made s t.tree.boundary)) (a.log t.log.name) old new m full.nodes is goes was)

  -- a sync of the log
  pub sync_stands : (t : Full D) (a b : State) → LogMoves t.log.name Stays a b → AllStand s h spelling all durable top t a → AllKeepStanding s h spelling all durable top t a b
  sync_stands t a b moves has =
      let Q : Log → Map → Type 0 = TreeStands s h spelling all durable top in
      pair_moves_log t.log.name t.metadata Stays Q Q a b moves has (λ old new m was same. subst (λ (l : Log). Q l m) (sym same) was)

  -- and one behind other calls
  pub stands_then_sync : (t : Full D) (name : List ℕ) (a b c : State) → name ≡ t.log.name → LogMoves name Stays b c → AllKeepStanding s h spelling all durable top t a b → AllKeepStanding s h spelling all durable top t a c
  stands_then_sync t name a b c is moves keeps =
      let Q : Log → Map → Type 0 = TreeStands s h spelling all durable top in
      pair_keeps_joins t.log.name t.metadata Q a b c keeps
      (sync_stands t b c (subst (λ (n : List ℕ). LogMoves n Stays b c) is moves) (pair_has_after t.log.name t.metadata Q a b keeps))

  -- where the sync is done, all leaves are durable
  pub sync_settles : (admits : D → Type 0) (t u : Full D) (a b : State) → IsSameTree t u → u.tree.boundary ≡ u.tree.leaves → IsFullOf s h spelling admits all u (present b) → IsDurable t.log b
      → AllKeepStanding s h spelling all durable top t a b → AllStand s h spelling all (length all) top t b
  sync_settles admits t u a b same flushed full only keeps log m at_log at_map =
      let list = map spelling (nodes s h all) in
      let was = pair_has_after t.log.name t.metadata (TreeStands s h spelling all durable top) a b keeps log m at_log at_map in
      let is : b.log u.log.name ≡ log = ap (λ v. b.log v.name) same.log ∙ sym (only log at_log) in
      let run : IsRunOf list log = subst (λ (l : Log). IsRunOf list l) is (full_run s h spelling admits all u (present b) flushed full) in
      record {
        boundary = was.boundary;
        high = was.high;
        pins = was.pins;
        nodes = part_wider list log.start (length (made s was.boundary)) (length list) (length (made s (length all))) log was.nodes.start_high (omega (arith, length-map (nodes s h all) spelling, length-nodes s h all)) (part_of_run list log run);
      }

-- an append of the nodes that the log lacks of a list's first leaves
part_grows_ahead : (list items rest : List (List ℕ)) (contents old new : Log) (start end : ℕ) → IsRunOf list contents → Grows contents items old new → IsPartOf (list ++ items ++ rest) start end old → IsPartOf (list ++ items ++ rest) start end new
part_grows_ahead list items rest contents old new start end run (inl same) part = subst (IsPartOf (list ++ items ++ rest) start end) (sym same) part
part_grows_ahead list items rest contents old new start end run (inr (from, count, le, back, is)) part =
    let whole : IsPartOf list contents.start (length list) contents = part_of_run list contents run in
    let back_run : IsRunOf list old = subst (IsRunOf list) (sym back) (run_pruned list contents from (omega (arith, le, whole.within)) run) in
    let here : IsPartOf list old.start (length list) old = part_of_run list old back_run in
    let wider : IsPartOf list start end old = part_wider list old.start start (length list) end old part.start_high (omega (arith, part.end_low, here.within)) here in
    part_of_longer (list ++ items) rest start end new (part_grows list items contents old new start end run (inr (from, count, le, back, is)) wider)

module _ {D : Type 0} (s : Shape) (h : Hashing D) (w : IsLawful s) (spelling : D → List ℕ) (all more : List D) (durable top : ℕ) where
  stands_ahead : (tail : List D) (e : ℕ) (contents old new : Log) (m : Map) → Spells spelling (take e (nodes s h all)) contents → tail ≡ drop e (nodes s h all) → Grows contents (map spelling tail) old new
      → TreeStands s h spelling (all ++ more) durable top old m → TreeStands s h spelling (all ++ more) durable top new m
  stands_ahead tail e contents old new m run is grows stands =
      let on = nodes_on s h all more w in
      let joined : take e (nodes s h all) ++ tail ≡ nodes s h all = ap (λ (l : List D). take e (nodes s h all) ++ l) is ∙ take-append-drop e (nodes s h all) in
      let spelled : map spelling (take e (nodes s h all)) ++ map spelling tail ++ map spelling on.0 ≡ map spelling (nodes s h (all ++ more)) =
      ap (λ (l : List (List ℕ)). l ++ map spelling on.0) (sym (map-append spelling (take e (nodes s h all)) tail) ∙ ap (map spelling) joined) ∙ sym (map-append spelling (nodes s h all) on.0) ∙ ap (map spelling) (sym on.1) in
      let P : List (List ℕ) → Log → Type 0 = λ list log. IsPartOf list (length (made s stands.boundary)) (length (made s durable)) log in
      record {
        boundary = stands.boundary;
        high = stands.high;
        pins = stands.pins;
        nodes = subst (λ (l : List (List ℕ)). P l new) spelled (part_grows_ahead (map spelling (take e (nodes s h all))) (map spelling tail) (map spelling on.0) contents old new (length (made s stands.boundary)) (length (made s durable)) run grows (subst (λ (l : List (List ℕ)). P l old) (sym spelled) stands.nodes));
      }

  pub flush_ahead : (admits : D → Type 0) (tail : List D) (t : Full D) (a b : State) → IsFullOf s h spelling admits all t (present a) → tail ≡ drop (length (made s t.tree.boundary)) (nodes s h all)
      → LogMoves t.log.name (Grows (a.log t.log.name) (map spelling tail)) a b → AllStand s h spelling (all ++ more) durable top t a → AllKeepStanding s h spelling (all ++ more) durable top t a b
  flush_ahead admits tail t a b full is moves has =
      let Q : Log → Map → Type 0 = TreeStands s h spelling (all ++ more) durable top in
      pair_moves_log t.log.name t.metadata (Grows (a.log t.log.name) (map spelling tail)) Q Q a b moves has
      (λ old new m was goes. stands_ahead tail (length (made s t.tree.boundary)) (a.log t.log.name) old new m full.nodes is goes was)
