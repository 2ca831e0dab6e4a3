-- A node log that is cut and pruned to the tree that is opened.
use Rattle.std.proofs.Common.{◌≡◌, inl, inr, ℕ, ◌+◌, ◌-◌, ◌≤◌, min, max, List, ◌++◌, length, map, take, drop, Some, None, Option, refl, sym, ◌∙◌, ap, subst, arith, length-append}
use Rattle.std.specs.Prelude.{◌^◌, slice_get, All, Bool, true, false, Result, Ok, Err, IfErr, unwrap_or, nat_le, if◌then◌else◌}
use Rattle.std.specs.Int.{w64, from_be_bytes}
use Rattle.std.proofs.lemmas.Bool.{le-leb}
use Rattle.std.proofs.lemmas.Nat.{from_be_bytes-to_be_bytes_8}
use Rattle.tree_store.specs.declared.error.Error.TheVariants.{LocationOverflow}
use Rattle.tree_shape.proofs.NeededLemmas.{made_le}
use Rattle.tree_core.specs.Tree.{Tree, IsOf}
use Rattle.merkle_full.specs.Full.{Full, IsSeated}
use Rattle.merkle_full.specs.Lists.{AreDigests, IsFullOf}
use Rattle.merkle_full.specs.Preparing.{Prepared, IsReady, has_orphan, leaves_reached}
use Rattle.merkle_full.specs.Opening.{some_ok, stored_as, stored_in, Selects}
use Rattle.std.specs.Result.{IsErrAnd}
use Rattle.std.proofs.Math.Nat.{mul-div-le}
use Rattle.std.proofs.lemmas.List.{take-take, take-map, length-take, length-take-le, length-drop, drop-take, take-append-drop, get_or_append_left}
use Rattle.codec_base.specs.Laws.{eight_bytes}
use Rattle.journal_base.specs.Answers.{IsOfStart}
use Rattle.journal_base.specs.Blobs.{blob_start}
use Rattle.tree_shape.specs.Hashing.{Hashing}
use Rattle.tree_shape.specs.Shape.{Shape, IsLawful}
use Rattle.tree_shape.specs.Slow.{nodes}
use Rattle.tree_store.specs.Errors.{from_journal}
use Rattle.tree_store.specs.Stores.{IsOutside}
use Rattle.tree_store.specs.declared.error.Error.{Error}
use Rattle.volume_base.specs.declared.error.JournalError.{JournalError}
use Rattle.volume_base.specs.declared.error.JournalError.TheVariants as journal
use Rattle.tree_store.specs.Stored.{size, StoresBoundary, IsMapOf, TreeStands}
use Rattle.tree_store.proofs.StoredLemmas.{front_nodes, nodes_on}
use Rattle.volume_base.specs.Bounds.{IsRunOf, IsPartOf}
use Rattle.volume_base.specs.Log.{Log, end_of, cut_to, pruned_to, Shrinks, Advances, BecomesOneOf}
use Rattle.volume_base.specs.Moments.{Image, LeftAt, present, PairHas, PairKeeps}
use Rattle.volume_base.specs.Volume.{State, Map, OnlyLeft, LogMoves, MapMoves}
use Rattle.volume_base.proofs.MomentLemmas.{pair_has_after, pair_keeps_joins, pair_moves_log, pair_moves_map}
use Rattle.volume_base.proofs.StepLemmas.{cut_to_past}
use Rattle.volume_base.proofs.BoundLemmas.{becomes, run_cut, run_pruned, part_shrinks, part_advances, part_wider}

pub blob_below : (blob p : ℕ) → blob_start blob p ≤ p
blob_below blob p = mul-div-le p blob

-- ---- where a cut and a prune leave the end

pub end_cut : (log : Log) (end : ℕ) → log.start ≤ end → end ≤ end_of log → end_of (cut_to log end) ≡ end
end_cut log end low high = omega (arith, length-take (end - log.start) log.items)

pub end_pruned : (log : Log) (start : ℕ) → start ≤ end_of log → end_of (pruned_to log start) ≡ end_of log
end_pruned log start le = omega (arith, length-drop (start - log.start) log.items)

-- ---- a part of a list that is cut and pruned is a run of its first items

pub part_settled : (list : List (List ℕ)) (log : Log) (first least end to : ℕ) → IsPartOf list first least log → log.start ≤ end → end ≤ end_of log → to ≤ end → IsRunOf (take end list) (pruned_to (cut_to log end) to)
part_settled list log first least end to part low high le =
    let split : end_of log ≡ log.start + length log.items = refl in
    let front : IsRunOf (take (end_of log) list) log = record {
      items = part.items ∙ sym (drop-take log.start (length log.items) list);
      within = omega (arith, length-take (end_of log) list, part.within);
    } in
    let cut : IsRunOf (take end (take (end_of log) list)) (cut_to log end) = run_cut (take (end_of log) list) log end low front in
    let same : take end (take (end_of log) list) ≡ take end list = take-take end (end_of log) list high in
    run_pruned (take end list) (cut_to log end) to (omega (arith, length-take end list, le, high, part.within)) (subst (λ (l : List (List ℕ)). IsRunOf l (cut_to log end)) same cut)

-- ---- images go on standing for a list

module _ {D : Type 0} (s : Shape) (h : Hashing D) (spelling : D → List ℕ) (all : List D) (durable top : ℕ) where
  pub stands_advances : (boundary to : ℕ) (old new : Log) (m : Map) → ((b : ℕ) → b ≤ length all → StoresBoundary m b → b ≡ boundary) → to ≤ size s boundary → Advances to old new → TreeStands s h spelling all durable top old m → TreeStands s h spelling all durable top new m
  stands_advances boundary to old new m only le step stands =
      let same : size s stands.boundary ≡ size s boundary = ap (size s) (only stands.boundary stands.pins.within stands.pins.stored) in
      let part = part_advances (map spelling (nodes s h all)) old new (size s stands.boundary) (size s durable) to step stands.nodes in
      record {
        boundary = stands.boundary;
        high = stands.high;
        pins = stands.pins;
        nodes = part_wider (map spelling (nodes s h all)) (max (size s stands.boundary) to) (size s stands.boundary) (size s durable) (size s durable) new (omega (arith, same, le)) (omega arith) part;
      }

  pub stands_shrinks : (to : ℕ) (old new : Log) (m : Map) → size s durable ≤ to → Shrinks to old new → TreeStands s h spelling all durable top old m → TreeStands s h spelling all durable top new m
  stands_shrinks to old new m le step stands =
      let part = part_shrinks (map spelling (nodes s h all)) old new (size s stands.boundary) (size s durable) to step stands.nodes in
      record {
        boundary = stands.boundary;
        high = stands.high;
        pins = stands.pins;
        nodes = part_wider (map spelling (nodes s h all)) (size s stands.boundary) (size s stands.boundary) (min (size s durable) to) (size s durable) new (omega arith) (omega (arith, le)) part;
      }

-- ---- one call after another

module _ {D : Type 0} (s : Shape) (h : Hashing D) (spelling : D → List ℕ) (all : List D) (durable top : ℕ) (name metadata : List ℕ) where
  pub cut_down : (to : ℕ) (a b : State) → LogMoves name (Shrinks to) a b → size s durable ≤ to → PairHas a name metadata (TreeStands s h spelling all durable top) → PairKeeps name metadata (TreeStands s h spelling all durable top) a b
  cut_down to a b moves le has =
      pair_moves_log name metadata (Shrinks to) (TreeStands s h spelling all durable top) (TreeStands s h spelling all durable top) a b moves has
      (λ old new m stands step. stands_shrinks s h spelling all durable top to old new m le step stands)

  -- the map that is there is put back
  pub put_back : (read : Map) (a b : State) → MapMoves metadata (BecomesOneOf read) a b → a.map_left a.clock metadata read → PairHas a name metadata (TreeStands s h spelling all durable top) → PairKeeps name metadata (TreeStands s h spelling all durable top) a b
  put_back read a b moves here has =
      pair_moves_map name metadata (BecomesOneOf read) (λ log m. TreeStands s h spelling all durable top log m × TreeStands s h spelling all durable top log read) (TreeStands s h spelling all durable top) a b moves
      (λ log m left_log left_map. (has log m left_log left_map, has log read left_log here)) (λ log old new both step. becomes (λ m. TreeStands s h spelling all durable top log m) read old new step both.0 both.1)

  -- and then the log's start moves, at most to the boundary's position
  pub start_moved : (read : Map) (boundary to : ℕ) (a b : State) → ((n : ℕ) → n ≤ length all → StoresBoundary read n → n ≡ boundary) → LogMoves name (Advances to) a b → to ≤ size s boundary → OnlyLeft (a.map_left a.clock metadata) read
      → PairHas a name metadata (TreeStands s h spelling all durable top) → PairKeeps name metadata (TreeStands s h spelling all durable top) a b
  start_moved read boundary to a b only moves le alone has =
      pair_moves_log name metadata (Advances to) (λ log m. (m ≡ read) × TreeStands s h spelling all durable top log m) (TreeStands s h spelling all durable top) a b moves
      (λ log m left_log left_map. (alone m left_map, has log m left_log left_map))
      (λ old new m both step. stands_advances s h spelling all durable top boundary to old new m (λ n few stored. only n few (subst (λ (r : Map). StoresBoundary r n) both.0 stored)) le step both.1)

-- what is there reaches the durable nodes
module _ {D : Type 0} (s : Shape) (h : Hashing D) (spelling : D → List ℕ) (all : List D) (durable top : ℕ) (name metadata : List ℕ) where
  pub long_now : (a : State) → LeftAt a a.clock (present a) → PairHas a name metadata (TreeStands s h spelling all durable top) → size s durable ≤ end_of (a.log name)
  long_now a left has = let stands = has (a.log name) (a.map metadata) (left.logs name) (left.maps metadata) in stands.nodes.end_low

  -- one run behind another, and a cut behind a run
  pub then_more : (a b d : State) → PairKeeps name metadata (TreeStands s h spelling all durable top) a b → (PairHas b name metadata (TreeStands s h spelling all durable top) → PairKeeps name metadata (TreeStands s h spelling all durable top) b d)
      → PairKeeps name metadata (TreeStands s h spelling all durable top) a d
  then_more a b d one more = pair_keeps_joins name metadata (TreeStands s h spelling all durable top) a b d one (more (pair_has_after name metadata (TreeStands s h spelling all durable top) a b one))

  pub then_cut : (end : ℕ) (a b d : State) → PairKeeps name metadata (TreeStands s h spelling all durable top) a b → LogMoves name (Shrinks (min end (end_of (b.log name)))) b d → LeftAt b b.clock (present b) → size s durable ≤ end
      → PairKeeps name metadata (TreeStands s h spelling all durable top) a d
  then_cut end a b d one moves left le =
      then_more a b d one (λ has. cut_down s h spelling all durable top name metadata (min end (end_of (b.log name))) b d moves (let long = long_now b left has in omega (arith, long, le)) has)

-- ---- the log behind these calls

module _ (a b d : Log) (size_is to point : ℕ) (cut : b ≡ cut_to a to) (to_is : to ≡ size_is) (pruned : d ≡ pruned_to b point) (low : a.start ≤ size_is) (high : size_is ≤ end_of a) (below : point ≤ size_is) where
  log_before : d ≡ pruned_to (cut_to a size_is) point
  log_before = pruned ∙ ap (λ (l : Log). pruned_to l point) (cut ∙ ap (cut_to a) to_is)

  pub start_settled : d.start ≤ size_is
  start_settled = omega (arith, ap (λ (l : Log). l.start) log_before, low, below)

  pub log_settled : (e : Log) (end : ℕ) → e ≡ cut_to d end → end ≡ size_is → e ≡ pruned_to (cut_to a size_is) point
  log_settled e end is end_is =
      let ends = end_cut a size_is low high in
      let past : end_of (pruned_to (cut_to a size_is) point) ≤ size_is = let same = end_pruned (cut_to a size_is) point (omega (arith, ends, below)) in omega (arith, same, ends) in
      is ∙ ap (cut_to d) end_is ∙ ap (λ (l : Log). cut_to l size_is) log_before ∙ cut_to_past (pruned_to (cut_to a size_is) point) size_is past

-- ---- the first leaves of a list

module _ {D : Type 0} (s : Shape) (h : Hashing D) (w : IsLawful s) (all : List D) (n : ℕ) where
  pub first_nodes : (b : ℕ) → b ≤ n → n ≤ length all → take (size s b) (nodes s h (take n all)) ≡ take (size s b) (nodes s h all)
  first_nodes b le few =
      let front : b ≤ length (take n all) = omega (arith, length-take-le n all few, le) in
      sym (front_nodes s h (take n all) (drop n all) b w front) ∙ ap (λ (l : List D). take (size s b) (nodes s h l)) (take-append-drop n all)

  pub map_of_first : (spelling : D → List ℕ) (b : ℕ) (m : Map) → b ≤ n → n ≤ length all → IsMapOf s h spelling all b m → IsMapOf s h spelling (take n all) b m
  map_of_first spelling b m le few of = record {
    stored = of.stored;
    within = omega (arith, length-take-le n all few, le);
    pins = λ p bytes lt is. ap (λ (l : List D). slice_get (map spelling l) p) (first_nodes b le few) ∙ of.pins p bytes lt is;
    peaks = of.peaks;
  }

-- ---- why the last cut is refused

pub start_outside : {F T : Type 0} (r : Result T (Error F)) (e : JournalError) → IsErrAnd r (λ d. d ≡ from_journal e) → IsOfStart e → ((p : ℕ) → e ≡ journal.ItemPruned p → ⊥) → IfErr r IsOutside
start_outside (Ok x) e is of not = tt
start_outside (Err d) (journal.ItemPruned p) is of not = absurd (not p refl)
start_outside (Err d) journal.Volume is of not = subst IsOutside (sym is) tt
start_outside (Err d) journal.Memory is of not = subst IsOutside (sym is) tt
start_outside (Err d) (journal.ItemOutOfRange p) is of not = absurd (let bad = of in cc)
start_outside (Err d) journal.EmptyAppend is of not = absurd (let bad = of in cc)
start_outside (Err d) journal.SizeOverflow is of not = absurd (let bad = of in cc)
start_outside (Err d) (journal.Corruption p) is of not = absurd (let bad = of in cc)
start_outside (Err d) (journal.Tree t) is of not = absurd (let bad = of in cc)

-- ---- the tree beside the settled log

some_at : {F : Type 0} (b n : ℕ) → n ≡ b → n ≤ 2 ^ 62 → (stored : Option ℕ) → some_ok {F = F} (if nat_le n (2 ^ 62) then Ok n else Err (LocationOverflow n)) ≡ Ok stored → b ≡ unwrap_or stored 0
some_at {F = F} b n is few stored at =
    let here : some_ok {F = F} (if nat_le n (2 ^ 62) then Ok n else Err (LocationOverflow n)) ≡ Ok (Some n) = ap (λ (t : Bool). some_ok {F = F} (if t then Ok n else Err (LocationOverflow n))) (le-leb n (2 ^ 62) few) in
    sym is ∙ ap (λ (o : Option ℕ). unwrap_or o 0) (let same : Some n ≡ stored = cc in same)

abbrev pub read_ok : {F : Type 0} → Option ℕ → Result (Option ℕ) (Error F)
read_ok o = Ok o

pub same_ok : {F : Type 0} (a b : Option ℕ) → read_ok {F = F} a ≡ read_ok b → a ≡ b
same_ok a b is = cc

-- a boundary that a map stores is read back
pub stored_read : {F : Type 0} (m : Map) (stored : Option ℕ) (b : ℕ) → stored_in {F = F} m ≡ Ok stored → StoresBoundary m b → b ≤ 2 ^ 62 → b ≡ unwrap_or stored 0
stored_read {F = F} m stored b is (inl there) few =
    let back : from_be_bytes w64 (eight_bytes b) ≡ b = from_be_bytes-to_be_bytes_8 b (omega (arith, few)) in
    let long : length (eight_bytes b) ≡ 8 = refl in
    some_at {F = F} b (from_be_bytes w64 (eight_bytes b)) back (omega (arith, back, few)) stored (ap (stored_as {F = F}) (sym there) ∙ is)
stored_read {F = F} m stored b is (inr (none, zero)) few =
    zero ∙ ap (λ (o : Option ℕ). unwrap_or o 0) (same_ok {F = F} None stored (ap (stored_as {F = F}) (sym none) ∙ is))

-- where log and map stand for a list, the tree is pruned at the stored boundary
pub pruned_stored : (s : Shape) (boundary start end top complete pruned : ℕ) → Selects s boundary start end top complete pruned → start ≤ size s boundary → pruned ≡ boundary
pruned_stored s boundary start end top complete pruned selects low = let few = selects.is_least.least boundary low in omega (arith, few, selects.pruned_is)

reached_low : (s : Shape) (top end complete : ℕ) → complete ≤ leaves_reached s top end complete
reached_low s top end complete = by (has_orphan s top end complete)
  where
    by : (b : Bool) → complete ≤ (if b then complete + 1 else complete)
    by true = omega arith
    by false = omega arith

pub all_front : {D : Type 0} (P : D → Type 0) (xs ys : List D) → All P (xs ++ ys) → All P xs
all_front P xs ys all k d lt = subst P (get_or_append_left xs ys d k lt) (all k d (omega (arith, lt, length-append xs ys)))

pub ends_settled : (s : Shape) (log : Log) (complete boundary blob : ℕ) → boundary ≤ complete → log.start ≤ size s complete → size s complete ≤ end_of log → end_of (pruned_to (cut_to log (size s complete)) (blob_start blob (size s boundary))) ≡ size s complete
ends_settled s log complete boundary blob le low high =
    let down = blob_below blob (size s boundary) in
    let less = made_le s boundary complete le in
    let ends = end_cut log (size s complete) low high in
    end_pruned (cut_to log (size s complete)) (blob_start blob (size s boundary)) (omega (arith, ends, down, less)) ∙ ends

module _ {D : Type 0} (F : Type 0) (s : Shape) (h : Hashing D) (w : IsLawful s) (spelling : D → List ℕ) (admits : D → Type 0) (all : List D) (durable top : ℕ) (r : Prepared D) (log : Log) (ready : IsReady F s r) (long : length all ≤ 2 ^ 62)
    (stands : TreeStands s h spelling all durable top log r.read) (start : r.log.start ≡ log.start) (ends : r.log.end ≡ end_of log) where
  boundary_same : stands.boundary ≡ r.boundary
  boundary_same = stored_read {F = F} r.read ready.stored stands.boundary ready.stored_is stands.pins.stored (omega (arith, stands.pins.within, long)) ∙ sym ready.boundary_is

  pruned_same : r.pruned ≡ r.boundary
  pruned_same = pruned_stored s r.boundary r.log.start r.log.end ready.cap r.complete r.pruned ready.selects (omega (arith, start, stands.nodes.start_high, ap (size s) boundary_same))

  pub full_settled : (t : Full D) (image : Image) (blob : ℕ) → IsSeated s t image → t.tree ≡ r.tree → t.boundary ≡ r.pruned → image.map t.metadata ≡ r.read
      → image.log t.log.name ≡ pruned_to (cut_to log (size s r.complete)) (blob_start blob (size s r.boundary)) → AreDigests s h admits all → IsOf s h (take r.tree.leaves all) r.tree → IsFullOf s h spelling admits (take r.tree.leaves all) t image
  full_settled t image blob seated tree boundary maps settled digests of =
      let n = r.tree.leaves in
      let few : n ≤ length all = omega (arith, of.count, length-take n all) in
      let reach : r.complete ≤ n = omega (arith, reached_low s ready.cap r.log.end r.complete, ready.leaves) in
      let within : r.boundary ≤ r.complete = omega (arith, pruned_same, ready.selects.within) in
      let past = made_le s r.pruned r.complete ready.selects.within in
      let low : log.start ≤ size s r.complete = omega (arith, stands.nodes.start_high, ap (size s) boundary_same, ap (size s) pruned_same, past) in
      let high : size s r.complete ≤ end_of log = omega (arith, ends, ready.selects.most.fits) in
      let down = blob_below blob (size s r.boundary) in
      let below : blob_start blob (size s r.boundary) ≤ size s r.complete = omega (arith, down, ap (size s) pruned_same, past) in
      let b_is : t.tree.boundary ≡ r.complete = ap (λ (u : Tree D). u.boundary) tree ∙ ready.rested in
      let run = part_settled (map spelling (nodes s h all)) log (size s stands.boundary) (size s durable) (size s r.complete) (blob_start blob (size s r.boundary)) stands.nodes low high below in
      let list_is : take (size s r.complete) (map spelling (nodes s h all)) ≡ map spelling (take (size s t.tree.boundary) (nodes s h (take n all))) =
      take-map spelling (size s r.complete) (nodes s h all) ∙ ap (map spelling) (sym (first_nodes s h w all n r.complete reach few) ∙ ap (λ (k : ℕ). take (size s k) (nodes s h (take n all))) (sym b_is)) in
      let on = nodes_on s h (take n all) (drop n all) w in
      let whole : nodes s h all ≡ nodes s h (take n all) ++ on.0 = ap (nodes s h) (sym (take-append-drop n all)) ∙ on.1 in
      let at : stands.boundary ≡ t.boundary = boundary_same ∙ sym pruned_same ∙ sym boundary in
      let pinned = map_of_first s h w all n spelling stands.boundary r.read (omega (arith, boundary_same, within, reach)) few stands.pins in
      record {
        digests = all_front admits (nodes s h (take n all)) on.0 (subst (All admits) whole digests);
        tree = subst (λ (u : Tree D). IsOf s h (take n all) u) (sym tree) of;
        start_is = seated.start_is;
        end_is = seated.end_is;
        nodes = subst (λ (l : List (List ℕ)). IsRunOf l (image.log t.log.name)) list_is (subst (λ (l : Log). IsRunOf (take (size s r.complete) (map spelling (nodes s h all))) l) (sym settled) run);
        low = omega (arith, seated.start_is, ap (λ (l : Log). l.start) settled, down, stands.nodes.start_high, ap (size s) boundary_same, ap (size s) pruned_same, ap (size s) boundary);
        pins = subst (λ (m : Map). IsMapOf s h spelling (take n all) t.boundary m) (sym maps) (subst (λ (k : ℕ). IsMapOf s h spelling (take n all) k r.read) at pinned);
      }

-- the boundary that its map stores is the one that it has
pub only_stored : {D : Type 0} (F : Type 0) (s : Shape) (r : Prepared D) (few b : ℕ) → IsReady F s r → few ≤ 2 ^ 62 → b ≤ few → StoresBoundary r.read b → b ≡ r.boundary
only_stored F s r few b ready long le stored = stored_read {F = F} r.read ready.stored b ready.stored_is stored (omega (arith, le, long)) ∙ sym ready.boundary_is
