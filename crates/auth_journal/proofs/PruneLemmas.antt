-- A journal that begins later: it is synced, its log of items is cut in front and synced again, and then its tree is pruned.
use Rattle.std.proofs.Common.{◌≡◌, ◌≢◌, inl, inr, max, min, ℕ, ◌<◌, ◌≤◌, Bool, true, false, List, length, map, Ok, Err, ⊎_elim, refl, sym, ◌∙◌, ap, subst, arith}
use Rattle.std.proofs.lemmas.Bool.{cases_lt}
use Rattle.std.proofs.lemmas.List.{length-map}
use Rattle.std.specs.Prelude.{Result, OnOk, IsErrOf, ◌⊎◌}
use Rattle.std.specs.Result.{IsErrAnd}
use Rattle.volume_base.specs.Bounds.{IsPartOf}
use Rattle.volume_base.specs.Log.{Log, no_log, Advances, Stays, Vanishes, end_of, pruned_to}
use Rattle.volume_base.specs.Moments.{Image, LeftAt, NamesLeft, Now, Keeps, PairHas, PairKeeps, present}
use Rattle.volume_base.specs.Names.{Names, log_and_map, NamesCall}
use Rattle.volume_base.specs.Volume.{State, Map, PastStays, LogStays, LogMoves, LogCall, OnlyLeft, Changes}
use Rattle.volume_base.proofs.JoinLemmas.{Went, changes_joins}
use Rattle.volume_base.proofs.BoundLemmas.{part_wider, part_advances}
use Rattle.volume_base.proofs.CallLemmas.{log_call_then_stays}
use Rattle.volume_base.proofs.ImageLemmas.{with_log, with_log_here, with_log_other}
use Rattle.volume_base.proofs.NameLemmas.{names_move_log}
use Rattle.volume_base.proofs.TurnLemmas.{names_back, now_after, turned_after, keeps_none, keeps_joins, turns_weaker, steps_at_end, steps_weaker, steps_then}
use Rattle.journal_base.specs.Blobs.{blob_start}
use Rattle.journal_base.specs.Items.{Items, Spells, items_of}
use Rattle.journal_base.specs.View.{View, SameButBounds, IsDurable, IsHeld, at_bounds, log_of, prune_point}
use Rattle.journal_base.proofs.ItemLemmas.{spells_pruned}
use Rattle.tree_shape.specs.Hashing.{Hashing}
use Rattle.tree_shape.specs.Shape.{Shape, made}
use Rattle.tree_shape.proofs.NeededLemmas.{made_le}
use Rattle.tree_store.specs.Stored.{TreeStands, size}
use Rattle.merkle_full.specs.Flushing.{AllStand, IsSameTree}
use Rattle.merkle_full.specs.Full.{Full, Rests}
use Rattle.merkle_full.specs.Lists.{IsFullOf}
use Rattle.merkle_full.specs.Pruning.{StandsWhilePruned, KeepsPins, KeepsOthers, IsOfPrune, at_boundary}
use Rattle.merkle_full.proofs.FullLemmas.{full_later}
use Rattle.merkle_full.proofs.PruneLemmas.{blob_low}
use Rattle.tree_core.specs.Tree.{prune_answer}
use Rattle.tree_store.specs.Stores as tree_stores
use Rattle.tree_store.specs.declared.error.Error as tree_error
use Rattle.tree_store.specs.declared.error.Error.TheVariants as tree
use Rattle.auth_journal.specs.Durable.{IsFlushed, IsCut, IsPrunedTo, IsFromTree, IsTreeUnpruned, IsJournalUnpruned}
use Rattle.auth_journal.specs.Errors.{IsOutside}
use Rattle.auth_journal.specs.declared.error.Error.{Error}
use Rattle.auth_journal.specs.declared.error.Error.TheVariants as joined
use Rattle.auth_journal.specs.Joined.{Joined, IsJoinedOf, leaves_of}
use Rattle.auth_journal.specs.Standing.{Marks, all_synced, pruned_below, names_of, ImageStands, StepsStanding, ItemsGoFirst}
use Rattle.auth_journal.proofs.JoinedLemmas.{joined_later}
use Rattle.auth_journal.proofs.LeafLemmas.{length-leaves_of}
use Rattle.auth_journal.proofs.ReadingLemmas.{run_end}
use Rattle.auth_journal.proofs.StandingLemmas.{tree_beside, items_stand}

pub point_below : {Codec : Type 0} (view : View Codec) (loc : ℕ) (b : State) → prune_point view loc b ≤ loc
point_below view loc b = omega (arith, blob_low view.blob (min loc (end_of (log_of view b))))

-- the log of items is cut in front, and synced behind that
pub cut_call : {Codec : Type 0} (view next : View Codec) (least loc : ℕ) (a b d : State) → least ≡ loc → SameButBounds view next
    → LogCall view.name (Advances (prune_point view least a)) a b → LogCall next.name Stays b d → LogCall view.name (Advances (prune_point view loc a)) a d
cut_call view next least loc a b d is same ab bd =
    log_call_then_stays view.name (Advances (prune_point view loc a)) a b d
    (subst (λ (n : ℕ). LogCall view.name (Advances (prune_point view n a)) a b) is ab)
    (subst (λ (n : List ℕ). LogCall n Stays b d) (ap (λ v. v.name) same) bd)

module _ {D Codec Item : Type 0} (s : Shape) (h : Hashing D) (digest : D → List ℕ) (spelling : Item → List ℕ) (list : List Item) (j : Joined D Codec) (apart : j.items.name ≡ j.tree.log.name → ⊥) where
  abbrev names : Names
  names = names_of j

  abbrev Left : State → ℕ → Image → Type 0
  Left = NamesLeft names

  abbrev Stands : Marks → Image → Type 0
  Stands marks = ImageStands s h digest spelling list marks j

  abbrev leaves : List D
  leaves = leaves_of s h spelling list

  -- a boundary that is none too great stays so
  stands_wider : (durable top wide : ℕ) (log : Log) (m : Map) → top ≤ wide → TreeStands s h digest leaves durable top log m → TreeStands s h digest leaves durable wide log m
  stands_wider durable top wide log m le stands = record { boundary = stands.boundary; high = omega (arith, le, stands.high); pins = stands.pins; nodes = stands.nodes }

  pub image_below : (loc : ℕ) (marks : Marks) (image : Image) → Stands marks image → Stands (pruned_below loc marks) image
  image_below loc marks image stands =
      let log = image.log j.items.name in
      record {
        items = part_wider (map spelling list) marks.prune (max marks.prune loc) marks.durable marks.durable log (omega arith) (omega arith) stands.items;
        tree = stands.tree;
      }

  -- the log of items loses items in front, none from the location on
  pub items_advance : (marks : Marks) (point loc : ℕ) (a b : State) → point ≤ loc → LogMoves j.items.name (Advances point) a b → Now Left (Stands (pruned_below loc marks)) a → Keeps Left (Stands (pruned_below loc marks)) a b
  items_advance marks point loc a b le moves has =
      names_move_log names j.items.name (Stands (pruned_below loc marks)) (Stands (pruned_below loc marks)) a b (Advances point) (inl refl) moves has goes
    where
      goes : (image : Image) (was : Log) → Stands (pruned_below loc marks) (with_log j.items.name was image) → Advances point was (image.log j.items.name) → Stands (pruned_below loc marks) image
      goes image was stands step =
          let log = image.log j.items.name in
          let before = with_log j.items.name was image in
          let here : before.log j.items.name ≡ was = with_log_here j.items.name was image in
          let there : before.log j.tree.log.name ≡ image.log j.tree.log.name = with_log_other j.items.name j.tree.log.name was image apart in
          let top = max marks.prune loc in
          let part = subst (λ (l : Log). IsPartOf (map spelling list) top marks.durable l) here stands.items in
          let tree = subst (λ (l : Log). TreeStands s h digest leaves marks.node_durable was.start l (image.map j.tree.metadata)) there
          (subst (λ (l : Log). TreeStands s h digest leaves marks.node_durable l.start (before.log j.tree.log.name) (image.map j.tree.metadata)) here stands.tree) in
          let starts : log.start ≡ max was.start step.0 = ap (λ (l : Log). l.start) step.3 in
          record {
            items = part_wider (map spelling list) (max top point) top marks.durable marks.durable log (omega (arith, le)) (omega arith) (part_advances (map spelling list) was log top marks.durable point step part);
            tree = stands_wider marks.node_durable was.start log.start (image.log j.tree.log.name) (image.map j.tree.metadata) (omega (arith, starts)) tree;
          }

  -- the tree, whose nodes are durable, is pruned to where the log of items begins durably
  pub tree_advances : (marks : Marks) (start : ℕ) (a b : State) → PastStays a b → LogStays j.items.name a b → LeftAt a a.clock (present a)
      → ((log : Log) → a.log_left a.clock j.items.name log → log.start ≡ start) → marks.node_durable ≡ length list
      → ((top : ℕ) → AllStand s h digest leaves (length list) top j.tree a → StandsWhilePruned s h digest leaves (length list) top start j.tree a b)
      → Now Left (Stands marks) a → Keeps Left (Stands marks) a b
  tree_advances marks start a b past stays now only durable prunes has = record {
    past = past;
    during = λ t image lo hi at.
        let log = image.log j.items.name in
        let nodes = image.log j.tree.log.name in
        let m = image.map j.tree.metadata in
        let was = (stays t log lo hi).0 at.logs.0 in
        let begins : log.start ≡ start = only log was in
        let beside = subst (λ (n : ℕ). AllStand s h digest leaves n log.start j.tree a) durable (tree_beside s h digest spelling list j apart marks a log was has) in
        let tree = either log nodes m begins ((prunes log.start beside).during t nodes m lo hi at.logs.1.0 at.maps.0) in
        record {
          items = items_stand s h digest spelling list j apart marks a log now was has;
          tree = subst (λ (n : ℕ). TreeStands s h digest leaves n log.start nodes m) (sym durable) tree;
        };
  }
    where
      either : (log nodes : Log) (m : Map) → log.start ≡ start
          → TreeStands s h digest leaves (length list) log.start nodes m ⊎ TreeStands s h digest leaves (length leaves) (max log.start start) nodes m
          → TreeStands s h digest leaves (length list) log.start nodes m
      either log nodes m begins (inl stands) = stands
      either log nodes m begins (inr stands) =
          stands_wider (length list) (max log.start start) log.start nodes m (omega (arith, begins))
          (subst (λ (n : ℕ). TreeStands s h digest leaves n (max log.start start) nodes m) (length-leaves_of s h spelling list) stands)

  -- what comes behind the sync keeps what it has made durable
  pub images_pruned : {S T F : Type 0} (E : Type 0) (marks : Marks) (loc : ℕ) (a b d : State) (synced : S) (result : Result T F)
      → StepsStanding {E = E} s h digest spelling list marks (all_synced (length list) marks) j a b (Ok synced)
      → (Now Left (Stands (pruned_below loc (all_synced (length list) marks))) b → Keeps Left (Stands (pruned_below loc (all_synced (length list) marks))) b d)
      → StepsStanding s h digest spelling list marks (pruned_below loc (all_synced (length list) marks)) j a d result
  images_pruned {S = S} E marks loc a b d synced result steps keeps has =
      let after = pruned_below loc (all_synced (length list) marks) in
      let answer : Result S E = Ok synced in
      let turned = steps_weaker Left (Stands marks) (Stands marks) (Stands (all_synced (length list) marks)) (Stands after) a b answer (λ image stands. stands) (image_below loc (all_synced (length list) marks)) (steps has) in
      steps_then Left (names_back names) (Stands marks) (Stands after) a b d synced result turned
      (keeps (turned_after Left (Stands marks) (Stands after) a b turned.ok))

  -- the sync has failed
  pub images_failed : {S T E F : Type 0} (marks : Marks) (loc : ℕ) (a b : State) (below : Result S E) (result : Result T F) (P : F → Type 0) → IsErrAnd result P → OnOk below ⊥
      → StepsStanding s h digest spelling list marks (all_synced (length list) marks) j a b below → StepsStanding s h digest spelling list marks (pruned_below loc (all_synced (length list) marks)) j a b result
  images_failed marks loc a b (Ok x) result P is fails steps has = absurd fails
  images_failed marks loc a b (Err e) (Ok y) P is fails steps has = absurd is
  images_failed marks loc a b (Err e) (Err d) P is fails steps has =
      let did = steps has in
      let after = pruned_below loc (all_synced (length list) marks) in
      record {
        past = did.past;
        ok = tt;
        err = ⊎_elim (λ kept. inl kept) (λ turns. inr (turns_weaker (Left b) a.clock b.clock (Stands marks) (Stands marks) (Stands (all_synced (length list) marks)) (Stands after) (λ image stands. stands) (image_below loc (all_synced (length list) marks)) turns)) did.err;
      }

  -- of no items none is to be made durable
  pub images_empty : {T E : Type 0} (marks : Marks) (loc : ℕ) (a : State) (made : T) → length list ≡ 0 → StepsStanding {T = T} {E = E} s h digest spelling list marks (pruned_below loc (all_synced (length list) marks)) j a a (Ok made)
  images_empty {T = T} {E = E} marks loc a made none has =
      let after = pruned_below loc (all_synced (length list) marks) in
      let result : Result T E = Ok made in
      steps_at_end Left (Stands marks) (Stands after) a a result (keeps_none Left (Stands marks) a has) (λ image at. empty image (has image at))
    where
      empty : (image : Image) → Stands marks image → Stands (pruned_below loc (all_synced (length list) marks)) image
      empty image stands =
          let log = image.log j.items.name in
          let nodes = image.log j.tree.log.name in
          let tree = stands.tree in
          record {
            items = part_wider (map spelling list) marks.prune (max marks.prune loc) marks.durable (length list) log (omega arith) (omega (arith, none)) stands.items;
            tree = record {
              boundary = tree.boundary;
              high = tree.high;
              pins = tree.pins;
              nodes = part_wider _ (size s tree.boundary) (size s tree.boundary) (size s marks.node_durable) (size s (length list)) nodes (omega arith) (made_le s (length list) marks.node_durable (omega (arith, none))) tree.nodes;
            };
          }

-- ---- answers

-- why a tree isn't pruned
pub why_unpruned : {F D T : Type 0} (s : Shape) (tells : Type 0) (t : Full D) (items : Items D) (place : ℕ) (e : tree_error.Error F)
    → (t.log.failed ≡ true → IsErrOf {T = T} (Err e) tree.Volume) → (t.log.failed ≡ false → (d : tree_error.Error F) → prune_answer t.tree.leaves place ≡ Err d → IsErrOf {T = T} (Err e) d)
    → (prune_answer {F = F} t.tree.leaves place ≡ Ok tt → IsOfPrune s tells t items place e) → IsTreeUnpruned s tells t items place e
why_unpruned {F} s tells t items place e kept refused errors = by_answer (prune_answer t.tree.leaves place) refl
  where
    by_failed : (b : Bool) → t.log.failed ≡ b → (d : tree_error.Error F) → prune_answer t.tree.leaves place ≡ Err d → IsTreeUnpruned s tells t items place e
    by_failed true is d answer = let volume : tree.Volume ≡ e = (let same = kept is in cc) in inr (inl (inl (subst tree_stores.IsOutside volume tt)))
    by_failed false is d answer = let same : d ≡ e = (let both = refused is d answer in cc) in inl (answer ∙ ap Err same)

    by_answer : (answer : Result (Unit {0}) (tree_error.Error F)) → prune_answer t.tree.leaves place ≡ answer → IsTreeUnpruned s tells t items place e
    by_answer (Ok u) is = inr (errors is)
    by_answer (Err d) is = by_failed t.log.failed refl d is

-- the outside's failure is one of the tree
pub outside_from_tree : {F : Type 0} (P : tree_error.Error F → Type 0) (e : Error F) → IsOutside e → P tree.Volume → P tree.Memory → IsFromTree P e
outside_from_tree P joined.Volume o volume memory = (tree.Volume, refl, volume)
outside_from_tree P joined.Memory o volume memory = (tree.Memory, refl, memory)
outside_from_tree P (joined.Journal d) o volume memory = absurd o
outside_from_tree P (joined.Merkle d) o volume memory = absurd o

-- calls that write and may read were done, and so is the last
pub changes_done : {S T D E : Type 0} (tells : Type 0) (last : D) (fault : E) (a b c : State) (two : S) (made : T) → Went tells a b → Changes tells last b c (Ok two) → Changes tells fault a c (Ok made)
changes_done {S = S} {T = T} {D = D} {E = E} tells last fault a b c two made ab bc = changes_joins tells last fault a b c first second ab bc (λ is. absurd (never made fault is)) bc.kept
  where
    first : Result S D
    first = Ok two

    second : Result T E
    second = Ok made

    never : {T E : Type 0} (made : T) (fault : E) → IsErrOf (Ok made) fault → ⊥
    never made fault is = cc

-- ---- the journal as it is synced, as its log is cut in front, and as its tree is pruned

pub not_failed : (b : Bool) → (b ≡ true → ⊥) → b ≡ false
not_failed true never = absurd (never refl)
not_failed false never = refl

pub same_made : {T E : Type 0} (x y : T) (result : Result T E) → result ≡ Ok x → result ≡ Ok y → x ≡ y
same_made x y result one two = cc

module _ {D : Type 0} (t u : Full D) (loc : ℕ) (stays : loc ≤ t.boundary → u ≡ t) where
  -- the tree is pruned there, where it wasn't pruned past that
  pub pruned_same : (t.boundary < loc → IsSameTree (at_boundary t loc) u) → IsSameTree (at_boundary t (max t.boundary loc)) u
  pruned_same moves = elim (cases_lt t.boundary loc) [
    | inl above ↦ (let e : loc ≡ max t.boundary loc = omega (arith, above) in subst (λ (n : ℕ). IsSameTree (at_boundary t n) u) e (moves above))
    | inr below ↦ (let e : t.boundary ≡ max t.boundary loc = omega (arith, below) in
        subst (λ (n : ℕ). IsSameTree (at_boundary t n) u) e (subst (λ (v : Full D). IsSameTree (at_boundary t t.boundary) v) (sym (stays below)) (record { leaves = refl; boundary = refl; log = refl; metadata = refl })))
  ]

  pub pruned_rests : (s : Shape) → (t.boundary < loc → Rests s u) → Rests s t → Rests s u
  pruned_rests s moves rests = elim (cases_lt t.boundary loc) [
    | inl above ↦ moves above
    | inr below ↦ subst (λ (v : Full D). Rests s v) (sym (stays below)) rests
  ]

module _ {D Codec : Type 0} (j k l m : Joined D Codec) (flushed : IsFlushed j k) (cut : IsCut k l) where
  items_is : k.items.name ≡ j.items.name
  items_is = ap (λ v. v.name) flushed.items

  cut_is : l.items.name ≡ j.items.name
  cut_is = ap (λ v. v.name) cut.items ∙ items_is

  nodes_is : l.tree.log.name ≡ j.tree.log.name
  nodes_is = ap (λ (t : Full D). t.log.name) cut.tree ∙ ap (λ v. v.name) flushed.tree.log

  pins_is : l.tree.metadata ≡ j.tree.metadata
  pins_is = ap (λ (t : Full D). t.metadata) cut.tree ∙ flushed.tree.metadata

  pub apart_of : k.items.name ≢ k.tree.log.name → j.items.name ≢ j.tree.log.name
  apart_of apart is = apart (items_is ∙ is ∙ sym (ap (λ v. v.name) flushed.tree.log))

  pub items_call : (step : Log → Log → Type 0) (b c : State) → LogCall k.items.name step b c → LogCall j.items.name step b c
  items_call step b c call = subst (λ (n : List ℕ). LogCall n step b c) items_is call

  pub tree_call : (c d : State) → NamesCall (log_and_map l.tree.log.name l.tree.metadata) c d → NamesCall (log_and_map j.tree.log.name j.tree.metadata) c d
  tree_call c d call = subst (λ (n : List ℕ). NamesCall (log_and_map n j.tree.metadata) c d) nodes_is (subst (λ (n : List ℕ). NamesCall (log_and_map l.tree.log.name n) c d) pins_is call)

  pub held_pruned : (c d : State) → k.items.name ≢ k.tree.log.name → IsHeld l.items c → m.items ≡ l.items → NamesCall (log_and_map l.tree.log.name l.tree.metadata) c d → IsHeld m.items d
  held_pruned c d apart held items call =
      let off : l.items.name ≢ l.tree.log.name = λ e. apart (sym (ap (λ v. v.name) cut.items) ∙ e ∙ ap (λ (t : Full D). t.log.name) cut.tree) in
      let same = call.others.logs l.items.name (off, tt) in
      subst (λ v. IsHeld v d) (sym items) (record { start_is = held.start_is ∙ sym (ap (λ (g : Log). g.start) same); end_is = held.end_is ∙ sym (ap end_of same) })

  pub pruned_moved : IsPrunedTo l m → IsPrunedTo j m
  pruned_moved moved = record {
    items = moved.items ∙ ap (λ v. at_bounds v m.items.start m.items.end) (cut.items ∙ ap (λ v. at_bounds v l.items.start l.items.end) flushed.items);
    tree = record {
      leaves = moved.tree.leaves ∙ ap (λ (t : Full D). t.tree.leaves) cut.tree ∙ flushed.tree.leaves;
      boundary = moved.tree.boundary ∙ ap (λ (b : ℕ). max b m.items.start) (ap (λ (t : Full D). t.boundary) cut.tree ∙ flushed.tree.boundary);
      log = moved.tree.log ∙ ap (λ v. at_bounds v m.tree.log.start m.tree.log.end) (ap (λ (t : Full D). t.log) cut.tree ∙ flushed.tree.log);
      metadata = moved.tree.metadata ∙ pins_is;
    };
    bagging = moved.bagging ∙ cut.bagging ∙ flushed.bagging;
    failed = moved.failed ∙ cut.failed ∙ flushed.failed;
  }

  logs_are : l.tree.log ≡ at_bounds j.tree.log k.tree.log.start k.tree.log.end
  logs_are = ap (λ (t : Full D). t.log) cut.tree ∙ flushed.tree.log

  -- the node log begins later too
  pub nodes_pruned : (s : Shape) → k.tree.log.start ≡ j.tree.log.start → m.items ≡ l.items
      → (l.tree.boundary < l.items.start → m.tree.log.start ≡ max l.tree.log.start (blob_start l.tree.log.blob (length (made s l.items.start))))
      → j.tree.boundary < m.items.start → m.tree.log.start ≡ max j.tree.log.start (blob_start j.tree.log.blob (length (made s m.items.start)))
  nodes_pruned s same items moves above =
      let begins : l.items.start ≡ m.items.start = ap (λ v. v.start) (sym items) in
      let boundary : l.tree.boundary ≡ j.tree.boundary = ap (λ (t : Full D). t.boundary) cut.tree ∙ flushed.tree.boundary in
      let starts : l.tree.log.start ≡ j.tree.log.start = ap (λ (t : Full D). t.log.start) cut.tree ∙ same in
      let blobs : l.tree.log.blob ≡ j.tree.log.blob = ap (λ v. v.blob) logs_are in
      moves (omega (arith, above, begins, boundary))
      ∙ ap (λ n. max n (blob_start l.tree.log.blob (length (made s l.items.start)))) starts
      ∙ ap (λ n. max j.tree.log.start (blob_start n (length (made s l.items.start)))) blobs
      ∙ ap (λ n. max j.tree.log.start (blob_start j.tree.log.blob (length (made s n)))) begins

  -- or where it did
  pub nodes_stay : k.tree.log.start ≡ j.tree.log.start → m.items ≡ l.items → (l.items.start ≤ l.tree.boundary → m.tree ≡ l.tree) → m.items.start ≤ j.tree.boundary → m.tree.log.start ≡ j.tree.log.start
  nodes_stay same items stays low =
      let begins : l.items.start ≡ m.items.start = ap (λ v. v.start) (sym items) in
      let boundary : l.tree.boundary ≡ j.tree.boundary = ap (λ (t : Full D). t.boundary) cut.tree ∙ flushed.tree.boundary in
      ap (λ (t : Full D). t.log.start) (stays (omega (arith, low, begins, boundary))) ∙ ap (λ (t : Full D). t.log.start) cut.tree ∙ same

  -- whether it was replaced
  pub map_low : m.items ≡ l.items → m.items.start ≤ j.tree.boundary → l.items.start ≤ l.tree.boundary
  map_low items low =
      let begins : l.items.start ≡ m.items.start = ap (λ v. v.start) (sym items) in
      let boundary : l.tree.boundary ≡ j.tree.boundary = ap (λ (t : Full D). t.boundary) cut.tree ∙ flushed.tree.boundary in
      omega (arith, low, begins, boundary)

  -- no pin is lost
  pub pins_pruned : (a c d : State) → c.map j.tree.metadata ≡ a.map j.tree.metadata → KeepsPins (c.map l.tree.metadata) (d.map l.tree.metadata) → KeepsPins (a.map j.tree.metadata) (d.map j.tree.metadata)
  pins_pruned a c d same keeps =
      subst (λ (m : Map). KeepsPins m (d.map j.tree.metadata)) same (subst (λ (n : List ℕ). KeepsPins (c.map n) (d.map n)) pins_is keeps)

  -- and of other keys nothing changes
  pub others_pruned : (ps qs : List ℕ) (a c d : State) → ps ≡ qs → c.map j.tree.metadata ≡ a.map j.tree.metadata → KeepsOthers ps (c.map l.tree.metadata) (d.map l.tree.metadata) → KeepsOthers qs (a.map j.tree.metadata) (d.map j.tree.metadata)
  others_pruned ps qs a c d at same keeps =
      subst (λ (xs : List ℕ). KeepsOthers xs (a.map j.tree.metadata) (d.map j.tree.metadata)) at
      (subst (λ (had : Map). KeepsOthers ps had (d.map j.tree.metadata)) same (subst (λ (n : List ℕ). KeepsOthers ps (c.map n) (d.map n)) pins_is keeps))

  -- the tree isn't pruned to where the log begins then
  pub unpruned_tree : {F : Type 0} (s : Shape) (tells : Type 0) (digest : D → List ℕ) (admits : Unit {0} → D → Type 0) (c d : State) → k.items.name ≢ k.tree.log.name → (tells → IsHeld l.items c)
      → (tells → NamesCall (log_and_map l.tree.log.name l.tree.metadata) c d) → (error : Error F)
      → IsFromTree (IsTreeUnpruned s tells l.tree (items_of digest admits l.tree.log d) l.items.start) error
      → IsFromTree (IsJournalUnpruned s tells j.tree (items_of digest admits j.tree.log d) (log_of j.items d).start) error
  unpruned_tree s tells digest admits c d apart held names error why =
      let same : IsSameTree j.tree l.tree = subst (λ (t : Full D). IsSameTree j.tree t) (sym cut.tree) flushed.tree in
      let begins : tells → l.items.start ≡ (log_of j.items d).start = λ told.
      (let over : d.log j.items.name ≡ c.log j.items.name = (tree_call c d (names told)).others.logs j.items.name (apart_of apart, tt) in
      (held told).start_is ∙ ap (λ (g : Log). g.start) (ap c.log cut_is ∙ sym over)) in
      (why.0, why.1, inr (l.tree, same, (l.items.start, begins, subst (λ items. IsTreeUnpruned s tells l.tree items l.items.start why.0) (ap (λ v. items_of digest admits v d) logs_are) why.2)))

  module _ {Item : Type 0} (s : Shape) (h : Hashing D) (digest : D → List ℕ) (admits : D → Type 0) (spelling : Item → List ℕ) (list : List Item) (loc : ℕ) (b c d : State)
      (was : IsJoinedOf s h digest admits spelling list k (present b)) (put : log_of k.items c ≡ pruned_to (log_of k.items b) (prune_point k.items loc b)) (call : LogCall k.items.name (Advances (prune_point k.items loc b)) b c) (held : IsHeld l.items c) (apart : k.items.name ≢ k.tree.log.name) where
    point_low : prune_point k.items loc b ≤ length list
    point_low =
        let ends = run_end spelling list (log_of k.items b) was.items in
        omega (arith, ends, blob_low k.items.blob (min loc (end_of (log_of k.items b))))

    run : Spells spelling list (c.log l.items.name)
    run = subst (λ (n : List ℕ). Spells spelling list (c.log n)) (sym (ap (λ v. v.name) cut.items))
        (subst (λ (g : Log). Spells spelling list g) (sym put) (spells_pruned spelling list (log_of k.items b) (prune_point k.items loc b) point_low was.items))

    pub cut_full : IsFullOf s h digest admits (leaves_of s h spelling list) l.tree (present c)
    cut_full = subst (λ (t : Full D). IsFullOf s h digest admits (leaves_of s h spelling list) t (present c)) (sym cut.tree)
        (full_later s h digest admits (leaves_of s h spelling list) k.tree (present b) (present c) (call.others.logs k.tree.log.name (λ e. apart (sym e))) (call.others.maps k.tree.metadata) was.tree)

    pub cut_start : l.items.start ≤ l.tree.tree.leaves
    cut_start = omega (arith, held.start_is, run.within, length-map list spelling, cut_full.tree.count, length-leaves_of s h spelling list)

    pub joined_pruned : m.items ≡ l.items → NamesCall (log_and_map l.tree.log.name l.tree.metadata) c d → IsFullOf s h digest admits (leaves_of s h spelling list) m.tree (present d) → IsJoinedOf s h digest admits spelling list m (present d)
    joined_pruned items names full =
        let here : IsJoinedOf s h digest admits spelling list l (present c) = record { items = run; start_is = held.start_is; end_is = held.end_is; tree = cut_full } in
        let off : l.items.name ≢ l.tree.log.name = λ e. apart (sym (ap (λ v. v.name) cut.items) ∙ e ∙ ap (λ (t : Full D). t.log.name) cut.tree) in
        joined_later s h digest admits spelling list l m (present c) (present d) here items (names.others.logs l.items.name (off, tt)) full

    -- from the sync on all that it has made durable stands
    pub keeps_behind : (off : j.items.name ≢ j.tree.log.name) (marks : Marks) → LeftAt c c.clock (present c) → IsDurable k.items c → NamesCall (log_and_map l.tree.log.name l.tree.metadata) c d
        → ((top : ℕ) → AllStand s h digest (leaves_of s h spelling list) (length list) top l.tree c → StandsWhilePruned s h digest (leaves_of s h spelling list) (length list) top l.items.start l.tree c d)
        → Now (NamesLeft (names_of j)) (ImageStands s h digest spelling list (pruned_below loc (all_synced (length list) marks)) j) b
        → Keeps (NamesLeft (names_of j)) (ImageStands s h digest spelling list (pruned_below loc (all_synced (length list) marks)) j) b d
    keeps_behind off marks now only names prunes has =
        let after = pruned_below loc (all_synced (length list) marks) in
        let P : Image → Type 0 = ImageStands s h digest spelling list after j in
        let all = leaves_of s h spelling list in
        let bc = items_advance s h digest spelling list j off (all_synced (length list) marks) (prune_point k.items loc b) loc b c (point_below k.items loc b) (items_call (Advances (prune_point k.items loc b)) b c call).images has in
        let tree = tree_call c d names in
        let begins : (log : Log) → c.log_left c.clock j.items.name log → log.start ≡ l.items.start = λ log at.
        ap (λ (g : Log). g.start) (only log (subst (λ (n : List ℕ). c.log_left c.clock n log) (sym items_is) at) ∙ ap c.log (sym (ap (λ v. v.name) cut.items))) ∙ sym held.start_is in
        let goes : (top : ℕ) → AllStand s h digest all (length list) top j.tree c → StandsWhilePruned s h digest all (length list) top l.items.start j.tree c d = λ top stand.
        (let T : Log → Map → Type 0 = TreeStands s h digest all (length list) top in
        let Q : Log → Map → Type 0 = λ log m. T log m ⊎ TreeStands s h digest all (length all) (max top l.items.start) log m in
        subst (λ (n : List ℕ). PairKeeps n j.tree.metadata Q c d) nodes_is (subst (λ (n : List ℕ). PairKeeps l.tree.log.name n Q c d) pins_is
        (prunes top (subst (λ (n : List ℕ). PairHas c n l.tree.metadata T) (sym nodes_is) (subst (λ (n : List ℕ). PairHas c j.tree.log.name n T) (sym pins_is) stand))))) in
        keeps_joins (NamesLeft (names_of j)) (names_back (names_of j)) P b c d bc
        (tree_advances s h digest spelling list j off after l.items.start c d tree.images.past (tree.images.logs j.items.name (off, tt)) now begins refl goes (now_after (NamesLeft (names_of j)) P b c bc))

-- the log of items goes, and then the tree
module _ {D Codec : Type 0} (j : Joined D Codec) (apart : j.items.name ≡ j.tree.log.name → ⊥) (a : State) where
  abbrev Goes : Image → Type 0
  Goes image = (a.log_left a.clock j.tree.log.name (image.log j.tree.log.name) × a.map_left a.clock j.tree.metadata (image.map j.tree.metadata)) ⊎ (image.log j.items.name ≡ no_log)

  pub items_go : (b : State) → LogMoves j.items.name Vanishes a b → ItemsGoFirst j a b
  items_go b moves = record {
    past = moves.past;
    during = λ t image lo hi at. inl ((moves.logs t j.tree.log.name (image.log j.tree.log.name) lo hi (λ e. apart (sym e))).0 at.logs.1.0, (moves.maps t j.tree.metadata (image.map j.tree.metadata) lo hi).0 at.maps.0);
  }

  pub tree_goes : (b c : State) → LogMoves j.items.name Vanishes a b → OnlyLeft (b.log_left b.clock j.items.name) no_log → NamesCall (log_and_map j.tree.log.name j.tree.metadata) b c → ItemsGoFirst j a c
  tree_goes b c moves only call =
      keeps_joins (NamesLeft (names_of j)) (names_back (names_of j)) Goes a b c (items_go b moves) (record {
        past = call.images.past;
        during = λ t image lo hi at. inr (only (image.log j.items.name) ((call.images.logs j.items.name (apart, tt) t (image.log j.items.name) lo hi).0 at.logs.0));
      })
