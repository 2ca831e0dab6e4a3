-- What a crash leaves of a journal that was opened: all of it is durable.
use Rattle.std.proofs.Common.{◌≡◌, ℕ, ◌≤◌, List, ◌++◌, length, map, take, drop, sym, ◌∙◌, ap, subst, arith}
use Rattle.std.specs.Prelude.{slice_get}
use Rattle.std.proofs.lemmas.List.{take_all, take-append-le, length-map, length-take, take-append-drop}
use Rattle.volume_base.specs.Log.{Log}
use Rattle.volume_base.specs.Moments.{NamesLeft, Now, present}
use Rattle.volume_base.specs.Volume.{State, Map}
use Rattle.volume_base.proofs.BoundLemmas.{part_of_run, part_wider}
use Rattle.journal_base.specs.Items.{Spells}
use Rattle.journal_base.specs.View.{IsDurable}
use Rattle.tree_shape.specs.Hashing.{Hashing}
use Rattle.tree_shape.specs.Shape.{Shape, made, IsLawful}
use Rattle.tree_shape.specs.Slow.{node_of, nodes}
use Rattle.tree_store.specs.Stored.{size, IsMapOf, TreeStands}
use Rattle.tree_store.proofs.StoredLemmas.{front_nodes}
use Rattle.merkle_full.specs.Full.{Rests}
use Rattle.auth_journal.specs.Joined.{Joined, IsJoinedOf, leaves_of}
use Rattle.auth_journal.specs.Standing.{Marks, all_synced, names_of, ImageStands, NamesSettle}
use Rattle.auth_journal.proofs.LeafLemmas.{length-leaves_of}
use Rattle.auth_journal.proofs.OpeningLemmas.{leaves_take}
use Rattle.auth_journal.proofs.ReadingLemmas.{run_end}

-- ---- a node log and a map stand for a list's front, where no more is stored of them

length-nodes : {D : Type 0} (s : Shape) (h : Hashing D) (all : List D) → length (nodes s h all) ≡ size s (length all)
length-nodes s h all = length-map (made s (length all)) (node_of s h all)

front_map : {D : Type 0} (s : Shape) (h : Hashing D) (spelling : D → List ℕ) (all : List D) (end b : ℕ) (m : Map) → IsLawful s → b ≤ end → end ≤ length all
    → IsMapOf s h spelling all b m → IsMapOf s h spelling (take end all) b m
front_map {D = D} s h spelling all end b m w low high of =
    let cuts = length-take end all in
    let few : b ≤ length (take end all) = omega (arith, cuts, low, high) in
    let whole : take (size s b) (nodes s h (take end all ++ drop end all)) ≡ take (size s b) (nodes s h (take end all)) = front_nodes s h (take end all) (drop end all) b w few in
    let same : take (size s b) (nodes s h all) ≡ take (size s b) (nodes s h (take end all)) =
    subst (λ (l : List D). take (size s b) (nodes s h l) ≡ take (size s b) (nodes s h (take end all))) (take-append-drop end all) whole in
    record {
      stored = of.stored;
      within = few;
      pins = λ p bytes lt is. ap (λ (l : List D). slice_get (map spelling l) p) (sym same) ∙ of.pins p bytes lt is;
      peaks = of.peaks;
    }

nodes_settled : {D : Type 0} (s : Shape) (h : Hashing D) (spelling : D → List ℕ) (all : List D) (end durable top : ℕ) (log : Log) (m : Map) → IsLawful s → top ≤ end → end ≤ length all
    → Spells spelling (nodes s h (take end all)) log → TreeStands s h spelling all durable top log m → TreeStands s h spelling (take end all) end top log m
nodes_settled s h spelling all end durable top log m w low high run stands =
    let front = nodes s h (take end all) in
    let cuts : length (take end all) ≡ end = let cut = length-take end all in omega (arith, cut, high) in
    let long : length (map spelling front) ≡ size s end = length-map front spelling ∙ length-nodes s h (take end all) ∙ ap (size s) cuts in
    record {
      boundary = stands.boundary;
      high = stands.high;
      pins = front_map s h spelling all end stands.boundary m w (omega (arith, stands.high, low)) high stands.pins;
      nodes = part_wider (map spelling front) log.start (size s stands.boundary) (length (map spelling front)) (size s end) log stands.nodes.start_high (omega (arith, long)) (part_of_run (map spelling front) log run);
    }

-- ---- an opened journal

list_settled : {D Codec Item : Type 0} (s : Shape) (h : Hashing D) (digest : D → List ℕ) (admits : D → Type 0) (spelling : Item → List ℕ) (list : List Item) (marks : Marks) (j : Joined D Codec) (state : State)
    → IsLawful s → Rests s j.tree → j.tree.tree.leaves ≡ j.items.end → IsJoinedOf s h digest admits spelling (take j.items.end list) j (present state)
    → IsDurable j.items state → IsDurable j.tree.log state
    → Now (NamesLeft (names_of j)) (ImageStands s h digest spelling list marks j) state
    → Now (NamesLeft (names_of j)) (ImageStands s h digest spelling (take j.items.end list) (all_synced j.items.end marks) j) state
list_settled {D = D} s h digest admits spelling list marks j state w rests whole joined items_only nodes_only has image at =
    let end = j.items.end in
    let front = take end list in
    let was = has image at in
    let log = image.log j.items.name in
    let cuts : length front ≡ end = sym (joined.end_is ∙ run_end spelling front (state.log j.items.name) joined.items) in
    let few : end ≤ length list = let cut = length-take end list in omega (arith, cut, cuts) in
    let spelled : length (map spelling front) ≡ end = length-map front spelling ∙ cuts in
    let run : Spells spelling front log = subst (λ (l : Log). Spells spelling front l) (sym (items_only log at.logs.0)) joined.items in
    let all = leaves_of s h spelling list in
    let long : end ≤ length all = omega (arith, few, length-leaves_of s h spelling list) in
    let taken : take end all ≡ leaves_of s h spelling front = leaves_take s h spelling end list in
    let reached : j.tree.tree.boundary ≡ end = rests.boundary ∙ whole in
    let made : length (nodes s h (leaves_of s h spelling front)) ≡ size s end = length-nodes s h (leaves_of s h spelling front) ∙ ap (size s) (length-leaves_of s h spelling front ∙ cuts) in
    let all_nodes : take (size s j.tree.tree.boundary) (nodes s h (leaves_of s h spelling front)) ≡ nodes s h (take end all) =
    ap (λ n. take (size s n) (nodes s h (leaves_of s h spelling front))) reached
    ∙ take_all (size s end) (nodes s h (leaves_of s h spelling front)) (omega (arith, made)) ∙ ap (nodes s h) (sym taken) in
    let node_run : Spells digest (nodes s h (take end all)) (image.log j.tree.log.name) =
    subst (λ (l : Log). Spells digest (nodes s h (take end all)) l) (sym (nodes_only (image.log j.tree.log.name) at.logs.1.0))
    (subst (λ (ns : List D). Spells digest ns (state.log j.tree.log.name)) all_nodes joined.tree.nodes) in
    let low : log.start ≤ end = omega (arith, run.within, spelled) in
    record {
      items = part_wider (map spelling front) log.start marks.prune (length (map spelling front)) end log was.items.start_high (omega (arith, spelled)) (part_of_run (map spelling front) log run);
      tree = subst (λ (ds : List D). TreeStands s h digest ds end log.start (image.log j.tree.log.name) (image.map j.tree.metadata)) taken
          (nodes_settled s h digest all end marks.node_durable log.start (image.log j.tree.log.name) (image.map j.tree.metadata) w low long node_run was.tree);
    }

-- What is left beside two logs that are durable stands for the items that are there, where it stood for these with perhaps more items behind
-- them.
pub opened_settled : {D Codec Item : Type 0} (s : Shape) (h : Hashing D) (digest : D → List ℕ) (admits : D → Type 0) (spelling : Item → List ℕ) (list rest : List Item) (marks : Marks) (j : Joined D Codec) (state : State)
    → IsLawful s → Rests s j.tree → j.tree.tree.leaves ≡ j.items.end → IsJoinedOf s h digest admits spelling (take j.items.end list) j (present state)
    → IsDurable j.items state → IsDurable j.tree.log state
    → Now (NamesLeft (names_of j)) (ImageStands s h digest spelling (list ++ rest) marks j) state
    → Now (NamesLeft (names_of j)) (ImageStands s h digest spelling (take j.items.end (list ++ rest)) (all_synced j.items.end marks) j) state
opened_settled {Item = Item} s h digest admits spelling list rest marks j state w rests whole joined =
    let front = take j.items.end list in
    let cuts : length front ≡ j.items.end = sym (joined.end_is ∙ run_end spelling front (state.log j.items.name) joined.items) in
    let few : j.items.end ≤ length list = let cut = length-take j.items.end list in omega (arith, cut, cuts) in
    let same : take j.items.end (list ++ rest) ≡ front = take-append-le j.items.end list rest few in
    list_settled s h digest admits spelling (list ++ rest) marks j state w rests whole
    (subst (λ (l : List Item). IsJoinedOf s h digest admits spelling l j (present state)) (sym same) joined)

-- under names that are the same
pub renamed_settles : {D Item : Type 0} (s : Shape) (h : Hashing D) (digest : D → List ℕ) (spelling : Item → List ℕ) (list : List Item) (end : ℕ) (marks : Marks) (items nodes metadata items' nodes' metadata' : List ℕ) (state : State)
    → items ≡ items' → nodes ≡ nodes' → metadata ≡ metadata'
    → NamesSettle s h digest spelling list end marks items nodes metadata state state → NamesSettle s h digest spelling list end marks items' nodes' metadata' state state
renamed_settles s h digest spelling list end marks items nodes metadata items' nodes' metadata' state one two three settles =
    subst (λ n. NamesSettle s h digest spelling list end marks items' nodes' n state state) three
    (subst (λ n. NamesSettle s h digest spelling list end marks items' n metadata state state) two
    (subst (λ n. NamesSettle s h digest spelling list end marks n nodes metadata state state) one settles))
