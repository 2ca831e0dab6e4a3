-- What a crash leaves of a journal: of its log of items, of its node log, and of the map of its tree.
use Rattle.std.specs.Prelude.{◌≡◌, ◌⊎◌, ℕ, max, List, [], ◌∷◌, Result, map, take}
use Rattle.volume_base.specs.Bounds.{IsPartOf}
use Rattle.volume_base.specs.Log.{Log, no_log}
use Rattle.volume_base.specs.Moments.{Image, NamesLeft, Now, Keeps, Steps}
use Rattle.volume_base.specs.Names.{Names, two_logs_and_map}
use Rattle.volume_base.specs.Volume.{State, Map}
use Rattle.tree_shape.specs.Hashing.{Hashing}
use Rattle.tree_shape.specs.Shape.{Shape}
use Rattle.tree_store.specs.Stored.{TreeStands}
use Rattle.auth_journal.specs.Joined.{Joined, leaves_of}

-- how many items no crash undoes, how many leaves' nodes none undoes, and where it is pruned at most
pub record Marks : Type 0 where
  pub durable : ℕ
  pub node_durable : ℕ
  pub prune : ℕ

-- the marks where all n items are durable; where their nodes are too; and where it is pruned below a location besides
abbrev pub items_synced : ℕ → Marks → Marks
items_synced n marks = record { durable = n; node_durable = marks.node_durable; prune = marks.prune }

abbrev pub all_synced : ℕ → Marks → Marks
all_synced n marks = record { durable = n; node_durable = n; prune = marks.prune }

abbrev pub pruned_below : ℕ → Marks → Marks
pruned_below loc marks =
    record { durable = marks.durable; node_durable = marks.node_durable; prune = max marks.prune loc }

-- They stand for this list: the first log has the durable items at least, and begins where it is pruned at most; the
-- second log and the map stand for the list's leaves, at no boundary past the first log's start.
pub record JournalStands {D Item : Type 0} (s : Shape) (h : Hashing D) (digest : D → List ℕ) (spelling : Item → List ℕ)
    (list : List Item) (marks : Marks) (log nodes : Log) (m : Map) : Type 0 where
  pub items : IsPartOf (map spelling list) marks.prune marks.durable log
  pub tree : TreeStands s h digest (leaves_of s h spelling list) marks.node_durable log.start nodes m

-- the names of a journal's two logs and of its map
abbrev pub names_of : {D Codec : Type 0} → Joined D Codec → Names
names_of j = two_logs_and_map j.items.name j.tree.log.name j.tree.metadata

-- Of an image of the volume, the two logs and the map of these names stand for the list.
abbrev pub NamesStand : {D Item : Type 0} → Shape → Hashing D → (D → List ℕ) → (Item → List ℕ) → List Item → Marks
    → List ℕ → List ℕ → List ℕ → Image → Type 0
NamesStand s h digest spelling list marks items nodes metadata image =
    JournalStands s h digest spelling list marks (image.log items) (image.log nodes) (image.map metadata)

-- Where whatever a crash leaves of them stands for the list, it does so at each moment of a call.
abbrev pub NamesKeepStanding : {D Item : Type 0} → Shape → Hashing D → (D → List ℕ) → (Item → List ℕ) → List Item
    → Marks → List ℕ → List ℕ → List ℕ → State → State → Type 0
NamesKeepStanding s h digest spelling list marks items nodes metadata old new =
    Now (NamesLeft (two_logs_and_map items nodes metadata))
    (NamesStand s h digest spelling list marks items nodes metadata) old →
    Keeps (NamesLeft (two_logs_and_map items nodes metadata))
    (NamesStand s h digest spelling list marks items nodes metadata) old new

-- Where whatever a crash leaves of them stands for the list, what it leaves after a call stands for its first items, so
-- many: all of these are durable, and so are their nodes.
abbrev pub NamesSettle : {D Item : Type 0} → Shape → Hashing D → (D → List ℕ) → (Item → List ℕ) → List Item → ℕ → Marks
    → List ℕ → List ℕ → List ℕ → State → State → Type 0
NamesSettle s h digest spelling list end marks items nodes metadata old new =
    Now (NamesLeft (two_logs_and_map items nodes metadata))
    (NamesStand s h digest spelling list marks items nodes metadata) old →
    Now (NamesLeft (two_logs_and_map items nodes metadata))
    (NamesStand s h digest spelling (take end list) (all_synced end marks) items nodes metadata) new

-- the names of its two logs alone
abbrev pub logs_of : {D Codec : Type 0} → Joined D Codec → Names
logs_of j = record { logs = j.items.name ∷ j.tree.log.name ∷ []; maps = [] }

-- Of an image of the volume, what has these names stands for the list.
abbrev pub ImageStands : {D Codec Item : Type 0} → Shape → Hashing D → (D → List ℕ) → (Item → List ℕ) → List Item
    → Marks → Joined D Codec → Image → Type 0
ImageStands s h digest spelling list marks j image =
    NamesStand s h digest spelling list marks j.items.name j.tree.log.name j.tree.metadata image

-- Where whatever a crash leaves of these names stands for the list by the one marks, a call takes it to the others: up
-- to a turn the one stand, and from it on the others; after an error they may not have turned.
abbrev pub StepsStanding : {T E D Codec Item : Type 0} → Shape → Hashing D → (D → List ℕ) → (Item → List ℕ) → List Item
    → Marks → Marks → Joined D Codec → State → State → Result T E → Type 0
StepsStanding s h digest spelling list before after j old new result =
    Now (NamesLeft (names_of j)) (ImageStands s h digest spelling list before j) old →
    Steps (NamesLeft (names_of j)) (ImageStands s h digest spelling list before j)
    (ImageStands s h digest spelling list after j) old new result

-- Where whatever a crash leaves of these names stands for the one list, it stands for the other at each moment of a
-- call.
abbrev pub KeepsStanding : {D Codec Item : Type 0} → Shape → Hashing D → (D → List ℕ) → (Item → List ℕ) → List Item
    → List Item → Marks → Joined D Codec → State → State → Type 0
KeepsStanding s h digest spelling list longer marks j old new =
    Now (NamesLeft (names_of j)) (ImageStands s h digest spelling list marks j) old →
    Keeps (NamesLeft (names_of j)) (ImageStands s h digest spelling longer marks j) old new

-- At each moment from the one to the other what a crash leaves of the tree is what it left before, or nothing is left
-- of the log of items.
abbrev pub ItemsGoFirst : {D Codec : Type 0} → Joined D Codec → State → State → Type 0
ItemsGoFirst j old new =
    Keeps (NamesLeft (names_of j))
    (λ image. (old.log_left old.clock j.tree.log.name (image.log j.tree.log.name)
    × old.map_left old.clock j.tree.metadata (image.map j.tree.metadata))
    ⊎ (image.log j.items.name ≡ no_log)) old new
