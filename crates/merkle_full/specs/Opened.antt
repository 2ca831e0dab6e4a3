-- A tree that is opened from a map beside a log.
use Rattle.std.specs.Prelude.{◌≡◌, ℕ, ◌<◌, ◌≤◌, ◌^◌, List, length, take, Option, Ok, false}
use Rattle.volume_base.specs.Log.{Log, cut_to}
use Rattle.volume_base.specs.Moments.{Image, PairHas, PairKeeps}
use Rattle.volume_base.specs.Volume.{State, Map}
use Rattle.tree_shape.specs.Hashing.{Hashing}
use Rattle.tree_shape.specs.Shape.{Shape}
use Rattle.tree_store.specs.Stored.{TreeStands, size}
use Rattle.tree_core.specs.Hashed.{HasParents}
use Rattle.tree_core.specs.Tree.{Tree, node_at, IsRested}
use Rattle.merkle_full.specs.Flushing.{IsFilled}
use Rattle.merkle_full.specs.Full.{Full}
use Rattle.merkle_full.specs.Lists.{AreDigests, IsFullOf}
use Rattle.merkle_full.specs.Opening.{stored_in}
use Rattle.merkle_full.specs.Preparing.{Opens, Recalls, log_kept, settled_log}

-- It keeps no failure, its log and its map have these names, and the log's blobs so many nodes.
pub record IsOpenedAs {D : Type 0} (nodes : List ℕ) (blob : ℕ) (metadata : List ℕ) (t : Full D) : Type 0 where
  pub nodes_is : t.log.name ≡ nodes
  pub blob_is : t.log.blob ≡ blob
  pub unfailed : t.log.failed ≡ false
  pub metadata_is : t.metadata ≡ metadata

-- The log is that of the tree which is opened, up to the nodes of its complete leaves; behind these stand the further
-- nodes of memory.
pub record IsOpenedLog {D : Type 0} (F : Type 0) (s : Shape) (spelling : D → List ℕ) (t : Tree D) (m : Map)
    (blob boundary complete : ℕ) (old new : Log) : Type 0 where
  pub stored : Option ℕ
  pub stored_is : stored_in {F = F} m ≡ Ok stored
  pub log : cut_to new (size s complete) ≡ settled_log s blob boundary complete (log_kept stored old)
  pub filled : IsFilled s spelling t (size s complete) (settled_log s blob boundary complete (log_kept stored old)) new

-- It is pruned at, and has, as many leaves as boundary, nodes and cap allow. What its memory was before it came to rest
-- is recovered, with the orphan that the log has, and behind it the parents that this makes, hashed from what memory has.
-- Its log is what is kept, with the further nodes of that memory.
pub record IsOpenedUnder {D : Type 0} (F : Type 0) (h : Hashing D) (spelling : D → List ℕ) (admits : D → Type 0)
    (s : Shape) (m : Map) (old new : Log) (cap : ℕ) (t : Full D) : Type 0 where
  pub boundary : ℕ
  pub complete : ℕ
  pub opens : Opens F spelling admits s m old cap boundary complete t.boundary t.tree.leaves
  pub was : Tree D
  pub recalls : Recalls F spelling admits s m old complete was
  pub parents : complete < was.leaves → HasParents s h complete (node_at was)
  pub rested : IsRested s t.boundary was t.tree
  pub log : IsOpenedLog F s spelling was m t.log.blob boundary complete old new

-- For each list that map and log stood for, it is held, and is the tree of its first leaves.
abbrev pub IsOfEach : {D : Type 0} → Shape → Hashing D → (D → List ℕ) → (D → Type 0) → Map → Log → Full D → Image
    → Type 0
IsOfEach {D} s h spelling admits m log t image =
    (all : List D) (durable top : ℕ) → TreeStands s h spelling all durable top log m → length all ≤ 2 ^ 62
    → AreDigests s h admits all → IsFullOf s h spelling admits (take t.tree.leaves all) t image

-- Where the cap allows what is durable, each image goes on standing for the list.
abbrev pub KeepsEach : {D : Type 0} → Shape → Hashing D → (D → List ℕ) → (D → Type 0) → ℕ → List ℕ → List ℕ
    → State → State → Type 0
KeepsEach {D} s h spelling admits cap nodes metadata old new =
    (all : List D) (durable top : ℕ) → length all ≤ 2 ^ 62 → AreDigests s h admits all → durable ≤ cap
    → PairHas old nodes metadata (TreeStands s h spelling all durable top)
    → PairKeeps nodes metadata (TreeStands s h spelling all durable top) old new
