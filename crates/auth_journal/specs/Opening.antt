-- A journal that is being opened, and why it isn't.
use Rattle.std.specs.Prelude.{◌≡◌, ◌≢◌, ◌⊎◌, ℕ, ◌^◌, ◌<◌, ◌≤◌, List, ◌++◌, length, take, Option, Some, Bool, false}
use Rattle.volume_base.specs.Log.{Log, Shrinks}
use Rattle.volume_base.specs.Volume.{State, Map}
use Rattle.volume_base.specs.declared.error.JournalError.{JournalError}
use Rattle.volume_base.specs.declared.error.JournalError.TheVariants.{ItemPruned}
use Rattle.journal_base.specs.Items.{Items, Spells}
use Rattle.journal_base.specs.View.{View, log_of, IsHeld, SameButBounds}
use Rattle.tree_shape.specs.declared.bagging.Bagging.{Bagging}
use Rattle.tree_core.specs.Tree.{IsOf}
use Rattle.tree_shape.specs.Hashing.{Hashing}
use Rattle.tree_shape.specs.Shape.{Shape}
use Rattle.tree_store.specs.declared.error.Error as tree_error
use Rattle.tree_store.specs.declared.error.Error.TheVariants.{LocationOverflow}
use Rattle.merkle_full.specs.Preparing.{Prepared, Opens, NotPrepared, IsPreparedIn, cap_of}
use Rattle.auth_journal.specs.Aligning.{NotAligned}
use Rattle.auth_journal.specs.Errors.{from_journal, from_tree}
use Rattle.auth_journal.specs.Joined.{Joined, leaves_of}
use Rattle.auth_journal.specs.Reading.{AreReadable}
use Rattle.auth_journal.specs.Searching.{EndsAt, NotFound}
use Rattle.auth_journal.specs.Standing.{Marks, NamesKeepStanding, NamesSettle}
use Rattle.auth_journal.specs.declared.error.Error.{Error}
use Rattle.auth_journal.specs.declared.error.Error.TheVariants.{Merkle, Journal}

-- What stands ready to be opened: the log, seen to its end; the end at which it is opened; the tree; and how its peaks are folded.
pub record Readied (D Codec : Type 0) : Type 0 where
  pub items : View Codec
  pub end : ℕ
  pub tree : Prepared D
  pub bagging : Bagging

-- The names of the two logs differ, the log keeps no failure, the end is between its bounds, and the tree ends at or past its start.
pub record IsSoundReady {D Codec : Type 0} (r : Readied D Codec) : Type 0 where
  pub apart : r.items.name ≢ r.tree.log.name
  pub kept : r.items.failed ≡ false
  pub reached : r.items.start ≤ r.end
  pub within : r.end ≤ r.items.end
  pub few : r.end ≤ 2 ^ 62
  pub low : r.items.start ≤ r.tree.tree.leaves

-- The volume holds the logs and the map as it has them, and the tree ends at or before the end.
pub record IsReadyIn {D Codec : Type 0} (r : Readied D Codec) (state : State) : Type 0 where
  pub items : IsHeld r.items state
  pub tree : IsPreparedIn r.tree state
  pub high : r.tree.tree.leaves ≤ r.end

-- Of a map and a node log a tree of so many leaves is opened under a cap, pruned at so many.
pub record OpensAt {D : Type 0} (F : Type 0) (spelling : D → List ℕ) (admits : D → Type 0) (s : Shape) (m : Map) (log : Log) (cap pruned leaves : ℕ) : Type 0 where
  pub boundary : ℕ
  pub complete : ℕ
  pub opens : Opens F spelling admits s m log cap boundary complete pruned leaves

-- It has as many leaves at least as the log begins with, and each item from there on up to this end can be read.
pub record OpensUpTo {D A : Type 0} (F : Type 0) (spelling : D → List ℕ) (admits : D → Type 0) (s : Shape) (m : Map) (log : Log) (items : Items A) (end pruned : ℕ) : Type 0 where
  pub leaves : ℕ
  pub opens : OpensAt F spelling admits s m log (cap_of (Some end)) pruned leaves
  pub reached : items.log.start ≤ leaves
  pub readable : AreReadable items leaves end

-- Why none stands ready: no end is found; or it is above the greatest number of leaves; or the tree isn't prepared under it; or the tree
-- ends below the log's start.
abbrev pub NotReady : {F D A : Type 0} → (D → List ℕ) → (D → Type 0) → Shape → Map → Log → Items A → (A → Bool → Type 0) → Option ℕ → Error F → Type 0
NotReady {F} spelling admits s m log items says cap e =
    ((d : JournalError) × NotFound items says cap d × (e ≡ from_journal d))
    ⊎ ((end : ℕ) × EndsAt items says cap end × (((2 ^ 62 < end) × (e ≡ Merkle (LocationOverflow end)))
    ⊎ (((d : tree_error.Error F) × NotPrepared spelling admits s m log (cap_of (Some end)) d × (e ≡ from_tree d))
    ⊎ ((pruned leaves : ℕ) × OpensAt F spelling admits s m log (cap_of (Some end)) pruned leaves × (leaves < items.log.start) × (e ≡ Journal (ItemPruned leaves))))))

-- The journal is the one that stood ready: it has its log and its node log but for the bounds, its map, its boundary, and how peaks are
-- folded; and it keeps no failure.
pub record IsOpenedFrom {D Codec : Type 0} (r : Readied D Codec) (j : Joined D Codec) : Type 0 where
  pub items : SameButBounds r.items j.items
  pub log : SameButBounds r.tree.log j.tree.log
  pub boundary : j.tree.boundary ≡ r.tree.pruned
  pub metadata : j.tree.metadata ≡ r.tree.metadata
  pub bagging : j.bagging ≡ r.bagging
  pub failed : j.failed ≡ false

-- Why none is opened: none stands ready; or one does, and the first item behind the tree that can't be read says why.
abbrev pub NotOpened : {F D A : Type 0} → Type 0 → (D → List ℕ) → (D → Type 0) → Shape → Map → Log → Items A → (A → Bool → Type 0) → Option ℕ → Error F → Type 0
NotOpened {F} tells spelling admits s m log items says cap e =
    NotReady spelling admits s m log items says cap e
    ⊎ ((end pruned leaves : ℕ) × EndsAt items says cap end × (end ≤ 2 ^ 62) × OpensAt F spelling admits s m log (cap_of (Some end)) pruned leaves
    × (items.log.start ≤ leaves) × NotAligned tells items leaves end e)

-- An image of the log is one of before, or loses at most what is behind an end at which the log is opened.
abbrev pub ShrinksToEnd : {A : Type 0} → Items A → (A → Bool → Type 0) → Option ℕ → Log → Log → Type 0
ShrinksToEnd items says cap old new = (new ≡ old) ⊎ ((end : ℕ) × EndsAt items says cap end × Shrinks end old new)

-- Where the volume holds it, its log is a run of a list, its tree that of the first leaves of the list, perhaps with more items behind it, and
-- no more is durable than what stays, each image of its logs and its map goes on standing for that longer list over a call.
abbrev pub StandsWhileOpened : {D Codec Item : Type 0} → Shape → Hashing D → (D → List ℕ) → (Item → List ℕ) → List Item → List Item → Marks
    → Readied D Codec → State → State → Type 0
StandsWhileOpened s h digest spelling list rest marks r old new =
    IsReadyIn r old → Spells spelling list (log_of r.items old) → length (list ++ rest) ≤ 2 ^ 62 →
    IsOf s h (leaves_of s h spelling (take r.tree.tree.leaves (list ++ rest))) r.tree.tree →
    marks.durable ≤ r.end → marks.node_durable ≤ r.tree.complete →
    NamesKeepStanding s h digest spelling (list ++ rest) marks r.items.name r.tree.log.name r.tree.metadata old new

-- Where it goes on standing so, what is left of it after the call stands for the list's items up to the end: all of these
-- are durable, and so are their nodes.
abbrev pub SettlesOpened : {D Codec Item : Type 0} → Shape → Hashing D → (D → List ℕ) → (Item → List ℕ) → List Item → List Item → Marks
    → Readied D Codec → State → State → Type 0
SettlesOpened s h digest spelling list rest marks r old new =
    IsReadyIn r old → Spells spelling list (log_of r.items old) → length (list ++ rest) ≤ 2 ^ 62 →
    IsOf s h (leaves_of s h spelling (take r.tree.tree.leaves (list ++ rest))) r.tree.tree →
    marks.durable ≤ r.end → marks.node_durable ≤ r.tree.complete →
    NamesSettle s h digest spelling (list ++ rest) r.end marks r.items.name r.tree.log.name r.tree.metadata old new
