-- What the full database and its batches stand for.
use Rattle.std.specs.Prelude.{◌≡◌, ◌⊎◌, ℕ, zero, suc, ◌<◌, ◌≤◌, ◌^◌, List, [], ◌∷◌, ◌++◌, length, take, slice_get, Option, Some, false}
use Rattle.std.proofs.Common.{ap, sym, ◌∙◌, subst}
use Rattle.volume_base.specs.Log.{Log, end_of}
use Rattle.volume_base.specs.Moments.{Image}
use Rattle.volume_base.specs.Volume.{Map}
use Rattle.journal_base.specs.Items.{Spells}
use Rattle.journal_base.specs.View.{IsDurable, capped}
use Rattle.tree_shape.specs.Mmr.{mmr}
use Rattle.tree_shape.specs.Sha256Codec.{bytes_of, IsDigest}
use Rattle.tree_shape.specs.declared.mmr.Mmr.{Mmr}
use Rattle.tree_shape.specs.declared.sha256.Sha256Digest.{Sha256Digest}
use Rattle.codec_base.specs.Parts.{admits_bytes}
use Rattle.codec_base.specs.declared.parts.LengthCfg.{LengthCfg}
use Rattle.tree_store.specs.Stored.{TreeStands, size}
use Rattle.op_codec.specs.Keyless.{parts, variable_admits}
use Rattle.log_model.specs.Opening.{last_commit}
use Rattle.log_model.specs.Stored.{FullStands}
use Rattle.merkle_full.proofs.FullLemmas.{full_later}
use Rattle.auth_journal.specs.Joined.{leaves_of}
use Rattle.auth_journal.specs.Standing.{names_of}
use Rattle.keyless_db.specs.Batches.{UnmerkleizedView, MerkleizedView, IsUnmerkleizedOf, IsMerkleizedOf, HasMarks, bounds_of, link_marks}
use Rattle.keyless_db.specs.DbView.{DbView, IsHeldFor, floor_in}
use Rattle.keyless_db.proofs.DbLemmas.{floor_of_list}
use Rattle.list_machine.specs.Config.{Config}
use Rattle.list_machine.specs.Operation.{Operation, meaning, sha}
use Rattle.list_machine.specs.Step.{plain_commit}
use Rattle.twin_batches.specs.Kind.{Kind, Kept}

-- The full database of the run, its sealed batches, and those that take appends.
abbrev pub FullView : Type 0
FullView = DbView Mmr Sha256Digest Operation LengthCfg

abbrev pub SealedView : Type 0
SealedView = MerkleizedView Mmr Sha256Digest Operation

abbrev pub UnsealedView : Type 0
UnsealedView = UnmerkleizedView Mmr Sha256Digest Operation

-- The volume has the list from where its log begins, with the tree of the list, and the database is the list's.
abbrev pub IsHeldIn : List Operation → FullView → Image → Type 0
IsHeldIn ops db image = IsHeldFor mmr sha meaning bytes_of IsDigest meaning.encoding ops db image

-- A sealed batch is of a list, and so is its part of the tree; and one that takes appends goes on from a list.
abbrev pub IsSealedBatchOf : List Operation → SealedView → Type 0
IsSealedBatchOf list x = IsMerkleizedOf mmr sha meaning meaning.encoding list x

abbrev pub IsUnsealedBatchOf : List Operation → UnsealedView → Type 0
IsUnsealedBatchOf list u = IsUnmerkleizedOf mmr sha meaning meaning.encoding list u

-- The log has what is kept of the list, from where it is kept, and the database is the list's. The node log reaches the
-- end of the nodes that are kept.
pub record IsFullDbOf (kept : Kept) (image : Image) (db : FullView) : Type 0 where
  pub held : IsHeldIn kept.ops db image
  pub begins : (image.log db.journal.items.name).start ≡ kept.start
  pub reaches : size mmr kept.leaves ≤ end_of (image.log db.journal.tree.log.name)

-- The blobs of its logs have so many operations and nodes, and values that are read have at most this length.
pub record IsFullUnder (config : Config) (db : FullView) : Type 0 where
  pub blob : db.journal.items.blob ≡ config.log_blob
  pub nodes : db.journal.tree.log.blob ≡ config.node_blob
  pub codec : db.journal.items.codec ≡ record { max = config.value_limit }

-- What is kept of a log that is opened: the nodes of all its operations.
abbrev pub kept_full : List Operation → List ℕ → (start wstart : ℕ) → Kept
kept_full ops sizes start wstart = record {
  ops = ops;
  sizes = sizes;
  start = start;
  wstart = wstart;
  leaves = length ops;
}

-- ---- what it is opened from

-- The size up to which a list is opened: the end of its last commit within a cap, or of the last of all; 0 where there
-- is none.
abbrev pub full_end : Option ℕ → List Operation → ℕ
full_end cap list = last_commit meaning (capped cap (length list)) list

-- What is opened of a list up to this size; at 0 it is the first commit alone.
abbrev pub opened_list : ℕ → List Operation → List Operation
opened_list zero list = plain_commit ∷ []
opened_list (suc n) list = take (suc n) list

-- Under a cap, or none, logs and a map stand for a list: the first log has its operations up to the list's end, and
-- values of at most this length; node log and map stand for its leaves, and perhaps for more behind them, under no
-- boundary past the first log's start. The last commit within the cap is kept; or the log begins at 0, and there is
-- none. So many leaves' nodes are durable: those before the log's start at least, and none past that commit.
pub record HasFullStart (limit : ℕ) (log nodes : Log) (pins : Map) (cap : Option ℕ)
    (list : List Operation) : Type 0 where
  pub rest : List Operation
  pub durable : ℕ
  pub spelled : Spells meaning.encoding list log
  pub few : length (list ++ rest) ≤ 2 ^ 62
  pub allowed : (i : ℕ) (op : Operation) → slice_get list i ≡ Some op
      → variable_admits (admits_bytes limit) (parts op)
  pub tree : TreeStands mmr sha bytes_of (leaves_of mmr sha meaning.encoding (list ++ rest)) durable log.start nodes
      pins
  pub low : log.start ≤ durable
  pub reached : durable ≤ full_end cap list
  pub some : (log.start < full_end cap list) ⊎ ((full_end cap list ≡ 0) × (log.start ≡ 0))

-- So it is of the contents of a volume, by the names and the limit of a configuration.
abbrev pub IsFullStart : Config → Image → Option ℕ → List Operation → Type 0
IsFullStart config image cap list =
    HasFullStart config.value_limit (image.log config.log) (image.log config.nodes) (image.map config.metadata) cap list

-- It reads no more of a volume than its two logs and its map.
pub held_over : (ops : List Operation) (db : FullView) (was is : Image)
    → is.log db.journal.items.name ≡ was.log db.journal.items.name
    → is.log db.journal.tree.log.name ≡ was.log db.journal.tree.log.name
    → is.map db.journal.tree.metadata ≡ was.map db.journal.tree.metadata → IsHeldIn ops db was → IsHeldIn ops db is
held_over ops db was is items nodes pins held = record {
  db_of = held.db_of;
  journal = record {
    items = subst (λ (l : Log). Spells meaning.encoding ops l) (sym items) held.journal.items;
    start_is = held.journal.start_is ∙ ap (λ (l : Log). l.start) (sym items);
    end_is = held.journal.end_is ∙ ap (λ (l : Log). end_of l) (sym items);
    tree = full_later mmr sha bytes_of IsDigest (leaves_of mmr sha meaning.encoding ops) db.journal.tree was is nodes
        pins held.journal.tree;
  };
  low = held.low;
}

-- A sealed batch is of its list, and has a mark at each state of its chain; the marks of an unsealed one are those of
-- its segments. It keeps its operations, their tree's nodes and its pins on a volume.
abbrev pub full_kind : Kind FullView SealedView UnsealedView
full_kind = record {
  is_of = IsFullDbOf;
  is_sealed = λ list x. IsSealedBatchOf list x × HasMarks x;
  is_unsealed = IsUnsealedBatchOf;
  is_marked = λ marks u. link_marks u.tree.nodes.links ≡ marks;
  state = λ db. db.state;
  floor = λ db. floor_in meaning db;
  bounds = bounds_of;
  base = λ u. u.base;
  pending = λ u. u.tree.items;
  parent = λ u. u.parent;
  is_under = λ config db. IsFullUnder config db;
  is_sound = λ db. db.journal.failed ≡ false;
  is_durable = λ db state. IsDurable db.journal.items state;
  is_synced = λ db state. IsDurable db.journal.items state × IsDurable db.journal.tree.log state;
  names = λ db. names_of db.journal;
  stands = λ s db image. FullStands mmr sha bytes_of meaning s.ops s.prune s.durable s.node_durable
      (image.log db.journal.items.name) (image.log db.journal.tree.log.name) (image.map db.journal.tree.metadata);
  state_is = λ kept image db is. is.held.db_of.state_is;
  floor_is = λ kept image db is. floor_of_list mmr sha meaning meaning.encoding kept.ops db is.held.db_of;
  bounded = λ list x is. is.0.batch.bounds;
  base_is = λ list u is. is.base;
  framed = λ kept image other db logs maps is. record {
    held = held_over kept.ops db image other logs.0 logs.1.0 maps.0 is.held;
    begins = ap (λ (l : Log). l.start) logs.0 ∙ is.begins;
    reaches = subst (λ (l : Log). size mmr kept.leaves ≤ end_of l) (sym logs.1.0) is.reaches;
  };
}
