-- What the compact database and its batches stand for.
use Rattle.std.specs.Prelude.{◌≡◌, ℕ, ◌^◌, ◌<◌, ◌≤◌, List, [], ◌∷◌, length, map, take, drop, Some, slice_get, false}
use Rattle.std.specs.List.{AllByRecursion}
use Rattle.std.proofs.Common.{ap, refl, sym, ◌∙◌, subst}
use Rattle.volume_base.specs.Log.{Log, end_of}
use Rattle.volume_base.specs.Moments.{Image}
use Rattle.volume_base.specs.Names.{log_alone}
use Rattle.volume_base.specs.Volume.{State}
use Rattle.journal_base.specs.View.{IsDurable}
use Rattle.tree_shape.specs.Mmr.{mmr}
use Rattle.tree_shape.specs.Sha256Codec.{bytes_of, IsDigest}
use Rattle.tree_shape.specs.declared.mmr.Mmr.{Mmr}
use Rattle.tree_shape.specs.declared.sha256.Sha256Digest.{Sha256Digest}
use Rattle.codec_base.specs.declared.parts.LengthCfg.{LengthCfg}
use Rattle.log_model.specs.Good.{IsGoodLog}
use Rattle.log_model.specs.Machine as run
use Rattle.log_model.specs.Stored.{CompactStands}
use Rattle.log_model.specs.Witness.{last_bytes}
use Rattle.witness_store.specs.Witness.{text_of, IsAllowed}
use Rattle.witness_store.specs.Witnesses.{Keeps}
use Rattle.compact_db.specs.Batches.{UnmerkleizedView, MerkleizedView, IsUnmerkleizedOf, IsMerkleizedOf, HasMarks, bounds_of, link_marks}
use Rattle.compact_db.specs.DbView.{DbView, commitment_in, floor_in, seen_log}
use Rattle.compact_db.specs.Held.{IsHeldFor, IsSizeOf}
use Rattle.compact_db.specs.WitnessOf.{witness_of}
use Rattle.compact_db.proofs.DbLemmas.{state_of_list, floor_of_list}
use Rattle.list_machine.specs.Config.{Config}
use Rattle.list_machine.specs.Operation.{Operation, meaning, sha}
use Rattle.list_machine.specs.Step.{plain_commit}
use Rattle.twin_batches.specs.Kind.{Kind, Kept}

-- The compact database of the run, its sealed batches, and those that take appends.
abbrev pub CompactView : Type 0
CompactView = DbView Mmr Sha256Digest Operation LengthCfg

abbrev pub SealedView : Type 0
SealedView = MerkleizedView Mmr Sha256Digest Operation

abbrev pub UnsealedView : Type 0
UnsealedView = UnmerkleizedView Mmr Sha256Digest Operation

-- A volume that has these contents, and from which a crash takes nothing.
abbrev pub at_rest : Image → State
at_rest image = record {
  log = image.log;
  map = image.map;
  clock = 0;
  log_left = λ t name log. log ≡ image.log name;
  map_left = λ t name m. m ≡ image.map name;
  faults = 0;
  reads = 0;
  steady = Unit {0};
}

-- The volume has the witnesses of the list at these sizes, and the database is the list's.
abbrev pub IsHeldAt : List Operation → List ℕ → CompactView → State → Type 0
IsHeldAt ops sizes db state = IsHeldFor mmr sha meaning bytes_of IsDigest ops sizes db state

-- The log has the witnesses of what is kept, from where they are kept, and the database is the list's. There are no
-- more sizes than operations.
pub record IsCompactOf (kept : Kept) (image : Image) (db : CompactView) : Type 0 where
  pub held : IsHeldAt kept.ops kept.sizes db (at_rest image)
  pub few : length kept.sizes ≤ length kept.ops
  pub begins : (image.log (seen_log db.log).name).start ≡ kept.wstart

-- The blobs of its log have so many witnesses, and values that are read have at most this length.
pub record IsCompactUnder (config : Config) (db : CompactView) : Type 0 where
  pub blob : (seen_log db.log).blob ≡ config.witness_blob
  pub codec : db.codec ≡ record { max = config.value_limit }

-- What is kept of a list up to a size, which is the last of so many, from these places on.
abbrev pub kept_to : List Operation → List ℕ → (count size start wstart : ℕ) → Kept
kept_to ops sizes count size start wstart = record {
  ops = take size ops;
  sizes = take count sizes;
  start = start;
  wstart = wstart;
  leaves = size;
}

-- What stands on the volume of a state can be opened: its list begins with the first commit, a tree can hold it, and
-- each operation is allowed and has less than 2^64 bytes.
pub record IsOpenable (allowed : Operation → Type 0) (s : run.State Operation) : Type 0 where
  pub log : IsGoodLog meaning s
  pub begins : take 1 s.ops ≡ plain_commit ∷ []
  pub few : length s.ops ≤ 2 ^ 62
  pub allows : (i : ℕ) (op : Operation) → slice_get s.ops i ≡ Some op → allowed op
  pub short : (n : ℕ) → length (last_bytes mmr sha meaning s.ops n) < 2 ^ 64

-- It reads no more of a volume than its log.
pub held_over : (ops : List Operation) (sizes : List ℕ) (db : CompactView) (was is : State)
    → is.log (seen_log db.log).name ≡ was.log (seen_log db.log).name → IsHeldAt ops sizes db was
    → IsHeldAt ops sizes db is
held_over ops sizes db was is same held = record {
  list = held.list;
  opened = held.opened;
  bounds = record {
    start_is = held.bounds.start_is ∙ ap (λ (l : Log). l.start) (sym same);
    end_is = held.bounds.end_is ∙ ap (λ (l : Log). end_of l) (sym same);
  };
  witnesses = subst (λ (l : Log).
      Keeps {F = Mmr} (record { log = l; spelling = text_of bytes_of; admits = IsAllowed IsDigest })
      (map (witness_of mmr sha meaning ops) sizes)) (sym same) held.witnesses;
  within = subst (λ (l : Log). AllByRecursion (IsSizeOf meaning ops) (drop l.start sizes)) (sym same) held.within;
  some = subst (λ (l : Log). l.start < length sizes) (sym same) held.some;
  last = held.last;
}

-- A sealed batch is of its list, and has a mark at each state of its chain; the marks of an unsealed one are those of
-- its segments. It keeps its log of witnesses on a volume.
abbrev pub compact_kind : Kind CompactView SealedView UnsealedView
compact_kind = record {
  is_of = IsCompactOf;
  is_sealed = λ list x. IsMerkleizedOf mmr sha meaning list x × HasMarks x;
  is_unsealed = λ list u. IsUnmerkleizedOf mmr sha meaning list u;
  is_marked = λ marks u. link_marks u.tree.links ≡ marks;
  state = λ db. commitment_in db;
  floor = λ db. floor_in meaning db;
  bounds = bounds_of;
  base = λ u. u.base;
  pending = λ u. u.pending;
  parent = λ u. u.parent;
  is_under = λ config db. IsCompactUnder config db;
  is_sound = λ db. (seen_log db.log).failed ≡ false;
  is_durable = λ db state. IsDurable (seen_log db.log) state;
  is_synced = λ db state. IsDurable (seen_log db.log) state;
  names = λ db. log_alone (seen_log db.log).name;
  stands = λ s db image. CompactStands mmr sha bytes_of meaning s.ops s.sizes s.prune s.durable
      (image.log (seen_log db.log).name);
  state_is = λ kept image db is.
      state_of_list mmr sha meaning kept.ops db.tip db.tree db.commit is.held.list (commitment_in db) refl refl;
  floor_is = λ kept image db is.
      floor_of_list mmr sha meaning kept.ops db.tip db.tree db.commit is.held.list;
  bounded = λ list x is. is.0.batch.bounds;
  base_is = λ list u is. is.base;
  framed = λ kept image other db logs maps is. record {
    held = held_over kept.ops kept.sizes db (at_rest image) (at_rest other) logs.0 is.held;
    few = is.few;
    begins = ap (λ (l : Log). l.start) logs.0 ∙ is.begins;
  };
}
