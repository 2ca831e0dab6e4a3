-- What a run may begin from, and in which state it opens.
use Rattle.std.specs.Prelude.{◌≡◌, ℕ, ◌≤◌, List, [], ◌∷◌, length, map}
use Rattle.journal_base.specs.Items.{Spells}
use Rattle.volume_base.specs.Bounds.{IsRunOf}
use Rattle.volume_base.specs.Moments.{Image}
use Rattle.volume_base.specs.Names.{Names, log_alone, two_logs_and_map}
use Rattle.tree_shape.specs.Mmr.{mmr}
use Rattle.tree_shape.specs.Sha256Codec.{bytes_of}
use Rattle.tree_store.specs.Stored.{TreeStands}
use Rattle.log_model.specs.Good.{IsGood, AnyList}
use Rattle.log_model.specs.Machine.{State}
use Rattle.log_model.specs.Opening.{opened}
use Rattle.log_model.specs.Operations.{leaves_from}
use Rattle.log_model.specs.Stored.{DatabaseNames, StandsFor}
use Rattle.log_model.specs.Witness.{witness_text}
use Rattle.command_text.specs.declared.command.Command.{Command}
use Rattle.list_machine.specs.Config.{Config}
use Rattle.list_machine.specs.Operation.{Operation, meaning, sha}
use Rattle.list_machine.specs.Step.{plain_commit}
use Rattle.list_machine.specs.Trace.{HasNoClash}

-- The names of a configuration's logs and of its map.
abbrev pub names_in : Config → DatabaseNames
names_in config = record {
  log = config.log;
  nodes = config.nodes;
  metadata = config.metadata;
  witness = config.witness;
}

-- The two logs and the map that the full database keeps under a configuration; the log that the compact one keeps; and
-- all of these.
abbrev pub full_names : Config → Names
full_names config = two_logs_and_map config.log config.nodes config.metadata

abbrev pub compact_names : Config → Names
compact_names config = log_alone config.witness

abbrev pub twin_names : Config → Names
twin_names config = record {
  logs = config.log ∷ config.nodes ∷ config.witness ∷ [];
  maps = config.metadata ∷ [];
}

-- These contents stand for a good state without batches, of which perhaps nothing is durable.
pub record IsStart (config : Config) (s : State Operation) (image : Image) : Type 0 where
  pub good : IsGood meaning AnyList (λ (v : List ℕ). length v ≤ config.value_limit) plain_commit s
  pub still : s.batches ≡ []
  pub stands : StandsFor mmr sha bytes_of meaning (names_in config) s image

-- The state in which a run opens that begins there.
abbrev pub opened_from : Config → State Operation → Image → State Operation
opened_from config s image = opened (names_in config) s image

-- It holds of each state in which a run of these commands may open on these contents, where nothing clashes that is
-- hashed for the lists of the run.
abbrev pub OfEachStart : Config → Image → List Command → (State Operation → Type 0) → Type 0
OfEachStart config image commands holds =
    (s : State Operation) → IsStart config s image → HasNoClash config (opened_from config s image) commands
    → holds (opened_from config s image)

-- ---- what a run leaves

-- The operation log of a configuration holds what is kept of a state's list, from where it is kept.
pub record HoldsLog (config : Config) (image : Image) (s : State Operation) : Type 0 where
  pub ops : Spells meaning.encoding s.ops (image.log config.log)
  pub start : (image.log config.log).start ≡ s.start

-- The witness log holds the witnesses of a state's list at its applied sizes, from where they are kept.
pub record HoldsWitnesses (config : Config) (image : Image) (s : State Operation) : Type 0 where
  pub witnesses : IsRunOf (map (witness_text mmr sha meaning bytes_of s.ops) s.sizes) (image.log config.witness)
  pub start : (image.log config.witness).start ≡ s.wstart

-- The node log and the map of a configuration stand for the tree of a state's list, with the nodes that are durable,
-- pruned at no boundary past where the operation log begins.
abbrev pub HoldsTree : Config → Image → State Operation → Type 0
HoldsTree config image s =
    TreeStands mmr sha bytes_of (leaves_from mmr sha meaning 0 s.ops) s.node_durable s.start (image.log config.nodes)
    (image.map config.metadata)

-- The state without its batches, which end with a run.
abbrev pub without_batches : State Operation → State Operation
without_batches s = record s { batches = [] }

-- All three logs and the map hold what is kept of a state, and the next run may begin there, in the state without its
-- batches.
pub record IsLeft (config : Config) (image : Image) (s : State Operation) : Type 0 where
  pub log : HoldsLog config image s
  pub tree : HoldsTree config image s
  pub witnesses : HoldsWitnesses config image s
  pub again : IsStart config (without_batches s) image
