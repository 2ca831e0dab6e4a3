-- What a configuration holds, and which ones are refused.
use Rattle.std.specs.Prelude.{◌≢◌, ℕ, Bool, ◌==◌, ◌||◌, nat_lt, List, Option, Some, None, codes, if◌then◌else◌}
use Rattle.list_machine.specs.ConfigNames.{are_names_same}
use Rattle.list_machine.specs.declared.config.ConfigError.{ConfigError}
use Rattle.list_machine.specs.declared.config.ConfigError.TheVariants.{ZeroBlob, ZeroBatch, SameName, ValueLimit}

-- the names of the operation log, the node log, the map and the witness log; how many items a blob of each log has; how
-- many items are replayed at a time; the greatest length of a value
pub record Config : Type 0 where
  pub log : List ℕ
  pub nodes : List ℕ
  pub metadata : List ℕ
  pub witness : List ℕ
  pub log_blob : ℕ
  pub node_blob : ℕ
  pub witness_blob : ℕ
  pub apply_batch : ℕ
  pub value_limit : ℕ

abbrev pub config_of : List ℕ → List ℕ → List ℕ → List ℕ → ℕ → ℕ → ℕ → ℕ → ℕ → Config
config_of log nodes metadata witness log_blob node_blob witness_blob apply_batch value_limit =
    record {
      log = log;
      nodes = nodes;
      metadata = metadata;
      witness = witness;
      log_blob = log_blob;
      node_blob = node_blob;
      witness_blob = witness_blob;
      apply_batch = apply_batch;
      value_limit = value_limit;
    }

-- a log would have blobs of no items
abbrev pub has_zero_blob : Config → Bool
has_zero_blob c = c.log_blob == 0 || c.node_blob == 0 || c.witness_blob == 0

-- why a configuration is refused, or nothing where it is taken
abbrev pub config_refusal : Config → Option ConfigError
config_refusal c =
    if has_zero_blob c then Some ZeroBlob
    else (if c.apply_batch == 0 then Some ZeroBatch
    else (if are_names_same c.log c.nodes c.metadata c.witness then Some SameName
    else (if nat_lt 16777216 c.value_limit then Some (ValueLimit c.value_limit) else None)))

-- no two of the four names are one
pub record AreNamesApart (c : Config) : Type 0 where
  pub log_nodes : c.log ≢ c.nodes
  pub log_metadata : c.log ≢ c.metadata
  pub log_witness : c.log ≢ c.witness
  pub nodes_metadata : c.nodes ≢ c.metadata
  pub nodes_witness : c.nodes ≢ c.witness
  pub metadata_witness : c.metadata ≢ c.witness

-- the configuration of the program
abbrev pub standard_config : Config
standard_config = config_of (codes "log") (codes "nodes") (codes "metadata") (codes "witness") 64 128 64 1024 1048576
