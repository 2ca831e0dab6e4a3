-- What a whole run has left is such that the next run may begin there.
use Rattle.std.proofs.Common.{ℕ, zero, suc, ◌<◌, ◌≤◌, List, length, map, refl, sym, subst, arith}
use Rattle.std.proofs.lemmas.List.{length-map}
use Rattle.volume_base.specs.Bounds.{IsPartOf}
use Rattle.volume_base.specs.Moments.{Image}
use Rattle.volume_base.proofs.BoundLemmas.{part_of_run, part_wider}
use Rattle.tree_shape.specs.Mmr.{mmr}
use Rattle.tree_shape.specs.Sha256Codec.{bytes_of}
use Rattle.tree_store.specs.Stored.{TreeStands}
use Rattle.log_model.specs.AppliedSizes.{first_at_least}
use Rattle.log_model.specs.Good.{AnyList}
use Rattle.log_model.specs.Machine.{State}
use Rattle.log_model.specs.Operations.{leaves_from}
use Rattle.log_model.specs.Stored.{durable_witnesses}
use Rattle.log_model.specs.Witness.{witness_text}
use Rattle.log_model.proofs.OpeningLemmas.{rises_from_zero}
use Rattle.list_machine.specs.Config.{Config}
use Rattle.list_machine.specs.GoodRuns.{IsGoodState}
use Rattle.list_machine.specs.Operation.{Operation, meaning, sha}
use Rattle.list_machine.specs.Starts.{HoldsLog, HoldsTree, HoldsWitnesses, IsStart, without_batches}
use Rattle.list_machine.proofs.LeftStates.{first_below}

module _ (config : Config) (s : State Operation) (image : Image) (g : IsGoodState AnyList config.value_limit s)
    (log : HoldsLog config image s) (tree : HoldsTree config image s)
    (witnesses : HoldsWitnesses config image s) where
  abbrev Operations : List (List ℕ)
  Operations = map meaning.encoding s.ops

  -- the operation log has what is durable, and begins where it was pruned at most
  operations : IsPartOf Operations s.prune s.durable (image.log config.log)
  operations =
      let start = log.start in
      let low = g.good.log.start in
      let within = g.good.log.within in
      part_wider Operations (image.log config.log).start s.prune (length Operations) s.durable (image.log config.log)
      (omega (arith, start, low)) (omega (arith, within, length-map s.ops meaning.encoding))
      (part_of_run Operations (image.log config.log) log.ops)

  -- so has the witness log
  abbrev Texts : List (List ℕ)
  Texts = map (witness_text mmr sha meaning bytes_of s.ops) s.sizes

  some : 0 < length s.ops
  some = let durable = g.some in let within = g.good.log.within in omega (arith, durable, within)

  there : (durable : ℕ) → durable ≤ length s.ops → durable_witnesses s.sizes durable ≤ length s.sizes
  there zero le = omega arith
  there (suc durable) le =
      let below = first_below (suc durable) 0 (length s.ops) s.sizes
      (rises_from_zero (length s.ops) s.sizes g.good.log.sizes) some le in
      omega (arith, below)

  texts : IsPartOf Texts (first_at_least s.prune s.sizes) (durable_witnesses s.sizes s.durable)
      (image.log config.witness)
  texts =
      let start = witnesses.start in
      let low = g.good.log.wstart in
      let within = there s.durable g.good.log.within in
      part_wider Texts (image.log config.witness).start (first_at_least s.prune s.sizes) (length Texts)
      (durable_witnesses s.sizes s.durable) (image.log config.witness) (omega (arith, start, low))
      (omega (arith, within, length-map s.sizes (witness_text mmr sha meaning bytes_of s.ops)))
      (part_of_run Texts (image.log config.witness) witnesses.witnesses)

  pub left_start : IsStart config (without_batches s) image
  left_start = record {
    good = record {
      ops = g.good.ops;
      log = record {
        sizes = g.good.log.sizes;
        commits = g.good.log.commits;
        nodes = g.good.log.nodes;
        within = g.good.log.within;
        durable = g.good.log.durable;
        start = g.good.log.start;
        pruned = g.good.log.pruned;
        floor = g.good.log.floor;
        wstart = g.good.log.wstart;
      };
      batches = λ b. tt;
      parents = λ b. tt;
    };
    still = refl;
    stands = record {
      full = record {
        operations = operations;
        tree = subst (λ (n : ℕ). TreeStands mmr sha bytes_of (leaves_from mmr sha meaning 0 s.ops) s.node_durable n
            (image.log config.nodes) (image.map config.metadata)) (sym log.start) tree;
      };
      compact = texts;
    };
  }
