-- A state by its numbers, without its operations.
use Rattle.std.specs.Prelude.{◌≡◌, length}
use Rattle.log_model.specs.Machine.{State}
use Rattle.log_model.specs.declared.extent.Extent.{Extent}

-- They are the numbers of this state.
pub record IsExtentOf {Op : Type 0} (e : Extent) (s : State Op) : Type 0 where
  pub size : e.size ≡ length s.ops
  pub sizes : e.sizes.items ≡ s.sizes
  pub durable : e.durable ≡ s.durable
  pub node_durable : e.node_durable ≡ s.node_durable
  pub prune : e.prune ≡ s.prune
  pub start : e.start ≡ s.start
  pub wstart : e.witness_start ≡ s.wstart
