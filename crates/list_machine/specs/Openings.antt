-- Laws of the state in which a run opens.
use Rattle.std.specs.Prelude.{◌≡◌, ◌≤◌, length, Contains}
use Rattle.volume_base.specs.Moments.{Image}
use Rattle.log_model.specs.Good.{AnyList}
use Rattle.log_model.specs.Machine.{State, fresh}
use Rattle.log_model.specs.Stored.{IsEmpty}
use Rattle.list_machine.specs.Config.{Config}
use Rattle.list_machine.specs.GoodRuns.{IsGoodState}
use Rattle.list_machine.specs.Operation.{Operation}
use Rattle.list_machine.specs.Starts.{IsStart, names_in, opened_from}
use Rattle.list_machine.specs.Step.{plain_commit}
use Rattle.list_machine.specs.Trace.{fresh_state}

-- What opens of contents that stand for a good state is a good state, at an applied size, at or past the durable one.
pub record OpensWell (config : Config) (s : State Operation) (image : Image) : Type 0 where
  pub good : IsGoodState AnyList config.value_limit (opened_from config s image)
  pub applied : Contains s.sizes (length (opened_from config s image).ops)
  pub past : s.durable ≤ length (opened_from config s image).ops

abbrev pub OpeningsAreGood : Type 0
OpeningsAreGood =
    (config : Config) (s : State Operation) (image : Image) → IsStart config s image → OpensWell config s image

-- Contents that hold nothing under a configuration's names stand for the state before the first commit is durable, and
-- open with it durable.
pub record OpensFresh (config : Config) (image : Image) : Type 0 where
  pub start : IsStart config (fresh plain_commit) image
  pub opened : opened_from config (fresh plain_commit) image ≡ fresh_state

abbrev pub EmptyOpensFresh : Type 0
EmptyOpensFresh = (config : Config) (image : Image) → IsEmpty (names_in config) image → OpensFresh config image
