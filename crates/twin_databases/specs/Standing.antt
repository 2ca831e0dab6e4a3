-- What a crash leaves of the full database while it is opened.
use Rattle.std.specs.Prelude.{◌≡◌, ℕ, ◌≤◌, List, length, take, Option, Some}
use Rattle.volume_base.specs.Moments.{Image, Keeps, NamesLeft, Now}
use Rattle.volume_base.specs.Names.{two_logs_and_map}
use Rattle.volume_base.specs.Volume as volume
use Rattle.tree_shape.specs.Mmr.{mmr}
use Rattle.tree_shape.specs.Sha256Codec.{bytes_of}
use Rattle.log_model.specs.Good.{AnyList, IsGood}
use Rattle.log_model.specs.Machine.{State}
use Rattle.log_model.specs.Stored.{FullStands}
use Rattle.list_machine.specs.Operation.{Operation, meaning, sha}
use Rattle.list_machine.specs.Step.{plain_commit}

-- A state is good, with values of at most this length; and a cap, where there is one, is past 0, and at or past what is
-- durable of it.
pub record OpensGood (limit : ℕ) (cap : Option ℕ) (s : State Operation) : Type 0 where
  pub small : limit ≤ 16777216
  pub good : IsGood meaning AnyList (λ (v : List ℕ). length v ≤ limit) plain_commit s
  pub past : (most : ℕ) → cap ≡ Some most → (1 ≤ most) × (s.durable ≤ most)

-- The state up to a size, of which all is durable.
abbrev pub settled_at : State Operation → ℕ → State Operation
settled_at s n = record s { ops = take n s.ops; durable = n; node_durable = n }

module _ (log nodes metadata : List ℕ) where
  -- The two logs and the map of these names stand for a state.
  abbrev pub NamesStandFor : State Operation → Image → Type 0
  NamesStandFor s image =
      FullStands mmr sha bytes_of meaning s.ops s.prune s.durable s.node_durable (image.log log) (image.log nodes)
      (image.map metadata)

  -- What a crash leaves of them now stands for a state.
  abbrev pub StandNow : State Operation → volume.State → Type 0
  StandNow s now = Now (NamesLeft (two_logs_and_map log nodes metadata)) (NamesStandFor s) now

  -- Where it stands for a state, it does so at each moment of a call.
  abbrev pub KeepStanding : State Operation → volume.State → volume.State → Type 0
  KeepStanding s old new =
      StandNow s old → Keeps (NamesLeft (two_logs_and_map log nodes metadata)) (NamesStandFor s) old new
