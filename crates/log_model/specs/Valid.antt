-- What a run may begin from.
use Rattle.std.specs.Prelude.{◌≡◌, ℕ, List, []}
use Rattle.volume_base.specs.Volume as volume
use Rattle.volume_base.specs.Moments.{EachNow, present}
use Rattle.tree_shape.specs.Hashing.{Hashing}
use Rattle.tree_shape.specs.Shape.{Shape}
use Rattle.log_model.specs.Meaning.{Meaning}
use Rattle.log_model.specs.Hashed.{NoClash}
use Rattle.log_model.specs.Machine.{State}
use Rattle.log_model.specs.Stored.{DatabaseNames, StandsFor}
use Rattle.log_model.specs.Good.{IsGood, AnyList}

module _ {D Op V : Type 0} (s : Shape) (h : Hashing D) (spelling : D → List ℕ) (m : Meaning Op V) (allowed : V → Type 0)
    (first : Op) (names : DatabaseNames) where
  -- A good state without batches, for which each image stands that a crash may leave now; and nothing clashes that is hashed for these lists.
  pub record IsValid (lists : List (List Op)) (state : State Op) (now : volume.State) : Type 0 where
    pub good : IsGood m AnyList allowed first state
    pub still : state.batches ≡ []
    pub stands : EachNow (StandsFor s h spelling m names state) now
    pub clash : NoClash s h m lists

  -- The same of the contents alone.
  pub record IsValidContents (lists : List (List Op)) (state : State Op) (now : volume.State) : Type 0 where
    pub good : IsGood m AnyList allowed first state
    pub still : state.batches ≡ []
    pub stands : StandsFor s h spelling m names state (present now)
    pub clash : NoClash s h m lists
