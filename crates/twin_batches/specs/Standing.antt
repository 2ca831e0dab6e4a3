-- What a crash leaves of a database of the run.
use Rattle.std.specs.Prelude.{List, Result, length}
use Rattle.volume_base.specs.Moments.{Now, Keeps, Steps, NamesLeft}
use Rattle.volume_base.specs.Volume as volume
use Rattle.log_model.specs.Machine.{State, sizes_with}
use Rattle.list_machine.specs.Operation.{Operation}
use Rattle.twin_batches.specs.Kind.{Kind}

-- The state with another list, whose length is one more applied size where it is longer.
abbrev pub with_ops : State Operation → List Operation → State Operation
with_ops s list = record s { ops = list; sizes = sizes_with s.sizes (length s.ops) (length list) }

module _ {Db S U : Type 0} (k : Kind Db S U) where
  -- What a crash leaves now under a database's names stands for a state.
  abbrev pub StandsNow : State Operation → Db → volume.State → Type 0
  StandsNow s db now = Now (NamesLeft (k.names db)) (k.stands s db) now

  -- Where what a crash leaves stands for the one state, a call takes it to the other: up to a turn it stands for the
  -- one, and from it on for the other; after an error it may not have turned.
  abbrev pub StepsTo : {T E : Type 0} → State Operation → State Operation → Db → volume.State → volume.State
      → Result T E → Type 0
  StepsTo before after db old new result = StandsNow before db old →
      Steps (NamesLeft (k.names db)) (k.stands before db) (k.stands after db) old new result

  -- Where what a crash leaves stands for the one state, it stands for the other at each moment of a call.
  abbrev pub KeepsTo : State Operation → State Operation → Db → volume.State → volume.State → Type 0
  KeepsTo before after db old new = StandsNow before db old →
      Keeps (NamesLeft (k.names db)) (k.stands after db) old new
