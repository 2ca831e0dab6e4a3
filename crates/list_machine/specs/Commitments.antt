-- States of the run's log by their size and root.
use Rattle.std.specs.Prelude.{List}
use Rattle.log_model.specs.Machine.{SameTest}
use Rattle.chain_core.specs.States as chain
use Rattle.chain_core.specs.declared.bounds.Bounds.{Bounds}
use Rattle.chain_core.specs.declared.commitment.Commitment.{Commitment}
use Rattle.tree_shape.specs.Mmr.{mmr}
use Rattle.tree_shape.specs.declared.mmr.Mmr.{Mmr}
use Rattle.tree_shape.specs.declared.sha256.Sha256Digest.{Sha256Digest}
use Rattle.list_machine.specs.Operation.{Operation, meaning, sha}

-- The state of a log that is this list.
abbrev pub commitment_of : List Operation → Commitment Mmr Sha256Digest
commitment_of ops = chain.commitment_of mmr sha meaning ops

-- Whether two lists have one size and one root.
abbrev pub same_state : SameTest Operation
same_state = chain.same_state Mmr mmr sha meaning

-- It is the state of a log that is a front of this list, and so are all.
abbrev pub IsStateIn : List Operation → Commitment Mmr Sha256Digest → Type 0
IsStateIn list c = chain.IsStateIn mmr sha meaning list c

abbrev pub AreStatesIn : List Operation → List (Commitment Mmr Sha256Digest) → Type 0
AreStatesIn list cs = chain.AreStatesIn mmr sha meaning list cs

-- The states of a sealed batch are those of fronts of its list, and its tip is that of the whole.
abbrev pub AreBounds : List Operation → Bounds Mmr Sha256Digest → Type 0
AreBounds list b = chain.AreBounds mmr sha meaning list b
