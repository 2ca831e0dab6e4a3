-- The replies of a whole run.
use Rattle.std.specs.Prelude.{◌≡◌, ◌<◌, List, [], ◌∷◌, ◌++◌, length, take}
use Rattle.std.specs.List.{AllByRecursion}
use Rattle.log_model.specs.Machine.{State, fresh, synced, lists_here}
use Rattle.log_model.specs.Hashed.{NoClash}
use Rattle.tree_shape.specs.Mmr.{mmr}
use Rattle.command_text.specs.declared.command.Command.{Command}
use Rattle.command_text.specs.declared.command.Answer.TheVariants as answer
use Rattle.command_text.specs.declared.command.Reply.{Reply}
use Rattle.list_machine.specs.Config.{Config}
use Rattle.list_machine.specs.Operation.{Operation, meaning, sha}
use Rattle.list_machine.specs.Step.{step, reply, plain_commit}

-- The replies to these commands, from a state on.
abbrev pub replies_from : Config → State Operation → List Command → List Reply
replies_from config s [] = []
replies_from config s (c ∷ cs) = reply (step config s c) ∷ replies_from config (step config s c).1 cs

-- The state after these commands.
abbrev pub state_after : Config → State Operation → List Command → State Operation
state_after config s [] = s
state_after config s (c ∷ cs) = state_after config (step config s c).1 cs

-- The states that these commands pass, from the one before the first to the one behind the last.
abbrev pub states_from : Config → State Operation → List Command → List (State Operation)
states_from config s [] = s ∷ []
states_from config s (c ∷ cs) = s ∷ states_from config (step config s c).1 cs

-- The lists of the log and of the sealed batches, in each state that these commands pass.
abbrev pub lists_passed : Config → State Operation → List Command → List (List Operation)
lists_passed config s [] = lists_here s
lists_passed config s (c ∷ cs) = lists_here s ++ lists_passed config (step config s c).1 cs

-- The state in which a fresh volume is opened: its first commit is made, and is durable.
abbrev pub fresh_state : State Operation
fresh_state = synced (fresh plain_commit)

-- The replies of a run that opens in a state: one to the opening, and one to each command.
unfoldable pub trace : Config → State Operation → List Command → List Reply
trace config s cs = reply (answer.Opened (length s.ops) s.start, s) ∷ replies_from config s cs

-- Each of these replies tells one root of both databases.
abbrev pub TellOneRoot : List Reply → Type 0
TellOneRoot replies = AllByRecursion (λ (r : Reply). r.full_root ≡ r.compact_root) replies

-- Nothing clashes that is hashed for the lists of a run that opens in a state: the log's, and those of the batches
-- that it seals.
unfoldable pub HasNoClash : Config → State Operation → List Command → Type 0
HasNoClash config s cs = NoClash mmr sha meaning (lists_passed config s cs)

-- The first replies of a run, and not all of them.
pub record IsBegun (some all : List Reply) : Type 0 where
  pub front : some ≡ take (length some) all
  pub fewer : length some < length all
