-- Generated commands on a fresh volume.
use Rattle.std.proofs.Common.{◌≡◌, ℕ, ◌+◌, ◌-◌, ◌≤◌, List, [], ◌∷◌, length, Option, Some, refl, sym, ◌∙◌, ap, subst, arith}
use Rattle.std.proofs.Math.Seq.{take-length}
use Rattle.std.specs.Prelude.{slice_get}
use Rattle.std.specs.Option.{option_map_or}
use Rattle.std.specs.Io.KnownBytes.{Appends}
use Rattle.command_text.specs.declared.command.Command.{Command}
use Rattle.command_text.specs.declared.command.Reply.{Reply}
use Rattle.volume_base.specs.Moments.{Image}
use Rattle.log_model.specs.Machine.{State, fresh}
use Rattle.log_model.specs.Stored.{IsEmpty}
use Rattle.list_machine.specs.Config.{Config, standard_config}
use Rattle.list_machine.specs.Generator.{generated, refusals, summary_lines, summary_of}
use Rattle.list_machine.specs.Laws.{TellsList}
use Rattle.list_machine.specs.Operation.{Operation}
use Rattle.list_machine.specs.Starts.{OfEachStart, names_in}
use Rattle.list_machine.specs.Step.{plain_commit, reply, step}
use Rattle.list_machine.specs.Trace.{HasNoClash, fresh_state, replies_from, state_after, trace}
use Rattle.list_machine.proofs.Accepted.{all_accepted}
use Rattle.list_machine.proofs.OpeningLaws.{opens_fresh}
use Rattle.list_machine.proofs.RunLaws.{tell_lists}
use Rattle.twin_run.specs.Generated.{IsSummedUp}

-- the last reply of a run is that to its last command, or to its opening
record IsLast (replies : List Reply) (cs : List Command) : Type 0 where
  pub last : Reply
  pub there : slice_get replies (length cs) ≡ Some last
  pub count : length replies ≡ length cs + 1

last_from : (config : Config) (s : State Operation) (cs : List Command) (first : Reply)
    → IsLast (first ∷ replies_from config s cs) cs
last_from config s [] first = record { last = first; there = refl; count = refl }
last_from config s (c ∷ cs) first =
    let o = step config s c in
    let rest = last_from config o.1 cs (reply o) in record {
      last = rest.last;
      there = rest.there;
      count = omega (arith, rest.count);
    }

last_of : (config : Config) (s : State Operation) (cs : List Command) → IsLast (trace config s cs) cs
unfolding trace
last_of config s cs = last_from config s cs _

-- the summary of a run that a fresh volume begins
pub summed_up : (number count : ℕ) (w w' : Option (List ℕ)) → count ≤ 10000
    → Appends w w' (summary_of count (trace standard_config fresh_state (generated number count)))
    → IsSummedUp number count w w'
unfolding summary_of
summed_up number count w w' few wrote =
    let cs = generated number count in
    let said = trace standard_config fresh_state cs in
    let accepted = all_accepted number count few in
    let is = last_of standard_config fresh_state cs in
    let at : length said - 1 ≡ length cs = omega (arith, is.count) in
    let found : slice_get said (length said - 1) ≡ Some is.last = rw at is.there in
    let told = tell_lists standard_config fresh_state cs (length cs) is.last is.there in
    let tells = subst (λ (front : List Command). TellsList is.last (state_after standard_config fresh_state front).ops) (take-length cs) told in
    let lines : summary_of count said ≡ summary_lines count 0 is.last =
    ap (λ (r : Option Reply). option_map_or (summary_lines count (refusals said)) r []) found
    ∙ ap (λ n. summary_lines count n is.last) accepted.accepted in record {
      last = is.last;
      size = tells.size ∙ accepted.size;
      root = tells.full;
      wrote = subst (λ (text : List ℕ). Appends w w' text) lines wrote;
    }

-- what is known of each start is known of the state in which a fresh volume is opened
pub of_fresh : (image : Image) (commands : List Command) (holds : State Operation → Type 0)
    → OfEachStart standard_config image commands holds → IsEmpty (names_in standard_config) image
    → HasNoClash standard_config fresh_state commands → holds fresh_state
of_fresh image commands holds each empty clear =
    let opens = opens_fresh standard_config image empty in
    subst holds opens.opened (each (fresh plain_commit) opens.start
    (subst (λ (s : State Operation). HasNoClash standard_config s commands) (sym opens.opened) clear))
