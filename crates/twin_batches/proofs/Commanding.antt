-- What a command makes of a side, under the command's name.
use Rattle.std.proofs.Common.{◌≡◌, ℕ, Ok, Err, refl, sym, subst}
use Rattle.std.specs.Prelude.{Result, IfOk, IfErr}
use Rattle.std.proofs.lemmas.Result.{IfOk-weaker, IfErr-weaker}
use Rattle.volume_base.specs.Moments.{Image, present}
use Rattle.volume_base.specs.Volume as volume
use Rattle.volume_base.specs.Volume.{SameContents}
use Rattle.volume_base.proofs.NameLemmas.{each_of_all}
use Rattle.log_model.specs.Machine.{State}
use Rattle.command_text.specs.declared.command.Answer.{Answer}
use Rattle.command_text.specs.declared.command.Command.{Command}
use Rattle.list_machine.specs.Config.{Config}
use Rattle.list_machine.specs.Operation.{Operation}
use Rattle.list_machine.specs.Step.{Outcome, step}
use Rattle.list_machine.specs.Told.{IsTold}
use Rattle.twin_batches.specs.About.{IsDurableFor}
use Rattle.twin_batches.specs.Kind.{Kind, kept_of}
use Rattle.twin_batches.specs.StateOf.{IsStateOf, StandsGood, Answers}
use Rattle.twin_batches.specs.declared.numbers.Numbers.{Numbers}
use Rattle.twin_batches.proofs.Handlers.{answers_here}

module _ {Db S U : Type 0} (k : Kind Db S U) where
  pub commanded : {E : Type 0} (r : Result Answer E) (of : State Operation → Type 0) (f : State Operation → Outcome)
      (limit : ℕ) (c : Command) (db : Db) (old new : Numbers S U)
      → ((config : Config) → config.value_limit ≡ limit → (s : State Operation) → step config s c ≡ f s)
      → ((s : State Operation) → IsTold s → of s) → IfOk r (λ a. Answers k of f db old new a)
      → IfOk r (λ a. (config : Config) → config.value_limit ≡ limit
      → Answers k IsTold (λ s. step config s c) db old new a)
  commanded (Ok a) of f limit c db old new same told answers = λ config e. answers_here k of f
      (λ s. step config s c) db db old new a answers told (same config e) refl
  commanded (Err e) of f limit c db old new same told answers = tt

  -- what is stored stands for what the command leaves
  pub stored_state : {A E : Type 0} (r : Result A E) (made : A → Db) (new : A → Numbers S U) (tells : Type 0)
      (f : State Operation → State Operation) (c : Command) (was is : Image) (db : Db) (old : Numbers S U)
      → ((config : Config) (s : State Operation) → (step config s c).1 ≡ f s)
      → IfOk r (λ x. tells → (s : State Operation) → IsStateOf k was db old s → IsStateOf k is (made x) (new x) (f s))
      → IfOk r (λ x. tells → (config : Config) (s : State Operation) → IsStateOf k was db old s
      → IsStateOf k is (made x) (new x) (step config s c).1)
  stored_state (Ok x) made new tells f c was is db old same state = λ told config s of.
      subst (λ (t : State Operation). IsStateOf k is (made x) (new x) t) (sym (same config s)) (state told s of)
  stored_state (Err e) made new tells f c was is db old same state = tt

  -- what is durable after a command is so after the same one
  pub durable_as : {A E : Type 0} (r : Result A E) (made : A → Db) (tells : Type 0) (c d : Command)
      (v : volume.State) → c ≡ d → IfOk r (λ x. tells → IsDurableFor k d (made x) v)
      → IfOk r (λ x. tells → IsDurableFor k c (made x) v)
  durable_as (Ok x) made tells c d v same durable = λ told. subst (λ (e : Command). IsDurableFor k e (made x) v)
      (sym same) (durable told)
  durable_as (Err e) made tells c d v same durable = tt

  -- a side stands for the same where the volume holds the same
  pub state_over : (was is : volume.State) → SameContents was is → (db : Db) (n : Numbers S U) (s : State Operation)
      → IsStateOf k (present was) db n s → IsStateOf k (present is) db n s
  state_over was is same db n s of = record {
    log = k.framed (kept_of s) (present was) (present is) db
        (each_of_all (λ name. is.log name ≡ was.log name) (k.names db).logs same.logs)
        (each_of_all (λ name. is.map name ≡ was.map name) (k.names db).maps same.maps) of.log;
    batches = of.batches;
    marks = of.marks;
  }

-- what a question answers, under the name of its command
module _ {Db S U E : Type 0} (k : Kind Db S U) (tells : Type 0) (was : Image) (db : Db) (n : Numbers S U) where
  -- of a good state whose lists size and root tell
  pub asked_told : (r : Result Answer E) (c d : Command) → c ≡ d
      → IfOk r (λ a. tells → (config : Config) (s : State Operation) → IsTold s → StandsGood k config was db n s
      → a ≡ (step config s d).0)
      → IfOk r (λ a. tells → (config : Config) (s : State Operation) → IsTold s → StandsGood k config was db n s
      → a ≡ (step config s c).0)
  asked_told r c d e ok = subst (λ (x : Command). IfOk r (λ a. tells → (config : Config) (s : State Operation)
      → IsTold s → StandsGood k config was db n s → a ≡ (step config s x).0)) (sym e) ok

  -- or of any
  pub asked : (r : Result Answer E) (c d : Command) → c ≡ d
      → IfOk r (λ a. tells → (config : Config) (s : State Operation) → StandsGood k config was db n s
      → a ≡ (step config s d).0)
      → IfOk r (λ a. tells → (config : Config) (s : State Operation) → IsTold s → StandsGood k config was db n s
      → a ≡ (step config s c).0)
  asked r c d e ok =
      asked_told r c d e (IfOk-weaker r _ _ (λ a is told config s lists. is told config s) ok)

  -- what fails so of any, fails so of these
  pub fails_as : (P : E → Type 0) (r : Result Answer E)
      → IfErr r (λ e. tells → (config : Config) (s : State Operation) → StandsGood k config was db n s → P e)
      → IfErr r (λ e. tells → (config : Config) (s : State Operation) → IsTold s → StandsGood k config was db n s
      → P e)
  fails_as P r fails = IfErr-weaker r _ _ (λ e is told config s lists. is told config s) fails

  -- where it is answered of each state for which the side stands
  pub asked_of : (r : Result Answer E) (c d : Command) → c ≡ d
      → IfOk r (λ a. (image : Image) (s : State Operation) → IsStateOf k image db n s → (config : Config)
      → a ≡ (step config s d).0)
      → IfOk r (λ a. tells → (config : Config) (s : State Operation) → IsTold s → StandsGood k config was db n s
      → a ≡ (step config s c).0)
  asked_of (Ok a) c d e ok = λ told config s lists stands.
      subst (λ (x : Command). a ≡ (step config s x).0) (sym e) (ok was s stands.is config)
  asked_of (Err f) c d e ok = tt
