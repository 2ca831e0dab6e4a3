-- The moments of a run.
use Rattle.std.proofs.Common.{◌≡◌, ◌⊎◌, inl, inr, ⊎_elim, ℕ, ◌+◌, ◌<◌, ◌≤◌, List, [], ◌∷◌, ◌++◌, length, drop, take, get_or, refl, sym, ◌∙◌, ap, subst, arith, append_assoc}
use Rattle.std.proofs.lemmas.List.{length-append, drop_all, drop_more, take_at}
use Rattle.volume_base.specs.Moments.{LeftAt, EachNow, Between, Turns, Covers, present}
use Rattle.volume_base.specs.Volume as volume
use Rattle.volume_base.specs.Volume.{PastStays}
use Rattle.volume_base.proofs.TurnLemmas.{between_at, covers_step, covers_more, covers_last, covers_later, image_back}
use Rattle.log_model.specs.Machine.{State}
use Rattle.command_text.specs.declared.command.Command.{Command}
use Rattle.command_text.specs.declared.command.Reply.{Reply}
use Rattle.list_machine.specs.Config.{Config, standard_config}
use Rattle.list_machine.specs.Operation.{Operation}
use Rattle.list_machine.specs.Starts.{opened_from}
use Rattle.list_machine.specs.Step.{step}
use Rattle.list_machine.specs.Trace.{states_from}
use Rattle.twin_run.specs.Outcome.{StandsThroughout, StandsSoFar}
use Rattle.twin_run.specs.Standing.{Stands, Covered, CoversAll, CoversSome, BeginsAt}

-- A run that began with what stands for one state, and opened in another, has come by so many commands to this one. At
-- each moment so far a crash leaves what stands for the states that it passed, one after another, and now for this one.
pub record HasPassed (config : Config) (start first : State Operation) (commands : List Command) (i : ℕ)
    (here : State Operation) (old now : volume.State) : Type 0 where
  pub before : List (State Operation)
  pub passed : before ++ states_from config here (drop i commands) ≡ states_from config first commands
  pub count : length before ≡ i
  pub covers : Covered config ((start ∷ before) ++ (here ∷ [])) old now

-- a state, and those behind it
behind : (config : Config) (here : State Operation) (commands : List Command)
    → (rest : List (State Operation)) × (states_from config here commands ≡ here ∷ rest)
behind config here [] = ([], refl)
behind config here (c ∷ cs) = (states_from config (step config here c).1 cs, refl)

-- before a run
pub none_passed : (config : Config) (start first : State Operation) (commands : List Command) (now : volume.State)
    (replies : ℕ) → replies ≡ 0 → EachNow (Stands config start) now
    → CoversSome config start first commands replies now now
none_passed config start first commands now replies none stands =
    inl (subst (λ (n : ℕ). Covered config (take (n + 1) (start ∷ states_from config first commands)) now now)
    (sym none) (omega arith, between_at (LeftAt now) now.clock (Stands config start) stands))

module _ (config : Config) (start first : State Operation) (commands : List Command) where
  -- it has opened
  pub opened_so : (old new : volume.State)
      → Turns (LeftAt new) old.clock new.clock (Stands config start) (Stands config first)
      → HasPassed config start first commands 0 first old new
  opened_so old new turns = record {
    before = [];
    passed = refl;
    count = refl;
    covers = (turns.turn, turns.begun, turns.within, turns.first, (turns.within, turns.second));
  }

  module _ (i : ℕ) (here : State Operation) (old now : volume.State)
      (run : HasPassed config start first commands i here old now) where
    pub stands_here : EachNow (Stands config here) now
    stands_here = covers_last (LeftAt now) (Stands config) old.clock now.clock (start ∷ run.before) here run.covers

    -- these are the first of the states of the whole run
    pub first_passed : (n : ℕ) → n ≡ i + 2
        → Covered config (take n (start ∷ states_from config first commands)) old now
    first_passed n is =
        let front : List (State Operation) = (start ∷ run.before) ++ (here ∷ []) in
        let next = behind config here (drop i commands) in
        let count : length run.before ≡ i = run.count in
        let long : length front ≡ n = omega (arith, length-append (start ∷ run.before) (here ∷ []), count, is) in
        let all : front ++ next.0 ≡ start ∷ states_from config first commands =
        append_assoc (start ∷ run.before) (here ∷ []) next.0
        ∙ ap (λ (states : List (State Operation)). start ∷ (run.before ++ states)) (sym next.1)
        ∙ ap (λ (states : List (State Operation)). start ∷ states) run.passed in
        subst (λ (states : List (State Operation)). Covered config states old now)
        (sym (take_at front next.0 n long)
        ∙ ap (λ (states : List (State Operation)). take n states) all) run.covers

    -- of a run that ended with a reply for each command so far
    pub passed_some : (replies : ℕ) → replies ≡ i → CoversSome config start first commands replies old now
    passed_some replies is = inr (first_passed (replies + 2) (omega (arith, is)))

    -- and where no command is left these are all
    pub passed_all : length commands ≤ i → CoversAll config start first commands old now
    passed_all past =
        let all : run.before ++ (here ∷ []) ≡ states_from config first commands =
        ap (λ (cs : List Command). run.before ++ states_from config here cs) (sym (drop_all i commands past))
        ∙ run.passed in
        subst (λ (states : List (State Operation)). Covered config (start ∷ states) old now) all run.covers

    -- up to a later moment
    module _ (new : volume.State) (past : PastStays now new) where
      so_far : Covers (LeftAt new) (Stands config) old.clock now.clock ((start ∷ run.before) ++ (here ∷ []))
      so_far = covers_later (LeftAt now) (LeftAt new) now.clock (image_back now new past) (Stands config) old.clock
          now.clock ((start ∷ run.before) ++ (here ∷ [])) (omega arith) run.covers

      stayed : Between (LeftAt new) now.clock new.clock (Stands config here)
          → HasPassed config start first commands i here old new
      stayed during = record {
        before = run.before;
        passed = run.passed;
        count = run.count;
        covers = covers_more (LeftAt new) (Stands config) old.clock now.clock new.clock (start ∷ run.before) here
            past.later so_far during;
      }

      -- a step is done
      pub stepped : (c : Command) → i < length commands → get_or commands i c ≡ c
          → Turns (LeftAt new) now.clock new.clock (Stands config here) (Stands config (step config here c).1)
          → HasPassed config start first commands (i + 1) (step config here c).1 old new
      stepped c lt is turns =
          let next : State Operation = (step config here c).1 in
          let count : length run.before ≡ i = run.count in record {
            before = run.before ++ (here ∷ []);
            passed = append_assoc run.before (here ∷ []) (states_from config next (drop (i + 1) commands))
                ∙ ap (λ (cs : List Command). run.before ++ states_from config here cs)
                (sym (drop_more commands i c lt ∙ ap (λ (x : Command). x ∷ drop (i + 1) commands) is))
                ∙ run.passed;
            count = omega (arith, length-append run.before (here ∷ []), count);
            covers = subst (λ (states : List (State Operation)). Covered config (start ∷ states) old new)
                (sym (append_assoc run.before (here ∷ []) (next ∷ [])))
                (covers_step (LeftAt new) (Stands config) old.clock now.clock new.clock (start ∷ run.before) here next
                past.later so_far turns);
          }

-- a run of no reply: its opening has failed
pub opening_failed : (config : Config) (start first : State Operation) (commands : List Command) (old new : volume.State)
    (replies : ℕ) → replies ≡ 0 → PastStays old new
    → Between (LeftAt new) old.clock new.clock (Stands config start)
    ⊎ Turns (LeftAt new) old.clock new.clock (Stands config start) (Stands config first)
    → CoversSome config start first commands replies old new
opening_failed config start first commands old new replies none past = ⊎_elim
    (λ during. inl (subst (λ (n : ℕ). Covered config (take (n + 1) (start ∷ states_from config first commands)) old new)
    (sym none) (past.later, during)))
    (λ turns. passed_some config start first commands 0 first old new
    (opened_so config start first commands old new turns) replies none)

-- a run of which a step has failed
pub step_failed : (config : Config) (start first : State Operation) (commands : List Command) (i : ℕ)
    (here : State Operation) (old now new : volume.State) → HasPassed config start first commands i here old now
    → PastStays now new → (c : Command) → i < length commands → get_or commands i c ≡ c
    → (replies : ℕ) → replies ≡ i + 1 → Between (LeftAt new) now.clock new.clock (Stands config here)
    ⊎ Turns (LeftAt new) now.clock new.clock (Stands config here) (Stands config (step config here c).1)
    → CoversSome config start first commands replies old new
step_failed config start first commands i here old now new run past c lt is replies count = ⊎_elim
    (λ during. inl (first_passed config start first commands i here old new
    (stayed config start first commands i here old now run new past during) (replies + 1) (omega (arith, count))))
    (λ turns. passed_some config start first commands (i + 1) (step config here c).1 old new
    (stepped config start first commands i here old now run new past c lt is turns) replies count)

-- a run under the program's configuration
module _ (config : Config) (commands : List Command) (old new : volume.State) (is : config ≡ standard_config) where
  pub standard_throughout : ((s : State Operation) → BeginsAt config commands s old
      → CoversAll config s (opened_from config s (present old)) commands old new) → StandsThroughout commands old new
  standard_throughout stands = subst (λ (k : Config). (s : State Operation) → BeginsAt k commands s old
      → CoversAll k s (opened_from k s (present old)) commands old new) is stands

  pub standard_so_far : (said : List Reply) → ((s : State Operation) → BeginsAt config commands s old
      → CoversSome config s (opened_from config s (present old)) commands (length said) old new)
      → StandsSoFar commands old new said
  standard_so_far said stands = subst (λ (k : Config). (s : State Operation) → BeginsAt k commands s old
      → CoversSome k s (opened_from k s (present old)) commands (length said) old new) is stands
