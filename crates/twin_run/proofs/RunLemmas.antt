-- The ends of a run.
use Rattle.std.proofs.Common.{◌≡◌, ℕ, ◌+◌, ◌-◌, ◌^◌, ◌<◌, ◌≤◌, List, [], ◌∷◌, ◌++◌, length, drop, get_or, refl, sym, ◌∙◌, ap, subst, arith, append_assoc}
use Rattle.std.proofs.lemmas.List.{append-nil, length-append, length-drop, take_at, drop_all, drop_more}
use Rattle.codec_base.specs.Causes.{Rose}
use Rattle.command_text.specs.declared.command.Answer.TheVariants as answer
use Rattle.command_text.specs.declared.command.Command.{Command}
use Rattle.command_text.specs.declared.command.Reply.{Reply}
use Rattle.log_model.specs.Machine.{State}
use Rattle.tree_shape.proofs.PeakLemmas.{all-append}
use Rattle.list_machine.specs.Config.{Config}
use Rattle.list_machine.specs.Operation.{Operation}
use Rattle.list_machine.specs.Step.{step, reply}
use Rattle.list_machine.specs.Trace.{trace, replies_from, state_after, IsBegun, TellOneRoot}
use Rattle.twin_run.specs.declared.ending.Fault.{Fault}
use Rattle.twin_run.specs.declared.ending.Fault.TheVariants.{Volume, Corrupt, Memory}
use Rattle.twin_run.specs.Faults.{IsCorrupt}

-- no replies are the first ones
pub none_begun : (config : Config) (s : State Operation) (commands : List Command) (replies : List Reply)
    → replies ≡ [] → IsBegun replies (trace config s commands)
unfolding trace
none_begun config s commands replies e = rw e (record { front = refl; fewer = omega arith })

-- one reply more
pub first_pushed : (old new : List Reply) (r : Reply) → old ≡ [] → new ≡ old ++ (r ∷ []) → new ≡ r ∷ []
first_pushed old new r none e = rw (e, none) refl

pub one_more : (old new : List Reply) (r : Reply) (n : ℕ) → new ≡ old ++ (r ∷ []) → length old ≡ n
    → length new ≡ n + 1
one_more old new r n e count = ap length e ∙ omega (arith, length-append old (r ∷ []), count)

-- a count that stays below its last value didn't rise
pub not_risen : (before now : ℕ) → now ≡ before → before < 2 ^ 64 - 1 → Rose before now → ⊥
not_risen before now e low rose = omega (arith, e, low, rose)

pub only_memory : (fault : Fault) → (fault ≡ Volume → ⊥) → (IsCorrupt fault → ⊥) → fault ≡ Memory
only_memory Volume v c = absurd (v refl)
only_memory (Corrupt at) v c = absurd (c tt)
only_memory Memory v c = refl

-- ---- the replies of a run so far, and those that are left

module _ (config : Config) (s : State Operation) (commands : List Command) (replies : List Reply) (i : ℕ) where
  -- one command more is answered
  pub told_more : (all more : List Reply) (c : Command) (r : Reply) → i < length commands → get_or commands i c ≡ c
      → r ≡ reply (step config s c) → more ≡ replies ++ (r ∷ [])
      → replies ++ replies_from config s (drop i commands) ≡ all
      → more ++ replies_from config (step config s c).1 (drop (i + 1) commands) ≡ all
  told_more all more c r lt is answered pushed told =
      ap (λ (rs : List Reply). rs ++ replies_from config (step config s c).1 (drop (i + 1) commands)) pushed
      ∙ append_assoc replies (r ∷ []) (replies_from config (step config s c).1 (drop (i + 1) commands))
      ∙ ap (λ (x : Reply). replies ++ (x ∷ replies_from config (step config s c).1 (drop (i + 1) commands))) answered
      ∙ ap (λ (cs : List Command). replies ++ replies_from config s cs)
      (sym (drop_more commands i c lt ∙ ap (λ (x : Command). x ∷ drop (i + 1) commands) is))
      ∙ told

  -- some are left
  pub told_begun : (all : List Reply) → i < length commands
      → replies ++ replies_from config s (drop i commands) ≡ all → IsBegun replies all
  told_begun all lt told =
      let rest : List Reply = replies_from config s (drop i commands) in
      let some : 0 < length rest = more (drop i commands) (simp length-drop (omega arith)) in
      let l = length-append replies rest in
      subst (IsBegun replies) told (record {
        front = sym (take_at replies rest (length replies) refl);
        fewer = omega
            (arith, l, some);
      })
    where
      more : (cs : List Command) → 0 < length cs → 0 < length (replies_from config s cs)
      more [] h = absurd (omega (arith, h))
      more (c ∷ cs) h = omega arith

  -- none is left
  pub told_all : (all : List Reply) → length commands ≤ i → replies ++ replies_from config s (drop i commands) ≡ all
      → replies ≡ all
  told_all all past told = sym (append-nil replies) ∙ ap (λ
      (cs : List Command). replies ++ replies_from config s cs) (sym (drop_all i commands past)) ∙ told

-- the opening alone is told
pub told_first : (config : Config) (s : State Operation) (commands : List Command) (opening : Reply)
    (replies : List Reply) → replies ≡ opening ∷ [] → opening ≡ reply (answer.Opened (length s.ops) s.start, s)
    → replies ++ replies_from config s commands ≡ trace config s commands
unfolding trace
told_first config s commands opening replies e f = rw (e, f) refl

-- ---- the roots of both databases

pub none_tell : (replies : List Reply) → replies ≡ [] → TellOneRoot replies
none_tell replies e = subst TellOneRoot (sym e) tt

pub more_tell : (replies more : List Reply) (r : Reply) → more ≡ replies ++ (r ∷ [])
    → r.full_root ≡ r.compact_root → TellOneRoot replies → TellOneRoot more
more_tell replies more r e one tell =
    subst TellOneRoot (sym e)
    (all-append (λ (x : Reply). x.full_root ≡ x.compact_root) replies (r ∷ []) tell (one, tt))

-- ---- the state after commands

module _ (config : Config) (s last : State Operation) (commands : List Command) (i : ℕ)
    (leads : state_after config s (drop i commands) ≡ last) where
  pub state_next : (c : Command) → i < length commands → get_or commands i c ≡ c
      → state_after config (step config s c).1 (drop (i + 1) commands) ≡ last
  state_next c lt is = ap (state_after config s) (sym (drop_more commands i c lt
      ∙ ap (λ (x : Command). x ∷ drop (i + 1) commands) is)) ∙ leads

  pub state_last : length commands ≤ i → s ≡ last
  state_last past = ap (state_after config s) (sym (drop_all i commands past)) ∙ leads
