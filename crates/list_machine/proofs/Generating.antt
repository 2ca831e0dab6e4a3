-- Turns of the loops that generate commands.
use Rattle.std.proofs.Common.{◌≡◌, ℕ, suc, ◌+◌, ◌-◌, ◌<◌, Option, Some, None, List, [], ◌∷◌, ◌++◌, length, false, refl, ap, sym, subst, append_assoc, arith}
use Rattle.std.proofs.Math.Nat.{mod-lt}
use Rattle.std.proofs.lemmas.List.{append-nil}
use Rattle.std.specs.Prelude.{◌*◌, ◌^◌, ◌≤◌, slice_get}
use Rattle.std.specs.Io.KnownBytes.{Appends}
use Rattle.std.specs.Option.{option_map_or}
use Rattle.std.specs.Int.{w64, to_be_bytes}
use Rattle.command_text.specs.declared.command.Command.{Command}
use Rattle.command_text.specs.declared.command.Command.TheVariants.{New, Append}
use Rattle.command_text.specs.declared.command.Answer.{Answer}
use Rattle.command_text.specs.declared.command.Answer.TheVariants.{Refused}
use Rattle.command_text.specs.declared.command.Reply.{Reply}
use Rattle.log_model.specs.declared.refusal.Refusal.{Refusal}
use Rattle.list_machine.specs.Generator.{draw, drawn, appends, appends_in, rounds, round_of, next_round, is_refusal, refusals, summary_lines, summary_of}
use Rattle.list_machine.specs.declared.generator.Round.{Round}

-- what stays has nothing added
pub nothing_added : (w : Option (List ℕ)) → Appends w w []
nothing_added None = tt
nothing_added (Some bytes) = sym (append-nil bytes)

-- a round has at most sixteen appends
pub appends_few : (r : Round) → appends_in r ≤ 16
unfolding appends_in draw
appends_few r =
    let y : ℕ = r.drawn * 6364136223846793005 + 1442695040888963407 in
    let below = mod-lt y {m = 2 ^ 64} (omega arith) in
    omega (arith, below)

-- the number that is drawn last, after one turn
pub drawn_turn : (k i x : ℕ) → i < k → drawn (k - (i + 1)) (draw x) ≡ drawn (k - i) x
drawn_turn k i x within =
    let e : k - i ≡ suc (k - (i + 1)) = omega arith in
    rw e refl

-- the appends, after one turn
pub appends_turn : (cs : List Command) (b k i x : ℕ) → i < k
    → (cs ++ (Append b (to_be_bytes w64 (draw x)) ∷ [])) ++ appends b (k - (i + 1)) (draw x) ≡ cs ++ appends b (k - i) x
appends_turn cs b k i x within =
    let e : k - i ≡ suc (k - (i + 1)) = omega arith in
    rw e (append_assoc cs (Append b (to_be_bytes w64 (draw x)) ∷ []) (appends b (k - (i + 1)) (draw x)))

-- the rounds, after one turn
pub rounds_turn : (cs : List Command) (k i : ℕ) (r : Round) → i < k
    → (cs ++ round_of r) ++ rounds (k - (i + 1)) (next_round r) ≡ cs ++ rounds (k - i) r
rounds_turn cs k i r within =
    let e : k - i ≡ suc (k - (i + 1)) = omega arith in
    rw e (append_assoc cs (round_of r) (rounds (k - (i + 1)) (next_round r)))

-- a round, command by command
pub round_joined : (cs us : List Command) (r : Round) (seal apply release : Command)
    → (((((cs ++ (New None ∷ [])) ++ appends r.number (appends_in r) (draw r.drawn)) ++ (seal ∷ [])) ++ (apply ∷ []))
    ++ (release ∷ [])) ++ us
    ≡ cs ++ (New None ∷ (appends r.number (appends_in r) (draw r.drawn) ++ (seal ∷ apply ∷ release ∷ us)))
round_joined cs us r seal apply release = simp append_assoc

-- ---- the summary

-- what is no refusal isn't told as one
pub other_answer : (a : Answer) → ((why : Refusal) → a ≡ Refused why → ⊥) → false ≡ is_refusal a
unfolding is_refusal
other_answer (Refused why) none = absurd (none why refl)
other_answer _ none = refl

-- of no reply nothing is told
pub nothing_summed : (w : Option (List ℕ)) (count : ℕ) (replies : List Reply)
    → slice_get replies (length replies - 1) ≡ None → Appends w w (summary_of count replies)
unfolding summary_of
nothing_summed w count replies none =
    let lines : Option Reply → List ℕ = λ last. option_map_or (summary_lines count (refusals replies)) last [] in
    subst (λ (t : List ℕ). Appends w w t) (sym (ap lines none)) (nothing_added w)

-- of some the lines are told
pub last_summed : (count : ℕ) (replies : List Reply) (last : Reply) → slice_get replies (length replies - 1) ≡ Some last
    → summary_of count replies ≡ summary_lines count (refusals replies) last
unfolding summary_of
last_summed count replies last is =
    let lines : Option Reply → List ℕ = λ last. option_map_or (summary_lines count (refusals replies)) last [] in
    ap lines is
