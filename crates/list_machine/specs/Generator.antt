-- The commands that are generated, and the summary of their run.
use Rattle.std.specs.Prelude.{◌≡◌, ◌≤◌, ℕ, zero, suc, ◌+◌, ◌-◌, ◌*◌, ◌/◌, ◌%◌, ◌^◌, ◌==◌, Bool, true, false, List, [], ◌∷◌, ◌++◌, length, count_by, codes, slice_get, None, if◌then◌else◌}
use Rattle.std.specs.Int.{w64, to_be_bytes}
use Rattle.std.specs.Option.{option_map_or}
use Rattle.stream_base.specs.Writing.{text_then}
use Rattle.line_text.specs.Text.{numbered, titled}
use Rattle.command_text.specs.declared.command.Answer.{Answer}
use Rattle.command_text.specs.declared.command.Answer.TheVariants.{Refused}
use Rattle.command_text.specs.declared.command.Command.{Command}
use Rattle.command_text.specs.declared.command.Command.TheVariants.{New, Append, Seal, Apply, Release, Commit, Prune}
use Rattle.command_text.specs.declared.command.Reply.{Reply}
use Rattle.list_machine.specs.Config.{standard_config}
use Rattle.list_machine.specs.Trace.{trace, state_after, fresh_state}
use Rattle.list_machine.specs.declared.generator.Round.{Round}

-- ---- the commands

-- The number that is drawn after x.
unfoldable pub draw : ℕ → ℕ
draw x = (x * 6364136223846793005 + 1442695040888963407) % 2 ^ 64

-- The last of so many that are drawn after x.
abbrev pub drawn : ℕ → ℕ → ℕ
drawn zero x = x
drawn (suc k) x = drawn k (draw x)

-- So many appends to batch b, each of the eight bytes of the next number.
abbrev pub appends : ℕ → ℕ → ℕ → List Command
appends b zero x = []
appends b (suc k) x = Append b (to_be_bytes w64 (draw x)) ∷ appends b k (draw x)

-- How many appends a round has: one at least, and at most sixteen.
unfoldable pub appends_in : Round → ℕ
appends_in r = 1 + draw r.drawn / 2 ^ 60

-- A commit behind each eighth round, and a prune to the last floor behind each thirty-second.
abbrev pub upkeep : ℕ → ℕ → List Command
upkeep passed floor =
    (if passed % 8 == 0 then Commit ∷ [] else []) ++ (if passed % 32 == 0 then Prune floor ∷ [] else [])

-- The commands of a round: a batch is filled, sealed with the last commit's location as its floor, applied and let go.
abbrev pub round_of : Round → List Command
round_of r =
    New None ∷ appends r.number (appends_in r) (draw r.drawn)
    ++ (Seal r.number None (r.size - 1) ∷ Apply r.number ∷ Release r.number ∷ upkeep (r.number + 1) (r.size - 1))

-- The round behind it.
abbrev pub next_round : Round → Round
next_round r = record {
  number = r.number + 1;
  drawn = drawn (appends_in r) (draw r.drawn);
  size = r.size + appends_in r + 1;
}

-- The commands of so many rounds, from one on; and the round behind these.
abbrev pub rounds : ℕ → Round → List Command
rounds zero r = []
rounds (suc n) r = round_of r ++ rounds n (next_round r)

abbrev pub round_after : ℕ → Round → Round
round_after zero r = r
round_after (suc n) r = round_after n (next_round r)

abbrev pub first_round : ℕ → Round
first_round x = record { number = 0; drawn = x; size = 1 }

-- The commands of n rounds that begin with the number x.
abbrev pub generated : ℕ → ℕ → List Command
generated x n = rounds n (first_round x)

-- ---- the summary

-- Whether an answer refuses its command.
unfoldable pub is_refusal : Answer → Bool
is_refusal (Refused why) = true
is_refusal _ = false

-- How many of these replies do.
abbrev pub refusals : List Reply → ℕ
refusals replies = count_by (λ (r : Reply). is_refusal r.answer) replies

-- The four lines: of the rounds, of the refused, and of the size and the root in the last reply.
abbrev pub summary_lines : ℕ → ℕ → Reply → List ℕ
summary_lines count refused last =
    text_then (numbered (codes "rounds ") count)
    (text_then (numbered (codes "\nsize ") last.size)
    (text_then (numbered (codes "\nrefused ") refused)
    (text_then (titled (codes "\nroot ") last.full_root) (codes "\n"))))

-- The summary of a run of so many rounds by its replies; nothing where there is none.
unfoldable pub summary_of : ℕ → List Reply → List ℕ
summary_of count replies =
    option_map_or (summary_lines count (refusals replies)) (slice_get replies (length replies - 1)) []

-- ---- its law

-- No command of the run is refused that a fresh volume begins, and it ends at the size that the rounds count.
pub record IsAccepted (x n : ℕ) : Type 0 where
  pub accepted : refusals (trace standard_config fresh_state (generated x n)) ≡ 0
  pub size : length (state_after standard_config fresh_state (generated x n)).ops ≡ (round_after n (first_round x)).size

abbrev pub GeneratedAreAccepted : Type 0
GeneratedAreAccepted = (x n : ℕ) → n ≤ 10000 → IsAccepted x n
