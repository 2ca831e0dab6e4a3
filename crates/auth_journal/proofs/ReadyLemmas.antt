-- What a crash leaves of a log that is made ready.
use Rattle.std.proofs.Common.{◌≡◌, ◌⊎◌, ⊎_elim, inl, inr, ℕ, ◌-◌, ◌<◌, ◌≤◌, max, List, [], drop, refl, sym, ◌∙◌, ap, subst, arith}
use Rattle.std.proofs.lemmas.Bool.{cases_lt}
use Rattle.std.proofs.lemmas.List.{take_all}
use Rattle.volume_base.specs.Log.{Log, end_of, cut_to, pruned_to, cleared_at, Shrinks, Advances, BecomesOneOf}
use Rattle.volume_base.specs.Moments.{LogKeeps}
use Rattle.volume_base.specs.Volume.{State, PastStays, LogMoves, Follows, OnlyLeft}
use Rattle.volume_base.proofs.MomentLemmas.{past_joins, log_moves_wider, log_moves_joins, log_moves_after_idle}
use Rattle.merkle_full.proofs.SettleLemmas.{end_pruned}
use Rattle.auth_journal.specs.Searching.{Covers, Trims}

cut_all : (log : Log) (to : ℕ) → end_of log ≤ to → log ≡ cut_to log to
cut_all log to high = ap (λ (xs : List (List ℕ)). record { start = log.start; items = xs }) (sym (take_all (to - log.start) log.items (omega (arith, high))))

pruned_none : (log : Log) → log ≡ pruned_to log 0
pruned_none log =
    let start : log.start ≡ max log.start 0 = omega arith in
    let none : 0 ≡ 0 - log.start = omega arith in
    let one : log ≡ record { start = max log.start 0; items = log.items } = ap (λ n. record { start = n; items = log.items }) start in
    one ∙ ap (λ k. record { start = max log.start 0; items = drop k log.items }) none

cut_cleared : (size to : ℕ) → cleared_at size ≡ cut_to (cleared_at size) to
cut_cleared size to = ap (λ (xs : List (List ℕ)). record { start = size; items = xs }) (sym (take_all (to - size) [] (omega arith)))

module _ (least place : ℕ) where
  trims_cut : (old new : Log) → Shrinks least old new → Trims least place old new
  trims_cut old new step = (step.0, step.1, (0, omega arith, omega arith, step.2 ∙ pruned_none (cut_to old step.0)))

  trims_same : (log : Log) → Trims least place log log
  trims_same log = let to = max least (end_of log) in trims_cut log log (to, omega arith, cut_all log to (omega arith))

  trims_both : (point : ℕ) → point ≤ place → (old mid new : Log) → Shrinks least old mid → Advances point mid new → Trims least place old new
  trims_both point low old mid new cut goes =
      (cut.0, cut.1, subst (λ (l : Log). Advances place l new) cut.2 (goes.0, omega (arith, low, goes.1), goes.2, goes.3))

  -- the log is cut behind calls that only read
  pub trimmed_cut : (name : List ℕ) (a b c : State) → b.clock ≡ a.clock → PastStays a b → LogMoves name (Shrinks least) b c → LogMoves name (Trims least place) a c
  trimmed_cut name a b c clock past cut = log_moves_after_idle name (Trims least place) a b c clock past trims_same (log_moves_wider name (Shrinks least) (Trims least place) b c cut trims_cut)

  -- and then whole blobs are taken away
  pub trimmed_both : (name : List ℕ) (point : ℕ) (a b c d : State) → point ≤ place → b.clock ≡ a.clock → PastStays a b → LogMoves name (Shrinks least) b c → LogMoves name (Advances point) c d → LogMoves name (Trims least place) a d
  trimmed_both name point a b c d low clock past cut pruned =
      log_moves_after_idle name (Trims least place) a b d clock past trims_same
      (log_moves_joins name (Shrinks least) (Advances point) (Trims least place) b c d cut pruned trims_cut (trims_both point low))

  pub trimmed_none : (name : List ℕ) (a b : State) → b.clock ≡ a.clock → PastStays a b → LogKeeps name (Follows (a.log_left a.clock name) (Trims least place)) a b
  trimmed_none name a b clock past = record {
    past = past;
    during = λ t log lo hi left. let now : t ≡ a.clock = omega (arith, lo, hi, clock) in
        (log, (past.logs a.clock name log (omega arith)).0 (subst (λ n. b.log_left n name log) now left), trims_same log);
  }

pub keeps_follows : (name : List ℕ) (step : Log → Log → Type 0) (a b : State) → LogMoves name step a b → LogKeeps name (Follows (a.log_left a.clock name) step) a b
keeps_follows name step a b moves = record { past = moves.past; during = moves.this }

-- calls on the log behind calls that only read
pub follows_idle : (name : List ℕ) (step : Log → Log → Type 0) (a b c : State) → b.clock ≡ a.clock → PastStays a b → LogKeeps name (Follows (b.log_left b.clock name) step) b c → LogKeeps name (Follows (a.log_left a.clock name) step) a c
follows_idle name step a b c clock past keeps = record {
  past = past_joins a b c past keeps.past;
  during = λ t log lo hi left.
      let from = keeps.during t log (omega (arith, clock, lo)) hi left in
      (from.0, (past.logs a.clock name from.0 (omega arith)).0 (subst (λ n. b.log_left n name from.0) clock from.1), from.2);
}

pub emptied_none : (name : List ℕ) (made : Log) (a b : State) → b.clock ≡ a.clock → PastStays a b → LogKeeps name (Follows (a.log_left a.clock name) (BecomesOneOf made)) a b
emptied_none name made a b clock past = record {
  past = past;
  during = λ t log lo hi left. let now : t ≡ a.clock = omega (arith, lo, hi, clock) in
      (log, (past.logs a.clock name log (omega arith)).0 (subst (λ n. b.log_left n name log) now left), inl refl);
}

-- an empty log that is opened stays what it is
pub emptied_both : (name : List ℕ) (size end : ℕ) (a b c : State) → LogMoves name (BecomesOneOf (cleared_at size)) a b → OnlyLeft (b.log_left b.clock name) (cleared_at size) → LogMoves name (Shrinks end) b c
    → LogKeeps name (Follows (a.log_left a.clock name) (BecomesOneOf (cleared_at size))) a c
emptied_both name size end a b c cleared only opened = record {
  past = past_joins a b c cleared.past opened.past;
  during = λ t log lo hi left. ⊎_elim
      (λ early. let le : t ≤ b.clock = omega (arith, early) in cleared.this t log lo le ((opened.past.logs t name log le).0 left))
      (λ late.
      let was = opened.this t log late hi left in
      let from = cleared.this b.clock was.0 cleared.past.later (omega arith) was.1 in
      let same : log ≡ cleared_at size = was.2.2 ∙ ap (λ (l : Log). cut_to l was.2.0) (only was.0 was.1) ∙ sym (cut_cleared size was.2.0) in
      (from.0, from.1, inr same))
      (cases_lt t b.clock);
}

-- what is left of a pruned log ends where it was cut
pub ends_pruned : (name : List ℕ) (point : ℕ) (b c : State) → OnlyLeft (b.log_left b.clock name) (b.log name) → LogMoves name (Advances point) b c → c.log name ≡ pruned_to (b.log name) point → point ≤ end_of (b.log name)
    → (log : Log) → c.log_left c.clock name log → end_of log ≡ end_of (c.log name)
ends_pruned name point b c only moves is within log left =
    let was = moves.this c.clock log moves.past.later (omega arith) left in
    ap end_of was.2.3 ∙ end_pruned was.0 was.2.0 was.2.2 ∙ ap end_of (only was.0 was.1) ∙ sym (ap end_of is ∙ end_pruned (b.log name) point within)

pub covers_here : (log : Log) (first last place : ℕ) → first ≡ log.start → last ≡ end_of log → (first ≡ place) ⊎ ((first < place) × (place < last)) → Covers log place
covers_here log first last place start end (inl here) = inl (sym start ∙ here)
covers_here log first last place start end (inr within) = inr (omega (arith, start, within.0), omega (arith, end, within.1))
