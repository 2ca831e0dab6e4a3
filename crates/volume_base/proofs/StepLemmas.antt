-- The steps from an image to the next: each leaves what was left, and two cuts are one.
use Rattle.std.proofs.Common.{◌≡◌, inl, inr, ℕ, ◌-◌, ◌≤◌, max, min, List, refl, sym, ◌∙◌, ap, arith}
use Rattle.std.proofs.lemmas.List.{take_all}
use Rattle.std.proofs.lemmas.Bool.{cases_lt}
use Rattle.std.proofs.Math.Nat.{min-eq_left, min-eq_right}
use Rattle.volume_base.specs.Log.{Log, end_of, cut_to, Grows, Shrinks}

pub log_is : (a b : Log) → a.start ≡ b.start → a.items ≡ b.items → a ≡ b
log_is a b starts items =
    let one : a ≡ record { start = b.start; items = a.items } = ap (λ (n : ℕ). let made : Log = record { start = n; items = a.items } in made) starts in
    one ∙ ap (λ (l : List (List ℕ)). let made : Log = record { start = b.start; items = l } in made) items

pub cut_to_past : (log : Log) (end : ℕ) → end_of log ≤ end → cut_to log end ≡ log
cut_to_past log end le = ap (λ (l : List (List ℕ)). let made : Log = record { start = log.start; items = l } in made) (take_all (end - log.start) log.items (omega arith))

pub cut_to_lesser : (log : Log) (end : ℕ) → cut_to log (min end (end_of log)) ≡ cut_to log end
cut_to_lesser log end = elim (cases_lt end (end_of log)) [
  | inl before ↦ ap (cut_to log) (min-eq_left (omega arith))
  | inr past ↦ ap (cut_to log) (min-eq_right past) ∙ cut_to_past log (end_of log) (omega arith) ∙ sym (cut_to_past log end past)
]

pub shrinks_same : (end : ℕ) (log : Log) → Shrinks end log log
shrinks_same end log = (max end (end_of log), omega arith, sym (cut_to_past log (max end (end_of log)) (omega arith)))

pub grows_same : (contents : Log) (items : List (List ℕ)) (log : Log) → Grows contents items log log
grows_same contents items log = inl refl
