-- What a predicate has answered of the items of a log.
use Rattle.std.specs.Prelude.{ℕ, ◌-◌, ◌<◌, ◌≤◌, Bool, true, false}
use Rattle.journal_base.specs.Items.{Items, Holds}

-- At this position stands an item that is allowed, and the predicate has answered this of it.
pub record IsAnswered {A : Type 0} (items : Items A) (says : A → Bool → Type 0) (position : ℕ) (answer : Bool)
    : Type 0 where
  pub item : A
  pub here : Holds items position item
  pub allowed : items.admits item
  pub answered : says item answer

-- From the one position on and below the other no item matches.
abbrev pub NoneMatches : {A : Type 0} → Items A → (A → Bool → Type 0) → ℕ → ℕ → Type 0
NoneMatches items says from to = (position : ℕ) → from ≤ position → position < to → IsAnswered items says position false

-- Below the ceiling the last item that matches stands before this end.
abbrev pub IsLastMatch : {A : Type 0} → Items A → (A → Bool → Type 0) → ℕ → ℕ → ℕ → Type 0
IsLastMatch items says start ceiling end =
    (start < end) × (end ≤ ceiling) × IsAnswered items says (end - 1) true × NoneMatches items says end ceiling
