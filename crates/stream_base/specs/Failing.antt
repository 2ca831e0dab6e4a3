-- Calls that are set to fail.
use Rattle.std.specs.Prelude.{◌≡◌, ℕ, ◌-◌, List, All, map}

-- for each failure that was set, which call from now it is (1 is the next, 0 is over); and how often a call has failed
pub record Failing : Type 0 where
  pub ahead : List ℕ
  pub faults : ℕ

-- nothing is set to fail
abbrev pub IsSteady : Failing → Type 0
IsSteady failing = All (λ n. n ≡ 0) failing.ahead

-- what was set, one call later
abbrev pub after_call : List ℕ → List ℕ
after_call ahead = map (λ n. n - 1) ahead
