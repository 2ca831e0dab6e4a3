-- Calls that are set to fail, one call later.
use Rattle.std.proofs.Common.{◌≡◌, ℕ, ◌-◌, List, All, arith}
use Rattle.std.proofs.lemmas.List.Elements.{All-map}
use Rattle.stream_base.specs.Failing.{after_call}

-- with nothing set to fail, nothing is set to fail a call later
pub steady_after : (ahead : List ℕ) → All (λ n. n ≡ 0) ahead → All (λ n. n ≡ 0) (after_call ahead)
steady_after ahead h = All-map (λ n. n ≡ 0) (λ n. n - 1) ahead (λ k d lt. let e = h k d lt in omega arith)
