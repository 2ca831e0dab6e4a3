-- A log as a part of one list, by bounds on its start and its end.
use Rattle.std.specs.Prelude.{◌≡◌, ℕ, ◌≤◌, List, length, take, drop}
use Rattle.volume_base.specs.Log.{Log, end_of}

-- The log has the list's items from its start on, to the list's end.
pub record IsRunOf (list : List (List ℕ)) (log : Log) : Type 0 where
  pub items : log.items ≡ drop log.start list
  pub within : log.start ≤ length list

-- The log has the list's items between its start and its end. Its start is at most the one bound, and its end at least
-- the other.
pub record IsPartOf (list : List (List ℕ)) (greatest_start least_end : ℕ) (log : Log) : Type 0 where
  pub items : log.items ≡ take (length log.items) (drop log.start list)
  pub within : end_of log ≤ length list
  pub start_high : log.start ≤ greatest_start
  pub end_low : least_end ≤ end_of log
