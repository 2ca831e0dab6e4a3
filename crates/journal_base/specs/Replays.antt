-- Where a replay stands.
use Rattle.std.specs.Prelude.{ℕ}
use Rattle.journal_base.specs.declared.replay.Replay.{Replay}

-- the journal that is replayed
abbrev pub journal_of : {J : Type 0} → Replay J → J
journal_of replay = replay.journal.now

-- the position of the next item, and the one at which the replay ends
abbrev pub next_of : {J : Type 0} → Replay J → ℕ
next_of replay = replay.next

abbrev pub end_at : {J : Type 0} → Replay J → ℕ
end_at replay = replay.end
