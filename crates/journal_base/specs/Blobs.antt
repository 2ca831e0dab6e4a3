-- A log goes by blobs of so many items.
use Rattle.std.specs.Prelude.{ℕ, ◌*◌, ◌/◌}

-- where the blob of a position begins
abbrev pub blob_start : ℕ → ℕ → ℕ
blob_start blob position = blob * (position / blob)
