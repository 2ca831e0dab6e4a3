-- What a sealed batch keeps of its list.
use Rattle.std.specs.Prelude.{ℕ, ◌-◌, Option, None, slice_get, nat_le, if◌then◌else◌}
use Rattle.auth_journal.specs.Batched.{SealedItems, joined_items}

-- the item at a position, of those that the batch and its kept ancestors have
abbrev pub kept_item : {D Item : Type 0} → SealedItems D Item → ℕ → Option Item
kept_item b p = if nat_le b.nodes.first p then slice_get (joined_items b.items) (p - b.nodes.first) else None
