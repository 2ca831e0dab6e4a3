-- At which size and in which state a volume is opened: the last applied size whose witness is kept, and the last commit.
use Rattle.std.specs.Prelude.{◌≡◌, ℕ, ◌+◌, ◌≤◌, min, Bool, ◌&&◌, nat_le, nat_lt, is_some, List, [], ◌∷◌, take, if◌then◌else◌}
use Rattle.volume_base.specs.Log.{Log, end_of}
use Rattle.volume_base.specs.Moments.{Image}
use Rattle.log_model.specs.Meaning.{Meaning}
use Rattle.log_model.specs.Machine.{State}
use Rattle.log_model.specs.AppliedSizes.{sizes_to}
use Rattle.log_model.specs.Stored.{DatabaseNames}

-- Whether a log has an item at this position.
abbrev pub has : Log → ℕ → Bool
has log position = nat_le log.start position && nat_lt position (end_of log)

-- The last of these sizes that is at most this and whose position, counted from i, the log of witnesses keeps; or the one before, where there is none.
abbrev pub last_kept : ℕ → Log → ℕ → ℕ → List ℕ → ℕ
last_kept most witness before i [] = before
last_kept most witness before i (n ∷ ns) =
    last_kept most witness (if nat_le n most && has witness i then n else before) (i + 1) ns

-- The applied size at which an image is opened: the last that the log of operations reaches; as sizes rise, it is the greatest. It is 1 where none is kept.
abbrev pub opens_at : {Op : Type 0} → DatabaseNames → State Op → Image → ℕ
opens_at names s image = last_kept (end_of (image.log names.log)) (image.log names.witness) 1 0 s.sizes

-- The end of the last commit of a list that ends at or below this: the operations are counted from i, and the last that was found ends there.
abbrev pub commit_from : {Op V : Type 0} → Meaning Op V → ℕ → ℕ → ℕ → List Op → ℕ
commit_from m most i found [] = found
commit_from m most i found (op ∷ ops) =
    commit_from m most (i + 1) (if nat_lt i most && is_some (m.floor op) then i + 1 else found) ops

abbrev pub last_commit : {Op V : Type 0} → Meaning Op V → ℕ → List Op → ℕ
last_commit m most ops = commit_from m most 0 0 ops

-- The state of an image that is opened at this size.
abbrev pub opened_at : {Op : Type 0} → DatabaseNames → State Op → Image → ℕ → State Op
opened_at names s image n = record {
  ops = take n s.ops;
  sizes = sizes_to n s.sizes;
  durable = n;
  node_durable = n;
  prune = s.prune;
  start = (image.log names.log).start;
  wstart = (image.log names.witness).start;
  batches = [];
}

abbrev pub opened : {Op : Type 0} → DatabaseNames → State Op → Image → State Op
opened names s image = opened_at names s image (opens_at names s image)

-- An image is opened in turns: the full database without a cap at f, the compact one under the cap f at c, and the full one again, under the cap c,
-- at c.
pub record Realigned {Op V : Type 0} (m : Meaning Op V) (names : DatabaseNames) (state : State Op) (image : Image)
    (f c : ℕ) : Type 0 where
  pub opens : c ≡ opens_at names state image
  pub past : state.durable ≤ c
  pub within : c ≤ f
  pub again : last_commit m (min c f) state.ops ≡ c
