-- Where both databases open of contents that stand for a good state.
use Rattle.std.proofs.Common.{◌≡◌, ◌⊎◌, inl, inr, ℕ, zero, suc, ◌<◌, ◌≤◌, ◌&&◌, List, [], ◌∷◌, length, take, refl, sym, ◌∙◌, ap, arith}
use Rattle.std.specs.Prelude.{nat_le, Contains}
use Rattle.std.proofs.lemmas.List.{length-map, length-take-le}
use Rattle.tree_shape.specs.Hashing.{Hashing}
use Rattle.tree_shape.specs.Shape.{Shape}
use Rattle.volume_base.specs.Log.{Log, end_of}
use Rattle.volume_base.specs.Moments.{Image}
use Rattle.log_model.specs.Good.{EndsWithCommit, AnyList, IsDurable, IsGood}
use Rattle.log_model.specs.Machine.{State}
use Rattle.log_model.specs.Meaning.{Meaning}
use Rattle.log_model.specs.Opening.{has, last_kept, last_commit, opens_at}
use Rattle.log_model.specs.Stored.{DatabaseNames, StandsFor}
use Rattle.log_model.proofs.LogLemmas.{ends_at}
use Rattle.log_model.proofs.OpeningLemmas.{applied_some, commit_below, commit_past, good_front, opens_applied, opens_at_cap, opens_past, rise_all, rises_from_zero}
use Rattle.log_model.proofs.SizeLemmas.{either}
use Rattle.list_machine.proofs.OpeningParts.{floor_below, last_here, last_taken}

-- of a list that was applied at 1 alone it opens at 1
pub one_kept : (most : ℕ) (witness : Log) (sizes : List ℕ) → sizes ≡ 1 ∷ [] → last_kept most witness 1 0 sizes ≡ 1
one_kept most witness sizes one =
    ap (last_kept most witness 1 0) one
    ∙ either (λ (n : ℕ). n ≡ 1) (nat_le 1 most && has witness 0) 1 1 (λ e. refl) (λ e. refl)

module _ {D Op V : Type 0} (shape : Shape) (h : Hashing D) (spelling : D → List ℕ) (m : Meaning Op V)
    (allowed : V → Type 0) (first : Op) (names : DatabaseNames) (s : State Op) (image : Image)
    (good : IsGood m AnyList allowed first s) (stands : StandsFor shape h spelling m names s image) where
  -- where the operation log begins and ends, which operations it has, and where its last commit ends
  abbrev pub Start : ℕ
  Start = (image.log names.log).start

  abbrev pub End : ℕ
  End = end_of (image.log names.log)

  abbrev pub Listed : List Op
  Listed = take End s.ops

  abbrev pub Last : ℕ
  Last = last_commit m End s.ops

  -- where it is opened
  abbrev pub Size : ℕ
  Size = opens_at names s image

  within : End ≤ length s.ops
  within = (let le = stands.full.operations.within in omega (arith, le, length-map s.ops m.encoding))

  pub listed_count : length Listed ≡ End
  listed_count = length-take-le End s.ops within

  pub last_listed : last_commit m (length Listed) Listed ≡ Last
  last_listed = ap (λ (n : ℕ). last_commit m n Listed) listed_count ∙ last_taken m End End s.ops (omega arith)

  pub last_high : Last ≤ End
  last_high = commit_below m End 0 0 s.ops (omega arith)

  pub last_within : Last ≤ length s.ops
  last_within = omega (arith, last_high, within)

  -- ---- applied sizes

  module _ (n : ℕ) (applied : Contains s.sizes n) where
    applied_low : 1 ≤ n
    applied_low = applied_some (length s.ops) n s.sizes good.log.sizes applied

    applied_high : n ≤ length s.ops
    applied_high =
        rise_all 0 (length s.ops) n s.sizes (rises_from_zero (length s.ops) s.sizes good.log.sizes) applied

    applied_ends : EndsWithCommit m (take n s.ops)
    applied_ends = ends_at m AnyList allowed first s.ops s.sizes applied.0 n n good.log.commits applied.1 applied.2

  size_applied : Contains s.sizes Size
  size_applied = opens_applied shape h spelling m AnyList allowed first names s image good

  pub size_low : 1 ≤ Size
  size_low = applied_low Size size_applied

  pub size_high : Size ≤ length s.ops
  size_high = applied_high Size size_applied

  pub size_past : s.durable ≤ Size
  size_past = opens_past shape h spelling m AnyList allowed first names s image good stands

  pub size_again : last_commit m Size s.ops ≡ Size
  size_again = last_here m Size s.ops size_low size_high (applied_ends Size size_applied)

  -- ---- what is durable

  -- the last commit is at or past it
  pub reached : s.durable ≤ Last
  reached = by good.log.durable
    where
      by : IsDurable s.sizes s.durable → s.durable ≤ Last
      by (inl is) =
          let end = stands.full.operations.end_low in
          let past = commit_past m End 0 0 s.ops s.durable (applied_low s.durable is) (applied_high s.durable is)
          (omega (arith, end)) (applied_ends s.durable is) in
          omega (arith, past)
      by (inr (none, one)) = omega (arith, none)

  pub low : Start ≤ s.node_durable
  low = (let a = stands.full.operations.start_high in let b = good.log.pruned in omega (arith, a, b))

  -- the log begins before it, or at 0 where nothing is
  begins : (Start < s.durable) ⊎ ((s.durable ≡ 0) × (s.sizes ≡ 1 ∷ []) × (Start ≡ 0))
  begins = by good.log.durable
    where
      by : IsDurable s.sizes s.durable → (Start < s.durable) ⊎ ((s.durable ≡ 0) × (s.sizes ≡ 1 ∷ []) × (Start ≡ 0))
      by (inl is) =
          let low = applied_low s.durable is in
          let high = applied_high s.durable is in
          let front = good_front m AnyList allowed first AnyList s.ops s.durable low high
          (applied_ends s.durable is) tt good.ops in
          let count = length-take-le s.durable s.ops high in
          let floor = floor_below m (take s.durable s.ops) (omega (arith, count, low)) front.floors in
          let start = stands.full.operations.start_high in
          let pruned = good.log.floor in
          inl (omega (arith, start, pruned, floor, count))
      by (inr (none, one)) =
          let start = stands.full.operations.start_high in
          let pruned = good.log.pruned in
          let nodes = good.log.nodes in
          inr (none, one, omega (arith, start, pruned, nodes, none))

  pub starts_below : Start < Size
  starts_below = by begins
    where
      by : (Start < s.durable) ⊎ ((s.durable ≡ 0) × (s.sizes ≡ 1 ∷ []) × (Start ≡ 0)) → Start < Size
      by (inl lt) = omega (arith, lt, size_past)
      by (inr (none, one, zero_start)) = omega (arith, zero_start, size_low)

  pub starts_some : (Start < Last) ⊎ ((Last ≡ 0) × (Start ≡ 0))
  starts_some = by begins
    where
      pick : (n : ℕ) → Start ≡ 0 → (Start < n) ⊎ ((n ≡ 0) × (Start ≡ 0))
      pick zero is = inr (refl, is)
      pick (suc n) is = inl (omega (arith, is))

      by : (Start < s.durable) ⊎ ((s.durable ≡ 0) × (s.sizes ≡ 1 ∷ []) × (Start ≡ 0))
          → (Start < Last) ⊎ ((Last ≡ 0) × (Start ≡ 0))
      by (inl lt) = inl (omega (arith, lt, reached))
      by (inr (none, one, zero_start)) = pick Last zero_start

  -- ---- where the compact database opens

  -- where no commit is there, nothing was applied but the first
  unbegun : Last ≡ 0 → s.sizes ≡ 1 ∷ []
  unbegun none = by good.log.durable
    where
      by : IsDurable s.sizes s.durable → s.sizes ≡ 1 ∷ []
      by (inl is) = absurd (omega (arith, none, reached, applied_low s.durable is))
      by (inr (zero_durable, one)) = one

  -- under the last commit it opens at that size, and so it does under 1 where none is there
  pub kept_last : last_kept Last (image.log names.witness) 1 0 s.sizes ≡ Size
  kept_last = sym (opens_at_cap m first names s image good.log)

  pub kept_one : Last ≡ 0 → (most : ℕ) → last_kept most (image.log names.witness) 1 0 s.sizes ≡ Size
  kept_one none most =
      one_kept most (image.log names.witness) s.sizes (unbegun none)
      ∙ sym (one_kept End (image.log names.witness) s.sizes (unbegun none))
