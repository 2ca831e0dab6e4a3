-- What a compact database serves of a state that is kept, and why it doesn't.
use Rattle.std.specs.Prelude.{◌≡◌, ◌⊎◌, ℕ, ◌-◌, ◌≤◌, ◌==◌, ◌&&◌, ◌||◌, nat_lt, nat_le, Bool, List, [], ◌∷◌, Option, Some, None, Result, Ok, Err, MatchResult, slice_get, if◌then◌else◌}
use Rattle.std.specs.List.{list_any}
use Rattle.codec_base.specs.declared.error.CodecError.{CodecError}
use Rattle.journal_base.specs.Answers.{IsOfRead}
use Rattle.journal_base.specs.Items.{Items, IsCorrupt}
use Rattle.volume_base.specs.declared.error.JournalError.{JournalError}
use Rattle.volume_base.specs.declared.error.JournalError.TheVariants.{ItemPruned, ItemOutOfRange, Corruption}
use Rattle.tree_shape.specs.Shape.{Shape}
use Rattle.tree_store.specs.declared.error.Error.TheVariants.{RangeOutOfBounds}
use Rattle.log_model.specs.Meaning.{Meaning}
use Rattle.target_codec.specs.declared.request.Request.{Request}
use Rattle.target_codec.specs.declared.request.Request.TheVariants as request
use Rattle.target_codec.specs.declared.response.Response.{Response}
use Rattle.target_codec.specs.declared.response.Response.TheVariants.{Operations, Boundary}
use Rattle.chain_core.specs.Answers.{IsOutside}
use Rattle.chain_core.specs.Errors.{from_journal}
use Rattle.chain_core.specs.declared.error.Error.{Error}
use Rattle.chain_core.specs.declared.error.Error.TheVariants.{Journal, Merkle}
use Rattle.witness_store.specs.Searched.{IsWitnessAt}
use Rattle.witness_store.specs.declared.witness.Witness.{Witness}
use Rattle.compact_db.specs.Rebuild.{rebuild_answer}
use Rattle.compact_db.specs.declared.verified.VerifiedWitness.{VerifiedWitness}

-- At this kept position stands this size; or at none.
abbrev pub IsKeptAt : List ℕ → ℕ → ℕ → Option ℕ → Type 0
IsKeptAt sizes start size None = (p : ℕ) → start ≤ p → slice_get sizes p ≡ Some size → ⊥
IsKeptAt sizes start size (Some p) = (start ≤ p) × (slice_get sizes p ≡ Some size)

-- Whether one of the kept witnesses is of this size.
abbrev pub has_size : List ℕ → ℕ → Bool
has_size sizes size = list_any (λ n. n == size) sizes

-- Whether the state of a size is kept: the last one is, in memory, and another where one of the kept witnesses is of
-- its size.
abbrev pub is_kept : ℕ → List ℕ → ℕ → Bool
is_kept tip sizes size = size == tip || has_size sizes size

module _ {F : Type 0} where
  -- Whether a state of this size is kept.
  abbrev pub kept_answer : ℕ → Bool → Result (Unit {0}) (Error F)
  kept_answer size kept = if kept then Ok tt else Err (Journal (ItemPruned (size - 1)))

  -- Whether an operation of a state is served, where the last state has so many operations: the state has operations,
  -- and no more than the last; it has this one; this is its commit; and the state is kept. The first test that fails
  -- answers.
  abbrev pub serve_answer : ℕ → ℕ → ℕ → Bool → Result (Unit {0}) (Error F)
  serve_answer tip size start kept =
      if nat_lt 0 size && nat_le size tip then
      (if nat_lt start size then
      (if nat_le (size - 1) start then kept_answer size kept else Err (Journal (ItemPruned start)))
      else Err (Merkle (RangeOutOfBounds start)))
      else Err (Merkle (RangeOutOfBounds size))

  -- The call answers as this says; or it fails by the volume, for want of memory, or, where this refuses nothing, as
  -- that says.
  abbrev pub AnswersAs : {T U : Type 0} → Result (Unit {0}) (Error F) → Result U (Error F) → Result T (Error F) → Type 0
  AnswersAs answer other result =
      MatchResult result (λ r. answer ≡ Ok tt)
      (λ e. (answer ≡ Err e) ⊎ (IsOutside e ⊎ ((answer ≡ Ok tt) × (other ≡ Err e))))

  -- The error is one of a read of these items, as a database's. Where they are told, corruption is of bytes that are
  -- none of them; and where the view of the log is within it besides, no position is missed.
  pub record IsLogFault {A : Type 0} (told within : Type 0) (items : Items A) (e : Error F) : Type 0 where
    pub cause : JournalError
    pub is : e ≡ from_journal cause
    pub of_read : IsOfRead cause
    pub corrupt : (p : ℕ) → cause ≡ Corruption p → told → IsCorrupt items p
    pub not_pruned : told → within → (p : ℕ) → cause ≡ ItemPruned p → ⊥
    pub not_out_of_range : told → within → (p : ℕ) → cause ≡ ItemOutOfRange p → ⊥

module _ {F D Op : Type 0} where
  -- The answer to a request of a state, of which this is derived, and of its commit.
  abbrev pub response_to : Request F → VerifiedWitness F D → Op → Response F Op D
  response_to (request.Operations size start max_ops) v op = Operations v.proof (op ∷ [])
  response_to (request.Boundary size start max_ops) v op = Boundary v.proof op v.witness.pinned_nodes

  -- A witness doesn't rebuild, for this cause. Where the items are told and the view is within the log, it stands
  -- there, and is of this size.
  pub record IsDamaged {V : Type 0} (s : Shape) (m : Meaning Op V) (decoded : List ℕ → Result Op CodecError)
      (told within : Type 0) (items : Items (Witness F D)) (size : ℕ) (e : Error F) : Type 0 where
    pub position : ℕ
    pub witness : Witness F D
    pub here : told → within → IsWitnessAt items position witness × (witness.size ≡ size)
    pub why : rebuild_answer s m decoded witness ≡ Err e

  -- At a position of these items stands the witness of `v`, which is of this size and rebuilds with this commit.
  pub record IsRebuiltAt {V : Type 0} (s : Shape) (m : Meaning Op V) (decoded : List ℕ → Result Op CodecError)
      (items : Items (Witness F D)) (size : ℕ) (v : VerifiedWitness F D) (commit : Op) : Type 0 where
    pub position : ℕ
    pub here : IsWitnessAt items position v.witness
    pub sized : v.witness.size ≡ size
    pub rebuilt : rebuild_answer s m decoded v.witness ≡ Ok commit
