-- What reads of a database and of its batches answer.
use Rattle.std.specs.Prelude.{◌≡◌, ◌⊎◌, ℕ, ◌-◌, ◌<◌, ◌≤◌, ◌&&◌, ◌||◌, min, Bool, not, nat_lt, nat_le, is_none, List, [], ◌∷◌, map, Option, Some, None, Result, Ok, Err, Contains, slice_get, if◌then◌else◌}
use Rattle.std.specs.Option.{option_map_or}
use Rattle.volume_base.specs.Log.{end_of}
use Rattle.volume_base.specs.declared.error.JournalError.{JournalError}
use Rattle.volume_base.specs.declared.error.JournalError.TheVariants.{ItemPruned, ItemOutOfRange, Corruption}
use Rattle.journal_base.specs.Answers.{IsOfRead}
use Rattle.journal_base.specs.Items.{Items, Holds, IsCorrupt}
use Rattle.tree_store.specs.declared.error.Error as tree_error
use Rattle.auth_journal.specs.Kept.{kept_item}
use Rattle.log_model.specs.Meaning.{Meaning}
use Rattle.log_model.specs.Proofs.{proof_end}
use Rattle.log_model.specs.Reads.{or_else, refuse_if, unless_refused, unordered, first_below, read_refusal, many_refusal, value_at}
use Rattle.log_model.specs.declared.refusal.Refusal.{Refusal}
use Rattle.log_model.specs.declared.refusal.Refusal.TheVariants as refusal
use Rattle.chain_core.specs.Answers.{IsOutside, read_refusal_of}
use Rattle.chain_core.specs.Errors.{from_journal, from_tree}
use Rattle.chain_core.specs.Reached.{linked_item, parent_floor}
use Rattle.chain_core.specs.declared.commitment.Commitment.{Commitment}
use Rattle.chain_core.specs.declared.error.Error.{Error}
use Rattle.chain_core.specs.declared.error.Error.TheVariants as db_error
use Rattle.chain_core.specs.declared.error.Error.TheVariants.{Journal}
use Rattle.chain_core.specs.declared.pool.HeldBatch.{HeldBatch}
use Rattle.keyless_db.specs.Batches.{UnmerkleizedView, MerkleizedView, bounds_of}
use Rattle.keyless_db.specs.DbView.{DbView}

-- What is answered shows this; and it is refused for this reason, or by the outside.
abbrev pub AnswersAs : {F A T : Type 0} → (T → A) → Result A Refusal → Result T (Error F) → Type 0
AnswersAs shown answer (Ok made) = answer ≡ Ok (shown made)
AnswersAs shown answer (Err e) = IsOutside e ⊎ ((why : Refusal) × (answer ≡ Err why) × (read_refusal_of e ≡ Some why))

-- ---- reads of a list

-- A location below the start of what is kept.
abbrev pub below_start : ℕ → ℕ → Option Refusal
below_start start l = refuse_if (nat_lt l start) (refusal.ItemPruned l)

-- the answer, where the location isn't below the start of what is kept
abbrev pub from_start : {A : Type 0} → ℕ → ℕ → A → Result A Refusal
from_start start l answer = unless_refused (below_start start l) answer

-- The last of several locations, where it is at or past a size.
abbrev pub last_past : ℕ → List ℕ → Option Refusal
last_past size [] = None
last_past size (l ∷ []) = refuse_if (nat_le size l) (refusal.LocationOutOfBounds l size)
last_past size (l ∷ k ∷ ls) = last_past size (k ∷ ls)

-- Why several locations of a list of so many operations aren't read, whatever is kept: two don't rise, or the last is
-- past the end.
abbrev pub locations_refusal : ℕ → List ℕ → Option Refusal
locations_refusal size ls = or_else (unordered ls) (last_past size ls)

-- The first of several locations that is refused.
abbrev pub first_refused : (ℕ → Option Refusal) → List ℕ → Option Refusal
first_refused refuses [] = None
first_refused refuses (l ∷ ls) = or_else (refuses l) (first_refused refuses ls)

-- Why the first operations, so many, end with no commit of this floor: the last of them isn't kept, or is no commit.
abbrev pub floor_refusal : ℕ → ℕ → Option ℕ → Option Refusal
floor_refusal start count floor =
    or_else (refuse_if (nat_lt (count - 1) start) (refusal.ItemPruned (count - 1)))
    (refuse_if (is_none floor) (refusal.HistoricalFloorPruned count))

-- Why operations from a on aren't proved in the first n, which a commit ends: they begin at or past it, or the first of
-- them isn't kept.
abbrev pub late_refusal : ℕ → ℕ → ℕ → Option Refusal
late_refusal start n a = or_else (refuse_if (nat_le n a) (refusal.RangeOutOfBounds a)) (refuse_if (nat_lt a start) (refusal.ItemPruned a))

-- It isn't refused, and what is made is such; or it is refused for this reason, or by the outside.
abbrev pub ServesAs : {F T : Type 0} → Option Refusal → (T → Type 0) → Result T (Error F) → Type 0
ServesAs refused P (Ok made) = (refused ≡ None) × P made
ServesAs refused P (Err e) = IsOutside e ⊎ ((why : Refusal) × (refused ≡ Some why) × (read_refusal_of e ≡ Some why))

-- a tree's answer, with its errors as a database's
abbrev pub lifted_tree : {F T : Type 0} → Result T (tree_error.Error F) → Result T (Error F)
lifted_tree (Ok made) = Ok made
lifted_tree (Err e) = Err (from_tree e)

-- It is an answer of the tree, of which this holds.
pub record LiftsTree {F T : Type 0} (P : Result T (tree_error.Error F) → Type 0) (result : Result T (Error F)) : Type 0 where
  pub below : Result T (tree_error.Error F)
  pub is : result ≡ lifted_tree below
  pub says : P below

-- It is an error of a read of the item at this position: below the start, at or past the end, or of bytes that are
-- none.
pub record IsReadFault {F Item : Type 0} (tells : Type 0) (items : Items Item) (position : ℕ) (e : Error F) : Type 0 where
  pub cause : JournalError
  pub is : e ≡ from_journal cause
  pub of_read : IsOfRead cause
  pub pruned : (p : ℕ) → cause ≡ ItemPruned p → (p ≡ position) × (tells → position < items.log.start)
  pub out_of_range : (p : ℕ) → cause ≡ ItemOutOfRange p → (p ≡ position) × (tells → end_of items.log ≤ position)
  pub corrupt : (p : ℕ) → cause ≡ Corruption p → (p ≡ position) × (tells → IsCorrupt items position)

-- An operation stands at this position, which is allowed.
abbrev pub IsAllowedAt : {Op : Type 0} → Items Op → ℕ → Type 0
IsAllowedAt {Op} items position = (op : Op) × Holds items position op × items.admits op

-- It is the error of a read at one of these places, and the reads at all places before went well.
pub record IsFirstFault {F : Type 0} (well : ℕ → Type 0) (fault : ℕ → Error F → Type 0) (ls : List ℕ) (e : Error F) : Type 0 where
  pub place : ℕ
  pub location : ℕ
  pub here : slice_get ls place ≡ Some location
  pub earlier : (i l : ℕ) → i < place → slice_get ls i ≡ Some l → well l
  pub fails : fault location e

-- An operation stands at this position, which is allowed, and it is no commit.
pub record IsNoCommitAt {Op V : Type 0} (m : Meaning Op V) (items : Items Op) (position : ℕ) : Type 0 where
  pub op : Op
  pub here : Holds items position op
  pub allowed : items.admits op
  pub lacks : m.floor op ≡ None

-- It is an error of a read of the operation that ends the first so many; or this operation is no commit.
abbrev pub IsFloorFault : {F Op V : Type 0} → Type 0 → Meaning Op V → Items Op → ℕ → Error F → Type 0
IsFloorFault tells m items count e =
    IsReadFault tells items (count - 1) e
    ⊎ ((e ≡ db_error.HistoricalFloorPruned count) × (tells → IsNoCommitAt m items (count - 1)))

-- A proof of at most so many operations from a on in the first n reads this position: that of the commit that ends
-- these, or of one that it is of.
abbrev pub IsReadFor : ℕ → ℕ → ℕ → ℕ → Type 0
IsReadFor n a count p = (p ≡ n - 1) ⊎ ((a ≤ p) × (p < proof_end n a count))

-- The operations of a list that it reads are allowed.
abbrev pub AreAdmittedFor : {Op : Type 0} → (Op → Type 0) → List Op → ℕ → ℕ → ℕ → Type 0
AreAdmittedFor {Op} admits ops n a count =
    (p : ℕ) (op : Op) → IsReadFor n a count p → slice_get ops p ≡ Some op → admits op

-- It reads this position, and bytes stand there that are none of an operation.
abbrev pub IsCorruptFor : {Op : Type 0} → Items Op → ℕ → ℕ → ℕ → ℕ → Type 0
IsCorruptFor items n a count p = IsReadFor n a count p × IsCorrupt items p

-- ---- reads of a batch

-- The database stands at a state of the batch's chain.
abbrev pub IsInChain : {F D Op Cfg : Type 0} → MerkleizedView F D Op → DbView F D Op Cfg → Type 0
IsInChain b db = Contains (b.bounds.tip ∷ b.bounds.db ∷ b.bounds.ancestors) db.state

module _ {F D Op : Type 0} (pool : List (Option (HeldBatch (MerkleizedView F D Op)))) (b : UnmerkleizedView F D Op) where
  -- The states at which a batch that collects is read: those of its parent's chain, or that on which it stands.
  abbrev pub read_states : List (Commitment F D)
  read_states = option_map_or (λ p. p.bounds.tip ∷ p.bounds.db ∷ p.bounds.ancestors) (linked_item pool b.parent) (b.base ∷ [])

  -- From where on it keeps its operations: from its parent's chain on; and it keeps what it collects.
  abbrev pub chain_start : ℕ
  chain_start = min b.base.size (option_map_or (λ p. p.tree.nodes.first) (linked_item pool b.parent) b.base.size)

  -- The operation at a location that it has collected, or that its parent's chain keeps.
  abbrev pub pending_item : ℕ → Option Op
  pending_item l =
      if nat_le b.base.size l then slice_get b.tree.items (l - b.base.size)
      else option_map_or (λ p. kept_item p.tree l) (linked_item pool b.parent) None

  -- The floor below which it isn't read: that on which it builds; what it collects is never below.
  abbrev pub read_floor : ℕ → ℕ
  read_floor floor = min b.base.size (parent_floor bounds_of pool b.parent floor)

-- An operation that the chain doesn't keep is one that may be read.
abbrev pub IsReadable : {Op : Type 0} → (Op → Type 0) → List Op → Option Op → ℕ → Type 0
IsReadable {Op = Op} admits ops kept l = kept ≡ None → (op : Op) → slice_get ops l ≡ Some op → admits op

-- It is an error of a read of a batch: neither the chain nor a database of so many operations keeps one at this
-- location, or the read of the database's fails.
abbrev pub IsChainFault : {F Op : Type 0} → Type 0 → Items Op → ℕ → Option Op → ℕ → Error F → Type 0
IsChainFault tells items size kept l e =
    ((kept ≡ None) × (size ≤ l) × (e ≡ Journal (ItemPruned l))) ⊎ IsReadFault tells items l e

-- Where the chain keeps no operation at a location, a database of so many has one there that is allowed.
abbrev pub IsAllowedBelow : {Op : Type 0} → Type 0 → Items Op → ℕ → Option Op → ℕ → Type 0
IsAllowedBelow tells items size kept l = kept ≡ None → (l < size) × (tells → IsAllowedAt items l)

-- Which operations of a batch's list are kept: those from here on by its chain, and those within these bounds by a
-- database.
pub record Kept : Type 0 where
  pub chain : ℕ
  pub start : ℕ
  pub size : ℕ

-- Those of a batch whose chain keeps them from here on.
abbrev pub kept_over : {F D Op Cfg : Type 0} → ℕ → DbView F D Op Cfg → Kept
kept_over chain db = record { chain = chain; start = db.journal.items.start; size = db.state.size }

abbrev pub is_kept : Kept → ℕ → Bool
is_kept k l = nat_le k.chain l || (nat_le k.start l && nat_lt l k.size)

-- A location whose operation isn't kept.
abbrev pub lost : Kept → ℕ → Option Refusal
lost k l = refuse_if (not (is_kept k l)) (refusal.ItemPruned l)

-- Why a location of a list of so many operations isn't read, whatever is kept: it is at or past the end, or below this
-- floor.
abbrev pub location_refusal : ℕ → ℕ → ℕ → Option Refusal
location_refusal size floor l =
    or_else (refuse_if (nat_le size l) (refusal.LocationOutOfBounds l size)) (refuse_if (nat_lt l floor) (refusal.BelowInactivityFloor l))

-- Why several aren't: two don't rise, the last is at or past the end, or the first is below this floor.
abbrev pub floored_refusal : ℕ → ℕ → List ℕ → Option Refusal
floored_refusal size floor ls = or_else (locations_refusal size ls) (first_below floor refusal.BelowInactivityFloor ls)

module _ {Op V : Type 0} (m : Meaning Op V) where
  -- The value at a location of a batch's list, where its operation is kept.
  abbrev pub kept_value : List Op → Kept → ℕ → Result (Option V) Refusal
  kept_value list k l = unless_refused (lost k l) (value_at m list l)

  -- The same, where the location is in the list, and isn't below this floor.
  abbrev pub batch_answer : List Op → ℕ → Kept → ℕ → Result (Option V) Refusal
  batch_answer list floor k l = unless_refused (or_else (read_refusal list floor refusal.BelowInactivityFloor l) (lost k l)) (value_at m list l)

  -- The value is that of an operation that may be read, and stands at this location.
  abbrev pub IsReadAt : Items Op → ℕ → Option V → Type 0
  IsReadAt items l value = (op : Op) × Holds items l op × items.admits op × (value ≡ m.value op)

  -- So is each of several values, at its location.
  abbrev pub AreReadAt : Items Op → List ℕ → List (Option V) → Type 0
  AreReadAt items ls values =
      (i l : ℕ) (value : Option V) → slice_get ls i ≡ Some l → slice_get values i ≡ Some value → IsReadAt items l value

  -- Where the chain keeps no operation at a location, the value is that of one that a database of so many has there.
  abbrev pub IsReadBelow : Type 0 → Items Op → ℕ → Option Op → ℕ → Option V → Type 0
  IsReadBelow tells items size kept l value = kept ≡ None → (l < size) × (tells → IsReadAt items l value)

  -- So is each of several values, at its location.
  abbrev pub AreReadBelow : Type 0 → Items Op → ℕ → (ℕ → Option Op) → List ℕ → List (Option V) → Type 0
  AreReadBelow tells items size kept ls values =
      (i l : ℕ) (value : Option V) → slice_get ls i ≡ Some l → slice_get values i ≡ Some value →
      IsReadBelow tells items size (kept l) l value

  -- At each of these locations whose operation a chain keeps, the value is that of the operation.
  abbrev pub AreKeptValues : (ℕ → Option Op) → List ℕ → List (Option V) → Type 0
  AreKeptValues kept ls values =
      (i l : ℕ) (op : Op) → slice_get ls i ≡ Some l → kept l ≡ Some op → slice_get values i ≡ Some (m.value op)

  -- The values at several locations.
  abbrev pub batch_many_answer : List Op → ℕ → Kept → List ℕ → Result (List (Option V)) Refusal
  batch_many_answer list floor k ls =
      unless_refused (or_else (many_refusal list floor refusal.BelowInactivityFloor ls) (first_refused (lost k) ls)) (map (value_at m list) ls)
