-- What the errors of the layers below become.
use Rattle.std.specs.Prelude.{◌≡◌, Option, Some, None, IsSome, Result, Ok, Err}
use Rattle.volume_base.specs.declared.error.JournalError.{JournalError}
use Rattle.volume_base.specs.declared.error.JournalError.TheVariants as journal
use Rattle.volume_base.specs.declared.error.TreeCause.TheVariants as cause
use Rattle.tree_store.specs.declared.error.Error as tree_error
use Rattle.tree_store.specs.declared.error.Error.TheVariants as tree
use Rattle.auth_journal.specs.declared.error.Error.{Error}
use Rattle.auth_journal.specs.declared.error.Error.TheVariants as joined

-- want of memory and a failure of the volume stay what they are, and every other error is wrapped
abbrev pub from_journal : {F : Type 0} → JournalError → Error F
from_journal journal.Volume = joined.Volume
from_journal journal.Memory = joined.Memory
from_journal error = joined.Journal error

abbrev pub from_tree : {F : Type 0} → tree_error.Error F → Error F
from_tree tree.Volume = joined.Volume
from_tree tree.Memory = joined.Memory
from_tree error = joined.Merkle error

-- for want of memory, or by the volume
abbrev pub IsOutside : {F : Type 0} → Error F → Type 0
IsOutside joined.Volume = Unit {0}
IsOutside joined.Memory = Unit {0}
IsOutside _ = ⊥

-- an error that was wrapped: neither want of memory nor a failure of the volume
abbrev pub unwrapped : JournalError → Option JournalError
unwrapped journal.Volume = None
unwrapped journal.Memory = None
unwrapped error = Some error

-- Want of memory and a failure of the volume are told as what they are, and never in another error.
abbrev pub IsLifted : {F : Type 0} → Error F → Type 0
IsLifted (joined.Merkle (tree.Journal error)) = IsSome (unwrapped error)
IsLifted (joined.Merkle tree.Volume) = ⊥
IsLifted (joined.Merkle tree.Memory) = ⊥
IsLifted (joined.Journal error) = IsSome (unwrapped error)
IsLifted _ = Unit {0}

-- ---- errors of the journal, where it is used as a log of items

-- What stands for an error of the tree: a location that is too great and a node that isn't there are named as the tree's, a leaf past
-- the tree counts as an item past the end, and an error of the node log is itself. Nothing stands for any other.
abbrev pub lowered_tree : {F : Type 0} → tree_error.Error F → Option JournalError
lowered_tree (tree.LocationOverflow n) = Some (journal.Tree (cause.LocationOverflow n))
lowered_tree (tree.ElementPruned p) = Some (journal.Tree (cause.ElementPruned p))
lowered_tree (tree.MissingNode p) = Some (journal.Tree (cause.ElementPruned p))
lowered_tree (tree.LeafOutOfBounds n) = Some (journal.ItemOutOfRange n)
lowered_tree (tree.Journal error) = unwrapped error
lowered_tree _ = None

abbrev pub lowered : {F : Type 0} → Error F → Option JournalError
lowered (joined.Merkle error) = lowered_tree error
lowered (joined.Journal error) = unwrapped error
lowered joined.Volume = Some journal.Volume
lowered joined.Memory = Some journal.Memory

-- It stands for an error of the journal of which this holds.
abbrev pub IsLowered : {F : Type 0} → (Error F → Type 0) → JournalError → Type 0
IsLowered {F} P error = (e : Error F) × P e × (lowered e ≡ Some error)

-- ---- answers of the tree

-- a tree's answer, with its errors as these
abbrev pub lifted : {F T : Type 0} → Result T (tree_error.Error F) → Result T (Error F)
lifted (Ok made) = Ok made
lifted (Err e) = Err (from_tree e)

-- It is an answer of the tree, of which this holds.
pub record Lifts {F T : Type 0} (P : Result T (tree_error.Error F) → Type 0) (result : Result T (Error F)) : Type 0 where
  pub below : Result T (tree_error.Error F)
  pub is : result ≡ lifted below
  pub says : P below
