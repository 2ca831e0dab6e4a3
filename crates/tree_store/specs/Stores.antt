-- What stores of nodes answer, and of which list their tree is.
use Rattle.std.specs.Prelude.{◌≡◌, ℕ, ◌<◌, List, length, Option, Some, None, IsSome, slice_get}
use Rattle.tree_shape.specs.Hashing.{Hashing}
use Rattle.tree_shape.specs.Shape.{Shape}
use Rattle.tree_shape.specs.Slow.{nodes}
use Rattle.volume_base.specs.declared.error.JournalError.TheVariants as journal
use Rattle.tree_store.specs.declared.error.Error.{Error}
use Rattle.tree_store.specs.declared.error.Error.TheVariants.{Volume, Memory, Journal, ElementPruned}

-- the tree of n leaves whose node at a position is what g gives, is that of this list
pub record IsTreeOf {D : Type 0} (s : Shape) (h : Hashing D) (leaves : List D) (n : ℕ) (g : ℕ → Option D) : Type 0 where
  pub count : n ≡ length leaves
  pub right : (p : ℕ) (d : D) → g p ≡ Some d → slice_get (nodes s h leaves) p ≡ Some d

-- a read was refused for want of memory, or by the volume, or by the journal below; the first two are never wrapped
abbrev pub IsReadFault : {F : Type 0} → Error F → Type 0
IsReadFault Volume = Unit {0}
IsReadFault Memory = Unit {0}
IsReadFault (Journal journal.Volume) = ⊥
IsReadFault (Journal journal.Memory) = ⊥
IsReadFault (Journal error) = Unit {0}
IsReadFault _ = ⊥

-- for want of memory, or by the volume
abbrev pub IsOutside : {F : Type 0} → Error F → Type 0
IsOutside Volume = Unit {0}
IsOutside Memory = Unit {0}
IsOutside _ = ⊥

-- of these positions p is the first at which no node is told
pub record IsFirstAbsent {D : Type 0} (told : ℕ → Option D) (ps : List ℕ) (p : ℕ) : Type 0 where
  pub index : ℕ
  pub here : slice_get ps index ≡ Some p
  pub absent : told p ≡ None
  pub before : (j q : ℕ) → j < index → slice_get ps j ≡ Some q → IsSome (told q)

-- a read of several was refused: as one is, or the first position without a node is named
abbrev pub IsReadRefusal : {F : Type 0} → Error F → Type 0
IsReadRefusal (ElementPruned p) = Unit {0}
IsReadRefusal error = IsReadFault error

abbrev pub IsOutsideOr : {F D : Type 0} → (ℕ → Option D) → List ℕ → Error F → Type 0
IsOutsideOr told ps (ElementPruned p) = IsFirstAbsent told ps p
IsOutsideOr told ps error = IsOutside error

-- a read of several from memory was refused: the first of these positions at which no node is told is named, or memory is wanting
abbrev pub IsUnread : {F D : Type 0} → (ℕ → Option D) → List ℕ → Error F → Type 0
IsUnread told ps (ElementPruned p) = IsFirstAbsent told ps p
IsUnread told ps Memory = Unit {0}
IsUnread told ps _ = ⊥
