-- Proofs of items.
use Rattle.std.specs.Prelude.{◌≡◌, ◌⊎◌, ℕ, ◌+◌, ◌-◌, ◌≤◌, min, nat_le, List, length, map, take, drop, slice_get}
use Rattle.std.specs.Prelude.{Option, Some, IsSome, Result, Ok, Err, OnOk, IfOk, IfErr, IsOkUnless, if◌then◌else◌}
use Rattle.std.specs.Global.{Vec}
use Rattle.codec_base.specs.Codec.{Reading}
use Rattle.volume_base.specs.Moments.{Image, present}
use Rattle.volume_base.specs.Volume.{State}
use Rattle.volume_base.specs.declared.error.JournalError.{JournalError}
use Rattle.journal_base.specs.Items.{Items, items_of}
use Rattle.journal_base.specs.Reads.{AreItemsAt}
use Rattle.tree_shape.specs.Hashing.{Hashing}
use Rattle.tree_shape.specs.Pins.{pins}
use Rattle.tree_shape.specs.Shape.{Shape, peaks}
use Rattle.tree_shape.specs.Slow.{node_of}
use Rattle.tree_store.specs.Stores.{IsFirstAbsent, IsUnread}
use Rattle.tree_store.specs.declared.error.Error as tree_error
use Rattle.tree_store.specs.declared.error.Error.TheVariants.{RangeOutOfBounds, ElementPruned, Memory}
use Rattle.tree_proof.specs.declared.proof.Proof.{Proof}
use Rattle.tree_proof.specs.Cover.{meets}
use Rattle.tree_proof.specs.SlowProof.{proof_of}
use Rattle.tree_verification.specs.Ranges.{cover_positions, Proves, TakesFrom}
use Rattle.tree_core.specs.Batches.{Sealed, IsSealedOf}
use Rattle.tree_core.specs.Overlay.{overlaid, AreAlike}
use Rattle.tree_core.specs.Reading.{OnlyRefusedBy}
use Rattle.tree_core.specs.Tree.{Tree, IsOf}
use Rattle.tree_store.specs.Stores as tree
use Rattle.merkle_full.specs.Full.{Full, IsHeld, told_at}
use Rattle.merkle_full.specs.Lists.{IsFullOf}
use Rattle.merkle_full.specs.Reading.{peaks_answer, IsUnreadAmong}
use Rattle.auth_journal.specs.Errors.{IsOutside}
use Rattle.auth_journal.specs.Joined.{Joined, IsJoinedOf, leaves_of}
use Rattle.auth_journal.specs.Reading.{positions, IsFirstUnread, AreAdmitted}
use Rattle.auth_journal.specs.declared.error.Error.{Error}
use Rattle.auth_journal.specs.declared.error.Error.TheVariants.{Merkle, Journal}

-- What a proof of the leaves x .. y of a sealed batch over a tree answers: the refusal that no read decides; or else
-- the proof that is the list's, where one of the two lists begins the other; or the first node of the cover that isn't
-- there, which never comes from the tree's boundary on, where the tree has what stands before the batch's nodes.
pub record IsBatchProof {F D : Type 0} (s : Shape) (b : Sealed D) (base : Tree D)
    (answer : Result (Unit {0}) (tree_error.Error F)) (inactive x y : ℕ)
    (result : Result (Proof F D) (tree_error.Error F)) : Type 0 where
  pub proves : Proves s answer b.leaves inactive (meets x y) (overlaid s b base) result
  pub batch : IfOk result (λ proof. (h : Hashing D) (all made : List D) → IsOf s h all base → IsSealedOf s h made b →
      AreAlike all made → proof ≡ proof_of s h made inactive (meets x y))
  pub kept : base.boundary ≤ x → b.first ≤ base.leaves → OnlyRefusedBy answer result

-- What the peaks of the first n leaves of a sealed batch over a tree answer: what both together have there; of lists,
-- where one of the two begins the other, the peaks of the batch's list; or the first that isn't there, which never
-- comes from the tree's boundary on, where the tree has what stands before the batch's nodes.
pub record AreBatchPeaks {F D : Type 0} (s : Shape) (b : Sealed D) (base : Tree D) (n : ℕ)
    (result : Result (Vec D) (tree_error.Error F)) : Type 0 where
  pub nodes : IfOk result (λ found. map Some found.items ≡ map (overlaid s b base) (pins s n))
  pub list : IfOk result (λ found. (h : Hashing D) (all made : List D) → IsOf s h all base → IsSealedOf s h made b →
      AreAlike all made → found.items ≡ map (node_of s h made) (peaks s n))
  pub first : IfErr result (IsUnread (overlaid s b base) (pins s n))
  pub kept : base.boundary ≤ n → b.first ≤ base.leaves → IsOkUnless result Memory

-- ---- items of a journal

-- whether items from this one on can be proved in the tree of the first n leaves, of a log that ends here; the first
-- test that fails answers
abbrev pub items_answer : {F : Type 0} → ℕ → ℕ → ℕ → Result (Unit {0}) (tree_error.Error F)
items_answer end n a =
    if nat_le n end then (if nat_le n a then Err (RangeOutOfBounds a) else Ok tt) else Err (RangeOutOfBounds end)

-- where a range from this item on ends, of at most so many items of the first n
abbrev pub range_end : ℕ → ℕ → ℕ → ℕ
range_end n a count = min n (a + count)

-- Each of these positions has a node.
abbrev pub AreThere : {D : Type 0} → (ℕ → Option D) → List ℕ → Type 0
AreThere told positions = (i p : ℕ) → slice_get positions i ≡ Some p → IsSome (told p)

-- the outside refuses; or the first node that isn't there is named; or, where all nodes are there, the first item that
-- can't be read
abbrev pub WhyUnproved : {F D Item : Type 0} → (ℕ → Option D) → List ℕ → Items Item → ℕ → ℕ → Error F → Type 0
WhyUnproved told positions items a b e =
    IsOutside e
    ⊎ (((p : ℕ) × (e ≡ Merkle (ElementPruned p)) × IsFirstAbsent told positions p)
    ⊎ ((d : JournalError) × (e ≡ Journal d) × AreThere told positions × IsFirstUnread (Unit {0}) items a b d))

-- What a proof of at most `count` items from a on in the tree of the first n leaves answers: the refusal that no read
-- decides; or else the list's proof, with the items that the log has there, which are the list's where these are
-- allowed; from the boundary and the log's start on the outside alone refuses; and else a node that isn't there goes
-- before an item that can't be read. Its digests are those that memory and node log have there, and the items are
-- those of the log, of no list either.
pub record IsItemsProof {F D Codec Item : Type 0} (tells : Type 0) (s : Shape) (h : Hashing D) (digest : D → List ℕ)
    (admits : D → Type 0) (reads : List ℕ → Reading D) (spelling : Item → List ℕ) (allowed : Codec → Item → Type 0)
    (j : Joined D Codec) (image : Image) (n inactive a count : ℕ)
    (result : Result (Proof F D × Vec Item) (Error F)) : Type 0 where
  pub refused : (e : tree_error.Error F) → items_answer j.items.end n a ≡ Err e → result ≡ Err (Merkle e)
  pub within : OnOk result (items_answer {F = F} j.items.end n a ≡ Ok tt)
  pub counted : IfOk result (λ made. length made.1.items ≡ range_end n a count - a)
  pub read : IfOk result (λ made. tells → AreItemsAt
      (record { log = image.log j.items.name; spelling = spelling; admits = allowed j.items.codec })
      (positions a (range_end n a count)) made.1.items)
  pub told : IfOk result (λ made. tells → IsHeld s digest admits j.tree image →
      TakesFrom s (told_at reads j.tree image) n (meets a (range_end n a count)) made.0)
  pub proof : IfOk result (λ made. tells → (list : List Item) → IsJoinedOf s h digest admits spelling list j image →
      made.0 ≡ proof_of s h (take n (leaves_of s h spelling list)) inactive (meets a (range_end n a count)))
  pub list : IfOk result (λ made. tells → (list : List Item) → IsJoinedOf s h digest admits spelling list j image →
      AreAdmitted (allowed j.items.codec) list a (range_end n a count) →
      (made.0 ≡ proof_of s h (take n (leaves_of s h spelling list)) inactive (meets a (range_end n a count)))
      × (made.1.items ≡ take (range_end n a count - a) (drop a list)))
  pub kept : items_answer {F = F} j.items.end n a ≡ Ok tt → j.tree.boundary ≤ a → j.items.start ≤ a →
      tells → (list : List Item) → IsJoinedOf s h digest admits spelling list j image →
      AreAdmitted (allowed j.items.codec) list a (range_end n a count) → IfErr result IsOutside
  pub why : items_answer {F = F} j.items.end n a ≡ Ok tt →
      tells → (list : List Item) → IsJoinedOf s h digest admits spelling list j image →
      IfErr result (WhyUnproved (told_at reads j.tree image) (cover_positions s (meets a (range_end n a count)) n)
      (record { log = image.log j.items.name; spelling = spelling; admits = allowed j.items.codec })
      a (range_end n a count))

-- The peaks of so many leaves of a tree: what it answers where no read decides; or else what it tells there, and those
-- of each list that it is of; or the first that isn't there, which never comes from the boundary on. Whatever the
-- volume holds, one of them can't be read.
pub record ArePeaksAt {F D : Type 0} (tells : Type 0) (s : Shape) (digest : D → List ℕ) (admits : Unit {0} → D → Type 0)
    (reads : List ℕ → Reading D) (t : Full D) (state : State) (n : ℕ)
    (result : Result (Vec D) (tree_error.Error F)) : Type 0 where
  pub refused : (e : tree_error.Error F) → peaks_answer t.tree.leaves n ≡ Err e → result ≡ Err e
  pub within : OnOk result (peaks_answer {F = F} t.tree.leaves n ≡ Ok tt)
  pub counted : IfOk result (λ found. length found.items ≡ length (pins s n))
  pub told : IfOk result (λ found. tells → IsHeld s digest (admits tt) t (present state) →
      map Some found.items ≡ map (told_at reads t (present state)) (pins s n))
  pub nodes : IfOk result (λ found. tells → (h : Hashing D) (all : List D) →
      IsFullOf s h digest (admits tt) all t (present state) → found.items ≡ map (node_of s h all) (peaks s n))
  pub kept : t.boundary ≤ n → peaks_answer {F = F} t.tree.leaves n ≡ Ok tt → tells → (h : Hashing D) (all : List D) →
      IsFullOf s h digest (admits tt) all t (present state) → IfErr result tree.IsOutside
  pub first : peaks_answer {F = F} t.tree.leaves n ≡ Ok tt → tells → IsHeld s digest (admits tt) t (present state) →
      IfErr result (tree.IsOutsideOr (told_at reads t (present state)) (pins s n))
  pub unread : peaks_answer {F = F} t.tree.leaves n ≡ Ok tt →
      IfErr result (IsUnreadAmong tells (items_of digest admits t.log state) (pins s n))
