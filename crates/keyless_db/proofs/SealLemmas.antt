-- What a batch becomes that is sealed with its commit.
use Rattle.std.proofs.Common.{◌≡◌, ℕ, suc, zero, ◌+◌, ◌-◌, List, [], ◌∷◌, ◌++◌, length, Some, refl, sym, ◌∙◌, ap, subst, arith}
use Rattle.std.specs.Prelude.{slice_get, slice_index_or}
use Rattle.tree_shape.specs.Root.{root}
use Rattle.tree_shape.specs.Slow.{leaf}
use Rattle.tree_shape.specs.declared.bagging.Bagging.{Bagging}
use Rattle.tree_shape.specs.declared.bagging.Bagging.TheVariants.{ForwardFold}
use Rattle.std.proofs.lemmas.List.{length-append}
use Rattle.tree_shape.specs.Hashing.{Hashing}
use Rattle.tree_shape.specs.Shape.{Shape, inactive}
use Rattle.tree_core.specs.Batches.{leaf_count, IsSealedOf}
use Rattle.auth_journal.specs.Batched.{SealedItems, UnsealedItems, last_length, own_length, IsUnsealedOfItems, IsSealedOfItems, AreSealedFrom, with_item}
use Rattle.auth_journal.specs.Joined.{leaves_of}
use Rattle.log_model.specs.Meaning.{Meaning}
use Rattle.log_model.specs.Operations.{floor_of, leaves_from, root_of}
use Rattle.log_model.proofs.OperationLemmas.{root_of-parts}
use Rattle.keyless_db.specs.Batches.{own_items}

-- ---- the last of several lists

pub last_pushed : {X : Type 0} (lists : List (List X)) (l : List X) → slice_index_or (lists ++ (l ∷ [])) (length (lists ++ (l ∷ [])) - 1) [] ≡ l
last_pushed [] l = refl
last_pushed (x ∷ lists) l =
    let n : length (x ∷ (lists ++ (l ∷ []))) - 1 ≡ suc (length (lists ++ (l ∷ [])) - 1) = omega (arith, length-append lists (l ∷ [])) in
    rw n (last_pushed lists l)

pub last_count : {X : Type 0} (lists : List (List X)) (l : List X) → last_length (lists ++ (l ∷ [])) ≡ length l
last_count [] l = refl
last_count (x ∷ []) l = refl
last_count (x ∷ y ∷ lists) l = last_count (y ∷ lists) l

pub read_index : {X : Type 0} (xs : List X) (i : ℕ) (x d : X) → slice_get xs i ≡ Some x → slice_index_or xs i d ≡ x
read_index [] i x d e = absurd (cc)
read_index (y ∷ xs) zero x d e = cc
read_index (y ∷ xs) (suc i) x d e = read_index xs i x d e

module _ {D Op : Type 0} (tree : SealedItems D Op) (before : List (List Op)) (own : List Op) (is : tree.items ≡ before ++ (own ∷ [])) where
  pub own_is : own_items tree ≡ own
  own_is = ap (λ (lists : List (List Op)). slice_index_or lists (length lists - 1) []) is ∙ last_pushed before own

  pub own_count : last_length tree.items ≡ length own
  own_count = ap (λ (lists : List (List Op)). last_length lists) is ∙ last_count before own

-- ---- with one more item

module _ {D Op : Type 0} (s : Shape) (h : Hashing D) (spelling : Op → List ℕ) (tree : UnsealedItems D Op) (op : Op) where
  pub goes_on : (list : List Op) → IsUnsealedOfItems s h spelling list tree → IsUnsealedOfItems s h spelling list (with_item s h spelling tree op)
  goes_on list of = record { nodes = record { batch = of.nodes.batch; base = of.nodes.base }; items = of.items }

  pub more_leaves : leaf_count (with_item s h spelling tree op).nodes ≡ leaf_count tree.nodes + 1
  more_leaves = omega (arith, length-append tree.nodes.digests (leaf s h (leaf_count tree.nodes) (spelling op) ∷ []))

  pub more_items : length (with_item s h spelling tree op).items ≡ length tree.items + 1
  more_items = omega (arith, length-append tree.items (op ∷ []))

-- ---- leaves

-- the leaves of operations are those of their spellings
pub leaves_are : {D Op V : Type 0} (s : Shape) (h : Hashing D) (m : Meaning Op V) (spelling : Op → List ℕ) → ((op : Op) → m.encoding op ≡ spelling op)
    → (list : List Op) → leaves_of s h spelling list ≡ leaves_from s h m 0 list
leaves_are {Op = Op} s h m spelling law list =
    let e : m.encoding ≡ spelling = λ i op. law op i in
    ap (λ (f : Op → List ℕ). leaves_of s h f list) (sym e)

-- ---- sealed with one more item

module _ {D Op V : Type 0} (s : Shape) (h : Hashing D) (m : Meaning Op V) (spelling : Op → List ℕ) (tree : UnsealedItems D Op) (commit : Op)
    (grown : UnsealedItems D Op) (ok : grown ≡ with_item s h spelling tree commit) (reached : ℕ) (b : SealedItems D Op) (from : AreSealedFrom grown reached b) where
  pub from_ended : AreSealedFrom (with_item s h spelling tree commit) reached b
  from_ended = subst (λ (u : UnsealedItems D Op). AreSealedFrom u reached b) ok from

  pub list_ended : ((list : List Op) → IsUnsealedOfItems s h spelling list grown → IsSealedOfItems s h spelling (list ++ grown.items) b)
      → (list : List Op) → IsUnsealedOfItems s h spelling list tree → IsSealedOfItems s h spelling (list ++ (tree.items ++ (commit ∷ []))) b
  list_ended batch list of =
      subst (λ (u : UnsealedItems D Op). IsSealedOfItems s h spelling (list ++ u.items) b) ok
      (batch list (subst (λ (u : UnsealedItems D Op). IsUnsealedOfItems s h spelling list u) (sym ok) (goes_on s h spelling tree commit list of)))

  pub count_ended : b.nodes.leaves ≡ leaf_count tree.nodes + 1
  count_ended = from_ended.nodes.leaves ∙ more_leaves s h spelling tree commit

  pub root_ended : ((op : Op) → m.encoding op ≡ spelling op) → (list : List Op) → leaf_count tree.nodes ≡ length list + length tree.items
      → IsSealedOfItems s h spelling (list ++ (tree.items ++ (commit ∷ []))) b
      → (floor n k : ℕ) (d : D) (f : Bagging) → n ≡ b.nodes.leaves → floor ≡ floor_of m (list ++ (tree.items ++ (commit ∷ []))) → k ≡ inactive s n floor → f ≡ ForwardFold
      → ((all : List D) → IsSealedOf s h all b.nodes → d ≡ root s h all k f) → d ≡ root_of s h m (list ++ (tree.items ++ (commit ∷ [])))
  root_ended law list count sealed floor n k d f at below inactive_is folded told =
      let whole = list ++ (tree.items ++ (commit ∷ [])) in
      let size : n ≡ length whole = omega (arith, at, count_ended, count, length-append list (tree.items ++ (commit ∷ [])), length-append tree.items (commit ∷ [])) in
      told (leaves_of s h spelling whole) sealed.nodes ∙ ap (λ (x : Bagging). root s h (leaves_of s h spelling whole) k x) folded
      ∙ root_of-parts s h m whole (leaves_of s h spelling whole) n floor k (leaves_are s h m spelling law whole) size below inactive_is

  -- its own operations are those that were collected, and the commit
  pub own_ended : own_items b ≡ tree.items ++ (commit ∷ [])
  own_ended = own_is b _ (tree.items ++ (commit ∷ [])) from_ended.items

  pub length_ended : own_length b ≡ length tree.items + 1
  length_ended = own_count b _ (tree.items ++ (commit ∷ [])) from_ended.items ∙ omega (arith, length-append tree.items (commit ∷ []))

  pub folded_ended : b.bagging ≡ tree.bagging
  folded_ended = from_ended.bagging
