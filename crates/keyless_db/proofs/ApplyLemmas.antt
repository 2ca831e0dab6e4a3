-- A database at the tip of a batch.
use Rattle.std.proofs.Common.{◌≡◌, ℕ, zero, suc, ◌+◌, ◌-◌, ◌<◌, List, [], ◌∷◌, ◌++◌, length, drop, map, Option, Some, Ok, Err, refl, sym, ◌∙◌, ap, subst, inl, inr, arith}
use Rattle.std.specs.Prelude.{Contains, Result, slice_get, slice_index_or, IsOk, IfOk, IsErrOf}
use Rattle.std.proofs.lemmas.List.{length-append, length-drop, map-append}
use Rattle.volume_base.specs.Bounds.{IsPartOf}
use Rattle.volume_base.specs.Moments.{Image, NamesLeft}
use Rattle.volume_base.specs.Volume.{State}
use Rattle.volume_base.proofs.BoundLemmas.{part_of_longer}
use Rattle.volume_base.proofs.TurnLemmas.{keeps_none}
use Rattle.volume_base.specs.declared.error.JournalError.{JournalError}
use Rattle.volume_base.specs.declared.error.JournalError.TheVariants.{SizeOverflow}
use Rattle.journal_base.specs.View.{View}
use Rattle.tree_shape.specs.Hashing.{Hashing}
use Rattle.tree_shape.specs.Shape.{Shape, IsLawful}
use Rattle.tree_store.specs.Stored.{TreeStands}
use Rattle.tree_store.proofs.StoredLemmas.{stands_longer}
use Rattle.tree_store.specs.declared.error.Error as tree_error
use Rattle.tree_core.specs.Applied.{IsLonger, RefusedByTree, FitsTree}
use Rattle.tree_core.specs.Batches.{Sealed}
use Rattle.tree_core.specs.Tree.{Tree}
use Rattle.tree_store.specs.declared.error.Error.TheVariants as tree
use Rattle.merkle_full.proofs.ListLemmas.{get_behind}
use Rattle.auth_journal.specs.Batched.{last_length, leaves_from}
use Rattle.auth_journal.specs.Errors.{IsLifted}
use Rattle.auth_journal.specs.Joined.{Joined, IsJoinedOf, IsSameJoin, leaves_of}
use Rattle.auth_journal.specs.Standing.{Marks, names_of, ImageStands, KeepsStanding}
use Rattle.auth_journal.proofs.LeafLemmas.{leaves_more}
use Rattle.auth_journal.specs.declared.error.Error as joined_error
use Rattle.auth_journal.specs.declared.error.Error.TheVariants as joined
use Rattle.log_model.specs.Meaning.{Meaning}
use Rattle.chain_core.specs.Answers.{IsOutside}
use Rattle.chain_core.specs.declared.commitment.Commitment.{Commitment}
use Rattle.chain_core.specs.declared.error.Error.{Error}
use Rattle.chain_core.specs.declared.error.Error.TheVariants as db_error
use Rattle.keyless_db.specs.Batches.{MerkleizedView, IsMerkleizedOf, IsSoundMerkleized, own_items}
use Rattle.keyless_db.specs.DbView.{DbView, EndsAs, IsDbOf, IsHeldFor, IsSoundDb}
use Rattle.keyless_db.specs.Errors.{from_apply, IsOfApply}

-- ---- what an answer gives

-- what holds whatever is answered
pub for_each : {A E : Type 0} (r : Result A E) (R : A → Type 0) → ((a : A) → R a) → IfOk r R
for_each (Ok a) R give = give a
for_each (Err e) R give = tt

-- what one fact of an answer gives
pub if_more : {A E : Type 0} (r : Result A E) (P R : A → Type 0) → IfOk r P → ((a : A) → P a → R a) → IfOk r R
if_more (Ok a) P R p give = give a p
if_more (Err e) P R p give = tt

-- an error is no answer
pub err_ok : (A : Type 0) {E : Type 0} (e : E) → IsOk (let r : Result A E = Err e in r) → ⊥
err_ok A e is = cc

-- one thing stands in one place
pub one_item : {X : Type 0} (o : Option X) (x y : X) → o ≡ Some x → o ≡ Some y → x ≡ y
one_item o x y p q = let e : Some x ≡ Some y = sym p ∙ q in cc

-- ---- the batch's own operations

pub last_items : {Op : Type 0} (lists : List (List Op)) → last_length lists ≡ length (slice_index_or lists (length lists - 1) [])
last_items [] = refl
last_items (list ∷ []) = refl
last_items {Op = Op} (list ∷ next ∷ lists) =
    let n : length (list ∷ next ∷ lists) - 1 ≡ suc (length (next ∷ lists) - 1) = omega arith in
    last_items (next ∷ lists) ∙ ap (λ k. length (slice_index_or (list ∷ next ∷ lists) k [])) (sym n)

-- the last of what stands behind a place is the last of all
pub last_behind : {Op : Type 0} (list own : List Op) (n : ℕ) (op : Op) → own ≡ drop n list → 0 < length own → slice_get own (length own - 1) ≡ Some op → slice_get list (length list - 1) ≡ Some op
last_behind list own n op is some at =
    let count : length own ≡ length list - n = ap length is ∙ length-drop n list in
    let e : n + (length own - 1) ≡ length list - 1 = omega (arith, count, some) in
    ap (slice_get list) (sym e) ∙ sym (get_behind list n (length own - 1)) ∙ ap (λ (xs : List _). slice_get xs (length own - 1)) (sym is) ∙ at

-- behind the front of a list stands the rest
pub behind_front : {Op : Type 0} (ops more : List Op) → drop (length ops) (ops ++ more) ≡ more
behind_front [] more = refl
behind_front (op ∷ ops) more = behind_front ops more

none_more : {Op : Type 0} (ops more : List Op) → length ops ≡ length (ops ++ more) → ops ++ more ≡ ops
none_more ops [] e = nothing ops
  where
    nothing : {X : Type 0} (xs : List X) → xs ++ [] ≡ xs
    nothing [] = refl
    nothing (x ∷ xs) = ap (λ ys. x ∷ ys) (nothing xs)
none_more ops (op ∷ more) e = absurd (omega (arith, e, length-append ops (op ∷ more)))

-- the one member
only_one : {X : Type 0} (a x : X) (xs : List X) → xs ≡ [] → Contains (a ∷ xs) x → x ≡ a
only_one {X = X} a x xs none here = in_one (subst (λ (ys : List X). Contains (a ∷ ys) x) none here)
  where
    in_one : Contains (a ∷ []) x → x ≡ a
    in_one (zero, within, is) = sym is
    in_one (suc k, within, is) = absurd (omega arith)

-- ---- the database of the longer list

module _ {F D Op V Cfg : Type 0} (s : Shape) (h : Hashing D) (m : Meaning Op V) (digest : D → List ℕ) (admits : D → Type 0) (spelling : Op → List ℕ) (ops more : List Op)
    (db : DbView F D Op Cfg) (b : MerkleizedView F D Op) (sound : IsSoundMerkleized b.tree b.bounds) (here : Contains (b.bounds.db ∷ b.bounds.ancestors) db.state)
    (of : IsMerkleizedOf s h m spelling (ops ++ more) b) (commit : Op) (ends : EndsAs (own_items b.tree) db.commit commit) where
  last_applied : (own : List Op) → own ≡ own_items b.tree → IsDbOf s h m ops db → slice_get (ops ++ more) (length (ops ++ more) - 1) ≡ Some commit
  last_applied [] none is =
      let count = last_items b.tree.items ∙ ap length (sym none) in
      let at_tip : db.state ≡ b.bounds.tip = only_one b.bounds.db db.state b.bounds.ancestors (sound.snapshot_ancestors count) here ∙ sound.snapshot_db count in
      let sizes = ap (λ (c : Commitment F D). c.size) (sym is.state_is ∙ at_tip ∙ of.batch.bounds.tip) in
      let e = none_more ops more sizes in
      ap (λ (xs : List Op). slice_get xs (length xs - 1)) e ∙ is.commit_is ∙ ap Some (sym (ends.none (ap length (sym none))))
  last_applied (op ∷ own) some is =
      let count : 0 < length (own_items b.tree) = subst (λ (xs : List Op). 0 < length xs) some (omega arith) in
      last_behind (ops ++ more) (own_items b.tree) b.bounds.base.size commit of.batch.own count (ends.some count)

  pub applied_held : (k : Joined D Cfg) (old new : Image) → IsHeldFor s h m digest admits spelling ops db old → IsJoinedOf s h digest admits spelling (ops ++ more) k new
      → IsSameJoin db.journal k → (new.log db.journal.items.name).start ≡ (old.log db.journal.items.name).start
      → IsHeldFor s h m digest admits spelling (ops ++ more) (record { journal = k; state = b.bounds.tip; commit = commit }) new
  applied_held k old new held joined same start = record {
    db_of = record {
      ends = of.ends;
      few = of.few;
      state_is = of.batch.bounds.tip;
      commit_is = last_applied (own_items b.tree) refl held.db_of;
    };
    journal = joined;
    low =
        let name = ap (λ (v : View Cfg). (new.log v.name).start) same.items in
        omega (arith, joined.start_is, name, start, held.journal.start_is, same.boundary, held.low);
  }

-- ---- soundness

pub sound_applied : {F D Op Cfg : Type 0} (s : Shape) (j k : Joined D Cfg) (state : Commitment F D) → IsSoundDb j state → (b : MerkleizedView F D Op) → IsSoundMerkleized b.tree b.bounds
    → IsSameJoin j k → IsLonger s b.tree.nodes.leaves j.tree.tree k.tree.tree → IsSoundDb k b.bounds.tip
sound_applied s j k state sound b batch same longer = record {
  size = longer.leaves ∙ batch.tip;
  few = batch.few;
  folded = same.bagging ∙ sound.folded;
}

-- ---- what a crash leaves

module _ {D Cfg Op : Type 0} (s : Shape) (h : Hashing D) (digest : D → List ℕ) (spelling : Op → List ℕ) (list : List Op) (marks : Marks) where
  -- what stands for a list stands for a longer one
  stands_more : IsLawful s → (more : List Op) (j : Joined D Cfg) (image : Image) → ImageStands s h digest spelling list marks j image
      → ImageStands s h digest spelling (list ++ more) marks j image
  stands_more w more j image stands =
      let log = image.log j.items.name in
      let nodes = image.log j.tree.log.name in
      let m = image.map j.tree.metadata in
      record {
        items = subst (λ (xs : List (List ℕ)). IsPartOf xs marks.prune marks.durable log) (sym (map-append spelling list more))
            (part_of_longer (map spelling list) (map spelling more) marks.prune marks.durable log stands.items);
        tree = subst (λ (all : List D). TreeStands s h digest all marks.node_durable log.start nodes m) (sym (leaves_more s h spelling list more))
            (stands_longer s h digest (leaves_of s h spelling list) (leaves_from s h (length list) (map spelling more)) marks.node_durable log.start nodes m w stands.tree);
      }

  -- where nothing is called
  pub still_standing : IsLawful s → (more : List Op) (j : Joined D Cfg) (a : State) → KeepsStanding s h digest spelling list (list ++ more) marks j a a
  still_standing w more j a has =
      keeps_none (NamesLeft (names_of j)) (ImageStands s h digest spelling (list ++ more) marks j) a (λ image at. stands_more w more j image (has image at))

  -- the same journal under another name
  pub keeps_like : (longer : List Op) (j k : Joined D Cfg) (a b : State) → j ≡ k → KeepsStanding s h digest spelling list longer marks j a b
      → KeepsStanding s h digest spelling list longer marks k a b
  keeps_like longer j k a b same did = subst (λ (x : Joined D Cfg). KeepsStanding s h digest spelling list longer marks x a b) same did

-- ---- errors

pub apply_errors : {F : Type 0} (e : joined_error.Error F) (d : Error F) → d ≡ from_apply e → ((x : JournalError) → e ≡ joined.Journal x → x ≡ SizeOverflow) → IsOfApply d
apply_errors (joined.Merkle x) d is of = inl is
apply_errors (joined.Journal x) d is of = inr (inr (is ∙ ap db_error.Journal (of x refl)))
apply_errors joined.Volume d is of = inr (inl (subst IsOutside (sym is) tt))
apply_errors joined.Memory d is of = inr (inl (subst IsOutside (sym is) tt))

-- what is stale was refused by the tree
pub stale_below : {F T : Type 0} (e : joined_error.Error F) (d : Error F) → d ≡ from_apply e → IsErrOf {T = T} (Err d) db_error.StaleBatch → (x : tree_error.Error F) × (e ≡ joined.Merkle x)
stale_below (joined.Merkle x) d is at = (x, refl)
stale_below (joined.Journal x) d is at = absurd cc
stale_below joined.Volume d is at = absurd cc
stale_below joined.Memory d is at = absurd cc

pub full_below : {F T : Type 0} (e : joined_error.Error F) (d : Error F) (x : JournalError) → d ≡ from_apply e → IsErrOf {T = T} (Err d) (db_error.Journal x) → e ≡ joined.Journal x
full_below (joined.Merkle y) d x is at = absurd cc
full_below (joined.Journal y) d x is at = cc
full_below joined.Volume d x is at = absurd cc
full_below joined.Memory d x is at = absurd cc

-- what the tree refuses it takes at no mark
pub unfit_tree : {F D : Type 0} (s : Shape) (t : Tree D) (c : Sealed D) (e : tree_error.Error F) → RefusedByTree s t c e → IsLifted (joined.Merkle e) → (i : ℕ) → FitsTree s t c i → ⊥
unfit_tree s t c tree.StaleBatch why lifted i fits = why.0 i fits
unfit_tree s t c (tree.AncestorDropped x y) why lifted i fits = why.3 i fits
unfit_tree s t c tree.Memory why lifted i fits = lifted
unfit_tree s t c _ why lifted i fits = why
