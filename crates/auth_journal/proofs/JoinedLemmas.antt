-- A log joined with a tree, over calls on either.
use Rattle.std.proofs.Common.{◌≡◌, ℕ, List, ◌++◌, length, map, drop, sym, ◌∙◌, ap, subst}
use Rattle.volume_base.specs.Log.{Log, end_of, appended}
use Rattle.volume_base.specs.Bounds.{IsRunOf}
use Rattle.volume_base.specs.Moments.{Image, present}
use Rattle.volume_base.specs.Volume.{State, OnlyLog}
use Rattle.volume_base.proofs.BoundLemmas.{run_appended}
use Rattle.std.proofs.lemmas.List.{map-append}
use Rattle.journal_base.specs.View.{log_of, SameButBounds, IsHeld}
use Rattle.journal_base.specs.Items.{Spells}
use Rattle.tree_shape.specs.Hashing.{Hashing}
use Rattle.tree_shape.specs.Shape.{Shape}
use Rattle.tree_store.specs.Stored.{size}
use Rattle.merkle_full.specs.Full.{Full, IsBeside, IsSeated}
use Rattle.merkle_full.proofs.FullLemmas.{full_later}
use Rattle.merkle_full.specs.Lists.{IsFullOf}
use Rattle.auth_journal.specs.Joined.{Joined, IsSoundJoin, IsJoinedOf, leaves_of}
use Rattle.auth_journal.proofs.LeafLemmas.{leaves_rest}

-- the log stays, and the tree is another of the same list
pub joined_later : {D Codec Item : Type 0} (s : Shape) (h : Hashing D) (digest : D → List ℕ) (admits : D → Type 0) (spelling : Item → List ℕ) (list : List Item) (j k : Joined D Codec) (a b : Image)
    → IsJoinedOf s h digest admits spelling list j a → k.items ≡ j.items → b.log j.items.name ≡ a.log j.items.name → IsFullOf s h digest admits (leaves_of s h spelling list) k.tree b → IsJoinedOf s h digest admits spelling list k b
joined_later s h digest admits spelling list j k a b joined items log tree =
    let name : k.items.name ≡ j.items.name = ap (λ v. v.name) items in
    let here : b.log k.items.name ≡ a.log j.items.name = ap b.log name ∙ log in
    record {
      items = subst (λ (l : Log). Spells spelling list l) (sym here) joined.items;
      start_is = ap (λ v. v.start) items ∙ joined.start_is ∙ ap (λ (l : Log). l.start) (sym here);
      end_is = ap (λ v. v.end) items ∙ joined.end_is ∙ ap end_of (sym here);
      tree = tree;
    }

-- the node log stays, and the tree is as far as before
pub seated_later : {D : Type 0} (s : Shape) (t u : Full D) (a b : State) → u.log ≡ t.log → u.tree.boundary ≡ t.tree.boundary → b.log t.log.name ≡ a.log t.log.name → IsSeated s t (present a) → IsSeated s u (present b)
seated_later s t u a b log bound same seated =
    let here : b.log u.log.name ≡ a.log t.log.name = ap (λ v. b.log v.name) log ∙ same in
    record {
      start_is = ap (λ v. v.start) log ∙ seated.start_is ∙ ap (λ (l : Log). l.start) (sym here);
      end_is = ap (λ v. v.end) log ∙ seated.end_is ∙ ap end_of (sym here);
      nodes = ap (λ v. v.end) log ∙ seated.nodes ∙ ap (λ (n : ℕ). size s n) (sym bound);
    }

-- items were appended, and the leaves that another list has past this one's end
pub joined_grown : {D Codec Item : Type 0} (s : Shape) (h : Hashing D) (digest : D → List ℕ) (admits : D → Type 0) (spelling : Item → List ℕ) (list made more : List Item) (k : Joined D Codec) (b : Image)
    → more ≡ drop (length list) made → Spells spelling (list ++ more) (b.log k.items.name) → k.items.start ≡ (b.log k.items.name).start → k.items.end ≡ end_of (b.log k.items.name)
    → IsFullOf s h digest admits (leaves_of s h spelling list ++ drop (length (leaves_of s h spelling list)) (leaves_of s h spelling made)) k.tree b
    → IsJoinedOf s h digest admits spelling (list ++ more) k b
joined_grown {D = D} {Item = Item} s h digest admits spelling list made more k b is run start end tree = record {
  items = run;
  start_is = start;
  end_is = end;
  tree = subst (λ (l : List D). IsFullOf s h digest admits l k.tree b) (leaves_rest s h spelling list made ∙ ap (λ (r : List Item). leaves_of s h spelling (list ++ r)) (sym is)) tree;
}

-- a call on the log put these items behind it, and the tree in memory has their leaves
pub appended_joined : {D Codec Item : Type 0} (s : Shape) (h : Hashing D) (digest : D → List ℕ) (admits : D → Type 0) (spelling : Item → List ℕ) (list made items : List Item) (j k : Joined D Codec) (a b : State)
    → IsJoinedOf s h digest admits spelling list j (present a) → IsSoundJoin j → log_of j.items b ≡ appended (log_of j.items a) (map spelling items) → SameButBounds j.items k.items → IsHeld k.items b → OnlyLog j.items.name a b
    → IsBeside j.tree k.tree → items ≡ drop (length list) made
    → IsFullOf s h digest admits (leaves_of s h spelling list ++ drop (length (leaves_of s h spelling list)) (leaves_of s h spelling made)) k.tree (present a)
    → IsJoinedOf s h digest admits spelling (list ++ items) k (present b)
appended_joined {D = D} s h digest admits spelling list made items j k a b joined sound put same held others beside is tree =
    let name : k.items.name ≡ j.items.name = ap (λ v. v.name) same in
    let node : k.tree.log.name ≡ j.tree.log.name = ap (λ v. v.name) beside.log in
    let run : Spells spelling (list ++ items) (log_of j.items b) =
    subst (λ (l : Log). Spells spelling (list ++ items) l) (sym put) (subst (λ (ls : List (List ℕ)). IsRunOf ls (appended (log_of j.items a) (map spelling items))) (sym (map-append spelling list items)) (run_appended (map spelling list) (map spelling items) (log_of j.items a) joined.items)) in
    let nodes : b.log k.tree.log.name ≡ a.log k.tree.log.name = others.logs k.tree.log.name (λ e. sound.apart (sym e ∙ node)) in
    let all = leaves_of s h spelling list ++ drop (length (leaves_of s h spelling list)) (leaves_of s h spelling made) in
    joined_grown s h digest admits spelling list made items k (present b) is (subst (λ (n : List ℕ). Spells spelling (list ++ items) (b.log n)) (sym name) run) held.start_is held.end_is
    (full_later s h digest admits all k.tree (present a) (present b) nodes (others.maps k.tree.metadata) tree)

-- the join stays sound where names and kept failures stay
pub sound_later : {D Codec : Type 0} (j k : Joined D Codec) → IsSoundJoin j → SameButBounds j.items k.items → IsBeside j.tree k.tree → k.failed ≡ j.failed → IsSoundJoin k
sound_later j k sound same beside failed = record {
  apart = λ e. sound.apart (sym (ap (λ v. v.name) same) ∙ e ∙ ap (λ v. v.name) beside.log);
  items = λ none. ap (λ v. v.failed) same ∙ sound.items (sym failed ∙ none);
  tree = λ none. ap (λ v. v.failed) beside.log ∙ sound.tree (sym failed ∙ none);
}
