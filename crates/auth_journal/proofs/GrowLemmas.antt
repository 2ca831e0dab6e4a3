-- What a crash leaves of a journal while items are put behind its own.
use Rattle.std.proofs.Common.{◌≡◌, ◌≢◌, inl, inr, ℕ, List, ◌++◌, length, map, refl, sym, ap, subst}
use Rattle.std.proofs.lemmas.List.{map-append}
use Rattle.std.specs.Prelude.{Result}
use Rattle.volume_base.specs.Bounds.{IsPartOf}
use Rattle.volume_base.specs.Log.{Log, Grows}
use Rattle.volume_base.specs.Moments.{Image, NamesLeft, Now, Keeps}
use Rattle.volume_base.specs.Volume.{State, LogMoves}
use Rattle.volume_base.proofs.BoundLemmas.{part_grows}
use Rattle.volume_base.proofs.ImageLemmas.{with_log, with_log_here, with_log_other}
use Rattle.volume_base.proofs.NameLemmas.{names_move_log}
use Rattle.volume_base.proofs.CallLemmas.{log_call_none}
use Rattle.volume_base.proofs.StepLemmas.{grows_same}
use Rattle.journal_base.specs.Items.{Spells}
use Rattle.journal_base.specs.View.{View}
use Rattle.tree_shape.specs.Hashing.{Hashing}
use Rattle.tree_shape.specs.Shape.{Shape, IsLawful}
use Rattle.tree_store.specs.Stored.{TreeStands}
use Rattle.tree_store.proofs.StoredLemmas.{stands_longer}
use Rattle.auth_journal.specs.Appending.{Appends}
use Rattle.auth_journal.specs.Batched.{leaves_from}
use Rattle.auth_journal.specs.Joined.{Joined, leaves_of}
use Rattle.auth_journal.specs.Standing.{Marks, names_of, ImageStands, KeepsStanding}
use Rattle.auth_journal.proofs.LeafLemmas.{leaves_more}

same_start : (contents old new : Log) (texts : List (List ℕ)) → Grows contents texts old new → new.start ≡ old.start
same_start contents old new texts (inl same) = ap (λ (l : Log). l.start) same
same_start contents old new texts (inr put) = ap (λ (l : Log). l.start) put.4

module _ {D Codec Item : Type 0} (s : Shape) (h : Hashing D) (digest : D → List ℕ) (spelling : Item → List ℕ) (list items : List Item) (j : Joined D Codec) (apart : j.items.name ≢ j.tree.log.name) (w : IsLawful s) where
  abbrev Stands : List Item → Marks → Image → Type 0
  Stands all marks = ImageStands s h digest spelling all marks j

  -- a log of items that stays or grows stands for the longer list
  grown : (marks : Marks) (contents : Log) → Spells spelling list contents → (image : Image) (was : Log) → Stands list marks (with_log j.items.name was image) → Grows contents (map spelling items) was (image.log j.items.name)
      → Stands (list ++ items) marks image
  grown marks contents run image was stands step =
      let log = image.log j.items.name in
      let m = image.map j.tree.metadata in
      let nodes = image.log j.tree.log.name in
      let before = with_log j.items.name was image in
      let here : before.log j.items.name ≡ was = with_log_here j.items.name was image in
      let there : before.log j.tree.log.name ≡ nodes = with_log_other j.items.name j.tree.log.name was image apart in
      let part = subst (λ (l : Log). IsPartOf (map spelling list) marks.prune marks.durable l) here stands.items in
      let tree = subst (λ (l : Log). TreeStands s h digest (leaves_of s h spelling list) marks.node_durable was.start l m) there
      (subst (λ (l : Log). TreeStands s h digest (leaves_of s h spelling list) marks.node_durable l.start (before.log j.tree.log.name) m) here stands.tree) in
      let begins = subst (λ n. TreeStands s h digest (leaves_of s h spelling list) marks.node_durable n nodes m) (sym (same_start contents was log (map spelling items) step)) tree in
      record {
        items = subst (λ (xs : List (List ℕ)). IsPartOf xs marks.prune marks.durable log) (sym (map-append spelling list items)) (part_grows (map spelling list) (map spelling items) contents was log marks.prune marks.durable run step part);
        tree = subst (λ (all : List D). TreeStands s h digest all marks.node_durable log.start nodes m) (sym (leaves_more s h spelling list items))
            (stands_longer s h digest (leaves_of s h spelling list) (leaves_from s h (length list) (map spelling items)) marks.node_durable log.start nodes m w begins);
      }

  pub items_grow : (marks : Marks) (a b : State) → Spells spelling list (a.log j.items.name) → LogMoves j.items.name (Grows (a.log j.items.name) (map spelling items)) a b
      → Now (NamesLeft (names_of j)) (Stands list marks) a → Keeps (NamesLeft (names_of j)) (Stands (list ++ items) marks) a b
  items_grow marks a b run moves has =
      names_move_log (names_of j) j.items.name (Stands list marks) (Stands (list ++ items) marks) a b (Grows (a.log j.items.name) (map spelling items)) (inl refl) moves has (grown marks (a.log j.items.name) run)

  -- a call puts these items behind those of the log
  pub appends_stand : {T E : Type 0} (tells : Type 0) (fault : E) (shown : T → View Codec) (a b : State) (result : Result T E) → Appends tells fault spelling j.items shown items a b result → tells
      → (marks : Marks) → Spells spelling list (a.log j.items.name) → KeepsStanding s h digest spelling list (list ++ items) marks j a b
  appends_stand tells fault shown a b result did told marks run has = items_grow marks a b run (did.log told).images has

  -- nothing is called
  pub none_stands : (a : State) (marks : Marks) → Spells spelling list (a.log j.items.name) → KeepsStanding s h digest spelling list (list ++ items) marks j a a
  none_stands a marks run has =
      items_grow marks a a run (log_call_none j.items.name (Grows (a.log j.items.name) (map spelling items)) a (grows_same (a.log j.items.name) (map spelling items))).images has
