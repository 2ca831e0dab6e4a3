-- What the calls of a journal leave of its logs and its map, at each moment.
use Rattle.std.proofs.Common.{◌≡◌, ◌≢◌, inl, ℕ, ◌≤◌, List, length, map, refl, sym, subst, arith}
use Rattle.std.proofs.lemmas.List.{length-map}
use Rattle.volume_base.specs.Bounds.{IsRunOf, IsPartOf}
use Rattle.volume_base.specs.Log.{Log, Stays}
use Rattle.volume_base.specs.Moments.{Image, LeftAt, NamesLeft, Now, Keeps, present}
use Rattle.volume_base.specs.Names.{Names, log_alone, log_and_map, NamesCall}
use Rattle.volume_base.specs.Volume.{State, PastStays, LogStays, LogMoves, LogCall}
use Rattle.volume_base.proofs.BoundLemmas.{part_of_run, part_wider}
use Rattle.volume_base.proofs.CallLemmas.{names_call_log}
use Rattle.volume_base.proofs.ImageLemmas.{with_log, with_log_here, with_log_other}
use Rattle.volume_base.proofs.SyncLemmas.{names_synced}
use Rattle.journal_base.specs.Items.{Spells}
use Rattle.journal_base.specs.View.{IsDurable}
use Rattle.tree_shape.specs.Hashing.{Hashing}
use Rattle.tree_shape.specs.Shape.{Shape}
use Rattle.tree_store.specs.Stored.{TreeStands}
use Rattle.merkle_full.specs.Flushing.{AllStand, AllKeepStanding}
use Rattle.auth_journal.specs.Joined.{Joined, leaves_of}
use Rattle.auth_journal.specs.Standing.{Marks, items_synced, all_synced, names_of, logs_of, ImageStands}
use Rattle.auth_journal.proofs.LeafLemmas.{length-leaves_of}

-- ---- which names a call is on

module _ {D Codec : Type 0} (j : Joined D Codec) (a b : State) where
  pub names_items : (step : Log → Log → Type 0) → LogCall j.items.name step a b → NamesCall (names_of j) a b
  names_items step call = names_call_log (names_of j) j.items.name step a b (inl refl) call

  pub names_tree : NamesCall (log_alone j.tree.log.name) a b → NamesCall (names_of j) a b
  names_tree call = record {
    others = record { logs = λ other none. call.others.logs other none.1; maps = λ other none. call.others.maps other tt };
    images = record { past = call.images.past; logs = λ other none. call.images.logs other none.1; maps = λ other none. call.images.maps other tt };
  }

  pub logs_items : (step : Log → Log → Type 0) → LogCall j.items.name step a b → NamesCall (logs_of j) a b
  logs_items step call = names_call_log (logs_of j) j.items.name step a b (inl refl) call

  pub logs_tree : NamesCall (log_alone j.tree.log.name) a b → NamesCall (logs_of j) a b
  logs_tree call = record {
    others = record { logs = λ other none. call.others.logs other none.1; maps = λ other none. call.others.maps other tt };
    images = record { past = call.images.past; logs = λ other none. call.images.logs other none.1; maps = λ other none. call.images.maps other tt };
  }

  pub names_logs : NamesCall (logs_of j) a b → NamesCall (names_of j) a b
  names_logs call = record {
    others = record { logs = λ other none. call.others.logs other none; maps = λ other none. call.others.maps other tt };
    images = record { past = call.images.past; logs = λ other none. call.images.logs other none; maps = λ other none. call.images.maps other tt };
  }

  pub names_tree_and_map : NamesCall (log_and_map j.tree.log.name j.tree.metadata) a b → NamesCall (names_of j) a b
  names_tree_and_map call = record {
    others = record { logs = λ other none. call.others.logs other none.1; maps = λ other none. call.others.maps other none };
    images = record { past = call.images.past; logs = λ other none. call.images.logs other none.1; maps = λ other none. call.images.maps other none };
  }

-- ---- what is left stands for a list

module _ {D Codec Item : Type 0} (s : Shape) (h : Hashing D) (digest : D → List ℕ) (spelling : Item → List ℕ) (list : List Item) (j : Joined D Codec) (apart : j.items.name ≢ j.tree.log.name) where
  abbrev names : Names
  names = names_of j

  abbrev Left : State → ℕ → Image → Type 0
  Left = NamesLeft names

  abbrev Stands : Marks → Image → Type 0
  Stands marks = ImageStands s h digest spelling list marks j

  abbrev leaves : List D
  leaves = leaves_of s h spelling list

  -- a sync of the log of items
  pub items_keep : (marks : Marks) (a b : State) → LogMoves j.items.name Stays a b → Now Left (Stands marks) a → Keeps Left (Stands marks) a b
  items_keep marks a b moves has = names_synced names j.items.name (Stands marks) a b (inl refl) moves has

  -- and where it is done all items are durable
  pub items_settle : (marks : Marks) (b : State) → Spells spelling list (b.log j.items.name) → IsDurable j.items b → Now Left (Stands marks) b → Now Left (Stands (items_synced (length list) marks)) b
  items_settle marks b run only has image at =
      let was = has image at in
      let log = image.log j.items.name in
      let whole : IsRunOf (map spelling list) log = subst (λ (l : Log). Spells spelling list l) (sym (only log at.logs.0)) run in
      record {
        items = part_wider (map spelling list) log.start marks.prune (length (map spelling list)) (length list) log was.items.start_high (omega (arith, length-map list spelling)) (part_of_run (map spelling list) log whole);
        tree = was.tree;
      }

  -- beside an image of the log of items each of the node log and of the map stands for the leaves
  pub tree_beside : (marks : Marks) (a : State) (log : Log) → a.log_left a.clock j.items.name log → Now Left (Stands marks) a → AllStand s h digest leaves marks.node_durable log.start j.tree a
  tree_beside marks a log at_items has nodes m at_nodes at_map =
      let rest : Image = record { log = λ name. nodes; map = λ name. m } in
      let image : Image = with_log j.items.name log rest in
      let here : image.log j.items.name ≡ log = with_log_here j.items.name log rest in
      let there : image.log j.tree.log.name ≡ nodes = with_log_other j.items.name j.tree.log.name log rest apart in
      let stands = has image (record {
        logs = (subst (λ (l : Log). a.log_left a.clock j.items.name l) (sym here) at_items, (subst (λ (l : Log). a.log_left a.clock j.tree.log.name l) (sym there) at_nodes, tt));
        maps = (at_map, tt);
      }) in
      subst (λ (l : Log). TreeStands s h digest leaves marks.node_durable log.start l m) there
      (subst (λ (l : Log). TreeStands s h digest leaves marks.node_durable l.start (image.log j.tree.log.name) m) here stands.tree)

  -- each image of the log of items is a part of the list
  pub items_stand : (marks : Marks) (a : State) (log : Log) → LeftAt a a.clock (present a) → a.log_left a.clock j.items.name log → Now Left (Stands marks) a → IsPartOf (map spelling list) marks.prune marks.durable log
  items_stand marks a log now at_items has =
      let image : Image = with_log j.items.name log (present a) in
      let here : image.log j.items.name ≡ log = with_log_here j.items.name log (present a) in
      let there : image.log j.tree.log.name ≡ a.log j.tree.log.name = with_log_other j.items.name j.tree.log.name log (present a) apart in
      let stands = has image (record {
        logs = (subst (λ (l : Log). a.log_left a.clock j.items.name l) (sym here) at_items, (subst (λ (l : Log). a.log_left a.clock j.tree.log.name l) (sym there) (now.logs j.tree.log.name), tt));
        maps = (now.maps j.tree.metadata, tt);
      }) in
      subst (λ (l : Log). IsPartOf (map spelling list) marks.prune marks.durable l) here stands.items

  -- a call on the tree alone, over which its log and its map stand for the leaves as before
  pub tree_keeps : (marks : Marks) (a b : State) → PastStays a b → LogStays j.items.name a b → LeftAt a a.clock (present a)
      → ((top : ℕ) → AllStand s h digest leaves marks.node_durable top j.tree a → AllKeepStanding s h digest leaves marks.node_durable top j.tree a b)
      → Now Left (Stands marks) a → Keeps Left (Stands marks) a b
  tree_keeps marks a b past stays now keeps has = record {
    past = past;
    during = λ t image lo hi at.
        let log = image.log j.items.name in
        let was = (stays t log lo hi).0 at.logs.0 in
        record {
          items = items_stand marks a log now was has;
          tree = (keeps log.start (tree_beside marks a log was has)).during t (image.log j.tree.log.name) (image.map j.tree.metadata) lo hi at.logs.1.0 at.maps.0;
        };
  }

  -- and where it is done all nodes are durable
  pub tree_settles : (marks : Marks) (a b : State) → LogStays j.items.name a b → a.clock ≤ b.clock
      → ((top : ℕ) → AllStand s h digest leaves marks.node_durable top j.tree a → AllStand s h digest leaves (length leaves) top j.tree b)
      → Now Left (Stands marks) a → Now Left (Stands marks) b → marks.durable ≡ length list → Now Left (Stands (all_synced (length list) marks)) b
  tree_settles marks a b stays later settle had has durable image at =
      let log = image.log j.items.name in
      let was = (stays b.clock log later (omega arith)).0 at.logs.0 in
      let tree = settle log.start (tree_beside marks a log was had) (image.log j.tree.log.name) (image.map j.tree.metadata) at.logs.1.0 at.maps.0 in
      record {
        items = subst (λ n. IsPartOf (map spelling list) marks.prune n log) durable (has image at).items;
        tree = subst (λ n. TreeStands s h digest leaves n log.start (image.log j.tree.log.name) (image.map j.tree.metadata)) (length-leaves_of s h spelling list) tree;
      }
