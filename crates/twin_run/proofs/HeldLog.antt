-- What the logs of a volume hold where both databases stand for a state.
use Rattle.std.proofs.Common.{◌≡◌, ◌≤◌, ℕ, List, [], ◌++◌, length, take, drop, get_or, map, ap, sym, subst, ◌∙◌, arith}
use Rattle.std.proofs.lemmas.List.{map-append, take-append-drop}
use Rattle.journal_base.specs.Items.{Spells}
use Rattle.volume_base.specs.Bounds.{IsRunOf, IsPartOf}
use Rattle.volume_base.specs.Log.{Log, end_of}
use Rattle.volume_base.specs.Moments.{Image}
use Rattle.volume_base.specs.Names.{Names}
use Rattle.volume_base.specs.Volume.{Map}
use Rattle.volume_base.proofs.BoundLemmas.{part_of_run, part_of_longer}
use Rattle.tree_shape.specs.Mmr.{mmr}
use Rattle.tree_shape.specs.Sha256Codec.{bytes_of}
use Rattle.tree_shape.specs.Slow.{nodes}
use Rattle.tree_shape.specs.declared.sha256.Sha256Digest.{Sha256Digest}
use Rattle.tree_store.specs.Stored.{size, TreeStands}
use Rattle.auth_journal.specs.Joined.{leaves_of}
use Rattle.log_model.specs.Machine.{State}
use Rattle.log_model.specs.Witness.{witness_text}
use Rattle.compact_db.specs.DbView.{seen_log}
use Rattle.list_machine.specs.Config.{Config}
use Rattle.list_machine.specs.Operation.{Operation, meaning, sha}
use Rattle.list_machine.specs.Starts.{HoldsLog, HoldsTree, HoldsWitnesses, IsLeft, full_names, compact_names}
use Rattle.list_machine.proofs.LeftStarts.{left_start}
use Rattle.twin_batches.specs.Kind.{kept_of}
use Rattle.twin_databases.specs.CompactKind.{CompactView, compact_kind}
use Rattle.twin_databases.specs.FullKind.{FullView, full_kind}
use Rattle.twin_databases.proofs.CompactStanding.{texts_are}
use Rattle.twin_run.specs.Twins.{IsTwinsOf}
use Rattle.twin_run.specs.declared.sides.Twins.{Twins}

module _ (config : Config) (image : Image) where
  -- the operation log is the configuration's
  pub log_held : (db : FullView) (s : State Operation) → full_kind.names db ≡ full_names config
      → full_kind.is_of (kept_of s) image db → HoldsLog config image s
  log_held db s named of =
      let name : db.journal.items.name ≡ config.log = ap (λ (n : Names). get_or n.logs 0 []) named in
      let log : image.log db.journal.items.name ≡ image.log config.log = ap image.log name in record {
        ops = subst (λ (l : Log). Spells meaning.encoding s.ops l) log of.held.journal.items;
        start = ap (λ (l : Log). l.start) (sym log) ∙ of.begins;
      }

  -- a log and a map stand for the tree of a state's list
  abbrev StandForTree : State Operation → Log → Map → Type 0
  StandForTree s l pins = TreeStands mmr sha bytes_of (leaves_of mmr sha meaning.encoding s.ops) s.node_durable s.start l pins

  -- a log of the first nodes of a list has a part of them all
  part_of_nodes : (all : List Sha256Digest) (count greatest least : ℕ) (l : Log)
      → Spells bytes_of (take count all) l → l.start ≤ greatest → least ≤ end_of l
      → IsPartOf (map bytes_of all) greatest least l
  part_of_nodes all count greatest least l run low high =
      let front = map bytes_of (take count all) in
      let rest = map bytes_of (drop count all) in
      let spelled : front ++ rest ≡ map bytes_of all = sym (map-append bytes_of (take count all) (drop count all))
      ∙ ap (map bytes_of) (take-append-drop count all) in
      let part = part_of_longer front rest l.start (length front) l (part_of_run front l run) in
      let whole = subst (λ (list : List (List ℕ)). IsPartOf list l.start (length front) l) spelled part in
      record { items = whole.items; within = whole.within; start_high = low; end_low = high }

  -- and so are the node log and the map
  pub tree_held : (db : FullView) (s : State Operation) → full_kind.names db ≡ full_names config
      → full_kind.is_of (kept_of s) image db → HoldsTree config image s
  tree_held db s named of =
      let tree = db.journal.tree in
      let full = of.held.journal.tree in
      let start = of.held.journal.start_is in
      let begins = of.begins in
      let low = of.held.low in
      let log = image.log tree.log.name in
      let all = nodes mmr sha (leaves_of mmr sha meaning.encoding s.ops) in
      let nodes_is : log ≡ image.log config.nodes = ap (λ (n : Names). image.log (get_or n.logs 1 [])) named in
      let pins_is : image.map tree.metadata ≡ image.map config.metadata =
      ap (λ (n : Names). image.map (get_or n.maps 0 [])) named in
      subst (λ (l : Log). StandForTree s l (image.map config.metadata)) nodes_is
      (subst (λ (pins : Map). StandForTree s log pins) pins_is (record {
        boundary = tree.boundary;
        high = omega (arith, low, start, begins);
        pins = full.pins;
        nodes = part_of_nodes all (size mmr tree.tree.boundary) (size mmr tree.boundary) (size mmr s.node_durable) log
            full.nodes (omega (arith, full.low, full.start_is)) of.reaches;
      }))

  -- and so is the witness log
  pub witnesses_held : (db : CompactView) (s : State Operation) → compact_kind.names db ≡ compact_names config
      → compact_kind.is_of (kept_of s) image db → HoldsWitnesses config image s
  witnesses_held db s named of =
      let name : (seen_log db.log).name ≡ config.witness = ap (λ (n : Names). get_or n.logs 0 []) named in
      let log : image.log (seen_log db.log).name ≡ image.log config.witness = ap image.log name in
      let texts = texts_are s.ops s.sizes in record {
        witnesses = subst (λ (l : Log). IsRunOf (map (witness_text mmr sha meaning bytes_of s.ops) s.sizes) l) log
            (subst (λ (list : List (List ℕ)). IsRunOf list (image.log (seen_log db.log).name)) texts
            of.held.witnesses.spelled);
        start = ap (λ (l : Log). l.start) (sym log) ∙ of.begins;
      }

  -- all hold what is kept of the last state
  pub state_left : (t : Twins) (s last : State Operation) → IsTwinsOf config image t s → s ≡ last
      → IsLeft config image last
  state_left t s last of is =
      let log = log_held t.full.db s of.of.under.full_names_are of.full.log in
      let tree = tree_held t.full.db s of.of.under.full_names_are of.full.log in
      let witnesses = witnesses_held t.compact.db s of.of.under.compact_names_are of.compact.log in
      subst (λ (x : State Operation). IsLeft config image x) is (record {
        log = log;
        tree = tree;
        witnesses = witnesses;
        again = left_start config s image of.good log tree witnesses;
      })
