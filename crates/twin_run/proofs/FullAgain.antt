-- What the full database keeps on a volume is such that it can be opened again.
use Rattle.std.proofs.Common.{◌≡◌, ◌⊎◌, inl, inr, ℕ, ◌+◌, ◌<◌, ◌≤◌, ◌^◌, List, [], ◌++◌, length, map, get_or, Option, Some, sym, ap, subst, arith}
use Rattle.std.specs.Prelude.{slice_get}
use Rattle.std.proofs.lemmas.List.{append-nil, length-map}
use Rattle.volume_base.specs.Log.{Log}
use Rattle.volume_base.specs.Moments.{Image}
use Rattle.volume_base.specs.Names.{Names}
use Rattle.volume_base.specs.Volume.{Map}
use Rattle.volume_base.proofs.BoundLemmas.{part_of_run, part_wider}
use Rattle.codec_base.specs.Parts.{admits_bytes}
use Rattle.op_codec.specs.Keyless.{parts, variable_admits}
use Rattle.tree_shape.specs.Mmr.{mmr}
use Rattle.tree_shape.specs.Sha256Codec.{bytes_of, IsDigest}
use Rattle.tree_shape.specs.Slow.{nodes}
use Rattle.tree_shape.specs.declared.sha256.Sha256Digest.{Sha256Digest}
use Rattle.tree_shape.proofs.NeededLemmas.{made_le}
use Rattle.tree_store.specs.Stored.{size, TreeStands}
use Rattle.merkle_full.specs.Full.{Rests}
use Rattle.merkle_full.proofs.FullLemmas.{length-nodes}
use Rattle.merkle_full.proofs.StandLemmas.{full_run}
use Rattle.auth_journal.specs.Joined.{leaves_of}
use Rattle.auth_journal.proofs.LeafLemmas.{length-leaves_of}
use Rattle.list_machine.specs.Config.{Config}
use Rattle.list_machine.specs.Operation.{Operation, meaning, sha}
use Rattle.list_machine.specs.Starts.{full_names}
use Rattle.twin_batches.specs.Kind.{Kept}
use Rattle.twin_databases.specs.FullKind.{FullView, HasFullStart, IsFullDbOf, IsFullStart, full_end, full_kind}

module _ (config : Config) (kept : Kept) (image : Image) (db : FullView) (is : IsFullDbOf kept image db)
    (rests : Rests mmr db.journal.tree) (named : full_kind.names db ≡ full_names config) where
  log_is : image.log db.journal.items.name ≡ image.log config.log
  log_is = ap (λ (n : Names). image.log (get_or n.logs 0 [])) named

  nodes_is : image.log db.journal.tree.log.name ≡ image.log config.nodes
  nodes_is = ap (λ (n : Names). image.log (get_or n.logs 1 [])) named

  pins_is : image.map db.journal.tree.metadata ≡ image.map config.metadata
  pins_is = ap (λ (n : Names). image.map (get_or n.maps 0 [])) named

  abbrev Own : Log
  Own = image.log db.journal.items.name

  abbrev Leaves : List Sha256Digest
  Leaves = leaves_of mmr sha meaning.encoding kept.ops

  short : Own.start ≤ length Leaves
  short =
      let run = is.held.journal.items in
      omega (
        arith,
        run.within,
        length-map kept.ops meaning.encoding,
        length-leaves_of mmr sha meaning.encoding
            kept.ops,
      )

  -- its tree stands for its list, and all nodes are there
  tree : TreeStands mmr sha bytes_of Leaves Own.start Own.start (image.log db.journal.tree.log.name)
      (image.map db.journal.tree.metadata)
  tree =
      let full = is.held.journal.tree in
      let spelled = map bytes_of (nodes mmr sha Leaves) in
      let run = full_run mmr sha bytes_of IsDigest Leaves db.journal.tree image rests.boundary full in
      let part = part_of_run spelled (image.log db.journal.tree.log.name) run in
      let begins = is.held.journal.start_is in
      let low = is.held.low in
      let most = made_le mmr Own.start (length Leaves) short in
      record {
        boundary = db.journal.tree.boundary;
        high = omega (arith, low, begins);
        pins = full.pins;
        nodes = part_wider spelled (image.log db.journal.tree.log.name).start (size mmr db.journal.tree.boundary)
            (length spelled) (size mmr Own.start) (image.log db.journal.tree.log.name)
            (omega (arith, full.low, full.start_is))
            (omega (arith, most, length-map (nodes mmr sha Leaves) bytes_of, length-nodes mmr sha Leaves)) part;
      }

  -- It can be opened again, under a cap at which a commit is kept.
  pub again : (cap : Option ℕ)
      → ((i : ℕ) (op : Operation) → slice_get kept.ops i ≡ Some op
      → variable_admits (admits_bytes config.value_limit) (parts op))
      → (kept.start < full_end cap kept.ops) ⊎ ((full_end cap kept.ops ≡ 0) × (kept.start ≡ 0))
      → IsFullStart config image cap kept.ops
  again cap allowed some =
      let whole : kept.ops ++ [] ≡ kept.ops = append-nil kept.ops in
      let P : Log → Log → Map → Type 0 = λ log nodes pins. HasFullStart config.value_limit log nodes pins cap
      kept.ops in
      subst (λ (log : Log). P log (image.log config.nodes) (image.map config.metadata)) log_is
      (subst (λ (log : Log). P Own log (image.map config.metadata)) nodes_is
      (subst (λ (pins : Map). P Own (image.log db.journal.tree.log.name) pins) pins_is (record {
        rest = [];
        durable = Own.start;
        spelled = is.held.journal.items;
        few = subst (λ (ops : List Operation). length ops ≤ 2 ^ 62) (sym whole) is.held.db_of.few;
        allowed = allowed;
        tree = subst (λ (ops : List Operation). TreeStands mmr sha bytes_of (leaves_of mmr sha meaning.encoding ops)
            Own.start Own.start (image.log db.journal.tree.log.name) (image.map db.journal.tree.metadata))
            (sym whole) tree;
        low = omega arith;
        reached = reached some;
        some = subst (λ (n : ℕ). (n < full_end cap kept.ops) ⊎ ((full_end cap kept.ops ≡ 0) × (n ≡ 0)))
            (sym is.begins) some;
      })))
    where
      reached : (kept.start < full_end cap kept.ops) ⊎ ((full_end cap kept.ops ≡ 0) × (kept.start ≡ 0))
          → Own.start ≤ full_end cap kept.ops
      reached (inl lt) = let begins = is.begins in omega (arith, lt, begins)
      reached (inr (none, start)) = let begins = is.begins in omega (arith, start, begins)
