-- How far the node log of a full database reaches.
use Rattle.std.proofs.Common.{◌≡◌, ℕ, ◌≤◌, Bool, true, false, List, ◌++◌, length, take, refl, sym, ◌∙◌, ap, subst, arith, length-append}
use Rattle.std.specs.Cmp.Lexicographic.{bytes_decides}
use Rattle.std.proofs.lemmas.List.{length-take}
use Rattle.volume_base.specs.Log.{Log, end_of}
use Rattle.volume_base.specs.Moments.{Image}
use Rattle.volume_base.specs.Names.{log_alone, NamesCall}
use Rattle.volume_base.specs.Volume.{State}
use Rattle.journal_base.specs.Items.{Spells}
use Rattle.tree_shape.specs.Mmr.{mmr}
use Rattle.tree_shape.specs.Sha256Codec.{bytes_of, IsDigest}
use Rattle.tree_shape.specs.Slow.{nodes}
use Rattle.tree_shape.specs.declared.sha256.Sha256Digest.{Sha256Digest}
use Rattle.tree_store.specs.Stored.{size}
use Rattle.merkle_full.specs.Full.{Rests}
use Rattle.merkle_full.proofs.FullLemmas.{length-nodes}
use Rattle.merkle_full.proofs.StandLemmas.{full_run}
use Rattle.auth_journal.specs.Joined.{leaves_of}
use Rattle.auth_journal.proofs.LeafLemmas.{length-leaves_of}
use Rattle.auth_journal.proofs.ReadingLemmas.{run_end}
use Rattle.list_machine.specs.ConfigNames.{same_name}
use Rattle.list_machine.specs.Operation.{Operation, meaning, sha}
use Rattle.list_machine.proofs.NamesApart.{told_apart}
use Rattle.twin_batches.specs.Kind.{Kept}
use Rattle.twin_databases.specs.FullKind.{FullView, IsHeldIn, IsFullDbOf}

module _ (ops : List Operation) (db : FullView) (image : Image) (held : IsHeldIn ops db image) where
  abbrev Leaves : List Sha256Digest
  Leaves = leaves_of mmr sha meaning.encoding ops

  abbrev NodeLog : Log
  NodeLog = image.log db.journal.tree.log.name

  count : length (nodes mmr sha Leaves) ≡ size mmr (length ops)
  count = length-nodes mmr sha Leaves ∙ ap (λ (n : ℕ). size mmr n) (length-leaves_of mmr sha meaning.encoding ops)

  -- to the nodes of its list at most
  pub reach_within : end_of NodeLog ≤ size mmr (length ops)
  reach_within =
      let front = take (size mmr db.journal.tree.tree.boundary) (nodes mmr sha Leaves) in
      let end = run_end bytes_of front NodeLog held.journal.tree.nodes in
      omega (
        arith,
        end,
        length-take (size mmr db.journal.tree.tree.boundary) (nodes mmr sha Leaves),
        count,
      )

  -- and at rest to all of them
  pub reach_whole : Rests mmr db.journal.tree → end_of NodeLog ≡ size mmr (length ops)
  reach_whole rests =
      run_end bytes_of (nodes mmr sha Leaves) NodeLog
      (full_run mmr sha bytes_of IsDigest Leaves db.journal.tree image rests.boundary held.journal.tree)
      ∙ count

-- how many nodes are kept, in other words
pub retold_nodes : (kept : Kept) (leaves : ℕ) (image : Image) (db : FullView) → kept.leaves ≡ leaves
    → IsFullDbOf kept image db → IsFullDbOf (record kept { leaves = leaves }) image db
retold_nodes kept leaves image db same is = record {
  held = is.held;
  begins = is.begins;
  reaches = subst (λ (n : ℕ). size mmr n ≤ end_of (image.log db.journal.tree.log.name)) same is.reaches;
}

-- a call that puts operations behind a list leaves every other log; and the log of the operations is longer
module _ (items other : List ℕ) (old new : State) (ops more : List Operation) (call : NamesCall (log_alone items) old new)
    (was : Spells meaning.encoding ops (old.log items)) (is : Spells meaning.encoding (ops ++ more) (new.log items)) where
  items_later : end_of (old.log items) ≤ end_of (new.log items)
  items_later =
      let before = run_end meaning.encoding ops (old.log items) was in
      let after = run_end meaning.encoding (ops ++ more) (new.log items) is in
      omega (arith, before, after, length-append ops more)

  -- so no log ends earlier
  pub reach_later : end_of (old.log other) ≤ end_of (new.log other)
  reach_later = by (same_name other items) refl
    where
      by : (b : Bool) → same_name other items ≡ b → end_of (old.log other) ≤ end_of (new.log other)
      by true one = subst (λ (name : List ℕ). end_of (old.log name) ≤ end_of (new.log name))
          (sym ((bytes_decides other items).0 one)) items_later
      by false apart =
          let stays = ap (λ (l : Log). end_of l) (call.others.logs other (told_apart other items apart, tt)) in
          omega (arith, stays)
