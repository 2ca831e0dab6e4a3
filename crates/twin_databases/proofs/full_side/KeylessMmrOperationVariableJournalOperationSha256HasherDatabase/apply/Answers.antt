use Rattle.std.proofs.Common.{◌≡◌, Some, map, ap}
use Rattle.std.proofs.lemmas.Result.{IfOk-weaker}
use Rattle.chain_core.specs.Reached.{item_at}
use Rattle.auth_journal.specs.Appending.{unapplied}
use Rattle.list_machine.specs.Operation.{meaning}
use Rattle.twin_databases.specs.FullKind.{SealedView}
use Rattle.twin_databases.proofs.FullLemmas.{alive_item, applied_list, applied_errors, appended_begins, names_wider, same_names}
use Rattle.twin_databases.proofs.FullMoments.{applied_images}
use Rattle.twin_databases.proofs.full_side.KeylessMmrOperationVariableJournalOperationSha256HasherDatabase.apply.Goals as goal

pub returns-clause-list : goal.returns-clause-list
returns-clause-list g c =
    let db = c.args.self in
    let old = g.V.Volume.state c.args.volume.now in
    let new = g.V.Volume.state c.apply_batch.new.vol in
    let made = c.apply_batch.ensures in
    let at = λ (x : SealedView). item_at c.args.pool.now c.args.id ≡ Some x in
    applied_list g.V.Volume.tells db old new at c.apply_batch.result made.held made.journal
    (appended_begins g.V.Volume.tells db old new at c.apply_batch.result (λ b. map meaning.encoding (unapplied b.tree db.journal.tree.tree.leaves))
    (λ b there. (made.appends b there).appended)) made.names

pub returns-clause-errors : goal.returns-clause-errors
returns-clause-errors g c =
    let made = c.apply_batch.ensures in
    applied_errors c.args.self (λ (x : SealedView). item_at c.args.pool.now c.args.id ≡ Some x) g.V.Volume.tells (g.V.Volume.state c.args.volume.now) c.apply_batch.result
    made.errors made.fits made.room

pub returns-clause-names : goal.returns-clause-names
returns-clause-names g c tells =
    let j = c.args.self.journal in
    names_wider j.items.name j.tree.log.name j.tree.metadata (g.V.Volume.state c.args.volume.now) (g.V.Volume.state c.apply_batch.new.vol) (c.apply_batch.ensures.names tells)

pub returns-clause-same_names : goal.returns-clause-same_names
returns-clause-same_names g c =
    IfOk-weaker c.apply_batch.result _ _ (λ made same. same_names c.args.self.journal made.journal same) c.apply_batch.ensures.journal

pub returns-clause-writes : goal.returns-clause-writes
returns-clause-writes g c =
    let b = alive_item c.args.pool.now c.args.id c.requires in
    (c.apply_batch.ensures.appends b.0 b.1).writes

pub returns-clause-images : goal.returns-clause-images
returns-clause-images g c told x there s more good is sealed =
    let made = c.apply_batch.ensures in
    applied_images g.V.Volume.tells c.args.self (g.V.Volume.state c.args.volume.now)
    (g.V.Volume.state c.apply_batch.new.vol) (λ (b : SealedView). item_at c.args.pool.now c.args.id ≡ Some b)
    c.apply_batch.result made.stale (λ refused. ap g.V.Volume.state (made.unwritten refused)) made.images
    told x there s more is sealed
