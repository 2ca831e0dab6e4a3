use Rattle.std.proofs.Common.{◌≡◌, Some, sym, ap, subst, ◌∙◌}
use Rattle.std.proofs.lemmas.Result.{IfOk-weaker}
use Rattle.chain_core.specs.Reached.{item_at}
use Rattle.journal_base.specs.View.{log_of}
use Rattle.compact_db.specs.DbView.{seen_log}
use Rattle.compact_db.proofs.ServingLemmas.{and_ok}
use Rattle.twin_databases.specs.CompactKind.{SealedView}
use Rattle.twin_databases.proofs.CompactLemmas.{applied_list, applied_errors, same_failed, same_blob}
use Rattle.twin_databases.proofs.CompactMoments.{applied_keeps}
use Rattle.twin_databases.proofs.compact_side.CompactDbMmrOperationSha256HasherDatabase.apply.Goals as goal

pub returns-clause-list : goal.returns-clause-list
returns-clause-list g c =
    let db = c.args.self in
    let state = g.V.Volume.state in
    let made = c.apply_batch.ensures in
    applied_list g.V.Volume.tells db (state c.args.volume.now) (state c.apply_batch.new.vol) (λ (x : SealedView). item_at c.args.pool.now c.args.id ≡ Some x) c.apply_batch.result
    made.held made.kept made.log made.written (λ b there le here. ap (λ v. log_of (seen_log db.log) (state v)) (made.idle b there le here))

pub returns-clause-errors : goal.returns-clause-errors
returns-clause-errors g c =
    let made = c.apply_batch.ensures in
    applied_errors c.args.self (λ (x : SealedView). item_at c.args.pool.now c.args.id ≡ Some x) g.V.Volume.tells (g.V.Volume.state c.args.volume.now) c.apply_batch.result
    made.errors made.fits (λ told over b there. (made.full told over b there).1)

pub returns-clause-images : goal.returns-clause-images
returns-clause-images g c = λ told x there s more good is sealed.
    let state = g.V.Volume.state in
    let made = c.apply_batch.ensures in
    applied_keeps c.args.self (state c.args.volume.now) s good is g.V.Volume.tells (λ (b : SealedView). item_at c.args.pool.now c.args.id ≡ Some b) (state c.apply_batch.new.vol)
    made.images (λ b at le here P was. subst (λ v. P (state v)) {y = c.apply_batch.new.vol} (sym (made.idle b at le here)) was) told x there more sealed

pub returns-clause-sound : goal.returns-clause-sound
returns-clause-sound g c =
    let log = seen_log c.args.self.log in
    IfOk-weaker c.apply_batch.result _ _ (λ made same was. same_failed log (seen_log made.log) same ∙ was) c.apply_batch.ensures.log

pub returns-clause-under : goal.returns-clause-under
returns-clause-under g c =
    let log = seen_log c.args.self.log in
    let made = c.apply_batch.ensures in
    IfOk-weaker c.apply_batch.result _ _ (λ made same config was. record {
      blob = same_blob log (seen_log made.log) same.0 ∙ was.blob;
      codec = same.1 ∙ was.codec;
    }) (and_ok c.apply_batch.result _ _ made.log made.codec)
