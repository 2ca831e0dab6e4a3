use Rattle.std.proofs.Common.{sym, ◌∙◌, ap}
use Rattle.volume_base.specs.Log.{no_log}
use Rattle.memory_volume.specs.Versions.{Versions, only}
use Rattle.memory_volume.specs.Record.{changed, next_versions}
use Rattle.memory_volume.specs.Replay.{replay_name, versions_in, replayed}
use Rattle.memory_volume.proofs.TableLemmas.{value_was, sets_at}
use Rattle.memory_volume.proofs.KeptLemmas.{sets_next}
use Rattle.memory_volume.proofs.replay.replay_call.Goals as goal

pub returns-in_ok-change_versions-in-OfLog-clause-ok : goal.returns-in_ok-change_versions-in-OfLog-clause-ok
returns-in_ok-change_versions-in-OfLog-clause-ok c other =
    let kept = c.in_ok-row-in-OfLog.ensures.kept in
    let at = c.in_ok-row-in-OfLog.ensures.at in
    let within = c.in_ok-row-in-OfLog.ensures.within in
    let old = c.args.rows.now.items in
    let was = value_was replay_name versions_in (only no_log) old _ c.in-OfLog.name c.in_ok-row-in-OfLog.row c.index_mut.result.now kept at within c.index_mut.ensures.value in
    let sets = sets_at replay_name versions_in (only no_log) old _ c.in-OfLog.name c.in_ok-row-in-OfLog.row c.index_mut.result.now c.change_versions.new.row (changed (replayed old c.in-OfLog.name) c.in-OfLog.change)
    kept at within c.index_mut.ensures.value c.change_versions.ensures.name (c.in_ok-change_versions-in-OfLog.ensures.ok ∙ ap (λ (v : Versions). changed v c.in-OfLog.change) (sym was)) in
    sets.each other ∙ sets_next c.in-OfLog.name other c.in-OfLog.change (replayed old) ∙ ap (next_versions other (replayed old other)) (sym c.in-OfLog.is)
