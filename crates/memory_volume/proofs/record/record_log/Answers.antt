use Rattle.std.proofs.Common.{◌≡◌, [], ◌∷◌, ◌++◌, List, sym, ◌∙◌, ap, subst, refl}
use Rattle.volume_base.specs.Log.{Log, no_log}
use Rattle.memory_volume.specs.declared.entry.Entry.{Entry}
use Rattle.memory_volume.specs.declared.entry.Entry.TheVariants.{OfLog}
use Rattle.memory_volume.specs.Record.{CanChange, after}
use Rattle.memory_volume.specs.Tables.{stored_log, log_of, log_name}
use Rattle.memory_volume.proofs.TableLemmas.{named_here, value_was, sets_at, keeps_at}
use Rattle.memory_volume.proofs.KeptLemmas.{kept_same, kept_log}
use Rattle.memory_volume.proofs.record.record_log.Goals as goal

pub returns-in_err-reserve-clause-kept : goal.returns-in_err-reserve-clause-kept
returns-in_err-reserve-clause-kept c maps = kept_same _ _ _ _ _ _ c.in_err-reserve.ensures.items c.in_ok-row.ensures.kept (λ other. refl)

pub change_log-requires : goal.change_log-requires
change_log-requires c =
    let was = value_was log_name log_of no_log c.args.logs.now.items _ c.args.name.now c.in_ok-row.row c.index_mut.result.now c.in_ok-row.ensures.kept c.in_ok-row.ensures.at c.in_ok-row.ensures.within c.index_mut.ensures.value in
    subst (λ (l : Log). CanChange l c.args.change) was c.requires

pub returns-in_err-change_log-clause-kept : goal.returns-in_err-change_log-clause-kept
returns-in_err-change_log-clause-kept c maps =
    kept_same _ _ _ _ _ _ c.in_ok-reserve.ensures.items
    (keeps_at log_name log_of no_log c.args.logs.now.items _ c.args.name.now c.in_ok-row.row c.index_mut.result.now _ c.in_ok-row.ensures.kept c.in_ok-row.ensures.at c.in_ok-row.ensures.within c.index_mut.ensures.value c.change_log.ensures.name c.in_err-change_log.ensures.err)
    (λ other. refl)

pub returns-clause-recorded : goal.returns-clause-recorded
returns-clause-recorded c =
    let its_name : c.in_ok-its.its ≡ c.args.name.now = c.in_ok-its.ensures ∙ named_here log_name _ c.args.name.now c.in_ok-row.row c.index.result.now c.in_ok-row.ensures.at c.in_ok-row.ensures.within c.index.ensures in
    c.push_reserved.ensures.items
    ∙ ap (λ (l : List Entry). l ++ OfLog c.in_ok-its.its c.args.change ∷ []) c.in_ok-reserve.ensures.items
    ∙ ap (λ n. c.args.calls.now.items ++ OfLog n c.args.change ∷ []) its_name

pub returns-clause-kept : goal.returns-clause-kept
unfolding returns-clause-recorded
returns-clause-kept c maps kept =
    let was = value_was log_name log_of no_log c.args.logs.now.items _ c.args.name.now c.in_ok-row.row c.index_mut.result.now c.in_ok-row.ensures.kept c.in_ok-row.ensures.at c.in_ok-row.ensures.within c.index_mut.ensures.value in
    let sets = sets_at log_name log_of no_log c.args.logs.now.items _ c.args.name.now c.in_ok-row.row c.index_mut.result.now c.change_log.new.log (after (stored_log c.args.logs.now.items c.args.name.now) c.args.change)
    c.in_ok-row.ensures.kept c.in_ok-row.ensures.at c.in_ok-row.ensures.within c.index_mut.ensures.value c.change_log.ensures.name (c.in_ok-change_log.ensures.ok ∙ ap (λ (l : Log). after l c.args.change) (sym was)) in
    kept_log _ _ c.args.name.now c.args.change _ _ maps (returns-clause-recorded c) sets c.requires kept
