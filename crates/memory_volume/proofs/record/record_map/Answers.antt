use Rattle.std.proofs.Common.{◌≡◌, [], ◌∷◌, ◌++◌, List, ◌∙◌, ap, refl}
use Rattle.std.specs.FinMap as map
use Rattle.volume_base.specs.Volume.{Map}
use Rattle.memory_volume.specs.declared.entry.Entry.{Entry}
use Rattle.memory_volume.specs.declared.entry.Entry.TheVariants.{OfMap}
use Rattle.memory_volume.specs.Tables.{held_map, map_name}
use Rattle.memory_volume.proofs.TableLemmas.{named_here, sets_at}
use Rattle.memory_volume.proofs.KeptLemmas.{kept_same, kept_map}
use Rattle.memory_volume.proofs.record.record_map.Goals as goal

pub returns-in_err-row-clause-kept : goal.returns-in_err-row-clause-kept
returns-in_err-row-clause-kept c logs = kept_same _ _ _ _ _ _ refl (λ other. refl) c.map_slot.ensures.kept

pub returns-in_err-its-clause-kept : goal.returns-in_err-its-clause-kept
returns-in_err-its-clause-kept c logs = kept_same _ _ _ _ _ _ refl (λ other. refl) c.in_ok-row.ensures.kept

pub returns-in_err-copy-clause-kept : goal.returns-in_err-copy-clause-kept
returns-in_err-copy-clause-kept c logs = kept_same _ _ _ _ _ _ refl (λ other. refl) c.in_ok-row.ensures.kept

pub returns-in_err-held-clause-kept : goal.returns-in_err-held-clause-kept
returns-in_err-held-clause-kept c logs = kept_same _ _ _ _ _ _ refl (λ other. refl) c.in_ok-row.ensures.kept

pub returns-in_err-reserve-clause-kept : goal.returns-in_err-reserve-clause-kept
returns-in_err-reserve-clause-kept c logs = kept_same _ _ _ _ _ _ c.in_err-reserve.ensures.items (λ other. refl) c.in_ok-row.ensures.kept

pub returns-clause-recorded : goal.returns-clause-recorded
returns-clause-recorded c =
    let its_name : c.in_ok-its.its ≡ c.args.name.now = c.in_ok-its.ensures ∙ named_here map_name _ c.args.name.now c.in_ok-row.row c.index.result.now c.in_ok-row.ensures.at c.in_ok-row.ensures.within c.index.ensures in
    c.push_reserved.ensures.items
    ∙ ap (λ (l : List Entry). l ++ OfMap c.in_ok-its.its c.in_ok-copy.copy ∷ []) c.in_ok-reserve.ensures.items
    ∙ ap (λ n. c.args.calls.now.items ++ OfMap n c.in_ok-copy.copy ∷ []) its_name
    ∙ ap (λ (m : Map). c.args.calls.now.items ++ OfMap c.args.name.now m ∷ []) c.in_ok-copy.ensures.same

pub returns-clause-kept : goal.returns-clause-kept
unfolding returns-clause-recorded
returns-clause-kept c logs kept =
    let sets = sets_at map_name held_map map.empty c.args.maps.now.items _ c.args.name.now c.in_ok-row.row c.index_mut.result.now (record { name = c.index_mut.result.now.name; map = c.in_ok-held.held }) c.args.map.now
    c.in_ok-row.ensures.kept c.in_ok-row.ensures.at c.in_ok-row.ensures.within c.index_mut.ensures.value refl (c.in_ok-held.ensures ∙ c.in_ok-copy.ensures.same) in
    kept_map _ _ c.args.name.now c.args.map.now logs _ _ (returns-clause-recorded c) sets kept
