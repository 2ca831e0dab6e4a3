use Rattle.std.proofs.Common.{List, ◌∙◌, ap, subst}
use Rattle.memory_volume.specs.Choices.{chosen_log}
use Rattle.memory_volume.specs.Record.{versions_of}
use Rattle.memory_volume.specs.Replay.{replayed}
use Rattle.memory_volume.specs.Tables.{stored_map}
use Rattle.memory_volume.specs.Versions.{Versions, IsVersion}
use Rattle.memory_volume.specs.declared.entry.Entry.{Entry}
use Rattle.memory_volume.specs.declared.replay.Replayed.{Replayed}
use Rattle.memory_volume.specs.declared.stored.StoredMap.{StoredMap}
use Rattle.memory_volume.proofs.CrashLemmas.{every_image, chosen_left}
use Rattle.memory_volume.proofs.memory.MemoryVolume.crash.Goals as goal

pub returns-in_err-rows-clause-every_image : goal.returns-in_err-rows-clause-every_image
returns-in_err-rows-clause-every_image c name log left = every_image c.args.self.now.calls.items name log (c.args.self.now.kept.ends_fit name) left

pub crash_logs-requires-clause-fits : goal.crash_logs-requires-clause-fits
crash_logs-requires-clause-fits c name log is =
    c.args.self.now.kept.ends_fit name log (subst (λ (v : Versions). IsVersion v log)
    (ap (λ (l : List Replayed). replayed l name) c.deref-2.ensures.value ∙ c.in_ok-rows.ensures.rows name ∙ ap (λ (cs : List Entry). versions_of cs name) c.deref.ensures.value) is)

pub returns-in_err-crash_logs-clause-every_image : goal.returns-in_err-crash_logs-clause-every_image
returns-in_err-crash_logs-clause-every_image c name log left = every_image c.args.self.now.calls.items name log (c.args.self.now.kept.ends_fit name) left

pub returns-in_err-crash_maps-clause-every_image : goal.returns-in_err-crash_maps-clause-every_image
returns-in_err-crash_maps-clause-every_image c name log left = every_image c.args.self.now.calls.items name log (c.args.self.now.kept.ends_fit name) left

pub returns-clause-every_image : goal.returns-clause-every_image
returns-clause-every_image c name log left = every_image c.args.self.now.calls.items name log (c.args.self.now.kept.ends_fit name) left

pub returns-clause-image : goal.returns-clause-image
returns-clause-image c = chosen_left c.args.self.now.calls.items c.crash_maps.new.self.calls.items c.args.self.now.failing c.crash_maps.new.self.failing c.args.self.now.reads c.crash_maps.new.self.reads c.args.choices.now
    (λ name.
    ap (λ (v : Versions). v.present) (c.crash_maps.ensures.logs name ∙ c.in_ok-crash_logs.ensures.logs name)
    ∙ ap (λ (v : Versions). chosen_log c.args.choices.now v name) (ap (λ (l : List Replayed). replayed l name) c.deref-2.ensures.value ∙ c.in_ok-rows.ensures.rows name ∙ ap (λ (cs : List Entry). versions_of cs name) c.deref.ensures.value))
    (λ name. c.in_ok-crash_maps.ensures.maps name ∙ ap (λ (l : List StoredMap). stored_map l name) c.deref-3.ensures.value ∙ c.args.self.now.kept.maps_match name)
