use Rattle.std.proofs.Common.{◌≡◌, ◌<◌, ◌+◌, ◌-◌, List, if◌then◌else◌, length, drop, sym, ◌∙◌, ap, arith}
use Rattle.std.specs.Str.{bytes_eq}
use Rattle.volume_base.specs.Volume.{Map}
use Rattle.memory_volume.specs.Record.{versions_of, map_of}
use Rattle.memory_volume.specs.Tables.{stored_map}
use Rattle.memory_volume.specs.declared.entry.Entry.{Entry}
use Rattle.memory_volume.specs.declared.entry.Entry.TheVariants.{OfMap}
use Rattle.memory_volume.proofs.CrashLemmas.{stored_map_step}
use Rattle.memory_volume.proofs.KeptLemmas.{versions_push, map_push}
use Rattle.memory_volume.proofs.memory.MemoryVolume.crash_maps.Goals as goal

pub loop-i-preserved : goal.loop-i-preserved
loop-i-preserved c =
    let maps = c.args.maps.now in
    let lt : c.loop-i.i - 1 < length maps = omega (arith, c.loop-i.invariant.within, c.loop-i-test.true) in
    let back : c.loop-i.i ≡ c.loop-i.i - 1 + 1 = omega (arith, c.loop-i-test.true) in
    let name_is : c.as_slice-name.result.now ≡ c.index-maps-i.result.name = c.as_slice-name.ensures ∙ c.get.ensures in
    let map_is : c.get-map.result.now ≡ c.index-maps-i.result.map = c.get-map.ensures in
    let calls = c.loop-i.self.calls.items in
    record {
      within = omega (arith, lt);
      maps = λ name.
          ap (λ (cs : List Entry). map_of cs name) c.in_ok-record_map.ensures.recorded
          ∙ map_push calls (OfMap c.as_slice-name.result.now c.get-map.result.now) name
          ∙ ap (λ n. if bytes_eq n name then c.get-map.result.now else map_of calls name) name_is
          ∙ ap (λ (m : Map). if bytes_eq c.index-maps-i.result.name name then m else map_of calls name) map_is
          ∙ ap (λ (m : Map). if bytes_eq c.index-maps-i.result.name name then c.index-maps-i.result.map else m) (c.loop-i.invariant.maps name ∙ ap (λ k. stored_map (drop k maps) name) back)
          ∙ sym (stored_map_step maps (c.loop-i.i - 1) c.index-maps-i.result name lt c.index-maps-i.is);
      logs = λ name.
          ap (λ (cs : List Entry). versions_of cs name) c.in_ok-record_map.ensures.recorded
          ∙ versions_push calls (OfMap c.as_slice-name.result.now c.get-map.result.now) name
          ∙ c.loop-i.invariant.logs name;
      failing = c.loop-i.invariant.failing;
      reads = c.loop-i.invariant.reads;
    }
