use Rattle.std.proofs.Common.{◌≡◌, ◌<◌, ◌+◌, ◌-◌, if◌then◌else◌, length, drop, sym, ◌∙◌, ap, subst, arith}
use Rattle.std.specs.Str.{bytes_eq}
use Rattle.memory_volume.specs.Choices.{chosen_log}
use Rattle.memory_volume.specs.Record.{versions_of}
use Rattle.memory_volume.specs.Replay.{replay_name, replayed}
use Rattle.memory_volume.specs.Tables.{row_of}
use Rattle.memory_volume.specs.Versions.{Versions, only}
use Rattle.memory_volume.proofs.CrashLemmas.{row_found, crashed, crashed_whole, crashed_step, only_if}
use Rattle.memory_volume.proofs.memory.MemoryVolume.crash_logs.Goals as goal

pub crash_log-requires-clause-within : goal.crash_log-requires-clause-within
crash_log-requires-clause-within c =
    let lt : c.loop-i.i - 1 < length c.args.rows.now = omega (arith, c.loop-i.invariant.within, c.loop-i-test.true) in
    let name_is : c.as_slice.result.now ≡ c.index-rows-i.result.name = c.as_slice.ensures ∙ c.get.ensures ∙ ap replay_name (sym c.index-rows-i.is) in
    subst (λ n. row_of replay_name c.args.rows.now n < length c.args.rows.now) (sym name_is) (row_found replay_name c.args.rows.now (c.loop-i.i - 1) c.index-rows-i.result lt c.index-rows-i.is)

pub crash_log-requires-clause-fits : goal.crash_log-requires-clause-fits
crash_log-requires-clause-fits c = c.requires.fits c.as_slice.result.now

pub loop-i-preserved : goal.loop-i-preserved
loop-i-preserved c =
    let rows = c.args.rows.now in
    let choices = c.args.choices.now in
    let lt : c.loop-i.i - 1 < length rows = omega (arith, c.loop-i.invariant.within, c.loop-i-test.true) in
    let back : c.loop-i.i ≡ c.loop-i.i - 1 + 1 = omega (arith, c.loop-i-test.true) in
    let name_is : c.as_slice.result.now ≡ c.index-rows-i.result.name = c.as_slice.ensures ∙ c.get.ensures ∙ ap replay_name (sym c.index-rows-i.is) in
    record {
      within = omega (arith, lt);
      logs = λ name.
          c.in_ok-crash_log.ensures.logs name
          ∙ ap (λ n. if bytes_eq n name then only (chosen_log choices (replayed rows n) n) else versions_of c.loop-i.self.calls.items name) name_is
          ∙ ap (λ (v : Versions). if bytes_eq c.index-rows-i.result.name name then only (chosen_log choices (replayed rows c.index-rows-i.result.name) c.index-rows-i.result.name) else v) (c.loop-i.invariant.logs name ∙ ap (λ k. only (crashed choices rows (drop k rows) name)) back)
          ∙ only_if (bytes_eq c.index-rows-i.result.name name) (chosen_log choices (replayed rows c.index-rows-i.result.name) c.index-rows-i.result.name) (crashed choices rows (drop (c.loop-i.i - 1 + 1) rows) name)
          ∙ ap only (sym (crashed_step choices rows (c.loop-i.i - 1) c.index-rows-i.result name lt c.index-rows-i.is));
      maps = λ name. c.crash_log.ensures.maps name ∙ c.loop-i.invariant.maps name;
      failing = c.crash_log.ensures.failing ∙ c.loop-i.invariant.failing;
      reads = c.crash_log.ensures.reads ∙ c.loop-i.invariant.reads;
    }

pub returns-clause-logs : goal.returns-clause-logs
returns-clause-logs c name =
    let none : c.loop-i.i ≡ 0 = omega (arith, c.loop-i-test.false) in
    c.loop-i.invariant.logs name ∙ ap only (ap (λ k. crashed c.args.choices.now c.args.rows.now (drop k c.args.rows.now) name) none ∙ crashed_whole c.args.choices.now c.args.rows.now name)
