use Rattle.std.proofs.Common.{◌≡◌, ◌<◌, List, if◌then◌else◌, length, sym, ◌∙◌, ap, subst, arith}
use Rattle.std.specs.Str.{bytes_eq}
use Rattle.volume_base.specs.Log.{Log, no_log, end_of}
use Rattle.volume_base.proofs.StepLemmas.{log_is}
use Rattle.memory_volume.specs.Choices.{chosen_log}
use Rattle.memory_volume.specs.Record.{versions_of}
use Rattle.memory_volume.specs.Replay.{replay_name, versions_in, replayed}
use Rattle.memory_volume.specs.Versions.{Versions, only, IsVersion}
use Rattle.memory_volume.specs.declared.entry.Entry.{Entry}
use Rattle.memory_volume.specs.declared.entry.Entry.TheVariants.{OfLog}
use Rattle.memory_volume.specs.declared.entry.LogChange.TheVariants.{Put}
use Rattle.memory_volume.proofs.ChoiceLemmas.{chosen_log_fits}
use Rattle.memory_volume.proofs.KeptLemmas.{versions_push}
use Rattle.memory_volume.proofs.TableLemmas.{value_here, named_here}
use Rattle.memory_volume.proofs.memory.MemoryVolume.crash_log.Goals as goal

pub chosen_in-requires : goal.chosen_in-requires
chosen_in-requires c log is =
    let within : c.replay_row.result < length c.args.rows.now = omega (arith, c.requires.within, c.replay_row.ensures.row) in
    let here = value_here replay_name versions_in (only no_log) c.args.rows.now c.args.name.now c.replay_row.result c.index-rows-replay_row.result c.replay_row.ensures.row within c.index-rows-replay_row.is in
    c.requires.fits log (subst (λ (v : Versions). IsVersion v log) (sym here) is)

pub record_log-requires : goal.record_log-requires
record_log-requires c =
    let within : c.replay_row.result < length c.args.rows.now = omega (arith, c.requires.within, c.replay_row.ensures.row) in
    let here = value_here replay_name versions_in (only no_log) c.args.rows.now c.args.name.now c.replay_row.result c.index-rows-replay_row.result c.replay_row.ensures.row within c.index-rows-replay_row.is in
    let its_name = named_here replay_name c.args.rows.now c.args.name.now c.replay_row.result c.index-rows-replay_row.result c.replay_row.ensures.row within c.index-rows-replay_row.is in
    let is : c.in_ok-log.log ≡ chosen_log c.args.choices.now (replayed c.args.rows.now c.args.name.now) c.args.name.now =
    c.in_ok-log.ensures.made
    ∙ ap (λ (v : Versions). chosen_log c.args.choices.now v c.index-rows-replay_row.result.name) (sym here)
    ∙ ap (chosen_log c.args.choices.now (replayed c.args.rows.now c.args.name.now)) its_name in
    omega (arith, chosen_log_fits c.args.choices.now (replayed c.args.rows.now c.args.name.now) c.args.name.now c.requires.fits, ap end_of is, c.start-start.ensures, ap length (c.from_vec.ensures ∙ c.into_items.ensures))

pub returns-clause-logs : goal.returns-clause-logs
returns-clause-logs c other =
    let within : c.replay_row.result < length c.args.rows.now = omega (arith, c.requires.within, c.replay_row.ensures.row) in
    let here = value_here replay_name versions_in (only no_log) c.args.rows.now c.args.name.now c.replay_row.result c.index-rows-replay_row.result c.replay_row.ensures.row within c.index-rows-replay_row.is in
    let its_name = named_here replay_name c.args.rows.now c.args.name.now c.replay_row.result c.index-rows-replay_row.result c.replay_row.ensures.row within c.index-rows-replay_row.is in
    let is : c.in_ok-log.log ≡ chosen_log c.args.choices.now (replayed c.args.rows.now c.args.name.now) c.args.name.now =
    c.in_ok-log.ensures.made
    ∙ ap (λ (v : Versions). chosen_log c.args.choices.now v c.index-rows-replay_row.result.name) (sym here)
    ∙ ap (chosen_log c.args.choices.now (replayed c.args.rows.now c.args.name.now)) its_name in
    let put_is = log_is (record { start = c.start-start.result; items = c.from_vec.result }) _ (c.start-start.ensures ∙ ap (λ (l : Log). l.start) is) (c.from_vec.ensures ∙ c.into_items.ensures ∙ ap (λ (l : Log). l.items) is) in
    ap (λ (calls : List Entry). versions_of calls other) c.in_ok-record_log.ensures.recorded
    ∙ versions_push c.args.self.now.calls.items (OfLog c.args.name.now (Put c.start-start.result c.from_vec.result)) other
    ∙ ap (λ (l : Log). if bytes_eq c.args.name.now other then only l else versions_of c.args.self.now.calls.items other) put_is
