use Rattle.std.proofs.Common.{◌-◌, ℕ, List, sym, ◌∙◌, ap, drop}
use Rattle.std.proofs.lemmas.List.{drop-take}
use Rattle.volume_base.specs.Log.{Log}
use Rattle.memory_volume.specs.Record.{after}
use Rattle.memory_volume.specs.Tables.{log_of}
use Rattle.memory_volume.proofs.table.change_log.Goals as goal

pub returns-in-Cut-clause-ok : goal.returns-in-Cut-clause-ok
returns-in-Cut-clause-ok c = ap (λ (l : List (List ℕ)). let made : Log = record { start = c.args.log.now.start; items = l } in made)
    (ap (drop c.args.log.now.skipped) c.truncate.ensures.items ∙ drop-take c.args.log.now.skipped (c.in-Cut.end - c.args.log.now.start) c.args.log.now.items.items)
    ∙ ap (after (log_of c.args.log.now)) (sym c.in-Cut.is)
