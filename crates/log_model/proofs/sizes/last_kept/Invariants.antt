use Rattle.std.proofs.Common.{◌≡◌, drop}
use Rattle.log_model.specs.Opening.{last_kept}
use Rattle.volume_base.specs.Log.{Log, end_of}
use Rattle.log_model.proofs.sizes.last_kept.Given as goal

abbrev pub invariant-loop-i : goal.invariant-loop-i
invariant-loop-i l = (log : Log) → l.witness_start ≡ log.start → l.witness_end ≡ end_of log → last_kept l.most log 1 0 l.sizes ≡ last_kept l.most log l.found l.i (drop l.i l.sizes)
