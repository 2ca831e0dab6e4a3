use Rattle.std.proofs.Common.{◌≡◌}
use Rattle.std.specs.FinMap.{from_entries}
use Rattle.volume_base.specs.Pairs.{pairs_of}
use Rattle.volume_base.proofs.PairLemmas.{filled}
use Rattle.volume_base.proofs.map.MetaMapDuplicate.duplicate.Given as goal

abbrev pub invariant-loop-key : goal.invariant-loop-key
invariant-loop-key l = filled (pairs_of l.key-iterator.iter) (from_entries (pairs_of l.values.entries)) ≡ l.self
