use Rattle.std.proofs.Common.{◌≡◌, drop}
use Rattle.evidence_table.specs.ByteHash.{absorbed_all}
use Rattle.evidence_table.proofs.byte_hash.mixed_all.Given as goal

abbrev pub invariant-loop-byte : goal.invariant-loop-byte
invariant-loop-byte l = absorbed_all l.mixture (drop l.byte-index l.bytes) ≡ absorbed_all l.fn.state l.bytes
