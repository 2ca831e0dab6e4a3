use Rattle.std.proofs.Common.{◌≡◌, ◌-◌}
use Rattle.codec_base.specs.Combine.{zeros_at}
use Rattle.codec_base.proofs.zeros.read_zeros.Given as goal

abbrev pub invariant-loop : goal.invariant-loop
invariant-loop l = zeros_at (l.count - l.counter) l.ahead ≡ zeros_at l.count l.fn.buf
