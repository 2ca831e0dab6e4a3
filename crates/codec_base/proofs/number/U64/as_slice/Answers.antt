use Rattle.std.proofs.Common.{sym}
use Rattle.std.proofs.lemmas.Nat.{be_bytes_8}
use Rattle.codec_base.proofs.number.U64.as_slice.Goals as goal

pub returns : goal.returns
returns c = sym (be_bytes_8 c.self.inside.bytes c.args.self.now c.self.told c.self.invariant (sym c.self.view_is))
