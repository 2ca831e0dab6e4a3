use Rattle.std.proofs.Common.{◌*◌, sym}
use Rattle.std.proofs.Math.Nat.{add-mod}
use Rattle.list_machine.specs.Generator.{draw}
use Rattle.list_machine.proofs.generator.draw.Goals as goal

pub returns : goal.returns
unfolding draw
returns c = sym (add-mod (c.args.x * 6364136223846793005) 1442695040888963407 18446744073709551616)
