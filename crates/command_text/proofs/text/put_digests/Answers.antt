use Rattle.std.proofs.Common.{arith}
use Rattle.command_text.proofs.EachText.{listed_digests, puts_same}
use Rattle.command_text.proofs.text.put_digests.Goals as goal

pub returns-in-len1-up-clause-text : goal.returns-in-len1-up-clause-text
returns-in-len1-up-clause-text g c =
    puts_same _ _ _ _ _ _ _ (listed_digests c.args.digests.now _ (omega (arith, c.in-len1-up.len_at_least))) c.put_some_digests.ensures.text
