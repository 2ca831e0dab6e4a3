use Rattle.line_text.specs.Pending.{puts_then}
use Rattle.command_text.proofs.text.put_roots.Goals as goal

pub returns-clause-text : goal.returns-clause-text
returns-clause-text g c =
    puts_then _ _ _ _ _ _ _ _ _ c.in_ok-put_digest.ensures.text (puts_then _ _ _ _ _ _ _ _ _ c.in_ok-put_digest-2.ensures.text c.put.ensures.text)
