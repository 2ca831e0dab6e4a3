use Rattle.std.proofs.Common.{sym, ◌∙◌, ap}
use Rattle.evidence_table.specs.ByteHash.{absorbed_all, absorbed_all-append}
use Rattle.evidence_table.proofs.byte_hash.ByteHasherHasher.update.Goals as goal

pub returns : goal.returns
returns c m held = c.mixed_all-self.ensures ∙ ap (λ s. absorbed_all s c.args.bytes.now) held ∙ sym (absorbed_all-append 0 m c.args.bytes.now)
