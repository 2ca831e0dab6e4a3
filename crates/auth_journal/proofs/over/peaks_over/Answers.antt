use Rattle.std.proofs.Common.{◌∙◌}
use Rattle.auth_journal.proofs.OverLemmas.{peaks_read}
use Rattle.auth_journal.proofs.over.peaks_over.Goals as goal

pub returns : goal.returns
returns g c =
    let read = c.nodes_from_memory.ensures in
    peaks_read g.F.Family.shape c.args.batch.now c.args.base.now c.args.leaves c.deref.result.now c.nodes_from_memory.result g.met.F.Family.lawful g.met.F.Family.keeps
    c.leaves-sealed.ensures.sound c.leaves-stored.ensures.sound c.requires (c.deref.ensures.value ∙ c.in_ok-positions.ensures) read.nodes read.unread
