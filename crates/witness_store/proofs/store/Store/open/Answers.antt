use Rattle.std.proofs.Common.{sym, subst}
use Rattle.std.specs.Prelude.{take}
use Rattle.volume_base.specs.Log.{Log}
use Rattle.witness_store.specs.Witness.{text_of, IsAllowed}
use Rattle.witness_store.specs.Witnesses.{Keeps}
use Rattle.witness_store.proofs.KeepLemmas.{kept_in, keeps_cut}
use Rattle.witness_store.proofs.StoreLemmas.{part_cut}
use Rattle.witness_store.proofs.store.Store.open.Goals as goal

pub returns-in_err-journal-clause-images : goal.returns-in_err-journal-clause-images
returns-in_err-journal-clause-images g c told ws greatest least le has =
    part_cut _ _ greatest least c.args.end _ _ (c.finish.ensures.call.log told).images ((g.met.V.Volume.contents_left c.args.vol.now told).logs _) le has

pub returns-clause-keeps : goal.returns-clause-keeps
returns-clause-keeps g c told ws keeps =
    let text = text_of {F = g.row.F.Denot} g.D.Spelled.spelling in
    subst (λ (l : Log). Keeps (kept_in text (IsAllowed (g.D.Read.admits tt)) l) (take c.args.end ws)) (sym (c.in_ok-journal.ensures.cut told))
    (keeps_cut text (IsAllowed (g.D.Read.admits tt)) ws _ keeps c.args.end (c.in_ok-journal.ensures.reached told))

pub returns-clause-images : goal.returns-clause-images
returns-clause-images g c told ws greatest least le has =
    part_cut _ _ greatest least c.args.end _ _ (c.finish.ensures.call.log told).images ((g.met.V.Volume.contents_left c.args.vol.now told).logs _) le has
