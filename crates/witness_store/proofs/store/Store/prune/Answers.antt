use Rattle.std.proofs.Common.{◌≡◌, ◌∙◌, ap}
use Rattle.journal_base.specs.View.{view_of}
use Rattle.witness_store.specs.StoreView.{StoreView}
use Rattle.witness_store.proofs.PruneLemmas.{pruned_keeps, pruned_images}
use Rattle.witness_store.proofs.store.Store.prune.Goals as goal

pub returns-in_err-journal-clause-images : goal.returns-in_err-journal-clause-images
returns-in_err-journal-clause-images g c told held settled ws greatest least keeps has =
    let log_is : view_of c.store.inside.journal ≡ c.args.self.log = ap (λ (v : StoreView). v.log) (c.store.view_is ∙ c.in_ok-store.ensures.made) in
    pruned_images g.D.Spelled.spelling (g.D.Read.admits tt) _ _ log_is c.args.boundary _ _ _ (c.commit.ensures.contents told) held ws keeps _ greatest least (c.commit.ensures.log told) has
    ((g.met.V.Volume.contents_left c.args.vol.now told).logs _) (c.in_ok-store.ensures.durable told settled) (λ at kept. c.drop_below.ensures.log told at ws kept)

pub returns-clause-keeps : goal.returns-clause-keeps
returns-clause-keeps g c told held ws keeps =
    let log_is : view_of c.store.inside.journal ≡ c.args.self.log = ap (λ (v : StoreView). v.log) (c.store.view_is ∙ c.in_ok-store.ensures.made) in
    pruned_keeps g.D.Spelled.spelling (g.D.Read.admits tt) _ _ log_is c.args.boundary (g.V.Volume.state c.args.vol.now) (g.V.Volume.state c.commit.new.vol) (g.V.Volume.state c.drop_below.new.vol) (c.commit.ensures.contents told) held ws keeps (λ at kept. c.in_ok-journal.ensures.pruned told at ws kept)

pub returns-clause-images : goal.returns-clause-images
returns-clause-images g c told held settled ws greatest least keeps has =
    let log_is : view_of c.store.inside.journal ≡ c.args.self.log = ap (λ (v : StoreView). v.log) (c.store.view_is ∙ c.in_ok-store.ensures.made) in
    pruned_images g.D.Spelled.spelling (g.D.Read.admits tt) _ _ log_is c.args.boundary _ _ _ (c.commit.ensures.contents told) held ws keeps _ greatest least (c.commit.ensures.log told) has
    ((g.met.V.Volume.contents_left c.args.vol.now told).logs _) (c.in_ok-store.ensures.durable told settled) (λ at kept. c.drop_below.ensures.log told at ws kept)
