use Rattle.std.proofs.Common.{◌≡◌, Some, None, sym, ◌∙◌, ap, subst}
use Rattle.journal_base.specs.View.{View, view_of, IsHeld}
use Rattle.witness_store.specs.StoreView.{StoreView}
use Rattle.witness_store.specs.Witnesses.{witnesses_of, Keeps, IsKept}
use Rattle.witness_store.proofs.KeptLemmas.{kept_here, kept_none, kept_other}
use Rattle.witness_store.proofs.SearchLemmas.{within_of_held}
use Rattle.witness_store.proofs.store.Store.place_at.Goals as goal

pub returns-then-as_u64-wanted-clause-kept : goal.returns-then-as_u64-wanted-clause-kept
returns-then-as_u64-wanted-clause-kept g c told held ws keeps =
    let s = g.V.Volume.state c.args.vol.now in
    let log_is : view_of c.self.inside.journal ≡ c.args.self.now.log = ap (λ (v : StoreView). v.log) c.self.view_is in
    let same : c.in-Some.witness.size ≡ c.args.size = sym c.as_u64.ensures ∙ c.if-as_u64-wanted.true ∙ c.as_u64-wanted.ensures in
    subst (λ (v : View (Unit {0})). IsHeld v s → Keeps (witnesses_of g.D.Spelled.spelling (g.D.Read.admits tt) v s) ws → IsKept ws v.start c.args.size (Some (c.in_ok-found.found.position, c.in-Some.witness))) log_is
    (λ at kept. kept_here g.D.Spelled.spelling (g.D.Read.admits tt) (g.D.Read.reads tt) (g.met.D.Read.lawful tt) _ s ws at kept c.args.size c.in_ok-found.found (c.in_ok-found.ensures.found told (within_of_held _ _ at)) c.in-Some.witness c.in-Some.is same) held keeps

pub returns-in-Some-clause-kept : goal.returns-in-Some-clause-kept
returns-in-Some-clause-kept g c told held ws keeps =
    let s = g.V.Volume.state c.args.vol.now in
    let log_is : view_of c.self.inside.journal ≡ c.args.self.now.log = ap (λ (v : StoreView). v.log) c.self.view_is in
    subst (λ (v : View (Unit {0})). IsHeld v s → Keeps (witnesses_of g.D.Spelled.spelling (g.D.Read.admits tt) v s) ws → IsKept ws v.start c.args.size None) log_is
    (λ at kept. kept_other g.D.Spelled.spelling (g.D.Read.admits tt) (g.D.Read.reads tt) (g.met.D.Read.lawful tt) _ s ws at kept c.args.size c.in_ok-found.found (c.in_ok-found.ensures.found told (within_of_held _ _ at)) c.in-Some.witness c.in-Some.is
    (λ same. c.if-as_u64-wanted.false (c.as_u64.ensures ∙ same ∙ sym c.as_u64-wanted.ensures))) held keeps

pub returns-clause-kept : goal.returns-clause-kept
returns-clause-kept g c told held ws keeps =
    let s = g.V.Volume.state c.args.vol.now in
    let log_is : view_of c.self.inside.journal ≡ c.args.self.now.log = ap (λ (v : StoreView). v.log) c.self.view_is in
    subst (λ (v : View (Unit {0})). IsHeld v s → Keeps (witnesses_of g.D.Spelled.spelling (g.D.Read.admits tt) v s) ws → IsKept ws v.start c.args.size None) log_is
    (λ at kept. kept_none g.D.Spelled.spelling (g.D.Read.admits tt) (g.D.Read.reads tt) (g.met.D.Read.lawful tt) _ s ws at kept c.args.size c.in_ok-found.found (c.in_ok-found.ensures.found told (within_of_held _ _ at)) c.in-None.is) held keeps
