use Rattle.std.proofs.Common.{◌≡◌, [], ◌∷◌, ◌++◌, ap, sym, subst, string_bytes}
use Rattle.volume_base.specs.Log.{Log}
use Rattle.witness_store.specs.StoreView.{StoreView}
use Rattle.witness_store.specs.Witness.{text_of, IsAllowed}
use Rattle.witness_store.specs.Witnesses.{Keeps, LastIsBelow}
use Rattle.witness_store.proofs.KeepLemmas.{kept_in, keeps_more}
use Rattle.witness_store.proofs.StoreLemmas.{part_appended}
use Rattle.witness_store.proofs.store.Store.append.Goals as goal

pub returns-in_err-journal-clause-images : goal.returns-in_err-journal-clause-images
returns-in_err-journal-clause-images g c told ws greatest least run has =
    let name_is : string_bytes c.self.inside.journal.name ≡ c.args.self.log.name = ap (λ (v : StoreView). v.log.name) c.self.view_is in
    part_appended (text_of {F = g.row.F.Denot} g.D.Spelled.spelling) ws c.args.witness.now _ greatest least _ _ (rw name_is at (c.append.ensures.log tt told)).images run has

pub returns-clause-images : goal.returns-clause-images
returns-clause-images g c told ws greatest least run has =
    let name_is : string_bytes c.self.inside.journal.name ≡ c.args.self.log.name = ap (λ (v : StoreView). v.log.name) c.self.view_is in
    part_appended (text_of {F = g.row.F.Denot} g.D.Spelled.spelling) ws c.args.witness.now _ greatest least _ _ (rw name_is at (c.append.ensures.log tt told)).images run has

pub returns-clause-keeps : goal.returns-clause-keeps
returns-clause-keeps g c told held ws keeps ok more =
    let text = text_of {F = g.row.F.Denot} g.D.Spelled.spelling in
    let name_is : string_bytes c.self.inside.journal.name ≡ c.args.self.log.name = ap (λ (v : StoreView). v.log.name) c.self.view_is in
    let grown = rw name_is at (c.in_ok-journal.ensures.appended told) in
    subst (λ (l : Log). Keeps (kept_in text (IsAllowed (g.D.Read.admits tt)) l) (ws ++ c.args.witness.now ∷ [])) (sym grown)
    (keeps_more text (IsAllowed (g.D.Read.admits tt)) ws _ keeps c.args.witness.now ok (subst (λ n. LastIsBelow ws n c.args.witness.now.size) held.start_is more))
