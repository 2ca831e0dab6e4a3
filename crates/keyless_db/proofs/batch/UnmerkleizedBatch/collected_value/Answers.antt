use Rattle.std.proofs.Common.{◌≡◌, ◌<◌, length, List, refl, sym, ◌∙◌, ap, subst}
use Rattle.std.specs.Prelude.{slice_get}
use Rattle.std.proofs.lemmas.Option.{slice_get_read, same_Some}
use Rattle.keyless_db.specs.Batches.{UnmerkleizedView}
use Rattle.keyless_db.proofs.batch.UnmerkleizedBatch.collected_value.Goals as goal

pub returns-in-Ok-clause-value : goal.returns-in-Ok-clause-value
returns-in-Ok-clause-value g c op at =
    let items : c.items.result.now ≡ c.args.self.now.tree.items =
    c.items.ensures ∙ ap (λ (b : UnmerkleizedView g.row.F.Denot g.row.H-Digest.Denot g.row.O.Denot). b.tree.items) c.self.view_is in
    let within : c.args.index < length c.items.result.now = subst (λ (xs : List g.row.O.Denot). c.args.index < length xs) (sym items) c.requires in
    let read = slice_get_read c.items.result.now (length c.items.result.now) c.args.index c.index-items-index.result refl within c.index-items-index.is in
    let same : c.index-items-index.result ≡ op = same_Some _ op (sym read ∙ ap (λ (xs : List g.row.O.Denot). slice_get xs c.args.index) items ∙ at) in
    c.in-Ok.ensures.value ∙ ap g.O.Logged.meaning.value same
