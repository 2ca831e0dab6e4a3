use Rattle.std.proofs.Common.{◌≡◌, None, Err, sym, ◌∙◌, ap, arith}
use Rattle.std.specs.Fn.{FnReturnsAt}
use Rattle.std.specs.Prelude.{unwrap_or}
use Rattle.journal_base.specs.Answers.{IsOfRead}
use Rattle.journal_base.specs.Items.{items_of}
use Rattle.journal_base.specs.View.{IsWithin}
use Rattle.volume_base.specs.Log.{end_of}
use Rattle.auth_journal.specs.Searching.{NotFound}
use Rattle.auth_journal.proofs.SearchLemmas.{not_found, pruned_here, corrupt_here, search_differs, if_err, errors_of}
use Rattle.auth_journal.proofs.search.find_end.Goals as goal

pub returns-clause-refused : goal.returns-clause-refused
returns-clause-refused g c told held =
    let view = g.R.BackingRecovery.view c.args.journal.now in
    let state = g.V.Volume.state c.args.vol.now in
    let items = items_of g.R.Item.Spelled.spelling g.R.Item.Read.admits view state in
    let says = FnReturnsAt g.P.Fn c.args.predicate in
    let cap = c.args.max_size in
    let did = c.last_matching.ensures in
    let within : IsWithin view state = record { start_is = held.start_is; low = omega (arith, held.start_is, held.end_is); high = omega (arith, held.end_is) } in
    let ceiling : c.unwrap_or.result ≡ unwrap_or cap (end_of items.log) = c.unwrap_or.ensures ∙ ap (unwrap_or cap) (c.bounds-start.ensures.end ∙ held.end_is) in
    let differ : cap ≡ None → items.log.start ≡ end_of items.log → ⊥ = λ none same.
    search_differs cap c.is_none.result c.bounds-start.result.0 c.bounds-start.result.1 c.is_none.ensures c.else-is_none.either none
    (c.bounds-start.ensures.start ∙ held.start_is ∙ same ∙ sym held.end_is ∙ sym c.bounds-start.ensures.end) in
    if_err c.last_matching.result (NotFound items says cap) (λ e is. not_found items says cap e differ (record {
      pruned = λ p at. pruned_here items says cap view.start view.end c.unwrap_or.result held.start_is held.end_is ceiling p g.V.Volume.tells (IsWithin view state) told within (did.pruned p (is ∙ ap Err at));
      past = λ p at. (did.out_of_range p (is ∙ ap Err at)).2 told within;
      corrupt = λ p at. corrupt_here items says cap view.start view.end c.unwrap_or.result held.start_is held.end_is ceiling p g.V.Volume.tells told (did.corrupt p (is ∙ ap Err at));
      errors = errors_of IsOfRead c.last_matching.result e is did.errors;
    }))
