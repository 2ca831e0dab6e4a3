use Rattle.std.proofs.Common.{rules, ◌≡◌, ap, sym, ◌∙◌}
use Rattle.std.specs.Ordering.{nat_cmp}
use Rattle.std.specs.Cmp.Lexicographic.{slice_cmp}
use Rattle.std.specs.FinMap.{from_entries}
use Rattle.volume_base.specs.Pairs.{pairs_of}
use Rattle.volume_base.proofs.PairLemmas.{filled, filled_empty, filled_none, filled_more, took_last, took_all}
use Rattle.volume_base.proofs.map.MetaMapDuplicate.duplicate.Goals as goal

pub loop-key-init : goal.loop-key-init
loop-key-init c =
    ap (λ it. filled (pairs_of it.iter) (from_entries (pairs_of c.new-values.result.entries))) c.into_iter-key-iterator.ensures.into_iter_gives
    ∙ ap (λ es. filled (pairs_of es) (from_entries (pairs_of c.new-values.result.entries))) (c.rev-key-items.ensures.source ∙ c.iter.ensures.rest)
    ∙ ap (λ es. filled (pairs_of c.self.inside.values.entries) (from_entries {R = slice_cmp nat_cmp} (pairs_of es))) c.new-values.ensures.empty
    ∙ filled_empty (pairs_of c.self.inside.values.entries)
    ∙ c.self.view_is

pub loop-key-preserved-in_ok-insert : goal.loop-key-preserved-in_ok-insert
loop-key-preserved-in_ok-insert c =
    let key : c.in_ok-to_vec.field-0.items ≡ c.in-Some.key.now.items = search rules in
    let value : c.in_ok-duplicate.field-0 ≡ c.in-Some.value.now = search rules in
    filled_more _ _ (c.in-Some.key.now, c.in-Some.value.now) _ _ _ _ _ (took_last _ _ _ _ _ c.in-Some.is c.next.ensures.steps) key value c.in_ok-insert.ensures.entries c.loop-key.invariant

pub loop-key-preserved : goal.loop-key-preserved
loop-key-preserved c =
    let key : c.in_ok-to_vec.field-0.items ≡ c.in-Some.key.now.items = search rules in
    let value : c.in_ok-duplicate.field-0 ≡ c.in-Some.value.now = search rules in
    filled_more _ _ (c.in-Some.key.now, c.in-Some.value.now) _ _ _ _ _ (took_last _ _ _ _ _ c.in-Some.is c.next.ensures.steps) key value c.in_ok-insert.ensures.entries c.loop-key.invariant

pub returns-clause-same : goal.returns-clause-same
returns-clause-same c =
    sym (filled_none (from_entries (pairs_of c.loop-key.values.entries)))
    ∙ ap (λ es. filled (pairs_of es) (from_entries (pairs_of c.loop-key.values.entries))) (sym (took_all _ _ _ c.in-None.is c.next.ensures.steps))
    ∙ c.loop-key.invariant
