use Rattle.std.proofs.Common.{ap, ◌∙◌}
use Rattle.std.specs.Ordering.{nat_cmp}
use Rattle.std.specs.Cmp.Lexicographic.{slice_cmp}
use Rattle.std.specs.FinMap.{from_entries, insert}
use Rattle.volume_base.specs.Pairs.{pairs_of}
use Rattle.volume_base.proofs.PairLemmas.{insert_pair}
use Rattle.volume_base.proofs.map.MetaMap.put.Goals as goal

pub returns-clause-ok : goal.returns-clause-ok
returns-clause-ok c =
    ap (λ es. from_entries {R = slice_cmp nat_cmp} (pairs_of es)) c.in_ok-insert.ensures.entries
    ∙ insert_pair c.self.inside.values.entries c.into_vec.result c.args.value
    ∙ ap (λ k. insert (from_entries (pairs_of c.self.inside.values.entries)) k c.args.value) c.into_vec.ensures
    ∙ ap (λ m. insert m c.args.key c.args.value) c.self.view_is
