use Rattle.std.proofs.Common.{◌≤◌, ℕ, Option, subst, arith}
use Rattle.std.specs.Prelude.{◌^◌, IfSome}
use Rattle.journal_base.specs.View.{seen_of}
use Rattle.tree_shape.proofs.NeededLemmas.{made_le}
use Rattle.tree_store.specs.Stored.{size}
use Rattle.merkle_full.proofs.sync_log.begun_log.Goals as goal

pub trimmed_log-requires-clause-low : goal.trimmed_log-requires-clause-low
trimmed_log-requires-clause-low g c =
    let within = subst (λ (o : Option ℕ). IfSome o (λ n. (c.args.start ≤ n) × (n ≤ 2 ^ 62))) c.in-Some.is c.requires.within in
    let less = made_le g.F.Family.shape c.args.start c.in-Some.leaves within.0 in
    omega (arith, less, c.size-position.ensures, c.size.ensures)

pub trimmed_log-requires-clause-past : goal.trimmed_log-requires-clause-past
trimmed_log-requires-clause-past g c =
    let s = g.F.Family.shape in
    let within = subst (λ (o : Option ℕ). IfSome o (λ n. (c.args.start ≤ n) × (n ≤ 2 ^ 62))) c.in-Some.is c.requires.within in
    let low = subst (λ (o : Option ℕ). IfSome o (λ n. (seen_of c.args.nodes).start ≤ size s c.args.start)) c.in-Some.is c.requires.low in
    let less = made_le s c.args.start c.in-Some.leaves within.0 in
    omega (arith, less, low, c.size.ensures)
