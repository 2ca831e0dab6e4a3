use Rattle.std.proofs.Common.{◌≡◌, ◌-◌, length, sym, ◌∙◌, ap, arith}
use Rattle.codec_base.specs.Parts.{whole}
use Rattle.compact_db.proofs.RebuildLemmas.{answer_is}
use Rattle.compact_db.proofs.rebuilding.commit_of.Goals as goal

pub returns-clause-counted : goal.returns-clause-counted
returns-clause-counted g c =
    let before : c.as_u64-size.result - 1 ≡ c.args.witness.now.size - 1 = ap (λ n. n - 1) c.as_u64-size.ensures in
    sym c.len.ensures.count ∙ c.if-len-peaks.false ∙ c.from-peaks.ensures ∙ c.peak_count.ensures ∙ ap (λ n. length (g.F.Family.shape.heights n)) before

pub returns-clause-answer : goal.returns-clause-answer
returns-clause-answer g c =
    let size = c.as_u64-size.ensures in
    let some = c.if-size-eq0.false in
    let few = c.if-size-gt-MAX_LEAVES.false in
    let early = c.if-floor-before.false in
    answer_is g.F.Family.shape g.O.Logged.meaning (λ bytes. whole (g.O.Read.reads c.args.codec.now bytes)) c.args.witness.now c.in_ok-commit.commit c.in-Some.floor
    (omega (arith, size, some)) (omega (arith, size, few)) c.in_ok-commit.ensures.operation (sym c.commit_floor.ensures ∙ c.in-Some.is) (omega (arith, size, early))
    (returns-clause-counted g c)
