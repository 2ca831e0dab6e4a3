use Rattle.std.proofs.Common.{rules, ◌-◌, arith, refl}
use Rattle.journal_base.proofs.ItemLemmas.{holds_here, corrupt_here}
use Rattle.journal_base.proofs.MatchLemmas.{within_later, none_more}
use Rattle.volume_base.proofs.ReadLemmas.{only_read_none, only_read_joins, reads_joins, reads_of}
use Rattle.journal_base.proofs.matching.match_below.Goals as goal

pub loop-end-init : goal.loop-end-init
loop-end-init g c = record {
  high = omega arith;
  low = omega arith;
  so_far = only_read_none _ _;
  none = λ told p lo hi. absurd (omega arith);
  reads = omega arith;
  counted = omega arith;
}

pub returns-in_err-item-clause-not_pruned : goal.returns-in_err-item-clause-not_pruned
returns-in_err-item-clause-not_pruned g c told within p is =
    let at = within_later (g.J.Contiguous.view c.args.journal.now) (g.V.Volume.state c.args.vol.now) (g.V.Volume.state c.loop-end.vol) ((c.loop-end.invariant.so_far.contents told).logs _) within in
    let why = c.read.ensures.pruned p (search rules) in
    omega (arith, why.1 told, at.start_is, c.bounds-start.ensures.start)

pub returns-in_err-item-clause-not_out_of_range : goal.returns-in_err-item-clause-not_out_of_range
returns-in_err-item-clause-not_out_of_range g c told within p is =
    let at = within_later (g.J.Contiguous.view c.args.journal.now) (g.V.Volume.state c.args.vol.now) (g.V.Volume.state c.loop-end.vol) ((c.loop-end.invariant.so_far.contents told).logs _) within in
    let why = c.read.ensures.out_of_range p (search rules) in
    omega (arith, why.1 told, at.high, c.requires.within)

pub returns-in_err-item-clause-corrupt : goal.returns-in_err-item-clause-corrupt
returns-in_err-item-clause-corrupt g c told p is =
    let view = g.J.Contiguous.view c.args.journal.now in
    let same = (c.loop-end.invariant.so_far.contents told).logs view.name in
    let why = c.read.ensures.corrupt p (search rules) in (
      omega (arith, why.0, c.bounds-start.ensures.start),
      omega (arith, why.0),
      corrupt_here g.J.Item.Spelled.spelling g.J.Item.Read.admits view (g.V.Volume.state c.args.vol.now) (g.V.Volume.state c.loop-end.vol) p (c.loop-end.end - 1) same why.0 (why.1 told),
      λ q lo hi. c.loop-end.invariant.none told q (omega (arith, why.0)) hi,
    )

pub returns-in_err-item-clause-answers : goal.returns-in_err-item-clause-answers
returns-in_err-item-clause-answers g c = reads_joins _ _ _ _ _ _ _ c.loop-end.invariant.so_far c.read.ensures.answers (λ is. search rules) (search rules)

pub returns-in_err-item-clause-reads : goal.returns-in_err-item-clause-reads
returns-in_err-item-clause-reads g c = omega (arith, c.bounds-start.ensures.start, c.read.ensures.reads)

pub returns-then-predicate-clause-found : goal.returns-then-predicate-clause-found
returns-then-predicate-clause-found g c told =
    let same = (c.loop-end.invariant.so_far.contents told).logs (g.J.Contiguous.view c.args.journal.now).name in (
      omega (arith, c.bounds-start.ensures.start),
      c.loop-end.invariant.high,
      record {
        item = c.in_ok-item.item;
        here = holds_here g.J.Item.Spelled.spelling g.J.Item.Read.admits (g.J.Contiguous.view c.args.journal.now) (g.V.Volume.state c.args.vol.now) (g.V.Volume.state c.loop-end.vol) _ _ same (c.in_ok-item.ensures.item told);
        allowed = c.in_ok-item.ensures.admitted;
        answered = record { shown = _; shows = refl; says = record { met = c.if-predicate.ensures } };
      },
      c.loop-end.invariant.none told,
    )

pub returns-then-predicate-clause-answers : goal.returns-then-predicate-clause-answers
returns-then-predicate-clause-answers g c = reads_joins _ _ _ _ _ _ _ c.loop-end.invariant.so_far c.read.ensures.answers (λ is. search rules) c.in_ok-item.ensures.answers.kept

pub returns-then-predicate-clause-reads : goal.returns-then-predicate-clause-reads
returns-then-predicate-clause-reads g c = omega (arith, c.bounds-start.ensures.start, c.read.ensures.reads)

pub loop-end-preserved : goal.loop-end-preserved
loop-end-preserved g c =
    let same = λ (told : g.V.Volume.tells). (c.loop-end.invariant.so_far.contents told).logs (g.J.Contiguous.view c.args.journal.now).name in
    record {
      high = omega arith;
      low = omega arith;
      so_far = only_read_joins _ _ _ _ _ _ c.loop-end.invariant.so_far c.in_ok-item.ensures.answers;
      none = λ told. none_more _ _ _ _ (c.loop-end.invariant.none told) (record {
        item = c.in_ok-item.item;
        here = holds_here g.J.Item.Spelled.spelling g.J.Item.Read.admits (g.J.Contiguous.view c.args.journal.now) (g.V.Volume.state c.args.vol.now) (g.V.Volume.state c.loop-end.vol) _ _ (same told) (c.in_ok-item.ensures.item told);
        allowed = c.in_ok-item.ensures.admitted;
        answered = record { shown = _; shows = refl; says = record { met = c.if-predicate.ensures } };
      });
      reads = omega (arith, c.read.ensures.reads);
      counted = omega (arith, c.read.ensures.reads, c.loop-end.invariant.counted);
    }

pub returns-clause-found : goal.returns-clause-found
returns-clause-found g c told p lo hi = c.loop-end.invariant.none told p (omega (arith, c.bounds-start.ensures.start)) hi

pub returns-clause-answers : goal.returns-clause-answers
returns-clause-answers g c = reads_of _ _ _ _ _ c.loop-end.invariant.so_far (λ is. search rules)

pub returns-clause-reads : goal.returns-clause-reads
returns-clause-reads g c = omega (arith, c.bounds-start.ensures.start)
