use Rattle.std.proofs.Common.{◌≡◌, rules, ◌-◌, ◌+◌, ◌/◌, ◌≤◌, refl, arith}
use Rattle.volume_base.proofs.ReadLemmas.{only_read_none, only_read_joins, reads_joins, reads_of}
use Rattle.journal_base.proofs.ItemLemmas.{corrupt_here}
use Rattle.journal_base.proofs.MatchLemmas.{within_later}
use Rattle.witness_store.specs.Searched.{LooksFew}
use Rattle.witness_store.specs.Witness.{text_of, IsAllowed}
use Rattle.witness_store.proofs.KeptLemmas.{kept_first}
use Rattle.witness_store.proofs.SearchLemmas.{none_looked, one_looked, looked, witness_here, is_first, within_of_held}
use Rattle.witness_store.proofs.search.first_at_or_above.Goals as goal

pub loop-low-init : goal.loop-low-init
loop-low-init g c = record {
  low = omega arith;
  between = λ le. le;
  high = omega arith;
  so_far = only_read_none _ _;
  before = λ told. refl;
  here = λ told. refl;
  few = none_looked _ _;
}

pub witness_at-requires-clause-low : goal.witness_at-requires-clause-low
witness_at-requires-clause-low g c = omega (arith, c.span-start.ensures.start, c.loop-low.invariant.low)

pub witness_at-requires-clause-high : goal.witness_at-requires-clause-high
witness_at-requires-clause-high g c = omega (arith, c.span-start.ensures.end, c.loop-low.invariant.high)

pub returns-in_err-witness-clause-not_pruned : goal.returns-in_err-witness-clause-not_pruned
returns-in_err-witness-clause-not_pruned g c told within p is =
    let at = within_later (g.R.Witnesses.seen c.args.reader.now) (g.V.Volume.state c.args.vol.now) (g.V.Volume.state c.loop-low.vol) ((c.loop-low.invariant.so_far.contents told).logs _) within in
    c.witness_at.ensures.not_pruned told at p (search rules)

pub returns-in_err-witness-clause-not_out_of_range : goal.returns-in_err-witness-clause-not_out_of_range
returns-in_err-witness-clause-not_out_of_range g c told within p is =
    let at = within_later (g.R.Witnesses.seen c.args.reader.now) (g.V.Volume.state c.args.vol.now) (g.V.Volume.state c.loop-low.vol) ((c.loop-low.invariant.so_far.contents told).logs _) within in
    c.witness_at.ensures.not_out_of_range told at p (search rules)

pub returns-in_err-witness-clause-corrupt : goal.returns-in_err-witness-clause-corrupt
returns-in_err-witness-clause-corrupt g c p is told =
    let view = g.R.Witnesses.seen c.args.reader.now in
    let same = (c.loop-low.invariant.so_far.contents told).logs view.name in
    let why = c.witness_at.ensures.corrupt p (search rules) in
    corrupt_here (text_of {F = g.row.F.Denot} g.D.Spelled.spelling) (λ codec. IsAllowed (g.D.Read.admits tt)) view (g.V.Volume.state c.args.vol.now) (g.V.Volume.state c.loop-low.vol) p _ same why.0 (why.1 told)

pub returns-in_err-witness-clause-answers : goal.returns-in_err-witness-clause-answers
returns-in_err-witness-clause-answers g c = reads_joins _ _ _ _ _ _ _ c.loop-low.invariant.so_far c.witness_at.ensures.answers (λ is. search rules) (search rules)

pub returns-in_err-witness-clause-few : goal.returns-in_err-witness-clause-few
returns-in_err-witness-clause-few g c =
    let before = c.loop-low.invariant.few in
    let start = c.span-start.ensures.start in
    let end = c.span-start.ensures.end in
    let few : LooksFew (c.span-start.result.1 - c.span-start.result.0) (g.V.Volume.state c.args.vol.now) (g.V.Volume.state c.witness_at.new.vol) = looked _ ((c.loop-low.high - c.loop-low.low) / 2) _ _ (one_looked _ _ _ _ _ _ before c.witness_at.ensures.reads (omega arith) (omega arith)) in
    rw (start, end) at few

pub loop-low-preserved-then-lt : goal.loop-low-preserved-then-lt
loop-low-preserved-then-lt g c =
    let same = λ (told : g.V.Volume.tells). (c.loop-low.invariant.so_far.contents told).logs (g.R.Witnesses.seen c.args.reader.now).name in
    let place : c.loop-low.low + (c.loop-low.high - c.loop-low.low) / 2 ≡ c.loop-low.low + (c.loop-low.high - c.loop-low.low) / 2 + 1 - 1 = omega arith in
    record {
      low = omega (arith, c.loop-low.invariant.low);
      between = λ le. omega (arith, c.loop-low.invariant.between le);
      high = c.loop-low.invariant.high;
      so_far = only_read_joins _ _ _ _ _ _ c.loop-low.invariant.so_far c.in_ok-witness.ensures.answers;
      before = λ told. (
        omega (arith, c.loop-low.invariant.low),
        witness_here g.D.Spelled.spelling (g.D.Read.admits tt) (g.R.Witnesses.seen c.args.reader.now) (g.V.Volume.state c.args.vol.now) (g.V.Volume.state c.loop-low.vol) _ _ c.in_ok-witness.witness (same told) place (c.in_ok-witness.ensures.witness told),
        search rules,
      );
      here = c.loop-low.invariant.here;
      few = one_looked _ _ _ _ _ _ c.loop-low.invariant.few c.witness_at.ensures.reads (omega arith) (omega arith);
    }

pub loop-low-preserved : goal.loop-low-preserved
loop-low-preserved g c =
    let same = λ (told : g.V.Volume.tells). (c.loop-low.invariant.so_far.contents told).logs (g.R.Witnesses.seen c.args.reader.now).name in
    record {
      low = c.loop-low.invariant.low;
      between = λ le. omega arith;
      high = omega (arith, c.loop-low.invariant.high);
      so_far = only_read_joins _ _ _ _ _ _ c.loop-low.invariant.so_far c.in_ok-witness.ensures.answers;
      before = c.loop-low.invariant.before;
      here = λ told. (
        omega (arith, c.loop-low.invariant.high),
        witness_here g.D.Spelled.spelling (g.D.Read.admits tt) (g.R.Witnesses.seen c.args.reader.now) (g.V.Volume.state c.args.vol.now) (g.V.Volume.state c.loop-low.vol) _ _ c.in_ok-witness.witness (same told) refl (c.in_ok-witness.ensures.witness told),
        search rules,
      );
      few = one_looked _ _ _ _ _ _ c.loop-low.invariant.few c.witness_at.ensures.reads (omega arith) (omega arith);
    }

pub returns-clause-found : goal.returns-clause-found
returns-clause-found g c told within =
    let start = c.span-start.ensures.start in
    let end = c.span-start.ensures.end in
    let ordered : c.span-start.result.0 ≤ c.span-start.result.1 = omega (arith, start, end, within.low) in
    let met : c.loop-low.high ≡ c.loop-low.low = omega (arith, c.loop-low.invariant.between ordered) in
    is_first _ _ _ _ _ _ _ _ start end met c.loop-low.invariant.low c.loop-low.invariant.high (c.loop-low.invariant.before told) (c.loop-low.invariant.here told)

pub returns-clause-listed : goal.returns-clause-listed
returns-clause-listed g c told held ws keeps =
    kept_first g.D.Spelled.spelling (g.D.Read.admits tt) (g.D.Read.reads tt) (g.met.D.Read.lawful tt) _ _ ws held keeps c.args.size _ (returns-clause-found g c told (within_of_held _ _ held))

pub returns-clause-answers : goal.returns-clause-answers
returns-clause-answers g c = reads_of _ _ _ _ _ c.loop-low.invariant.so_far (λ is. search rules)

pub returns-clause-few : goal.returns-clause-few
returns-clause-few g c =
    let start = c.span-start.ensures.start in
    let end = c.span-start.ensures.end in
    let few : LooksFew (c.span-start.result.1 - c.span-start.result.0) (g.V.Volume.state c.args.vol.now) (g.V.Volume.state c.loop-low.vol) = looked _ _ _ _ c.loop-low.invariant.few in
    rw (start, end) at few
