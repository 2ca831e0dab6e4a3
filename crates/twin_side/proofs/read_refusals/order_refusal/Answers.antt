use Rattle.std.proofs.Common.{◌≡◌, suc, ◌+◌, ◌-◌, take, sym, ◌∙◌, ap, arith}
use Rattle.std.specs.Prelude.{slice_get, slice_index_or}
use Rattle.std.proofs.lemmas.Option.{slice_get-get_or}
use Rattle.log_model.specs.Reads.{unordered}
use Rattle.keyless_db.proofs.LocationLemmas.{rises_more, breaks_at}
use Rattle.twin_side.proofs.read_refusals.order_refusal.Goals as goal

pub returns-then-locations-i : goal.returns-then-locations-i
returns-then-locations-i c =
    let xs = c.args.locations.now in
    let i = c.loop-i.i in
    let low = c.loop-i.invariant.low in
    let lt = c.loop-i-test.true in
    let next : suc (i - 1) ≡ i = omega (arith, low) in
    let one = slice_get-get_or xs (i - 1) 0 (omega (arith, lt, low)) in
    let two = slice_get-get_or xs i 0 lt in
    sym (breaks_at xs (i - 1) (slice_index_or xs (i - 1) 0) (slice_index_or xs i 0) one (ap (λ n. slice_get xs n) next ∙ two) c.if-locations-i.true
    (ap (λ n. unordered (take n xs)) next ∙ c.loop-i.invariant.rising))

pub loop-i-preserved : goal.loop-i-preserved
loop-i-preserved c =
    let xs = c.args.locations.now in
    let i = c.loop-i.i in
    let low = c.loop-i.invariant.low in
    let lt = c.loop-i-test.true in
    let next : suc (i - 1) ≡ i = omega (arith, low) in
    let last : suc (suc (i - 1)) ≡ i + 1 = omega (arith, low) in
    let one = slice_get-get_or xs (i - 1) 0 (omega (arith, lt, low)) in
    let two = slice_get-get_or xs i 0 lt in
    record {
      low = omega (arith, low);
      rising = ap (λ n. unordered (take n xs)) (sym last)
          ∙ rises_more xs (i - 1) (slice_index_or xs (i - 1) 0) (slice_index_or xs i 0) one (ap (λ n. slice_get xs n) next ∙ two) c.if-locations-i.false
          (ap (λ n. unordered (take n xs)) next ∙ c.loop-i.invariant.rising);
    }
