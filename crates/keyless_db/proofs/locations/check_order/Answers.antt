use Rattle.std.proofs.Common.{◌≡◌, suc, ◌+◌, ◌-◌, ◌<◌, ◌≤◌, Some, length, take, refl, sym, ◌∙◌, ap, arith}
use Rattle.std.specs.Prelude.{slice_get}
use Rattle.std.proofs.lemmas.Option.{slice_get_read}
use Rattle.log_model.specs.Reads.{unordered}
use Rattle.log_model.specs.declared.refusal.Refusal.TheVariants.{LocationOutOfOrder}
use Rattle.keyless_db.proofs.LocationLemmas.{rises_more, breaks_at}
use Rattle.keyless_db.proofs.SeveralLemmas.{is_refused}
use Rattle.keyless_db.proofs.locations.check_order.Goals as goal

pub returns-then-before-next : goal.returns-then-before-next
returns-then-before-next g c =
    let xs = c.args.locs.now in
    let low : 1 ≤ c.loop-i.i = c.loop-i.invariant.low in
    let next : suc (c.loop-i.i - 1) ≡ c.loop-i.i = omega (arith, low) in
    let lt : c.loop-i.i < length xs = c.loop-i-test.true in
    let one = slice_get_read xs (length xs) (c.loop-i.i - 1) c.index-locs-i.result refl (omega (arith, lt, low)) c.index-locs-i.is in
    let two = slice_get_read xs (length xs) c.loop-i.i c.index-locs-i-in-loop-i.result refl lt c.index-locs-i-in-loop-i.is in
    let a : c.index-locs-i.result ≡ c.new.result = sym (c.new.ensures ∙ c.as_u64-before.ensures) in
    let b : c.index-locs-i-in-loop-i.result ≡ c.new-then-before-next.result = sym (c.new-then-before-next.ensures ∙ c.as_u64-next.ensures) in
    is_refused (Unit {0}) (unordered xs) _ (LocationOutOfOrder c.new.result c.new-then-before-next.result)
    (breaks_at xs (c.loop-i.i - 1) c.new.result c.new-then-before-next.result (one ∙ ap Some a) (ap (λ n. slice_get xs n) next ∙ two ∙ ap Some b) (omega (arith, c.if-before-next.true, c.as_u64-before.ensures, c.as_u64-next.ensures, a, b))
    (ap (λ n. unordered (take n xs)) next ∙ c.loop-i.invariant.rising)) refl

pub loop-i-preserved : goal.loop-i-preserved
loop-i-preserved g c =
    let xs = c.args.locs.now in
    let low : 1 ≤ c.loop-i.i = c.loop-i.invariant.low in
    let next : suc (c.loop-i.i - 1) ≡ c.loop-i.i = omega (arith, low) in
    let last : suc (suc (c.loop-i.i - 1)) ≡ c.loop-i.i + 1 = omega (arith, low) in
    let lt : c.loop-i.i < length xs = c.loop-i-test.true in
    let one = slice_get_read xs (length xs) (c.loop-i.i - 1) c.index-locs-i.result refl (omega (arith, lt, low)) c.index-locs-i.is in
    let two = slice_get_read xs (length xs) c.loop-i.i c.index-locs-i-in-loop-i.result refl lt c.index-locs-i-in-loop-i.is in
    record {
      low = omega (arith, low);
      rising = ap (λ n. unordered (take n xs)) (sym last)
          ∙ rises_more xs (c.loop-i.i - 1) c.index-locs-i.result c.index-locs-i-in-loop-i.result one (ap (λ n. slice_get xs n) next ∙ two) (omega (arith, c.if-before-next.false, c.as_u64-before.ensures, c.as_u64-next.ensures))
          (ap (λ n. unordered (take n xs)) next ∙ c.loop-i.invariant.rising);
    }
