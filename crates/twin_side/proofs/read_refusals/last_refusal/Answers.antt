use Rattle.std.proofs.Common.{◌≡◌, suc, ◌-◌, ◌<◌, false, true, length, sym, ◌∙◌, ap, arith}
use Rattle.std.specs.Prelude.{nat_le, slice_index_or}
use Rattle.std.proofs.lemmas.Option.{slice_get-get_or}
use Rattle.log_model.specs.Reads.{refuse_if}
use Rattle.log_model.specs.declared.refusal.Refusal.TheVariants.{LocationOutOfBounds}
use Rattle.keyless_db.proofs.LocationLemmas.{last_is, some_count, le_true, le_false}
use Rattle.twin_side.proofs.read_refusals.last_refusal.Goals as goal

pub returns-then-last-size : goal.returns-then-last-size
returns-then-last-size c =
    let xs = c.args.locations.now in
    let some : 0 < length xs = some_count (length xs) (sym c.is_empty.ensures ∙ c.if-is_empty.false) in
    let end : suc (length xs - 1) ≡ length xs = omega (arith, some) in
    let last = slice_index_or xs (length xs - 1) 0 in
    let past : nat_le c.args.size last ≡ true = le_true c.args.size last c.if-last-size.true in
    sym (last_is c.args.size xs (length xs - 1) last (slice_get-get_or xs (length xs - 1) 0 (omega (arith, some))) end ∙ ap (λ t. refuse_if t (LocationOutOfBounds last c.args.size)) past)

pub returns : goal.returns
returns c =
    let xs = c.args.locations.now in
    let some : 0 < length xs = some_count (length xs) (sym c.is_empty.ensures ∙ c.if-is_empty.false) in
    let end : suc (length xs - 1) ≡ length xs = omega (arith, some) in
    let last = slice_index_or xs (length xs - 1) 0 in
    let within : nat_le c.args.size last ≡ false = le_false c.args.size last c.if-last-size.false in
    sym (last_is c.args.size xs (length xs - 1) last (slice_get-get_or xs (length xs - 1) 0 (omega (arith, some))) end ∙ ap (λ t. refuse_if t (LocationOutOfBounds last c.args.size)) within)
