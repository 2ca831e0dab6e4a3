use Rattle.std.proofs.Common.{◌≡◌, suc, ◌-◌, ◌<◌, true, false, Some, length, refl, sym, ◌∙◌, ap, arith}
use Rattle.std.specs.Prelude.{nat_le}
use Rattle.std.proofs.lemmas.Option.{slice_get_read}
use Rattle.log_model.specs.Reads.{refuse_if}
use Rattle.log_model.specs.declared.refusal.Refusal.TheVariants.{LocationOutOfBounds}
use Rattle.keyless_db.specs.Reading.{last_past}
use Rattle.keyless_db.proofs.LocationLemmas.{last_is, some_count, le_true, le_false}
use Rattle.keyless_db.proofs.SeveralLemmas.{is_refused, is_fit}
use Rattle.keyless_db.proofs.locations.check_last.Goals as goal

pub returns-then-last-size : goal.returns-then-last-size
returns-then-last-size g c =
    let xs = c.args.locs.now in
    let some : 0 < length xs = some_count (length xs) (sym c.is_empty.ensures ∙ c.if-is_empty.false) in
    let end : suc (length xs - 1) ≡ length xs = omega (arith, some) in
    let at = slice_get_read xs (length xs) (length xs - 1) c.index-locs-locs.result refl (omega (arith, some)) c.index-locs-locs.is in
    let a : c.index-locs-locs.result ≡ c.new.result = sym (c.new.ensures ∙ c.as_u64-last.ensures) in
    let b : c.args.size ≡ c.new-then-last-size.result = sym c.new-then-last-size.ensures in
    let past : nat_le c.args.size c.new.result ≡ true = le_true c.args.size c.new.result (omega (arith, c.if-last-size.true, c.as_u64-last.ensures, a)) in
    is_refused (Unit {0}) (last_past c.args.size xs) _ (LocationOutOfBounds c.new.result c.args.size)
    (last_is c.args.size xs (length xs - 1) c.new.result (at ∙ ap Some a) end ∙ ap (λ t. refuse_if t (LocationOutOfBounds c.new.result c.args.size)) past)
    (ap (λ n. Some (LocationOutOfBounds c.new.result n)) (sym b))

pub returns : goal.returns
returns g c =
    let xs = c.args.locs.now in
    let some : 0 < length xs = some_count (length xs) (sym c.is_empty.ensures ∙ c.if-is_empty.false) in
    let end : suc (length xs - 1) ≡ length xs = omega (arith, some) in
    let at = slice_get_read xs (length xs) (length xs - 1) c.index-locs-locs.result refl (omega (arith, some)) c.index-locs-locs.is in
    let fits : nat_le c.args.size c.index-locs-locs.result ≡ false = le_false c.args.size c.index-locs-locs.result (omega (arith, c.if-last-size.false, c.as_u64-last.ensures)) in
    is_fit g.row.F.Denot (last_past c.args.size xs) tt
    (last_is c.args.size xs (length xs - 1) c.index-locs-locs.result at end ∙ ap (λ t. refuse_if t (LocationOutOfBounds c.index-locs-locs.result c.args.size)) fits)
