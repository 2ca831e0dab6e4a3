use Rattle.std.proofs.Common.{◌≡◌, List, Some, None, Option, sym, ◌∙◌, ap}
use Rattle.std.specs.Option.{option_map}
use Rattle.merkle_full.proofs.OrphanLemmas.{ok_both}
use Rattle.merkle_full.proofs.sync_pins.start_pins.Goals as goal

pub returns-in-None-clause-pins : goal.returns-in-None-clause-pins
returns-in-None-clause-pins g c =
    let handed : Option (List _) = option_map (λ v. v.items) c.args.given in
    let none : handed ≡ None = ap (option_map (λ v. v.items)) c.in-None.is in
    ok_both _ _ _ c.stored_pins.result
    (λ pins counted nodes told. record {
      counted = counted;
      handed = λ these is. absurd (let bad : Some these ≡ None = sym is ∙ none in cc);
      read = λ _. nodes told;
    }) c.stored_pins.ensures.counted c.stored_pins.ensures.nodes
