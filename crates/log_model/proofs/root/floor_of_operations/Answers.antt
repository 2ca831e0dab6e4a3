use Rattle.std.proofs.Common.{sym, ◌∙◌, ap, arith}
use Rattle.std.specs.Prelude.{unwrap_or}
use Rattle.log_model.proofs.OperationLemmas.{floor_of-last}
use Rattle.log_model.proofs.root.floor_of_operations.Goals as goal

pub returns-in-len1-up : goal.returns-in-len1-up
returns-in-len1-up g c =
    let m = g.O.Logged.meaning in
    c.unwrap_or.ensures ∙ ap (λ o. unwrap_or o 0) (c.commit_floor.ensures ∙ ap m.floor c.last-item.is) ∙ sym (floor_of-last m c.args.operations.now c.last-item.result (omega arith))
