use Rattle.std.proofs.Common.{append_assoc}
use Rattle.op_codec.proofs.text.text_of_set.Goals as goal

pub returns-clause-text : goal.returns-clause-text
returns-clause-text g c =
    let e = c.in_ok-text.ensures {u = tt} in
    let k = c.in_ok-key.ensures {u = tt} in
    let v = c.in_ok-value.ensures {u = tt} in
    let written = rw (k.digits, v.digits) at e.ok in
    simp append_assoc written
