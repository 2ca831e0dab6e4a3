-- Facts of results.
use Rattle.std.proofs.Common.{Result, Ok, Err, OnOk}

-- two facts of an Ok
pub both_on_ok : {T E P Q R : Type 0} (r : Result T E) → OnOk r P → OnOk r Q → (P → Q → R) → OnOk r R
both_on_ok (Ok x) p q f = f p q
both_on_ok (Err e) p q f = tt
