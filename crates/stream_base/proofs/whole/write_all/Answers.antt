use Rattle.std.proofs.Common.{◌∙◌, take, drop, arith}
use Rattle.stream_base.specs.Writing.{writes_err, Appends-then}
use Rattle.std.proofs.Common.{sym}
use Rattle.std.proofs.lemmas.List.{take-append-drop}
use Rattle.stream_base.proofs.Known.{Appends-then_keeps, take-then, take-rest}
use Rattle.stream_base.proofs.whole.write_all.Goals as goal

pub loop-done-preserved : goal.loop-done-preserved
loop-done-preserved g c =
    let w = (c.in_ok-done.ensures {u = tt}) in
    record {
      written = rw take-then (Appends-then _ _ _ _ _ c.loop-done.invariant.written (rw take-rest at w.bytes));
      kept = w.kept ∙ c.loop-done.invariant.kept;
      within = (let b = w.bound in omega (arith, b));
    }

pub returns-in_err-done-clause-text : goal.returns-in_err-done-clause-text
returns-in_err-done-clause-text g c =
    let kept = Appends-then_keeps _ _ _ _ c.loop-done.invariant.written (c.in_err-done.ensures {u = tt}).bytes in
    writes_err _ _ c.from_residual.result _ c.from_residual.ensures.0
    (record { done = take c.loop-done.done c.args.bytes.now; left = drop c.loop-done.done c.args.bytes.now; whole = sym (take-append-drop c.loop-done.done c.args.bytes.now); wrote = kept })
