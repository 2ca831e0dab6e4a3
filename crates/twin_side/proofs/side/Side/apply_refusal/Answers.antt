use Rattle.std.proofs.Common.{sym, ap}
use Rattle.std.specs.Prelude.{is_ok}
use Rattle.list_machine.specs.Step.{Outcome, refusal_in}
use Rattle.twin_batches.specs.StateOf.{same_lists, any_lists}
use Rattle.twin_batches.proofs.Handlers.{not_ok, yes_ok, apply_unheld, held_there, held_alive, unheld_there, refusal_stale, refusal_none}
use Rattle.twin_side.proofs.side.Side.apply_refusal.Goals as goal

pub returns-in_default-clause-machine : goal.returns-in_default-clause-machine
returns-in_default-clause-machine g c = λ image s told is.
    let k = g.D.Database.kind in
    let n = c.args.self.now.numbers in
    let b = c.args.b in
    sym (ap (λ (o : Outcome). refusal_in o.0) (apply_unheld s b _ (unheld_there (same_lists k) n.batches.items n.pool
    s.batches is.batches b (sym c.in_default.ensures.held))))

pub validate-requires : goal.validate-requires
validate-requires g c =
    let k = g.D.Database.kind in
    let n = c.args.self.now.numbers in
    let sh = c.requires in
    let j = c.in-Some.held in
    held_alive (any_lists k) n.batches.items n.pool sh.all sh.batches c.args.b j (held_there (any_lists k)
    n.batches.items n.pool sh.all sh.batches c.args.b j (sym c.in-Some.ensures.held))

pub returns-then-is_err-clause-machine : goal.returns-then-is_err-clause-machine
returns-then-is_err-clause-machine g c = λ image s told is.
    refusal_stale g.D.Database.kind image c.args.self.now.db c.args.self.now.numbers c.args.b c.in-Some.held
    (sym c.in-Some.ensures.held) (is_ok c.validate.result)
    (λ x at. let e = c.validate.ensures.stands x at in (e.0, e.1))
    (not_ok c.validate.result _ c.is_err.ensures.value c.if-is_err.true) s told is

pub returns-clause-machine : goal.returns-clause-machine
returns-clause-machine g c = λ image s told is.
    refusal_none g.D.Database.kind image c.args.self.now.db c.args.self.now.numbers c.args.b c.in-Some.held
    (sym c.in-Some.ensures.held) (is_ok c.validate.result)
    (λ x at. let e = c.validate.ensures.stands x at in (e.0, e.1))
    (yes_ok c.validate.result _ c.is_err.ensures.value c.if-is_err.false) s told is

pub returns-clause-takes : goal.returns-clause-takes
returns-clause-takes g c = λ none. record {
  holding = c.in-Some.held;
  held = sym c.in-Some.ensures.held;
  stands = λ x at. (c.validate.ensures.stands x at).0
      (yes_ok c.validate.result _ c.is_err.ensures.value c.if-is_err.false);
}
