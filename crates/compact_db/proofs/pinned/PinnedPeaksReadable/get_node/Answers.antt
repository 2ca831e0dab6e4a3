use Rattle.std.proofs.Common.{sym, ◌∙◌, add-one}
use Rattle.compact_db.proofs.PinnedLemmas.{pin_on, no_pin}
use Rattle.compact_db.proofs.pinned.PinnedPeaksReadable.get_node.Goals as goal

pub loop-i-preserved : goal.loop-i-preserved
loop-i-preserved g c =
    rw add-one (sym (pin_on c.loop-i.positions c.args.self.now.pins.now c.loop-i.i c.args.pos c.in_ok-position.position c.next.new.self
    c.in_ok-position.ensures.steps c.loop-i-test.true (λ same. c.if-as_u64.false (c.as_u64.ensures ∙ sym same ∙ sym c.as_u64-in-loop-i.ensures)))
    ∙ c.loop-i.invariant)

pub returns : goal.returns
returns g c =
    sym (no_pin c.loop-i.positions c.args.self.now.pins.now c.loop-i.i c.args.pos c.loop-i-test.false) ∙ c.loop-i.invariant
