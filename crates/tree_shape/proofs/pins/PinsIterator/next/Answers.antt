use Rattle.std.proofs.Common.{length, sym, ◌∙◌, ap, arith}
use Rattle.tree_shape.proofs.PinLemmas.{steps_on}
use Rattle.tree_shape.proofs.pins.PinsIterator.next.Goals as goal

pub position-requires : goal.position-requires
position-requires g c =
    (steps_on g.F.Family.shape c.self.inside.leaves c.self.inside.start c.self.inside.left c.peak_height-height.result
    (g.met.F.Family.lawful.peaks c.self.inside.leaves) c.self.invariant c.if-self-eq0.false c.peak_height-height.ensures).room

pub width-requires : goal.width-requires
width-requires g c =
    let st = steps_on g.F.Family.shape c.self.inside.leaves c.self.inside.start c.self.inside.left c.peak_height-height.result
    (g.met.F.Family.lawful.peaks c.self.inside.leaves) c.self.invariant c.if-self-eq0.false c.peak_height-height.ensures in
    omega (arith, st.low)

pub overflow_add-self : goal.overflow_add-self
overflow_add-self g c =
    let st = steps_on g.F.Family.shape c.self.inside.leaves c.self.inside.start c.self.inside.left c.peak_height-height.result
    (g.met.F.Family.lawful.peaks c.self.inside.leaves) c.self.invariant c.if-self-eq0.false c.peak_height-height.ensures in
    omega (arith, st.room, c.width.ensures)

pub invariant_of-self : goal.invariant_of-self
invariant_of-self g c =
    rw c.width.ensures (steps_on g.F.Family.shape c.self.inside.leaves c.self.inside.start c.self.inside.left c.peak_height-height.result
    (g.met.F.Family.lawful.peaks c.self.inside.leaves) c.self.invariant c.if-self-eq0.false c.peak_height-height.ensures).next

pub returns-clause-steps : goal.returns-clause-steps
returns-clause-steps g c =
    sym c.self.view_is ∙ rw (c.new-pos.ensures, c.position.ensures) (steps_on g.F.Family.shape c.self.inside.leaves c.self.inside.start c.self.inside.left c.peak_height-height.result
    (g.met.F.Family.lawful.peaks c.self.inside.leaves) c.self.invariant c.if-self-eq0.false c.peak_height-height.ensures).gives

pub returns-clause-goes : goal.returns-clause-goes
returns-clause-goes g c =
    let gives = (steps_on g.F.Family.shape c.self.inside.leaves c.self.inside.start c.self.inside.left c.peak_height-height.result
    (g.met.F.Family.lawful.peaks c.self.inside.leaves) c.self.invariant c.if-self-eq0.false c.peak_height-height.ensures).gives in
    let l = ap length (sym c.self.view_is ∙ gives) in
    record { on = λ _. (tt, tt, omega (arith, l)); keeps = tt; rests = λ _. tt }
