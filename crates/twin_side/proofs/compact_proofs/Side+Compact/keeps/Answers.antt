use Rattle.std.proofs.Common.{refl, ◌∙◌}
use Rattle.twin_side.proofs.CompactProving.{held_now, found_here, last_here}
use Rattle.twin_side.proofs.compact_proofs.Side+Compact.keeps.Goals as goal

pub returns-then-n-as_u64-clause-kept : goal.returns-then-n-as_u64-clause-kept
returns-then-n-as_u64-clause-kept g c told config s good =
    last_here config _ c.args.self.now.db c.args.self.now.numbers s good c.args.n
    (c.if-n-as_u64.true ∙ c.as_u64.ensures ∙ c.size.ensures)

pub returns-in-Ok-clause-kept : goal.returns-in-Ok-clause-kept
returns-in-Ok-clause-kept g c told config s good =
    let db = c.args.self.now.db in
    let held = held_now config _ db c.args.self.now.numbers s good (g.V.Volume.state c.args.volume.now) refl in
    c.is_some.ensures
    ∙ found_here config _ db c.args.self.now.numbers s good c.args.n c.new.result c.in-Ok.position c.new.ensures
    (c.in-Ok.ensures.kept told s.ops s.sizes held)

pub returns-in-Err-clause-errors : goal.returns-in-Err-clause-errors
returns-in-Err-clause-errors g c told config s good =
    c.in-Err.ensures.held told s.ops s.sizes (held_now config _ c.args.self.now.db c.args.self.now.numbers s good
    (g.V.Volume.state c.args.volume.now) refl)
