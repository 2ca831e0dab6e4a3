use Rattle.std.proofs.Common.{◌≡◌, None, sym, ◌∙◌}
use Rattle.tree_core.specs.Tree.{node_at}
use Rattle.compact_db.proofs.DerivedLemmas.{all_read}
use Rattle.compact_db.proofs.PinLemmas.{not_none, all_right}
use Rattle.compact_db.proofs.verified.pins_before.Goals as goal

pub unreachable-requires : goal.unreachable-requires
unreachable-requires g c =
    let none : node_at c.args.mem.now c.in-Some.position ≡ None = sym c.get_node.ensures ∙ c.in-None-get_node.is in
    not_none g.F.Family.shape c.args.mem.now c.args.leaves g.met.F.Family.lawful g.met.F.Family.keeps c.requires.sound
    c.requires.kept c.requires.within _ _ _ _ c.in-Some.ensures.steps c.loop-position.invariant.rest none

pub returns-clause-pins : goal.returns-clause-pins
returns-clause-pins g c all of =
    all_right g.F.Family.shape c.args.mem.now c.args.leaves g.met.F.Family.lawful g.met.F.Family.keeps c.requires.sound
    c.requires.kept c.requires.within g.H.Hasher.hash all _ _ _ of c.loop-position.invariant.read
    c.in-None.ensures.steps.0 c.loop-position.invariant.rest

pub returns-clause-nodes : goal.returns-clause-nodes
returns-clause-nodes g c =
    all_read g.F.Family.shape c.args.mem.now c.args.leaves _ _ _ c.loop-position.invariant.read
    c.in-None.ensures.steps.0 c.loop-position.invariant.rest
