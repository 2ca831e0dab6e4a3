use Rattle.std.proofs.Common.{◌≡◌, length, refl, ◌∙◌, ap}
use Rattle.tree_shape.specs.Shape.{inactive}
use Rattle.log_model.proofs.OperationLemmas.{inactive-within, length-leaves_from, root_of-parts}
use Rattle.log_model.proofs.root.root_of_leaves.Goals as goal

pub slow_root-requires-clause-inactive : goal.slow_root-requires-clause-inactive
slow_root-requires-clause-inactive g c = rw (c.inactive_peaks-inactive.ensures, c.new-count.ensures) (inactive-within g.F.Family.shape _ _)

pub returns-clause-root : goal.returns-clause-root
returns-clause-root g c ops are floor =
    let s = g.F.Family.shape in
    let h = g.H.Hasher.hash in
    let m = g.O.Logged.meaning in
    let count : length c.args.leaves.now ≡ length ops = ap length are ∙ length-leaves_from s h m 0 ops in
    let k : c.inactive_peaks-inactive.result ≡ inactive s (length c.args.leaves.now) c.args.floor = c.inactive_peaks-inactive.ensures ∙ rw (c.new-count.ensures, c.new-below.ensures) refl in
    c.in_ok-slow_root.ensures ∙ rw c.new-hasher.ensures (root_of-parts s h m ops c.args.leaves.now (length c.args.leaves.now) c.args.floor c.inactive_peaks-inactive.result are count floor k)
