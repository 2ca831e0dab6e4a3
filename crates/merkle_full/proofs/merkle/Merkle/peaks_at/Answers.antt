use Rattle.std.proofs.Common.{◌≡◌, ◌<◌, ℕ, List, Some, length, map, true, sym, ◌∙◌, ap, subst, arith}
use Rattle.std.specs.Prelude.{All, slice_get, is_some}
use Rattle.std.proofs.lemmas.Option.{slice_get-get_or}
use Rattle.volume_base.specs.Moments.{present}
use Rattle.tree_shape.specs.Shape.{made}
use Rattle.tree_shape.specs.Pins.{pins}
use Rattle.tree_shape.proofs.NeededLemmas.{made_le}
use Rattle.tree_store.specs.Stores.{IsOutside, IsOutsideOr}
use Rattle.merkle_full.specs.Full.{Full, IsKept, told_at}
use Rattle.merkle_full.proofs.FullLemmas.{held_of_full, told_tree, needed_told}
use Rattle.merkle_full.proofs.GrownLemmas.{err_same}
use Rattle.merkle_full.proofs.PeakLemmas.{peaks_told, pin_below, pin_kept}
use Rattle.merkle_full.proofs.ReadLemmas.{first_within, none_unread}
use Rattle.merkle_full.proofs.merkle.Merkle.peaks_at.Goals as goal

pub returns-clause-nodes : goal.returns-clause-nodes
returns-clause-nodes g c tells h all full le =
    let s = g.F.Family.shape in
    let image = present (g.V.Volume.state c.args.vol.now) in
    let kept = subst (λ (t : Full g.row.D.Denot). IsKept s t) c.self.view_is c.self.invariant in
    let held = held_of_full s h g.D.Spelled.spelling (g.D.Read.admits tt) all c.args.self.now image full kept.sound.within in
    let told = told_at (g.D.Read.reads tt) c.args.self.now image in
    let tree = told_tree s h g.D.Spelled.spelling (g.D.Read.admits tt) all c.args.self.now image (g.D.Read.reads tt) (g.met.D.Read.lawful tt) full in
    peaks_told s h all c.args.self.now.tree.leaves told c.args.leaves g.met.F.Family.lawful le tree c.in_ok-nodes.nodes.items
    ((c.in_ok-nodes.ensures {u = tt}).nodes tells held ∙ ap (map told) c.requires)

pub returns-in_err-nodes-clause-outside : goal.returns-in_err-nodes-clause-outside
returns-in_err-nodes-clause-outside g c tells h all full low le =
    let s = g.F.Family.shape in
    let e = c.in_err-nodes.field-0.0 in
    let image = present (g.V.Volume.state c.args.vol.now) in
    let kept = subst (λ (t : Full g.row.D.Denot). IsKept s t) c.self.view_is c.self.invariant in
    let held = held_of_full s h g.D.Spelled.spelling (g.D.Read.admits tt) all c.args.self.now image full kept.sound.within in
    let told = told_at (g.D.Read.reads tt) c.args.self.now image in
    let end = length (made s c.args.self.now.tree.leaves) in
    let there : (i p : ℕ) → slice_get c.args.positions.now i ≡ Some p → is_some (told p) ≡ true = λ i p at.
    let pin : slice_get (pins s c.args.leaves) i ≡ Some p = ap (λ (ps : List ℕ). slice_get ps i) (sym c.requires) ∙ at in
    let below = pin_below s c.args.leaves i p g.met.F.Family.lawful pin in
    needed_told s h g.D.Spelled.spelling (g.D.Read.admits tt) all c.args.self.now image (g.D.Read.reads tt) (g.met.D.Read.lawful tt) full kept p
    (omega (arith, below, made_le s c.args.leaves (length all) le, ap (λ n. length (made s n)) full.tree.count)) (pin_kept s c.args.self.now.boundary c.args.leaves i p g.met.F.Family.lawful g.met.F.Family.keeps low pin) in
    err_same _ e IsOutside c.from_residual.ensures.1 (none_unread told end c.args.positions.now e there (c.in_err-nodes.ensures.first tells held))

pub returns-in_err-nodes-clause-first : goal.returns-in_err-nodes-clause-first
returns-in_err-nodes-clause-first g c le tells held =
    let s = g.F.Family.shape in
    let e = c.in_err-nodes.field-0.0 in
    let told = told_at (g.D.Read.reads tt) c.args.self.now (present (g.V.Volume.state c.args.vol.now)) in
    let end = length (made s c.args.self.now.tree.leaves) in
    let below : All (λ p. p < end) c.args.positions.now = λ i d lt.
    let at = slice_get-get_or c.args.positions.now i d lt in
    let pin = ap (λ (ps : List ℕ). slice_get ps i) (sym c.requires) ∙ at in
    let under = pin_below s c.args.leaves i _ g.met.F.Family.lawful pin in
    omega (arith, under, made_le s c.args.leaves c.args.self.now.tree.leaves le) in
    err_same _ e (IsOutsideOr told c.args.positions.now) c.from_residual.ensures.1 (first_within told end c.args.positions.now e below (c.in_err-nodes.ensures.first tells held))
