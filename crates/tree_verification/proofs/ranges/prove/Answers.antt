use Rattle.std.proofs.Common.{rules, ℕ, ◌<◌, List, Some, All, length, map, refl, sym, ◌∙◌, ap, subst}
use Rattle.tree_shape.specs.Shape.{made}
use Rattle.volume_base.specs.Moments.{present}
use Rattle.tree_store.specs.Stores.{IsOutsideOr}
use Rattle.tree_verification.proofs.CoverLemmas.{cover-below}
use Rattle.tree_verification.proofs.NodeLemmas.{told-proof}
use Rattle.tree_verification.proofs.ranges.prove.Goals as goal

pub returns-in_err-digests-clause-fault : goal.returns-in_err-digests-clause-fault
returns-in_err-digests-clause-fault g c =
    let s = g.F.Family.shape in
    let m = g.S.Storage.leaves c.args.store.now in
    let below = subst (All (λ p. p < length (made s m))) (sym (c.deref.ensures.value ∙ c.in_ok-positions.ensures))
    (cover-below s (g.W.Wanted.met c.args.wanted.now) c.args.leaves m g.met.F.Family.lawful c.requires.stored) in
    let why = c.in_err-digests.ensures.fault below in
    search (why, rules)

pub returns-in_err-digests-clause-outside : goal.returns-in_err-digests-clause-outside
returns-in_err-digests-clause-outside g c tells held =
    let s = g.F.Family.shape in
    let m = g.S.Storage.leaves c.args.store.now in
    let told = g.S.Storage.told c.args.store.now (present (g.V.Volume.state c.args.vol.now)) in
    let are = c.deref.ensures.value ∙ c.in_ok-positions.ensures in
    let below = subst (All (λ p. p < length (made s m))) (sym are)
    (cover-below s (g.W.Wanted.met c.args.wanted.now) c.args.leaves m g.met.F.Family.lawful c.requires.stored) in
    let why = subst (λ (ps : List ℕ). IsOutsideOr told ps c.in_err-digests.field-0.0) are (c.in_err-digests.ensures.outside below tells held) in
    search (why, rules)

pub returns-clause-proof : goal.returns-clause-proof
returns-clause-proof g c tells held h all tree =
    let s = g.F.Family.shape in
    let told = g.S.Storage.told c.args.store.now (present (g.V.Volume.state c.args.vol.now)) in
    told-proof s h all (g.S.Storage.leaves c.args.store.now) told c.args.leaves c.args.inactive_peaks (g.W.Wanted.met c.args.wanted.now) _ g.met.F.Family.lawful c.requires.stored c.new.ensures refl
    (ap (map Some) c.from_vec.ensures ∙ c.in_ok-digests.ensures.nodes tells held ∙ ap (map told) (c.deref.ensures.value ∙ c.in_ok-positions.ensures)) tree

pub returns-clause-told : goal.returns-clause-told
returns-clause-told g c tells held =
    let told = g.S.Storage.told c.args.store.now (present (g.V.Volume.state c.args.vol.now)) in
    ap (map Some) c.from_vec.ensures ∙ c.in_ok-digests.ensures.nodes tells held ∙ ap (map told) (c.deref.ensures.value ∙ c.in_ok-positions.ensures)
