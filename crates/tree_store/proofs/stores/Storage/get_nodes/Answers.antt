use Rattle.std.proofs.Common.{rules, ◌≡◌, ℕ, ◌<◌, [], ◌∷◌, length, length-append, refl, sym, ◌∙◌, ap, subst, arith}
use Rattle.std.proofs.lemmas.Option.{slice_get_read}
use Rattle.tree_shape.specs.Shape.{made}
use Rattle.volume_base.specs.Moments.{Image, present}
use Rattle.volume_base.proofs.ReadLemmas.{only_read_joins}
use Rattle.tree_store.specs.Stores.{IsFirstAbsent}
use Rattle.tree_store.proofs.StoreLemmas.{same_present, first_absent, told-next, outside_or}
use Rattle.tree_store.proofs.stores.Storage.get_nodes.Goals as goal

pub returns-in_err-node-clause-outside : goal.returns-in_err-node-clause-outside
returns-in_err-node-clause-outside g c below tells held =
    let store = c.args.self.now in
    let images = same_present (g.V.Volume.state c.args.vol.now) (g.V.Volume.state c.loop-i.vol) (c.loop-i.invariant.so_far.contents tells) in
    let held_now = subst (λ (im : Image). g.Self.Storage.held store im) images held in
    let within : c.new.result < length (made g.F.Family.shape (g.Self.Storage.leaves store)) =
    rw (c.new.ensures, c.as_u64-position.ensures, c.index-positions-i.is) (below c.loop-i.i c.index-positions-i.result c.loop-i-test.true) in
    let why = outside_or (g.Self.Storage.told store (present (g.V.Volume.state c.args.vol.now))) c.args.positions.now c.in_err-node.field-0.0 (c.in_err-node.ensures.outside within tells held_now) in
    search (why, rules)

pub returns-in-None-clause-outside : goal.returns-in-None-clause-outside
returns-in-None-clause-outside g c below tells held =
    let store = c.args.self.now in
    let old = present (g.V.Volume.state c.args.vol.now) in
    let told = g.Self.Storage.told store old in
    let images = same_present (g.V.Volume.state c.args.vol.now) (g.V.Volume.state c.loop-i.vol) (c.loop-i.invariant.so_far.contents tells) in
    let held_now = subst (λ (im : Image). g.Self.Storage.held store im) images held in
    let place : c.new.result ≡ c.index-positions-i.result = c.new.ensures ∙ c.as_u64-position.ensures in
    let at = slice_get_read c.args.positions.now (length c.args.positions.now) c.loop-i.i c.index-positions-i.result refl c.loop-i-test.true c.index-positions-i.is in
    let none = ap told (sym place) ∙ ap (λ (im : Image). g.Self.Storage.told store im c.new.result) images ∙ sym (c.in_ok-node.ensures.node tells held_now) ∙ c.in-None.is in
    subst (λ (p : ℕ). IsFirstAbsent told c.args.positions.now p) (sym (c.new-in-None.ensures ∙ c.as_u64-position.ensures))
    (first_absent told c.args.positions.now c.loop-i.i c.index-positions-i.result c.loop-i.nodes.items (c.loop-i.invariant.nodes tells held) at none)

pub loop-i-preserved : goal.loop-i-preserved
loop-i-preserved g c =
    let store = c.args.self.now in
    let told = g.Self.Storage.told store (present (g.V.Volume.state c.args.vol.now)) in
    let place : c.new.result ≡ c.index-positions-i.result = c.new.ensures ∙ c.as_u64-position.ensures in
    let at = slice_get_read c.args.positions.now (length c.args.positions.now) c.loop-i.i c.index-positions-i.result refl c.loop-i-test.true c.index-positions-i.is in
    record {
      so_far = only_read_joins _ _ _ _ _ _ c.loop-i.invariant.so_far c.in_ok-node.ensures.reads;
      counted = omega (arith, ap length (c.in_ok-push-in-Some.ensures {u = tt}).items, length-append c.loop-i.nodes.items (c.in-Some.node ∷ []), c.loop-i.invariant.counted);
      nodes = λ tells held.
          let images = same_present (g.V.Volume.state c.args.vol.now) (g.V.Volume.state c.loop-i.vol) (c.loop-i.invariant.so_far.contents tells) in
          let held_now = subst (λ (im : Image). g.Self.Storage.held store im) images held in
          let some = sym c.in-Some.is ∙ c.in_ok-node.ensures.node tells held_now ∙ ap (λ (im : Image). g.Self.Storage.told store im c.new.result) (sym images) ∙ ap told place in
          told-next told c.loop-i.nodes.items _ c.args.positions.now c.loop-i.i c.index-positions-i.result c.in-Some.node (c.loop-i.invariant.nodes tells held) at some (c.in_ok-push-in-Some.ensures {u = tt}).items;
    }
