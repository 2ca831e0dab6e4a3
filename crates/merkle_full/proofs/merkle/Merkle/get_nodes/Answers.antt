use Rattle.std.proofs.Common.{◌≡◌, ◌∷◌, inl, inr, [], Some, None, length, length-append, refl, sym, ◌∙◌, ap, subst, arith}
use Rattle.std.proofs.lemmas.Bool.{cases_lt}
use Rattle.std.proofs.lemmas.Option.{slice_get_read}
use Rattle.volume_base.specs.Moments.{Image, present}
use Rattle.volume_base.proofs.ReadLemmas.{only_read_joins}
use Rattle.journal_base.specs.Items.{items_of}
use Rattle.tree_shape.specs.Shape.{made}
use Rattle.tree_store.proofs.StoreLemmas.{same_present, first_absent, told-next}
use Rattle.tree_core.specs.Tree.{IsSound}
use Rattle.merkle_full.specs.Full.{Full, IsHeld, told_at}
use Rattle.merkle_full.specs.Reading.{IsUnreadAt, IsUnreadAmong, IsFirstUnread}
use Rattle.merkle_full.proofs.GrownLemmas.{err_same}
use Rattle.merkle_full.proofs.ReadLemmas.{told_past, unread_same, first_of_past}
use Rattle.merkle_full.proofs.merkle.Merkle.get_nodes.Goals as goal

pub loop-i-preserved : goal.loop-i-preserved
loop-i-preserved g c =
    let told = told_at (g.D.Read.reads tt) c.args.self.now (present (g.V.Volume.state c.args.vol.now)) in
    let place : c.new.result ≡ c.index-positions-i.result = c.new.ensures ∙ c.as_u64-position.ensures in
    let at = slice_get_read c.args.positions.now (length c.args.positions.now) c.loop-i.i c.index-positions-i.result refl c.loop-i-test.true c.index-positions-i.is in
    record {
      so_far = only_read_joins _ _ _ _ _ _ c.loop-i.invariant.so_far c.in_ok-node.ensures.reads;
      count = omega (arith, c.loop-i.invariant.count, c.in_ok-node.ensures.count);
      counted = omega (arith, ap length (c.in_ok-push-in-Some.ensures {u = tt}).items, length-append c.loop-i.nodes.items (c.in-Some.node ∷ []), c.loop-i.invariant.counted);
      nodes = λ tells held.
          let images = same_present (g.V.Volume.state c.args.vol.now) (g.V.Volume.state c.loop-i.vol) (c.loop-i.invariant.so_far.contents tells) in
          let held_now = subst (λ (im : Image). IsHeld g.F.Family.shape g.D.Spelled.spelling (g.D.Read.admits tt) c.args.self.now im) images held in
          let some = sym c.in-Some.is ∙ c.in_ok-node.ensures.node tells held_now ∙ ap (λ (im : Image). told_at (g.D.Read.reads tt) c.args.self.now im c.new.result) (sym images) ∙ ap told place in
          told-next told c.loop-i.nodes.items _ c.args.positions.now c.loop-i.i c.index-positions-i.result c.in-Some.node (c.loop-i.invariant.nodes tells held) at some (c.in_ok-push-in-Some.ensures {u = tt}).items;
    }

pub returns-in_err-node-clause-refused : goal.returns-in_err-node-clause-refused
returns-in_err-node-clause-refused g c =
    let tells = g.V.Volume.tells in
    let e = c.in_err-node.field-0.0 in
    let items = items_of g.D.Spelled.spelling g.D.Read.admits c.args.self.now.log (g.V.Volume.state c.args.vol.now) in
    let place : c.new.result ≡ c.index-positions-i.result = c.new.ensures ∙ c.as_u64-position.ensures in
    let at = slice_get_read c.args.positions.now (length c.args.positions.now) c.loop-i.i c.index-positions-i.result refl c.loop-i-test.true c.index-positions-i.is in
    let why : IsUnreadAt tells items c.new.result e = unread_same tells g.D.Spelled.spelling g.D.Read.admits c.args.self.now.log (g.V.Volume.state c.args.vol.now) (g.V.Volume.state c.loop-i.vol) c.new.result e c.loop-i.invariant.so_far.contents c.in_err-node.ensures.refused in
    err_same _ e (IsUnreadAmong tells items c.args.positions.now) c.from_residual.ensures.1 (inr (c.loop-i.i, c.new.result, at ∙ ap Some (sym place), inr why))

pub returns-in_err-node-clause-first : goal.returns-in_err-node-clause-first
returns-in_err-node-clause-first g c tells held =
    let s = g.F.Family.shape in
    let e = c.in_err-node.field-0.0 in
    let end = length (made s c.args.self.now.tree.leaves) in
    let old = present (g.V.Volume.state c.args.vol.now) in
    let told = told_at (g.D.Read.reads tt) c.args.self.now old in
    let images = same_present (g.V.Volume.state c.args.vol.now) (g.V.Volume.state c.loop-i.vol) (c.loop-i.invariant.so_far.contents tells) in
    let held_now = subst (λ (im : Image). IsHeld s g.D.Spelled.spelling (g.D.Read.admits tt) c.args.self.now im) images held in
    let sound = subst (λ (t : Full g.row.D.Denot). IsSound s t.tree) c.self.view_is c.leaves-leaves.ensures.sound in
    let place : c.new.result ≡ c.index-positions-i.result = c.new.ensures ∙ c.as_u64-position.ensures in
    let at = slice_get_read c.args.positions.now (length c.args.positions.now) c.loop-i.i c.index-positions-i.result refl c.loop-i-test.true c.index-positions-i.is in
    let why : IsFirstUnread told end c.args.positions.now e = elim (cases_lt c.new.result end) [
      | inl lt ↦ inl (c.in_err-node.ensures.outside lt tells held_now)
      | inr past ↦ first_of_past told end c.new.result c.args.positions.now e past
          (first_absent told c.args.positions.now c.loop-i.i c.new.result c.loop-i.nodes.items (c.loop-i.invariant.nodes tells held) (at ∙ ap Some (sym place)) (told_past s g.D.Spelled.spelling (g.D.Read.admits tt) (g.D.Read.reads tt) c.args.self.now old c.new.result held sound past))
          (c.in_err-node.ensures.past past tells held_now)
    ] in
    err_same _ e (IsFirstUnread told end c.args.positions.now) c.from_residual.ensures.1 why

pub returns-in-None-clause-refused : goal.returns-in-None-clause-refused
returns-in-None-clause-refused g c =
    let place : c.new-in-None.result ≡ c.index-positions-i.result = c.new-in-None.ensures ∙ c.as_u64-position.ensures in
    let at = slice_get_read c.args.positions.now (length c.args.positions.now) c.loop-i.i c.index-positions-i.result refl c.loop-i-test.true c.index-positions-i.is in
    inr (c.loop-i.i, c.new-in-None.result, at ∙ ap Some (sym place), inl refl)

pub returns-in-None-clause-first : goal.returns-in-None-clause-first
returns-in-None-clause-first g c tells held =
    let s = g.F.Family.shape in
    let end = length (made s c.args.self.now.tree.leaves) in
    let old = present (g.V.Volume.state c.args.vol.now) in
    let told = told_at (g.D.Read.reads tt) c.args.self.now old in
    let images = same_present (g.V.Volume.state c.args.vol.now) (g.V.Volume.state c.loop-i.vol) (c.loop-i.invariant.so_far.contents tells) in
    let held_now = subst (λ (im : Image). IsHeld s g.D.Spelled.spelling (g.D.Read.admits tt) c.args.self.now im) images held in
    let same : c.new.result ≡ c.new-in-None.result = c.new.ensures ∙ sym c.new-in-None.ensures in
    let place : c.new-in-None.result ≡ c.index-positions-i.result = c.new-in-None.ensures ∙ c.as_u64-position.ensures in
    let at = slice_get_read c.args.positions.now (length c.args.positions.now) c.loop-i.i c.index-positions-i.result refl c.loop-i-test.true c.index-positions-i.is in
    let none : told c.new-in-None.result ≡ None = ap told (sym same) ∙ ap (λ (im : Image). told_at (g.D.Read.reads tt) c.args.self.now im c.new.result) images ∙ sym (c.in_ok-node.ensures.node tells held_now) ∙ c.in-None.is in
    let absent = first_absent told c.args.positions.now c.loop-i.i c.new-in-None.result c.loop-i.nodes.items (c.loop-i.invariant.nodes tells held) (at ∙ ap Some (sym place)) none in
    inr (
      c.new-in-None.result,
      absent,
      inl (
        refl,
        elim (cases_lt c.new-in-None.result end) [
          | inl lt ↦ lt
          | inr past ↦ absurd (c.in_ok-node.ensures.past (omega (arith, past, same)) tells held_now)
        ],
      ),
    )
