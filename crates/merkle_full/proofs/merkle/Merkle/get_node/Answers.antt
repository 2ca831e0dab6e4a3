use Rattle.std.proofs.Common.{◌≡◌, ◌≤◌, ◌<◌, ◌-◌, ℕ, length, Some, None, Err, refl, sym, ◌∙◌, ap, subst, arith}
use Rattle.std.specs.String.{string_bytes}
use Rattle.std.proofs.lemmas.Option.{slice_get_within}
use Rattle.journal_base.specs.Items.{items_of, Holds, IsCorrupt}
use Rattle.journal_base.specs.View.{view_of}
use Rattle.tree_shape.specs.Shape.{made}
use Rattle.tree_shape.proofs.NeededLemmas.{made_le}
use Rattle.tree_store.specs.Stores.{IsOutside}
use Rattle.volume_base.specs.Log.{Log}
use Rattle.volume_base.specs.Moments.{present}
use Rattle.tree_core.specs.Tree.{node_at}
use Rattle.merkle_full.specs.Full.{Full, IsHeld, logged, told_at}
use Rattle.merkle_full.specs.Lists.{IsFullOf, IsNodeOf}
use Rattle.merkle_full.specs.Reading.{IsUnreadAt, IsPast}
use Rattle.merkle_full.proofs.FullLemmas.{held_of_full, node_of_list}
use Rattle.merkle_full.proofs.ReadLemmas.{told_logged, logged_item, unread_at, err_then, if_then, unread_past, unread_within, not_past, not_corrupt}
use Rattle.merkle_full.proofs.merkle.Merkle.get_node.Goals as goal

pub returns-then-place-start-clause-past : goal.returns-then-place-start-clause-past
returns-then-place-start-clause-past g c le tells held =
    let s = g.F.Family.shape in
    let image = present (g.V.Volume.state c.args.vol.now) in
    let here = subst (λ (t : Full g.row.D.Denot). IsHeld s g.D.Spelled.spelling (g.D.Read.admits tt) t image) (sym c.self.view_is) held in
    let past = subst (λ (t : Full g.row.D.Denot). length (made s t.tree.leaves) ≤ c.args.position) (sym c.self.view_is) le in
    let kept = c.self.invariant in
    absurd (omega (arith, here.start_is, here.end_is, made_le s _ _ kept.sound.within, c.bounds-start.ensures.start, c.if-place-start.true, past, c.as_u64-place.ensures))

pub returns-in_err-node-clause-past : goal.returns-in_err-node-clause-past
returns-in_err-node-clause-past g c le tells held =
    let s = g.F.Family.shape in
    let image = present (g.V.Volume.state c.args.vol.now) in
    let here = subst (λ (t : Full g.row.D.Denot). IsHeld s g.D.Spelled.spelling (g.D.Read.admits tt) t image) (sym c.self.view_is) held in
    let items = items_of g.D.Spelled.spelling g.D.Read.admits (view_of c.self.inside.nodes) (g.V.Volume.state c.args.vol.now) in
    let did = c.in_err-node.ensures in
    let why = unread_at g.V.Volume.tells items c.args.position _ c.in_err-node.field-0.0 c.from_residual.ensures.1
    (record { pruned = λ q is. let w = did.pruned q (ap Err is) in (w.0 ∙ c.as_u64-place.ensures, λ told. omega (arith, w.1 told, c.as_u64-place.ensures)); past = λ q is. let w = did.out_of_range q (ap Err is) in (w.0 ∙ c.as_u64-place.ensures, λ told. omega (arith, w.1 told, c.as_u64-place.ensures)); corrupt = λ q is. let w = did.corrupt q (ap Err is) in (w.0 ∙ c.as_u64-place.ensures, λ told. subst (IsCorrupt items) c.as_u64-place.ensures (w.1 told)); errors = did.errors }) in
    err_then _ (IsUnreadAt g.V.Volume.tells items c.args.position) (IsPast c.args.position) _ c.from_residual.ensures.1 why
    (λ e q. unread_past g.V.Volume.tells items c.args.position e tells (omega (arith, here.start_is, c.bounds-start.ensures.start, c.if-place-start.false, c.as_u64-place.ensures)) (not_corrupt s _ image items c.args.position refl here) q)

pub returns-in_err-node-clause-outside : goal.returns-in_err-node-clause-outside
returns-in_err-node-clause-outside g c lt tells held =
    let s = g.F.Family.shape in
    let image = present (g.V.Volume.state c.args.vol.now) in
    let here = subst (λ (t : Full g.row.D.Denot). IsHeld s g.D.Spelled.spelling (g.D.Read.admits tt) t image) (sym c.self.view_is) held in
    let within = subst (λ (t : Full g.row.D.Denot). c.args.position < length (made s t.tree.leaves)) (sym c.self.view_is) lt in
    let none : node_at c.self.inside.mem c.args.position ≡ None = ap (node_at c.self.inside.mem) (sym (c.new.ensures ∙ c.as_u64-place.ensures)) ∙ sym c.in_default.ensures in
    let items = items_of g.D.Spelled.spelling g.D.Read.admits (view_of c.self.inside.nodes) (g.V.Volume.state c.args.vol.now) in
    let did = c.in_err-node.ensures in
    let kept = c.self.invariant in
    let why = unread_at g.V.Volume.tells items c.args.position _ c.in_err-node.field-0.0 c.from_residual.ensures.1
    (record { pruned = λ q is. let w = did.pruned q (ap Err is) in (w.0 ∙ c.as_u64-place.ensures, λ told. omega (arith, w.1 told, c.as_u64-place.ensures)); past = λ q is. let w = did.out_of_range q (ap Err is) in (w.0 ∙ c.as_u64-place.ensures, λ told. omega (arith, w.1 told, c.as_u64-place.ensures)); corrupt = λ q is. let w = did.corrupt q (ap Err is) in (w.0 ∙ c.as_u64-place.ensures, λ told. subst (IsCorrupt items) c.as_u64-place.ensures (w.1 told)); errors = did.errors }) in
    if_then (IsUnreadAt g.V.Volume.tells items c.args.position) IsOutside _ why
    (λ e q. unread_within g.V.Volume.tells items c.args.position e tells (omega (arith, here.start_is, c.bounds-start.ensures.start, c.if-place-start.false, c.as_u64-place.ensures)) (not_corrupt s _ image items c.args.position refl here)
    (not_past s g.D.Spelled.spelling (g.D.Read.admits tt) _ image c.args.position here kept.sound none within) q)

pub returns-clause-node : goal.returns-clause-node
returns-clause-node g c tells held =
    let image = present (g.V.Volume.state c.args.vol.now) in
    let before : Full g.row.D.Denot = record { tree = c.self.inside.mem; boundary = c.self.inside.boundary; log = view_of c.self.inside.nodes; metadata = string_bytes c.self.inside.metadata } in
    let log : Log = (g.V.Volume.state c.args.vol.now).log (string_bytes c.self.inside.nodes.name) in
    let none : node_at before.tree c.as_u64-place.result ≡ None = ap (node_at c.self.inside.mem) (sym c.new.ensures) ∙ sym c.in_default.ensures in
    let did = c.in_ok-node.ensures {u = tt} in
    let item : logged (g.D.Read.reads tt) log c.as_u64-place.result ≡ Some c.in_ok-node.node = logged_item g.D.Spelled.spelling (g.D.Read.admits tt) (g.D.Read.reads tt) log c.as_u64-place.result c.in_ok-node.node (g.met.D.Read.lawful tt) (did.item tells) did.admitted in
    let told : told_at (g.D.Read.reads tt) before image c.as_u64-place.result ≡ Some c.in_ok-node.node = told_logged (g.D.Read.reads tt) before image c.as_u64-place.result (Some c.in_ok-node.node) none item in
    let here : Some c.in_ok-node.node ≡ told_at (g.D.Read.reads tt) before image c.args.position = subst (λ (p : ℕ). Some c.in_ok-node.node ≡ told_at (g.D.Read.reads tt) before image p) c.as_u64-place.ensures (sym told) in
    subst (λ (t : Full g.row.D.Denot). Some c.in_ok-node.node ≡ told_at (g.D.Read.reads tt) t image c.args.position) c.self.view_is here

pub returns-clause-list : goal.returns-clause-list
returns-clause-list g c tells h all full lt =
    let s = g.F.Family.shape in
    let image = present (g.V.Volume.state c.args.vol.now) in
    let P : Full g.row.D.Denot → Type 0 = λ t. IsFullOf s h g.D.Spelled.spelling (g.D.Read.admits tt) all t image → c.args.position < length (made s t.tree.leaves) → (Some c.in_ok-node.node ≡ told_at (g.D.Read.reads tt) t image c.args.position) → IsNodeOf s h all t.boundary c.args.position (Some c.in_ok-node.node) in
    let held = subst (λ (t : Full g.row.D.Denot). IsFullOf s h g.D.Spelled.spelling (g.D.Read.admits tt) all t image → IsHeld s g.D.Spelled.spelling (g.D.Read.admits tt) t image) c.self.view_is (λ here. held_of_full s h g.D.Spelled.spelling (g.D.Read.admits tt) all _ image here c.self.invariant.sound.within) full in
    subst P c.self.view_is (λ here below is. node_of_list s h g.D.Spelled.spelling (g.D.Read.admits tt) all _ image (g.D.Read.reads tt) (g.met.D.Read.lawful tt) here c.self.invariant c.args.position below (Some c.in_ok-node.node) is) full lt (returns-clause-node g c tells held)

pub returns-clause-past : goal.returns-clause-past
returns-clause-past g c le tells held =
    let s = g.F.Family.shape in
    let image = present (g.V.Volume.state c.args.vol.now) in
    let here = subst (λ (t : Full g.row.D.Denot). IsHeld s g.D.Spelled.spelling (g.D.Read.admits tt) t image) (sym c.self.view_is) held in
    let past = subst (λ (t : Full g.row.D.Denot). length (made s t.tree.leaves) ≤ c.args.position) (sym c.self.view_is) le in
    let item = (c.in_ok-node.ensures {u = tt}).item tells in
    let log : Log = (g.V.Volume.state c.args.vol.now).log (string_bytes c.self.inside.nodes.name) in
    let within : c.as_u64-place.result - log.start < length log.items = slice_get_within log.items (c.as_u64-place.result - log.start) (g.D.Spelled.spelling c.in_ok-node.node) item.here in
    absurd (omega (arith, here.end_is, made_le s _ _ c.self.invariant.sound.within, past, c.as_u64-place.ensures, item.low, within))

pub returns-clause-logged : goal.returns-clause-logged
returns-clause-logged g c tells none low =
    let here = subst (λ (p : ℕ). Holds (items_of g.D.Spelled.spelling g.D.Read.admits (view_of c.self.inside.nodes) (g.V.Volume.state c.args.vol.now)) p c.in_ok-node.node) c.as_u64-place.ensures ((c.in_ok-node.ensures {u = tt}).item tells) in
    subst (λ (t : Full g.row.D.Denot). Holds (items_of g.D.Spelled.spelling g.D.Read.admits t.log (g.V.Volume.state c.args.vol.now)) c.args.position c.in_ok-node.node) c.self.view_is here
