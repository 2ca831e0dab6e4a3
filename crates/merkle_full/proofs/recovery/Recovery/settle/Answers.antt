use Rattle.std.proofs.Common.{◌≡◌, ◌≤◌, ℕ, List, length, take, refl, subst, sym, ◌∙◌, ap, arith}
use Rattle.std.specs.Prelude.{string_bytes}
use Rattle.journal_base.specs.View.{View, seen_of, view_of}
use Rattle.tree_shape.specs.Shape.{made}
use Rattle.tree_store.specs.Stored.{TreeStands, size}
use Rattle.tree_core.specs.Tree.{IsOf, rests}
use Rattle.volume_base.specs.Log.{end_of}
use Rattle.volume_base.specs.Moments.{present, PairHas, PairKeeps}
use Rattle.merkle_full.specs.Full.{Full, IsSeated}
use Rattle.merkle_full.specs.Lists.{IsFullOf}
use Rattle.merkle_full.specs.Preparing.{Prepared, IsPreparedIn, settled_log}
use Rattle.merkle_full.proofs.PrepareLemmas.{selected_past}
use Rattle.merkle_full.proofs.SettleLemmas.{ends_settled, full_settled, only_stored}
use Rattle.merkle_full.proofs.recovery.Recovery.settle.Goals as goal

pub settled-requires-clause-past : goal.settled-requires-clause-past
settled-requires-clause-past g c = let inv = c.self.invariant.0 in selected_past g.F.Family.shape _ _ _ _ c.self.inside.complete _ c.self.inside.complete inv.selects refl

pub invariant_of-result : goal.invariant_of-result
invariant_of-result g c =
    let s = g.F.Family.shape in
    let inv = c.self.invariant.0 in
    record {
      sound = inv.sound;
      low = omega (arith, inv.rested, inv.selects.within);
      exact = λ p lt. inv.exact p (omega (arith, lt, ap (λ (n : ℕ). length (made s n)) inv.rested)) ∙ ap (λ (n : ℕ). rests s n c.self.inside.pruned p) (sym inv.rested);
    }

pub returns-in_err-nodes-clause-images : goal.returns-in_err-nodes-clause-images
returns-in_err-nodes-clause-images g c told h all durable top within long few has =
    let s = g.F.Family.shape in
    let inv = c.self.invariant.0 in
    let s0 = g.V.Volume.state c.args.vol.now in
    let s1 = g.V.Volume.state c.settled.new.vol in
    let name = (seen_of c.self.inside.nodes).name in
    let metadata = string_bytes c.self.inside.metadata in
    let text = c.as_str.ensures.value in
    let Q = TreeStands s h g.D.Spelled.spelling all durable top in
    let P : Prepared g.row.D.Denot → Type 0 = λ r. IsPreparedIn r s0 → durable ≤ r.complete → PairHas s0 r.log.name r.metadata Q → PairKeeps r.log.name r.metadata Q s0 s1 in
    subst P c.self.view_is
    (λ here room stand.
    subst (λ (m : List ℕ). PairKeeps name m Q s0 s1) text
    (c.in_err-nodes.ensures.images told h all durable top here.log (ap s0.map text ∙ here.read) (λ b le stored. only_stored g.row.F.Denot s _ (length all) b inv long le stored) room (subst (λ (m : List ℕ). PairHas s0 name m Q) (sym text) stand))) within few has

pub returns-clause-seated : goal.returns-clause-seated
returns-clause-seated g c told within =
    let s = g.F.Family.shape in
    let inv = c.self.invariant.0 in
    let s0 = g.V.Volume.state c.args.vol.now in
    let s1 = g.V.Volume.state c.settled.new.vol in
    let name = (seen_of c.self.inside.nodes).name in
    let metadata = string_bytes c.self.inside.metadata in
    let text = c.as_str.ensures.value in
    let t : Full g.row.D.Denot = record { tree = c.self.inside.mem; boundary = c.self.inside.pruned; log = view_of c.in_ok-nodes.nodes; metadata = metadata } in
    let did = c.in_ok-nodes.ensures {u = tt} in
    let complete = c.self.inside.complete in
    let boundary = c.self.inside.boundary in
    let blob = (seen_of c.self.inside.nodes).blob in
    let past = selected_past s _ _ _ _ complete _ complete inv.selects refl in
    let held = did.held told in
    let P : Prepared g.row.D.Denot → Type 0 = λ r. IsPreparedIn r s0 → IsSeated s t (present s1) in
    subst P c.self.view_is (λ here. record {
      start_is = held.start_is;
      end_is = held.end_is;
      nodes = held.end_is ∙ ap (λ (v : View _). end_of (s1.log v.name)) did.made ∙ ap end_of (did.log told here.log) ∙ ends_settled s (s0.log name) complete boundary blob (omega (arith, inv.selects.pruned_is, inv.selects.within)) (omega (arith, past, here.log.start_is)) (omega (arith, inv.selects.most.fits, here.log.end_is)) ∙ ap (λ (n : ℕ). length (made s n)) (sym inv.rested);
    }) within

pub returns-clause-full : goal.returns-clause-full
returns-clause-full g c told h all durable top within stands long digests of =
    let s = g.F.Family.shape in
    let inv = c.self.invariant.0 in
    let s0 = g.V.Volume.state c.args.vol.now in
    let s1 = g.V.Volume.state c.settled.new.vol in
    let name = (seen_of c.self.inside.nodes).name in
    let metadata = string_bytes c.self.inside.metadata in
    let text = c.as_str.ensures.value in
    let t : Full g.row.D.Denot = record { tree = c.self.inside.mem; boundary = c.self.inside.pruned; log = view_of c.in_ok-nodes.nodes; metadata = metadata } in
    let did = c.in_ok-nodes.ensures {u = tt} in
    let complete = c.self.inside.complete in
    let boundary = c.self.inside.boundary in
    let blob = (seen_of c.self.inside.nodes).blob in
    let past = selected_past s _ _ _ _ complete _ complete inv.selects refl in
    let held = did.held told in
    let spelling = g.D.Spelled.spelling in
    let admits = g.D.Read.admits tt in
    let P : Prepared g.row.D.Denot → Type 0 = λ r. IsPreparedIn r s0 → TreeStands s h spelling all durable top (s0.log r.log.name) r.read → IsOf s h (take r.tree.leaves all) r.tree → IsFullOf s h spelling admits (take r.tree.leaves all) t (present s1) in
    subst P c.self.view_is
    (λ here standing tree.
    let seated : IsSeated s t (present s1) = record {
      start_is = held.start_is;
      end_is = held.end_is;
      nodes = held.end_is ∙ ap (λ (v : View _). end_of (s1.log v.name)) did.made ∙ ap end_of (did.log told here.log) ∙ ends_settled s (s0.log name) complete boundary blob (omega (arith, inv.selects.pruned_is, inv.selects.within)) (omega (arith, past, here.log.start_is)) (omega (arith, inv.selects.most.fits, here.log.end_is)) ∙ ap (λ (n : ℕ). length (made s n)) (sym inv.rested);
    } in
    let maps = ap s1.map (sym text) ∙ did.map told (ap s0.map text ∙ here.read) in
    let settled = ap (λ (v : View _). s1.log v.name) did.made ∙ did.log told here.log in
    full_settled g.row.F.Denot s h g.met.F.Family.lawful spelling admits all durable top _ (s0.log name) inv long standing here.log.start_is here.log.end_is t (present s1) blob seated refl refl maps settled digests tree) within stands of

pub returns-clause-images : goal.returns-clause-images
returns-clause-images g c told h all durable top within long few has =
    let s = g.F.Family.shape in
    let inv = c.self.invariant.0 in
    let s0 = g.V.Volume.state c.args.vol.now in
    let s1 = g.V.Volume.state c.settled.new.vol in
    let name = (seen_of c.self.inside.nodes).name in
    let metadata = string_bytes c.self.inside.metadata in
    let text = c.as_str.ensures.value in
    let Q = TreeStands s h g.D.Spelled.spelling all durable top in
    let P : Prepared g.row.D.Denot → Type 0 = λ r. IsPreparedIn r s0 → durable ≤ r.complete → PairHas s0 r.log.name r.metadata Q → PairKeeps r.log.name r.metadata Q s0 s1 in
    subst P c.self.view_is
    (λ here room stand.
    subst (λ (m : List ℕ). PairKeeps name m Q s0 s1) text
    ((c.in_ok-nodes.ensures {u = tt}).images told h all durable top here.log (ap s0.map text ∙ here.read) (λ b le stored. only_stored g.row.F.Denot s _ (length all) b inv long le stored) room (subst (λ (m : List ℕ). PairHas s0 name m Q) (sym text) stand))) within few has

pub returns-clause-ends : goal.returns-clause-ends
returns-clause-ends g c told within =
    let s = g.F.Family.shape in
    let inv = c.self.invariant.0 in
    let s0 = g.V.Volume.state c.args.vol.now in
    let s1 = g.V.Volume.state c.settled.new.vol in
    let name = (seen_of c.self.inside.nodes).name in
    let text = c.as_str.ensures.value in
    let did = c.in_ok-nodes.ensures {u = tt} in
    let complete = c.self.inside.complete in
    let boundary = c.self.inside.boundary in
    let blob = (seen_of c.self.inside.nodes).blob in
    let past = selected_past s _ _ _ _ complete _ complete inv.selects refl in
    let end = (view_of c.in_ok-nodes.nodes).end in
    let P : Prepared g.row.D.Denot → Type 0 = λ r. IsPreparedIn r s0 → end ≡ size s r.complete in
    subst P c.self.view_is
    (λ here. (did.held told).end_is ∙ ap (λ (v : View _). end_of (s1.log v.name)) did.made ∙ ap end_of (did.log told here.log)
    ∙ ends_settled s (s0.log name) complete boundary blob (omega (arith, inv.selects.pruned_is, inv.selects.within)) (omega (arith, past, here.log.start_is)) (omega (arith, inv.selects.most.fits, here.log.end_is))) within

pub returns-clause-log : goal.returns-clause-log
returns-clause-log g c told within =
    let s = g.F.Family.shape in
    let s0 = g.V.Volume.state c.args.vol.now in
    let s1 = g.V.Volume.state c.settled.new.vol in
    let did = c.in_ok-nodes.ensures {u = tt} in
    let P : Prepared g.row.D.Denot → Type 0 = λ r. IsPreparedIn r s0 → s1.log r.log.name ≡ settled_log s r.log.blob r.boundary r.complete (s0.log r.log.name) in
    subst P c.self.view_is (λ here. did.log told here.log) within

pub returns-clause-map : goal.returns-clause-map
returns-clause-map g c told within =
    let s0 = g.V.Volume.state c.args.vol.now in
    let s1 = g.V.Volume.state c.settled.new.vol in
    let text = c.as_str.ensures.value in
    let P : Prepared g.row.D.Denot → Type 0 = λ r. IsPreparedIn r s0 → s1.map r.metadata ≡ r.read in
    subst P c.self.view_is (λ here. ap s1.map (sym text) ∙ (c.in_ok-nodes.ensures {u = tt}).map told (ap s0.map text ∙ here.read)) within
