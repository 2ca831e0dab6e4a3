use Rattle.std.proofs.Common.{◌≡◌, inl, ◌≤◌, ◌^◌, ℕ, List, length, map, Err, refl, sym, ◌∙◌, ap, subst, arith}
use Rattle.journal_base.specs.Items.{items_of}
use Rattle.tree_shape.specs.Pins.{pins}
use Rattle.tree_shape.specs.Shape.{peaks}
use Rattle.tree_shape.specs.Slow.{node_of}
use Rattle.tree_store.specs.declared.error.Error.TheVariants as tree
use Rattle.volume_base.specs.Moments.{present}
use Rattle.volume_base.specs.Volume.{Map}
use Rattle.volume_base.proofs.ReadLemmas.{only_read_none, only_read_joins, reads_joins, reads_of}
use Rattle.merkle_full.specs.Full.{Full}
use Rattle.merkle_full.specs.Reading.{IsUnreadAmong}
use Rattle.merkle_full.specs.Pruning.{IsMovedTo, KeepsPins, KeepsOthers, pinned_map}
use Rattle.merkle_full.proofs.GrownLemmas.{reads_ok, err_same, memory_alone}
use Rattle.merkle_full.proofs.PinnedLemmas.{pinned_keeps, pinned_others}
use Rattle.merkle_full.proofs.PruneLemmas.{ready_full}
use Rattle.merkle_full.proofs.RunLemmas.{same_fault, not_ok}
use Rattle.merkle_full.proofs.merkle.Merkle.next.Goals as goal

pub returns-clause-reads : goal.returns-clause-reads
returns-clause-reads g c =
    let a = g.V.Volume.state c.args.vol.now in
    let b = g.V.Volume.state c.peaks_at.new.vol in
    let d = g.V.Volume.state c.next_map.new.vol in
    reads_ok g.V.Volume.tells tree.Volume a d _
    (only_read_joins g.V.Volume.tells tree.Volume a b d c.in_ok-map.map
    (only_read_joins g.V.Volume.tells tree.Volume a a b c.in_ok-digests.digests (only_read_none g.V.Volume.tells a) (c.in_ok-digests.ensures {u = tt}).reads)
    (c.in_ok-map.ensures {u = tt}).reads)

pub returns-clause-ready : goal.returns-clause-ready
returns-clause-ready g c tells h all low flushed full =
    let s = g.F.Family.shape in
    let spelling = g.D.Spelled.spelling in
    let t = c.args.self in
    let n = c.args.boundary in
    let a = g.V.Volume.state c.args.vol.now in
    let b = g.V.Volume.state c.next_map.new.vol in
    let ds = c.in_ok-digests.digests.items in
    let read = c.in_ok-digests.ensures {u = tt} in
    let one = read.reads.contents tells in
    let two = (c.in_ok-map.ensures {u = tt}).reads.contents tells in
    let did = c.in_ok-moved.ensures {u = tt} in
    let count = full.tree.count in
    let leaves : c.self.inside.mem.leaves ≡ t.tree.leaves = ap (λ (u : Full g.row.D.Denot). u.tree.leaves) c.self.view_is in
    let within : n ≤ length all = omega (arith, c.requires, count) in
    let few : n ≤ 2 ^ 62 = omega (arith, c.requires, leaves, c.leaves-leaves.ensures.sound.few) in
    let at : c.new-2.result ≡ n = c.new-2.ensures ∙ c.as_u64-leaves.ensures in
    let is_k = read.nodes tells h all full (omega (arith, within, c.as_u64-leaves.ensures)) in
    let is : ds ≡ map (node_of s h all) (peaks s n) = is_k ∙ ap (λ (k : ℕ). map (node_of s h all) (peaks s k)) c.as_u64-leaves.ensures in
    let positions : c.in_ok-positions.positions.items ≡ pins s n = c.in_ok-positions.ensures {u = tt} ∙ ap (λ (k : ℕ). pins s k) c.as_u64-leaves.ensures in
    let counted : length (pins s n) ≡ length ds = sym (ap length positions) ∙ sym (read.counted ∙ ap length c.deref.ensures.value) in
    let stored : c.in_ok-map.map ≡ pinned_map spelling (a.map t.metadata) (pins s n) ds n =
    (c.in_ok-map.ensures {u = tt}).map tells
    ∙ ap (λ (m : Map). pinned_map spelling m c.deref-2.result.now c.deref-3.result.now c.new.result) (one.maps t.metadata)
    ∙ ap (λ (ps : List ℕ). pinned_map spelling (a.map t.metadata) ps c.deref-3.result.now c.new.result) (c.deref-2.ensures.value ∙ positions)
    ∙ ap (λ (xs : List g.row.D.Denot). pinned_map spelling (a.map t.metadata) (pins s n) xs c.new.result) c.deref-3.ensures.value
    ∙ ap (λ (k : ℕ). pinned_map spelling (a.map t.metadata) (pins s n) ds k) (c.new.ensures ∙ c.as_u64-leaves.ensures) in
    ready_full s h spelling (g.D.Read.admits tt) all t c.in_ok-moved.moved ds (present a) b c.in_ok-map.map n g.met.F.Family.lawful (g.met.F.Family.small n) few low within
    (subst (λ (k : ℕ). IsMovedTo k t c.in_ok-moved.moved) at did.moved) did.rests.boundary flushed
    (did.tree h all full.tree (c.deref-5.ensures.value ∙ is ∙ ap (λ (k : ℕ). map (node_of s h all) (peaks s k)) (sym at)))
    counted is (two.logs t.log.name ∙ one.logs t.log.name) stored full

pub returns-clause-pins : goal.returns-clause-pins
returns-clause-pins g c tells =
    let name = c.args.self.metadata in
    let old : Map = (g.V.Volume.state c.peaks_at.new.vol).map name in
    let read = (c.in_ok-digests.ensures {u = tt}).reads.contents tells in
    let put = pinned_keeps g.D.Spelled.spelling old c.deref-2.result.now c.deref-3.result.now c.new.result in
    subst (λ (m : Map). KeepsPins m c.in_ok-map.map) (read.maps name) (subst (λ (m : Map). KeepsPins old m) (sym ((c.in_ok-map.ensures {u = tt}).map tells)) put)

pub returns-in_err-digests-clause-refused : goal.returns-in_err-digests-clause-refused
returns-in_err-digests-clause-refused g c =
    let items = items_of g.D.Spelled.spelling g.D.Read.admits c.args.self.log (g.V.Volume.state c.args.vol.now) in
    let e = c.in_err-digests.field-0.0 in
    err_same _ e (IsUnreadAmong g.V.Volume.tells items (pins g.F.Family.shape c.args.boundary)) c.from_residual-in_err-digests.ensures.1
    (subst (λ (ps : List ℕ). IsUnreadAmong g.V.Volume.tells items ps e)
    (c.deref.ensures.value ∙ c.in_ok-positions.ensures {u = tt} ∙ ap (λ (k : ℕ). pins g.F.Family.shape k) c.as_u64-leaves.ensures)
    c.in_err-digests.ensures.refused)

pub returns-in_err-map-clause-refused : goal.returns-in_err-map-clause-refused
returns-in_err-map-clause-refused g c =
    let items = items_of g.D.Spelled.spelling g.D.Read.admits c.args.self.log (g.V.Volume.state c.args.vol.now) in
    err_same _ c.in_err-map.field-0.0 (IsUnreadAmong g.V.Volume.tells items (pins g.F.Family.shape c.args.boundary)) c.from_residual-in_err-map.ensures.1 (inl c.in_err-map.ensures.outside)

pub returns-in_err-map-clause-reads : goal.returns-in_err-map-clause-reads
returns-in_err-map-clause-reads g c =
    let tells = g.V.Volume.tells in
    let a = g.V.Volume.state c.args.vol.now in
    let b = g.V.Volume.state c.peaks_at.new.vol in
    let d = g.V.Volume.state c.next_map.new.vol in
    let e = c.in_err-map.field-0.0 in
    reads_joins tells tree.Volume a b d (Err e) _
    (only_read_joins tells tree.Volume a a b c.in_ok-digests.digests (only_read_none tells a) (c.in_ok-digests.ensures {u = tt}).reads)
    c.in_err-map.ensures.reads
    (same_fault _ (Err e) e tree.Volume refl c.from_residual-in_err-map.ensures.1)
    (not_ok _ (λ x. x ≡ e) _ c.from_residual-in_err-map.ensures.1)

pub returns-in_err-moved-clause-reads : goal.returns-in_err-moved-clause-reads
returns-in_err-moved-clause-reads g c =
    let tells = g.V.Volume.tells in
    let a = g.V.Volume.state c.args.vol.now in
    let b = g.V.Volume.state c.peaks_at.new.vol in
    let d = g.V.Volume.state c.next_map.new.vol in
    reads_of tells tree.Volume a d _
    (only_read_joins tells tree.Volume a b d c.in_ok-map.map
    (only_read_joins tells tree.Volume a a b c.in_ok-digests.digests (only_read_none tells a) (c.in_ok-digests.ensures {u = tt}).reads)
    (c.in_ok-map.ensures {u = tt}).reads)
    (memory_alone _ c.in_err-moved.field-0.0 c.from_residual-in_err-moved.ensures.1 c.in_err-moved.ensures.memory)

pub returns-clause-others : goal.returns-clause-others
returns-clause-others g c tells =
    let s = g.F.Family.shape in
    let name = c.args.self.metadata in
    let was : Map = (g.V.Volume.state c.args.vol.now).map name in
    let old : Map = (g.V.Volume.state c.peaks_at.new.vol).map name in
    let ps = c.deref-2.result.now in
    let read = (c.in_ok-digests.ensures {u = tt}).reads.contents tells in
    let put = pinned_others g.D.Spelled.spelling old ps c.deref-3.result.now c.new.result in
    let made = subst (λ (m : Map). KeepsOthers ps old m) (sym ((c.in_ok-map.ensures {u = tt}).map tells)) put in
    let here = subst (λ (m : Map). KeepsOthers ps m c.in_ok-map.map) (read.maps name) made in
    subst (λ (qs : List ℕ). KeepsOthers qs was c.in_ok-map.map) (c.deref-2.ensures.value ∙ c.in_ok-positions.ensures {u = tt} ∙ ap (λ (k : ℕ). pins s k) c.as_u64-leaves.ensures) here
