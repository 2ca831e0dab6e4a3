use Rattle.std.proofs.Common.{◌≡◌, inl, inr, ◌-◌, ℕ, List, length, map, take, sym, ◌∙◌, ap, subst, arith}
use Rattle.std.specs.Prelude.{slice_get}
use Rattle.std.proofs.lemmas.List.{length-take-le}
use Rattle.tree_shape.specs.Pins.{pins}
use Rattle.tree_shape.specs.Shape.{made, peaks}
use Rattle.tree_shape.specs.Slow.{node_of}
use Rattle.volume_base.specs.Log.{Log}
use Rattle.tree_core.specs.Pruned.{nodes_from}
use Rattle.tree_core.specs.Tree.{rests, NotBuilt}
use Rattle.tree_core.proofs.Since.{nothing_since}
use Rattle.tree_store.specs.Stored.{TreeStands}
use Rattle.merkle_full.proofs.ReopenLemmas.{same_size, peaks_are, stands_long, built_outside, known_before, first_before, all_before}
use Rattle.merkle_full.proofs.GrownLemmas.{err_same, memory_alone, reads_ok}
use Rattle.merkle_full.proofs.PeakLemmas.{pin_count}
use Rattle.volume_base.proofs.ReadLemmas.{only_read_none, only_read_joins, reads_of}
use Rattle.merkle_full.specs.Recovering.{source_of, AllRecovered, NotAllRecovered, NotReopened}
use Rattle.journal_base.specs.View.{IsWithin}
use Rattle.merkle_full.proofs.RecallLemmas.{built_pin}
use Rattle.merkle_full.proofs.reopen.reopened.Goals as goal

mem_leaves : (g : _) (c : goal.After-drop-leaf_positions-2 g) → c.in_ok-mem.mem.leaves ≡ c.args.complete
mem_leaves g c =
    let size = (c.in_ok-mem.ensures {u = tt}).built.leaves.1 in
    same_size g.F.Family.shape c.in_ok-mem.mem.leaves c.args.complete (omega (arith, size, ap length c.new.ensures.items, ap (λ n. length (made g.F.Family.shape n)) c.new-2.ensures))

pub returns-clause-leaves : goal.returns-clause-leaves
returns-clause-leaves g c = (c.in_ok-opened.ensures {u = tt}).leaves ∙ mem_leaves g c

pub returns-clause-boundary : goal.returns-clause-boundary
returns-clause-boundary g c = (c.in_ok-opened.ensures {u = tt}).boundary ∙ mem_leaves g c

pub returns-clause-exact : goal.returns-clause-exact
returns-clause-exact g c p = (c.in_ok-opened.ensures {u = tt}).exact p ∙ ap (λ n. rests g.F.Family.shape n c.new-3.result p) (mem_leaves g c) ∙ ap (λ b. rests g.F.Family.shape c.args.complete b p) c.new-3.ensures

pub returns-clause-list : goal.returns-clause-list
returns-clause-list g c tells h all durable top stands fits =
    let s = g.F.Family.shape in
    let n = c.args.complete in
    let spelling = g.D.Spelled.spelling in
    let long = stands_long s h spelling all durable top n _ c.args.map.now stands fits in
    let front = take n all in
    let count : length front ≡ n = length-take-le n all long in
    let leaves = mem_leaves g c in
    let first = c.in_ok-peaks.ensures {u = tt} in
    let second = c.in_ok-pins.ensures {u = tt} in
    let one = peaks_are s h all c.in_ok-peaks.peaks.items c.deref.result.now n n g.met.F.Family.lawful (omega arith) long (c.deref.ensures.value ∙ c.in_ok-leaf_positions.ensures {u = tt}) first.counted (first.list tells h all durable top stands) in
    let log = (first.reads.contents tells).logs (g.R.BackingRecovery.view c.args.log.now).name in
    let later = subst (λ (l : Log). TreeStands s h spelling all durable top l c.args.map.now) (sym log) stands in
    let two = peaks_are s h all c.in_ok-pins.pins.items c.deref-2.result.now c.args.pruned n g.met.F.Family.lawful c.requires.within long (c.deref-2.ensures.value ∙ c.in_ok-positions.ensures {u = tt}) second.counted (second.list tells h all durable top later) in
    let none : c.in_ok-mem.mem.leaves - c.new-2.result ≡ 0 = omega (arith, leaves, c.new-2.ensures) in
    let built = (c.in_ok-mem.ensures {u = tt}).tree h front (leaves ∙ sym count) (one ∙ ap (λ b. map (node_of s h front) (peaks s b)) (sym c.new-2.ensures))
    (c.new.ensures.items ∙ (nothing_since s h front c.new-2.result).0 ∙ ap (λ j. nodes_from s h front c.new-2.result j) (sym none)) in
    (c.in_ok-opened.ensures {u = tt}).tree h front built (c.deref-4.ensures.value ∙ two ∙ ap (λ b. map (node_of s h front) (peaks s b)) (sym c.new-3.ensures))

pub returns-clause-told : goal.returns-clause-told
returns-clause-told g c h all long leaf_told pin_told =
    let s = g.F.Family.shape in
    let n = c.args.complete in
    let view = g.R.BackingRecovery.view c.args.log.now in
    let old = g.V.Volume.state c.args.vol.now in
    let new = g.V.Volume.state c.recovered_nodes.new.vol in
    let front = take n all in
    let count : length front ≡ n = length-take-le n all long in
    let leaves = mem_leaves g c in
    let first = c.in_ok-peaks.ensures {u = tt} in
    let second = c.in_ok-pins.ensures {u = tt} in
    let leaf = c.deref.ensures.value ∙ c.in_ok-leaf_positions.ensures {u = tt} in
    let pin = c.deref-2.ensures.value ∙ c.in_ok-positions.ensures {u = tt} in
    let before = known_before g.V.Volume.tells g.D.Spelled.spelling g.D.Read.admits c.args.map.now view old new first.reads.contents in
    let one = peaks_are s h all c.in_ok-peaks.peaks.items c.deref.result.now n n g.met.F.Family.lawful (omega arith) long leaf first.counted
    (λ i p d at_p at_d. leaf_told i p d (ap (λ (l : List ℕ). slice_get l i) (sym leaf) ∙ at_p) (first.nodes i p d at_p at_d)) in
    let two = peaks_are s h all c.in_ok-pins.pins.items c.deref-2.result.now c.args.pruned n g.met.F.Family.lawful c.requires.within long pin second.counted
    (λ i p d at_p at_d. pin_told i p d (ap (λ (l : List ℕ). slice_get l i) (sym pin) ∙ at_p) (before p d (second.nodes i p d at_p at_d))) in
    let none : c.in_ok-mem.mem.leaves - c.new-2.result ≡ 0 = omega (arith, leaves, c.new-2.ensures) in
    let built = (c.in_ok-mem.ensures {u = tt}).tree h front (leaves ∙ sym count) (one ∙ ap (λ b. map (node_of s h front) (peaks s b)) (sym c.new-2.ensures))
    (c.new.ensures.items ∙ (nothing_since s h front c.new-2.result).0 ∙ ap (λ j. nodes_from s h front c.new-2.result j) (sym none)) in
    (c.in_ok-opened.ensures {u = tt}).tree h front built (c.deref-4.ensures.value ∙ two ∙ ap (λ b. map (node_of s h front) (peaks s b)) (sym c.new-3.ensures))

pub returns-in_err-peaks-clause-refused : goal.returns-in_err-peaks-clause-refused
returns-in_err-peaks-clause-refused g c =
    let s = g.F.Family.shape in
    let view = g.R.BackingRecovery.view c.args.log.now in
    let old = g.V.Volume.state c.args.vol.now in
    let known = g.V.Volume.tells × IsWithin view old in
    let source = source_of g.D.Spelled.spelling g.D.Read.admits c.args.map.now view old in
    let e = c.in_err-peaks.field-0.0 in
    let positions = c.deref.ensures.value ∙ c.in_ok-leaf_positions.ensures {u = tt} in
    err_same _ e (NotReopened known source s c.args.complete c.args.pruned) c.from_residual-in_err-peaks.ensures.1
    (inl (subst (λ (ps : List ℕ). NotAllRecovered known source ps e) positions c.in_err-peaks.ensures.refused))

pub returns-in_err-pins-clause-refused : goal.returns-in_err-pins-clause-refused
returns-in_err-pins-clause-refused g c =
    let s = g.F.Family.shape in
    let view = g.R.BackingRecovery.view c.args.log.now in
    let old = g.V.Volume.state c.args.vol.now in
    let new = g.V.Volume.state c.recovered_nodes.new.vol in
    let known = g.V.Volume.tells × IsWithin view old in
    let source = source_of g.D.Spelled.spelling g.D.Read.admits c.args.map.now view old in
    let e = c.in_err-pins.field-0.0 in
    let first = c.in_ok-peaks.ensures {u = tt} in
    let leaf = c.deref.ensures.value ∙ c.in_ok-leaf_positions.ensures {u = tt} in
    let positions = c.deref-2.ensures.value ∙ c.in_ok-positions.ensures {u = tt} in
    let lost = first_before g.V.Volume.tells g.D.Spelled.spelling g.D.Read.admits c.args.map.now view old new first.reads.contents c.deref-2.result.now e c.in_err-pins.ensures.refused in
    err_same _ e (NotReopened known source s c.args.complete c.args.pruned) c.from_residual-in_err-pins.ensures.1
    (inr (subst (λ (ps : List ℕ). AllRecovered known source ps) leaf first.recovered, subst (λ (ps : List ℕ). NotAllRecovered known source ps e) positions lost))

pub returns-in_err-mem-clause-refused : goal.returns-in_err-mem-clause-refused
returns-in_err-mem-clause-refused g c =
    let s = g.F.Family.shape in
    let n = c.args.complete in
    let view = g.R.BackingRecovery.view c.args.log.now in
    let old = g.V.Volume.state c.args.vol.now in
    let known = g.V.Volume.tells × IsWithin view old in
    let source = source_of g.D.Spelled.spelling g.D.Read.admits c.args.map.now view old in
    let e = c.in_err-mem.field-0.0 in
    let leaf = c.deref.ensures.value ∙ c.in_ok-leaf_positions.ensures {u = tt} in
    let counted : length c.in_ok-peaks.peaks.items ≡ length (s.heights n) = (c.in_ok-peaks.ensures {u = tt}).counted ∙ ap length leaf ∙ pin_count s n in
    let place : c.new-2.result ≡ n = c.new-2.ensures in
    let why = subst (λ (b : ℕ). NotBuilt s b (length c.new.result.items) (length c.in_ok-peaks.peaks.items) e) place c.in_err-mem.ensures.refused in
    let none = subst (λ (k : ℕ). NotBuilt s n k (length c.in_ok-peaks.peaks.items) e) (ap length c.new.ensures.items) why in
    err_same _ e (NotReopened known source s n c.args.pruned) c.from_residual-in_err-mem.ensures.1 (inl (inl (built_outside s n (length c.in_ok-peaks.peaks.items) e c.requires.few counted none)))

pub returns-in_err-opened-clause-reads : goal.returns-in_err-opened-clause-reads
returns-in_err-opened-clause-reads g c =
    let old = g.V.Volume.state c.args.vol.now in
    let one = only_read_joins _ _ _ _ _ _ (only_read_none g.V.Volume.tells old) (c.in_ok-peaks.ensures {u = tt}).reads in
    let two = only_read_joins _ _ _ _ _ _ one (c.in_ok-pins.ensures {u = tt}).reads in
    reads_of _ _ _ _ _ two (memory_alone _ c.in_err-opened.field-0.0 c.from_residual-in_err-opened.ensures.1 c.in_err-opened.ensures.memory)

pub returns-clause-reads : goal.returns-clause-reads
returns-clause-reads g c =
    let old = g.V.Volume.state c.args.vol.now in
    let one = only_read_joins _ _ _ _ _ _ (only_read_none g.V.Volume.tells old) (c.in_ok-peaks.ensures {u = tt}).reads in
    let two = only_read_joins _ _ _ _ _ _ one (c.in_ok-pins.ensures {u = tt}).reads in
    reads_ok _ _ _ _ _ two

pub returns-clause-peaks : goal.returns-clause-peaks
returns-clause-peaks g c =
    let view = g.R.BackingRecovery.view c.args.log.now in
    let old = g.V.Volume.state c.args.vol.now in
    let new = g.V.Volume.state c.recovered_nodes.new.vol in
    let known = g.V.Volume.tells × IsWithin view old in
    let source = source_of g.D.Spelled.spelling g.D.Read.admits c.args.map.now view old in
    let first = c.in_ok-peaks.ensures {u = tt} in
    let second = c.in_ok-pins.ensures {u = tt} in
    let then = all_before g.V.Volume.tells g.D.Spelled.spelling g.D.Read.admits c.args.map.now view old new first.reads.contents c.deref-2.result.now second.recovered in
    record {
      of_leaves = subst (λ (ps : List ℕ). AllRecovered known source ps) (c.deref.ensures.value ∙ c.in_ok-leaf_positions.ensures {u = tt}) first.recovered;
      of_boundary = subst (λ (ps : List ℕ). AllRecovered known source ps) (c.deref-2.ensures.value ∙ c.in_ok-positions.ensures {u = tt}) then;
    }

pub returns-clause-recalls : goal.returns-clause-recalls
returns-clause-recalls g c p d lt is =
    let s = g.F.Family.shape in
    let view = g.R.BackingRecovery.view c.args.log.now in
    let old = g.V.Volume.state c.args.vol.now in
    let new = g.V.Volume.state c.recovered_nodes.new.vol in
    let first = c.in_ok-peaks.ensures {u = tt} in
    let second = c.in_ok-pins.ensures {u = tt} in
    let leaf = c.deref.ensures.value ∙ c.in_ok-leaf_positions.ensures {u = tt} ∙ ap (pins s) (sym c.new-2.ensures) in
    let before = known_before g.V.Volume.tells g.D.Spelled.spelling g.D.Read.admits c.args.map.now view old new first.reads.contents in
    elim ((c.in_ok-opened.ensures {u = tt}).nodes p d is) [
      | inl here ↦
          let pin = built_pin s c.new-2.result c.new.result.items c.in_ok-peaks.peaks.items c.in_ok-mem.mem (c.in_ok-mem.ensures {u = tt}).built c.new.ensures.items p d here in
          first.nodes pin.index p d (ap (λ (l : List ℕ). slice_get l pin.index) leaf ∙ pin.position) pin.digest
      | inr pin ↦
          before p d
          (second.nodes pin.index p d (ap (λ (l : List ℕ). slice_get l pin.index) (c.deref-2.ensures.value ∙ sym c.deref-3.ensures.value) ∙ pin.position) (ap (λ (l : List _). slice_get l pin.index) (sym c.deref-4.ensures.value) ∙ pin.digest))
    ]
