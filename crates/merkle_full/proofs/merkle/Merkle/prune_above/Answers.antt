use Rattle.std.proofs.Common.{◌≡◌, ◌≤◌, inl, inr, max, ℕ, List, length, Ok, Err, refl, ap, ◌∙◌, subst, arith}
use Rattle.journal_base.specs.Items.{items_of}
use Rattle.tree_shape.specs.Pins.{pins}
use Rattle.tree_store.specs.Stores.{IsOutside}
use Rattle.tree_store.specs.declared.error.Error.TheVariants as tree
use Rattle.volume_base.proofs.JoinLemmas.{changes_of_writes, changes_of_reads, went_of_writes, went_of_reads, went_joins, changes_joins}
use Rattle.merkle_full.specs.Flushing.{AllStand}
use Rattle.merkle_full.specs.Pruning.{IsMovedTo, KeepsOthers, StandsWhilePruned, IsOfPrune}
use Rattle.merkle_full.specs.Reading.{IsUnreadAmong}
use Rattle.merkle_full.proofs.GrownLemmas.{err_same}
use Rattle.merkle_full.proofs.PruneRun.{names_wider, keeps_before, names_read, stands_read, run_rests, run_names, run_durable, run_stand, run_stands, run_settles, run_pins, run_others, run_start, unfailed, among_same}
use Rattle.merkle_full.proofs.RunLemmas.{same_fault, not_ok}
use Rattle.merkle_full.proofs.merkle.Merkle.prune_above.Goals as goal

pub returns-in_err-synced-clause-names : goal.returns-in_err-synced-clause-names
returns-in_err-synced-clause-names g c tells = names_wider _ _ (g.V.Volume.state c.args.vol.now) (g.V.Volume.state c.sync.new.vol) (c.in_err-synced.ensures.names tells)

pub returns-in_err-synced-clause-images : goal.returns-in_err-synced-clause-images
returns-in_err-synced-clause-images g c tells h all durable top full stand =
    keeps_before g.F.Family.shape h g.D.Spelled.spelling all durable top c.args.boundary c.args.self (g.V.Volume.state c.args.vol.now) (g.V.Volume.state c.sync.new.vol) (c.in_err-synced.ensures.images tells h all durable top full stand)

pub returns-in_err-moved-clause-names : goal.returns-in_err-moved-clause-names
returns-in_err-moved-clause-names g c tells =
    let read = c.in_err-moved.ensures.reads in
    names_read c.args.self (g.V.Volume.state c.args.vol.now) (g.V.Volume.state c.sync.new.vol) (g.V.Volume.state c.next.new.vol) read.clock (read.past tells) (read.contents tells) ((c.in_ok-synced.ensures {u = tt}).names tells)

pub returns-in_err-moved-clause-images : goal.returns-in_err-moved-clause-images
returns-in_err-moved-clause-images g c tells h all durable top full stand =
    let s = g.F.Family.shape in
    let read = c.in_err-moved.ensures.reads in
    let a = g.V.Volume.state c.args.vol.now in
    let b = g.V.Volume.state c.sync.new.vol in
    let d = g.V.Volume.state c.next.new.vol in
    keeps_before s h g.D.Spelled.spelling all durable top c.args.boundary c.args.self a d
    (stands_read c.args.self a b d read.clock (read.past tells) s h g.D.Spelled.spelling all durable top ((c.in_ok-synced.ensures {u = tt}).images tells h all durable top full stand))

pub returns-in_err-moved-clause-outside : goal.returns-in_err-moved-clause-outside
returns-in_err-moved-clause-outside g c tells h all full =
    let synced = c.in_ok-synced.ensures {u = tt} in
    let low : c.in_ok-synced.synced.boundary ≤ c.new.result = omega (arith, synced.same.boundary, c.new.ensures, c.as_u64-leaves.ensures, c.requires.above) in
    err_same _ c.in_err-moved.field-0.0 IsOutside c.from_residual-in_err-moved.ensures.1 (c.in_err-moved.ensures.outside tells h all low (synced.full tells h all full))

pub returns-in_err-pruned-clause-names : goal.returns-in_err-pruned-clause-names
returns-in_err-pruned-clause-names g c tells =
    let synced = c.in_ok-synced.ensures {u = tt} in
    let did = c.in_ok-moved.ensures {u = tt} in
    run_names c.new.result c.args.self c.in_ok-synced.synced c.in_ok-moved.moved c.in_ok-moved.moved synced.same did.moved
    (g.V.Volume.state c.args.vol.now) (g.V.Volume.state c.sync.new.vol) (g.V.Volume.state c.next.new.vol) (g.V.Volume.state c.store.new.vol) did.reads.clock (did.reads.past tells) (did.reads.contents tells)
    (synced.names tells) (c.in_err-pruned.ensures.names tells)

pub returns-clause-names : goal.returns-clause-names
returns-clause-names g c tells =
    let synced = c.in_ok-synced.ensures {u = tt} in
    let did = c.in_ok-moved.ensures {u = tt} in
    run_names c.new.result c.args.self c.in_ok-synced.synced c.in_ok-moved.moved c.in_ok-moved.moved synced.same did.moved
    (g.V.Volume.state c.args.vol.now) (g.V.Volume.state c.sync.new.vol) (g.V.Volume.state c.next.new.vol) (g.V.Volume.state c.store.new.vol) did.reads.clock (did.reads.past tells) (did.reads.contents tells)
    (synced.names tells) ((c.in_ok-pruned.ensures {u = tt}).names tells)

pub returns-clause-rests : goal.returns-clause-rests
returns-clause-rests g c =
    let did = c.in_ok-moved.ensures {u = tt} in
    let stored = c.in_ok-pruned.ensures {u = tt} in
    run_rests c.new.result c.args.self c.in_ok-synced.synced c.in_ok-moved.moved c.in_ok-pruned.pruned (c.in_ok-synced.ensures {u = tt}).same did.moved g.F.Family.shape stored.same stored.tree did.rests

pub returns-clause-full : goal.returns-clause-full
returns-clause-full g c tells h all full =
    let synced = c.in_ok-synced.ensures {u = tt} in
    let low : c.in_ok-synced.synced.boundary ≤ c.new.result = omega (arith, synced.same.boundary, c.new.ensures, c.as_u64-leaves.ensures, c.requires.above) in
    (c.in_ok-pruned.ensures {u = tt}).full tells h all ((c.in_ok-moved.ensures {u = tt}).ready tells h all low synced.rests.boundary (synced.full tells h all full))

pub returns-clause-start : goal.returns-clause-start
returns-clause-start g c tells h all full =
    let synced = c.in_ok-synced.ensures {u = tt} in
    let did = c.in_ok-moved.ensures {u = tt} in
    let moved = subst (λ (k : ℕ). IsMovedTo k c.in_ok-synced.synced c.in_ok-moved.moved) (c.new.ensures ∙ c.as_u64-leaves.ensures) did.moved in
    run_start c.args.boundary c.args.self c.in_ok-synced.synced c.in_ok-moved.moved c.in_ok-pruned.pruned synced.same moved
    (g.V.Volume.state c.args.vol.now) (g.V.Volume.state c.sync.new.vol) (g.V.Volume.state c.next.new.vol) (g.V.Volume.state c.store.new.vol) did.reads.clock (did.reads.past tells) (did.reads.contents tells)
    g.F.Family.shape h g.D.Spelled.spelling (g.D.Read.admits tt) all (synced.full tells h all full) synced.rests.boundary (omega (arith, c.requires.low, synced.same.leaves)) (synced.start tells h all full) ((c.in_ok-pruned.ensures {u = tt}).start tells)

pub returns-in_err-pruned-clause-images : goal.returns-in_err-pruned-clause-images
returns-in_err-pruned-clause-images g c tells h all durable top full stand =
    let s = g.F.Family.shape in
    let spelling = g.D.Spelled.spelling in
    let synced = c.in_ok-synced.ensures {u = tt} in
    let did = c.in_ok-moved.ensures {u = tt} in
    let a = g.V.Volume.state c.args.vol.now in
    let b = g.V.Volume.state c.sync.new.vol in
    let d = g.V.Volume.state c.next.new.vol in
    let e = g.V.Volume.state c.store.new.vol in
    let one = c.in_ok-synced.synced in
    let two = c.in_ok-moved.moved in
    let low : one.boundary ≤ c.new.result = omega (arith, synced.same.boundary, c.new.ensures, c.as_u64-leaves.ensures, c.requires.above) in
    let ready = did.ready tells h all low synced.rests.boundary (synced.full tells h all full) in
    let past = did.reads.past tells in
    let same = did.reads.contents tells in
    let only = run_durable c.new.result c.args.self one two two synced.same did.moved a b d e did.reads.clock past same (synced.durable tells) in
    let whole = run_stand c.new.result c.args.self one two two synced.same did.moved a b d e did.reads.clock past same s h spelling all top (synced.settled tells h all durable top full stand) in
    subst (λ (k : ℕ). StandsWhilePruned s h spelling all durable top k c.args.self a e) (c.new.ensures ∙ c.as_u64-leaves.ensures)
    (run_stands c.new.result c.args.self one two two synced.same did.moved a b d e did.reads.clock past same s h spelling all top durable (synced.images tells h all durable top full stand)
    (c.in_err-pruned.ensures.images tells h all (length all) top did.rests ready only whole))

pub returns-clause-images : goal.returns-clause-images
returns-clause-images g c tells h all durable top full stand =
    let s = g.F.Family.shape in
    let spelling = g.D.Spelled.spelling in
    let synced = c.in_ok-synced.ensures {u = tt} in
    let did = c.in_ok-moved.ensures {u = tt} in
    let a = g.V.Volume.state c.args.vol.now in
    let b = g.V.Volume.state c.sync.new.vol in
    let d = g.V.Volume.state c.next.new.vol in
    let e = g.V.Volume.state c.store.new.vol in
    let one = c.in_ok-synced.synced in
    let two = c.in_ok-moved.moved in
    let low : one.boundary ≤ c.new.result = omega (arith, synced.same.boundary, c.new.ensures, c.as_u64-leaves.ensures, c.requires.above) in
    let ready = did.ready tells h all low synced.rests.boundary (synced.full tells h all full) in
    let past = did.reads.past tells in
    let same = did.reads.contents tells in
    let only = run_durable c.new.result c.args.self one two two synced.same did.moved a b d e did.reads.clock past same (synced.durable tells) in
    let whole = run_stand c.new.result c.args.self one two two synced.same did.moved a b d e did.reads.clock past same s h spelling all top (synced.settled tells h all durable top full stand) in
    subst (λ (k : ℕ). StandsWhilePruned s h spelling all durable top k c.args.self a e) (c.new.ensures ∙ c.as_u64-leaves.ensures)
    (run_stands c.new.result c.args.self one two two synced.same did.moved a b d e did.reads.clock past same s h spelling all top durable (synced.images tells h all durable top full stand)
    ((c.in_ok-pruned.ensures {u = tt}).images tells h all (length all) top did.rests ready only whole))

pub returns-clause-settled : goal.returns-clause-settled
returns-clause-settled g c tells h all durable top full stand =
    let s = g.F.Family.shape in
    let spelling = g.D.Spelled.spelling in
    let synced = c.in_ok-synced.ensures {u = tt} in
    let did = c.in_ok-moved.ensures {u = tt} in
    let a = g.V.Volume.state c.args.vol.now in
    let b = g.V.Volume.state c.sync.new.vol in
    let d = g.V.Volume.state c.next.new.vol in
    let e = g.V.Volume.state c.store.new.vol in
    let one = c.in_ok-synced.synced in
    let two = c.in_ok-moved.moved in
    let low : one.boundary ≤ c.new.result = omega (arith, synced.same.boundary, c.new.ensures, c.as_u64-leaves.ensures, c.requires.above) in
    let ready = did.ready tells h all low synced.rests.boundary (synced.full tells h all full) in
    let past = did.reads.past tells in
    let same = did.reads.contents tells in
    let only = run_durable c.new.result c.args.self one two two synced.same did.moved a b d e did.reads.clock past same (synced.durable tells) in
    let whole = run_stand c.new.result c.args.self one two two synced.same did.moved a b d e did.reads.clock past same s h spelling all top (synced.settled tells h all durable top full stand) in
    subst (λ (k : ℕ). AllStand s h spelling all (length all) (max top k) c.args.self e) (c.new.ensures ∙ c.as_u64-leaves.ensures)
    (run_settles c.new.result c.args.self one two two synced.same did.moved a b d e did.reads.clock past same s h spelling all top
    ((c.in_ok-pruned.ensures {u = tt}).images tells h all (length all) top did.rests ready only whole))

pub returns-clause-pins : goal.returns-clause-pins
returns-clause-pins g c tells =
    let t = c.args.self in
    let synced = c.in_ok-synced.ensures {u = tt} in
    let did = c.in_ok-moved.ensures {u = tt} in
    let a = g.V.Volume.state c.args.vol.now in
    let b = g.V.Volume.state c.sync.new.vol in
    let e = g.V.Volume.state c.store.new.vol in
    run_pins c.new.result t c.in_ok-synced.synced c.in_ok-moved.moved c.in_ok-moved.moved synced.same did.moved a b e c.in_ok-moved.map
    ((synced.names tells).others.maps t.metadata tt) (did.pins tells) ((c.in_ok-pruned.ensures {u = tt}).stored tells)

pub returns-in_err-pruned-clause-changes : goal.returns-in_err-pruned-clause-changes
returns-in_err-pruned-clause-changes g c =
    let tells = g.V.Volume.tells in
    let synced = c.in_ok-synced.ensures {u = tt} in
    let did = c.in_ok-moved.ensures {u = tt} in
    let a = g.V.Volume.state c.args.vol.now in
    let b = g.V.Volume.state c.sync.new.vol in
    let d = g.V.Volume.state c.next.new.vol in
    let e = g.V.Volume.state c.store.new.vol in
    let failed = unfailed c.new.result c.args.self c.in_ok-synced.synced c.in_ok-moved.moved c.in_ok-moved.moved synced.same did.moved _ c.requires.unfailed in
    changes_joins tells tree.Volume tree.Volume a d e (Err c.in_err-pruned.field-0.0) _
    (went_joins tells a b d (went_of_writes tells tree.Volume a b c.in_ok-synced.synced (synced.writes c.requires.unfailed)) (went_of_reads tells tree.Volume b d _ did.reads))
    (changes_of_writes tells tree.Volume d e (Err c.in_err-pruned.field-0.0) (c.in_err-pruned.ensures.writes failed))
    (same_fault _ (Err c.in_err-pruned.field-0.0) c.in_err-pruned.field-0.0 tree.Volume refl c.from_residual-in_err-pruned.ensures.1)
    (not_ok _ (λ x. x ≡ c.in_err-pruned.field-0.0) _ c.from_residual-in_err-pruned.ensures.1)

pub returns-clause-changes : goal.returns-clause-changes
returns-clause-changes g c =
    let tells = g.V.Volume.tells in
    let synced = c.in_ok-synced.ensures {u = tt} in
    let did = c.in_ok-moved.ensures {u = tt} in
    let a = g.V.Volume.state c.args.vol.now in
    let b = g.V.Volume.state c.sync.new.vol in
    let d = g.V.Volume.state c.next.new.vol in
    let e = g.V.Volume.state c.store.new.vol in
    let failed = unfailed c.new.result c.args.self c.in_ok-synced.synced c.in_ok-moved.moved c.in_ok-moved.moved synced.same did.moved _ c.requires.unfailed in
    let writes = (c.in_ok-pruned.ensures {u = tt}).writes failed in
    changes_joins tells tree.Volume tree.Volume a d e (Ok c.in_ok-pruned.pruned) (Ok c.in_ok-pruned.pruned)
    (went_joins tells a b d (went_of_writes tells tree.Volume a b c.in_ok-synced.synced (synced.writes c.requires.unfailed)) (went_of_reads tells tree.Volume b d _ did.reads))
    (changes_of_writes tells tree.Volume d e (Ok c.in_ok-pruned.pruned) writes) (λ is. is) writes.kept

pub returns-in_err-synced-clause-errors : goal.returns-in_err-synced-clause-errors
returns-in_err-synced-clause-errors g c =
    let items = items_of g.D.Spelled.spelling g.D.Read.admits c.args.self.log (g.V.Volume.state c.sync.new.vol) in
    err_same _ c.in_err-synced.field-0.0 (IsOfPrune g.F.Family.shape g.V.Volume.tells c.args.self items c.args.boundary) c.from_residual.ensures.1 (inl c.in_err-synced.ensures.errors)

pub returns-in_err-moved-clause-errors : goal.returns-in_err-moved-clause-errors
returns-in_err-moved-clause-errors g c =
    let s = g.F.Family.shape in
    let t = c.args.self in
    let b = g.V.Volume.state c.sync.new.vol in
    let d = g.V.Volume.state c.next.new.vol in
    let e = c.in_err-moved.field-0.0 in
    let one = c.in_ok-synced.synced in
    let items = items_of g.D.Spelled.spelling g.D.Read.admits t.log d in
    let name : one.log.name ≡ t.log.name = ap (λ v. v.name) (c.in_ok-synced.ensures {u = tt}).same.log in
    let here = among_same g.V.Volume.tells g.D.Spelled.spelling g.D.Read.admits one.log b d (pins s c.new.result) e c.in_err-moved.ensures.reads.contents c.in_err-moved.ensures.refused in
    let why = subst (λ (n : List ℕ). IsUnreadAmong g.V.Volume.tells (record { log = d.log n; spelling = g.D.Spelled.spelling; admits = g.D.Read.admits tt }) (pins s c.new.result) e) name here in
    err_same _ e (IsOfPrune s g.V.Volume.tells t items c.args.boundary) c.from_residual-in_err-moved.ensures.1
    (inr (subst (λ (k : ℕ). IsUnreadAmong g.V.Volume.tells items (pins s k) e) (c.new.ensures ∙ c.as_u64-leaves.ensures) why))

pub returns-in_err-pruned-clause-errors : goal.returns-in_err-pruned-clause-errors
returns-in_err-pruned-clause-errors g c =
    let items = items_of g.D.Spelled.spelling g.D.Read.admits c.args.self.log (g.V.Volume.state c.store.new.vol) in
    let failed = unfailed c.new.result c.args.self c.in_ok-synced.synced c.in_ok-moved.moved c.in_ok-moved.moved (c.in_ok-synced.ensures {u = tt}).same (c.in_ok-moved.ensures {u = tt}).moved _ c.requires.unfailed in
    err_same _ c.in_err-pruned.field-0.0 (IsOfPrune g.F.Family.shape g.V.Volume.tells c.args.self items c.args.boundary) c.from_residual-in_err-pruned.ensures.1 (inl (inl (c.in_err-pruned.ensures.outside failed)))

pub returns-in_err-moved-clause-changes : goal.returns-in_err-moved-clause-changes
returns-in_err-moved-clause-changes g c =
    let tells = g.V.Volume.tells in
    let a = g.V.Volume.state c.args.vol.now in
    let b = g.V.Volume.state c.sync.new.vol in
    let d = g.V.Volume.state c.next.new.vol in
    let e = c.in_err-moved.field-0.0 in
    changes_joins tells tree.Volume tree.Volume a b d (Err e) _
    (went_of_writes tells tree.Volume a b c.in_ok-synced.synced ((c.in_ok-synced.ensures {u = tt}).writes c.requires.unfailed))
    (changes_of_reads tells tree.Volume b d (Err e) c.in_err-moved.ensures.reads)
    (same_fault _ (Err e) e tree.Volume refl c.from_residual-in_err-moved.ensures.1)
    (not_ok _ (λ x. x ≡ e) _ c.from_residual-in_err-moved.ensures.1)

pub returns-clause-others : goal.returns-clause-others
returns-clause-others g c tells =
    let s = g.F.Family.shape in
    let t = c.args.self in
    let synced = c.in_ok-synced.ensures {u = tt} in
    let did = c.in_ok-moved.ensures {u = tt} in
    let a = g.V.Volume.state c.args.vol.now in
    let b = g.V.Volume.state c.sync.new.vol in
    let e = g.V.Volume.state c.store.new.vol in
    let made = run_others c.new.result t c.in_ok-synced.synced c.in_ok-moved.moved c.in_ok-moved.moved synced.same did.moved (pins s c.new.result) a b e c.in_ok-moved.map
    ((synced.names tells).others.maps t.metadata tt) (did.others tells) ((c.in_ok-pruned.ensures {u = tt}).stored tells) in
    subst (λ (k : ℕ). KeepsOthers (pins s k) (a.map t.metadata) (e.map t.metadata)) (c.new.ensures ∙ c.as_u64-leaves.ensures) made
