use Rattle.std.proofs.Common.{◌≡◌, inl, inr, ℕ, ◌<◌, Err, refl, length, take, subst, sym, ◌∙◌, ap, arith}
use Rattle.std.specs.Prelude.{is_some}
use Rattle.journal_base.specs.Items.{Items}
use Rattle.journal_base.specs.View.{IsWithin}
use Rattle.journal_base.proofs.MatchLemmas.{within_later}
use Rattle.tree_shape.specs.Shape.{made}
use Rattle.tree_store.specs.Stored.{TreeStands, size}
use Rattle.tree_core.specs.Tree.{IsOf}
use Rattle.volume_base.specs.Log.{Log}
use Rattle.volume_base.proofs.ReadLemmas.{only_read_none, only_read_joins, reads_joins}
use Rattle.merkle_full.specs.Recovering.{source_of}
use Rattle.merkle_full.specs.Preparing.{IsOrphanRead, HasLogged, NotReached, NotOpened}
use Rattle.merkle_full.proofs.GrownLemmas.{err_same, reads_ok}
use Rattle.merkle_full.proofs.PrepareLemmas.{selects_in, selected_past, not_reached_before}
use Rattle.merkle_full.proofs.RunLemmas.{same_fault, not_ok}
use Rattle.tree_store.specs.declared.error.Error.TheVariants as tree
use Rattle.merkle_full.specs.Lifted.{IsLifted}
use Rattle.merkle_full.proofs.LiftedLemmas.{not_reopened_lifted}
use Rattle.merkle_full.proofs.opening.open_memory.Goals as goal

pub returns-in_err-mem-clause-refused : goal.returns-in_err-mem-clause-refused
returns-in_err-mem-clause-refused g c told within =
    let view = g.R.BackingRecovery.view c.args.log.now in
    let old = g.V.Volume.state c.args.vol.now in
    let known = g.V.Volume.tells × IsWithin view old in
    let source = source_of g.D.Spelled.spelling g.D.Read.admits c.args.map.now view old in
    let e = c.in_err-mem.field-0.0 in
    err_same _ e (NotOpened known source g.F.Family.shape c.args.boundary c.args.cap) c.from_residual-in_err-mem.ensures.1
    (inr (c.in_ok-selection.selection.complete, c.in_ok-selection.selection.pruned, (selects_in g.F.Family.shape _ _ _ _ _ _ _ _ c.bounds-start.ensures.start c.bounds-start.ensures.end (c.in_ok-selection.ensures {u = tt}).selects), inl c.in_err-mem.ensures.refused))

pub returns-in_err-mem-2-clause-refused : goal.returns-in_err-mem-2-clause-refused
returns-in_err-mem-2-clause-refused g c told within =
    let s = g.F.Family.shape in
    let view = g.R.BackingRecovery.view c.args.log.now in
    let old = g.V.Volume.state c.args.vol.now in
    let new = g.V.Volume.state c.reopened.new.vol in
    let known = g.V.Volume.tells × IsWithin view old in
    let source = source_of g.D.Spelled.spelling g.D.Read.admits c.args.map.now view old in
    let e = c.in_err-mem-2.field-0.0 in
    let did = c.in_ok-mem.ensures {u = tt} in
    let log = (did.reads.contents told).logs view.name in
    let complete = c.in_ok-selection.selection.complete in
    let why = c.in_err-mem-2.ensures.refused told (within_later view old new log within) (selected_past s c.args.boundary view.start view.end c.args.cap complete c.in_ok-selection.selection.pruned c.in_ok-mem.mem.leaves (selects_in g.F.Family.shape _ _ _ _ _ _ _ _ c.bounds-start.ensures.start c.bounds-start.ensures.end (c.in_ok-selection.ensures {u = tt}).selects) did.leaves) in
    err_same _ e (NotOpened known source s c.args.boundary c.args.cap) c.from_residual-in_err-mem-2.ensures.1
    (inr (complete, c.in_ok-selection.selection.pruned, (selects_in g.F.Family.shape _ _ _ _ _ _ _ _ c.bounds-start.ensures.start c.bounds-start.ensures.end (c.in_ok-selection.ensures {u = tt}).selects), inr (did.peaks, subst (λ (n : ℕ). NotReached source.items s c.args.cap view.end n e) did.leaves (not_reached_before g.D.Spelled.spelling g.D.Read.admits view old new log s c.args.cap view.end c.in_ok-mem.mem.leaves e why))))

pub returns-in_err-mem-2-clause-reads : goal.returns-in_err-mem-2-clause-reads
returns-in_err-mem-2-clause-reads g c =
    let old = g.V.Volume.state c.args.vol.now in
    let one = only_read_joins _ _ _ _ _ _ (only_read_none g.V.Volume.tells old) (c.in_ok-mem.ensures {u = tt}).reads in
    reads_joins _ _ _ _ _ _ _ one c.in_err-mem-2.ensures.reads (same_fault c.from_residual-in_err-mem-2.result (Err c.in_err-mem-2.field-0.0) c.in_err-mem-2.field-0.0 tree.Volume refl c.from_residual-in_err-mem-2.ensures.1) (not_ok c.from_residual-in_err-mem-2.result (λ d. d ≡ c.in_err-mem-2.field-0.0) _ c.from_residual-in_err-mem-2.ensures.1)

pub returns-clause-exact : goal.returns-clause-exact
returns-clause-exact g c p lt =
    let did = c.in_ok-mem.ensures {u = tt} in
    let below : p < length (made g.F.Family.shape c.in_ok-mem.mem.leaves) = omega (arith, lt, ap (λ (n : ℕ). length (made g.F.Family.shape n)) did.leaves) in
    ap (λ o. is_some o) ((c.in_ok-mem-2.ensures {u = tt}).nodes p below) ∙ did.exact p

pub returns-clause-list : goal.returns-clause-list
returns-clause-list g c told within all durable top stands =
    let s = g.F.Family.shape in
    let view = g.R.BackingRecovery.view c.args.log.now in
    let did = c.in_ok-mem.ensures {u = tt} in
    let log = (did.reads.contents told).logs view.name in
    let first = did.list told g.H.Hasher.hash all durable top stands (let fits = (selects_in g.F.Family.shape _ _ _ _ _ _ _ _ c.bounds-start.ensures.start c.bounds-start.ensures.end (c.in_ok-selection.ensures {u = tt}).selects).most.fits in omega (arith, fits, within.high)) in
    let now = subst (λ (l : Log). TreeStands s g.H.Hasher.hash g.D.Spelled.spelling all durable top l c.args.map.now) (sym log) stands in
    (c.in_ok-mem-2.ensures {u = tt}).list told all durable top c.args.map.now now (subst (λ (n : ℕ). IsOf s g.H.Hasher.hash (take n all) c.in_ok-mem.mem) (sym did.leaves) first)

pub returns-clause-reads : goal.returns-clause-reads
returns-clause-reads g c =
    let old = g.V.Volume.state c.args.vol.now in
    let one = only_read_joins _ _ _ _ _ _ (only_read_none g.V.Volume.tells old) (c.in_ok-mem.ensures {u = tt}).reads in
    reads_ok _ _ _ _ _ (only_read_joins _ _ _ _ _ _ one (c.in_ok-mem-2.ensures {u = tt}).reads)

pub returns-clause-recalls : goal.returns-clause-recalls
returns-clause-recalls g c p d lt is =
    let did = c.in_ok-mem.ensures {u = tt} in
    let below : p < length (made g.F.Family.shape c.in_ok-mem.mem.leaves) = omega (arith, lt, ap (λ (n : ℕ). length (made g.F.Family.shape n)) did.leaves) in
    did.recalls p d lt (sym ((c.in_ok-mem-2.ensures {u = tt}).nodes p below) ∙ is)

pub returns-clause-orphan : goal.returns-clause-orphan
returns-clause-orphan g c told =
    let s = g.F.Family.shape in
    let view = g.R.BackingRecovery.view c.args.log.now in
    let old = g.V.Volume.state c.args.vol.now in
    let did = c.in_ok-mem.ensures {u = tt} in
    let items : Log → Items g.row.D.Denot = λ l. record { log = l; spelling = g.D.Spelled.spelling; admits = g.D.Read.admits view.codec } in
    subst (λ (l : Log). IsOrphanRead (items l) s c.args.cap view.end c.in_ok-selection.selection.complete) ((did.reads.contents told).logs view.name)
    (subst (λ (n : ℕ). IsOrphanRead (items ((g.V.Volume.state c.reopened.new.vol).log view.name)) s c.args.cap view.end n) did.leaves ((c.in_ok-mem-2.ensures {u = tt}).orphan told))

pub returns-in_err-mem-clause-errors : goal.returns-in_err-mem-clause-errors
returns-in_err-mem-clause-errors g c =
    let view = g.R.BackingRecovery.view c.args.log.now in
    let old = g.V.Volume.state c.args.vol.now in
    let e = c.in_err-mem.field-0.0 in
    let source = source_of g.D.Spelled.spelling g.D.Read.admits c.args.map.now view old in
    let selection = c.in_ok-selection.selection in
    err_same c.from_residual-in_err-mem.result e IsLifted c.from_residual-in_err-mem.ensures.1 (not_reopened_lifted (g.V.Volume.tells × IsWithin view old) source g.F.Family.shape selection.complete selection.pruned e c.in_err-mem.ensures.refused)

pub returns-clause-logged : goal.returns-clause-logged
returns-clause-logged g c told =
    let s = g.F.Family.shape in
    let view = g.R.BackingRecovery.view c.args.log.now in
    let did = c.in_ok-mem.ensures {u = tt} in
    let items : Log → Items g.row.D.Denot = λ l. record { log = l; spelling = g.D.Spelled.spelling; admits = g.D.Read.admits view.codec } in
    let mem = c.in_ok-mem-2.mem in
    subst (λ (l : Log). HasLogged (items l) (size s c.in_ok-selection.selection.complete) mem) ((did.reads.contents told).logs view.name)
    (subst (λ (n : ℕ). HasLogged (items ((g.V.Volume.state c.reopened.new.vol).log view.name)) (size s n) mem) did.leaves ((c.in_ok-mem-2.ensures {u = tt}).logged told))
