use Rattle.std.proofs.Common.{◌≡◌, ℕ, Option, refl, subst, sym, ◌∙◌, ap}
use Rattle.std.specs.Prelude.{string_bytes}
use Rattle.journal_base.proofs.StepLemmas.{becomes_same}
use Rattle.journal_base.specs.Items.{Items}
use Rattle.journal_base.specs.View.{View, seen_of, IsWithin}
use Rattle.volume_base.specs.Volume.{Map}
use Rattle.volume_base.specs.Log.{Log, end_of, cleared_at, BecomesOneOf, Stays}
use Rattle.volume_base.specs.declared.error.VolumeError.TheVariants.{Failed}
use Rattle.volume_base.proofs.CallLemmas.{log_call_read, log_call_after_read, log_call_then_stays}
use Rattle.volume_base.proofs.JoinLemmas.{went_of_reads, went_of_writes, went_joins, changes_of_reads, changes_joins}
use Rattle.tree_store.specs.Stored.{TreeStands, size}
use Rattle.tree_store.specs.declared.error.Error.TheVariants as tree
use Rattle.merkle_full.specs.Opening.{stored_in}
use Rattle.merkle_full.specs.Recovering.{source_of, ArePeaksRecovered, IsRecalled}
use Rattle.merkle_full.specs.Preparing.{cap_of, contents_of, log_kept, IsOrphanRead, HasLogged, NotOpened, NotPrepared}
use Rattle.merkle_full.proofs.GrownLemmas.{err_same}
use Rattle.merkle_full.proofs.PrepareLemmas.{held_source, held_within, recalled_known, peaks_known, not_opened_known, kept_standing, not_prepared, prepared}
use Rattle.merkle_full.proofs.SettleLemmas.{same_ok}
use Rattle.volume_base.specs.Errors.{as_journal_error}
use Rattle.merkle_full.specs.Lifted.{IsLifted}
use Rattle.merkle_full.proofs.LiftedLemmas.{err_lifted, outside_lifted}
use Rattle.merkle_full.proofs.merkle.Merkle.prepare.Goals as goal

pub returns-in_err-read-clause-log : goal.returns-in_err-read-clause-log
returns-in_err-read-clause-log g c told = log_call_read g.V.Volume.tells Failed _ (BecomesOneOf (cleared_at 0)) (becomes_same (cleared_at 0)) _ _ _ c.in_err-read.ensures.answers told

pub returns-in_err-stored-clause-log : goal.returns-in_err-stored-clause-log
returns-in_err-stored-clause-log g c told = log_call_read g.V.Volume.tells Failed _ (BecomesOneOf (cleared_at 0)) (becomes_same (cleared_at 0)) _ _ _ (c.in_ok-read.ensures {u = tt}).answers told

pub returns-in_err-found-clause-refused : goal.returns-in_err-found-clause-refused
returns-in_err-found-clause-refused g c told =
    let s = g.F.Family.shape in
    let spelling = g.D.Spelled.spelling in
    let old = g.V.Volume.state c.args.vol.now in
    let now = g.V.Volume.state c.kept_nodes.new.vol in
    let nodes = string_bytes c.args.cfg.nodes in
    let m = old.map (string_bytes c.args.cfg.metadata) in
    let stored = c.in_ok-stored.stored in
    let view = seen_of c.in_ok-nodes.nodes in
    let kept = c.in_ok-nodes.ensures {u = tt} in
    let read = c.in_ok-read.ensures {u = tt} in
    let b = c.unwrap_or-boundary.result in
    let high = c.cap_under.result in
    let e = c.in_err-found.field-0.0 in
    let held = kept.held told in
    let log_is = ap now.log (ap (λ (v : View _). v.name) kept.made) ∙ kept.log told ∙ ap (log_kept stored) ((read.answers.contents told).logs nodes) in
    let within = held_within view now held in
    let source = source_of spelling g.D.Read.admits c.in_ok-read.read view now in
    let why = not_opened_known (g.V.Volume.tells × IsWithin view now) (told, within) source s b high e (c.in_err-found.ensures.refused told within) in
    let top = cap_of c.args.max_leaves in
    err_same c.from_residual-in_err-found.result e (NotPrepared spelling (g.D.Read.admits tt) s m (old.log nodes) top) c.from_residual-in_err-found.ensures.1
    (not_prepared g.row.F.Denot spelling (g.D.Read.admits tt) s m c.in_ok-read.read (old.log nodes) top high b stored (read.map told ∙ ap old.map c.as_str.ensures.value) (c.in_ok-stored.ensures {u = tt}).stored c.unwrap_or-boundary.ensures c.cap_under.ensures.cap e
    (held_source (λ src. NotOpened (Unit {0}) src s b high e) spelling g.D.Read.admits c.in_ok-read.read view now (log_kept stored (old.log nodes)) held log_is why))

pub returns-clause-prepared : goal.returns-clause-prepared
returns-clause-prepared g c told =
    let s = g.F.Family.shape in
    let spelling = g.D.Spelled.spelling in
    let old = g.V.Volume.state c.args.vol.now in
    let now = g.V.Volume.state c.kept_nodes.new.vol in
    let nodes = string_bytes c.args.cfg.nodes in
    let m = old.map (string_bytes c.args.cfg.metadata) in
    let stored = c.in_ok-stored.stored in
    let view = seen_of c.in_ok-nodes.nodes in
    let kept = c.in_ok-nodes.ensures {u = tt} in
    let read = c.in_ok-read.ensures {u = tt} in
    let did = c.in_ok-found.ensures {u = tt} in
    let b = c.unwrap_or-boundary.result in
    let high = c.cap_under.result in
    let complete = c.in_ok-found.found.selection.complete in
    let pruned = c.in_ok-found.found.selection.pruned in
    let held = kept.held told in
    let log_is = ap now.log (ap (λ (v : View _). v.name) kept.made) ∙ kept.log told ∙ ap (log_kept stored) ((read.answers.contents told).logs nodes) in
    let within = held_within view now held in
    let source = source_of spelling g.D.Read.admits c.in_ok-read.read view now in
    let peaks = held_source (λ src. ArePeaksRecovered (Unit {0}) src s complete pruned) spelling g.D.Read.admits c.in_ok-read.read view now (log_kept stored (old.log nodes)) held log_is
    (peaks_known (g.V.Volume.tells × IsWithin view now) (told, within) source s complete pruned did.peaks) in
    let items : Log → Items g.row.D.Denot = λ l. record { log = l; spelling = spelling; admits = g.D.Read.admits tt } in
    let orphan = subst (λ (l : Log). IsOrphanRead (items l) s high view.end complete) log_is (did.orphan told) in
    prepared g.row.F.Denot spelling (g.D.Read.admits tt) s m c.in_ok-read.read (old.log nodes) (cap_of c.args.max_leaves) high b stored (read.map told ∙ ap old.map c.as_str.ensures.value) (c.in_ok-stored.ensures {u = tt}).stored c.unwrap_or-boundary.ensures c.cap_under.ensures.cap
    view.start view.end complete pruned c.in_ok-found.found.mem.leaves (held.start_is ∙ ap (λ (l : Log). l.start) log_is) (held.end_is ∙ ap end_of log_is) did.selects peaks orphan did.leaves

pub returns-clause-list : goal.returns-clause-list
returns-clause-list g c told all durable top stands =
    let s = g.F.Family.shape in
    let h = g.H.Hasher.hash in
    let spelling = g.D.Spelled.spelling in
    let old = g.V.Volume.state c.args.vol.now in
    let now = g.V.Volume.state c.kept_nodes.new.vol in
    let nodes = string_bytes c.args.cfg.nodes in
    let m = old.map (string_bytes c.args.cfg.metadata) in
    let stored = c.in_ok-stored.stored in
    let view = seen_of c.in_ok-nodes.nodes in
    let kept = c.in_ok-nodes.ensures {u = tt} in
    let read = c.in_ok-read.ensures {u = tt} in
    let same = read.map told ∙ ap old.map c.as_str.ensures.value in
    let stays = kept_standing {F = g.row.F.Denot} s h spelling all durable top (old.log nodes) m stored stands (ap stored_in (sym same) ∙ (c.in_ok-stored.ensures {u = tt}).stored) in
    let log_is = ap now.log (ap (λ (v : View _). v.name) kept.made) ∙ kept.log told ∙ ap (log_kept stored) ((read.answers.contents told).logs nodes) ∙ stays in
    let here = subst (λ (l : Log). TreeStands s h spelling all durable top l c.in_ok-read.read) (sym log_is) (subst (λ (r : Map). TreeStands s h spelling all durable top (old.log nodes) r) (sym same) stands) in
    (c.in_ok-found.ensures {u = tt}).list told (held_within view now (kept.held told)) all durable top here

pub returns-clause-log : goal.returns-clause-log
returns-clause-log g c told =
    let call = (c.in_ok-nodes.ensures {u = tt}).call.log told in
    log_call_then_stays _ (BecomesOneOf (cleared_at 0)) _ _ _
    (log_call_after_read g.V.Volume.tells Failed _ (BecomesOneOf (cleared_at 0)) (becomes_same (cleared_at 0)) _ _ _ (c.in_ok-read.ensures {u = tt}).answers _ told call)
    (log_call_read g.V.Volume.tells tree.Volume _ Stays (λ log. refl) _ _ _ (c.in_ok-found.ensures {u = tt}).reads told)

pub returns-clause-still : goal.returns-clause-still
returns-clause-still g c told keep =
    let old = g.V.Volume.state c.args.vol.now in
    let nodes = string_bytes c.args.cfg.nodes in
    let read = c.in_ok-read.ensures {u = tt} in
    let stored = c.in_ok-stored.stored in
    let same = read.map told ∙ ap old.map c.as_str.ensures.value in
    let log = (read.answers.contents told).logs nodes in
    let stays = ap (log_kept stored) log ∙ keep stored (ap stored_in (sym same) ∙ (c.in_ok-stored.ensures {u = tt}).stored) ∙ sym log in
    (c.in_ok-found.ensures {u = tt}).reads.clock ∙ (c.in_ok-nodes.ensures {u = tt}).still told stays ∙ read.answers.clock

pub returns-clause-changes : goal.returns-clause-changes
returns-clause-changes g c =
    let one = went_of_reads g.V.Volume.tells Failed _ _ _ (c.in_ok-read.ensures {u = tt}).answers in
    let two = went_of_writes g.V.Volume.tells tree.Volume _ _ _ (c.in_ok-nodes.ensures {u = tt}).call.writes in
    changes_joins g.V.Volume.tells tree.Volume tree.Volume _ _ _ _ _ (went_joins g.V.Volume.tells _ _ _ one two) (changes_of_reads g.V.Volume.tells tree.Volume _ _ _ (c.in_ok-found.ensures {u = tt}).reads) (λ is. absurd (let bad = is in cc)) (c.in_ok-found.ensures {u = tt}).reads.kept

pub returns-clause-recalls : goal.returns-clause-recalls
returns-clause-recalls g c told =
    let s = g.F.Family.shape in
    let spelling = g.D.Spelled.spelling in
    let old = g.V.Volume.state c.args.vol.now in
    let now = g.V.Volume.state c.kept_nodes.new.vol in
    let nodes = string_bytes c.args.cfg.nodes in
    let m = old.map (string_bytes c.args.cfg.metadata) in
    let stored = c.in_ok-stored.stored in
    let view = seen_of c.in_ok-nodes.nodes in
    let kept = c.in_ok-nodes.ensures {u = tt} in
    let read = c.in_ok-read.ensures {u = tt} in
    let did = c.in_ok-found.ensures {u = tt} in
    let complete = c.in_ok-found.found.selection.complete in
    let mem = c.in_ok-found.found.mem in
    let log = log_kept stored (old.log nodes) in
    let held = kept.held told in
    let log_is = ap now.log (ap (λ (v : View _). v.name) kept.made) ∙ kept.log told ∙ ap (log_kept stored) ((read.answers.contents told).logs nodes) in
    let within = held_within view now held in
    let source = source_of spelling g.D.Read.admits c.in_ok-read.read view now in
    let same = read.map told ∙ ap old.map c.as_str.ensures.value in
    let recalled = held_source (λ src. IsRecalled (Unit {0}) src (size s complete) mem) spelling g.D.Read.admits c.in_ok-read.read view now log held log_is
    (recalled_known (g.V.Volume.tells × IsWithin view now) (told, within) source (size s complete) mem did.recalls) in
    record {
      stored = stored;
      stored_is = ap stored_in (sym same) ∙ (c.in_ok-stored.ensures {u = tt}).stored;
      recalled = subst (λ (r : Map). IsRecalled (Unit {0}) (contents_of spelling (g.D.Read.admits tt) r log) (size s complete) mem) same recalled;
      orphan = let items : Log → Items g.row.D.Denot = λ l. record { log = l; spelling = spelling; admits = g.D.Read.admits tt } in
          subst (λ (l : Log). HasLogged (items l) (size s complete) mem) log_is (did.logged told);
    }

pub returns-clause-kept : goal.returns-clause-kept
returns-clause-kept g c told other is =
    let old = g.V.Volume.state c.args.vol.now in
    let now = g.V.Volume.state c.kept_nodes.new.vol in
    let nodes = string_bytes c.args.cfg.nodes in
    let stored = c.in_ok-stored.stored in
    let kept = c.in_ok-nodes.ensures {u = tt} in
    let read = c.in_ok-read.ensures {u = tt} in
    let same = read.map told ∙ ap old.map c.as_str.ensures.value in
    let one : stored ≡ other = same_ok {F = g.row.F.Denot} stored other (sym (c.in_ok-stored.ensures {u = tt}).stored ∙ ap stored_in same ∙ is) in
    ((c.in_ok-found.ensures {u = tt}).reads.contents told).logs nodes ∙ kept.log told ∙ ap (log_kept stored) ((read.answers.contents told).logs nodes) ∙ ap (λ (o : Option ℕ). log_kept o (old.log nodes)) one

pub returns-in_err-read-clause-errors : goal.returns-in_err-read-clause-errors
returns-in_err-read-clause-errors g c = err_lifted c.from_residual.result (as_journal_error c.in_err-read.field-0.0) c.from_residual.ensures.1

pub returns-in_err-nodes-clause-errors : goal.returns-in_err-nodes-clause-errors
returns-in_err-nodes-clause-errors g c = let e = c.in_err-nodes.field-0.0 in err_same c.from_residual-in_err-nodes.result e IsLifted c.from_residual-in_err-nodes.ensures.1 (outside_lifted e c.in_err-nodes.ensures.outside)
