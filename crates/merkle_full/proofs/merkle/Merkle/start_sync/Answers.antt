use Rattle.std.proofs.Common.{◌≡◌, inl, ℕ, List, Ok, refl, sym, ◌∙◌, ap, subst}
use Rattle.volume_base.specs.Log.{Log, end_of}
use Rattle.volume_base.specs.Moments.{present}
use Rattle.volume_base.proofs.JoinLemmas.{writes_joins}
use Rattle.tree_core.specs.Tree.{IsRested}
use Rattle.tree_store.specs.declared.error.Error.TheVariants as tree
use Rattle.merkle_full.specs.Flushing.{outcome, IsFilled, IsOfFlush}
use Rattle.merkle_full.specs.Full.{Full, IsSeated}
use Rattle.merkle_full.proofs.FullLemmas.{full_later}
use Rattle.merkle_full.proofs.GrownLemmas.{err_same}
use Rattle.merkle_full.proofs.RunLemmas.{names_then_log, renamed_durable}
use Rattle.merkle_full.proofs.StandLemmas.{stands_then_sync, sync_settles}
use Rattle.merkle_full.proofs.StartLemmas.{started_same, started_rests, started_full, started_fails}
use Rattle.merkle_full.proofs.merkle.Merkle.start_sync.Goals as goal

pub returns-clause-same : goal.returns-clause-same
returns-clause-same g c = started_same c.args.self _ _ _ (c.in_ok-flushed.ensures {u = tt}).same (c.in_ok-started.ensures {u = tt}).same

pub returns-clause-rests : goal.returns-clause-rests
returns-clause-rests g c = started_rests g.F.Family.shape _ _ _ (c.in_ok-flushed.ensures {u = tt}).rests (c.in_ok-started.ensures {u = tt}).same

pub returns-clause-full : goal.returns-clause-full
returns-clause-full g c tells h all full =
    let s = g.F.Family.shape in
    let flushed = c.in_ok-flushed.ensures {u = tt} in
    let started = c.in_ok-started.ensures {u = tt} in
    let b = present (g.V.Volume.state c.flush.new.vol) in
    let d = present (g.V.Volume.state c.start_log.new.vol) in
    let later = full_later s h g.D.Spelled.spelling (g.D.Read.admits tt) all c.in_ok-flushed.flushed b d (started.contents tells) ((started.log tells).others.maps c.in_ok-flushed.flushed.metadata) (flushed.full tells h all full) in
    started_full s h g.D.Spelled.spelling (g.D.Read.admits tt) all c.in_ok-flushed.flushed _ _ d started.same later

pub returns-clause-durable : goal.returns-clause-durable
returns-clause-durable g c done tells =
    let name = ap (λ v. v.name) (c.in_ok-flushed.ensures {u = tt}).same.log in
    renamed_durable c.args.self.log.name _ (g.V.Volume.state c.start_log.new.vol) name ((c.in_ok-started.ensures {u = tt}).durable done tells)

pub returns-in_err-started-clause-names : goal.returns-in_err-started-clause-names
returns-in_err-started-clause-names g c tells =
    let flushed = c.in_ok-flushed.ensures {u = tt} in
    names_then_log _ c.args.self.log.name _ _ (g.V.Volume.state c.args.vol.now) (g.V.Volume.state c.flush.new.vol) (g.V.Volume.state c.start_log.new.vol) (inl refl) (ap (λ v. v.name) flushed.same.log) (flushed.names tells) (c.in_err-started.ensures.log tells)

pub returns-clause-names : goal.returns-clause-names
returns-clause-names g c tells =
    let flushed = c.in_ok-flushed.ensures {u = tt} in
    names_then_log _ c.args.self.log.name _ _ (g.V.Volume.state c.args.vol.now) (g.V.Volume.state c.flush.new.vol) (g.V.Volume.state c.start_log.new.vol) (inl refl) (ap (λ v. v.name) flushed.same.log) (flushed.names tells) ((c.in_ok-started.ensures {u = tt}).log tells)

pub returns-in_err-started-clause-images : goal.returns-in_err-started-clause-images
returns-in_err-started-clause-images g c tells h all durable top full each =
    let flushed = c.in_ok-flushed.ensures {u = tt} in
    stands_then_sync g.F.Family.shape h g.D.Spelled.spelling all durable top c.args.self _ (g.V.Volume.state c.args.vol.now) (g.V.Volume.state c.flush.new.vol) (g.V.Volume.state c.start_log.new.vol) (ap (λ v. v.name) flushed.same.log) (c.in_err-started.ensures.log tells).images (flushed.images tells h all durable top full each)

pub returns-clause-images : goal.returns-clause-images
returns-clause-images g c tells h all durable top full each =
    let flushed = c.in_ok-flushed.ensures {u = tt} in
    stands_then_sync g.F.Family.shape h g.D.Spelled.spelling all durable top c.args.self _ (g.V.Volume.state c.args.vol.now) (g.V.Volume.state c.flush.new.vol) (g.V.Volume.state c.start_log.new.vol) (ap (λ v. v.name) flushed.same.log) ((c.in_ok-started.ensures {u = tt}).log tells).images (flushed.images tells h all durable top full each)

pub returns-clause-writes : goal.returns-clause-writes
returns-clause-writes g c sound =
    let flushed = c.in_ok-flushed.ensures {u = tt} in
    let started = c.in_ok-started.ensures {u = tt} in
    let failed = ap (λ v. v.failed) flushed.same.log ∙ sound in
    writes_joins g.V.Volume.tells tree.Volume tree.Volume tree.Volume (g.V.Volume.state c.args.vol.now) (g.V.Volume.state c.flush.new.vol) (g.V.Volume.state c.start_log.new.vol) c.in_ok-flushed.flushed (outcome {F = g.row.F.Denot} (Ok c.in_ok-started.started)) (outcome {F = g.row.F.Denot} (Ok c.in_ok-started.started)) flushed.writes (started.writes failed) (λ is. is) (λ k. k)

pub returns-in_err-started-clause-writes : goal.returns-in_err-started-clause-writes
returns-in_err-started-clause-writes g c sound =
    let flushed = c.in_ok-flushed.ensures {u = tt} in
    started_fails g.V.Volume.tells (g.V.Volume.state c.args.vol.now) (g.V.Volume.state c.flush.new.vol) (g.V.Volume.state c.start_log.new.vol) c.in_ok-flushed.flushed _ c.in_err-started.field-0.0 c.from_residual-in_err-started.ensures.1 flushed.writes
    (c.in_err-started.ensures.writes (ap (λ v. v.failed) flushed.same.log ∙ sound))

pub returns-clause-start : goal.returns-clause-start
returns-clause-start g c tells h all full = ap (λ t. t.log.start) (c.in_ok-started.ensures {u = tt}).same ∙ (c.in_ok-flushed.ensures {u = tt}).start tells h all full

pub returns-clause-settled : goal.returns-clause-settled
returns-clause-settled g c done tells h all durable top full stand =
    let s = g.F.Family.shape in
    let flushed = c.in_ok-flushed.ensures {u = tt} in
    let started = c.in_ok-started.ensures {u = tt} in
    let b = present (g.V.Volume.state c.flush.new.vol) in
    let d = present (g.V.Volume.state c.start_log.new.vol) in
    let later = full_later s h g.D.Spelled.spelling (g.D.Read.admits tt) all c.in_ok-flushed.flushed b d (started.contents tells) ((started.log tells).others.maps c.in_ok-flushed.flushed.metadata) (flushed.full tells h all full) in
    sync_settles s h g.D.Spelled.spelling all durable top (g.D.Read.admits tt) c.args.self c.in_ok-flushed.flushed (g.V.Volume.state c.args.vol.now) (g.V.Volume.state c.start_log.new.vol) flushed.same flushed.rests.boundary
    later (returns-clause-durable g c done tells) (returns-clause-images g c tells h all durable top full stand)

pub returns-in_err-started-clause-errors : goal.returns-in_err-started-clause-errors
returns-in_err-started-clause-errors g c = err_same _ c.in_err-started.field-0.0 (IsOfFlush g.F.Family.shape c.args.self) c.from_residual-in_err-started.ensures.1 (inl c.in_err-started.ensures.outside)

pub returns-clause-rested : goal.returns-clause-rested
returns-clause-rested g c =
    let r = c.args.self in
    subst (λ (t : Full g.row.D.Denot). IsRested g.F.Family.shape r.boundary r.tree t.tree) (sym (c.in_ok-started.ensures {u = tt}).same) (c.in_ok-flushed.ensures {u = tt}).rested

pub returns-clause-filled : goal.returns-clause-filled
returns-clause-filled g c tells =
    let r = c.args.self in
    let s0 = g.V.Volume.state c.args.vol.now in
    let s1 = g.V.Volume.state c.flush.new.vol in
    let s2 = g.V.Volume.state c.start_log.new.vol in
    let flushed = c.in_ok-flushed.ensures {u = tt} in
    let log = subst (λ (n : List ℕ). s2.log n ≡ s1.log n) (ap (λ v. v.name) flushed.same.log) ((c.in_ok-started.ensures {u = tt}).contents tells) in
    subst (λ (l : Log). IsFilled g.F.Family.shape g.D.Spelled.spelling r.tree r.log.end (s0.log r.log.name) l) (sym log) (flushed.filled tells)

pub returns-clause-seated : goal.returns-clause-seated
returns-clause-seated g c tells seated =
    let s = g.F.Family.shape in
    let flushed = c.in_ok-flushed.ensures {u = tt} in
    let started = c.in_ok-started.ensures {u = tt} in
    let d = present (g.V.Volume.state c.start_log.new.vol) in
    let here = flushed.seated tells seated in
    let log = started.contents tells in
    subst (λ (t : Full g.row.D.Denot). IsSeated s t d) (sym started.same) (record { start_is = here.start_is ∙ ap (λ (l : Log). l.start) (sym log); end_is = here.end_is ∙ ap end_of (sym log); nodes = here.nodes })
