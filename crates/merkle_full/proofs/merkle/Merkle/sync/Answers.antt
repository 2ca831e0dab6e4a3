use Rattle.std.proofs.Common.{◌≡◌, inl, ℕ, List, ◌++◌, Ok, Err, refl, sym, ◌∙◌, ap, subst}
use Rattle.volume_base.specs.Log.{Log, end_of}
use Rattle.volume_base.specs.Moments.{present}
use Rattle.volume_base.proofs.JoinLemmas.{writes_joins}
use Rattle.tree_core.specs.Tree.{IsRested}
use Rattle.tree_store.specs.declared.error.Error.TheVariants as tree
use Rattle.merkle_full.specs.Flushing.{IsFilled, IsOfFlush}
use Rattle.merkle_full.specs.Full.{Full, IsSeated}
use Rattle.merkle_full.specs.Lists.{IsFullOf}
use Rattle.merkle_full.proofs.FullLemmas.{full_later}
use Rattle.merkle_full.proofs.GrownLemmas.{err_same}
use Rattle.merkle_full.proofs.RunLemmas.{names_then_log, renamed_durable, same_fault, not_ok}
use Rattle.merkle_full.proofs.StandLemmas.{stands_then_sync, sync_settles}
use Rattle.merkle_full.proofs.merkle.Merkle.sync.Goals as goal

pub returns-clause-full : goal.returns-clause-full
returns-clause-full g c tells h all full =
    let s = g.F.Family.shape in
    let flushed = c.in_ok-flushed.ensures {u = tt} in
    let synced = c.in_ok-synced.ensures {u = tt} in
    let b = present (g.V.Volume.state c.flush.new.vol) in
    let d = present (g.V.Volume.state c.sync_log.new.vol) in
    let later = full_later s h g.D.Spelled.spelling (g.D.Read.admits tt) all c.in_ok-flushed.flushed b d (synced.contents tells) ((synced.log tells).others.maps c.in_ok-flushed.flushed.metadata) (flushed.full tells h all full) in
    subst (λ (t : Full g.row.D.Denot). IsFullOf s h g.D.Spelled.spelling (g.D.Read.admits tt) all t d) (sym synced.same) later

pub returns-clause-durable : goal.returns-clause-durable
returns-clause-durable g c tells =
    let name = ap (λ v. v.name) (c.in_ok-flushed.ensures {u = tt}).same.log in
    renamed_durable c.args.self.log.name _ (g.V.Volume.state c.sync_log.new.vol) name ((c.in_ok-synced.ensures {u = tt}).durable tells)

pub returns-in_err-synced-clause-names : goal.returns-in_err-synced-clause-names
returns-in_err-synced-clause-names g c tells =
    let flushed = c.in_ok-flushed.ensures {u = tt} in
    names_then_log _ c.args.self.log.name _ _ (g.V.Volume.state c.args.vol.now) (g.V.Volume.state c.flush.new.vol) (g.V.Volume.state c.sync_log.new.vol) (inl refl) (ap (λ v. v.name) flushed.same.log) (flushed.names tells) (c.in_err-synced.ensures.log tells)

pub returns-clause-names : goal.returns-clause-names
returns-clause-names g c tells =
    let flushed = c.in_ok-flushed.ensures {u = tt} in
    names_then_log _ c.args.self.log.name _ _ (g.V.Volume.state c.args.vol.now) (g.V.Volume.state c.flush.new.vol) (g.V.Volume.state c.sync_log.new.vol) (inl refl) (ap (λ v. v.name) flushed.same.log) (flushed.names tells) ((c.in_ok-synced.ensures {u = tt}).log tells)

pub returns-in_err-synced-clause-images : goal.returns-in_err-synced-clause-images
returns-in_err-synced-clause-images g c tells h all durable top full each =
    let flushed = c.in_ok-flushed.ensures {u = tt} in
    stands_then_sync g.F.Family.shape h g.D.Spelled.spelling all durable top c.args.self _ (g.V.Volume.state c.args.vol.now) (g.V.Volume.state c.flush.new.vol) (g.V.Volume.state c.sync_log.new.vol) (ap (λ v. v.name) flushed.same.log) (c.in_err-synced.ensures.log tells).images (flushed.images tells h all durable top full each)

pub returns-clause-images : goal.returns-clause-images
returns-clause-images g c tells h all durable top full each =
    let flushed = c.in_ok-flushed.ensures {u = tt} in
    stands_then_sync g.F.Family.shape h g.D.Spelled.spelling all durable top c.args.self _ (g.V.Volume.state c.args.vol.now) (g.V.Volume.state c.flush.new.vol) (g.V.Volume.state c.sync_log.new.vol) (ap (λ v. v.name) flushed.same.log) ((c.in_ok-synced.ensures {u = tt}).log tells).images (flushed.images tells h all durable top full each)

pub returns-clause-writes : goal.returns-clause-writes
returns-clause-writes g c sound =
    let flushed = c.in_ok-flushed.ensures {u = tt} in
    let synced = c.in_ok-synced.ensures {u = tt} in
    let failed = ap (λ v. v.failed) flushed.same.log ∙ sound in
    writes_joins g.V.Volume.tells tree.Volume tree.Volume tree.Volume (g.V.Volume.state c.args.vol.now) (g.V.Volume.state c.flush.new.vol) (g.V.Volume.state c.sync_log.new.vol) c.in_ok-flushed.flushed (Ok c.in_ok-synced.synced) (Ok c.in_ok-synced.synced) flushed.writes (synced.writes failed) (λ is. is) (λ k. k)

pub returns-clause-start : goal.returns-clause-start
returns-clause-start g c tells h all full = ap (λ t. t.log.start) (c.in_ok-synced.ensures {u = tt}).same ∙ (c.in_ok-flushed.ensures {u = tt}).start tells h all full

pub returns-clause-settled : goal.returns-clause-settled
returns-clause-settled g c tells h all durable top full stand =
    let s = g.F.Family.shape in
    let flushed = c.in_ok-flushed.ensures {u = tt} in
    let synced = c.in_ok-synced.ensures {u = tt} in
    let b = present (g.V.Volume.state c.flush.new.vol) in
    let d = present (g.V.Volume.state c.sync_log.new.vol) in
    let later = full_later s h g.D.Spelled.spelling (g.D.Read.admits tt) all c.in_ok-flushed.flushed b d (synced.contents tells) ((synced.log tells).others.maps c.in_ok-flushed.flushed.metadata) (flushed.full tells h all full) in
    sync_settles s h g.D.Spelled.spelling all durable top (g.D.Read.admits tt) c.args.self c.in_ok-flushed.flushed (g.V.Volume.state c.args.vol.now) (g.V.Volume.state c.sync_log.new.vol) flushed.same flushed.rests.boundary
    later (returns-clause-durable g c tells) (returns-clause-images g c tells h all durable top full stand)

pub returns-in_err-synced-clause-ahead : goal.returns-in_err-synced-clause-ahead
returns-in_err-synced-clause-ahead g c tells h all more durable top full each =
    let flushed = c.in_ok-flushed.ensures {u = tt} in
    stands_then_sync g.F.Family.shape h g.D.Spelled.spelling (all ++ more) durable top c.args.self _ (g.V.Volume.state c.args.vol.now) (g.V.Volume.state c.flush.new.vol) (g.V.Volume.state c.sync_log.new.vol) (ap (λ v. v.name) flushed.same.log) (c.in_err-synced.ensures.log tells).images (flushed.ahead tells h all more durable top full each)

pub returns-clause-ahead : goal.returns-clause-ahead
returns-clause-ahead g c tells h all more durable top full each =
    let flushed = c.in_ok-flushed.ensures {u = tt} in
    stands_then_sync g.F.Family.shape h g.D.Spelled.spelling (all ++ more) durable top c.args.self _ (g.V.Volume.state c.args.vol.now) (g.V.Volume.state c.flush.new.vol) (g.V.Volume.state c.sync_log.new.vol) (ap (λ v. v.name) flushed.same.log) ((c.in_ok-synced.ensures {u = tt}).log tells).images (flushed.ahead tells h all more durable top full each)

pub returns-clause-seated : goal.returns-clause-seated
returns-clause-seated g c tells seated =
    let s = g.F.Family.shape in
    let flushed = c.in_ok-flushed.ensures {u = tt} in
    let synced = c.in_ok-synced.ensures {u = tt} in
    let d = present (g.V.Volume.state c.sync_log.new.vol) in
    let here = flushed.seated tells seated in
    let log = synced.contents tells in
    subst (λ (t : Full g.row.D.Denot). IsSeated s t d) (sym synced.same) (record { start_is = here.start_is ∙ ap (λ (l : Log). l.start) (sym log); end_is = here.end_is ∙ ap end_of (sym log); nodes = here.nodes })

pub returns-in_err-synced-clause-writes : goal.returns-in_err-synced-clause-writes
returns-in_err-synced-clause-writes g c sound =
    let flushed = c.in_ok-flushed.ensures {u = tt} in
    let failed = ap (λ v. v.failed) flushed.same.log ∙ sound in
    let e = c.in_err-synced.field-0.0 in
    let result = c.from_residual-in_err-synced.result in
    let is = c.from_residual-in_err-synced.ensures.1 in
    writes_joins g.V.Volume.tells tree.Volume tree.Volume tree.Volume (g.V.Volume.state c.args.vol.now) (g.V.Volume.state c.flush.new.vol) (g.V.Volume.state c.sync_log.new.vol) c.in_ok-flushed.flushed (Err e) result flushed.writes
    (c.in_err-synced.ensures.writes failed) (same_fault result (Err e) e tree.Volume refl is) (λ k. not_ok result (λ d. d ≡ e) _ is)

pub returns-in_err-synced-clause-errors : goal.returns-in_err-synced-clause-errors
returns-in_err-synced-clause-errors g c = err_same _ c.in_err-synced.field-0.0 (IsOfFlush g.F.Family.shape c.args.self) c.from_residual-in_err-synced.ensures.1 (inl c.in_err-synced.ensures.outside)

pub returns-clause-rested : goal.returns-clause-rested
returns-clause-rested g c =
    let r = c.args.self in
    subst (λ (t : Full g.row.D.Denot). IsRested g.F.Family.shape r.boundary r.tree t.tree) (sym (c.in_ok-synced.ensures {u = tt}).same) (c.in_ok-flushed.ensures {u = tt}).rested

pub returns-clause-filled : goal.returns-clause-filled
returns-clause-filled g c tells =
    let r = c.args.self in
    let s0 = g.V.Volume.state c.args.vol.now in
    let s1 = g.V.Volume.state c.flush.new.vol in
    let s2 = g.V.Volume.state c.sync_log.new.vol in
    let flushed = c.in_ok-flushed.ensures {u = tt} in
    let log = subst (λ (n : List ℕ). s2.log n ≡ s1.log n) (ap (λ v. v.name) flushed.same.log) ((c.in_ok-synced.ensures {u = tt}).contents tells) in
    subst (λ (l : Log). IsFilled g.F.Family.shape g.D.Spelled.spelling r.tree r.log.end (s0.log r.log.name) l) (sym log) (flushed.filled tells)
