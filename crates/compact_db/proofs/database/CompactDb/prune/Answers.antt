use Rattle.std.proofs.Common.{◌≡◌, ◌<◌, length, map, max, true, false, Ok, Err, refl, sym, ◌∙◌, ap, subst, arith}
use Rattle.std.specs.Prelude.{IfErr}
use Rattle.std.proofs.lemmas.List.{length-map}
use Rattle.journal_base.specs.Blobs.{blob_start}
use Rattle.journal_base.specs.View.{View, log_of, SameButBounds, IsDurable, IsHeld}
use Rattle.volume_base.specs.Log.{Log, pruned_to}
use Rattle.volume_base.specs.Moments.{LogHas}
use Rattle.volume_base.specs.Names.{log_alone, NamesCall}
use Rattle.volume_base.specs.declared.error.JournalError.TheVariants as journal_error
use Rattle.volume_base.proofs.CallLemmas.{names_call_none}
use Rattle.chain_core.specs.Answers.{IsOutside}
use Rattle.chain_core.specs.declared.error.DataFault.TheVariants.{ImportNotApplied}
use Rattle.witness_store.specs.StoreView.{StoreView, HasWitnesses}
use Rattle.witness_store.specs.Witnesses.{witnesses_of, kept_from}
use Rattle.witness_store.proofs.StoreLemmas.{blob_low}
use Rattle.compact_db.specs.DbView.{DbView, seen_log, waits}
use Rattle.compact_db.specs.Held.{IsHeldFor}
use Rattle.compact_db.specs.Serving.{IsLogFault}
use Rattle.compact_db.specs.WitnessOf.{witness_of}
use Rattle.compact_db.specs.Writing.{IsSettledLog}
use Rattle.compact_db.specs.declared.database.WitnessLog.{WitnessLog}
use Rattle.compact_db.specs.declared.database.WitnessLog.TheVariants.{Open}
use Rattle.compact_db.proofs.HeldLemmas.{behind_held, states_of}
use Rattle.compact_db.proofs.OpenLemmas.{read_outside}
use Rattle.compact_db.proofs.SettleLemmas.{err_each, kept_err, fault_not, passed_err, changes_passed, steps_passed, changes_none}
use Rattle.compact_db.proofs.database.CompactDb.prune.Goals as goal

pub returns-in_err-store-in-Open-clause-kept : goal.returns-in_err-store-in-Open-clause-kept
returns-in_err-store-in-Open-clause-kept g c failed =
    let at : c.args.self.log ≡ Open c.in-Open.store = sym (ap (λ (d : DbView g.row.F.Denot g.row.H-Digest.Denot g.row.O.Denot g.row.O-Cfg.Denot). d.log) c.self.view_is) ∙ c.in-Open.is in
    let f : c.in-Open.store.log.failed ≡ true = sym (ap (λ (l : WitnessLog g.row.F.Denot g.row.H-Digest.Denot). (seen_log l).failed) at) ∙ failed in
    let kept = c.in_err-store-in-Open.ensures.kept f in
    let error : c.in_err-store-in-Open.field-0.0 ≡ journal_error.Volume = cc in
    (kept_err c.in_err-store-in-Open.field-0.0 c.from_residual.result c.from_residual.ensures.1 error, kept.1)

pub returns-in_err-store-in-Open-clause-waiting : goal.returns-in_err-store-in-Open-clause-waiting
returns-in_err-store-in-Open-clause-waiting g c waiting =
    let at : c.args.self.log ≡ Open c.in-Open.store = sym (ap (λ (d : DbView g.row.F.Denot g.row.H-Digest.Denot g.row.O.Denot g.row.O-Cfg.Denot). d.log) c.self.view_is) ∙ c.in-Open.is in
    let shut : false ≡ true = sym (ap (λ (l : WitnessLog g.row.F.Denot g.row.H-Digest.Denot). waits l) at) ∙ waiting in
    absurd cc

pub returns-in_err-store-in-Open-clause-waiting_only : goal.returns-in_err-store-in-Open-clause-waiting_only
returns-in_err-store-in-Open-clause-waiting_only g c is =
    absurd (fault_not c.from_residual.result c.in_err-store-in-Open.field-0.0 ImportNotApplied c.from_residual.ensures.1 is)

pub returns-in_err-store-in-Open-clause-names : goal.returns-in_err-store-in-Open-clause-names
returns-in_err-store-in-Open-clause-names g c told =
    let at : c.args.self.log ≡ Open c.in-Open.store = sym (ap (λ (d : DbView g.row.F.Denot g.row.H-Digest.Denot g.row.O.Denot g.row.O-Cfg.Denot). d.log) c.self.view_is) ∙ c.in-Open.is in
    subst (λ (l : WitnessLog g.row.F.Denot g.row.H-Digest.Denot). NamesCall (log_alone (seen_log l).name) (g.V.Volume.state c.args.vol.now) (g.V.Volume.state c.prune.new.vol)) (sym at) (c.in_err-store-in-Open.ensures.names told)

pub returns-in_err-store-in-Open-clause-images : goal.returns-in_err-store-in-Open-clause-images
returns-in_err-store-in-Open-clause-images g c told settled ops sizes greatest least was has =
    let at : c.args.self.log ≡ Open c.in-Open.store = sym (ap (λ (d : DbView g.row.F.Denot g.row.H-Digest.Denot g.row.O.Denot g.row.O-Cfg.Denot). d.log) c.self.view_is) ∙ c.in-Open.is in
    let w2 = subst (λ (d : DbView g.row.F.Denot g.row.H-Digest.Denot g.row.O.Denot g.row.O-Cfg.Denot). IsHeldFor g.F.Family.shape g.H.Hasher.hash g.O.Logged.meaning g.H.Digest.Spelled.spelling (g.H.Digest.Read.admits tt) ops sizes d (g.V.Volume.state c.args.vol.now)) (sym c.self.view_is) was in
    let w = subst (λ (l : WitnessLog g.row.F.Denot g.row.H-Digest.Denot). IsHeldFor {Cfg = g.row.O-Cfg.Denot} g.F.Family.shape g.H.Hasher.hash g.O.Logged.meaning g.H.Digest.Spelled.spelling (g.H.Digest.Read.admits tt) ops sizes (record { log = l; tip = c.self.inside.tip; tree = c.self.inside.merkle; commit = c.self.inside.last_commit; codec = c.self.inside.codec }) (g.V.Volume.state c.args.vol.now)) c.in-Open.is w2 in
    let sets = subst (λ (l : WitnessLog g.row.F.Denot g.row.H-Digest.Denot). IsSettledLog l (g.V.Volume.state c.args.vol.now)) at settled in
    let had = subst (λ (l : WitnessLog g.row.F.Denot g.row.H-Digest.Denot). LogHas (g.V.Volume.state c.args.vol.now) (seen_log l).name (HasWitnesses g.H.Digest.Spelled.spelling (map (witness_of {F = g.row.F.Denot} g.F.Family.shape g.H.Hasher.hash g.O.Logged.meaning ops) sizes) greatest least)) at has in
    rw at (steps_passed _ _ _ (g.V.Volume.state c.args.vol.now) (g.V.Volume.state c.prune.new.vol) (Err c.in_err-store-in-Open.field-0.0) c.from_residual.result (passed_err StoreView _ c.from_residual.result c.from_residual.ensures.1) (c.in_err-store-in-Open.ensures.images told w.bounds sets (map (witness_of {F = g.row.F.Denot} g.F.Family.shape g.H.Hasher.hash g.O.Logged.meaning ops) sizes) greatest least w.witnesses had))

pub returns-in_err-store-in-Open-clause-outside : goal.returns-in_err-store-in-Open-clause-outside
returns-in_err-store-in-Open-clause-outside g c open_is told ops sizes was =
    let w2 = subst (λ (d : DbView g.row.F.Denot g.row.H-Digest.Denot g.row.O.Denot g.row.O-Cfg.Denot). IsHeldFor g.F.Family.shape g.H.Hasher.hash g.O.Logged.meaning g.H.Digest.Spelled.spelling (g.H.Digest.Read.admits tt) ops sizes d (g.V.Volume.state c.args.vol.now)) (sym c.self.view_is) was in
    let w = subst (λ (l : WitnessLog g.row.F.Denot g.row.H-Digest.Denot). IsHeldFor {Cfg = g.row.O-Cfg.Denot} g.F.Family.shape g.H.Hasher.hash g.O.Logged.meaning g.H.Digest.Spelled.spelling (g.H.Digest.Read.admits tt) ops sizes (record { log = l; tip = c.self.inside.tip; tree = c.self.inside.merkle; commit = c.self.inside.last_commit; codec = c.self.inside.codec }) (g.V.Volume.state c.args.vol.now)) c.in-Open.is w2 in
    err_each c.from_residual.result c.in_err-store-in-Open.field-0.0 (λ e. IsOutside e) c.from_residual.ensures.1 (read_outside (witnesses_of {F = g.row.F.Denot} g.H.Digest.Spelled.spelling (g.H.Digest.Read.admits tt) c.in-Open.store.log (g.V.Volume.state c.args.vol.now)) (map (witness_of {F = g.row.F.Denot} g.F.Family.shape g.H.Hasher.hash g.O.Logged.meaning ops) sizes) w.witnesses c.in_err-store-in-Open.field-0.0 c.in_err-store-in-Open.ensures.errors (λ p is. c.in_err-store-in-Open.ensures.not_pruned told w.bounds p (ap Err is)) (λ p is. c.in_err-store-in-Open.ensures.not_out_of_range told w.bounds p (ap Err is)) (λ p is. c.in_err-store-in-Open.ensures.corrupt p (ap Err is) told))

pub returns-in_err-store-in-Open-clause-changes : goal.returns-in_err-store-in-Open-clause-changes
returns-in_err-store-in-Open-clause-changes g c failed =
    let at : c.args.self.log ≡ Open c.in-Open.store = sym (ap (λ (d : DbView g.row.F.Denot g.row.H-Digest.Denot g.row.O.Denot g.row.O-Cfg.Denot). d.log) c.self.view_is) ∙ c.in-Open.is in
    let f : c.in-Open.store.log.failed ≡ false = sym (ap (λ (l : WitnessLog g.row.F.Denot g.row.H-Digest.Denot). (seen_log l).failed) at) ∙ failed in
    changes_passed g.V.Volume.tells (g.V.Volume.state c.args.vol.now) (g.V.Volume.state c.prune.new.vol) (Err c.in_err-store-in-Open.field-0.0) c.from_residual.result (passed_err StoreView _ c.from_residual.result c.from_residual.ensures.1) (c.in_err-store-in-Open.ensures.changes f)

pub returns-in-Open-clause-kept : goal.returns-in-Open-clause-kept
returns-in-Open-clause-kept g c failed =
    let at : c.args.self.log ≡ Open c.in-Open.store = sym (ap (λ (d : DbView g.row.F.Denot g.row.H-Digest.Denot g.row.O.Denot g.row.O-Cfg.Denot). d.log) c.self.view_is) ∙ c.in-Open.is in
    let f : c.in-Open.store.log.failed ≡ true = sym (ap (λ (l : WitnessLog g.row.F.Denot g.row.H-Digest.Denot). (seen_log l).failed) at) ∙ failed in
    let kept = (c.in_ok-store-in-Open.ensures.kept f).0 in
    absurd cc

pub returns-in-Open-clause-waiting : goal.returns-in-Open-clause-waiting
returns-in-Open-clause-waiting g c waiting =
    let at : c.args.self.log ≡ Open c.in-Open.store = sym (ap (λ (d : DbView g.row.F.Denot g.row.H-Digest.Denot g.row.O.Denot g.row.O-Cfg.Denot). d.log) c.self.view_is) ∙ c.in-Open.is in
    let shut : false ≡ true = sym (ap (λ (l : WitnessLog g.row.F.Denot g.row.H-Digest.Denot). waits l) at) ∙ waiting in
    absurd cc

pub returns-in-Open-clause-waiting_only : goal.returns-in-Open-clause-waiting_only
returns-in-Open-clause-waiting_only g c is =
    absurd cc

pub returns-in-Open-clause-log : goal.returns-in-Open-clause-log
returns-in-Open-clause-log g c =
    let at : c.args.self.log ≡ Open c.in-Open.store = sym (ap (λ (d : DbView g.row.F.Denot g.row.H-Digest.Denot g.row.O.Denot g.row.O-Cfg.Denot). d.log) c.self.view_is) ∙ c.in-Open.is in
    subst (λ (l : WitnessLog g.row.F.Denot g.row.H-Digest.Denot). SameButBounds (seen_log l) c.in_ok-store-in-Open.store.log) (sym at) c.in_ok-store-in-Open.ensures.made.0

pub returns-in-Open-clause-held : goal.returns-in-Open-clause-held
returns-in-Open-clause-held g c told ops sizes was =
    let w2 = subst (λ (d : DbView g.row.F.Denot g.row.H-Digest.Denot g.row.O.Denot g.row.O-Cfg.Denot). IsHeldFor g.F.Family.shape g.H.Hasher.hash g.O.Logged.meaning g.H.Digest.Spelled.spelling (g.H.Digest.Read.admits tt) ops sizes d (g.V.Volume.state c.args.vol.now)) (sym c.self.view_is) was in
    let w = subst (λ (l : WitnessLog g.row.F.Denot g.row.H-Digest.Denot). IsHeldFor {Cfg = g.row.O-Cfg.Denot} g.F.Family.shape g.H.Hasher.hash g.O.Logged.meaning g.H.Digest.Spelled.spelling (g.H.Digest.Read.admits tt) ops sizes (record { log = l; tip = c.self.inside.tip; tree = c.self.inside.merkle; commit = c.self.inside.last_commit; codec = c.self.inside.codec }) (g.V.Volume.state c.args.vol.now)) c.in-Open.is w2 in
    let s = g.F.Family.shape in
    let h = g.H.Hasher.hash in
    let m = g.O.Logged.meaning in
    let sp = g.H.Digest.Spelled.spelling in
    let ad = g.H.Digest.Read.admits tt in
    let first = c.in-Open.store.log in
    let db : DbView g.row.F.Denot g.row.H-Digest.Denot g.row.O.Denot g.row.O-Cfg.Denot = record { log = Open c.in-Open.store; tip = c.self.inside.tip; tree = c.self.inside.merkle; commit = c.self.inside.last_commit; codec = c.self.inside.codec } in
    let made : DbView g.row.F.Denot g.row.H-Digest.Denot g.row.O.Denot g.row.O-Cfg.Denot = record { log = Open c.in_ok-store-in-Open.store; tip = c.self.inside.tip; tree = c.self.inside.merkle; commit = c.self.inside.last_commit; codec = c.self.inside.codec } in
    let cut = c.in_ok-store-in-Open.ensures.pruned told w.bounds (map (witness_of {F = g.row.F.Denot} g.F.Family.shape g.H.Hasher.hash g.O.Logged.meaning ops) sizes) w.witnesses in
    let start : (log_of first (g.V.Volume.state c.prune.new.vol)).start ≡ max (log_of first (g.V.Volume.state c.args.vol.now)).start (blob_start first.blob (kept_from (map (witness_of {F = g.row.F.Denot} g.F.Family.shape g.H.Hasher.hash g.O.Logged.meaning ops) sizes) first.start c.args.boundary)) = ap (λ (x : Log). x.start) cut in
    let from = kept_from (map (witness_of {F = g.row.F.Denot} g.F.Family.shape g.H.Hasher.hash g.O.Logged.meaning ops) sizes) first.start c.args.boundary in
    let less : (log_of first (g.V.Volume.state c.prune.new.vol)).start < length sizes =
    omega (arith, start, w.some, blob_low first.blob from, length-map sizes (witness_of {F = g.row.F.Denot} g.F.Family.shape g.H.Hasher.hash g.O.Logged.meaning ops)) in
    behind_held s h m g.met.F.Family.lawful sp ad made (g.V.Volume.state c.prune.new.vol) first (ap (λ (v : View (Unit {0})). v.name) c.in_ok-store-in-Open.ensures.made.0) refl (c.in_ok-store-in-Open.ensures.held told)
    (witnesses_of sp ad first (g.V.Volume.state c.args.vol.now)) ops sizes (omega (arith, start)) less w.list w.last (states_of s h m sp ad db (g.V.Volume.state c.args.vol.now) ops sizes w)
    (c.in_ok-store-in-Open.ensures.keeps told w.bounds (map (witness_of {F = g.row.F.Denot} g.F.Family.shape g.H.Hasher.hash g.O.Logged.meaning ops) sizes) w.witnesses)

pub returns-in-Open-clause-pruned : goal.returns-in-Open-clause-pruned
returns-in-Open-clause-pruned g c told ops sizes was =
    let at : c.args.self.log ≡ Open c.in-Open.store = sym (ap (λ (d : DbView g.row.F.Denot g.row.H-Digest.Denot g.row.O.Denot g.row.O-Cfg.Denot). d.log) c.self.view_is) ∙ c.in-Open.is in
    let w2 = subst (λ (d : DbView g.row.F.Denot g.row.H-Digest.Denot g.row.O.Denot g.row.O-Cfg.Denot). IsHeldFor g.F.Family.shape g.H.Hasher.hash g.O.Logged.meaning g.H.Digest.Spelled.spelling (g.H.Digest.Read.admits tt) ops sizes d (g.V.Volume.state c.args.vol.now)) (sym c.self.view_is) was in
    let w = subst (λ (l : WitnessLog g.row.F.Denot g.row.H-Digest.Denot). IsHeldFor {Cfg = g.row.O-Cfg.Denot} g.F.Family.shape g.H.Hasher.hash g.O.Logged.meaning g.H.Digest.Spelled.spelling (g.H.Digest.Read.admits tt) ops sizes (record { log = l; tip = c.self.inside.tip; tree = c.self.inside.merkle; commit = c.self.inside.last_commit; codec = c.self.inside.codec }) (g.V.Volume.state c.args.vol.now)) c.in-Open.is w2 in
    subst (λ (l : WitnessLog g.row.F.Denot g.row.H-Digest.Denot). log_of (seen_log l) (g.V.Volume.state c.prune.new.vol) ≡ pruned_to (log_of (seen_log l) (g.V.Volume.state c.args.vol.now)) (blob_start (seen_log l).blob (kept_from (map (witness_of {F = g.row.F.Denot} g.F.Family.shape g.H.Hasher.hash g.O.Logged.meaning ops) sizes) (seen_log l).start c.args.boundary))) (sym at) (c.in_ok-store-in-Open.ensures.pruned told w.bounds (map (witness_of {F = g.row.F.Denot} g.F.Family.shape g.H.Hasher.hash g.O.Logged.meaning ops) sizes) w.witnesses)

pub returns-in-Open-clause-durable : goal.returns-in-Open-clause-durable
returns-in-Open-clause-durable g c told =
    let at : c.args.self.log ≡ Open c.in-Open.store = sym (ap (λ (d : DbView g.row.F.Denot g.row.H-Digest.Denot g.row.O.Denot g.row.O-Cfg.Denot). d.log) c.self.view_is) ∙ c.in-Open.is in
    subst (λ (l : WitnessLog g.row.F.Denot g.row.H-Digest.Denot). IsDurable (seen_log l) (g.V.Volume.state c.prune.new.vol)) (sym at) (c.in_ok-store-in-Open.ensures.durable told)

pub returns-in-Open-clause-names : goal.returns-in-Open-clause-names
returns-in-Open-clause-names g c told =
    let at : c.args.self.log ≡ Open c.in-Open.store = sym (ap (λ (d : DbView g.row.F.Denot g.row.H-Digest.Denot g.row.O.Denot g.row.O-Cfg.Denot). d.log) c.self.view_is) ∙ c.in-Open.is in
    subst (λ (l : WitnessLog g.row.F.Denot g.row.H-Digest.Denot). NamesCall (log_alone (seen_log l).name) (g.V.Volume.state c.args.vol.now) (g.V.Volume.state c.prune.new.vol)) (sym at) (c.in_ok-store-in-Open.ensures.names told)

pub returns-in-Open-clause-images : goal.returns-in-Open-clause-images
returns-in-Open-clause-images g c told settled ops sizes greatest least was has =
    let at : c.args.self.log ≡ Open c.in-Open.store = sym (ap (λ (d : DbView g.row.F.Denot g.row.H-Digest.Denot g.row.O.Denot g.row.O-Cfg.Denot). d.log) c.self.view_is) ∙ c.in-Open.is in
    let w2 = subst (λ (d : DbView g.row.F.Denot g.row.H-Digest.Denot g.row.O.Denot g.row.O-Cfg.Denot). IsHeldFor g.F.Family.shape g.H.Hasher.hash g.O.Logged.meaning g.H.Digest.Spelled.spelling (g.H.Digest.Read.admits tt) ops sizes d (g.V.Volume.state c.args.vol.now)) (sym c.self.view_is) was in
    let w = subst (λ (l : WitnessLog g.row.F.Denot g.row.H-Digest.Denot). IsHeldFor {Cfg = g.row.O-Cfg.Denot} g.F.Family.shape g.H.Hasher.hash g.O.Logged.meaning g.H.Digest.Spelled.spelling (g.H.Digest.Read.admits tt) ops sizes (record { log = l; tip = c.self.inside.tip; tree = c.self.inside.merkle; commit = c.self.inside.last_commit; codec = c.self.inside.codec }) (g.V.Volume.state c.args.vol.now)) c.in-Open.is w2 in
    let sets = subst (λ (l : WitnessLog g.row.F.Denot g.row.H-Digest.Denot). IsSettledLog l (g.V.Volume.state c.args.vol.now)) at settled in
    let had = subst (λ (l : WitnessLog g.row.F.Denot g.row.H-Digest.Denot). LogHas (g.V.Volume.state c.args.vol.now) (seen_log l).name (HasWitnesses g.H.Digest.Spelled.spelling (map (witness_of {F = g.row.F.Denot} g.F.Family.shape g.H.Hasher.hash g.O.Logged.meaning ops) sizes) greatest least)) at has in
    rw at (steps_passed _ _ _ (g.V.Volume.state c.args.vol.now) (g.V.Volume.state c.prune.new.vol) (Ok c.in_ok-store-in-Open.store) (Ok _) tt (c.in_ok-store-in-Open.ensures.images told w.bounds sets (map (witness_of {F = g.row.F.Denot} g.F.Family.shape g.H.Hasher.hash g.O.Logged.meaning ops) sizes) greatest least w.witnesses had))

pub returns-in-Open-clause-changes : goal.returns-in-Open-clause-changes
returns-in-Open-clause-changes g c failed =
    let at : c.args.self.log ≡ Open c.in-Open.store = sym (ap (λ (d : DbView g.row.F.Denot g.row.H-Digest.Denot g.row.O.Denot g.row.O-Cfg.Denot). d.log) c.self.view_is) ∙ c.in-Open.is in
    let f : c.in-Open.store.log.failed ≡ false = sym (ap (λ (l : WitnessLog g.row.F.Denot g.row.H-Digest.Denot). (seen_log l).failed) at) ∙ failed in
    changes_passed g.V.Volume.tells (g.V.Volume.state c.args.vol.now) (g.V.Volume.state c.prune.new.vol) (Ok c.in_ok-store-in-Open.store) (Ok _) tt (c.in_ok-store-in-Open.ensures.changes f)

pub returns-clause-kept : goal.returns-clause-kept
returns-clause-kept g c failed =
    let at = sym (ap (λ (d : DbView g.row.F.Denot g.row.H-Digest.Denot g.row.O.Denot g.row.O-Cfg.Denot). d.log) c.self.view_is) ∙ c.in-Import.is in
    let shut : false ≡ true = sym (ap (λ (l : WitnessLog g.row.F.Denot g.row.H-Digest.Denot). (seen_log l).failed) at) ∙ failed in
    absurd cc

pub returns-clause-waiting : goal.returns-clause-waiting
returns-clause-waiting g c waiting =
    (refl, refl)

pub returns-clause-waiting_only : goal.returns-clause-waiting_only
returns-clause-waiting_only g c is =
    let at = sym (ap (λ (d : DbView g.row.F.Denot g.row.H-Digest.Denot g.row.O.Denot g.row.O-Cfg.Denot). d.log) c.self.view_is) ∙ c.in-Import.is in
    ap (λ (l : WitnessLog g.row.F.Denot g.row.H-Digest.Denot). waits l) at

pub returns-clause-names : goal.returns-clause-names
returns-clause-names g c told =
    names_call_none _ (g.V.Volume.state c.args.vol.now)

pub returns-clause-images : goal.returns-clause-images
returns-clause-images g c told settled ops sizes greatest least was has =
    let at = sym (ap (λ (d : DbView g.row.F.Denot g.row.H-Digest.Denot g.row.O.Denot g.row.O-Cfg.Denot). d.log) c.self.view_is) ∙ c.in-Import.is in
    let opened = was.opened in
    let shut : true ≡ false = sym (ap (λ (l : WitnessLog g.row.F.Denot g.row.H-Digest.Denot). waits l) at) ∙ opened in
    absurd cc

pub returns-clause-outside : goal.returns-clause-outside
returns-clause-outside g c open_is told ops sizes was =
    let at = sym (ap (λ (d : DbView g.row.F.Denot g.row.H-Digest.Denot g.row.O.Denot g.row.O-Cfg.Denot). d.log) c.self.view_is) ∙ c.in-Import.is in
    let shut : true ≡ false = sym (ap (λ (l : WitnessLog g.row.F.Denot g.row.H-Digest.Denot). waits l) at) ∙ open_is in
    absurd cc

pub returns-clause-changes : goal.returns-clause-changes
returns-clause-changes g c failed =
    changes_none g.V.Volume.tells (g.V.Volume.state c.args.vol.now) _ (λ is. cc)

pub returns-in_err-store-in-Open-clause-fault : goal.returns-in_err-store-in-Open-clause-fault
returns-in_err-store-in-Open-clause-fault g c open_is =
    let at : c.args.self.log ≡ Open c.in-Open.store = sym (ap (λ (d : DbView g.row.F.Denot g.row.H-Digest.Denot g.row.O.Denot g.row.O-Cfg.Denot). d.log) c.self.view_is) ∙ c.in-Open.is in
    let e = c.in_err-store-in-Open.field-0.0 in
    subst (λ (l : WitnessLog g.row.F.Denot g.row.H-Digest.Denot). IfErr c.from_residual.result (IsLogFault g.V.Volume.tells (IsHeld (seen_log l) (g.V.Volume.state c.args.vol.now)) (witnesses_of {F = g.row.F.Denot} g.H.Digest.Spelled.spelling (g.H.Digest.Read.admits tt) (seen_log l) (g.V.Volume.state c.args.vol.now)))) (sym at)
    (err_each c.from_residual.result e (λ x. let l : WitnessLog g.row.F.Denot g.row.H-Digest.Denot = Open c.in-Open.store in IsLogFault g.V.Volume.tells (IsHeld (seen_log l) (g.V.Volume.state c.args.vol.now)) (witnesses_of {F = g.row.F.Denot} g.H.Digest.Spelled.spelling (g.H.Digest.Read.admits tt) (seen_log l) (g.V.Volume.state c.args.vol.now)) x) c.from_residual.ensures.1
    (record {
      cause = e;
      is = refl;
      of_read = c.in_err-store-in-Open.ensures.errors;
      corrupt = λ p is told. c.in_err-store-in-Open.ensures.corrupt p (ap Err is) told;
      not_pruned = λ told held p is. c.in_err-store-in-Open.ensures.not_pruned told held p (ap Err is);
      not_out_of_range = λ told held p is. c.in_err-store-in-Open.ensures.not_out_of_range told held p (ap Err is);
    }))

pub returns-clause-fault : goal.returns-clause-fault
returns-clause-fault g c open_is =
    let at = sym (ap (λ (d : DbView g.row.F.Denot g.row.H-Digest.Denot g.row.O.Denot g.row.O-Cfg.Denot). d.log) c.self.view_is) ∙ c.in-Import.is in
    let shut : true ≡ false = sym (ap (λ (l : WitnessLog g.row.F.Denot g.row.H-Digest.Denot). waits l) at) ∙ open_is in
    absurd cc
