use Rattle.std.proofs.Common.{◌<◌, ◌^◌, ◌-◌, ◌≡◌, ℕ, List, length, true, false, Err, refl, sym, ◌∙◌, ap, subst}
use Rattle.std.specs.Prelude.{IsErrOf}
use Rattle.codec_base.specs.Causes.{Rose}
use Rattle.journal_base.specs.View.{View, SameLog, SameButBounds, after_sync, log_of, IsDurable, IsHeld}
use Rattle.journal_base.specs.declared.ticket.SyncTicket.{SyncTicket}
use Rattle.journal_base.specs.Tickets.{is_failed, sync_of as journal_sync_of}
use Rattle.volume_base.specs.Log.{end_of}
use Rattle.volume_base.specs.declared.error.JournalError.TheVariants as journal_error
use Rattle.chain_core.specs.declared.error.Error.TheVariants.{Volume}
use Rattle.witness_store.specs.StoreView.{StoreView}
use Rattle.compact_db.specs.DbView.{DbView, IsOfList, seen_log, waits}
use Rattle.compact_db.specs.Held.{IsHeldFor}
use Rattle.compact_db.specs.Writing.{SyncsLog, outcome, written_log}
use Rattle.compact_db.specs.declared.database.WitnessLog.TheVariants.{Open}
use Rattle.compact_db.proofs.HeldLemmas.{still_held, imported_held, allowed_tip}
use Rattle.compact_db.proofs.SettleLemmas.{bounds_opened, bounds_stay, syncs_at, failed_open, passed_err, kept_err, syncs_not, syncs_then, log_later, durable_as, passed_volume, outcome_err, ticket_passed, ticket_of}
use Rattle.compact_db.proofs.database.CompactDb.start_sync.Goals as goal

pub returns-in_err-store-clause-kept : goal.returns-in_err-store-clause-kept
returns-in_err-store-clause-kept g c =
    subst (λ (d : DbView g.row.F.Denot g.row.H-Digest.Denot g.row.O.Denot g.row.O-Cfg.Denot). (seen_log d.log).failed ≡ true → IsErrOf c.from_residual.result Volume × (c.opened.new.vol ≡ c.args.vol.now)) c.self.view_is
    (λ failed. let shut = (c.in_err-store.ensures.idle (failed_open c.self.inside.log failed)).0 in absurd cc)

pub returns-in_err-store-clause-syncs : goal.returns-in_err-store-clause-syncs
returns-in_err-store-clause-syncs g c =
    subst (λ (d : DbView g.row.F.Denot g.row.H-Digest.Denot g.row.O.Denot g.row.O-Cfg.Denot). (seen_log d.log).failed ≡ false → SyncsLog g.V.Volume.tells g.H.Digest.Spelled.spelling d.log d.tip.witness (g.V.Volume.state c.args.vol.now) (g.V.Volume.state c.opened.new.vol) (outcome c.from_residual.result)) c.self.view_is
    (λ fresh. syncs_not g.V.Volume.tells g.H.Digest.Spelled.spelling c.self.inside.log c.self.inside.tip.witness (g.V.Volume.state c.args.vol.now) (g.V.Volume.state c.opened.new.vol) c.in_err-store.ensures.log
    c.in_err-store.field-0.0 (outcome c.from_residual.result) (outcome_err c.from_residual.result _ c.from_residual.ensures.1) (λ opened. let shut = (c.in_err-store.ensures.idle opened).0 in cc)
    (λ told is. c.in_err-store.ensures.overflow told (ap Err is)) (λ told is. c.in_err-store.ensures.refused told _ (ap Err is) refl)
    c.in_err-store.ensures.errors c.in_err-store.ensures.writes)

pub returns-in_err-store-2-clause-kept : goal.returns-in_err-store-2-clause-kept
returns-in_err-store-2-clause-kept g c =
    subst (λ (d : DbView g.row.F.Denot g.row.H-Digest.Denot g.row.O.Denot g.row.O-Cfg.Denot). (seen_log d.log).failed ≡ true → IsErrOf c.from_residual-in_err-store-2.result Volume × (c.start_sync.new.vol ≡ c.args.vol.now)) c.self.view_is
    (λ failed.
    let open_is = failed_open c.self.inside.log failed in
    let kept = c.in_err-store-2.ensures.kept (ap (λ (v : View (Unit {0})). v.failed) (c.in_ok-store.ensures.same_log open_is).0 ∙ failed) in
    let error : c.in_err-store-2.field-0.0 ≡ journal_error.Volume = cc in
    (kept_err c.in_err-store-2.field-0.0 c.from_residual-in_err-store-2.result c.from_residual-in_err-store-2.ensures.1 error, kept.1 ∙ (c.in_ok-store.ensures.idle open_is).1))

pub returns-in_err-store-2-clause-syncs : goal.returns-in_err-store-2-clause-syncs
returns-in_err-store-2-clause-syncs g c =
    subst (λ (d : DbView g.row.F.Denot g.row.H-Digest.Denot g.row.O.Denot g.row.O-Cfg.Denot). (seen_log d.log).failed ≡ false → SyncsLog g.V.Volume.tells g.H.Digest.Spelled.spelling d.log d.tip.witness (g.V.Volume.state c.args.vol.now) (g.V.Volume.state c.start_sync.new.vol) (outcome c.from_residual-in_err-store-2.result)) c.self.view_is
    (λ fresh. syncs_then g.V.Volume.tells g.H.Digest.Spelled.spelling c.self.inside.log c.self.inside.tip.witness (g.V.Volume.state c.args.vol.now) (g.V.Volume.state c.opened.new.vol) c.in_ok-store.ensures.log
    c.in_ok-store.store c.in_ok-store.store.log (g.V.Volume.state c.start_sync.new.vol) (Err c.in_err-store-2.field-0.0) (outcome c.from_residual-in_err-store-2.result) (passed_err (StoreView × SyncTicket) _ (outcome c.from_residual-in_err-store-2.result) (outcome_err c.from_residual-in_err-store-2.result _ c.from_residual-in_err-store-2.ensures.1)) c.in_ok-store.ensures.same fresh c.in_ok-store.ensures.writes
    (λ open_is. ap (λ (v : g.row.V.Denot). g.V.Volume.state v) (c.in_ok-store.ensures.idle open_is).1)
    c.in_err-store-2.ensures.log c.in_err-store-2.ensures.contents c.in_err-store-2.ensures.errors c.in_err-store-2.ensures.writes)

pub returns-clause-kept : goal.returns-clause-kept
returns-clause-kept g c failed =
    let f : (seen_log c.self.inside.log).failed ≡ true = subst (λ (d : DbView g.row.F.Denot g.row.H-Digest.Denot g.row.O.Denot g.row.O-Cfg.Denot). (seen_log d.log).failed ≡ true) (sym c.self.view_is) failed in
    let kept = c.in_ok-store-2.ensures.kept (ap (λ (v : View (Unit {0})). v.failed) (c.in_ok-store.ensures.same_log (failed_open c.self.inside.log f)).0 ∙ f) in
    let none = kept.0 in
    absurd cc

pub returns-clause-log : goal.returns-clause-log
returns-clause-log g c =
    subst (λ (d : DbView g.row.F.Denot g.row.H-Digest.Denot g.row.O.Denot g.row.O-Cfg.Denot). SameButBounds (after_sync (seen_log d.log) (is_failed c.in_ok-store-2.ticket)) c.in_ok-store-2.store.log) c.self.view_is
    (subst (λ (v : View (Unit {0})). SameButBounds (after_sync (seen_log c.self.inside.log) (is_failed c.in_ok-store-2.ticket)) v) (sym (ap (λ (x : StoreView). x.log) c.in_ok-store-2.ensures.made))
    (ap (λ (v : View (Unit {0})). after_sync v (is_failed c.in_ok-store-2.ticket)) c.in_ok-store.ensures.same))

pub returns-clause-held : goal.returns-clause-held
returns-clause-held g c told ops sizes was =
    let s = g.F.Family.shape in
    let h = g.H.Hasher.hash in
    let m = g.O.Logged.meaning in
    let was2 = subst (λ (d : DbView g.row.F.Denot g.row.H-Digest.Denot g.row.O.Denot g.row.O-Cfg.Denot). IsHeldFor s h m g.H.Digest.Spelled.spelling (g.H.Digest.Read.admits tt) ops sizes d (g.V.Volume.state c.args.vol.now)) (sym c.self.view_is) was in
    let first = (c.in_ok-store.ensures.same_log was2.opened).0 in
    let contents = subst (λ (v : View (Unit {0})). log_of v (g.V.Volume.state c.start_sync.new.vol) ≡ log_of v (g.V.Volume.state c.opened.new.vol)) first (c.in_ok-store-2.ensures.contents told) in
    let stays : SameLog (seen_log c.self.inside.log) (g.V.Volume.state c.args.vol.now) (g.V.Volume.state c.start_sync.new.vol) = contents ∙ ap (λ (v : g.row.V.Denot). log_of (seen_log c.self.inside.log) (g.V.Volume.state v)) (c.in_ok-store.ensures.idle was2.opened).1 in
    still_held s h m g.H.Digest.Spelled.spelling (g.H.Digest.Read.admits tt) _ _ (is_failed c.in_ok-store-2.ticket) (g.V.Volume.state c.args.vol.now) (g.V.Volume.state c.start_sync.new.vol)
    (record { tip = refl; tree = refl; commit = refl; codec = refl }) refl (ap (λ (x : StoreView). x.log) c.in_ok-store-2.ensures.made ∙ ap (λ (v : View (Unit {0})). after_sync v (is_failed c.in_ok-store-2.ticket)) first) stays ops sizes was2

pub returns-clause-imported : goal.returns-clause-imported
returns-clause-imported g c waiting told ops of =
    let s = g.F.Family.shape in
    let h = g.H.Hasher.hash in
    let m = g.O.Logged.meaning in
    let db : DbView g.row.F.Denot g.row.H-Digest.Denot g.row.O.Denot g.row.O-Cfg.Denot = record { log = c.self.inside.log; tip = c.self.inside.tip; tree = c.self.inside.merkle; commit = c.self.inside.last_commit; codec = c.self.inside.codec } in
    let made : DbView g.row.F.Denot g.row.H-Digest.Denot g.row.O.Denot g.row.O-Cfg.Denot = record { log = Open c.in_ok-store-2.store; tip = c.self.inside.tip; tree = c.self.inside.merkle; commit = c.self.inside.last_commit; codec = c.self.inside.codec } in
    let is : IsOfList s h m ops db = subst (λ (d : DbView g.row.F.Denot g.row.H-Digest.Denot g.row.O.Denot g.row.O-Cfg.Denot). IsOfList s h m ops d) (sym c.self.view_is) of in
    let w : waits c.self.inside.log ≡ true = subst (λ (d : DbView g.row.F.Denot g.row.H-Digest.Denot g.row.O.Denot g.row.O-Cfg.Denot). waits d.log ≡ true) (sym c.self.view_is) waiting in
    let hashed = λ (bytes : List ℕ). g.met.H.Digest.Digest.allowed (h.digest bytes) (ap length (sym (g.met.H.Hasher.same_bytes (h.digest bytes))) ∙ g.met.H.Hasher.one_size bytes) in
    let allowed = allowed_tip s h m g.met.F.Family.lawful g.met.F.Family.few_peaks (g.H.Digest.Read.admits tt) hashed ops c.self.inside.tip c.self.inside.merkle c.self.inside.last_commit is (c.in_ok-store.ensures.short w) in
    imported_held s h m g.met.F.Family.lawful g.H.Digest.Spelled.spelling (g.H.Digest.Read.admits tt) db made (is_failed c.in_ok-store-2.ticket) c.in_ok-store.store.log (g.V.Volume.state c.args.vol.now) (g.V.Volume.state c.opened.new.vol) (g.V.Volume.state c.start_sync.new.vol)
    (record { tip = refl; tree = refl; commit = refl; codec = refl }) refl w c.in_ok-store.ensures.same (ap (λ (x : StoreView). x.log) c.in_ok-store-2.ensures.made)
    (c.in_ok-store.ensures.held w told) (c.in_ok-store-2.ensures.contents told) (c.in_ok-store.ensures.written w told)
    (λ ws count. c.in_ok-store.ensures.begins w told ws count allowed) ops is

pub returns-clause-written : goal.returns-clause-written
returns-clause-written g c =
    subst (λ (d : DbView g.row.F.Denot g.row.H-Digest.Denot g.row.O.Denot g.row.O-Cfg.Denot). waits d.log ≡ true → g.V.Volume.tells → log_of (seen_log d.log) (g.V.Volume.state c.start_sync.new.vol) ≡ written_log g.H.Digest.Spelled.spelling d.log d.tip.witness (g.V.Volume.state c.args.vol.now)) c.self.view_is
    (λ waiting told. log_later (seen_log c.self.inside.log) c.in_ok-store.store.log (g.V.Volume.state c.opened.new.vol) (g.V.Volume.state c.start_sync.new.vol) (ap (λ (v : View (Unit {0})). v.name) c.in_ok-store.ensures.same) (c.in_ok-store-2.ensures.contents told)
    ∙ c.in_ok-store.ensures.written waiting told)

pub returns-clause-durable : goal.returns-clause-durable
returns-clause-durable g c done =
    subst (λ (d : DbView g.row.F.Denot g.row.H-Digest.Denot g.row.O.Denot g.row.O-Cfg.Denot). g.V.Volume.tells → IsDurable (seen_log d.log) (g.V.Volume.state c.start_sync.new.vol)) c.self.view_is
    (λ told. durable_as (seen_log c.self.inside.log) c.in_ok-store.store.log (g.V.Volume.state c.start_sync.new.vol) (ap (λ (v : View (Unit {0})). v.name) c.in_ok-store.ensures.same) (c.in_ok-store-2.ensures.durable done told))

pub returns-clause-failed : goal.returns-clause-failed
returns-clause-failed g c failed =
    subst (λ (n : ℕ). Rose n (g.V.Volume.state c.start_sync.new.vol).faults) c.in_ok-store.ensures.writes.kept (c.in_ok-store-2.ensures.failed failed)

pub returns-in_err-store-clause-not_volume : goal.returns-in_err-store-clause-not_volume
returns-in_err-store-clause-not_volume g c =
    subst (λ (d : DbView g.row.F.Denot g.row.H-Digest.Denot g.row.O.Denot g.row.O-Cfg.Denot). (seen_log d.log).failed ≡ false → waits d.log ≡ false → IsErrOf c.from_residual.result Volume → ⊥) c.self.view_is
    (λ fresh open_is is. let shut = (c.in_err-store.ensures.idle open_is).0 in cc)

pub returns-in_err-store-2-clause-not_volume : goal.returns-in_err-store-2-clause-not_volume
returns-in_err-store-2-clause-not_volume g c =
    subst (λ (d : DbView g.row.F.Denot g.row.H-Digest.Denot g.row.O.Denot g.row.O-Cfg.Denot). (seen_log d.log).failed ≡ false → waits d.log ≡ false → IsErrOf c.from_residual-in_err-store-2.result Volume → ⊥) c.self.view_is
    (λ fresh open_is is. c.in_err-store-2.ensures.not_volume (ap (λ (v : View (Unit {0})). v.failed) c.in_ok-store.ensures.same ∙ fresh)
    (passed_volume (Err c.in_err-store-2.field-0.0) c.from_residual-in_err-store-2.result (passed_err (StoreView × SyncTicket) _ c.from_residual-in_err-store-2.result c.from_residual-in_err-store-2.ensures.1) is))

pub returns-clause-syncs : goal.returns-clause-syncs
returns-clause-syncs g c =
    syncs_at g.V.Volume.tells g.H.Digest.Spelled.spelling c.self.inside.log _ c.self.inside.tip.witness _ (g.V.Volume.state c.args.vol.now) (g.V.Volume.state c.start_sync.new.vol) _ (ap (λ (d : DbView g.row.F.Denot g.row.H-Digest.Denot g.row.O.Denot g.row.O-Cfg.Denot). d.log) c.self.view_is) (ap (λ (d : DbView g.row.F.Denot g.row.H-Digest.Denot g.row.O.Denot g.row.O-Cfg.Denot). d.tip.witness) c.self.view_is)
    (λ fresh. syncs_then g.V.Volume.tells g.H.Digest.Spelled.spelling c.self.inside.log c.self.inside.tip.witness (g.V.Volume.state c.args.vol.now) (g.V.Volume.state c.opened.new.vol) c.in_ok-store.ensures.log
    c.in_ok-store.store c.in_ok-store.store.log (g.V.Volume.state c.start_sync.new.vol) (journal_sync_of c.in_ok-store-2.ticket) _ (ticket_passed _ c.in_ok-store-2.ticket) c.in_ok-store.ensures.same fresh c.in_ok-store.ensures.writes
    (λ open_is. ap (λ (v : g.row.V.Denot). g.V.Volume.state v) (c.in_ok-store.ensures.idle open_is).1)
    c.in_ok-store-2.ensures.log c.in_ok-store-2.ensures.contents (ticket_of c.in_ok-store-2.ticket) c.in_ok-store-2.ensures.writes)

pub returns-clause-fits : goal.returns-clause-fits
returns-clause-fits g c =
    subst (λ (d : DbView g.row.F.Denot g.row.H-Digest.Denot g.row.O.Denot g.row.O-Cfg.Denot). waits d.log ≡ true → g.V.Volume.tells → end_of (log_of (seen_log d.log) (g.V.Volume.state c.args.vol.now)) < 2 ^ 64 - 1) c.self.view_is
    c.in_ok-store.ensures.fits

pub returns-clause-bounds : goal.returns-clause-bounds
returns-clause-bounds g c told was =
    let held : waits c.self.inside.log ≡ false → IsHeld (seen_log c.self.inside.log) (g.V.Volume.state c.args.vol.now) = subst (λ (d : DbView g.row.F.Denot g.row.H-Digest.Denot g.row.O.Denot g.row.O-Cfg.Denot). waits d.log ≡ false → IsHeld (seen_log d.log) (g.V.Volume.state c.args.vol.now)) (sym c.self.view_is) was in
    let first = bounds_opened c.self.inside.log c.in_ok-store.store.log (g.V.Volume.state c.args.vol.now) (g.V.Volume.state c.opened.new.vol)
    (λ opened. ap (λ (v : g.row.V.Denot). g.V.Volume.state v) (c.in_ok-store.ensures.idle opened).1) (λ opened. (c.in_ok-store.ensures.same_log opened).0)
    (λ waiting. c.in_ok-store.ensures.held waiting told) held in
    let later = bounds_stay c.in_ok-store.store.log (is_failed c.in_ok-store-2.ticket) (g.V.Volume.state c.opened.new.vol) (g.V.Volume.state c.start_sync.new.vol) (c.in_ok-store-2.ensures.contents told) first in
    subst (λ (v : View (Unit {0})). IsHeld v (g.V.Volume.state c.start_sync.new.vol)) (sym (ap (λ (x : StoreView). x.log) c.in_ok-store-2.ensures.made)) later
