use Rattle.std.proofs.Common.{◌<◌, ◌^◌, ◌-◌, ◌≡◌, ℕ, List, length, true, false, Ok, Err, refl, sym, ◌∙◌, ap, subst}
use Rattle.std.specs.Prelude.{IsOk, IsErrOf}
use Rattle.journal_base.specs.View.{View, SameLog, SameButBounds, log_of, IsDurable, IsHeld}
use Rattle.volume_base.specs.Log.{end_of}
use Rattle.volume_base.specs.declared.error.JournalError.TheVariants as journal_error
use Rattle.chain_core.specs.declared.error.Error.TheVariants.{Volume}
use Rattle.witness_store.specs.StoreView.{StoreView}
use Rattle.compact_db.specs.DbView.{DbView, IsOfList, seen_log, waits, is_uncommitted}
use Rattle.compact_db.specs.Held.{IsHeldFor}
use Rattle.compact_db.specs.Writing.{IsSettledLog, SyncsLog, written_log}
use Rattle.compact_db.specs.declared.database.WitnessLog.TheVariants.{Open}
use Rattle.compact_db.proofs.HeldLemmas.{still_held, imported_held, allowed_tip}
use Rattle.compact_db.proofs.SettleLemmas.{bounds_opened, bounds_stay, syncs_at, failed_open, committed_open, passed_err, kept_err, syncs_not, syncs_then, log_later, durable_as, settled_later}
use Rattle.compact_db.proofs.database.CompactDb.commit.Goals as goal

pub returns-in_err-store-clause-kept : goal.returns-in_err-store-clause-kept
returns-in_err-store-clause-kept g c =
    subst (λ (d : DbView g.row.F.Denot g.row.H-Digest.Denot g.row.O.Denot g.row.O-Cfg.Denot). (seen_log d.log).failed ≡ true → IsErrOf c.from_residual.result Volume × (c.opened.new.vol ≡ c.args.vol.now)) c.self.view_is
    (λ failed. let shut = (c.in_err-store.ensures.idle (failed_open c.self.inside.log failed)).0 in absurd cc)

pub returns-in_err-store-clause-idle : goal.returns-in_err-store-clause-idle
returns-in_err-store-clause-idle g c =
    subst (λ (d : DbView g.row.F.Denot g.row.H-Digest.Denot g.row.O.Denot g.row.O-Cfg.Denot). is_uncommitted d.log ≡ false → IsOk c.from_residual.result × (c.opened.new.vol ≡ c.args.vol.now)) c.self.view_is
    (λ committed. let shut = (c.in_err-store.ensures.idle (committed_open c.self.inside.log committed)).0 in absurd cc)

pub returns-in_err-store-clause-syncs : goal.returns-in_err-store-clause-syncs
returns-in_err-store-clause-syncs g c =
    subst (λ (d : DbView g.row.F.Denot g.row.H-Digest.Denot g.row.O.Denot g.row.O-Cfg.Denot). (seen_log d.log).failed ≡ false → SyncsLog g.V.Volume.tells g.H.Digest.Spelled.spelling d.log d.tip.witness (g.V.Volume.state c.args.vol.now) (g.V.Volume.state c.opened.new.vol) c.from_residual.result) c.self.view_is
    (λ fresh. syncs_not g.V.Volume.tells g.H.Digest.Spelled.spelling c.self.inside.log c.self.inside.tip.witness (g.V.Volume.state c.args.vol.now) (g.V.Volume.state c.opened.new.vol) c.in_err-store.ensures.log
    c.in_err-store.field-0.0 c.from_residual.result c.from_residual.ensures.1 (λ opened. let shut = (c.in_err-store.ensures.idle opened).0 in cc)
    (λ told is. c.in_err-store.ensures.overflow told (ap Err is)) (λ told is. c.in_err-store.ensures.refused told _ (ap Err is) refl)
    c.in_err-store.ensures.errors c.in_err-store.ensures.writes)

pub returns-in_err-store-2-clause-kept : goal.returns-in_err-store-2-clause-kept
returns-in_err-store-2-clause-kept g c =
    subst (λ (d : DbView g.row.F.Denot g.row.H-Digest.Denot g.row.O.Denot g.row.O-Cfg.Denot). (seen_log d.log).failed ≡ true → IsErrOf c.from_residual-in_err-store-2.result Volume × (c.commit.new.vol ≡ c.args.vol.now)) c.self.view_is
    (λ failed.
    let open_is = failed_open c.self.inside.log failed in
    let kept = c.in_err-store-2.ensures.kept (ap (λ (v : View (Unit {0})). v.failed) (c.in_ok-store.ensures.same_log open_is).0 ∙ failed) in
    let error : c.in_err-store-2.field-0.0 ≡ journal_error.Volume = cc in
    (kept_err c.in_err-store-2.field-0.0 c.from_residual-in_err-store-2.result c.from_residual-in_err-store-2.ensures.1 error, kept.1 ∙ (c.in_ok-store.ensures.idle open_is).1))

pub returns-in_err-store-2-clause-idle : goal.returns-in_err-store-2-clause-idle
returns-in_err-store-2-clause-idle g c =
    subst (λ (d : DbView g.row.F.Denot g.row.H-Digest.Denot g.row.O.Denot g.row.O-Cfg.Denot). is_uncommitted d.log ≡ false → IsOk c.from_residual-in_err-store-2.result × (c.commit.new.vol ≡ c.args.vol.now)) c.self.view_is
    (λ committed.
    let none = (c.in_err-store-2.ensures.idle ((c.in_ok-store.ensures.same_log (committed_open c.self.inside.log committed)).1 ∙ committed)).0 in
    absurd cc)

pub returns-in_err-store-2-clause-syncs : goal.returns-in_err-store-2-clause-syncs
returns-in_err-store-2-clause-syncs g c =
    subst (λ (d : DbView g.row.F.Denot g.row.H-Digest.Denot g.row.O.Denot g.row.O-Cfg.Denot). (seen_log d.log).failed ≡ false → SyncsLog g.V.Volume.tells g.H.Digest.Spelled.spelling d.log d.tip.witness (g.V.Volume.state c.args.vol.now) (g.V.Volume.state c.commit.new.vol) c.from_residual-in_err-store-2.result) c.self.view_is
    (λ fresh. syncs_then g.V.Volume.tells g.H.Digest.Spelled.spelling c.self.inside.log c.self.inside.tip.witness (g.V.Volume.state c.args.vol.now) (g.V.Volume.state c.opened.new.vol) c.in_ok-store.ensures.log
    c.in_ok-store.store c.in_ok-store.store.log (g.V.Volume.state c.commit.new.vol) (Err c.in_err-store-2.field-0.0) c.from_residual-in_err-store-2.result (passed_err StoreView _ c.from_residual-in_err-store-2.result c.from_residual-in_err-store-2.ensures.1) c.in_ok-store.ensures.same fresh c.in_ok-store.ensures.writes
    (λ open_is. ap (λ (v : g.row.V.Denot). g.V.Volume.state v) (c.in_ok-store.ensures.idle open_is).1)
    c.in_err-store-2.ensures.log c.in_err-store-2.ensures.contents c.in_err-store-2.ensures.errors c.in_err-store-2.ensures.writes)

pub returns-clause-kept : goal.returns-clause-kept
returns-clause-kept g c failed =
    let f : (seen_log c.self.inside.log).failed ≡ true = subst (λ (d : DbView g.row.F.Denot g.row.H-Digest.Denot g.row.O.Denot g.row.O-Cfg.Denot). (seen_log d.log).failed ≡ true) (sym c.self.view_is) failed in
    let kept = c.in_ok-store-2.ensures.kept (ap (λ (v : View (Unit {0})). v.failed) (c.in_ok-store.ensures.same_log (failed_open c.self.inside.log f)).0 ∙ f) in
    let none = kept.0 in
    absurd cc

pub returns-clause-idle : goal.returns-clause-idle
returns-clause-idle g c committed =
    let k : is_uncommitted c.self.inside.log ≡ false = subst (λ (d : DbView g.row.F.Denot g.row.H-Digest.Denot g.row.O.Denot g.row.O-Cfg.Denot). is_uncommitted d.log ≡ false) (sym c.self.view_is) committed in
    let open_is = committed_open c.self.inside.log k in
    (refl, (c.in_ok-store-2.ensures.idle ((c.in_ok-store.ensures.same_log open_is).1 ∙ k)).1 ∙ (c.in_ok-store.ensures.idle open_is).1)

pub returns-clause-log : goal.returns-clause-log
returns-clause-log g c =
    subst (λ (d : DbView g.row.F.Denot g.row.H-Digest.Denot g.row.O.Denot g.row.O-Cfg.Denot). SameButBounds (seen_log d.log) c.in_ok-store-2.store.log) c.self.view_is
    (subst (λ (v : View (Unit {0})). SameButBounds (seen_log c.self.inside.log) v) (sym (ap (λ (x : StoreView). x.log) c.in_ok-store-2.ensures.made)) c.in_ok-store.ensures.same)

pub returns-clause-held : goal.returns-clause-held
returns-clause-held g c told ops sizes was =
    let s = g.F.Family.shape in
    let h = g.H.Hasher.hash in
    let m = g.O.Logged.meaning in
    let was2 = subst (λ (d : DbView g.row.F.Denot g.row.H-Digest.Denot g.row.O.Denot g.row.O-Cfg.Denot). IsHeldFor s h m g.H.Digest.Spelled.spelling (g.H.Digest.Read.admits tt) ops sizes d (g.V.Volume.state c.args.vol.now)) (sym c.self.view_is) was in
    let first = (c.in_ok-store.ensures.same_log was2.opened).0 in
    let contents = subst (λ (v : View (Unit {0})). log_of v (g.V.Volume.state c.commit.new.vol) ≡ log_of v (g.V.Volume.state c.opened.new.vol)) first (c.in_ok-store-2.ensures.contents told) in
    let stays : SameLog (seen_log c.self.inside.log) (g.V.Volume.state c.args.vol.now) (g.V.Volume.state c.commit.new.vol) = contents ∙ ap (λ (v : g.row.V.Denot). log_of (seen_log c.self.inside.log) (g.V.Volume.state v)) (c.in_ok-store.ensures.idle was2.opened).1 in
    still_held s h m g.H.Digest.Spelled.spelling (g.H.Digest.Read.admits tt) _ _ (seen_log c.self.inside.log).failed (g.V.Volume.state c.args.vol.now) (g.V.Volume.state c.commit.new.vol)
    (record { tip = refl; tree = refl; commit = refl; codec = refl }) refl (ap (λ (x : StoreView). x.log) c.in_ok-store-2.ensures.made ∙ first) stays ops sizes was2

pub returns-clause-imported : goal.returns-clause-imported
returns-clause-imported g c waiting told ops of =
    let s = g.F.Family.shape in
    let h = g.H.Hasher.hash in
    let m = g.O.Logged.meaning in
    let db : DbView g.row.F.Denot g.row.H-Digest.Denot g.row.O.Denot g.row.O-Cfg.Denot = record { log = c.self.inside.log; tip = c.self.inside.tip; tree = c.self.inside.merkle; commit = c.self.inside.last_commit; codec = c.self.inside.codec } in
    let made : DbView g.row.F.Denot g.row.H-Digest.Denot g.row.O.Denot g.row.O-Cfg.Denot = record { log = Open c.in_ok-store-2.store; tip = c.self.inside.tip; tree = c.self.inside.merkle; commit = c.self.inside.last_commit; codec = c.self.inside.codec } in
    let is : IsOfList s h m ops db = subst (λ (d : DbView g.row.F.Denot g.row.H-Digest.Denot g.row.O.Denot g.row.O-Cfg.Denot). IsOfList s h m ops d) (sym c.self.view_is) of in
    let w : waits c.self.inside.log ≡ true = subst (λ (d : DbView g.row.F.Denot g.row.H-Digest.Denot g.row.O.Denot g.row.O-Cfg.Denot). waits d.log ≡ true) (sym c.self.view_is) waiting in
    let hashed = λ (bytes : List ℕ). g.met.H.Digest.Digest.allowed (h.digest bytes) (ap length (sym (g.met.H.Hasher.same_bytes (h.digest bytes))) ∙ g.met.H.Hasher.one_size bytes) in
    let allowed = allowed_tip s h m g.met.F.Family.lawful g.met.F.Family.few_peaks (g.H.Digest.Read.admits tt) hashed ops c.self.inside.tip c.self.inside.merkle c.self.inside.last_commit is (c.in_ok-store.ensures.short w) in
    imported_held s h m g.met.F.Family.lawful g.H.Digest.Spelled.spelling (g.H.Digest.Read.admits tt) db made c.in_ok-store.store.log.failed c.in_ok-store.store.log (g.V.Volume.state c.args.vol.now) (g.V.Volume.state c.opened.new.vol) (g.V.Volume.state c.commit.new.vol)
    (record { tip = refl; tree = refl; commit = refl; codec = refl }) refl w c.in_ok-store.ensures.same (ap (λ (x : StoreView). x.log) c.in_ok-store-2.ensures.made)
    (c.in_ok-store.ensures.held w told) (c.in_ok-store-2.ensures.contents told) (c.in_ok-store.ensures.written w told)
    (λ ws count. c.in_ok-store.ensures.begins w told ws count allowed) ops is

pub returns-clause-written : goal.returns-clause-written
returns-clause-written g c =
    subst (λ (d : DbView g.row.F.Denot g.row.H-Digest.Denot g.row.O.Denot g.row.O-Cfg.Denot). waits d.log ≡ true → g.V.Volume.tells → log_of (seen_log d.log) (g.V.Volume.state c.commit.new.vol) ≡ written_log g.H.Digest.Spelled.spelling d.log d.tip.witness (g.V.Volume.state c.args.vol.now)) c.self.view_is
    (λ waiting told. log_later (seen_log c.self.inside.log) c.in_ok-store.store.log (g.V.Volume.state c.opened.new.vol) (g.V.Volume.state c.commit.new.vol) (ap (λ (v : View (Unit {0})). v.name) c.in_ok-store.ensures.same) (c.in_ok-store-2.ensures.contents told)
    ∙ c.in_ok-store.ensures.written waiting told)

pub returns-clause-durable : goal.returns-clause-durable
returns-clause-durable g c =
    subst (λ (d : DbView g.row.F.Denot g.row.H-Digest.Denot g.row.O.Denot g.row.O-Cfg.Denot). g.V.Volume.tells → IsSettledLog d.log (g.V.Volume.state c.args.vol.now) → IsDurable (seen_log d.log) (g.V.Volume.state c.commit.new.vol)) c.self.view_is
    (λ told settled. durable_as (seen_log c.self.inside.log) c.in_ok-store.store.log (g.V.Volume.state c.commit.new.vol) (ap (λ (v : View (Unit {0})). v.name) c.in_ok-store.ensures.same) (c.in_ok-store-2.ensures.durable told
    (settled_later c.self.inside.log c.in_ok-store.store (g.V.Volume.state c.args.vol.now) (g.V.Volume.state c.opened.new.vol) (λ open_is. ap (λ (v : g.row.V.Denot). g.V.Volume.state v) (c.in_ok-store.ensures.idle open_is).1)
    c.in_ok-store.ensures.same_log c.in_ok-store.ensures.made settled)))

pub returns-clause-syncs : goal.returns-clause-syncs
returns-clause-syncs g c =
    syncs_at g.V.Volume.tells g.H.Digest.Spelled.spelling c.self.inside.log _ c.self.inside.tip.witness _ (g.V.Volume.state c.args.vol.now) (g.V.Volume.state c.commit.new.vol) _ (ap (λ (d : DbView g.row.F.Denot g.row.H-Digest.Denot g.row.O.Denot g.row.O-Cfg.Denot). d.log) c.self.view_is) (ap (λ (d : DbView g.row.F.Denot g.row.H-Digest.Denot g.row.O.Denot g.row.O-Cfg.Denot). d.tip.witness) c.self.view_is)
    (λ fresh. syncs_then g.V.Volume.tells g.H.Digest.Spelled.spelling c.self.inside.log c.self.inside.tip.witness (g.V.Volume.state c.args.vol.now) (g.V.Volume.state c.opened.new.vol) c.in_ok-store.ensures.log
    c.in_ok-store.store c.in_ok-store.store.log (g.V.Volume.state c.commit.new.vol) (Ok c.in_ok-store-2.store) _ tt c.in_ok-store.ensures.same fresh c.in_ok-store.ensures.writes
    (λ open_is. ap (λ (v : g.row.V.Denot). g.V.Volume.state v) (c.in_ok-store.ensures.idle open_is).1)
    c.in_ok-store-2.ensures.log c.in_ok-store-2.ensures.contents tt c.in_ok-store-2.ensures.writes)

pub returns-clause-fits : goal.returns-clause-fits
returns-clause-fits g c =
    subst (λ (d : DbView g.row.F.Denot g.row.H-Digest.Denot g.row.O.Denot g.row.O-Cfg.Denot). waits d.log ≡ true → g.V.Volume.tells → end_of (log_of (seen_log d.log) (g.V.Volume.state c.args.vol.now)) < 2 ^ 64 - 1) c.self.view_is
    c.in_ok-store.ensures.fits

pub returns-clause-bounds : goal.returns-clause-bounds
returns-clause-bounds g c told was =
    let held : waits c.self.inside.log ≡ false → IsHeld (seen_log c.self.inside.log) (g.V.Volume.state c.args.vol.now) = subst (λ (d : DbView g.row.F.Denot g.row.H-Digest.Denot g.row.O.Denot g.row.O-Cfg.Denot). waits d.log ≡ false → IsHeld (seen_log d.log) (g.V.Volume.state c.args.vol.now)) (sym c.self.view_is) was in
    let first = bounds_opened c.self.inside.log c.in_ok-store.store.log (g.V.Volume.state c.args.vol.now) (g.V.Volume.state c.opened.new.vol)
    (λ opened. ap (λ (v : g.row.V.Denot). g.V.Volume.state v) (c.in_ok-store.ensures.idle opened).1) (λ opened. (c.in_ok-store.ensures.same_log opened).0)
    (λ waiting. c.in_ok-store.ensures.held waiting told) held in
    let later = bounds_stay c.in_ok-store.store.log c.in_ok-store.store.log.failed (g.V.Volume.state c.opened.new.vol) (g.V.Volume.state c.commit.new.vol) (c.in_ok-store-2.ensures.contents told) first in
    subst (λ (v : View (Unit {0})). IsHeld v (g.V.Volume.state c.commit.new.vol)) (sym (ap (λ (x : StoreView). x.log) c.in_ok-store-2.ensures.made)) later
