use Rattle.std.proofs.Common.{◌≡◌, inl, ℕ, ◌-◌, ◌^◌, true, false, List, length, Err, refl, sym, ◌∙◌, ap, subst}
use Rattle.std.specs.Prelude.{IsOk}
use Rattle.journal_base.specs.View.{log_of, SameButBounds, IsHeld}
use Rattle.volume_base.specs.Log.{end_of}
use Rattle.volume_base.specs.Names.{log_alone, NamesCall}
use Rattle.volume_base.specs.Volume.{LogCall}
use Rattle.volume_base.proofs.CallLemmas.{names_call_log}
use Rattle.compact_db.specs.DbView.{DbView, IsOfList, seen_log, waits}
use Rattle.compact_db.specs.declared.database.WitnessLog.TheVariants.{Open}
use Rattle.compact_db.proofs.HeldLemmas.{imported_held, allowed_tip}
use Rattle.compact_db.specs.Writing.{written_log, Settles, IsOutsideOrFull, IsSettledLog}
use Rattle.compact_db.proofs.SettleLemmas.{bounds_opened, full_cause, err_each, size_is, settled_later}
use Rattle.compact_db.proofs.database.CompactDb.settled.Goals as goal

pub returns-clause-imported : goal.returns-clause-imported
returns-clause-imported g c waiting told ops of =
    let s = g.F.Family.shape in
    let h = g.H.Hasher.hash in
    let m = g.O.Logged.meaning in
    let db : DbView g.row.F.Denot g.row.H-Digest.Denot g.row.O.Denot g.row.O-Cfg.Denot = record { log = c.self.inside.log; tip = c.self.inside.tip; tree = c.self.inside.merkle; commit = c.self.inside.last_commit; codec = c.self.inside.codec } in
    let made : DbView g.row.F.Denot g.row.H-Digest.Denot g.row.O.Denot g.row.O-Cfg.Denot = record { log = Open c.in_ok-store.store; tip = c.self.inside.tip; tree = c.self.inside.merkle; commit = c.self.inside.last_commit; codec = c.self.inside.codec } in
    let is : IsOfList s h m ops db = subst (λ (d : DbView g.row.F.Denot g.row.H-Digest.Denot g.row.O.Denot g.row.O-Cfg.Denot). IsOfList s h m ops d) (sym c.self.view_is) of in
    let w : waits c.self.inside.log ≡ true = subst (λ (d : DbView g.row.F.Denot g.row.H-Digest.Denot g.row.O.Denot g.row.O-Cfg.Denot). waits d.log ≡ true) (sym c.self.view_is) waiting in
    let hashed = λ (bytes : List ℕ). g.met.H.Digest.Digest.allowed (h.digest bytes) (ap length (sym (g.met.H.Hasher.same_bytes (h.digest bytes))) ∙ g.met.H.Hasher.one_size bytes) in
    let allowed = allowed_tip s h m g.met.F.Family.lawful g.met.F.Family.few_peaks (g.H.Digest.Read.admits tt) hashed ops c.self.inside.tip c.self.inside.merkle c.self.inside.last_commit is (c.in_ok-store.ensures.short w) in
    imported_held s h m g.met.F.Family.lawful g.H.Digest.Spelled.spelling (g.H.Digest.Read.admits tt) db made c.in_ok-store.store.log.failed c.in_ok-store.store.log (g.V.Volume.state c.args.vol.now) (g.V.Volume.state c.opened.new.vol) (g.V.Volume.state c.opened.new.vol)
    (record { tip = refl; tree = refl; commit = refl; codec = refl }) refl w c.in_ok-store.ensures.same refl
    (c.in_ok-store.ensures.held w told) refl (c.in_ok-store.ensures.written w told)
    (λ ws count. c.in_ok-store.ensures.begins w told ws count allowed) ops is

pub returns-in_err-store-clause-done : goal.returns-in_err-store-clause-done
returns-in_err-store-clause-done g c =
    subst (λ (d : DbView g.row.F.Denot g.row.H-Digest.Denot g.row.O.Denot g.row.O-Cfg.Denot). waits d.log ≡ false → IsOk c.from_residual.result) c.self.view_is (λ opened. let shut = (c.in_err-store.ensures.idle opened).0 in absurd cc)

pub returns-in_err-store-clause-full : goal.returns-in_err-store-clause-full
returns-in_err-store-clause-full g c told is =
    let cause = full_cause c.in_err-store.field-0.0 c.from_residual.result c.from_residual.ensures.1 is in
    let both = c.in_err-store.ensures.overflow told (ap Err cause) in (
      subst (λ (d : DbView g.row.F.Denot g.row.H-Digest.Denot g.row.O.Denot g.row.O-Cfg.Denot). waits d.log ≡ true) c.self.view_is both.0,
      subst (λ (d : DbView g.row.F.Denot g.row.H-Digest.Denot g.row.O.Denot g.row.O-Cfg.Denot). end_of (log_of (seen_log d.log) (g.V.Volume.state c.args.vol.now)) ≡ 2 ^ 64 - 1) c.self.view_is both.1,
      c.in_err-store.ensures.refused told _ (ap Err cause) refl,
    )

pub returns-in_err-store-clause-names : goal.returns-in_err-store-clause-names
returns-in_err-store-clause-names g c told =
    subst (λ (d : DbView g.row.F.Denot g.row.H-Digest.Denot g.row.O.Denot g.row.O-Cfg.Denot). NamesCall (log_alone (seen_log d.log).name) (g.V.Volume.state c.args.vol.now) (g.V.Volume.state c.opened.new.vol)) c.self.view_is
    (names_call_log (log_alone (seen_log c.self.inside.log).name) (seen_log c.self.inside.log).name _ (g.V.Volume.state c.args.vol.now) (g.V.Volume.state c.opened.new.vol) (inl refl) (c.opened.ensures.log told))

pub returns-in_err-store-clause-errors : goal.returns-in_err-store-clause-errors
returns-in_err-store-clause-errors g c =
    err_each c.from_residual.result c.in_err-store.field-0.0 (λ e. IsOutsideOrFull e) c.from_residual.ensures.1 (size_is c.in_err-store.field-0.0 c.in_err-store.ensures.errors)

pub returns-clause-log : goal.returns-clause-log
returns-clause-log g c =
    subst (λ (d : DbView g.row.F.Denot g.row.H-Digest.Denot g.row.O.Denot g.row.O-Cfg.Denot). SameButBounds (seen_log d.log) c.in_ok-store.store.log) c.self.view_is c.in_ok-store.ensures.same

pub returns-clause-settled : goal.returns-clause-settled
returns-clause-settled g c told settled =
    settled_later c.self.inside.log c.in_ok-store.store (g.V.Volume.state c.args.vol.now) (g.V.Volume.state c.opened.new.vol)
    (λ opened. ap (λ (v : g.row.V.Denot). g.V.Volume.state v) (c.in_ok-store.ensures.idle opened).1)
    c.in_ok-store.ensures.same_log c.in_ok-store.ensures.made
    (subst (λ (d : DbView g.row.F.Denot g.row.H-Digest.Denot g.row.O.Denot g.row.O-Cfg.Denot). IsSettledLog d.log (g.V.Volume.state c.args.vol.now)) (sym c.self.view_is) settled)

pub returns-clause-written : goal.returns-clause-written
returns-clause-written g c =
    subst (λ (d : DbView g.row.F.Denot g.row.H-Digest.Denot g.row.O.Denot g.row.O-Cfg.Denot). waits d.log ≡ true → g.V.Volume.tells → log_of (seen_log d.log) (g.V.Volume.state c.opened.new.vol) ≡ written_log g.H.Digest.Spelled.spelling d.log d.tip.witness (g.V.Volume.state c.args.vol.now)) c.self.view_is
    (λ waiting told. c.in_ok-store.ensures.written waiting told)

pub returns-clause-names : goal.returns-clause-names
returns-clause-names g c told =
    subst (λ (d : DbView g.row.F.Denot g.row.H-Digest.Denot g.row.O.Denot g.row.O-Cfg.Denot). NamesCall (log_alone (seen_log d.log).name) (g.V.Volume.state c.args.vol.now) (g.V.Volume.state c.opened.new.vol)) c.self.view_is
    (names_call_log (log_alone (seen_log c.self.inside.log).name) (seen_log c.self.inside.log).name _ (g.V.Volume.state c.args.vol.now) (g.V.Volume.state c.opened.new.vol) (inl refl) (c.opened.ensures.log told))

pub returns-in_err-store-clause-call : goal.returns-in_err-store-clause-call
returns-in_err-store-clause-call g c told =
    let a = g.V.Volume.state c.args.vol.now in
    let b = g.V.Volume.state c.opened.new.vol in
    subst (λ (d : DbView g.row.F.Denot g.row.H-Digest.Denot g.row.O.Denot g.row.O-Cfg.Denot). LogCall (seen_log d.log).name (Settles g.H.Digest.Spelled.spelling d.log d.tip.witness a) a b) c.self.view_is
    (c.opened.ensures.log told)

pub returns-clause-call : goal.returns-clause-call
returns-clause-call g c told =
    let a = g.V.Volume.state c.args.vol.now in
    let b = g.V.Volume.state c.opened.new.vol in
    subst (λ (d : DbView g.row.F.Denot g.row.H-Digest.Denot g.row.O.Denot g.row.O-Cfg.Denot). LogCall (seen_log d.log).name (Settles g.H.Digest.Spelled.spelling d.log d.tip.witness a) a b) c.self.view_is
    (c.opened.ensures.log told)

pub returns-clause-bounds : goal.returns-clause-bounds
returns-clause-bounds g c told was =
    let held : waits c.self.inside.log ≡ false → IsHeld (seen_log c.self.inside.log) (g.V.Volume.state c.args.vol.now) = subst (λ (d : DbView g.row.F.Denot g.row.H-Digest.Denot g.row.O.Denot g.row.O-Cfg.Denot). waits d.log ≡ false → IsHeld (seen_log d.log) (g.V.Volume.state c.args.vol.now)) (sym c.self.view_is) was in
    bounds_opened c.self.inside.log c.in_ok-store.store.log (g.V.Volume.state c.args.vol.now) (g.V.Volume.state c.opened.new.vol)
    (λ opened. ap (λ (v : g.row.V.Denot). g.V.Volume.state v) (c.in_ok-store.ensures.idle opened).1) (λ opened. (c.in_ok-store.ensures.same_log opened).0)
    (λ waiting. c.in_ok-store.ensures.held waiting told) held
