use Rattle.std.proofs.Common.{◌≡◌, ℕ, List, Option, None, Some, Result, Err, inl, refl, sym, ap, subst}
use Rattle.codec_base.specs.Parts.{whole}
use Rattle.journal_base.specs.View.{seen_of, config_of}
use Rattle.volume_base.specs.declared.error.JournalError.TheVariants as journal_error
use Rattle.volume_base.proofs.JoinLemmas.{changes_of_reads}
use Rattle.chain_core.specs.Errors.{from_journal}
use Rattle.chain_core.specs.declared.error.Error.{Error}
use Rattle.compact_db.specs.DbView.{DbView}
use Rattle.compact_db.specs.Import.{journal_of}
use Rattle.compact_db.specs.Opening.{Opens}
use Rattle.compact_db.proofs.OpenLemmas.{start_why}
use Rattle.compact_db.proofs.SettleLemmas.{changes_passed}
use Rattle.compact_db.proofs.StartLemmas.{err_is, opens_not, opens_after}
use Rattle.compact_db.proofs.database.CompactDb.opened_under.Goals as goal

never_pruned : (p : ℕ) → (let o : Option ℕ = None in o) ≡ Some p → ⊥
never_pruned p is = cc

pub returns-in_err-recovery-clause-opens : goal.returns-in_err-recovery-clause-opens
returns-in_err-recovery-clause-opens g c =
    let view = config_of (journal_of c.args.cfg) in
    let decoded = λ (bytes : List ℕ). whole (g.O.Read.reads c.args.cfg.commit_codec bytes) in
    let old = g.V.Volume.state c.args.vol.now in
    let new = g.V.Volume.state c.recover.new.vol in
    let e = c.in_err-recovery.field-0.0 in
    let d : Error g.row.F.Denot = from_journal e in
    let r : Result (DbView g.row.F.Denot g.row.H-Digest.Denot g.row.O.Denot g.row.O-Cfg.Denot) (Error g.row.F.Denot) = Err d in
    let read = c.in_err-recovery.ensures.answers in
    let out = start_why g.row.F.Denot e c.in_err-recovery.ensures.errors (λ p is. never_pruned p (c.in_err-recovery.ensures.pruned p (ap Err is)).0) in
    subst (λ (r : Result (DbView g.row.F.Denot g.row.H-Digest.Denot g.row.O.Denot g.row.O-Cfg.Denot) (Error g.row.F.Denot)). Opens g.F.Family.shape g.H.Hasher.hash g.O.Logged.meaning g.H.Digest.Spelled.spelling (g.H.Digest.Read.admits tt) decoded (g.O.Read.admits c.args.cfg.commit_codec) view c.args.cap g.V.Volume.tells old new r)
    (sym (err_is c.from_residual.result d c.from_residual.ensures.1))
    (opens_not g.row.F.Denot g.row.O-Cfg.Denot g.F.Family.shape g.H.Hasher.hash g.O.Logged.meaning g.H.Digest.Spelled.spelling (g.H.Digest.Read.admits tt) decoded (g.O.Read.admits c.args.cfg.commit_codec) view c.args.cap g.V.Volume.tells d old new read.clock read.past read.contents
    (changes_passed g.V.Volume.tells old new (Err e) r refl (changes_of_reads g.V.Volume.tells journal_error.Volume old new _ read))
    (λ told. inl out) (inl out))

pub returns-clause-opens : goal.returns-clause-opens
returns-clause-opens g c =
    let view = config_of (journal_of c.args.cfg) in
    let decoded = λ (bytes : List ℕ). whole (g.O.Read.reads c.args.cfg.commit_codec bytes) in
    opens_after g.row.F.Denot g.row.O-Cfg.Denot g.F.Family.shape g.H.Hasher.hash g.O.Logged.meaning g.H.Digest.Spelled.spelling (g.H.Digest.Read.admits tt) decoded (g.O.Read.admits c.args.cfg.commit_codec) view c.args.cap g.V.Volume.tells journal_error.Volume c.in_ok-recovery.recovery (seen_of c.in_ok-recovery.recovery)
    (g.V.Volume.state c.args.vol.now) (g.V.Volume.state c.recover.new.vol) (g.V.Volume.state c.opened_from.new.vol) c.opened_from.result
    c.in_ok-recovery.ensures.made c.in_ok-recovery.ensures.answers c.opened_from.ensures.opens
