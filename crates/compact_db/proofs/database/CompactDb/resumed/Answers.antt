use Rattle.std.proofs.Common.{ℕ, List, Err, sym, ap, subst}
use Rattle.std.specs.Prelude.{Result}
use Rattle.codec_base.specs.Parts.{whole}
use Rattle.journal_base.specs.View.{seen_of}
use Rattle.volume_base.specs.declared.error.JournalError.TheVariants as journal_error
use Rattle.chain_core.specs.declared.error.Error.{Error}
use Rattle.compact_db.specs.DbView.{DbView}
use Rattle.compact_db.specs.Opening.{Opens}
use Rattle.compact_db.proofs.StartLemmas.{err_is}
use Rattle.compact_db.proofs.ResumeLemmas.{some_held, chosen_not, rebuilt_not, cut_not, resumes}
use Rattle.compact_db.proofs.database.CompactDb.resumed.Goals as goal

pub returns-in_err-end-clause-opens : goal.returns-in_err-end-clause-opens
returns-in_err-end-clause-opens g c =
    let view = seen_of c.args.recovery in
    let decoded = λ (bytes : List ℕ). whole (g.O.Read.reads c.args.codec bytes) in
    let old = g.V.Volume.state c.args.vol.now in
    let new = g.V.Volume.state c.chosen.new.vol in
    subst (λ (r : Result (DbView g.row.F.Denot g.row.H-Digest.Denot g.row.O.Denot g.row.O-Cfg.Denot) (Error g.row.F.Denot)). Opens g.F.Family.shape g.H.Hasher.hash g.O.Logged.meaning g.H.Digest.Spelled.spelling (g.H.Digest.Read.admits tt) decoded (g.O.Read.admits c.args.codec) view c.args.cap g.V.Volume.tells old new r)
    (sym (err_is c.from_residual.result c.in_err-end.field-0.0 c.from_residual.ensures.1))
    (chosen_not g.row.F.Denot g.row.O-Cfg.Denot g.F.Family.shape g.H.Hasher.hash g.O.Logged.meaning g.H.Digest.Spelled.spelling (g.H.Digest.Read.admits tt) decoded (g.O.Read.admits c.args.codec) view c.args.cap g.V.Volume.tells
    c.in_err-end.field-0.0 old new c.in_err-end.ensures.answers (λ told. some_held view old c.requires.some (c.requires.held told)) c.in_err-end.ensures.refused c.in_err-end.ensures.errors)

pub returns-in_err-rebuilt-clause-opens : goal.returns-in_err-rebuilt-clause-opens
returns-in_err-rebuilt-clause-opens g c =
    let view = seen_of c.args.recovery in
    let decoded = λ (bytes : List ℕ). whole (g.O.Read.reads c.args.codec bytes) in
    let old = g.V.Volume.state c.args.vol.now in
    let mid = g.V.Volume.state c.chosen.new.vol in
    subst (λ (r : Result (DbView g.row.F.Denot g.row.H-Digest.Denot g.row.O.Denot g.row.O-Cfg.Denot) (Error g.row.F.Denot)). Opens g.F.Family.shape g.H.Hasher.hash g.O.Logged.meaning g.H.Digest.Spelled.spelling (g.H.Digest.Read.admits tt) decoded (g.O.Read.admits c.args.codec) view c.args.cap g.V.Volume.tells old mid r)
    (sym (err_is c.from_residual-in_err-rebuilt.result c.in_err-rebuilt.field-0.0 c.from_residual-in_err-rebuilt.ensures.1))
    (rebuilt_not g.row.F.Denot g.row.O-Cfg.Denot g.F.Family.shape g.H.Hasher.hash g.O.Logged.meaning g.H.Digest.Spelled.spelling (g.H.Digest.Read.admits tt) decoded (g.O.Read.admits c.args.codec) view c.args.cap g.V.Volume.tells
    c.in_ok-end.end c.in_ok-end.witness old mid c.in_ok-end.ensures.answers (λ told. some_held view old c.requires.some (c.requires.held told)) c.in_ok-end.ensures.chosen
    (Unit {0}) c.in_err-rebuilt.field-0.0 c.in_err-rebuilt.ensures.refused)

pub returns-in_err-store-clause-opens : goal.returns-in_err-store-clause-opens
returns-in_err-store-clause-opens g c =
    let view = seen_of c.args.recovery in
    let decoded = λ (bytes : List ℕ). whole (g.O.Read.reads c.args.codec bytes) in
    let old = g.V.Volume.state c.args.vol.now in
    let mid = g.V.Volume.state c.chosen.new.vol in
    let new = g.V.Volume.state c.open.new.vol in
    subst (λ (r : Result (DbView g.row.F.Denot g.row.H-Digest.Denot g.row.O.Denot g.row.O-Cfg.Denot) (Error g.row.F.Denot)). Opens g.F.Family.shape g.H.Hasher.hash g.O.Logged.meaning g.H.Digest.Spelled.spelling (g.H.Digest.Read.admits tt) decoded (g.O.Read.admits c.args.codec) view c.args.cap g.V.Volume.tells old new r)
    (sym (err_is c.from_residual-in_err-store.result _ c.from_residual-in_err-store.ensures.1))
    (cut_not g.row.F.Denot g.row.O-Cfg.Denot g.F.Family.shape g.H.Hasher.hash g.O.Logged.meaning g.H.Digest.Spelled.spelling (g.H.Digest.Read.admits tt) decoded (g.O.Read.admits c.args.codec) view c.args.cap g.V.Volume.tells
    c.in_ok-end.end c.in_ok-end.witness old mid c.in_ok-end.ensures.answers (λ told. some_held view old c.requires.some (c.requires.held told)) c.in_ok-end.ensures.chosen
    new c.in_err-store.ensures.images _ c.in_err-store.field-0.0 c.in_err-store.ensures.errors (λ p is. (c.in_err-store.ensures.pruned p (ap Err is)).1) c.in_err-store.ensures.call)

pub returns-clause-opens : goal.returns-clause-opens
returns-clause-opens g c =
    let view = seen_of c.args.recovery in
    let decoded = λ (bytes : List ℕ). whole (g.O.Read.reads c.args.codec bytes) in
    let old = g.V.Volume.state c.args.vol.now in
    let mid = g.V.Volume.state c.chosen.new.vol in
    let new = g.V.Volume.state c.open.new.vol in
    resumes g.row.F.Denot g.row.O-Cfg.Denot g.F.Family.shape g.H.Hasher.hash g.O.Logged.meaning g.H.Digest.Spelled.spelling (g.H.Digest.Read.admits tt) decoded (g.O.Read.admits c.args.codec) view c.args.cap g.V.Volume.tells
    c.in_ok-end.end c.in_ok-end.witness old mid c.in_ok-end.ensures.answers (λ told. some_held view old c.requires.some (c.requires.held told)) c.in_ok-end.ensures.chosen
    new c.in_ok-store.ensures.images g.met.F.Family.lawful c.in_ok-store.store c.in_ok-rebuilt.rebuilt.tip c.in_ok-rebuilt.rebuilt.merkle c.in_ok-rebuilt.rebuilt.commit c.args.codec
    c.in_ok-rebuilt.ensures.answer c.in_ok-rebuilt.ensures.witness c.in_ok-rebuilt.ensures.list c.requires.fresh c.in_ok-store.ensures.made c.in_ok-store.ensures.held c.in_ok-store.ensures.cut
    c.in_ok-store.ensures.keeps c.in_ok-store.ensures.durable journal_error.Volume _ c.in_ok-store.ensures.call
