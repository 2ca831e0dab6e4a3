use Rattle.std.proofs.Common.{ℕ, List, [], ◌∷◌, length, Result, inl, sym, ◌∙◌, ap, subst}
use Rattle.codec_base.specs.Parts.{whole}
use Rattle.journal_base.specs.View.{seen_of}
use Rattle.chain_core.specs.declared.error.Error.{Error}
use Rattle.compact_db.specs.DbView.{DbView}
use Rattle.compact_db.specs.Opening.{IsFirstCommit, Opens}
use Rattle.compact_db.specs.StateOf.{IsStateOf}
use Rattle.compact_db.proofs.BeginLemmas.{memory_not, memory_out, uncalled, begins_not, begins}
use Rattle.compact_db.proofs.HeldLemmas.{allowed_tip}
use Rattle.compact_db.proofs.StartLemmas.{err_is}
use Rattle.compact_db.proofs.database.CompactDb.begun.Goals as goal

pub returns-in_err-first-clause-opens : goal.returns-in_err-first-clause-opens
returns-in_err-first-clause-opens g c cap =
    let view = seen_of c.args.recovery in
    let decoded = λ (bytes : List ℕ). whole (g.O.Read.reads c.args.codec bytes) in
    let old = g.V.Volume.state c.args.vol.now in
    subst (λ (r : Result (DbView g.row.F.Denot g.row.H-Digest.Denot g.row.O.Denot g.row.O-Cfg.Denot) (Error g.row.F.Denot)). Opens g.F.Family.shape g.H.Hasher.hash g.O.Logged.meaning g.H.Digest.Spelled.spelling (g.H.Digest.Read.admits tt) decoded (g.O.Read.admits c.args.codec) view cap g.V.Volume.tells old old r)
    (sym (err_is c.from_residual.result c.in_err-first.field-0.0 c.from_residual.ensures.1))
    (uncalled g.row.F.Denot g.row.O-Cfg.Denot g.F.Family.shape g.H.Hasher.hash g.O.Logged.meaning g.H.Digest.Spelled.spelling (g.H.Digest.Read.admits tt) decoded (g.O.Read.admits c.args.codec) view cap g.V.Volume.tells c.in_err-first.field-0.0 old (memory_not c.in_err-first.field-0.0 c.in_err-first.ensures.memory)
    (λ told. inl (memory_out c.in_err-first.field-0.0 c.in_err-first.ensures.memory)) (inl (memory_out c.in_err-first.field-0.0 c.in_err-first.ensures.memory)))

pub returns-in_err-store-clause-opens : goal.returns-in_err-store-clause-opens
returns-in_err-store-clause-opens g c cap =
    let view = seen_of c.args.recovery in
    let decoded = λ (bytes : List ℕ). whole (g.O.Read.reads c.args.codec bytes) in
    let old = g.V.Volume.state c.args.vol.now in
    let new = g.V.Volume.state c.first_kept.new.vol in
    let m = g.O.Logged.meaning in
    let first = c.in_ok-first.first in
    let same = c.in_ok-first.ensures.commit in
    let is = subst (λ (x : g.row.O.Denot). IsStateOf g.F.Family.shape g.H.Hasher.hash m (x ∷ []) first.tip first.merkle x) (sym same) c.in_ok-first.ensures.list in
    let commits : IsFirstCommit m first.commit = record { floored = ap m.floor same ∙ c.commit.ensures.floor; valued = ap m.value same ∙ c.commit.ensures.value } in
    subst (λ (r : Result (DbView g.row.F.Denot g.row.H-Digest.Denot g.row.O.Denot g.row.O-Cfg.Denot) (Error g.row.F.Denot)). Opens g.F.Family.shape g.H.Hasher.hash g.O.Logged.meaning g.H.Digest.Spelled.spelling (g.H.Digest.Read.admits tt) decoded (g.O.Read.admits c.args.codec) view cap g.V.Volume.tells old new r)
    (sym (err_is c.from_residual-in_err-store.result _ c.from_residual-in_err-store.ensures.1))
    (begins_not g.row.F.Denot g.row.O-Cfg.Denot g.F.Family.shape g.H.Hasher.hash g.O.Logged.meaning g.H.Digest.Spelled.spelling (g.H.Digest.Read.admits tt) decoded (g.O.Read.admits c.args.codec) view cap g.V.Volume.tells g.met.F.Family.lawful first.commit commits first.tip first.merkle is old new c.requires.empty c.in_err-store.ensures.log
    c.in_err-store.field-0.0 c.in_err-store.ensures.errors c.in_err-store.ensures.any c.in_err-store.ensures.writes)

pub returns-clause-opens : goal.returns-clause-opens
returns-clause-opens g c cap =
    let view = seen_of c.args.recovery in
    let decoded = λ (bytes : List ℕ). whole (g.O.Read.reads c.args.codec bytes) in
    let old = g.V.Volume.state c.args.vol.now in
    let new = g.V.Volume.state c.first_kept.new.vol in
    let s = g.F.Family.shape in
    let h = g.H.Hasher.hash in
    let m = g.O.Logged.meaning in
    let first = c.in_ok-first.first in
    let same = c.in_ok-first.ensures.commit in
    let is = subst (λ (x : g.row.O.Denot). IsStateOf s h m (x ∷ []) first.tip first.merkle x) (sym same) c.in_ok-first.ensures.list in
    let commits : IsFirstCommit m first.commit = record { floored = ap m.floor same ∙ c.commit.ensures.floor; valued = ap m.value same ∙ c.commit.ensures.value } in
    let hashed = λ (bytes : List ℕ). g.met.H.Digest.Digest.allowed (h.digest bytes) (ap length (sym (g.met.H.Hasher.same_bytes (h.digest bytes))) ∙ g.met.H.Hasher.one_size bytes) in
    let allowed = allowed_tip s h m g.met.F.Family.lawful g.met.F.Family.few_peaks (g.H.Digest.Read.admits tt) hashed (first.commit ∷ []) first.tip first.merkle first.commit is c.in_ok-store.ensures.short in
    begins g.row.F.Denot g.row.O-Cfg.Denot g.F.Family.shape g.H.Hasher.hash g.O.Logged.meaning g.H.Digest.Spelled.spelling (g.H.Digest.Read.admits tt) decoded (g.O.Read.admits c.args.codec) view cap g.V.Volume.tells g.met.F.Family.lawful first.commit commits first.tip first.merkle is old new c.requires.empty c.in_ok-store.ensures.log
    c.in_ok-store.store c.args.codec c.in_ok-store.ensures.made c.in_ok-store.ensures.held c.in_ok-store.ensures.written (λ told. c.in_ok-store.ensures.keeps told allowed)
    c.in_ok-store.ensures.durable c.in_ok-store.ensures.writes
