use Rattle.std.proofs.Common.{ℕ, List, inl, inr, refl, arith}
use Rattle.codec_base.specs.Parts.{whole}
use Rattle.journal_base.specs.View.{seen_of, log_of}
use Rattle.chain_core.specs.declared.error.DataFault.TheVariants.{NoTip}
use Rattle.chain_core.specs.declared.error.Error.TheVariants.{DataCorrupted}
use Rattle.compact_db.proofs.BeginLemmas.{uncalled}
use Rattle.compact_db.proofs.OpenLemmas.{empty_log}
use Rattle.compact_db.proofs.database.CompactDb.opened_from.Goals as goal

pub returns-then-start-gt0-clause-opens : goal.returns-then-start-gt0-clause-opens
returns-then-start-gt0-clause-opens g c =
    let view = seen_of c.args.recovery in
    let decoded = λ (bytes : List ℕ). whole (g.O.Read.reads c.args.codec bytes) in
    let old = g.V.Volume.state c.args.vol.now in
    uncalled g.row.F.Denot g.row.O-Cfg.Denot g.F.Family.shape g.H.Hasher.hash g.O.Logged.meaning g.H.Digest.Spelled.spelling (g.H.Digest.Read.admits tt) decoded (g.O.Read.admits c.args.codec) view c.args.cap g.V.Volume.tells (DataCorrupted NoTip) old (λ is. absurd cc) (λ told.
    let held = c.requires.held told in
    let a = held.start_is in
    let b = held.end_is in
    let start = c.bounds-start.ensures.start in
    let end = c.bounds-start.ensures.end in
    inr (inl (omega (arith, a, start, c.if-start-gt0.true), empty_log (log_of view old) (omega (arith, a, b, start, end, c.if-start-end.false)), refl)))
    (inr (inl refl))

pub returns-clause-opens : goal.returns-clause-opens
returns-clause-opens g c = c.begun.ensures.opens c.args.cap
