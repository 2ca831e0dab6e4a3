use Rattle.std.proofs.Common.{inl, inr, ℕ, Option, refl, ap, subst}
use Rattle.std.specs.Prelude.{IfOk, IfErr}
use Rattle.codec_base.specs.declared.parts.LengthCfg.{LengthCfg}
use Rattle.volume_base.specs.Moments.{NamesLeft, present}
use Rattle.volume_base.specs.Names.{two_logs_and_map}
use Rattle.volume_base.proofs.TurnLemmas.{keeps_none}
use Rattle.auth_journal.specs.declared.error.Error.TheVariants as joined
use Rattle.twin_databases.specs.OpeningErrors.{IsOfFullOpening}
use Rattle.log_model.specs.Machine.{State}
use Rattle.list_machine.specs.Operation.{Operation}
use Rattle.twin_databases.specs.Reopening.{KeepsOperations}
use Rattle.twin_databases.specs.Standing.{KeepStanding, NamesStandFor, OpensGood, StandNow, settled_at}
use Rattle.twin_databases.proofs.FullOpening.{OpensHeld, OpensStanding, said_by}
use Rattle.twin_databases.proofs.full_opening.open_full_under.Goals as goal

pub returns-clause-opened : goal.returns-clause-opened
returns-clause-opened g c =
    let cfg = c.in-Ok.ensures in
    said_by (OpensHeld g.V.Volume.tells (present (g.V.Volume.state c.args.volume.now))
    (present (g.V.Volume.state c.open_full.new.volume)) c.open_full.result) _ _ _ _ _ _ _ _ _ _ cfg.log cfg.nodes
    cfg.metadata
    (ap (λ (l : LengthCfg). l.max) cfg.codec) c.cap_of.ensures c.open_full.ensures.held

pub returns-clause-standing : goal.returns-clause-standing
returns-clause-standing g c =
    let cfg = c.in-Ok.ensures in
    said_by (OpensStanding g.V.Volume.tells (present (g.V.Volume.state c.args.volume.now))
    (present (g.V.Volume.state c.open_full.new.volume)) c.open_full.result) _ _ _ _ _ _ _ _ _ _ cfg.log cfg.nodes
    cfg.metadata
    (ap (λ (l : LengthCfg). l.max) cfg.codec) c.cap_of.ensures c.open_full.ensures.standing

-- ---- on any contents

pub returns-in_default-clause-errors : goal.returns-in_default-clause-errors
returns-in_default-clause-errors g c = inl (inr (joined.Memory, refl, tt))

pub returns-clause-errors : goal.returns-clause-errors
returns-clause-errors g c =
    subst (λ (cap : Option ℕ). IfErr c.open_full.result (IsOfFullOpening cap)) c.cap_of.ensures
    c.open_full.ensures.errors

pub returns-clause-operations : goal.returns-clause-operations
returns-clause-operations g c =
    let cfg = c.in-Ok.ensures in
    let old = g.V.Volume.state c.args.volume.now in
    let new = g.V.Volume.state c.open_full.new.volume in
    said_by (λ log nodes metadata limit cap. IfOk c.open_full.result (λ db. g.V.Volume.tells
    → KeepsOperations limit cap db.state.size (old.log log) (new.log log))) _ _ _ _ _ _ _ _ _ _ cfg.log cfg.nodes
    cfg.metadata
    (ap (λ (l : LengthCfg). l.max) cfg.codec) c.cap_of.ensures c.open_full.ensures.operations

-- ---- what a crash leaves

pub returns-in_default-clause-images : goal.returns-in_default-clause-images
returns-in_default-clause-images g c told s opens has =
    let config = c.args.config.now in
    keeps_none (NamesLeft (two_logs_and_map config.log config.nodes config.metadata))
    (NamesStandFor config.log config.nodes config.metadata s) (g.V.Volume.state c.args.volume.now) has

pub returns-clause-images : goal.returns-clause-images
returns-clause-images g c =
    let cfg = c.in-Ok.ensures in
    let old = g.V.Volume.state c.args.volume.now in
    let new = g.V.Volume.state c.open_full.new.volume in
    said_by (λ log nodes metadata limit cap. g.V.Volume.tells → (s : State Operation) → OpensGood limit cap s
    → KeepStanding log nodes metadata s old new) _ _ _ _ _ _ _ _ _ _ cfg.log cfg.nodes cfg.metadata
    (ap (λ (l : LengthCfg). l.max) cfg.codec) c.cap_of.ensures c.open_full.ensures.images

pub returns-clause-settled : goal.returns-clause-settled
returns-clause-settled g c =
    let cfg = c.in-Ok.ensures in
    let old = g.V.Volume.state c.args.volume.now in
    let new = g.V.Volume.state c.open_full.new.volume in
    said_by (λ log nodes metadata limit cap. IfOk c.open_full.result (λ db. g.V.Volume.tells → (s : State Operation)
    → OpensGood limit cap s → StandNow log nodes metadata s old
    → StandNow log nodes metadata (settled_at s db.state.size) new)) _ _ _ _ _ _ _ _ _ _ cfg.log cfg.nodes cfg.metadata
    (ap (λ (l : LengthCfg). l.max) cfg.codec) c.cap_of.ensures c.open_full.ensures.settled
