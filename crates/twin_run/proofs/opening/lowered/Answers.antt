use Rattle.std.proofs.Common.{ap, arith}
use Rattle.std.proofs.lemmas.Result.{IfOk-weaker}
use Rattle.volume_base.specs.Moments.{NamesLeft}
use Rattle.volume_base.specs.Names.{two_logs_and_map}
use Rattle.volume_base.proofs.TurnLemmas.{keeps_none}
use Rattle.chain_core.specs.declared.commitment.Commitment.{Commitment}
use Rattle.tree_shape.specs.declared.mmr.Mmr.{Mmr}
use Rattle.tree_shape.specs.declared.sha256.Sha256Digest.{Sha256Digest}
use Rattle.twin_databases.specs.FullKind.{full_kind}
use Rattle.twin_databases.specs.Standing.{NamesStandFor}
use Rattle.twin_databases.proofs.KeptFronts.{lower_keeps, same_keeps}
use Rattle.twin_run.proofs.Lowering.{lower_durable, lower_opened, lower_same, lower_standing}
use Rattle.twin_run.proofs.opening.lowered.Goals as goal

pub returns-then-size-as_u64-clause-opened : goal.returns-then-size-as_u64-clause-opened
returns-then-size-as_u64-clause-opened g c =
    lower_opened g.V.Volume.tells c.args.config.now c.args.size (g.V.Volume.state c.args.volume.now) c.args.full
    c.requires.names c.requires.rests (g.V.Volume.state c.open_full_under.new.volume) c.open_full_under.result
    c.open_full_under.ensures.opened

pub returns-then-size-as_u64-clause-standing : goal.returns-then-size-as_u64-clause-standing
returns-then-size-as_u64-clause-standing g c =
    lower_standing g.V.Volume.tells c.args.config.now c.args.size (g.V.Volume.state c.args.volume.now) c.args.full
    c.requires.names c.requires.rests c.open_full_under.result c.open_full_under.ensures.standing

pub returns-then-size-as_u64-clause-durable : goal.returns-then-size-as_u64-clause-durable
returns-then-size-as_u64-clause-durable g c =
    lower_durable g.V.Volume.tells (full_kind.is_synced c.args.full (g.V.Volume.state c.args.volume.now))
    (λ db. full_kind.is_synced db (g.V.Volume.state c.open_full_under.new.volume)) c.open_full_under.result
    c.open_full_under.ensures.durable

pub returns-else-size-as_u64-clause-opened : goal.returns-else-size-as_u64-clause-opened
returns-else-size-as_u64-clause-opened g c told list sizes start wstart is opens =
    let size = ap (λ (k : Commitment Mmr Sha256Digest). k.size) c.commitment.ensures in
    lower_same c.args.size (g.V.Volume.state c.args.volume.now) c.args.full
    (omega (arith, c.if-size-as_u64.false, c.as_u64.ensures, size)) list sizes start wstart is

-- ---- on any contents

pub returns-then-size-as_u64-clause-errors : goal.returns-then-size-as_u64-clause-errors
returns-then-size-as_u64-clause-errors g c = c.open_full_under.ensures.errors

pub returns-then-size-as_u64-clause-operations : goal.returns-then-size-as_u64-clause-operations
returns-then-size-as_u64-clause-operations g c =
    let config = c.args.config.now in
    let size = ap (λ (k : Commitment Mmr Sha256Digest). k.size) c.commitment.ensures in
    lower_keeps g.V.Volume.tells config.value_limit c.args.size c.args.full.state.size
    ((g.V.Volume.state c.args.volume.now).log config.log)
    ((g.V.Volume.state c.open_full_under.new.volume).log config.log)
    (omega (arith, c.if-size-as_u64.true, c.as_u64.ensures, size)) c.open_full_under.result
    c.open_full_under.ensures.some c.open_full_under.ensures.operations

pub returns-else-size-as_u64-clause-operations : goal.returns-else-size-as_u64-clause-operations
returns-else-size-as_u64-clause-operations g c told first same is =
    same_keeps c.args.config.now.value_limit c.args.size c.args.full.state.size first
    ((g.V.Volume.state c.args.volume.now).log c.args.config.now.log) same is

-- ---- what a crash leaves

pub returns-then-size-as_u64-clause-images : goal.returns-then-size-as_u64-clause-images
returns-then-size-as_u64-clause-images g c = c.open_full_under.ensures.images

pub returns-else-size-as_u64-clause-images : goal.returns-else-size-as_u64-clause-images
returns-else-size-as_u64-clause-images g c told s opens has =
    let config = c.args.config.now in
    keeps_none (NamesLeft (two_logs_and_map config.log config.nodes config.metadata))
    (NamesStandFor config.log config.nodes config.metadata s) (g.V.Volume.state c.args.volume.now) has

pub returns-then-size-as_u64-clause-settled : goal.returns-then-size-as_u64-clause-settled
returns-then-size-as_u64-clause-settled g c =
    IfOk-weaker c.open_full_under.result _ _ (λ db settled. λ told s opens has all. settled told s opens has)
    c.open_full_under.ensures.settled

pub returns-else-size-as_u64-clause-settled : goal.returns-else-size-as_u64-clause-settled
returns-else-size-as_u64-clause-settled g c told s opens has all = all
