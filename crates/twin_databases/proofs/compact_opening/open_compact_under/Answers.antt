use Rattle.std.proofs.Common.{◌≢◌, inl, ℕ, List, Option, Some, sym, subst}
use Rattle.std.specs.Prelude.{IfOk, IfErr, string_bytes}
use Rattle.codec_base.specs.declared.parts.LengthCfg.{LengthCfg}
use Rattle.chain_core.specs.declared.error.Error.TheVariants as error
use Rattle.volume_base.specs.Names.{log_alone, NamesCall}
use Rattle.volume_base.specs.Volume.{Changes}
use Rattle.volume_base.specs.Moments.{LogLeft}
use Rattle.volume_base.proofs.CallLemmas.{names_call_none}
use Rattle.volume_base.proofs.JoinLemmas.{went_none}
use Rattle.volume_base.proofs.TurnLemmas.{keeps_none}
use Rattle.tree_shape.specs.Mmr.{mmr}
use Rattle.tree_shape.specs.Sha256Codec.{bytes_of}
use Rattle.tree_shape.specs.declared.sha256.Sha256Digest.{Sha256Digest}
use Rattle.log_model.specs.Stored.{CompactStands}
use Rattle.compact_db.specs.Opening.{IsOpeningFault}
use Rattle.list_machine.specs.Operation.{meaning, sha}
use Rattle.list_machine.specs.Starts.{compact_names}
use Rattle.twin_databases.specs.CompactKind.{compact_kind}
use Rattle.twin_databases.specs.OpeningErrors.{decoded_under}
use Rattle.twin_databases.specs.Reopening.{KeepsWitnesses}
use Rattle.twin_databases.proofs.CompactOpening.{either_cap}
use Rattle.twin_databases.proofs.CompactUnder.{capped_ok, unchanged, under_durable, under_images, under_names, under_opened, under_standing, under_under}
use Rattle.twin_databases.proofs.WentLemmas.{changes_err}
use Rattle.twin_databases.proofs.compact_opening.open_compact_under.Goals as goal

-- ---- there is no memory for the configuration

pub returns-in_default-clause-standing : goal.returns-in_default-clause-standing
returns-in_default-clause-standing g c told s most is one high good stands = tt

pub returns-in_default-clause-names : goal.returns-in_default-clause-names
returns-in_default-clause-names g c told =
    names_call_none (compact_names c.args.config.now) (g.V.Volume.state c.args.volume.now)

pub returns-in_default-clause-changes : goal.returns-in_default-clause-changes
returns-in_default-clause-changes g c =
    let old = g.V.Volume.state c.args.volume.now in
    changes_err g.V.Volume.tells error.Volume error.Memory old old (λ e. cc) (went_none g.V.Volume.tells old)

pub returns-in_default-clause-errors : goal.returns-in_default-clause-errors
returns-in_default-clause-errors g c some = inl tt

-- ---- it is opened, or refused

pub returns-clause-opened : goal.returns-clause-opened
returns-clause-opened g c =
    under_opened g.V.Volume.tells c.args.config.now c.in-Ok.ensures.within c.in-Ok.cfg.commit_codec
    c.in-Ok.ensures.codec (string_bytes c.in-Ok.cfg.witness) c.in-Ok.ensures.witness c.cap_of.result c.args.cap c.cap_of.ensures
    (g.V.Volume.state c.args.volume.now) (g.V.Volume.state c.open_compact.new.volume) c.open_compact.result
    c.open_compact.ensures.opened

pub returns-clause-standing : goal.returns-clause-standing
returns-clause-standing g c =
    under_standing g.V.Volume.tells c.args.config.now c.in-Ok.ensures.within c.in-Ok.cfg.commit_codec
    c.in-Ok.ensures.codec (string_bytes c.in-Ok.cfg.witness) c.in-Ok.ensures.witness c.cap_of.result c.args.cap
    c.cap_of.ensures (g.V.Volume.state c.args.volume.now) c.open_compact.result c.open_compact.ensures.refused

pub returns-clause-under : goal.returns-clause-under
returns-clause-under g c =
    under_under c.args.config.now _ _ c.in-Ok.ensures.blob c.in-Ok.ensures.codec c.open_compact.result
    (capped_ok c.cap_of.result c.open_compact.result _ (λ none. (c.open_compact.ensures.bound none).0)
    c.open_compact.ensures.under)

pub returns-clause-sound : goal.returns-clause-sound
returns-clause-sound g c =
    capped_ok c.cap_of.result c.open_compact.result compact_kind.is_sound
    (λ none. (c.open_compact.ensures.bound none).0) c.open_compact.ensures.sound

pub returns-clause-durable : goal.returns-clause-durable
returns-clause-durable g c =
    capped_ok c.cap_of.result c.open_compact.result _ (λ none. (c.open_compact.ensures.bound none).0)
    (λ capped. under_durable g.V.Volume.tells (string_bytes c.in-Ok.cfg.witness)
    (g.V.Volume.state c.open_compact.new.volume) c.open_compact.result c.open_compact.ensures.same_names
    (c.open_compact.ensures.durable capped))

pub returns-clause-names : goal.returns-clause-names
returns-clause-names g c told =
    let old = g.V.Volume.state c.args.volume.now in
    let new = g.V.Volume.state c.open_compact.new.volume in
    subst (λ name. NamesCall (log_alone name) old new) c.in-Ok.ensures.witness (c.open_compact.ensures.names told)

pub returns-clause-same_names : goal.returns-clause-same_names
returns-clause-same_names g c =
    under_names c.args.config.now (string_bytes c.in-Ok.cfg.witness) c.in-Ok.ensures.witness c.open_compact.result
    c.open_compact.ensures.same_names

pub returns-clause-changes : goal.returns-clause-changes
returns-clause-changes g c =
    let old = c.args.volume.now in
    let new = c.open_compact.new.volume in
    either_cap c.cap_of.result
    (Changes g.V.Volume.tells error.Volume (g.V.Volume.state old) (g.V.Volume.state new) c.open_compact.result)
    (λ none. let bound = c.open_compact.ensures.bound none in
    subst (λ v. Changes g.V.Volume.tells error.Volume (g.V.Volume.state old) (g.V.Volume.state v) c.open_compact.result)
    (sym bound.1) (unchanged g.V.Volume.tells (g.V.Volume.state old) c.open_compact.result bound.0))
    c.open_compact.ensures.changes

-- ---- on any contents

pub returns-clause-errors : goal.returns-clause-errors
returns-clause-errors g c =
    subst (λ (cap : Option ℕ). cap ≢ Some 0 → IfErr c.open_compact.result
    (IsOpeningFault Sha256Digest mmr meaning (decoded_under c.args.config.now.value_limit) cap)) c.cap_of.ensures
    (subst (λ (codec : LengthCfg). c.cap_of.result ≢ Some 0 → IfErr c.open_compact.result
    (IsOpeningFault Sha256Digest mmr meaning (decoded_under codec.max) c.cap_of.result)) c.in-Ok.ensures.codec
    c.open_compact.ensures.errors)

pub returns-clause-witnesses : goal.returns-clause-witnesses
returns-clause-witnesses g c =
    let old = g.V.Volume.state c.args.volume.now in
    let new = g.V.Volume.state c.open_compact.new.volume in
    subst (λ (cap : Option ℕ). cap ≢ Some 0 → IfOk c.open_compact.result (λ db. g.V.Volume.tells
    → KeepsWitnesses cap db.tip.witness.size (old.log c.args.config.now.witness)
    (new.log c.args.config.now.witness)))
    c.cap_of.ensures
    (subst (λ (name : List ℕ). c.cap_of.result ≢ Some 0 → IfOk c.open_compact.result (λ db. g.V.Volume.tells
    → KeepsWitnesses c.cap_of.result db.tip.witness.size (old.log name) (new.log name))) c.in-Ok.ensures.witness
    c.open_compact.ensures.witnesses)

-- ---- what a crash leaves

pub returns-in_default-clause-images : goal.returns-in_default-clause-images
returns-in_default-clause-images g c told s most is one high good stands has =
    keeps_none (LogLeft c.args.config.now.witness)
    (CompactStands mmr sha bytes_of meaning s.ops s.sizes s.prune s.durable) (g.V.Volume.state c.args.volume.now) has

pub returns-clause-images : goal.returns-clause-images
returns-clause-images g c =
    under_images g.V.Volume.tells c.args.config.now c.in-Ok.ensures.within c.in-Ok.cfg.commit_codec
    c.in-Ok.ensures.codec (string_bytes c.in-Ok.cfg.witness) c.in-Ok.ensures.witness c.cap_of.result c.args.cap
    c.cap_of.ensures (g.V.Volume.state c.args.volume.now) (g.V.Volume.state c.open_compact.new.volume)
    c.open_compact.ensures.images
