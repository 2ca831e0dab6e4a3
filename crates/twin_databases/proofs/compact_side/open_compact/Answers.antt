use Rattle.std.proofs.Common.{sym, subst}
use Rattle.std.specs.Prelude.{string_bytes}
use Rattle.std.proofs.lemmas.Result.{IfOk-weaker}
use Rattle.volume_base.specs.Names.{log_alone, NamesCall}
use Rattle.volume_base.proofs.CallLemmas.{names_call_none}
use Rattle.journal_base.specs.View.{config_of}
use Rattle.compact_db.specs.DbView.{seen_log}
use Rattle.compact_db.specs.Import.{journal_of}
use Rattle.compact_db.proofs.ServingLemmas.{and_ok}
use Rattle.twin_databases.proofs.CompactLemmas.{same_blob, same_failed}
use Rattle.twin_databases.proofs.CompactOpening.{either_cap, opened_fresh, opened_held}
use Rattle.twin_databases.proofs.CompactImages.{state_left, left_alone}
use Rattle.twin_databases.proofs.CompactRefusing.{read_again, fresh_not, state_not}
use Rattle.twin_databases.proofs.CompactStanding.{opened_state}
use Rattle.twin_databases.proofs.KeptFronts.{witnesses_keep}
use Rattle.twin_databases.proofs.compact_side.open_compact.Goals as goal

pub returns-clause-fresh : goal.returns-clause-fresh
returns-clause-fresh g c = λ capped told none. opened_fresh _ _ _ _ _ _ _ c.init.result (c.init.ensures.opens capped) told none

pub returns-clause-held : goal.returns-clause-held
returns-clause-held g c = λ capped told. opened_held _ _ _ _ _ _ _ c.init.result (c.init.ensures.opens capped) told

pub returns-clause-opened : goal.returns-clause-opened
returns-clause-opened g c = λ told. opened_state _ _ _ _ _ _ _ c.init.result c.init.ensures.opens told

pub returns-clause-names : goal.returns-clause-names
returns-clause-names g c = λ told.
    let state = g.V.Volume.state in
    let names = log_alone (string_bytes c.args.cfg.witness) in
    either_cap c.args.cap (NamesCall names (state c.args.volume.now) (state c.init.new.vol))
    (λ none. subst (λ v. NamesCall names (state c.args.volume.now) (state v)) (sym (c.init.ensures.bound none).1) (names_call_none _ _))
    (λ capped. (c.init.ensures.opens capped).names told)

pub returns-clause-fresh_refused : goal.returns-clause-fresh_refused
returns-clause-fresh_refused g c = λ capped told none. fresh_not _ _ (read_again c.args.cfg.commit_codec) _ _ _ _ _ c.init.result (c.init.ensures.opens capped) told none

pub returns-clause-refused : goal.returns-clause-refused
returns-clause-refused g c = λ told. state_not _ _ (read_again c.args.cfg.commit_codec) _ _ _ _ _ c.init.result c.init.ensures.opens told

pub returns-clause-errors : goal.returns-clause-errors
returns-clause-errors g c = λ capped. (c.init.ensures.opens capped).errors

pub returns-clause-images : goal.returns-clause-images
returns-clause-images g c = λ told. state_left _ _ _ _ _ _ _ c.init.result c.init.ensures.opens told

pub returns-clause-durable : goal.returns-clause-durable
returns-clause-durable g c = λ capped told. left_alone _ _ _ _ _ _ _ c.init.result (c.init.ensures.opens capped) told

pub returns-clause-under : goal.returns-clause-under
returns-clause-under g c = λ capped.
    and_ok c.init.result _ _
    (IfOk-weaker c.init.result _ _
    (λ db log. same_blob (config_of (journal_of c.args.cfg)) (seen_log db.log) log.same)
    (c.init.ensures.opens capped).log) c.init.ensures.codec

pub returns-clause-sound : goal.returns-clause-sound
returns-clause-sound g c = λ capped.
    IfOk-weaker c.init.result _ _
    (λ db log. same_failed (config_of (journal_of c.args.cfg)) (seen_log db.log) log.same)
    (c.init.ensures.opens capped).log

pub returns-clause-witnesses : goal.returns-clause-witnesses
returns-clause-witnesses g c = λ capped. witnesses_keep _ _ _ _ _ _ _ c.init.result (c.init.ensures.opens capped)
