use Rattle.std.proofs.Common.{◌≡◌, ◌⊎◌, ◌-◌, sym, ◌∙◌, ap, subst}
use Rattle.std.specs.Prelude.{IfErr}
use Rattle.std.specs.NonZero.{non_zero_u64_get}
use Rattle.journal_base.specs.Items.{Items, items_of}
use Rattle.auth_journal.specs.Errors.{IsLifted}
use Rattle.log_model.specs.Proofs.{proof_answer, proof_end, proof_refusal}
use Rattle.log_model.specs.Reads.{unless_refused}
use Rattle.keyless_db.specs.DbView.{DbView}
use Rattle.chain_core.specs.declared.error.Error.TheVariants.{HistoricalFloorPruned}
use Rattle.keyless_db.specs.Errors.{IsFromJoined}
use Rattle.keyless_db.specs.Reading.{AreAdmittedFor, IsCorruptFor, IsNoCommitAt}
use Rattle.keyless_db.proofs.SeveralLemmas.{answers_by}
use Rattle.keyless_db.proofs.database.Keyless.proof.Goals as goal

pub returns-clause-answer : goal.returns-clause-answer
returns-clause-answer g c tells ops held all =
    let db = c.args.self.now in
    let m = g.O.Logged.meaning in
    let same : c.new-size.result ≡ db.state.size = c.new-size.ensures ∙ c.as_u64.ensures ∙ ap (λ (d : DbView g.row.F.Denot g.row.H-Digest.Denot g.row.O.Denot g.row.O-Cfg.Denot). d.state.size) c.self.view_is in
    answers_by _ _ _ c.historical_proof.result
    (ap (λ n. unless_refused (proof_refusal m ops db.journal.items.start n c.args.start) (proof_answer g.F.Family.shape g.H.Hasher.hash m ops n c.args.start (proof_end n c.args.start (non_zero_u64_get c.args.max_ops)))) same)
    (c.historical_proof.ensures.answer tells ops held
    (subst (λ n. AreAdmittedFor (g.O.Read.admits db.journal.items.codec) ops n c.args.start (non_zero_u64_get c.args.max_ops)) (sym same) all))

pub returns-clause-corrupt : goal.returns-clause-corrupt
returns-clause-corrupt g c tells ops held p at =
    let db = c.args.self.now in
    let same : c.new-size.result ≡ db.state.size = c.new-size.ensures ∙ c.as_u64.ensures ∙ ap (λ (d : DbView g.row.F.Denot g.row.H-Digest.Denot g.row.O.Denot g.row.O-Cfg.Denot). d.state.size) c.self.view_is in
    let items : Items g.row.O.Denot = items_of g.O.Spelled.spelling g.O.Read.admits db.journal.items (g.V.Volume.state c.args.vol.now) in
    subst (λ n. IsCorruptFor items n c.args.start (non_zero_u64_get c.args.max_ops) p) same (c.historical_proof.ensures.corrupt tells ops held p at)

pub returns-clause-no_commit : goal.returns-clause-no_commit
returns-clause-no_commit g c n at =
    let db = c.args.self.now in
    let same : c.new-size.result ≡ db.state.size = c.new-size.ensures ∙ c.as_u64.ensures ∙ ap (λ (d : DbView g.row.F.Denot g.row.H-Digest.Denot g.row.O.Denot g.row.O-Cfg.Denot). d.state.size) c.self.view_is in
    let items : Items g.row.O.Denot = items_of g.O.Spelled.spelling g.O.Read.admits db.journal.items (g.V.Volume.state c.args.vol.now) in
    subst (λ k. (n ≡ k) × (g.V.Volume.tells → IsNoCommitAt g.O.Logged.meaning items (k - 1))) same (c.historical_proof.ensures.no_commit n at)

pub returns-clause-errors : goal.returns-clause-errors
returns-clause-errors g c =
    let db = c.args.self.now in
    let same : c.new-size.result ≡ db.state.size = c.new-size.ensures ∙ c.as_u64.ensures ∙ ap (λ (d : DbView g.row.F.Denot g.row.H-Digest.Denot g.row.O.Denot g.row.O-Cfg.Denot). d.state.size) c.self.view_is in
    subst (λ n. IfErr c.historical_proof.result (λ e. IsFromJoined IsLifted e ⊎ (e ≡ HistoricalFloorPruned n))) same c.historical_proof.ensures.errors
