use Rattle.std.proofs.Common.{◌≡◌, ◌⊎◌, Some, sym, subst}
use Rattle.volume_base.specs.declared.error.JournalError.TheVariants.{Corruption}
use Rattle.journal_base.specs.Items.{Items, items_of}
use Rattle.target_codec.specs.Request.{size_of, start_of}
use Rattle.target_codec.specs.declared.request.Request.{Request}
use Rattle.log_model.specs.Proofs.{proof_refusal}
use Rattle.log_model.specs.declared.refusal.Refusal.{Refusal}
use Rattle.chain_core.specs.Answers.{IsOutside, read_refusal_of}
use Rattle.chain_core.specs.declared.error.Error.TheVariants as db_error
use Rattle.keyless_db.specs.Reading.{AreAdmittedFor, IsCorruptFor}
use Rattle.keyless_db.specs.Serving.{most_of}
use Rattle.keyless_db.proofs.SealedLemmas.{same_error, serves_refused}
use Rattle.keyless_db.proofs.database.Keyless.serve.Goals as goal

pub returns-in-Err-clause-corrupt : goal.returns-in-Err-clause-corrupt
returns-in-Err-clause-corrupt g c tells ops held p at =
    let items : Items g.row.O.Denot = items_of g.O.Spelled.spelling g.O.Read.admits c.args.self.now.journal.items (g.V.Volume.state c.args.vol.now) in
    subst (λ (r : Request g.row.F.Denot). IsCorruptFor items (size_of r) (start_of r) (most_of r) p) (sym c.in-Operations.is)
    (c.in-Err.ensures.corrupt tells ops held p (same_error c.in-Err.error (db_error.Journal (Corruption p)) at))

pub returns-in-Boundary-clause-corrupt : goal.returns-in-Boundary-clause-corrupt
returns-in-Boundary-clause-corrupt g c tells ops held p at =
    let items : Items g.row.O.Denot = items_of g.O.Spelled.spelling g.O.Read.admits c.args.self.now.journal.items (g.V.Volume.state c.args.vol.now) in
    subst (λ (r : Request g.row.F.Denot). IsCorruptFor items (size_of r) (start_of r) (most_of r) p) (sym c.in-Boundary.is) (c.serve_boundary.ensures.corrupt tells ops held p at)

pub returns-in-Err-clause-answer : goal.returns-in-Err-clause-answer
returns-in-Err-clause-answer g c tells ops held all =
    let db = c.args.self.now in
    let m = g.O.Logged.meaning in
    let e = c.in-Err.error in
    let may = subst (λ (r : Request g.row.F.Denot). AreAdmittedFor (g.O.Read.admits db.journal.items.codec) ops (size_of r) (start_of r) (most_of r)) c.in-Operations.is all in
    subst (λ (r : Request g.row.F.Denot). IsOutside e ⊎ ((w : Refusal) × (proof_refusal m ops db.journal.items.start (size_of r) (start_of r) ≡ Some w) × (read_refusal_of e ≡ Some w))) (sym c.in-Operations.is)
    (serves_refused _ _ e (c.in-Err.ensures.answer tells ops held may))
