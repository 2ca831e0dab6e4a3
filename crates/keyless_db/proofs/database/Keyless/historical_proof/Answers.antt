use Rattle.std.proofs.Common.{◌≡◌, ◌⊎◌, ◌-◌, ◌≤◌, ◌<◌, length, Some, None, inl, inr, refl, sym, ◌∙◌, ap, subst, arith}
use Rattle.std.specs.Prelude.{slice_get}
use Rattle.std.specs.NonZero.{non_zero_u64_get}
use Rattle.journal_base.specs.Items.{Items, items_of}
use Rattle.merkle_full.proofs.ListLemmas.{there_is}
use Rattle.tree_store.specs.declared.error.Error.TheVariants as tree
use Rattle.auth_journal.specs.Reading.{AreAdmitted}
use Rattle.auth_journal.specs.declared.error.Error.TheVariants as joined
use Rattle.log_model.specs.Proofs.{proof_answer, proof_end, proof_refusal}
use Rattle.log_model.specs.Reads.{or_else, unless_refused}
use Rattle.log_model.specs.declared.refusal.Refusal.TheVariants.{RangeOutOfBounds}
use Rattle.keyless_db.specs.DbView.{DbView}
use Rattle.keyless_db.specs.Reading.{floor_refusal, late_refusal}
use Rattle.keyless_db.proofs.ProofLemmas.{corrupt_still, floor_corrupt, floor_error, floor_lacks, floor_stops, floorless_too, range_corrupt, split_refusal, size_refused, under_error}
use Rattle.keyless_db.proofs.SeveralLemmas.{answers_by, refused_by, refused_ok}
use Rattle.keyless_db.proofs.StillLemmas.{held_size, held_still}
use Rattle.keyless_db.proofs.database.Keyless.historical_proof.Goals as goal
use Rattle.keyless_db.proofs.database.Keyless.historical_proof.Goals.{then-count-eq0-via-then-count-eq0, then-count-eq0-via-else-count-eq0+then-count-as_u64}

pub returns-then-count-eq0-clause-answer : goal.returns-then-count-eq0-clause-answer
returns-then-count-eq0-clause-answer g c tells ops held all =
    let n = c.args.op_count in
    let size : c.self.inside.state.size ≡ length ops = ap (λ (d : DbView g.row.F.Denot g.row.H-Digest.Denot g.row.O.Denot g.row.O-Cfg.Denot). d.state.size) c.self.view_is ∙ held_size held in
    let why : (n ≡ 0) ⊎ (length ops < n) = elim c.then-count-eq0.branch [
      | then-count-eq0-via-then-count-eq0 w ↦ inl (omega (arith, w.if-count-eq0.true, c.as_u64-count.ensures))
      | then-count-eq0-via-else-count-eq0+then-count-as_u64 w ↦ inr (omega (arith, w.if-count-as_u64.true, w.as_u64.ensures, c.as_u64-count.ensures, size))
    ] in
    let e : c.new.result ≡ n = c.new.ensures ∙ c.as_u64-count.ensures in
    inr (RangeOutOfBounds n, refused_by _ _ (RangeOutOfBounds n) (size_refused g.O.Logged.meaning ops c.args.self.now.journal.items.start n c.args.start why), ap (λ k. Some (RangeOutOfBounds k)) e)

pub returns-in-Ok-clause-answer : goal.returns-in-Ok-clause-answer
returns-in-Ok-clause-answer g c tells ops held all =
    let db = c.args.self.now in
    let m = g.O.Logged.meaning in
    let n = c.args.op_count in
    let count = c.as_u64-count.result in
    let start = db.journal.items.start in
    let same : count ≡ n = c.as_u64-count.ensures in
    let size : c.self.inside.state.size ≡ length ops = ap (λ (d : DbView g.row.F.Denot g.row.H-Digest.Denot g.row.O.Denot g.row.O-Cfg.Denot). d.state.size) c.self.view_is ∙ held_size held in
    let some : 0 < n = omega (arith, c.if-count-eq0.false, same) in
    let high : n ≤ length ops = omega (arith, c.if-count-as_u64.false, c.as_u64.ensures, same, size) in
    let entry = there_is ops (n - 1) (omega (arith, some, high)) in
    let at : slice_get ops (count - 1) ≡ Some entry.0 = ap (λ k. slice_get ops (k - 1)) same ∙ entry.1 in
    let may = all (n - 1) entry.0 (inl refl) entry.1 in
    let told = refused_ok (floor_refusal start count (m.floor entry.0)) (m.floor entry.0) (Some c.in-Ok.floor) (c.in-Ok.ensures.floor tells ops entry.0 held at may) in
    let none : floor_refusal start n (m.floor entry.0) ≡ None = ap (λ k. floor_refusal start k (m.floor entry.0)) (sym same) ∙ told.0 in
    let later = held_still g.F.Family.shape g.H.Hasher.hash m g.H.Digest.Spelled.spelling (g.H.Digest.Read.admits tt) g.O.Spelled.spelling ops db _ _ (c.in-Ok.ensures.reads.contents tells) held in
    let answer = c.proof_under.ensures.answer tells ops entry.0 later
    (subst (λ k. AreAdmitted (g.O.Read.admits db.journal.items.codec) ops c.args.start (proof_end k c.args.start (non_zero_u64_get c.args.max_ops))) (sym same) (λ p op low high is. all p op (inr (low, high)) is))
    at told.1 in
    let split : proof_refusal m ops start n c.args.start ≡ late_refusal start n c.args.start =
    split_refusal m ops start n c.args.start some high entry.0 entry.1 ∙ ap (λ o. or_else o (late_refusal start n c.args.start)) none in
    answers_by _ _ _ c.proof_under.result
    (ap (λ k. unless_refused (late_refusal start k c.args.start) (proof_answer g.F.Family.shape g.H.Hasher.hash m ops k c.args.start (proof_end k c.args.start (non_zero_u64_get c.args.max_ops)))) same
    ∙ ap (λ o. unless_refused o (proof_answer g.F.Family.shape g.H.Hasher.hash m ops n c.args.start (proof_end n c.args.start (non_zero_u64_get c.args.max_ops)))) (sym split)) answer

pub returns-in-Err-clause-answer : goal.returns-in-Err-clause-answer
returns-in-Err-clause-answer g c tells ops held all =
    let db = c.args.self.now in
    let m = g.O.Logged.meaning in
    let n = c.args.op_count in
    let count = c.as_u64-count.result in
    let start = db.journal.items.start in
    let same : count ≡ n = c.as_u64-count.ensures in
    let size : c.self.inside.state.size ≡ length ops = ap (λ (d : DbView g.row.F.Denot g.row.H-Digest.Denot g.row.O.Denot g.row.O-Cfg.Denot). d.state.size) c.self.view_is ∙ held_size held in
    let some : 0 < n = omega (arith, c.if-count-eq0.false, same) in
    let high : n ≤ length ops = omega (arith, c.if-count-as_u64.false, c.as_u64.ensures, same, size) in
    let entry = there_is ops (n - 1) (omega (arith, some, high)) in
    let at : slice_get ops (count - 1) ≡ Some entry.0 = ap (λ k. slice_get ops (k - 1)) same ∙ entry.1 in
    let may = all (n - 1) entry.0 (inl refl) entry.1 in
    let split : proof_refusal m ops start n c.args.start ≡ or_else (floor_refusal start count (m.floor entry.0)) (late_refusal start n c.args.start) =
    split_refusal m ops start n c.args.start some high entry.0 entry.1 ∙ ap (λ k. or_else (floor_refusal start k (m.floor entry.0)) (late_refusal start n c.args.start)) (sym same) in
    floor_stops (proof_refusal m ops start n c.args.start) (floor_refusal start count (m.floor entry.0)) (late_refusal start n c.args.start) (m.floor entry.0) _ c.in-Err.error split
    (c.in-Err.ensures.floor tells ops entry.0 held at may)

pub returns-in-Ok-clause-corrupt : goal.returns-in-Ok-clause-corrupt
returns-in-Ok-clause-corrupt g c tells ops held p at =
    let db = c.args.self.now in
    let a = g.V.Volume.state c.args.vol.now in
    let still = c.in-Ok.ensures.reads.contents tells in
    let later = held_still g.F.Family.shape g.H.Hasher.hash g.O.Logged.meaning g.H.Digest.Spelled.spelling (g.H.Digest.Read.admits tt) g.O.Spelled.spelling ops db _ _ still held in
    let bad = c.proof_under.ensures.corrupt tells ops later p at in
    let items : Items g.row.O.Denot = items_of g.O.Spelled.spelling g.O.Read.admits db.journal.items a in
    range_corrupt items c.as_u64-count.result c.args.op_count c.args.start (non_zero_u64_get c.args.max_ops) p c.as_u64-count.ensures bad.0
    (corrupt_still g.O.Spelled.spelling g.O.Read.admits db.journal.items _ _ p still bad.1)

pub returns-in-Err-clause-corrupt : goal.returns-in-Err-clause-corrupt
returns-in-Err-clause-corrupt g c tells ops held p at =
    let items : Items g.row.O.Denot = items_of g.O.Spelled.spelling g.O.Read.admits c.args.self.now.journal.items (g.V.Volume.state c.args.vol.now) in
    floor_corrupt g.V.Volume.tells g.O.Logged.meaning items c.as_u64-count.result c.args.op_count c.as_u64-count.ensures c.in-Err.error c.args.start (non_zero_u64_get c.args.max_ops) p tells c.in-Err.ensures.fault at

pub returns-in-Ok-clause-no_commit : goal.returns-in-Ok-clause-no_commit
returns-in-Ok-clause-no_commit g c n at = absurd (c.proof_under.ensures.no_commit n at)

pub returns-in-Err-clause-no_commit : goal.returns-in-Err-clause-no_commit
returns-in-Err-clause-no_commit g c n at =
    let items : Items g.row.O.Denot = items_of g.O.Spelled.spelling g.O.Read.admits c.args.self.now.journal.items (g.V.Volume.state c.args.vol.now) in
    floor_lacks g.V.Volume.tells g.O.Logged.meaning items c.as_u64-count.result c.args.op_count c.as_u64-count.ensures c.in-Err.error n c.in-Err.ensures.fault at

pub returns-then-count-eq0-clause-errors : goal.returns-then-count-eq0-clause-errors
returns-then-count-eq0-clause-errors g c = inl (joined.Merkle (tree.RangeOutOfBounds c.new.result), refl, tt)

pub returns-in-Ok-clause-errors : goal.returns-in-Ok-clause-errors
returns-in-Ok-clause-errors g c = under_error c.args.op_count c.proof_under.result c.proof_under.ensures.errors

pub returns-in-Err-clause-errors : goal.returns-in-Err-clause-errors
returns-in-Err-clause-errors g c =
    let items : Items g.row.O.Denot = items_of g.O.Spelled.spelling g.O.Read.admits c.args.self.now.journal.items (g.V.Volume.state c.args.vol.now) in
    floor_error c.args.op_count g.V.Volume.tells g.O.Logged.meaning items c.as_u64-count.result c.in-Err.error c.as_u64-count.ensures c.in-Err.ensures.fault

pub returns-in-Ok-clause-uncounted : goal.returns-in-Ok-clause-uncounted
returns-in-Ok-clause-uncounted g c n at = absurd (c.proof_under.ensures.no_commit n at)

pub returns-in-Err-clause-uncounted : goal.returns-in-Err-clause-uncounted
returns-in-Err-clause-uncounted g c n at = c.in-Err.ensures.uncounted n (floorless_too c.in-Err.error n at)
