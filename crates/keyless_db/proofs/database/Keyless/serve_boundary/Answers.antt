use Rattle.std.proofs.Common.{◌≡◌, ◌∷◌, [], ◌≤◌, length, map, List, inl, refl, sym, ◌∙◌, ap, arith}
use Rattle.volume_base.specs.declared.error.JournalError.TheVariants.{Corruption}
use Rattle.volume_base.proofs.ReadLemmas.{only_read_none, only_read_joins, reads_of}
use Rattle.tree_shape.specs.Shape.{peaks}
use Rattle.tree_shape.specs.Slow.{node_of}
use Rattle.tree_proof.specs.declared.proof.Proof.{Proof}
use Rattle.merkle_full.proofs.ListLemmas.{there_is}
use Rattle.auth_journal.proofs.LeafLemmas.{length-leaves_of}
use Rattle.log_model.specs.Operations.{leaves_from}
use Rattle.log_model.specs.Proofs.{proof_answer, proof_end, proof_refusal}
use Rattle.chain_core.specs.declared.error.Error.TheVariants as db_error
use Rattle.chain_core.specs.declared.error.Error.TheVariants.{Volume}
use Rattle.keyless_db.proofs.ProofLemmas.{one_operation, provable_at}
use Rattle.keyless_db.proofs.SealLemmas.{leaves_are}
use Rattle.keyless_db.proofs.SealedLemmas.{one_error, other_never, peaks_made, peaks_outside, peaks_there, same_error, serves_made, serves_refused, tree_floorless, tree_never}
use Rattle.keyless_db.proofs.SeveralLemmas.{refused_ok}
use Rattle.keyless_db.proofs.StillLemmas.{held_still, reads_err}
use Rattle.keyless_db.proofs.database.Keyless.serve_boundary.Goals as goal

pub returns-in-Err-pinned_nodes_at-clause-answer : goal.returns-in-Err-pinned_nodes_at-clause-answer
returns-in-Err-pinned_nodes_at-clause-answer g c tells ops held all =
    let s = g.F.Family.shape in
    let h = g.H.Hasher.hash in
    let m = g.O.Logged.meaning in
    let db = c.args.self.now in
    let told = refused_ok (proof_refusal m ops db.journal.items.start c.args.size c.args.start) _ _ (c.in-Ok.ensures.answer tells ops held all) in
    let may = provable_at m ops db.journal.items.start c.args.size c.args.start told.0 in
    let later = held_still s h m g.H.Digest.Spelled.spelling (g.H.Digest.Read.admits tt) g.O.Spelled.spelling ops db _ _ (c.in-Ok.ensures.reads.contents tells) held in
    let lifts = c.in-Err-pinned_nodes_at.ensures.peaks in
    let place : c.new.result ≡ c.args.start = c.new.ensures ∙ c.as_u64-place.ensures in
    let leaves : db.journal.tree.tree.leaves ≡ length ops = held.journal.tree.tree.count ∙ length-leaves_of s h g.O.Spelled.spelling ops in
    let within : c.new.result ≤ db.journal.tree.tree.leaves = omega (arith, place, leaves, may.low, may.high) in
    inl (peaks_outside c.in-Err-pinned_nodes_at.error lifts.below lifts.is
    (lifts.says.kept (omega (arith, place, may.kept, held.low)) (peaks_there g.row.F.Denot db.journal.tree.tree.leaves c.new.result within (omega (arith, within, leaves, held.db_of.few))) tells h _ later.journal.tree))

pub returns-clause-answer : goal.returns-clause-answer
returns-clause-answer g c tells ops held all =
    let s = g.F.Family.shape in
    let h = g.H.Hasher.hash in
    let m = g.O.Logged.meaning in
    let db = c.args.self.now in
    let n = c.args.size in
    let a = c.args.start in
    let told = refused_ok (proof_refusal m ops db.journal.items.start n a) _ _ (c.in-Ok.ensures.answer tells ops held all) in
    let may = provable_at m ops db.journal.items.start n a told.0 in
    let entry = there_is ops a (omega (arith, may.low, may.high)) in
    let items : c.in-Ok.made.1.items ≡ entry.0 ∷ [] = sym (ap (λ (p : Proof g.row.F.Denot g.row.H-Digest.Denot × List g.row.O.Denot). p.1) told.1) ∙ one_operation ops n a entry.0 may.low entry.1 in
    let later = held_still s h m g.H.Digest.Spelled.spelling (g.H.Digest.Read.admits tt) g.O.Spelled.spelling ops db _ _ (c.in-Ok.ensures.reads.contents tells) held in
    let lifts = c.in-Ok-pinned_nodes_at.ensures.peaks in
    let place : c.new.result ≡ a = c.new.ensures ∙ c.as_u64-place.ensures in
    let pins : c.in-Ok-pinned_nodes_at.pinned_nodes.items ≡ map (node_of s h (leaves_from s h m 0 ops)) (peaks s a) =
    peaks_made _ c.in-Ok-pinned_nodes_at.pinned_nodes lifts.below lifts.is lifts.says.nodes tells h _ later.journal.tree
    ∙ ap (λ ls. map (node_of s h ls) (peaks s c.new.result)) (leaves_are s h m g.O.Spelled.spelling g.met.O.Logged.spelled ops) ∙ ap (λ k. map (node_of s h (leaves_from s h m 0 ops)) (peaks s k)) place in
    let proof : (c.in-Ok.made.0, entry.0 ∷ []) ≡ proof_answer s h m ops n a (proof_end n a 1) =
    ap (λ (xs : List g.row.O.Denot). (c.in-Ok.made.0, xs)) (sym items) ∙ sym told.1 in
    serves_made _ _ _ c.boundary.result told.0 (c.boundary.ensures.one entry.0 items) (proof, pins)

pub returns-clause-reads : goal.returns-clause-reads
returns-clause-reads g c =
    reads_of g.V.Volume.tells Volume _ _ c.boundary.result
    (only_read_joins _ _ _ _ _ _ (only_read_joins _ _ _ _ _ _ (only_read_none g.V.Volume.tells _) c.in-Ok.ensures.reads) c.in-Ok-pinned_nodes_at.ensures.reads) (other_never _ c.boundary.result c.boundary.ensures.none)

pub returns-in-Err-clause-corrupt : goal.returns-in-Err-clause-corrupt
returns-in-Err-clause-corrupt g c tells ops held p at =
    c.in-Err.ensures.corrupt tells ops held p (same_error c.in-Err.error (db_error.Journal (Corruption p)) at)

pub returns-in-Err-clause-no_commit : goal.returns-in-Err-clause-no_commit
returns-in-Err-clause-no_commit g c n at = c.in-Err.ensures.no_commit n (same_error c.in-Err.error (db_error.HistoricalFloorPruned n) at)

pub returns-in-Err-pinned_nodes_at-clause-corrupt : goal.returns-in-Err-pinned_nodes_at-clause-corrupt
returns-in-Err-pinned_nodes_at-clause-corrupt g c tells ops held p at =
    let lifts = c.in-Err-pinned_nodes_at.ensures.peaks in
    absurd (tree_never c.in-Err-pinned_nodes_at.error lifts.below (Corruption p) lifts.is at)

pub returns-in-Err-pinned_nodes_at-clause-no_commit : goal.returns-in-Err-pinned_nodes_at-clause-no_commit
returns-in-Err-pinned_nodes_at-clause-no_commit g c n at =
    let lifts = c.in-Err-pinned_nodes_at.ensures.peaks in
    absurd (tree_floorless c.in-Err-pinned_nodes_at.error lifts.below n lifts.is at)

pub returns-clause-corrupt : goal.returns-clause-corrupt
returns-clause-corrupt g c tells ops held p at =
    let same = one_error _ (db_error.Journal (Corruption p)) c.boundary.result c.boundary.ensures.none at in
    absurd cc

pub returns-clause-no_commit : goal.returns-clause-no_commit
returns-clause-no_commit g c n at =
    let same = one_error _ (db_error.HistoricalFloorPruned n) c.boundary.result c.boundary.ensures.none at in
    absurd cc

pub returns-in-Err-pinned_nodes_at-clause-reads : goal.returns-in-Err-pinned_nodes_at-clause-reads
returns-in-Err-pinned_nodes_at-clause-reads g c =
    reads_err g.V.Volume.tells Volume _ _ _ c.in-Err-pinned_nodes_at.error _ (only_read_joins _ _ _ _ _ _ (only_read_none g.V.Volume.tells _) c.in-Ok.ensures.reads) c.in-Err-pinned_nodes_at.ensures.reads refl

pub returns-in-Err-clause-answer : goal.returns-in-Err-clause-answer
returns-in-Err-clause-answer g c tells ops held all =
    serves_refused (proof_refusal g.O.Logged.meaning ops c.args.self.now.journal.items.start c.args.size c.args.start) _ c.in-Err.error (c.in-Err.ensures.answer tells ops held all)
