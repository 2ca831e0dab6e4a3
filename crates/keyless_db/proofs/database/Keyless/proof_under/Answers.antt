use Rattle.std.proofs.Common.{◌≡◌, ◌-◌, ◌≤◌, ◌<◌, length, Some, inl, inr, refl, sym, ◌∙◌, ap, subst, arith}
use Rattle.std.specs.Prelude.{slice_get}
use Rattle.std.specs.NonZero.{non_zero_u64_get}
use Rattle.volume_base.specs.declared.error.JournalError.TheVariants as journal
use Rattle.journal_base.specs.Items.{Items, IsCorrupt, items_of}
use Rattle.tree_shape.specs.Shape.{inactive}
use Rattle.tree_store.specs.declared.error.Error.TheVariants as tree
use Rattle.auth_journal.specs.declared.error.Error.TheVariants as joined
use Rattle.auth_journal.specs.Joined.{Joined, log_view}
use Rattle.auth_journal.specs.Proving.{range_end}
use Rattle.auth_journal.specs.Reading.{AreAdmitted}
use Rattle.auth_journal.proofs.ReadingLemmas.{run_end}
use Rattle.log_model.specs.Proofs.{proof_answer, proof_end}
use Rattle.log_model.specs.declared.refusal.Refusal.TheVariants.{RangeOutOfBounds, ItemPruned}
use Rattle.log_model.proofs.OperationLemmas.{inactive-within}
use Rattle.keyless_db.specs.DbView.{DbView}
use Rattle.keyless_db.specs.Reading.{late_refusal}
use Rattle.keyless_db.proofs.LiftLemmas.{joined_back, outside_above}
use Rattle.keyless_db.proofs.ProofLemmas.{corrupt_of, late_past, late_pruned, late_none, never_floorless, proof_is, provable}
use Rattle.keyless_db.proofs.SeveralLemmas.{unrefused, refused_by}
use Rattle.keyless_db.proofs.StillLemmas.{held_size}
use Rattle.keyless_db.proofs.database.Keyless.proof_under.Goals as goal

pub returns-then-first-count-clause-answer : goal.returns-then-first-count-clause-answer
returns-then-first-count-clause-answer g c tells ops op held all at floored =
    let start = c.args.self.now.journal.items.start in
    let a = c.args.start in
    let e : c.new.result ≡ a = c.new.ensures ∙ c.as_u64-first.ensures in
    inr (RangeOutOfBounds a, refused_by (late_refusal start c.args.count a) _ (RangeOutOfBounds a) (late_past start c.args.count a (omega (arith, c.if-first-count.true, c.as_u64-first.ensures))), ap (λ n. Some (RangeOutOfBounds n)) e)

pub returns-then-first-kept-clause-answer : goal.returns-then-first-kept-clause-answer
returns-then-first-kept-clause-answer g c tells ops op held all at floored =
    let start = c.args.self.now.journal.items.start in
    let a = c.args.start in
    let kept : c.bounds-kept.result.0 ≡ start = c.bounds-kept.ensures.start ∙ ap (λ (d : DbView g.row.F.Denot g.row.H-Digest.Denot g.row.O.Denot g.row.O-Cfg.Denot). d.journal.items.start) c.self.view_is in
    inr (
      ItemPruned a,
      refused_by (late_refusal start c.args.count a) _ (ItemPruned a)
          (late_pruned start c.args.count a (omega (arith, c.if-first-count.false, c.as_u64-first.ensures)) (omega (arith, c.if-first-kept.true, c.as_u64-first.ensures, kept))),
      ap (λ n. Some (ItemPruned n)) c.as_u64-first.ensures,
    )

pub inactive_peaks-inactive-requires : goal.inactive_peaks-inactive-requires
inactive_peaks-inactive-requires g c =
    let size : c.self.inside.state.size ≡ c.args.self.now.state.size = ap (λ (d : DbView g.row.F.Denot g.row.H-Digest.Denot g.row.O.Denot g.row.O-Cfg.Denot). d.state.size) c.self.view_is in
    omega (arith, c.new-2.ensures, c.requires.within, size, c.self.invariant.few)

pub historical_proof-requires : goal.historical_proof-requires
historical_proof-requires g c =
    let s = g.F.Family.shape in
    let k : c.inactive_peaks-inactive.result ≡ inactive s c.new-leaves.result c.args.floor =
    c.inactive_peaks-inactive.ensures ∙ ap (λ n. inactive s n c.new-3.result) (c.new-2.ensures ∙ sym c.new-leaves.ensures) ∙ ap (λ f. inactive s c.new-leaves.result f) c.new-3.ensures in
    subst (λ n. n ≤ length (s.heights c.new-leaves.result)) (sym k) (inactive-within s c.new-leaves.result c.args.floor)

pub returns-in-Ok-clause-answer : goal.returns-in-Ok-clause-answer
returns-in-Ok-clause-answer g c tells ops op held all at floored =
    let s = g.F.Family.shape in
    let h = g.H.Hasher.hash in
    let m = g.O.Logged.meaning in
    let spelling = g.O.Spelled.spelling in
    let n = c.new-leaves.result in
    let from = c.args.start in
    let count = non_zero_u64_get c.args.max_ops in
    let start = c.args.self.now.journal.items.start in
    let a = g.V.Volume.state c.args.vol.now in
    let j = c.self.inside.journal in
    let same : j ≡ c.args.self.now.journal = ap (λ (d : DbView g.row.F.Denot g.row.H-Digest.Denot g.row.O.Denot g.row.O-Cfg.Denot). d.journal) c.self.view_is in
    let here = joined_back s h g.H.Digest.Spelled.spelling (g.H.Digest.Read.admits tt) spelling ops j c.args.self.now.journal same a a held.journal in
    let may = subst (λ (x : Joined g.row.H-Digest.Denot g.row.O-Cfg.Denot). AreAdmitted (g.O.Read.admits x.items.codec) ops from (proof_end n from (non_zero_u64_get c.args.max_ops))) (sym same)
    (subst (λ k. AreAdmitted (g.O.Read.admits c.args.self.now.journal.items.codec) ops from (proof_end k from (non_zero_u64_get c.args.max_ops))) (sym c.new-leaves.ensures) all) in
    let kept : c.bounds-kept.result.0 ≡ start = c.bounds-kept.ensures.start ∙ ap (λ (x : Joined g.row.H-Digest.Denot g.row.O-Cfg.Denot). x.items.start) same in
    let low : from < c.args.count = omega (arith, c.if-first-count.false, c.as_u64-first.ensures) in
    let high : start ≤ from = omega (arith, c.if-first-kept.false, c.as_u64-first.ensures, kept) in
    let k : c.inactive_peaks-inactive.result ≡ inactive s n c.args.floor =
    c.inactive_peaks-inactive.ensures ∙ ap (λ x. inactive s x c.new-3.result) (c.new-2.ensures ∙ sym c.new-leaves.ensures) ∙ ap (λ f. inactive s n f) c.new-3.ensures in
    let made = c.in-Ok.ensures.proves.list tells ops here may in
    let is = proof_is s h m spelling g.met.O.Logged.spelled ops n from count op c.args.floor c.inactive_peaks-inactive.result c.in-Ok.made.0 c.in-Ok.made.1.items
    (omega (arith, c.new-leaves.ensures, c.requires.some)) (ap (λ x. slice_get ops (x - 1)) c.new-leaves.ensures ∙ at) floored k (omega (arith, c.new-leaves.ensures, low)) made.0 made.1 in
    unrefused (late_refusal start c.args.count from) _ (c.in-Ok.made.0, c.in-Ok.made.1.items) (late_none start c.args.count from low high)
    (subst (λ x. proof_answer s h m ops x from (proof_end x from count) ≡ (c.in-Ok.made.0, c.in-Ok.made.1.items)) c.new-leaves.ensures is)

pub returns-in-Err-clause-answer : goal.returns-in-Err-clause-answer
returns-in-Err-clause-answer g c tells ops op held all at floored =
    let s = g.F.Family.shape in
    let h = g.H.Hasher.hash in
    let spelling = g.O.Spelled.spelling in
    let n = c.new-leaves.result in
    let from = c.args.start in
    let start = c.args.self.now.journal.items.start in
    let a = g.V.Volume.state c.args.vol.now in
    let j = c.self.inside.journal in
    let same : j ≡ c.args.self.now.journal = ap (λ (d : DbView g.row.F.Denot g.row.H-Digest.Denot g.row.O.Denot g.row.O-Cfg.Denot). d.journal) c.self.view_is in
    let here = joined_back s h g.H.Digest.Spelled.spelling (g.H.Digest.Read.admits tt) spelling ops j c.args.self.now.journal same a a held.journal in
    let may = subst (λ (x : Joined g.row.H-Digest.Denot g.row.O-Cfg.Denot). AreAdmitted (g.O.Read.admits x.items.codec) ops from (proof_end n from (non_zero_u64_get c.args.max_ops))) (sym same)
    (subst (λ k. AreAdmitted (g.O.Read.admits c.args.self.now.journal.items.codec) ops from (proof_end k from (non_zero_u64_get c.args.max_ops))) (sym c.new-leaves.ensures) all) in
    let kept : c.bounds-kept.result.0 ≡ j.items.start = c.bounds-kept.ensures.start in
    let begins : j.items.start ≡ start = ap (λ (x : Joined g.row.H-Digest.Denot g.row.O-Cfg.Denot). x.items.start) same in
    let pruned : j.tree.boundary ≡ c.args.self.now.journal.tree.boundary = ap (λ (x : Joined g.row.H-Digest.Denot g.row.O-Cfg.Denot). x.tree.boundary) same in
    let low : from < n = omega (arith, c.if-first-count.false, c.as_u64-first.ensures, c.new-leaves.ensures) in
    let high : j.items.start ≤ from = omega (arith, c.if-first-kept.false, c.as_u64-first.ensures, kept) in
    let end : n ≤ j.items.end = omega (arith, here.end_is, run_end spelling ops _ here.items, held_size held, c.requires.within, c.new-leaves.ensures) in
    let out = c.in-Err.ensures.proves.kept (provable g.row.F.Denot j.items.end n from end low) (omega (arith, held.low, pruned, begins, high)) high tells ops here may in
    inl (outside_above c.in-Err.error c.from_joined.result c.from_joined.ensures out)

pub returns-in-Err-clause-corrupt : goal.returns-in-Err-clause-corrupt
returns-in-Err-clause-corrupt g c tells ops held p at =
    let s = g.F.Family.shape in
    let h = g.H.Hasher.hash in
    let spelling = g.O.Spelled.spelling in
    let n = c.new-leaves.result in
    let from = c.args.start in
    let count = non_zero_u64_get c.args.max_ops in
    let a = g.V.Volume.state c.args.vol.now in
    let j = c.self.inside.journal in
    let same : j ≡ c.args.self.now.journal = ap (λ (d : DbView g.row.F.Denot g.row.H-Digest.Denot g.row.O.Denot g.row.O-Cfg.Denot). d.journal) c.self.view_is in
    let here = joined_back s h g.H.Digest.Spelled.spelling (g.H.Digest.Read.admits tt) spelling ops j c.args.self.now.journal same a a held.journal in
    let low : from < n = omega (arith, c.if-first-count.false, c.as_u64-first.ensures, c.new-leaves.ensures) in
    let end : n ≤ j.items.end = omega (arith, here.end_is, run_end spelling ops _ here.items, held_size held, c.requires.within, c.new-leaves.ensures) in
    let items : Items g.row.O.Denot = items_of spelling g.O.Read.admits (log_view j) a in
    let why = c.in-Err.ensures.proves.why (provable g.row.F.Denot j.items.end n from end low) tells ops here in
    let bad = corrupt_of _ _ items from (range_end n from count) p c.in-Err.error c.from_joined.result c.from_joined.ensures why at in (
      subst (λ k. (from ≤ p) × (p < proof_end k from count)) c.new-leaves.ensures bad.0,
      subst (λ (x : Joined g.row.H-Digest.Denot g.row.O-Cfg.Denot). IsCorrupt (items_of spelling g.O.Read.admits x.items a) p) same bad.1,
    )

pub returns-in-Err-clause-no_commit : goal.returns-in-Err-clause-no_commit
returns-in-Err-clause-no_commit g c n at = never_floorless c.in-Err.error c.from_joined.result n c.from_joined.ensures at

pub returns-then-first-count-clause-errors : goal.returns-then-first-count-clause-errors
returns-then-first-count-clause-errors g c = (joined.Merkle (tree.RangeOutOfBounds c.new.result), refl, tt)

pub returns-then-first-kept-clause-errors : goal.returns-then-first-kept-clause-errors
returns-then-first-kept-clause-errors g c = (joined.Journal (journal.ItemPruned c.as_u64-first.result), refl, refl)

pub returns-in-Err-clause-errors : goal.returns-in-Err-clause-errors
returns-in-Err-clause-errors g c = (c.in-Err.error, c.from_joined.ensures, c.in-Err.ensures.lifted)
