use Rattle.std.proofs.Common.{◌≡◌, ℕ, length, Some, Option, Err, refl, sym, ◌∙◌, ap, arith}
use Rattle.std.specs.Prelude.{slice_get, Contains}
use Rattle.std.proofs.lemmas.Option.{slice_get_read}
use Rattle.volume_base.proofs.ReadLemmas.{only_read_joins}
use Rattle.merkle_full.proofs.ListLemmas.{there_is}
use Rattle.journal_base.specs.Items.{items_of}
use Rattle.log_model.specs.Reads.{value_at}
use Rattle.chain_core.specs.declared.error.Error.TheVariants.{Volume, Memory}
use Rattle.keyless_db.specs.Reading.{IsAllowedAt, IsFirstFault, IsReadAt, IsReadFault, below_start, from_start}
use Rattle.keyless_db.proofs.FaultLemmas.{contains_at, err_handed, memory_fault, read_at_still, read_still}
use Rattle.keyless_db.proofs.KeptReadLemmas.{each_more, each_first, each_all}
use Rattle.keyless_db.proofs.ReadLemmas.{all_at, value_there}
use Rattle.keyless_db.proofs.SeveralLemmas.{answers_by, fit_within, so_far_more, so_far_all, so_far_refused}
use Rattle.keyless_db.proofs.StillLemmas.{held_still, reads_err, reads_memory}
use Rattle.keyless_db.proofs.database.Keyless.values.Goals as goal

pub loop-i-preserved : goal.loop-i-preserved
loop-i-preserved g c =
    let db = c.args.self.now in
    let locs = c.args.locs.now in
    let m = g.O.Logged.meaning in
    let start = db.journal.items.start in
    let read = c.in_ok-value.ensures in
    let l = c.as_u64-location.result in
    let at : slice_get locs c.loop-i.i ≡ Some l =
    slice_get_read locs (length locs) c.loop-i.i c.index-locs-i.result refl c.loop-i-test.true c.index-locs-i.is ∙ ap Some (sym c.as_u64-location.ensures) in
    record {
      so_far = only_read_joins _ _ _ _ _ _ c.loop-i.invariant.so_far read.reads;
      within = omega (arith, c.loop-i-test.true);
      valued = each_more (λ n v. g.V.Volume.tells → IsReadAt g.O.Logged.meaning (items_of g.O.Spelled.spelling g.O.Read.admits c.args.self.now.journal.items (g.V.Volume.state c.args.vol.now)) n v) locs c.loop-i.i l c.loop-i.values.items _ c.in_ok-value.value at c.loop-i.invariant.valued
          (read_at_still m g.V.Volume.tells g.O.Spelled.spelling g.O.Read.admits db.journal.items (g.V.Volume.state c.args.vol.now) (g.V.Volume.state c.loop-i.vol) c.loop-i.invariant.so_far.contents l c.in_ok-value.value read.told) c.in_ok-push.ensures.items;
      listed = λ told ops held all fit.
          let within = fit_within locs (length ops) c.loop-i.i l fit at in
          let entry = there_is ops l within in
          let here = held_still g.F.Family.shape g.H.Hasher.hash m g.H.Digest.Spelled.spelling (g.H.Digest.Read.admits tt) g.O.Spelled.spelling ops db _ _ (c.loop-i.invariant.so_far.contents told) held in
          let answer = read.listed told ops entry.0 here entry.1 (all_at (λ n. (op : g.row.O.Denot) → slice_get ops n ≡ Some op → g.O.Read.admits db.journal.items.codec op) locs c.loop-i.i l all at entry.0 entry.1) in
          so_far_more (below_start start) (value_at m ops) locs c.loop-i.i l c.loop-i.values.items _ c.in_ok-value.value at (c.loop-i.invariant.listed told ops held all fit)
          (ap (λ (v : Option g.row.O-Value.Denot). from_start start l v) (value_there m ops l entry.0 entry.1) ∙ answer) c.in_ok-push.ensures.items;
    }

pub returns-in_err-value-clause-listed : goal.returns-in_err-value-clause-listed
returns-in_err-value-clause-listed g c tells ops held all fit =
    let db = c.args.self.now in
    let locs = c.args.locs.now in
    let m = g.O.Logged.meaning in
    let start = db.journal.items.start in
    let l = c.as_u64-location.result in
    let at : slice_get locs c.loop-i.i ≡ Some l =
    slice_get_read locs (length locs) c.loop-i.i c.index-locs-i.result refl c.loop-i-test.true c.index-locs-i.is ∙ ap Some (sym c.as_u64-location.ensures) in
    let within = fit_within locs (length ops) c.loop-i.i l fit at in
    let entry = there_is ops l within in
    let here = held_still g.F.Family.shape g.H.Hasher.hash m g.H.Digest.Spelled.spelling (g.H.Digest.Read.admits tt) g.O.Spelled.spelling ops db _ _ (c.loop-i.invariant.so_far.contents tells) held in
    let answer = c.in_err-value.ensures.listed tells ops entry.0 here entry.1 (all_at (λ n. (op : g.row.O.Denot) → slice_get ops n ≡ Some op → g.O.Read.admits db.journal.items.codec op) locs c.loop-i.i l all at entry.0 entry.1) in
    let refused = answers_by (λ (v : Option g.row.O-Value.Denot). v) _ _ (Err c.in_err-value.field-0.0) (ap (λ (v : Option g.row.O-Value.Denot). from_start start l v) (sym (value_there m ops l entry.0 entry.1))) answer in
    so_far_refused (below_start start) (value_at m ops) locs (λ (v : Option g.row.O-Value.Denot). v) _ c.loop-i.i l c.loop-i.values.items c.in_err-value.field-0.0 c.from_residual.result c.from_residual.ensures.1 at
    (c.loop-i.invariant.listed tells ops held all fit) refused

pub returns-in_err-value-clause-reads : goal.returns-in_err-value-clause-reads
returns-in_err-value-clause-reads g c =
    reads_err g.V.Volume.tells Volume _ _ _ c.in_err-value.field-0.0 _ c.loop-i.invariant.so_far c.in_err-value.ensures.reads c.from_residual.ensures.1

pub returns-in_err-push-clause-reads : goal.returns-in_err-push-clause-reads
returns-in_err-push-clause-reads g c =
    reads_memory g.V.Volume.tells Volume Memory _ _ _ (only_read_joins _ _ _ _ _ _ c.loop-i.invariant.so_far c.in_ok-value.ensures.reads) c.from_residual-in_err-push.ensures.1 (λ is. cc)

pub returns-clause-listed : goal.returns-clause-listed
returns-clause-listed g c tells ops held all fit =
    let db = c.args.self.now in
    so_far_all (below_start db.journal.items.start) (value_at g.O.Logged.meaning ops) c.args.locs.now c.loop-i.i c.loop-i.values.items c.loop-i-test.false (c.loop-i.invariant.listed tells ops held all fit)

pub returns-in_err-value-clause-fault : goal.returns-in_err-value-clause-fault
returns-in_err-value-clause-fault g c =
    let tells = g.V.Volume.tells in
    let a = g.V.Volume.state c.args.vol.now in
    let db = c.args.self.now in
    let locs = c.args.locs.now in
    let l = c.as_u64-location.result in
    let at : slice_get locs c.loop-i.i ≡ Some l =
    slice_get_read locs (length locs) c.loop-i.i c.index-locs-i.result refl c.loop-i-test.true c.index-locs-i.is ∙ ap Some (sym c.as_u64-location.ensures) in
    let items = items_of g.O.Spelled.spelling g.O.Read.admits db.journal.items a in
    let e = c.in_err-value.field-0.0 in
    let fault = read_still g.row.F.Denot tells g.O.Spelled.spelling g.O.Read.admits db.journal.items a (g.V.Volume.state c.loop-i.vol) c.loop-i.invariant.so_far.contents l e c.in_err-value.ensures.fault in
    err_handed c.from_residual.result e (λ d. (k : ℕ) × Contains locs k × IsReadFault tells items k d) c.from_residual.ensures.1 (l, contains_at locs c.loop-i.i l at, fault)

pub returns-in_err-push-clause-fault : goal.returns-in_err-push-clause-fault
returns-in_err-push-clause-fault g c =
    let tells = g.V.Volume.tells in
    let a = g.V.Volume.state c.args.vol.now in
    let db = c.args.self.now in
    let locs = c.args.locs.now in
    let l = c.as_u64-location.result in
    let at : slice_get locs c.loop-i.i ≡ Some l =
    slice_get_read locs (length locs) c.loop-i.i c.index-locs-i.result refl c.loop-i-test.true c.index-locs-i.is ∙ ap Some (sym c.as_u64-location.ensures) in
    let items = items_of g.O.Spelled.spelling g.O.Read.admits db.journal.items a in
    err_handed c.from_residual-in_err-push.result Memory (λ d. (k : ℕ) × Contains locs k × IsReadFault tells items k d) c.from_residual-in_err-push.ensures.1
    (l, contains_at locs c.loop-i.i l at, memory_fault tells items l)

pub returns-clause-told : goal.returns-clause-told
returns-clause-told g c tells k l v at there = each_all (λ n v. g.V.Volume.tells → IsReadAt g.O.Logged.meaning (items_of g.O.Spelled.spelling g.O.Read.admits c.args.self.now.journal.items (g.V.Volume.state c.args.vol.now)) n v) c.args.locs.now c.loop-i.i c.loop-i.values.items c.loop-i-test.false c.loop-i.invariant.valued k l v at there tells

pub returns-clause-count : goal.returns-clause-count
returns-clause-count g c = omega (arith, c.loop-i.invariant.valued.count, c.loop-i.invariant.within, c.loop-i-test.false)

pub returns-in_err-value-clause-first : goal.returns-in_err-value-clause-first
returns-in_err-value-clause-first g c =
    let tells = g.V.Volume.tells in
    let a = g.V.Volume.state c.args.vol.now in
    let db = c.args.self.now in
    let locs = c.args.locs.now in
    let l = c.as_u64-location.result in
    let at : slice_get locs c.loop-i.i ≡ Some l =
    slice_get_read locs (length locs) c.loop-i.i c.index-locs-i.result refl c.loop-i-test.true c.index-locs-i.is ∙ ap Some (sym c.as_u64-location.ensures) in
    let items = items_of g.O.Spelled.spelling g.O.Read.admits db.journal.items a in
    let e = c.in_err-value.field-0.0 in
    let fault = read_still g.row.F.Denot tells g.O.Spelled.spelling g.O.Read.admits db.journal.items a (g.V.Volume.state c.loop-i.vol) c.loop-i.invariant.so_far.contents l e c.in_err-value.ensures.fault in
    err_handed c.from_residual.result e (IsFirstFault (λ n. tells → IsAllowedAt items n) (IsReadFault tells items) locs) c.from_residual.ensures.1
    (each_first (λ n v. tells → IsReadAt g.O.Logged.meaning items n v) locs (λ n. tells → IsAllowedAt items n) (IsReadFault tells items) c.loop-i.i l c.loop-i.values.items e (λ n v told there. let was = told there in (was.0, was.1, was.2)) at c.loop-i.invariant.valued fault)

pub returns-in_err-push-clause-first : goal.returns-in_err-push-clause-first
returns-in_err-push-clause-first g c =
    let tells = g.V.Volume.tells in
    let a = g.V.Volume.state c.args.vol.now in
    let db = c.args.self.now in
    let locs = c.args.locs.now in
    let l = c.as_u64-location.result in
    let at : slice_get locs c.loop-i.i ≡ Some l =
    slice_get_read locs (length locs) c.loop-i.i c.index-locs-i.result refl c.loop-i-test.true c.index-locs-i.is ∙ ap Some (sym c.as_u64-location.ensures) in
    let items = items_of g.O.Spelled.spelling g.O.Read.admits db.journal.items a in
    err_handed c.from_residual-in_err-push.result Memory (IsFirstFault (λ n. tells → IsAllowedAt items n) (IsReadFault tells items) locs) c.from_residual-in_err-push.ensures.1
    (each_first (λ n v. tells → IsReadAt g.O.Logged.meaning items n v) locs (λ n. tells → IsAllowedAt items n) (IsReadFault tells items) c.loop-i.i l c.loop-i.values.items Memory (λ n v told there. let was = told there in (was.0, was.1, was.2)) at c.loop-i.invariant.valued (memory_fault tells items l))
