use Rattle.std.proofs.Common.{◌≡◌, inr, ℕ, ◌+◌, ◌++◌, length, Some, Option, refl, sym, ◌∙◌, ap, arith}
use Rattle.std.specs.Prelude.{slice_get, Contains, IsSome}
use Rattle.std.proofs.lemmas.Option.{slice_get_read}
use Rattle.volume_base.proofs.ReadLemmas.{only_read_joins}
use Rattle.journal_base.specs.Items.{items_of}
use Rattle.log_model.specs.Reads.{value_at}
use Rattle.chain_core.specs.declared.error.Error.TheVariants.{Volume, Memory}
use Rattle.keyless_db.specs.Reading.{IsAllowedBelow, IsChainFault, IsFirstFault, IsReadable, IsReadBelow, chain_start, kept_over, lost, pending_item}
use Rattle.keyless_db.proofs.FaultLemmas.{contains_at, err_handed, fault_still, memory_fault, told_still}
use Rattle.keyless_db.proofs.KeptReadLemmas.{each_more, each_first, each_all, some_of, kept_more, kept_all}
use Rattle.keyless_db.proofs.ReadLemmas.{all_at}
use Rattle.keyless_db.proofs.SeveralLemmas.{fit_within, so_far_more, so_far_all, so_far_refused}
use Rattle.keyless_db.proofs.StillLemmas.{held_still, reads_err, reads_memory}
use Rattle.keyless_db.proofs.batch.UnmerkleizedBatch.own_values.Goals as goal

pub own_value-requires-clause-within : goal.own_value-requires-clause-within
own_value-requires-clause-within g c =
    let locs = c.args.locs.now in
    let at : slice_get locs c.loop-i.i ≡ Some c.as_u64-location.result =
    slice_get_read locs (length locs) c.loop-i.i c.index-locs-i.result refl c.loop-i-test.true c.index-locs-i.is ∙ ap Some (sym c.as_u64-location.ensures) in
    fit_within locs (c.args.self.now.base.size + length c.args.self.now.tree.items) c.loop-i.i c.as_u64-location.result c.requires.within at

pub loop-i-preserved : goal.loop-i-preserved
loop-i-preserved g c =
    let b = c.args.self.now in
    let db = c.args.db.now in
    let locs = c.args.locs.now in
    let m = g.O.Logged.meaning in
    let read = c.in_ok-value.ensures in
    let l = c.as_u64-location.result in
    let at : slice_get locs c.loop-i.i ≡ Some l =
    slice_get_read locs (length locs) c.loop-i.i c.index-locs-i.result refl c.loop-i-test.true c.index-locs-i.is ∙ ap Some (sym c.as_u64-location.ensures) in
    record {
      so_far = only_read_joins _ _ _ _ _ _ c.loop-i.invariant.so_far read.reads;
      within = omega (arith, c.loop-i-test.true);
      valued = each_more (λ n v. IsReadBelow g.O.Logged.meaning g.V.Volume.tells (items_of g.O.Spelled.spelling g.O.Read.admits c.args.db.now.journal.items (g.V.Volume.state c.args.vol.now)) c.args.db.now.state.size (pending_item c.args.pool.now c.args.self.now n) n v) locs c.loop-i.i l c.loop-i.values.items _ c.in_ok-value.value at c.loop-i.invariant.valued
          (told_still m g.V.Volume.tells g.O.Spelled.spelling g.O.Read.admits db.journal.items (g.V.Volume.state c.args.vol.now) (g.V.Volume.state c.loop-i.vol) c.loop-i.invariant.so_far.contents db.state.size (pending_item c.args.pool.now c.args.self.now l) l c.in_ok-value.value read.told) c.in_ok-push.ensures.items;
      kept = kept_more m (pending_item c.args.pool.now c.args.self.now) locs c.loop-i.i l c.loop-i.values.items _ c.in_ok-value.value at c.loop-i.invariant.kept (λ op there. let same = (read.chain op there).0 in cc) c.in_ok-push.ensures.items;
      unread = λ all.
          let there = some_of (pending_item c.args.pool.now c.args.self.now l) (all_at (λ n. IsSome (pending_item c.args.pool.now c.args.self.now n)) locs c.loop-i.i l all at) in
          (read.chain there.0 there.1).1 ∙ c.loop-i.invariant.unread all;
      listed = λ told ops list held all front of parents.
          let here = held_still g.F.Family.shape g.H.Hasher.hash m g.H.Digest.Spelled.spelling (g.H.Digest.Read.admits tt) g.O.Spelled.spelling ops db _ _ (c.loop-i.invariant.so_far.contents told) held in
          so_far_more (lost (kept_over (chain_start c.args.pool.now b) db)) (value_at m (list ++ b.tree.items)) locs c.loop-i.i l c.loop-i.values.items _ c.in_ok-value.value at
          (c.loop-i.invariant.listed told ops list held all front of parents) (read.listed told ops list here (all_at (λ k. IsReadable (g.O.Read.admits db.journal.items.codec) ops (pending_item c.args.pool.now b k) k) locs c.loop-i.i l all at) front of parents) c.in_ok-push.ensures.items;
    }

pub returns-in_err-value-clause-listed : goal.returns-in_err-value-clause-listed
returns-in_err-value-clause-listed g c tells ops list held all front of parents =
    let b = c.args.self.now in
    let db = c.args.db.now in
    let locs = c.args.locs.now in
    let m = g.O.Logged.meaning in
    let l = c.as_u64-location.result in
    let at : slice_get locs c.loop-i.i ≡ Some l =
    slice_get_read locs (length locs) c.loop-i.i c.index-locs-i.result refl c.loop-i-test.true c.index-locs-i.is ∙ ap Some (sym c.as_u64-location.ensures) in
    let here = held_still g.F.Family.shape g.H.Hasher.hash m g.H.Digest.Spelled.spelling (g.H.Digest.Read.admits tt) g.O.Spelled.spelling ops db _ _ (c.loop-i.invariant.so_far.contents tells) held in
    so_far_refused (lost (kept_over (chain_start c.args.pool.now b) db)) (value_at m (list ++ b.tree.items)) locs (λ (v : Option g.row.O-Value.Denot). v) _ c.loop-i.i l c.loop-i.values.items c.in_err-value.field-0.0
    c.from_residual.result c.from_residual.ensures.1 at (c.loop-i.invariant.listed tells ops list held all front of parents) (c.in_err-value.ensures.listed tells ops list here (all_at (λ k. IsReadable (g.O.Read.admits db.journal.items.codec) ops (pending_item c.args.pool.now b k) k) locs c.loop-i.i l all at) front of parents)

pub returns-in_err-value-clause-reads : goal.returns-in_err-value-clause-reads
returns-in_err-value-clause-reads g c =
    reads_err g.V.Volume.tells Volume _ _ _ c.in_err-value.field-0.0 _ c.loop-i.invariant.so_far c.in_err-value.ensures.reads c.from_residual.ensures.1

pub returns-in_err-push-clause-reads : goal.returns-in_err-push-clause-reads
returns-in_err-push-clause-reads g c =
    reads_memory g.V.Volume.tells Volume Memory _ _ _ (only_read_joins _ _ _ _ _ _ c.loop-i.invariant.so_far c.in_ok-value.ensures.reads) c.from_residual-in_err-push.ensures.1 (λ is. cc)

pub returns-clause-listed : goal.returns-clause-listed
returns-clause-listed g c tells ops list held all front of parents =
    let b = c.args.self.now in
    so_far_all (lost (kept_over (chain_start c.args.pool.now b) c.args.db.now)) (value_at g.O.Logged.meaning (list ++ b.tree.items)) c.args.locs.now c.loop-i.i c.loop-i.values.items c.loop-i-test.false
    (c.loop-i.invariant.listed tells ops list held all front of parents)

pub returns-in_err-value-clause-fault : goal.returns-in_err-value-clause-fault
returns-in_err-value-clause-fault g c =
    let tells = g.V.Volume.tells in
    let a = g.V.Volume.state c.args.vol.now in
    let db = c.args.db.now in
    let locs = c.args.locs.now in
    let l = c.as_u64-location.result in
    let at : slice_get locs c.loop-i.i ≡ Some l =
    slice_get_read locs (length locs) c.loop-i.i c.index-locs-i.result refl c.loop-i-test.true c.index-locs-i.is ∙ ap Some (sym c.as_u64-location.ensures) in
    let kept = pending_item c.args.pool.now c.args.self.now in
    let items = items_of g.O.Spelled.spelling g.O.Read.admits db.journal.items a in
    let e = c.in_err-value.field-0.0 in
    let fault = fault_still g.row.F.Denot tells g.O.Spelled.spelling g.O.Read.admits db.journal.items a (g.V.Volume.state c.loop-i.vol) c.loop-i.invariant.so_far.contents db.state.size (kept l) l e c.in_err-value.ensures.fault in
    err_handed c.from_residual.result e (λ d. (k : ℕ) × Contains locs k × IsChainFault tells items db.state.size (kept k) k d) c.from_residual.ensures.1 (l, contains_at locs c.loop-i.i l at, fault)

pub returns-in_err-push-clause-fault : goal.returns-in_err-push-clause-fault
returns-in_err-push-clause-fault g c =
    let tells = g.V.Volume.tells in
    let db = c.args.db.now in
    let locs = c.args.locs.now in
    let l = c.as_u64-location.result in
    let at : slice_get locs c.loop-i.i ≡ Some l =
    slice_get_read locs (length locs) c.loop-i.i c.index-locs-i.result refl c.loop-i-test.true c.index-locs-i.is ∙ ap Some (sym c.as_u64-location.ensures) in
    let kept = pending_item c.args.pool.now c.args.self.now in
    let items = items_of g.O.Spelled.spelling g.O.Read.admits db.journal.items (g.V.Volume.state c.args.vol.now) in
    err_handed c.from_residual-in_err-push.result Memory (λ d. (k : ℕ) × Contains locs k × IsChainFault tells items db.state.size (kept k) k d) c.from_residual-in_err-push.ensures.1
    (l, contains_at locs c.loop-i.i l at, inr (memory_fault tells items l))

pub returns-in_err-value-clause-unread : goal.returns-in_err-value-clause-unread
returns-in_err-value-clause-unread g c all =
    let locs = c.args.locs.now in
    let l = c.as_u64-location.result in
    let at : slice_get locs c.loop-i.i ≡ Some l =
    slice_get_read locs (length locs) c.loop-i.i c.index-locs-i.result refl c.loop-i-test.true c.index-locs-i.is ∙ ap Some (sym c.as_u64-location.ensures) in
    let there = some_of (pending_item c.args.pool.now c.args.self.now l) (all_at (λ n. IsSome (pending_item c.args.pool.now c.args.self.now n)) locs c.loop-i.i l all at) in
    (c.in_err-value.ensures.chain there.0 there.1).1 ∙ c.loop-i.invariant.unread all

pub returns-in_err-push-clause-unread : goal.returns-in_err-push-clause-unread
returns-in_err-push-clause-unread g c all =
    let locs = c.args.locs.now in
    let l = c.as_u64-location.result in
    let at : slice_get locs c.loop-i.i ≡ Some l =
    slice_get_read locs (length locs) c.loop-i.i c.index-locs-i.result refl c.loop-i-test.true c.index-locs-i.is ∙ ap Some (sym c.as_u64-location.ensures) in
    let there = some_of (pending_item c.args.pool.now c.args.self.now l) (all_at (λ n. IsSome (pending_item c.args.pool.now c.args.self.now n)) locs c.loop-i.i l all at) in
    (c.in_ok-value.ensures.chain there.0 there.1).1 ∙ c.loop-i.invariant.unread all

pub returns-clause-kept : goal.returns-clause-kept
returns-clause-kept g c = kept_all g.O.Logged.meaning (pending_item c.args.pool.now c.args.self.now) c.args.locs.now c.loop-i.i c.loop-i.values.items c.loop-i-test.false c.loop-i.invariant.kept

pub returns-clause-told : goal.returns-clause-told
returns-clause-told g c = each_all (λ n v. IsReadBelow g.O.Logged.meaning g.V.Volume.tells (items_of g.O.Spelled.spelling g.O.Read.admits c.args.db.now.journal.items (g.V.Volume.state c.args.vol.now)) c.args.db.now.state.size (pending_item c.args.pool.now c.args.self.now n) n v) c.args.locs.now c.loop-i.i c.loop-i.values.items c.loop-i-test.false c.loop-i.invariant.valued

pub returns-clause-count : goal.returns-clause-count
returns-clause-count g c = omega (arith, c.loop-i.invariant.valued.count, c.loop-i.invariant.within, c.loop-i-test.false)

pub returns-in_err-value-clause-first : goal.returns-in_err-value-clause-first
returns-in_err-value-clause-first g c =
    let tells = g.V.Volume.tells in
    let a = g.V.Volume.state c.args.vol.now in
    let db = c.args.db.now in
    let locs = c.args.locs.now in
    let l = c.as_u64-location.result in
    let at : slice_get locs c.loop-i.i ≡ Some l =
    slice_get_read locs (length locs) c.loop-i.i c.index-locs-i.result refl c.loop-i-test.true c.index-locs-i.is ∙ ap Some (sym c.as_u64-location.ensures) in
    let kept = pending_item c.args.pool.now c.args.self.now in
    let items = items_of g.O.Spelled.spelling g.O.Read.admits db.journal.items a in
    let e = c.in_err-value.field-0.0 in
    let fault = fault_still g.row.F.Denot tells g.O.Spelled.spelling g.O.Read.admits db.journal.items a (g.V.Volume.state c.loop-i.vol) c.loop-i.invariant.so_far.contents db.state.size (kept l) l e c.in_err-value.ensures.fault in
    err_handed c.from_residual.result e (IsFirstFault (λ n. IsAllowedBelow tells items db.state.size (kept n) n) (λ n. IsChainFault tells items db.state.size (kept n) n) locs) c.from_residual.ensures.1
    (each_first (λ n v. IsReadBelow g.O.Logged.meaning tells items db.state.size (kept n) n v) locs (λ n. IsAllowedBelow tells items db.state.size (kept n) n) (λ n. IsChainFault tells items db.state.size (kept n) n) c.loop-i.i l c.loop-i.values.items e (λ n v told none. let was = told none in (was.0, λ there. let is = was.1 there in (is.0, is.1, is.2))) at c.loop-i.invariant.valued fault)

pub returns-in_err-push-clause-first : goal.returns-in_err-push-clause-first
returns-in_err-push-clause-first g c =
    let tells = g.V.Volume.tells in
    let a = g.V.Volume.state c.args.vol.now in
    let db = c.args.db.now in
    let locs = c.args.locs.now in
    let l = c.as_u64-location.result in
    let at : slice_get locs c.loop-i.i ≡ Some l =
    slice_get_read locs (length locs) c.loop-i.i c.index-locs-i.result refl c.loop-i-test.true c.index-locs-i.is ∙ ap Some (sym c.as_u64-location.ensures) in
    let kept = pending_item c.args.pool.now c.args.self.now in
    let items = items_of g.O.Spelled.spelling g.O.Read.admits db.journal.items a in
    err_handed c.from_residual-in_err-push.result Memory (IsFirstFault (λ n. IsAllowedBelow tells items db.state.size (kept n) n) (λ n. IsChainFault tells items db.state.size (kept n) n) locs) c.from_residual-in_err-push.ensures.1
    (each_first (λ n v. IsReadBelow g.O.Logged.meaning tells items db.state.size (kept n) n v) locs (λ n. IsAllowedBelow tells items db.state.size (kept n) n) (λ n. IsChainFault tells items db.state.size (kept n) n) c.loop-i.i l c.loop-i.values.items Memory (λ n v told none. let was = told none in (was.0, λ there. let is = was.1 there in (is.0, is.1, is.2))) at c.loop-i.invariant.valued (inr (memory_fault tells items l)))
