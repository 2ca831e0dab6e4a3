use Rattle.std.proofs.Common.{◌≡◌, inl, inr, true, false, ℕ, List, ◌∷◌, ◌++◌, length, map, Some, refl, sym, ◌∙◌, ap, subst, arith}
use Rattle.std.specs.Prelude.{Contains}
use Rattle.std.proofs.lemmas.List.{length-append}
use Rattle.journal_base.specs.View.{log_of}
use Rattle.volume_base.specs.Volume.{LogCall}
use Rattle.volume_base.proofs.CallLemmas.{names_call_none}
use Rattle.tree_core.specs.Applied.{Fits}
use Rattle.chain_core.specs.Reached.{item_at}
use Rattle.chain_core.specs.declared.commitment.Commitment.{Commitment}
use Rattle.log_model.specs.Operations.{leaves_from}
use Rattle.tree_core.specs.Batches.{IsSealedOf}
use Rattle.witness_store.specs.declared.witness.Witness.{Witness}
use Rattle.compact_db.specs.Batches.{MerkleizedView}
use Rattle.compact_db.specs.DbView.{DbView, IsOfList, commitment_in, seen_log, waits}
use Rattle.compact_db.specs.Held.{IsHeldFor, SameState}
use Rattle.compact_db.specs.WitnessOf.{witness_of}
use Rattle.compact_db.specs.Writing.{written_log, Settles}
use Rattle.compact_db.proofs.ApplyLemmas.{none_more, always, for_each, both, all_three, one_item, last_read, later_ok, later_on, on_later, on_more, err_more, err_ok, only_there, outside_not_stale}
use Rattle.compact_db.proofs.HeldLemmas.{list_same, last_witness, still_held}
use Rattle.compact_db.proofs.ImageLemmas.{images_none, call_none, call_settled, restarts_none}
use Rattle.compact_db.proofs.MarkLemmas.{marked_fits}
use Rattle.compact_db.proofs.DbLemmas.{root_of_batch, size_of_list, state_by}
use Rattle.compact_db.proofs.database.CompactDb.apply_batch.Goals as goal

pub returns-then-as_u64-clause-stands : goal.returns-then-as_u64-clause-stands
returns-then-as_u64-clause-stands g c = always c.settled.result (λ b at.
    subst (λ (x : MerkleizedView g.row.F.Denot g.row.H-Digest.Denot g.row.O.Denot). Contains (x.bounds.db ∷ x.bounds.ancestors) (commitment_in c.args.self))
    (c.batch.view_is ∙ one_item (item_at c.args.pool.now c.args.id) c.item-batch.result.now b c.item-batch.ensures at)
    (subst (λ (k : Commitment g.row.F.Denot g.row.H-Digest.Denot). Contains (c.batch.inside.bounds.db ∷ c.batch.inside.bounds.ancestors) k)
    c.commitment.ensures (c.in-Ok.ensures.at_boundary_or_ancestor.0 refl)))

pub returns-clause-stands : goal.returns-clause-stands
returns-clause-stands g c = always c.grown.result (λ b at.
    subst (λ (x : MerkleizedView g.row.F.Denot g.row.H-Digest.Denot g.row.O.Denot). Contains (x.bounds.db ∷ x.bounds.ancestors) (commitment_in c.args.self))
    (c.batch.view_is ∙ one_item (item_at c.args.pool.now c.args.id) c.item-batch.result.now b c.item-batch.ensures at)
    (subst (λ (k : Commitment g.row.F.Denot g.row.H-Digest.Denot). Contains (c.batch.inside.bounds.db ∷ c.batch.inside.bounds.ancestors) k)
    c.commitment.ensures (c.in-Ok.ensures.at_boundary_or_ancestor.0 refl)))

pub returns-then-as_u64-clause-held : goal.returns-then-as_u64-clause-held
returns-then-as_u64-clause-held g c = for_each c.settled.result _ (λ made told ops more sizes b at was of some.
    let same = c.batch.view_is ∙ one_item (item_at c.args.pool.now c.args.id) c.item-batch.result.now b c.item-batch.ensures at in
    let tip : c.batch.inside.bounds.tip.size ≡ b.bounds.tip.size = ap (λ (x : MerkleizedView g.row.F.Denot g.row.H-Digest.Denot g.row.O.Denot). x.bounds.tip.size) same in
    let end : b.bounds.tip.size ≡ length (ops ++ more) = ap (λ (x : Commitment g.row.F.Denot g.row.H-Digest.Denot). x.size) of.batch.bounds.tip in
    let old : c.self.inside.tip.witness.size ≡ c.args.self.tip.witness.size = ap (λ (d : DbView g.row.F.Denot g.row.H-Digest.Denot g.row.O.Denot g.row.O-Cfg.Denot). d.tip.witness.size) c.self.view_is in
    let count = size_of_list g.F.Family.shape g.H.Hasher.hash g.O.Logged.meaning ops _ _ _ was.list in
    let here = c.batch.invariant.tip in
    let own = c.self.invariant.size in
    let test = c.if-as_u64.true in
    let left = c.as_u64.ensures ∙ c.leaves.ensures.leaves in
    let right = c.as_u64-2.ensures ∙ c.leaves-2.ensures.leaves in
    absurd (omega (arith, test, left, right, here, tip, end, own, old, count, some, length-append ops more)))

pub returns-clause-held : goal.returns-clause-held
returns-clause-held g c = both c.grown.result _ _ _ c.grown.ensures.list c.grown.ensures.held (λ made list held told ops more sizes b at was of some.
    let s = g.F.Family.shape in
    let h = g.H.Hasher.hash in
    let m = g.O.Logged.meaning in
    let same = c.batch.view_is ∙ one_item (item_at c.args.pool.now c.args.id) c.item-batch.result.now b c.item-batch.ensures at in
    let sealed : IsSealedOf s h (leaves_from s h m 0 (ops ++ more)) c.batch.inside.tree =
    subst (IsSealedOf s h (leaves_from s h m 0 (ops ++ more))) (sym (ap (λ (x : MerkleizedView g.row.F.Denot g.row.H-Digest.Denot g.row.O.Denot). x.tree) same)) of.tree in
    let rest = c.as_slice.ensures ∙ ap (λ (x : MerkleizedView g.row.F.Denot g.row.H-Digest.Denot g.row.O.Denot). x.operations) same ∙ of.batch.own in
    let read = last_read c.as_slice.result.now (ops ++ more) b.bounds.base.size c.commit-item.result _ rest c.in-len1-up.len_at_least c.commit-item.is in
    held told ops more sizes was
    (list ops more was.list sealed of.ends of.few (read ∙ ap Some (sym c.in-Ok-duplicate.ensures.same)) (root_of_batch s h m (ops ++ more) _ b same of))
    (omega (arith, some, length-append ops more)))

pub returns-clause-imported : goal.returns-clause-imported
returns-clause-imported g c waiting = both c.grown.result _ _ _ c.grown.ensures.list (c.grown.ensures.imported waiting) (λ made list imported told ops more b at was of.
    let s = g.F.Family.shape in
    let h = g.H.Hasher.hash in
    let m = g.O.Logged.meaning in
    let same = c.batch.view_is ∙ one_item (item_at c.args.pool.now c.args.id) c.item-batch.result.now b c.item-batch.ensures at in
    let sealed : IsSealedOf s h (leaves_from s h m 0 (ops ++ more)) c.batch.inside.tree =
    subst (IsSealedOf s h (leaves_from s h m 0 (ops ++ more))) (sym (ap (λ (x : MerkleizedView g.row.F.Denot g.row.H-Digest.Denot g.row.O.Denot). x.tree) same)) of.tree in
    let rest = c.as_slice.ensures ∙ ap (λ (x : MerkleizedView g.row.F.Denot g.row.H-Digest.Denot g.row.O.Denot). x.operations) same ∙ of.batch.own in
    let read = last_read c.as_slice.result.now (ops ++ more) b.bounds.base.size c.commit-item.result _ rest c.in-len1-up.len_at_least c.commit-item.is in
    imported told (ops ++ more) (list ops more was sealed of.ends of.few (read ∙ ap Some (sym c.in-Ok-duplicate.ensures.same)) (root_of_batch s h m (ops ++ more) _ b same of)))

pub returns-then-as_u64-clause-imported : goal.returns-then-as_u64-clause-imported
returns-then-as_u64-clause-imported g c waiting = both c.settled.result _ _ _ (c.settled.ensures.imported waiting) (c.settled.ensures.imported waiting) (λ made imported too told ops more b at was of.
    let same = c.batch.view_is ∙ one_item (item_at c.args.pool.now c.args.id) c.item-batch.result.now b c.item-batch.ensures at in
    let tip : c.batch.inside.bounds.tip.size ≡ b.bounds.tip.size = ap (λ (x : MerkleizedView g.row.F.Denot g.row.H-Digest.Denot g.row.O.Denot). x.bounds.tip.size) same in
    let end : b.bounds.tip.size ≡ length (ops ++ more) = ap (λ (x : Commitment g.row.F.Denot g.row.H-Digest.Denot). x.size) of.batch.bounds.tip in
    let old : c.self.inside.tip.witness.size ≡ c.args.self.tip.witness.size = ap (λ (d : DbView g.row.F.Denot g.row.H-Digest.Denot g.row.O.Denot g.row.O-Cfg.Denot). d.tip.witness.size) c.self.view_is in
    let count = size_of_list g.F.Family.shape g.H.Hasher.hash g.O.Logged.meaning ops _ _ _ was in
    let here = c.batch.invariant.tip in
    let own = c.self.invariant.size in
    let test = c.if-as_u64.true in
    let left = c.as_u64.ensures ∙ c.leaves.ensures.leaves in
    let right = c.as_u64-2.ensures ∙ c.leaves-2.ensures.leaves in
    let none : ops ++ more ≡ ops = none_more ops more (omega (arith, test, left, right, here, tip, end, own, old, count, length-append ops more)) in
    subst (λ (os : List g.row.O.Denot). (sizes : List ℕ) × IsHeldFor g.F.Family.shape g.H.Hasher.hash g.O.Logged.meaning g.H.Digest.Spelled.spelling (g.H.Digest.Read.admits tt) os sizes made (g.V.Volume.state c.settled.new.vol)) (sym none)
    (imported told ops was))

pub returns-clause-stays : goal.returns-clause-stays
returns-clause-stays g c = for_each c.grown.result _ (λ made b at le.
    let same = c.batch.view_is ∙ one_item (item_at c.args.pool.now c.args.id) c.item-batch.result.now b c.item-batch.ensures at in
    let tip : c.batch.inside.bounds.tip.size ≡ b.bounds.tip.size = ap (λ (x : MerkleizedView g.row.F.Denot g.row.H-Digest.Denot g.row.O.Denot). x.bounds.tip.size) same in
    let old : c.self.inside.tip.witness.size ≡ c.args.self.tip.witness.size = ap (λ (d : DbView g.row.F.Denot g.row.H-Digest.Denot g.row.O.Denot g.row.O-Cfg.Denot). d.tip.witness.size) c.self.view_is in
    let here = c.batch.invariant.tip in
    let own = c.self.invariant.size in
    let test = c.if-as_u64.false in
    let left = c.as_u64.ensures ∙ c.leaves.ensures.leaves in
    let right = c.as_u64-2.ensures ∙ c.leaves-2.ensures.leaves in
    absurd (omega (arith, test, left, right, here, tip, own, old, le)))

-- ---- this state is none of the batch's chain

pub returns-in-Err-clause-fits : goal.returns-in-Err-clause-fits
returns-in-Err-clause-fits g c is ops more b at of made_of marks here =
    let same = c.batch.view_is ∙ one_item (item_at c.args.pool.now c.args.id) c.item-batch.result.now b c.item-batch.ensures at in
    let there = subst (λ (k : Commitment g.row.F.Denot g.row.H-Digest.Denot). Contains (c.batch.inside.bounds.db ∷ c.batch.inside.bounds.ancestors) k) (sym c.commitment.ensures)
    (subst (λ (x : MerkleizedView g.row.F.Denot g.row.H-Digest.Denot g.row.O.Denot). Contains (x.bounds.db ∷ x.bounds.ancestors) (commitment_in c.args.self)) (sym same) here) in
    err_ok ℕ c.in-Err.error (c.in-Err.ensures.at_boundary_or_ancestor.1 there)

pub returns-in-Err-clause-done : goal.returns-in-Err-clause-done
returns-in-Err-clause-done g c b at le opened here =
    let same = c.batch.view_is ∙ one_item (item_at c.args.pool.now c.args.id) c.item-batch.result.now b c.item-batch.ensures at in
    let there = subst (λ (k : Commitment g.row.F.Denot g.row.H-Digest.Denot). Contains (c.batch.inside.bounds.db ∷ c.batch.inside.bounds.ancestors) k) (sym c.commitment.ensures)
    (subst (λ (x : MerkleizedView g.row.F.Denot g.row.H-Digest.Denot g.row.O.Denot). Contains (x.bounds.db ∷ x.bounds.ancestors) (commitment_in c.args.self)) (sym same) here) in
    c.in-Err.ensures.at_boundary_or_ancestor.1 there

pub returns-in-Err-clause-names : goal.returns-in-Err-clause-names
returns-in-Err-clause-names g c told = names_call_none _ (g.V.Volume.state c.args.vol.now)

-- ---- the batch has no more operations

pub returns-then-as_u64-clause-stale : goal.returns-then-as_u64-clause-stale
returns-then-as_u64-clause-stale g c b at off = absurd (off (subst (λ (x : MerkleizedView g.row.F.Denot g.row.H-Digest.Denot g.row.O.Denot). Contains (x.bounds.db ∷ x.bounds.ancestors) (commitment_in c.args.self))
    (c.batch.view_is ∙ one_item (item_at c.args.pool.now c.args.id) c.item-batch.result.now b c.item-batch.ensures at)
    (subst (λ (k : Commitment g.row.F.Denot g.row.H-Digest.Denot). Contains (c.batch.inside.bounds.db ∷ c.batch.inside.bounds.ancestors) k)
    c.commitment.ensures (c.in-Ok.ensures.at_boundary_or_ancestor.0 refl))))

pub returns-then-as_u64-clause-fits : goal.returns-then-as_u64-clause-fits
returns-then-as_u64-clause-fits g c is = absurd (outside_not_stale c.settled.result c.settled.ensures.errors is)

pub returns-then-as_u64-clause-unwritten : goal.returns-then-as_u64-clause-unwritten
returns-then-as_u64-clause-unwritten g c is = absurd (outside_not_stale c.settled.result c.settled.ensures.errors is)

pub returns-then-as_u64-clause-codec : goal.returns-then-as_u64-clause-codec
returns-then-as_u64-clause-codec g c = both c.settled.result _ _ _ c.settled.ensures.same c.settled.ensures.same (λ made same too. same.codec)

pub returns-then-as_u64-clause-list : goal.returns-then-as_u64-clause-list
returns-then-as_u64-clause-list g c = both c.settled.result _ _ _ c.settled.ensures.same c.settled.ensures.same (λ made state too ops more b at of made_of.
    let s = g.F.Family.shape in
    let h = g.H.Hasher.hash in
    let m = g.O.Logged.meaning in
    let same = c.batch.view_is ∙ one_item (item_at c.args.pool.now c.args.id) c.item-batch.result.now b c.item-batch.ensures at in
    let tip : c.batch.inside.bounds.tip.size ≡ b.bounds.tip.size = ap (λ (x : MerkleizedView g.row.F.Denot g.row.H-Digest.Denot g.row.O.Denot). x.bounds.tip.size) same in
    let old : c.self.inside.tip.witness.size ≡ c.args.self.tip.witness.size = ap (λ (d : DbView g.row.F.Denot g.row.H-Digest.Denot g.row.O.Denot g.row.O-Cfg.Denot). d.tip.witness.size) c.self.view_is in
    let here = c.batch.invariant.tip in
    let own = c.self.invariant.size in
    let left = c.as_u64.ensures ∙ c.leaves.ensures.leaves in
    let right = c.as_u64-2.ensures ∙ c.leaves-2.ensures.leaves in
    let test = c.if-as_u64.true in
    let end : b.bounds.tip.size ≡ length (ops ++ more) = ap (λ (x : Commitment g.row.F.Denot g.row.H-Digest.Denot). x.size) made_of.batch.bounds.tip in
    let count = size_of_list g.F.Family.shape g.H.Hasher.hash g.O.Logged.meaning ops _ _ _ of in
    let none : ops ++ more ≡ ops = none_more ops more (omega (arith, test, left, right, here, tip, end, own, old, count, length-append ops more)) in
    subst (λ (os : List g.row.O.Denot). IsOfList s h m os made) (sym none) (list_same s h m c.args.self made state ops of))

pub returns-then-as_u64-clause-kept : goal.returns-then-as_u64-clause-kept
returns-then-as_u64-clause-kept g c =
    both c.settled.result _ _ _ (both c.settled.result _ _ (λ made. SameState c.args.self made × (waits made.log ≡ false)) c.settled.ensures.same c.settled.ensures.opened (λ made state opened. (state, opened)))
    (later_ok (waits c.args.self.log ≡ false) c.settled.result _ c.settled.ensures.same_log)
    (λ made state logs told ops sizes b at le was.
    still_held g.F.Family.shape g.H.Hasher.hash g.O.Logged.meaning g.H.Digest.Spelled.spelling (g.H.Digest.Read.admits tt) c.args.self made (seen_log c.args.self.log).failed
    (g.V.Volume.state c.args.vol.now) (g.V.Volume.state c.settled.new.vol) state.0 state.1 (logs was.opened).0
    (ap (λ (v : g.row.V.Denot). log_of (seen_log c.args.self.log) (g.V.Volume.state v)) (c.settled.ensures.idle was.opened)) ops sizes was)

pub returns-then-as_u64-clause-stays : goal.returns-then-as_u64-clause-stays
returns-then-as_u64-clause-stays g c = both c.settled.result _ _ _ c.settled.ensures.same
    (later_ok (waits c.args.self.log ≡ false) c.settled.result _ c.settled.ensures.same_log) (λ made same logs b at le. (same, logs))

pub returns-then-as_u64-clause-written : goal.returns-then-as_u64-clause-written
returns-then-as_u64-clause-written g c = both c.settled.result _ _ _ c.settled.ensures.same
    (later_on (waits c.args.self.log ≡ true) _ c.settled.result c.settled.ensures.written) (λ made state written told b at either.
    let same = c.batch.view_is ∙ one_item (item_at c.args.pool.now c.args.id) c.item-batch.result.now b c.item-batch.ensures at in
    let tip : c.batch.inside.bounds.tip.size ≡ b.bounds.tip.size = ap (λ (x : MerkleizedView g.row.F.Denot g.row.H-Digest.Denot g.row.O.Denot). x.bounds.tip.size) same in
    let old : c.self.inside.tip.witness.size ≡ c.args.self.tip.witness.size = ap (λ (d : DbView g.row.F.Denot g.row.H-Digest.Denot g.row.O.Denot g.row.O-Cfg.Denot). d.tip.witness.size) c.self.view_is in
    let here = c.batch.invariant.tip in
    let own = c.self.invariant.size in
    let left = c.as_u64.ensures ∙ c.leaves.ensures.leaves in
    let right = c.as_u64-2.ensures ∙ c.leaves-2.ensures.leaves in
    let test = c.if-as_u64.true in
    elim either [
      | inl more ↦ absurd (omega (arith, more, test, left, right, here, tip, own, old))
      | inr waiting ↦ written waiting told ∙ ap (λ v. written_log g.H.Digest.Spelled.spelling c.args.self.log v.witness (g.V.Volume.state c.args.vol.now)) (sym state.tip)
    ])

pub returns-then-as_u64-clause-room : goal.returns-then-as_u64-clause-room
returns-then-as_u64-clause-room g c = on_more _ _ c.settled.result (on_later (waits c.args.self.log ≡ true) _ c.settled.result c.settled.ensures.room) (λ room told b at either.
    let same = c.batch.view_is ∙ one_item (item_at c.args.pool.now c.args.id) c.item-batch.result.now b c.item-batch.ensures at in
    let tip : c.batch.inside.bounds.tip.size ≡ b.bounds.tip.size = ap (λ (x : MerkleizedView g.row.F.Denot g.row.H-Digest.Denot g.row.O.Denot). x.bounds.tip.size) same in
    let old : c.self.inside.tip.witness.size ≡ c.args.self.tip.witness.size = ap (λ (d : DbView g.row.F.Denot g.row.H-Digest.Denot g.row.O.Denot g.row.O-Cfg.Denot). d.tip.witness.size) c.self.view_is in
    let here = c.batch.invariant.tip in
    let own = c.self.invariant.size in
    let left = c.as_u64.ensures ∙ c.leaves.ensures.leaves in
    let right = c.as_u64-2.ensures ∙ c.leaves-2.ensures.leaves in
    let test = c.if-as_u64.true in
    elim either [
      | inl more ↦ absurd (omega (arith, more, test, left, right, here, tip, own, old))
      | inr waiting ↦ room waiting told
    ])

pub returns-then-as_u64-clause-full : goal.returns-then-as_u64-clause-full
returns-then-as_u64-clause-full g c told is b at =
    let all = c.settled.ensures.full told is in
    (inr all.0, all.1, all.2)

pub returns-then-as_u64-clause-errors : goal.returns-then-as_u64-clause-errors
returns-then-as_u64-clause-errors g c = err_more _ _ c.settled.result c.settled.ensures.errors (λ e out. inr out)

-- ---- it has more

pub unreachable-requires : goal.unreachable-requires
unreachable-requires g c =
    let read = ap length c.as_slice.ensures in
    let none : length c.batch.inside.operations ≡ 0 = omega (arith, read, c.in_default.len_below) in
    let db = c.batch.invariant.snapshot_db none in
    let tip = only_there c.batch.inside.bounds.db c.commitment.result c.batch.inside.bounds.ancestors (c.batch.invariant.snapshot_ancestors none) (c.in-Ok.ensures.at_boundary_or_ancestor.0 refl) in
    let size : c.batch.inside.bounds.tip.size ≡ c.args.self.tip.witness.size = ap (λ (k : Commitment g.row.F.Denot g.row.H-Digest.Denot). k.size) (sym db ∙ tip ∙ c.commitment.ensures) in
    let old : c.self.inside.tip.witness.size ≡ c.args.self.tip.witness.size = ap (λ (d : DbView g.row.F.Denot g.row.H-Digest.Denot g.row.O.Denot g.row.O-Cfg.Denot). d.tip.witness.size) c.self.view_is in
    let here = c.batch.invariant.tip in
    let own = c.self.invariant.size in
    let left = c.as_u64.ensures ∙ c.leaves.ensures.leaves in
    let right = c.as_u64-2.ensures ∙ c.leaves-2.ensures.leaves in
    let test = c.if-as_u64.false in
    omega (arith, test, left, right, here, own, old, size)

pub grown-requires-clause-bytes : goal.grown-requires-clause-bytes
grown-requires-clause-bytes g c =
    let read = last_read c.as_slice.result.now c.batch.inside.operations 0 c.commit-item.result _ c.as_slice.ensures c.in-len1-up.len_at_least c.commit-item.is in
    c.in-Ok-duplicate-2.ensures.same ∙ c.batch.invariant.bytes c.commit-item.result read ∙ ap g.O.Spelled.spelling (sym c.in-Ok-duplicate.ensures.same)

pub returns-in_default-duplicate-clause-stale : goal.returns-in_default-duplicate-clause-stale
returns-in_default-duplicate-clause-stale g c b at off = absurd (off (subst (λ (x : MerkleizedView g.row.F.Denot g.row.H-Digest.Denot g.row.O.Denot). Contains (x.bounds.db ∷ x.bounds.ancestors) (commitment_in c.args.self))
    (c.batch.view_is ∙ one_item (item_at c.args.pool.now c.args.id) c.item-batch.result.now b c.item-batch.ensures at)
    (subst (λ (k : Commitment g.row.F.Denot g.row.H-Digest.Denot). Contains (c.batch.inside.bounds.db ∷ c.batch.inside.bounds.ancestors) k)
    c.commitment.ensures (c.in-Ok.ensures.at_boundary_or_ancestor.0 refl))))

pub returns-in_default-duplicate-2-clause-stale : goal.returns-in_default-duplicate-2-clause-stale
returns-in_default-duplicate-2-clause-stale g c b at off = absurd (off (subst (λ (x : MerkleizedView g.row.F.Denot g.row.H-Digest.Denot g.row.O.Denot). Contains (x.bounds.db ∷ x.bounds.ancestors) (commitment_in c.args.self))
    (c.batch.view_is ∙ one_item (item_at c.args.pool.now c.args.id) c.item-batch.result.now b c.item-batch.ensures at)
    (subst (λ (k : Commitment g.row.F.Denot g.row.H-Digest.Denot). Contains (c.batch.inside.bounds.db ∷ c.batch.inside.bounds.ancestors) k)
    c.commitment.ensures (c.in-Ok.ensures.at_boundary_or_ancestor.0 refl))))

pub returns-clause-stale : goal.returns-clause-stale
returns-clause-stale g c b at off = absurd (off (subst (λ (x : MerkleizedView g.row.F.Denot g.row.H-Digest.Denot g.row.O.Denot). Contains (x.bounds.db ∷ x.bounds.ancestors) (commitment_in c.args.self))
    (c.batch.view_is ∙ one_item (item_at c.args.pool.now c.args.id) c.item-batch.result.now b c.item-batch.ensures at)
    (subst (λ (k : Commitment g.row.F.Denot g.row.H-Digest.Denot). Contains (c.batch.inside.bounds.db ∷ c.batch.inside.bounds.ancestors) k)
    c.commitment.ensures (c.in-Ok.ensures.at_boundary_or_ancestor.0 refl))))

pub returns-clause-fits : goal.returns-clause-fits
returns-clause-fits g c is ops more b at of made_of marks found =
    let s = g.F.Family.shape in
    let h = g.H.Hasher.hash in
    let m = g.O.Logged.meaning in
    let same = c.batch.view_is ∙ one_item (item_at c.args.pool.now c.args.id) c.item-batch.result.now b c.item-batch.ensures at in
    let count = size_of_list s h m ops _ _ _ of in
    let tree : c.self.inside.merkle.leaves ≡ c.args.self.tree.leaves = ap (λ (d : DbView g.row.F.Denot g.row.H-Digest.Denot g.row.O.Denot g.row.O-Cfg.Denot). d.tree.leaves) c.self.view_is in
    let old : c.self.inside.tip.witness.size ≡ c.args.self.tip.witness.size = ap (λ (d : DbView g.row.F.Denot g.row.H-Digest.Denot g.row.O.Denot g.row.O-Cfg.Denot). d.tip.witness.size) c.self.view_is in
    let own = c.self.invariant.size in
    let leaves : length ops ≡ c.args.self.tree.leaves = omega (arith, count, tree, old, own) in
    let fits = marked_fits s h m g.met.F.Family.lawful ops more b (commitment_in c.args.self) made_of marks count found in
    let there = subst (λ (x : MerkleizedView g.row.F.Denot g.row.H-Digest.Denot g.row.O.Denot). Fits s h (leaves_from s h m 0 ops) (length ops) x.tree fits.0) (sym same) fits.1 in
    c.grown.ensures.misfit is ops of fits.0 (subst (λ n. Fits s h (leaves_from s h m 0 ops) n c.batch.inside.tree fits.0) leaves there)

pub returns-clause-list : goal.returns-clause-list
returns-clause-list g c = both c.grown.result _ _ _ c.grown.ensures.list c.grown.ensures.list (λ made list too ops more b at was of.
    let s = g.F.Family.shape in
    let h = g.H.Hasher.hash in
    let m = g.O.Logged.meaning in
    let same = c.batch.view_is ∙ one_item (item_at c.args.pool.now c.args.id) c.item-batch.result.now b c.item-batch.ensures at in
    let sealed : IsSealedOf s h (leaves_from s h m 0 (ops ++ more)) c.batch.inside.tree =
    subst (IsSealedOf s h (leaves_from s h m 0 (ops ++ more))) (sym (ap (λ (x : MerkleizedView g.row.F.Denot g.row.H-Digest.Denot g.row.O.Denot). x.tree) same)) of.tree in
    let rest = c.as_slice.ensures ∙ ap (λ (x : MerkleizedView g.row.F.Denot g.row.H-Digest.Denot g.row.O.Denot). x.operations) same ∙ of.batch.own in
    let read = last_read c.as_slice.result.now (ops ++ more) b.bounds.base.size c.commit-item.result _ rest c.in-len1-up.len_at_least c.commit-item.is in
    list ops more was sealed of.ends of.few (read ∙ ap Some (sym c.in-Ok-duplicate.ensures.same)) (root_of_batch s h m (ops ++ more) _ b same of))

pub returns-clause-kept : goal.returns-clause-kept
returns-clause-kept g c = for_each c.grown.result _ (λ made told ops sizes b at le was.
    let same = c.batch.view_is ∙ one_item (item_at c.args.pool.now c.args.id) c.item-batch.result.now b c.item-batch.ensures at in
    let tip : c.batch.inside.bounds.tip.size ≡ b.bounds.tip.size = ap (λ (x : MerkleizedView g.row.F.Denot g.row.H-Digest.Denot g.row.O.Denot). x.bounds.tip.size) same in
    let old : c.self.inside.tip.witness.size ≡ c.args.self.tip.witness.size = ap (λ (d : DbView g.row.F.Denot g.row.H-Digest.Denot g.row.O.Denot g.row.O-Cfg.Denot). d.tip.witness.size) c.self.view_is in
    let here = c.batch.invariant.tip in
    let own = c.self.invariant.size in
    let left = c.as_u64.ensures ∙ c.leaves.ensures.leaves in
    let right = c.as_u64-2.ensures ∙ c.leaves-2.ensures.leaves in
    let test = c.if-as_u64.false in
    absurd (omega (arith, test, left, right, here, tip, own, old, le)))

pub returns-clause-done : goal.returns-clause-done
returns-clause-done g c b at le opened found =
    let same = c.batch.view_is ∙ one_item (item_at c.args.pool.now c.args.id) c.item-batch.result.now b c.item-batch.ensures at in
    let tip : c.batch.inside.bounds.tip.size ≡ b.bounds.tip.size = ap (λ (x : MerkleizedView g.row.F.Denot g.row.H-Digest.Denot g.row.O.Denot). x.bounds.tip.size) same in
    let old : c.self.inside.tip.witness.size ≡ c.args.self.tip.witness.size = ap (λ (d : DbView g.row.F.Denot g.row.H-Digest.Denot g.row.O.Denot g.row.O-Cfg.Denot). d.tip.witness.size) c.self.view_is in
    let here = c.batch.invariant.tip in
    let own = c.self.invariant.size in
    let left = c.as_u64.ensures ∙ c.leaves.ensures.leaves in
    let right = c.as_u64-2.ensures ∙ c.leaves-2.ensures.leaves in
    let test = c.if-as_u64.false in
    absurd (omega (arith, test, left, right, here, tip, own, old, le))

pub returns-clause-settled : goal.returns-clause-settled
returns-clause-settled g c told settled = both c.grown.result _ _ _ c.grown.ensures.uncommitted c.grown.ensures.uncommitted (λ made is too committed.
    let no : true ≡ false = sym is ∙ committed in absurd cc)

pub returns-clause-written : goal.returns-clause-written
returns-clause-written g c = both c.grown.result _ _ _ c.grown.ensures.written c.grown.ensures.written (λ made written too told b at either. written told)

pub returns-clause-room : goal.returns-clause-room
returns-clause-room g c = on_more _ _ c.grown.result c.grown.ensures.room (λ room told b at either. room told)

pub returns-clause-full : goal.returns-clause-full
returns-clause-full g c told is b at =
    let same = c.batch.view_is ∙ one_item (item_at c.args.pool.now c.args.id) c.item-batch.result.now b c.item-batch.ensures at in
    let tip : c.batch.inside.bounds.tip.size ≡ b.bounds.tip.size = ap (λ (x : MerkleizedView g.row.F.Denot g.row.H-Digest.Denot g.row.O.Denot). x.bounds.tip.size) same in
    let old : c.self.inside.tip.witness.size ≡ c.args.self.tip.witness.size = ap (λ (d : DbView g.row.F.Denot g.row.H-Digest.Denot g.row.O.Denot g.row.O-Cfg.Denot). d.tip.witness.size) c.self.view_is in
    let here = c.batch.invariant.tip in
    let own = c.self.invariant.size in
    let left = c.as_u64.ensures ∙ c.leaves.ensures.leaves in
    let right = c.as_u64-2.ensures ∙ c.leaves-2.ensures.leaves in
    let test = c.if-as_u64.false in
    let all = c.grown.ensures.full told is in
    (inl (omega (arith, test, left, right, here, tip, own, old)), all.0, all.1)

-- ---- what a crash leaves

pub returns-in-Err-clause-images : goal.returns-in-Err-clause-images
returns-in-Err-clause-images g c told ops more sizes b greatest least at was of some has =
    images_none g.H.Digest.Spelled.spelling (seen_log c.args.self.log).name (map (witness_of {F = g.row.F.Denot} g.F.Family.shape g.H.Hasher.hash g.O.Logged.meaning ops) sizes) _ greatest least (g.V.Volume.state c.args.vol.now) has

pub returns-in_default-duplicate-clause-images : goal.returns-in_default-duplicate-clause-images
returns-in_default-duplicate-clause-images g c told ops more sizes b greatest least at was of some has =
    images_none g.H.Digest.Spelled.spelling (seen_log c.args.self.log).name (map (witness_of {F = g.row.F.Denot} g.F.Family.shape g.H.Hasher.hash g.O.Logged.meaning ops) sizes) _ greatest least (g.V.Volume.state c.args.vol.now) has

pub returns-in_default-duplicate-2-clause-images : goal.returns-in_default-duplicate-2-clause-images
returns-in_default-duplicate-2-clause-images g c told ops more sizes b greatest least at was of some has =
    images_none g.H.Digest.Spelled.spelling (seen_log c.args.self.log).name (map (witness_of {F = g.row.F.Denot} g.F.Family.shape g.H.Hasher.hash g.O.Logged.meaning ops) sizes) _ greatest least (g.V.Volume.state c.args.vol.now) has

pub returns-then-as_u64-clause-images : goal.returns-then-as_u64-clause-images
returns-then-as_u64-clause-images g c told ops more sizes b greatest least at was of some has =
    let same = c.batch.view_is ∙ one_item (item_at c.args.pool.now c.args.id) c.item-batch.result.now b c.item-batch.ensures at in
    let tip : c.batch.inside.bounds.tip.size ≡ b.bounds.tip.size = ap (λ (x : MerkleizedView g.row.F.Denot g.row.H-Digest.Denot g.row.O.Denot). x.bounds.tip.size) same in
    let end : b.bounds.tip.size ≡ length (ops ++ more) = ap (λ (x : Commitment g.row.F.Denot g.row.H-Digest.Denot). x.size) of.batch.bounds.tip in
    let old : c.self.inside.tip.witness.size ≡ c.args.self.tip.witness.size = ap (λ (d : DbView g.row.F.Denot g.row.H-Digest.Denot g.row.O.Denot g.row.O-Cfg.Denot). d.tip.witness.size) c.self.view_is in
    let count = size_of_list g.F.Family.shape g.H.Hasher.hash g.O.Logged.meaning ops _ _ _ was.list in
    let here = c.batch.invariant.tip in
    let own = c.self.invariant.size in
    let test = c.if-as_u64.true in
    let left = c.as_u64.ensures ∙ c.leaves.ensures.leaves in
    let right = c.as_u64-2.ensures ∙ c.leaves-2.ensures.leaves in
    absurd (omega (arith, test, left, right, here, tip, end, own, old, count, some, length-append ops more))

pub returns-clause-images : goal.returns-clause-images
returns-clause-images g c told ops more sizes b greatest least at was of some has =
    let s = g.F.Family.shape in
    let h = g.H.Hasher.hash in
    let m = g.O.Logged.meaning in
    let same = c.batch.view_is ∙ one_item (item_at c.args.pool.now c.args.id) c.item-batch.result.now b c.item-batch.ensures at in
    let sealed : IsSealedOf s h (leaves_from s h m 0 (ops ++ more)) c.batch.inside.tree =
    subst (IsSealedOf s h (leaves_from s h m 0 (ops ++ more))) (sym (ap (λ (x : MerkleizedView g.row.F.Denot g.row.H-Digest.Denot g.row.O.Denot). x.tree) same)) of.tree in
    let rest = c.as_slice.ensures ∙ ap (λ (x : MerkleizedView g.row.F.Denot g.row.H-Digest.Denot g.row.O.Denot). x.operations) same ∙ of.batch.own in
    let read = last_read c.as_slice.result.now (ops ++ more) b.bounds.base.size c.commit-item.result _ rest c.in-len1-up.len_at_least c.commit-item.is in
    c.grown.ensures.images told ops more sizes greatest least was sealed of.ends of.few (read ∙ ap Some (sym c.in-Ok-duplicate.ensures.same)) (root_of_batch s h m (ops ++ more) _ b same of) has

-- ---- its log, of whichever list

pub returns-in-Err-clause-call : goal.returns-in-Err-clause-call
returns-in-Err-clause-call g c told = (
  c.args.self.tip.witness,
  call_none g.H.Digest.Spelled.spelling c.args.self.log c.args.self.tip.witness (g.V.Volume.state c.args.vol.now),
  tt,
)

pub returns-in_default-duplicate-clause-call : goal.returns-in_default-duplicate-clause-call
returns-in_default-duplicate-clause-call g c told = (
  c.args.self.tip.witness,
  call_none g.H.Digest.Spelled.spelling c.args.self.log c.args.self.tip.witness (g.V.Volume.state c.args.vol.now),
  tt,
)

pub returns-in_default-duplicate-2-clause-call : goal.returns-in_default-duplicate-2-clause-call
returns-in_default-duplicate-2-clause-call g c told = (
  c.args.self.tip.witness,
  call_none g.H.Digest.Spelled.spelling c.args.self.log c.args.self.tip.witness (g.V.Volume.state c.args.vol.now),
  tt,
)

pub returns-then-as_u64-clause-call : goal.returns-then-as_u64-clause-call
returns-then-as_u64-clause-call g c told = (
  c.args.self.tip.witness,
  call_settled g.H.Digest.Spelled.spelling c.args.self.log c.args.self.tip.witness (g.V.Volume.state c.args.vol.now) (g.V.Volume.state c.settled.new.vol) (c.settled.ensures.call told),
  both c.settled.result _ _ _ c.settled.ensures.same c.settled.ensures.same (λ made same too. ap (λ v. v.witness) same.tip),
)

-- ---- the log of an import

pub returns-in-Err-clause-restarts : goal.returns-in-Err-clause-restarts
returns-in-Err-clause-restarts g c waiting told ops more b at was of =
    restarts_none g.H.Digest.Spelled.spelling c.args.self.log _ (g.V.Volume.state c.args.vol.now)

pub returns-in_default-duplicate-clause-restarts : goal.returns-in_default-duplicate-clause-restarts
returns-in_default-duplicate-clause-restarts g c waiting told ops more b at was of =
    restarts_none g.H.Digest.Spelled.spelling c.args.self.log _ (g.V.Volume.state c.args.vol.now)

pub returns-in_default-duplicate-2-clause-restarts : goal.returns-in_default-duplicate-2-clause-restarts
returns-in_default-duplicate-2-clause-restarts g c waiting told ops more b at was of =
    restarts_none g.H.Digest.Spelled.spelling c.args.self.log _ (g.V.Volume.state c.args.vol.now)

pub returns-then-as_u64-clause-restarts : goal.returns-then-as_u64-clause-restarts
returns-then-as_u64-clause-restarts g c waiting told ops more b at was of =
    let s = g.F.Family.shape in
    let h = g.H.Hasher.hash in
    let m = g.O.Logged.meaning in
    let same = c.batch.view_is ∙ one_item (item_at c.args.pool.now c.args.id) c.item-batch.result.now b c.item-batch.ensures at in
    let tip : c.batch.inside.bounds.tip.size ≡ b.bounds.tip.size = ap (λ (x : MerkleizedView g.row.F.Denot g.row.H-Digest.Denot g.row.O.Denot). x.bounds.tip.size) same in
    let end : b.bounds.tip.size ≡ length (ops ++ more) = ap (λ (x : Commitment g.row.F.Denot g.row.H-Digest.Denot). x.size) of.batch.bounds.tip in
    let old : c.self.inside.tip.witness.size ≡ c.args.self.tip.witness.size = ap (λ (d : DbView g.row.F.Denot g.row.H-Digest.Denot g.row.O.Denot g.row.O-Cfg.Denot). d.tip.witness.size) c.self.view_is in
    let count = size_of_list s h m ops _ _ _ was in
    let here = c.batch.invariant.tip in
    let own = c.self.invariant.size in
    let test = c.if-as_u64.true in
    let left = c.as_u64.ensures ∙ c.leaves.ensures.leaves in
    let right = c.as_u64-2.ensures ∙ c.leaves-2.ensures.leaves in
    let none : ops ++ more ≡ ops = none_more ops more (omega (arith, test, left, right, here, tip, end, own, old, count, length-append ops more)) in
    let last = last_witness s h m g.met.F.Family.lawful ops _ _ _ was in
    let a = g.V.Volume.state c.args.vol.now in
    let b = g.V.Volume.state c.settled.new.vol in
    subst (λ (w : Witness g.row.F.Denot g.row.H-Digest.Denot). LogCall (seen_log c.args.self.log).name (Settles g.H.Digest.Spelled.spelling c.args.self.log w a) a b)
    (last ∙ ap (λ (os : List g.row.O.Denot). witness_of s h m os (length os)) (sym none))
    (c.settled.ensures.call told)

pub returns-clause-restarts : goal.returns-clause-restarts
returns-clause-restarts g c waiting told ops more b at was of =
    let s = g.F.Family.shape in
    let h = g.H.Hasher.hash in
    let m = g.O.Logged.meaning in
    let same = c.batch.view_is ∙ one_item (item_at c.args.pool.now c.args.id) c.item-batch.result.now b c.item-batch.ensures at in
    let sealed : IsSealedOf s h (leaves_from s h m 0 (ops ++ more)) c.batch.inside.tree =
    subst (IsSealedOf s h (leaves_from s h m 0 (ops ++ more))) (sym (ap (λ (x : MerkleizedView g.row.F.Denot g.row.H-Digest.Denot g.row.O.Denot). x.tree) same)) of.tree in
    let rest = c.as_slice.ensures ∙ ap (λ (x : MerkleizedView g.row.F.Denot g.row.H-Digest.Denot g.row.O.Denot). x.operations) same ∙ of.batch.own in
    let read = last_read c.as_slice.result.now (ops ++ more) b.bounds.base.size c.commit-item.result _ rest c.in-len1-up.len_at_least c.commit-item.is in
    c.grown.ensures.restarts waiting told ops more was sealed of.ends of.few (read ∙ ap Some (sym c.in-Ok-duplicate.ensures.same)) (root_of_batch s h m (ops ++ more) _ b same of)

-- ---- its bounds, and the batch's

pub returns-then-as_u64-clause-bounds : goal.returns-then-as_u64-clause-bounds
returns-then-as_u64-clause-bounds g c told was = c.settled.ensures.bounds told was

pub returns-clause-bounds : goal.returns-clause-bounds
returns-clause-bounds g c told was = both c.grown.result _ _ _ c.grown.ensures.bounds c.grown.ensures.bounds (λ made held too. held told)

pub returns-then-as_u64-clause-grows : goal.returns-then-as_u64-clause-grows
returns-then-as_u64-clause-grows g c = for_each c.settled.result _ (λ made b at more.
    let same = c.batch.view_is ∙ one_item (item_at c.args.pool.now c.args.id) c.item-batch.result.now b c.item-batch.ensures at in
    let tip : c.batch.inside.bounds.tip.size ≡ b.bounds.tip.size = ap (λ (x : MerkleizedView g.row.F.Denot g.row.H-Digest.Denot g.row.O.Denot). x.bounds.tip.size) same in
    let old : c.self.inside.tip.witness.size ≡ c.args.self.tip.witness.size = ap (λ (d : DbView g.row.F.Denot g.row.H-Digest.Denot g.row.O.Denot g.row.O-Cfg.Denot). d.tip.witness.size) c.self.view_is in
    let here = c.batch.invariant.tip in
    let own = c.self.invariant.size in
    let left = c.as_u64.ensures ∙ c.leaves.ensures.leaves in
    let right = c.as_u64-2.ensures ∙ c.leaves-2.ensures.leaves in
    let test = c.if-as_u64.true in
    absurd (omega (arith, more, test, left, right, here, tip, own, old)))

pub returns-clause-grows : goal.returns-clause-grows
returns-clause-grows g c = all_three c.grown.result _ _ _ _ c.grown.ensures.state c.grown.ensures.commit c.grown.ensures.bytes (λ made state commit bytes b at more.
    let same = c.batch.view_is ∙ one_item (item_at c.args.pool.now c.args.id) c.item-batch.result.now b c.item-batch.ensures at in
    let here = c.batch.inside.bounds.tip in
    let tip = ap (λ (x : MerkleizedView g.row.F.Denot g.row.H-Digest.Denot g.row.O.Denot). x.bounds.tip) same in
    let parts = sym (state_by here c.batch.inside.tree.leaves here.root (sym c.batch.invariant.tip) refl) in
    let own : c.as_slice.result.now ≡ b.operations = c.as_slice.ensures ∙ ap (λ (x : MerkleizedView g.row.F.Denot g.row.H-Digest.Denot g.row.O.Denot). x.operations) same in
    let read = last_read c.as_slice.result.now b.operations 0 c.commit-item.result _ own c.in-len1-up.len_at_least c.commit-item.is in
    (state ∙ parts ∙ tip, read ∙ ap Some (sym c.in-Ok-duplicate.ensures.same ∙ sym commit), bytes))
