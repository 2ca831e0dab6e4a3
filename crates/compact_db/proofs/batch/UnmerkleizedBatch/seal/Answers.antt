use Rattle.std.proofs.Common.{◌≡◌, ◌+◌, refl, List, ◌++◌, length, sym, ◌∙◌, ap, subst, arith}
use Rattle.std.specs.Prelude.{min}
use Rattle.tree_core.specs.Batches.{IsSealedOf, IsSealedFrom, IsUnsealedOf, with_digests}
use Rattle.log_model.specs.Operations.{floor_of, leaves_from, root_of}
use Rattle.chain_core.specs.declared.commitment.Commitment.{Commitment}
use Rattle.compact_db.specs.Batches.{UnmerkleizedView, AreLastBytes}
use Rattle.compact_db.specs.Sealing.{IsEnded, HasPlace}
use Rattle.compact_db.proofs.MarkLemmas.{sealed_marks}
use Rattle.compact_db.proofs.PlaceLemmas.{told_by, may_here, sealed_with}
use Rattle.compact_db.proofs.SealLemmas.{sound_ended}
use Rattle.compact_db.proofs.batch.UnmerkleizedBatch.seal.Goals as goal

pub returns-in-Err-clause-refused : goal.returns-in-Err-clause-refused
returns-in-Err-clause-refused g c =
    let at : HasPlace c.args.pool.now c.args.self c.args.below c.in-Ok.place =
    subst (λ (b : UnmerkleizedView g.row.F.Denot g.row.H-Digest.Denot g.row.O.Denot). HasPlace c.args.pool.now b c.args.below c.in-Ok.place)
    c.self.view_is c.in-Ok.ensures.place in
    told_by g.H.Digest.Digest.bytes c.args.pool.now c.args.self c.args.current.now c.args.below c.args.floor _ _
    c.in-Ok.place c.in-Err.error at (c.as_u64-size.ensures ∙ c.size.ensures.size) (c.new.ensures ∙ c.as_u64.ensures)
    c.in-Err.ensures.refused

pub returns-clause-sealed : goal.returns-clause-sealed
returns-clause-sealed g c =
    let size = c.as_u64-size.ensures ∙ c.size.ensures.size in
    let at : HasPlace c.args.pool.now c.args.self c.args.below c.in-Ok.place =
    subst (λ (b : UnmerkleizedView g.row.F.Denot g.row.H-Digest.Denot g.row.O.Denot). HasPlace c.args.pool.now b c.args.below c.in-Ok.place)
    c.self.view_is c.in-Ok.ensures.place in
    record {
      place = c.in-Ok.place;
      place_of = at;
      may = may_here g.H.Digest.Digest.bytes c.args.current.now c.in-Ok.place _ _ _ _ size (c.new.ensures ∙ c.as_u64.ensures)
          c.in-Ok-check.ensures.refused;
      base = ap (λ (b : UnmerkleizedView g.row.F.Denot g.row.H-Digest.Denot g.row.O.Denot). b.base) c.self.view_is;
      db = refl;
      ancestors = refl;
      size = c.new-3.ensures.size ∙ c.new-2.ensures ∙ c.in-Ok-check.ensures.tip ∙ ap (λ n. n + 1) size;
      floor_is = refl;
    }

pub returns-clause-list : goal.returns-clause-list
returns-clause-list g c list of chain =
    let s = g.F.Family.shape in
    let h = g.H.Hasher.hash in
    let m = g.O.Logged.meaning in
    let size = c.as_u64-size.ensures ∙ c.size.ensures.size in
    let at : HasPlace c.args.pool.now c.args.self c.args.below c.in-Ok.place =
    subst (λ (b : UnmerkleizedView g.row.F.Denot g.row.H-Digest.Denot g.row.O.Denot). HasPlace c.args.pool.now b c.args.below c.in-Ok.place)
    c.self.view_is c.in-Ok.ensures.place in
    let base : c.self.inside.base ≡ c.args.self.base =
    ap (λ (b : UnmerkleizedView g.row.F.Denot g.row.H-Digest.Denot g.row.O.Denot). b.base) c.self.view_is in
    let begins : c.self.inside.tree.base ≡ length list =
    c.self.invariant.base_is ∙ ap (λ (b : Commitment g.row.F.Denot g.row.H-Digest.Denot). b.size) (base ∙ of.base) in
    let goes : IsUnsealedOf s h (leaves_from s h m 0 list) c.self.inside.tree =
    subst (IsUnsealedOf s h (leaves_from s h m 0 list))
    (sym (ap (λ (b : UnmerkleizedView g.row.F.Denot g.row.H-Digest.Denot g.row.O.Denot). b.tree) c.self.view_is)) of.tree in
    let ops = c.in-Ok-ended.operations.items in
    let ended : IsEnded m c.args.self.pending c.args.metadata c.args.floor ops =
    subst (λ n. IsEnded m c.args.self.pending c.args.metadata n ops) c.as_u64-2.ensures
    (subst (λ (b : UnmerkleizedView g.row.F.Denot g.row.H-Digest.Denot g.row.O.Denot). IsEnded m b.pending c.args.metadata c.as_u64-2.result ops)
    c.self.view_is c.in-Ok-ended.ensures.ended) in
    let tree : IsSealedOf s h (leaves_from s h m 0 (list ++ ops)) c.in_ok-sealed.sealed.tree =
    subst (λ (os : List g.row.O.Denot). IsSealedOf s h (leaves_from s h m 0 (list ++ os)) c.in_ok-sealed.sealed.tree) c.deref.ensures.value
    (c.in_ok-sealed.ensures.tree list begins goes) in
    sealed_with s h m list c.args.pool.now c.args.self c.args.below c.in-Ok.place at of chain g.H.Digest.Digest.bytes c.args.current.now
    _ _ c.args.floor c.in-Ok-check.ensures.refused size ops c.args.metadata ended c.in_ok-sealed.sealed.tree c.new-3.result
    (c.new-3.ensures.size ∙ c.new-2.ensures ∙ c.in-Ok-check.ensures.tip) tree
    (λ last. c.new-3.ensures.root ∙ c.in_ok-sealed.ensures.root list begins goes
    (c.new-below_tip.ensures ∙ c.as_u64-3.ensures ∙ last ∙ ap (λ (os : List g.row.O.Denot). floor_of m (list ++ os)) (sym c.deref.ensures.value))
    ∙ ap (λ (os : List g.row.O.Denot). root_of s h m (list ++ os)) c.deref.ensures.value)
    c.self.inside.base c.from_vec.result base c.from_vec.ensures

pub returns-clause-segments : goal.returns-clause-segments
returns-clause-segments g c =
    let s = g.F.Family.shape in
    let h = g.H.Hasher.hash in
    let m = g.O.Logged.meaning in
    let links : c.segments.result ≡ length c.args.self.tree.links = c.segments.ensures ∙ ap (λ (b : UnmerkleizedView g.row.F.Denot g.row.H-Digest.Denot g.row.O.Denot). length b.tree.links) c.self.view_is in
    let reached : c.min-reached.result ≡ min (length c.in-Ok.place.ancestors) (length c.args.self.tree.links) =
    c.min-reached.ensures ∙ ap (λ n. min n c.segments.result) c.len.ensures.count ∙ ap (min (length c.in-Ok.place.ancestors)) links in
    let base : c.self.inside.tree.base ≡ c.args.self.base.size = c.self.invariant.base_is ∙ ap (λ (b : UnmerkleizedView g.row.F.Denot g.row.H-Digest.Denot g.row.O.Denot). b.base.size) c.self.view_is in
    let ops : c.deref.result.now ≡ c.from_vec.result = c.deref.ensures.value ∙ sym c.from_vec.ensures in
    let own = c.self.inside.tree in
    subst (λ (b : UnmerkleizedView g.row.F.Denot g.row.H-Digest.Denot g.row.O.Denot). IsSealedFrom (with_digests b.tree (leaves_from s h m c.args.self.base.size c.from_vec.result)) (min (length c.in-Ok.place.ancestors) (length c.args.self.tree.links)) c.in_ok-sealed.sealed.tree) c.self.view_is
    (subst (λ n. IsSealedFrom (with_digests own (leaves_from s h m n c.from_vec.result)) (min (length c.in-Ok.place.ancestors) (length c.args.self.tree.links)) c.in_ok-sealed.sealed.tree) base
    (subst (λ (os : List g.row.O.Denot). IsSealedFrom (with_digests own (leaves_from s h m own.base os)) (min (length c.in-Ok.place.ancestors) (length c.args.self.tree.links)) c.in_ok-sealed.sealed.tree) ops
    (subst (λ n. IsSealedFrom (with_digests own (leaves_from s h m own.base c.deref.result.now)) n c.in_ok-sealed.sealed.tree) reached c.in_ok-sealed.ensures.segments)))

pub returns-clause-marks : goal.returns-clause-marks
returns-clause-marks g c list of on =
    let s = g.F.Family.shape in
    let h = g.H.Hasher.hash in
    let m = g.O.Logged.meaning in
    let at : HasPlace c.args.pool.now c.args.self c.args.below c.in-Ok.place =
    subst (λ (b : UnmerkleizedView g.row.F.Denot g.row.H-Digest.Denot g.row.O.Denot). HasPlace c.args.pool.now b c.args.below c.in-Ok.place)
    c.self.view_is c.in-Ok.ensures.place in
    let base : c.args.self.tree.base ≡ c.args.self.base.size =
    sym (ap (λ (b : UnmerkleizedView g.row.F.Denot g.row.H-Digest.Denot g.row.O.Denot). b.tree.base) c.self.view_is) ∙ c.self.invariant.base_is ∙ ap (λ (b : UnmerkleizedView g.row.F.Denot g.row.H-Digest.Denot g.row.O.Denot). b.base.size) c.self.view_is in
    sealed_marks s h m list c.args.pool.now c.args.self c.args.below c.in-Ok.place _ c.in_ok-sealed.sealed.tree at c.requires of on (returns-clause-segments g c) base

pub invariant_of-result : goal.invariant_of-result
invariant_of-result g c =
    let ops : c.deref.result.now ≡ c.from_vec.result = c.deref.ensures.value ∙ sym c.from_vec.ensures in
    let base = ap (λ (b : UnmerkleizedView g.row.F.Denot g.row.H-Digest.Denot g.row.O.Denot). b.base.size) c.self.view_is in
    let pending = ap (λ (b : UnmerkleizedView g.row.F.Denot g.row.H-Digest.Denot g.row.O.Denot). length b.pending) c.self.view_is in
    let own = c.self.invariant.base_is in
    let leaves = c.in_ok-sealed.ensures.leaves in
    let count = ap length ops in
    let size = c.as_u64-size.ensures ∙ c.size.ensures.size in
    let tip = c.new-3.ensures.size ∙ c.new-2.ensures ∙ c.in-Ok-check.ensures.tip in
    sound_ended g.O.Spelled.spelling c.in_ok-sealed.sealed.tree _ c.in-Ok-ended.ensures.ended.commit c.from_vec.result
    c.in_ok-sealed.sealed.commit_bytes _ (c.from_vec.ensures ∙ c.in-Ok-ended.ensures.ended.ended)
    (omega (arith, leaves, own, count)) (omega (arith, base, pending, size, tip))
    (subst (λ (os : List g.row.O.Denot). AreLastBytes g.O.Spelled.spelling os c.in_ok-sealed.sealed.commit_bytes) ops
    c.in_ok-sealed.ensures.bytes)
