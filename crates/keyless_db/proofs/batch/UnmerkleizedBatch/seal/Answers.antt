use Rattle.std.specs.Prelude.{min}
use Rattle.std.proofs.Common.{◌≡◌, ◌+◌, refl, List, [], ◌∷◌, ◌++◌, length, sym, ◌∙◌, ap, subst, arith}
use Rattle.auth_journal.specs.Batched.{UnsealedItems, AreSealedFrom, IsSealedOfItems, IsUnsealedOfItems, with_item}
use Rattle.log_model.specs.Operations.{floor_of, root_of}
use Rattle.chain_core.specs.Reached.{IsPlaceOf}
use Rattle.chain_core.specs.declared.commitment.Commitment.{Commitment}
use Rattle.chain_core.specs.Sealing.{is_at}
use Rattle.chain_core.proofs.ChainLemmas.{told_by, may_here, seal_room}
use Rattle.keyless_db.specs.Batches.{UnmerkleizedView, bounds_of, own_items, sealing_of}
use Rattle.keyless_db.proofs.SealLemmas.{own_is}
use Rattle.keyless_db.proofs.MadeLemmas.{made_with, sound_made}
use Rattle.keyless_db.proofs.MarkLemmas.{sealed_marks}
use Rattle.keyless_db.proofs.batch.UnmerkleizedBatch.seal.Goals as goal

pub returns-in-Err-clause-refused : goal.returns-in-Err-clause-refused
returns-in-Err-clause-refused g c =
    let at : IsPlaceOf bounds_of c.args.pool.now c.args.self.parent c.args.self.base c.args.below c.in-Ok.place =
    subst (λ (b : UnmerkleizedView g.row.F.Denot g.row.H-Digest.Denot g.row.O.Denot). IsPlaceOf bounds_of c.args.pool.now b.parent b.base c.args.below c.in-Ok.place)
    c.self.view_is c.in-Ok.ensures.place in
    told_by bounds_of g.H.Digest.Digest.bytes c.args.pool.now (sealing_of c.args.self) c.args.current.now c.args.below c.args.floor _ _
    c.in-Ok.place c.in-Err.error at (c.as_u64-size.ensures ∙ c.size.ensures.size) (c.new.ensures ∙ c.as_u64.ensures)
    c.in-Err.ensures.refused

pub returns-clause-sealed : goal.returns-clause-sealed
returns-clause-sealed g c =
    let size = c.as_u64-size.ensures ∙ c.size.ensures.size in
    let at : IsPlaceOf bounds_of c.args.pool.now c.args.self.parent c.args.self.base c.args.below c.in-Ok.place =
    subst (λ (b : UnmerkleizedView g.row.F.Denot g.row.H-Digest.Denot g.row.O.Denot). IsPlaceOf bounds_of c.args.pool.now b.parent b.base c.args.below c.in-Ok.place)
    c.self.view_is c.in-Ok.ensures.place in
    record {
      place = c.in-Ok.place;
      place_of = at;
      may = may_here g.H.Digest.Digest.bytes c.args.current.now c.in-Ok.place _ _ _ _ size (c.new.ensures ∙ c.as_u64.ensures)
          c.in-Ok-check.ensures.refused;
      base = ap (λ (b : UnmerkleizedView g.row.F.Denot g.row.H-Digest.Denot g.row.O.Denot). b.base) c.self.view_is;
      db = refl;
      ancestors = refl;
      size = c.new-3.ensures.size ∙ c.new-2.ensures ∙ c.in-Ok-check.ensures.tip ∙ ap (λ n. n + 1) size;
      floor_is = refl;
    }

pub invariant_of-result : goal.invariant_of-result
invariant_of-result g c =
    let size : c.as_u64-size.result ≡ c.self.inside.base.size + length c.self.inside.tree.items =
    c.as_u64-size.ensures ∙ c.size.ensures.size
    ∙ sym (ap (λ (b : UnmerkleizedView g.row.F.Denot g.row.H-Digest.Denot g.row.O.Denot). b.base.size + length b.tree.items) c.self.view_is) in
    let tip : c.new-3.result.size ≡ c.self.inside.base.size + length c.self.inside.tree.items + 1 =
    c.new-3.ensures.size ∙ c.new-2.ensures ∙ c.in-Ok-check.ensures.tip ∙ ap (λ n. n + 1) size in
    let room = seal_room (is_at g.H.Digest.Digest.bytes c.args.current.now (c.in-Ok.place.boundary ∷ c.in-Ok.place.ancestors)) c.as_u64-size.result c.in-Ok.place.floor c.new.result
    c.in-Ok-check.ensures.refused in
    sound_made g.F.Family.shape g.H.Hasher.hash g.O.Spelled.spelling c.self.inside.tree c.self.inside.base.size c.self.invariant
    c.commit-commit.result c.min-reached.result c.in_ok-tree.tree c.in_ok-tree.ensures.sealed _ refl tip (omega (arith, room, tip, size))

pub returns-clause-tree : goal.returns-clause-tree
returns-clause-tree g c =
    let s = g.F.Family.shape in
    let h = g.H.Hasher.hash in
    let spelling = g.O.Spelled.spelling in
    let commit = g.O.KeylessOperation.committed c.args.metadata c.args.floor in
    let t = c.in_ok-tree.tree in
    let tree : c.self.inside.tree ≡ c.args.self.tree = ap (λ (b : UnmerkleizedView g.row.F.Denot g.row.H-Digest.Denot g.row.O.Denot). b.tree) c.self.view_is in
    let same : c.commit-commit.result ≡ commit = c.commit-commit.ensures ∙ ap (λ n. g.O.KeylessOperation.committed c.args.metadata n) c.as_u64-2.ensures in
    let least = min (length c.in-Ok.place.ancestors) (length c.args.self.tree.kept) in
    let reached : c.min-reached.result ≡ least =
    c.min-reached.ensures ∙ ap (λ n. min n c.segments.result) c.len.ensures.count
    ∙ ap (λ n. min (length c.in-Ok.place.ancestors) n) (c.segments.ensures ∙ ap (λ (u : UnsealedItems g.row.H-Digest.Denot g.row.O.Denot). length u.kept) tree) in
    subst (λ (u : UnsealedItems g.row.H-Digest.Denot g.row.O.Denot). AreSealedFrom (with_item s h spelling u commit) least t) tree
    (subst (λ (op : g.row.O.Denot). AreSealedFrom (with_item s h spelling c.self.inside.tree op) least t) same
    (subst (λ n. AreSealedFrom (with_item s h spelling c.self.inside.tree c.commit-commit.result) n t) reached c.in_ok-tree.ensures.sealed))

pub returns-clause-list : goal.returns-clause-list
returns-clause-list g c list of chain =
    let s = g.F.Family.shape in
    let h = g.H.Hasher.hash in
    let m = g.O.Logged.meaning in
    let spelling = g.O.Spelled.spelling in
    let commit = g.O.KeylessOperation.committed c.args.metadata c.args.floor in
    let t = c.in_ok-tree.tree in
    let size = c.as_u64-size.ensures ∙ c.size.ensures.size in
    let at : IsPlaceOf bounds_of c.args.pool.now c.args.self.parent c.args.self.base c.args.below c.in-Ok.place =
    subst (λ (b : UnmerkleizedView g.row.F.Denot g.row.H-Digest.Denot g.row.O.Denot). IsPlaceOf bounds_of c.args.pool.now b.parent b.base c.args.below c.in-Ok.place)
    c.self.view_is c.in-Ok.ensures.place in
    let base : c.self.inside.base ≡ c.args.self.base = ap (λ (b : UnmerkleizedView g.row.F.Denot g.row.H-Digest.Denot g.row.O.Denot). b.base) c.self.view_is in
    let tree : c.self.inside.tree ≡ c.args.self.tree = ap (λ (b : UnmerkleizedView g.row.F.Denot g.row.H-Digest.Denot g.row.O.Denot). b.tree) c.self.view_is in
    let same : c.commit-commit.result ≡ commit = c.commit-commit.ensures ∙ ap (λ n. g.O.KeylessOperation.committed c.args.metadata n) c.as_u64-2.ensures in
    let ops : c.self.inside.tree.items ++ (c.commit-commit.result ∷ []) ≡ c.args.self.tree.items ++ (commit ∷ []) =
    ap (λ (u : UnsealedItems g.row.H-Digest.Denot g.row.O.Denot). u.items ++ (c.commit-commit.result ∷ [])) tree ∙ ap (λ (op : g.row.O.Denot). c.args.self.tree.items ++ (op ∷ [])) same in
    let goes : IsUnsealedOfItems s h spelling list c.self.inside.tree =
    subst (λ (u : UnsealedItems g.row.H-Digest.Denot g.row.O.Denot). IsUnsealedOfItems s h spelling list u) (sym tree) of.tree in
    let begins : c.self.inside.base.size ≡ length list = ap (λ (k : Commitment g.row.F.Denot g.row.H-Digest.Denot). k.size) (base ∙ of.base) in
    let sealed : IsSealedOfItems s h spelling (list ++ (c.args.self.tree.items ++ (commit ∷ []))) t =
    subst (λ (os : List g.row.O.Denot). IsSealedOfItems s h spelling (list ++ os) t) ops (c.in_ok-tree.ensures.list list goes) in
    let own : own_items t ≡ c.args.self.tree.items ++ (commit ∷ []) =
    own_is t _ (c.self.inside.tree.items ++ (c.commit-commit.result ∷ [])) c.in_ok-tree.ensures.sealed.items ∙ ops in
    made_with s h m spelling list c.args.pool.now c.args.self c.args.below c.in-Ok.place at of chain commit c.args.floor
    (g.met.O.KeylessOperation.floored c.args.metadata c.args.floor) g.H.Digest.Digest.bytes c.args.current.now _ _ c.in-Ok-check.ensures.refused size
    t c.new-3.result (c.new-3.ensures.size ∙ c.new-2.ensures ∙ c.in-Ok-check.ensures.tip) sealed own
    (λ last. c.new-3.ensures.root ∙ c.in_ok-tree.ensures.root list goes (omega (arith, c.self.invariant.count, begins))
    (c.new-below_tip.ensures ∙ c.as_u64-3.ensures ∙ last ∙ ap (λ (os : List g.row.O.Denot). floor_of m (list ++ os)) (sym ops))
    ∙ ap (λ (os : List g.row.O.Denot). root_of s h m (list ++ os)) ops)
    c.self.inside.base base

pub returns-clause-marks : goal.returns-clause-marks
returns-clause-marks g c list of on =
    let s = g.F.Family.shape in
    let h = g.H.Hasher.hash in
    let m = g.O.Logged.meaning in
    let spelling = g.O.Spelled.spelling in
    let at : IsPlaceOf bounds_of c.args.pool.now c.args.self.parent c.args.self.base c.args.below c.in-Ok.place =
    subst (λ (b : UnmerkleizedView g.row.F.Denot g.row.H-Digest.Denot g.row.O.Denot). IsPlaceOf bounds_of c.args.pool.now b.parent b.base c.args.below c.in-Ok.place)
    c.self.view_is c.in-Ok.ensures.place in
    let begins = subst (λ (b : UnmerkleizedView g.row.F.Denot g.row.H-Digest.Denot g.row.O.Denot). b.tree.nodes.base ≡ b.base.size) c.self.view_is c.self.invariant.begins in
    let counted = subst (λ (b : UnmerkleizedView g.row.F.Denot g.row.H-Digest.Denot g.row.O.Denot). length b.tree.kept ≡ length b.tree.nodes.links) c.self.view_is c.self.invariant.counted in
    sealed_marks s h m spelling list c.args.pool.now c.args.self c.args.below c.in-Ok.place _ c.in_ok-tree.tree.nodes at c.requires of on (returns-clause-tree g c).nodes counted begins
