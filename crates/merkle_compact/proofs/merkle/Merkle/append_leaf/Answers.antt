use Rattle.std.proofs.Common.{◌≡◌, List, [], ◌∷◌, ◌++◌, length, ◌∙◌, sym, ap, subst, arith}
use Rattle.std.proofs.Math.Seq.{drop-append_seam}
use Rattle.tree_shape.specs.Slow.{leaf}
use Rattle.tree_core.specs.Tree.{Tree, IsOf}
use Rattle.tree_core.specs.Applied.{IsMarkOf}
use Rattle.tree_core.specs.Batches.{Unsealed, IsUnsealedOf, leaf_count}
use Rattle.merkle_compact.proofs.FrontierLemmas.{grown_no_pins}
use Rattle.merkle_compact.proofs.AppendLemmas.{added, fits_first, only_memory}
use Rattle.merkle_compact.proofs.merkle.Merkle.append_leaf.Goals as goal

pub invariant_of-self : goal.invariant_of-self
invariant_of-self g c = grown_no_pins _ _ c.self.inside.mem c.apply_batch.new.self c.leaves.ensures.sound c.self.invariant c.in-Ok.ensures.longer

pub returns-in-Ok-clause-tree : goal.returns-in-Ok-clause-tree
returns-in-Ok-clause-tree g c all told =
    let of : IsOf g.F.Family.shape g.H.Hasher.hash all c.self.inside.mem = subst (λ (t : Tree g.row.D.Denot). IsOf g.F.Family.shape g.H.Hasher.hash all t) (sym c.self.view_is) told in
    let s = g.F.Family.shape in
    let h = g.H.Hasher.hash in
    let begun = c.in_ok-batch.ensures.batch h all of in
    let more : List g.row.D.Denot = leaf s h (leaf_count c.in_ok-batch.batch) c.args.element.now ∷ [] in
    let unsealed : IsUnsealedOf s h all c.add.new.self = subst (λ (b : Unsealed g.row.D.Denot). IsUnsealedOf s h all b) (sym c.in_ok-add.ensures.ok) (added s h all c.in_ok-batch.batch more begun) in
    let sealed = c.in_ok-sealed.ensures.batch all unsealed in
    let grown = c.in-Ok.ensures.tree h all (all ++ c.add.new.self.digests) of sealed in
    let empty = c.in_ok-batch.ensures.begins.digests in
    let none : length c.in_ok-batch.batch.digests ≡ 0 = ap length empty in
    let at : leaf_count c.in_ok-batch.batch ≡ length all = omega (arith, none, c.in_ok-batch.ensures.begins.base, of.count) in
    let digests : c.add.new.self.digests ≡ leaf s h (length all) c.args.element.now ∷ [] =
    ap (λ (b : Unsealed g.row.D.Denot). b.digests) c.in_ok-add.ensures.ok ∙ ap (λ (ds : List g.row.D.Denot). ds ++ more) empty ∙ ap (λ n. leaf s h n c.args.element.now ∷ []) at in
    subst (λ (ds : List g.row.D.Denot). IsOf s h ds c.apply_batch.new.self) (ap (λ (ds : List g.row.D.Denot). all ++ ds) (drop-append_seam all c.add.new.self.digests ∙ digests)) grown

pub returns-clause-memory : goal.returns-clause-memory
returns-clause-memory g c lt =
    let s = g.F.Family.shape in
    let t = c.self.inside.mem in
    let u = c.add.new.self in
    let is = c.in_ok-add.ensures.ok in
    let links = ap (λ (b : Unsealed g.row.D.Denot). b.links) is ∙ c.in_ok-batch.ensures.begins.links in
    let mark : IsMarkOf s t u.base u.base_peaks = subst (λ (b : Unsealed g.row.D.Denot). IsMarkOf s t b.base b.base_peaks) (sym is) c.in_ok-batch.ensures.marked.1 in
    only_memory s t c.in_ok-sealed.sealed c.in-Err.error (fits_first s t u c.in_ok-sealed.sealed links mark c.in_ok-sealed.ensures.sealed) c.in-Err.ensures.answer
