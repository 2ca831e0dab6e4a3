use Rattle.std.proofs.Common.{ℕ, Result, Ok, Err, sym, subst, arith}
use Rattle.std.specs.Prelude.{IfErr, IsOkUnless}
use Rattle.tree_shape.specs.Shape.{Shape}
use Rattle.tree_store.specs.declared.error.Error.{Error}
use Rattle.tree_store.specs.declared.error.Error.TheVariants.{Memory}
use Rattle.tree_core.specs.Tree.{Tree}
use Rattle.tree_core.specs.Batches.{Unsealed, Sealed}
use Rattle.tree_core.specs.Links.{StandsBehind}
use Rattle.tree_core.specs.Applied.{IsMarkOf, FitsTree, RefusedByTree}
use Rattle.tree_core.proofs.ChainLemmas.{own_fits, refused_fitting}
use Rattle.tree_tests.proofs.chains.append_two.Goals as goal

only_memory : {F D T : Type 0} (s : Shape) (t : Tree D) (b : Sealed D) (i : ℕ) (r : Result T (Error F)) → FitsTree s t b i → IfErr r (RefusedByTree s t b) → IsOkUnless r Memory
only_memory s t b i (Ok x) fits refused = tt
only_memory s t b i (Err e) fits refused = refused_fitting s t b i e fits refused

pub returns : goal.returns
returns g c =
    let s = g.F.Family.shape in
    let t = c.args.tree.now in
    let mark = subst (λ (b : Unsealed g.row.H-Digest.Denot). IsMarkOf s t b.base b.base_peaks) (sym c.in_ok-add_leaf_digest.ensures.ok) c.in_ok-parent.ensures.marked.1 in
    let fits = own_fits s t c.add_leaf_digest.new.self 0 c.in_ok-parent-2.parent (omega arith) c.in_ok-parent-2.ensures.sealed mark in
    record { memory = refused_fitting s t c.in_ok-parent-2.parent 0 c.in-Err.error fits (c.in-Err.ensures {u = tt}).answer }

pub returns-in-Ok : goal.returns-in-Ok
returns-in-Ok g c =
    let s = g.F.Family.shape in
    let u = c.apply_batch.new.self in
    let p = c.in_ok-parent-2.parent in
    let b = c.in_ok-child.child in
    let base = c.in_ok-child.ensures.child.base in
    let behind = subst (λ (n : ℕ). StandsBehind s p.links n b.base_peaks) base c.in_ok-child.ensures.behind in
    let here = subst (λ (n : ℕ). IsMarkOf s u n b.base_peaks) (sym base) ((c.in-Ok.ensures {u = tt}).behind b.base_peaks behind) in
    let mark = subst (λ (b : Unsealed g.row.H-Digest.Denot). IsMarkOf s u b.base b.base_peaks) (sym c.in_ok-add_leaf_digest-2.ensures.ok) here in
    let fits = own_fits s u c.add_leaf_digest-2.new.self 0 c.in_ok-child-2.child (omega arith) c.in_ok-child-2.ensures.sealed mark in
    record { memory = only_memory s u c.in_ok-child-2.child 0 c.apply_batch-in-Ok.result fits c.apply_batch-in-Ok.ensures.answer }
