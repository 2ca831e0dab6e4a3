use Rattle.std.proofs.Common.{◌≡◌, ◌-◌, map, Option, sym, ◌∙◌, ap, subst, arith}
use Rattle.std.specs.Prelude.{IfSome}
use Rattle.tree_shape.specs.Hashing.{Hashing}
use Rattle.tree_shape.specs.Shape.{peaks}
use Rattle.tree_shape.specs.Slow.{node_of}
use Rattle.tree_proof.specs.declared.proof.Proof.{Proof}
use Rattle.compact_db.specs.Derived.{ArePinsIn}
use Rattle.compact_db.specs.Pinned.{ProvesCommit}
use Rattle.compact_db.proofs.DerivedLemmas.{witness_by}
use Rattle.compact_db.proofs.PinnedLemmas.{tree_proof}
use Rattle.compact_db.proofs.rebuilding.shown_under.Goals as goal

pub returns-in-Some-clause-proof : goal.returns-in-Some-clause-proof
returns-in-Some-clause-proof g c =
    let s = g.F.Family.shape in
    let w = c.args.witness in
    let told = subst (λ (o : Option (Proof g.row.F.Denot g.row.H-Digest.Denot)). IfSome o (λ proof. (h : Hashing g.row.H-Digest.Denot) → ProvesCommit s h w c.new-below.result proof))
    c.in-Some.is c.in_ok-proof.ensures.proof in
    subst (λ floor. ProvesCommit s g.H.Hasher.hash w floor c.in-Some.proof) (c.new-below.ensures ∙ c.as_u64.ensures) (told g.H.Hasher.hash)

pub returns-clause-witness : goal.returns-clause-witness
returns-clause-witness g c =
    let w = c.args.witness in
    let t = c.in_ok-merkle.merkle in
    let v = c.in_ok-shown.shown in
    let size = c.as_u64-before.ensures in
    let some = c.requires.some in
    let new = c.in_ok-merkle.ensures.leaves in
    let last : t.leaves - 1 ≡ c.as_u64-before.result - 1 = omega (arith, new) in
    let whole : t.leaves ≡ w.size = omega (arith, new, size, some) in
    let read = subst (λ n. ArePinsIn g.F.Family.shape t n v.witness.pinned_nodes) last c.in_ok-shown.ensures.pinned in
    witness_by v.witness w.op_bytes w.size w.pinned_nodes c.in_ok-shown.ensures.bytes (c.in_ok-shown.ensures.size ∙ whole)
    (c.in_ok-merkle.ensures.pins _ read ∙ c.into_vec-pins.ensures)

pub returns-clause-proof : goal.returns-clause-proof
returns-clause-proof g c =
    let s = g.F.Family.shape in
    let h = g.H.Hasher.hash in
    let w = c.args.witness in
    let t = c.in_ok-merkle.merkle in
    let size = c.as_u64-before.ensures in
    let some = c.requires.some in
    let new = c.in_ok-merkle.ensures.leaves in
    let before : c.as_u64-before.result - 1 ≡ w.size - 1 = ap (λ n. n - 1) size in
    let whole : t.leaves ≡ w.size = omega (arith, new, size, some) in
    tree_proof s h w c.args.floor c.in_ok-shown.shown.proof t whole c.in_ok-shown.ensures.proof (λ all count are.
    c.in_ok-merkle.ensures.list all (before ∙ count) (c.into_vec-pins.ensures ∙ are ∙ ap (λ n. map (node_of s h all) (peaks s n)) (sym before)))
