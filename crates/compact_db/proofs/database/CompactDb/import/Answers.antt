use Rattle.std.proofs.Common.{◌+◌, map, Some, sym, ◌∙◌, ap, arith}
use Rattle.tree_shape.specs.Shape.{peaks}
use Rattle.tree_shape.specs.Slow.{node_of}
use Rattle.log_model.specs.Operations.{leaves_from}
use Rattle.log_model.proofs.OperationLemmas.{length-leaves_from}
use Rattle.witness_store.specs.declared.witness.Witness.{Witness}
use Rattle.compact_db.proofs.DerivedLemmas.{witness_by}
use Rattle.compact_db.proofs.RebuildLemmas.{imported_is}
use Rattle.compact_db.proofs.database.CompactDb.import.Goals as goal

pub returns-clause-list : goal.returns-clause-list
returns-clause-list g c before count pins =
    let s = g.F.Family.shape in
    let h = g.H.Hasher.hash in
    let m = g.O.Logged.meaning in
    let at = c.as_u64-before.ensures in
    let low = c.if-before-ge-MAX_LEAVES.false in
    imported_is s h m before c.args.op c.new.result c.in-Ok.op_bytes c.in_ok-tip.tip c.in_ok-tip.merkle
    (c.in-Ok.ensures.spelled ∙ sym (g.met.O.Logged.spelled c.args.op))
    (sym c.commit_floor.ensures ∙ c.in-Some.is ∙ ap Some (sym c.new.ensures)) (omega (arith, at, low, count))
    (c.in_ok-tip.ensures.list (leaves_from s h m 0 before) (at ∙ sym count ∙ sym (length-leaves_from s h m 0 before))
    (pins ∙ ap (λ k. map (node_of s h (leaves_from s h m 0 before)) (peaks s k)) (sym at)))

pub returns-clause-witness : goal.returns-clause-witness
returns-clause-witness g c =
    let is = c.in_ok-tip.ensures.witness in
    witness_by c.in_ok-tip.tip.witness (g.O.Logged.meaning.encoding c.args.op) (c.args.last_commit_loc + 1) c.args.pinned_nodes.items
    (ap (λ (w : Witness g.row.F.Denot g.row.H-Digest.Denot). w.op_bytes) is ∙ c.in-Ok.ensures.spelled ∙ sym (g.met.O.Logged.spelled c.args.op))
    (ap (λ (w : Witness g.row.F.Denot g.row.H-Digest.Denot). w.size) is ∙ ap (λ n. n + 1) c.as_u64-before.ensures)
    (ap (λ (w : Witness g.row.F.Denot g.row.H-Digest.Denot). w.pinned_nodes) is)
