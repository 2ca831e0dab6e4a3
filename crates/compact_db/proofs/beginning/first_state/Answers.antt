use Rattle.std.proofs.Common.{[], length, map, Some, sym, ◌∙◌, ap, arith}
use Rattle.tree_shape.specs.Slow.{node_of}
use Rattle.log_model.specs.Operations.{leaves_from}
use Rattle.log_model.proofs.OperationLemmas.{length-leaves_from}
use Rattle.compact_db.proofs.BeginLemmas.{no_heights, no_peaks}
use Rattle.compact_db.proofs.RebuildLemmas.{imported_is}
use Rattle.compact_db.proofs.beginning.first_state.Goals as goal

pub restored-requires-clause-counted : goal.restored-requires-clause-counted
restored-requires-clause-counted g c = ap length c.new.ensures.items ∙ sym (ap length (no_heights g.F.Family.shape g.met.F.Family.lawful))

pub returns-clause-list : goal.returns-clause-list
returns-clause-list g c =
    let s = g.F.Family.shape in
    let h = g.H.Hasher.hash in
    let m = g.O.Logged.meaning in
    imported_is s h m [] c.args.commit c.new-2.result c.in-Ok.op_bytes c.in_ok-tip.tip c.in_ok-tip.merkle
    (c.in-Ok.ensures.spelled ∙ sym (g.met.O.Logged.spelled c.args.commit)) (c.requires.floored ∙ ap Some (sym c.new-2.ensures)) (omega arith)
    (c.in_ok-tip.ensures.list (leaves_from s h m 0 []) (sym (length-leaves_from s h m 0 []))
    (c.new.ensures.items ∙ ap (λ ps. map (node_of s h (leaves_from s h m 0 [])) ps) (sym (no_peaks s g.met.F.Family.lawful))))
