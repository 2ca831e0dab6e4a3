use Rattle.std.proofs.Common.{◌≡◌, [], ◌++◌, Global, suc, length, take, drop, map, refl, sym, ◌∙◌, ap, arith, add-one, append_assoc}
use Rattle.std.proofs.lemmas.Option.{slice_get_read}
use Rattle.std.specs.declared.rc.Rc.{Rc}
use Rattle.std.proofs.Math.Seq.{take-append_seam}
use Rattle.std.proofs.lemmas.List.{append-nil}
use Rattle.tree_core.specs.Links.{ChainSegment, joined_nodes}
use Rattle.tree_core.specs.declared.segment.Segment.{Segment}
use Rattle.tree_core.proofs.LinkLemmas.{joined_step, joined_past}
use Rattle.tree_core.proofs.segment.push_nodes.Goals as goal

pub loop-i-init : goal.loop-i-init
loop-i-init g c = record { front = ([], sym (append-nil c.args.nodes.now.items)); told = refl }

pub loop-i-preserved : goal.loop-i-preserved
loop-i-preserved g c =
    let f = λ (r : Rc (Segment g.row.F.Denot g.row.D.Denot) Global). r.value in
    let read = slice_get_read c.args.segments.now (length c.args.segments.now) c.loop-i.i c.index-segments-i.result refl c.loop-i-test.true c.index-segments-i.is in
    let more = c.nodes.ensures ∙ ap (λ (l : ChainSegment g.row.D.Denot). l.nodes) c.deref.ensures in
    let rest = joined_nodes (drop (suc c.loop-i.i) (map f c.args.segments.now)) in
    let step = joined_step f c.args.segments.now c.loop-i.i c.index-segments-i.result read ∙ ap (λ ns. ns ++ rest) (sym more) in
    let ok = (c.in-Ok.ensures {u = tt}).items in
    let added = c.nodes.result.now in
    rw add-one (record {
      front = (c.loop-i.invariant.front.0 ++ added, ok ∙ ap (λ xs. xs ++ added) c.loop-i.invariant.front.1 ∙ append_assoc c.args.nodes.now.items c.loop-i.invariant.front.0 added);
      told = ap (λ xs. xs ++ rest) ok ∙ append_assoc c.loop-i.nodes.items added rest ∙ ap (λ xs. c.loop-i.nodes.items ++ xs) (sym step) ∙ c.loop-i.invariant.told;
    })

pub returns : goal.returns
returns g c =
    let f = λ (r : Rc (Segment g.row.F.Denot g.row.D.Denot) Global). r.value in
    let none = joined_past f c.args.segments.now c.loop-i.i c.loop-i-test.false in
    record { ok = sym (append-nil c.loop-i.nodes.items) ∙ ap (λ xs. c.loop-i.nodes.items ++ xs) (sym none) ∙ c.loop-i.invariant.told; err = tt }

pub returns-in-Err-clause-err : goal.returns-in-Err-clause-err
returns-in-Err-clause-err g c =
    let old = c.args.nodes.now.items in
    let front = c.loop-i.invariant.front in
    let before : c.len-before.result ≡ length c.args.nodes.now.items = omega (arith, c.len-before.ensures, c.args.nodes.now.ok.0) in
    let kept = (c.in-Err.ensures {u = tt}).items in
    c.truncate.ensures.items ∙ ap (take c.len-before.result) (kept ∙ front.1) ∙ ap (λ n. take n (old ++ front.0)) before ∙ take-append_seam old front.0
