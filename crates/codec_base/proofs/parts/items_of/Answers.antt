use Rattle.std.proofs.lemmas.Result.{err_from_is_err_and}
use Rattle.codec_base.specs.Parts.{items_at}
use Rattle.codec_base.specs.Loop.{goes_on, ends, is_done}
use Rattle.codec_base.proofs.parts.items_of.Goals as goal

pub returns-in_err-item : goal.returns-in_err-item
returns-in_err-item g c =
    let p = err_from_is_err_and c.from_residual.result c.from_residual.ensures.1 in
    let reads = g.T.Read.reads c.args.cfg.now in
    rw (p.1, p.2) (ends reads c.in_err-item.field-0.0 c.loop.items.items c.args.count c.loop.counter c.loop.buf (items_at reads c.args.count c.args.buf.now) c.loop-test.true c.in_err-item.ensures.taken c.loop.invariant)

pub loop-preserved : goal.loop-preserved
loop-preserved g c =
    let reads = g.T.Read.reads c.args.cfg.now in
    let e = c.in_ok-push.ensures.items in
    rw e (goes_on reads c.loop.items.items c.args.count c.loop.counter c.loop.buf c.in_ok-item.item c.read.new.buf (items_at reads c.args.count c.args.buf.now) c.loop-test.true c.in_ok-item.ensures.taken c.loop.invariant)

pub returns : goal.returns
returns g c =
    let reads = g.T.Read.reads c.args.cfg.now in
    is_done reads c.loop.items.items c.args.count c.loop.counter c.loop.buf (items_at reads c.args.count c.args.buf.now) c.loop-test.false c.loop.invariant
