use Rattle.std.proofs.Common.{refl}
use Rattle.tree_core.specs.Pruned.{peaks_at}
use Rattle.tree_core.proofs.ApplyLemmas.{fits_mark, fitting, longer, applied}
use Rattle.tree_core.proofs.ChainLemmas.{since_batch, behind_batch}
use Rattle.tree_core.proofs.mem.Mem.apply_batch.Goals as goal

pub append_from-requires : goal.append_from-requires
append_from-requires g c = (c.in-Ok.ensures {u = tt}).place

pub returns-in_ok-append_from-in-Ok-clause-longer : goal.returns-in_ok-append_from-in-Ok-clause-longer
returns-in_ok-append_from-in-Ok-clause-longer g c =
    let s = g.F.Family.shape in
    let t = c.args.self.now in
    let b = c.args.batch.now in
    let mark = fits_mark s t b c.in-Ok.place (c.in-Ok.ensures {u = tt}).place in
    let fit = fitting s b c.in-Ok.place t.leaves mark.0 c.in_ok-append_from-in-Ok.ensures.sound mark.1 in
    longer s t c.append_from.new.self b t.leaves _ refl fit.0 c.in_ok-append_from-in-Ok.ensures.ok

pub returns-in_ok-append_from-in-Ok-clause-since : goal.returns-in_ok-append_from-in-Ok-clause-since
returns-in_ok-append_from-in-Ok-clause-since g c =
    let s = g.F.Family.shape in
    let t = c.args.self.now in
    let b = c.args.batch.now in
    let mark = fits_mark s t b c.in-Ok.place (c.in-Ok.ensures {u = tt}).place in
    since_batch s t c.append_from.new.self b c.in-Ok.place _ mark.0 _ c.in_ok-append_from-in-Ok.ensures.sound mark.1 refl c.in_ok-append_from-in-Ok.ensures.ok

pub returns-in_ok-append_from-in-Ok-clause-behind : goal.returns-in_ok-append_from-in-Ok-clause-behind
returns-in_ok-append_from-in-Ok-clause-behind g c =
    behind_batch g.F.Family.shape c.args.self.now c.append_from.new.self c.args.batch.now c.in-Ok.place _ _ g.met.F.Family.lawful g.met.F.Family.keeps c.in_ok-append_from-in-Ok.ensures.sound (c.in-Ok.ensures {u = tt}).place
    refl c.in_ok-append_from-in-Ok.ensures.ok (returns-in_ok-append_from-in-Ok-clause-longer g c).leaves

pub returns-in_ok-append_from-in-Ok-clause-tree : goal.returns-in_ok-append_from-in-Ok-clause-tree
returns-in_ok-append_from-in-Ok-clause-tree g c h all made tree sealed =
    let s = g.F.Family.shape in
    let t = c.args.self.now in
    let b = c.args.batch.now in
    applied s h all made t c.append_from.new.self b c.in-Ok.place t.leaves (peaks_at s h all t.leaves) _ g.met.F.Family.lawful g.met.F.Family.keeps
    refl refl c.in_ok-append_from-in-Ok.ensures.sound ((c.in-Ok.ensures {u = tt}).fits h all tree) refl c.in_ok-append_from-in-Ok.ensures.ok tree sealed
