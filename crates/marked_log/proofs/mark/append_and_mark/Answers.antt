use Rattle.std.proofs.Common.{ap, inl, refl}
use Rattle.volume_base.proofs.CallLemmas.{names_call_log}
use Rattle.marked_log.proofs.MarkLemmas.{not_ok, sync_marks, map_marks, sync_call, mark_call, durable_marked}
use Rattle.marked_log.proofs.mark.append_and_mark.Goals as goal

pub returns-in_err-journal-2-clause-images : goal.returns-in_err-journal-2-clause-images
returns-in_err-journal-2-clause-images g c told durable =
    sync_marks _ _ _ c.args.mark.now c.from_residual-in_err-journal-2.result _ durable _ (c.append_all.ensures.log g.met.C.Backing.is_one_log told).images
    _ _ (ap (λ v. v.name) c.in_ok-journal.ensures.made) (c.sync.ensures.log g.met.C.Backing.is_one_log told).images (not_ok _ _ c.from_residual-in_err-journal-2.ensures.1)

pub returns-in_err-map_replace-clause-images : goal.returns-in_err-map_replace-clause-images
returns-in_err-map_replace-clause-images g c told durable =
    map_marks _ _ _ c.args.mark.now c.from_residual-in_err-map_replace.result _ durable _ (c.append_all.ensures.log g.met.C.Backing.is_one_log told).images
    _ _ (ap (λ v. v.name) c.in_ok-journal.ensures.made) (c.sync.ensures.log g.met.C.Backing.is_one_log told).images
    _ (c.in_ok-journal-2.ensures.durable told) (c.sync.ensures.contents told) (c.in_ok-journal.ensures.appended told) (c.map_replace.ensures.call.map told).images

pub returns-clause-images : goal.returns-clause-images
returns-clause-images g c told durable =
    map_marks _ _ _ c.args.mark.now _ _ durable _ (c.append_all.ensures.log g.met.C.Backing.is_one_log told).images
    _ _ (ap (λ v. v.name) c.in_ok-journal.ensures.made) (c.sync.ensures.log g.met.C.Backing.is_one_log told).images
    _ (c.in_ok-journal-2.ensures.durable told) (c.sync.ensures.contents told) (c.in_ok-journal.ensures.appended told) (c.map_replace.ensures.call.map told).images

pub returns-in_err-journal-clause-names : goal.returns-in_err-journal-clause-names
returns-in_err-journal-clause-names g c told = names_call_log _ _ _ _ _ (inl refl) (c.append_all.ensures.log g.met.C.Backing.is_one_log told)

pub returns-in_err-journal-2-clause-names : goal.returns-in_err-journal-2-clause-names
returns-in_err-journal-2-clause-names g c told = sync_call _ _ _ c.args.mark.now _ _ (c.append_all.ensures.log g.met.C.Backing.is_one_log told) _ _ (ap (λ v. v.name) c.in_ok-journal.ensures.made) (c.sync.ensures.log g.met.C.Backing.is_one_log told)

pub returns-in_err-map_replace-clause-names : goal.returns-in_err-map_replace-clause-names
returns-in_err-map_replace-clause-names g c told = mark_call _ _ _ c.args.mark.now _ _ (c.append_all.ensures.log g.met.C.Backing.is_one_log told) _ _ (ap (λ v. v.name) c.in_ok-journal.ensures.made) (c.sync.ensures.log g.met.C.Backing.is_one_log told) _ (c.map_replace.ensures.call.map told)

pub returns-clause-names : goal.returns-clause-names
returns-clause-names g c told = mark_call _ _ _ c.args.mark.now _ _ (c.append_all.ensures.log g.met.C.Backing.is_one_log told) _ _ (ap (λ v. v.name) c.in_ok-journal.ensures.made) (c.sync.ensures.log g.met.C.Backing.is_one_log told) _ (c.map_replace.ensures.call.map told)

pub returns-clause-durable : goal.returns-clause-durable
returns-clause-durable g c told =
    durable_marked _ _ _ c.args.mark.now _ _ (ap (λ v. v.name) c.in_ok-journal.ensures.made) (c.in_ok-journal-2.ensures.durable told)
    (c.map_replace.ensures.call.map told) (c.in_ok-map_replace.ensures.durable told) (c.in_ok-map_replace.ensures.map told)
