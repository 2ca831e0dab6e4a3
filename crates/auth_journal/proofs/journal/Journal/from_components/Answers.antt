use Rattle.std.proofs.Common.{◌≡◌, List, [], ◌++◌, Ok, ◌≤◌, take, length, max, false, sym, ◌∙◌, ap, subst, arith}
use Rattle.std.proofs.lemmas.List.{take_all}
use Rattle.volume_base.proofs.JoinLemmas.{went_none, changes_joins}
use Rattle.journal_base.specs.Items.{items_of}
use Rattle.journal_base.specs.View.{View, log_of}
use Rattle.merkle_full.specs.Flushing.{AllStand, AllKeepStanding}
use Rattle.merkle_full.proofs.StandLemmas.{pair_none}
use Rattle.auth_journal.specs.Errors.{IsLifted}
use Rattle.auth_journal.specs.Joined.{Joined, leaves_of}
use Rattle.auth_journal.specs.Reading.{AreReadable}
use Rattle.auth_journal.specs.declared.error.Error.TheVariants as joined
use Rattle.auth_journal.proofs.DurableLemmas.{err_and}
use Rattle.auth_journal.proofs.ListLemmas.{append-nothing}
use Rattle.auth_journal.proofs.OpeningLemmas.{joined_here}
use Rattle.auth_journal.proofs.ReadingLemmas.{run_end}
use Rattle.auth_journal.proofs.journal.Journal.from_components.Goals as goal

pub returns-then-keeps_failure-clause-images : goal.returns-then-keeps_failure-clause-images
returns-then-keeps_failure-clause-images g c told list durable top run held full has = pair_none c.args.merkle.log.name c.args.merkle.metadata _ (g.V.Volume.state c.args.vol.now) has

pub returns-then-end-leaves-clause-images : goal.returns-then-end-leaves-clause-images
returns-then-end-leaves-clause-images g c told list durable top run held full has = pair_none c.args.merkle.log.name c.args.merkle.metadata _ (g.V.Volume.state c.args.vol.now) has

pub returns-then-end-gt-MAX_LEAVES-clause-images : goal.returns-then-end-gt-MAX_LEAVES-clause-images
returns-then-end-gt-MAX_LEAVES-clause-images g c told list durable top run held full has = pair_none c.args.merkle.log.name c.args.merkle.metadata _ (g.V.Volume.state c.args.vol.now) has

pub returns-in_err-merkle-clause-images : goal.returns-in_err-merkle-clause-images
returns-in_err-merkle-clause-images g c told list durable top run held full has =
    let s = g.F.Family.shape in
    let h = g.H.Hasher.hash in
    let digest = g.H.Digest.Spelled.spelling in
    let admits = g.H.Digest.Read.admits tt in
    let spelling = g.C.Item.Spelled.spelling in
    let view = g.C.Contiguous.view c.args.journal in
    let s0 = g.V.Volume.state c.args.vol.now in
    let s1 = g.V.Volume.state c.catch_up.new.vol in
    let leaves = c.args.merkle.tree.leaves in
    let end = c.bounds-end.result.1 in
    let ends = run_end spelling list (log_of view s0) run in
    let long : end ≤ length list = omega (arith, c.bounds-end.ensures.end, held.end_is, ends) in
    let short : length list ≤ max leaves end = omega (arith, c.bounds-end.ensures.end, held.end_is, ends) in
    let is : leaves_of s h spelling list ≡ leaves_of s h spelling (take (max leaves end) list) ++ [] = sym (append-nothing (leaves_of s h spelling (take (max leaves end) list)) ∙ ap (leaves_of s h spelling) (take_all (max leaves end) list short)) in
    subst (λ (all : List g.row.H-Digest.Denot). AllKeepStanding s h digest all durable top c.args.merkle s0 s1) (sym is)
    ((c.in_err-merkle.ensures {u = tt}).images told list [] durable top run long full (subst (λ (all : List g.row.H-Digest.Denot). AllStand s h digest all durable top c.args.merkle s0) is has))

pub returns-clause-images : goal.returns-clause-images
returns-clause-images g c told list durable top run held full has =
    let s = g.F.Family.shape in
    let h = g.H.Hasher.hash in
    let digest = g.H.Digest.Spelled.spelling in
    let admits = g.H.Digest.Read.admits tt in
    let spelling = g.C.Item.Spelled.spelling in
    let view = g.C.Contiguous.view c.args.journal in
    let s0 = g.V.Volume.state c.args.vol.now in
    let s1 = g.V.Volume.state c.catch_up.new.vol in
    let leaves = c.args.merkle.tree.leaves in
    let end = c.bounds-end.result.1 in
    let ends = run_end spelling list (log_of view s0) run in
    let long : end ≤ length list = omega (arith, c.bounds-end.ensures.end, held.end_is, ends) in
    let short : length list ≤ max leaves end = omega (arith, c.bounds-end.ensures.end, held.end_is, ends) in
    let is : leaves_of s h spelling list ≡ leaves_of s h spelling (take (max leaves end) list) ++ [] = sym (append-nothing (leaves_of s h spelling (take (max leaves end) list)) ∙ ap (leaves_of s h spelling) (take_all (max leaves end) list short)) in
    subst (λ (all : List g.row.H-Digest.Denot). AllKeepStanding s h digest all durable top c.args.merkle s0 s1) (sym is)
    ((c.in_ok-merkle.ensures {u = tt}).images told list [] durable top run long full (subst (λ (all : List g.row.H-Digest.Denot). AllStand s h digest all durable top c.args.merkle s0) is has))

pub returns-clause-joined : goal.returns-clause-joined
returns-clause-joined g c told list run held full =
    let s = g.F.Family.shape in
    let h = g.H.Hasher.hash in
    let digest = g.H.Digest.Spelled.spelling in
    let admits = g.H.Digest.Read.admits tt in
    let spelling = g.C.Item.Spelled.spelling in
    let view = g.C.Contiguous.view c.args.journal in
    let s0 = g.V.Volume.state c.args.vol.now in
    let s1 = g.V.Volume.state c.catch_up.new.vol in
    let leaves = c.args.merkle.tree.leaves in
    let end = c.bounds-end.result.1 in
    let ends = run_end spelling list (log_of view s0) run in
    let long : end ≤ length list = omega (arith, c.bounds-end.ensures.end, held.end_is, ends) in
    let short : length list ≤ max leaves end = omega (arith, c.bounds-end.ensures.end, held.end_is, ends) in
    let did = c.in_ok-merkle.ensures {u = tt} in
    let j : Joined g.row.H-Digest.Denot g.row.C-Item-Cfg.Denot = record { items = view; tree = c.in_ok-merkle.merkle; bagging = c.args.hasher; failed = false } in
    joined_here s h digest admits spelling list c.in_ok-merkle.merkle.tree.leaves j s0 s1 run held ((did.names told).others.logs view.name (c.requires.apart, tt)) (omega (arith, short, did.aligned.leaves)) (did.full told list run long full)

pub invariant_of-result : goal.invariant_of-result
invariant_of-result g c =
    let did = c.in_ok-merkle.ensures {u = tt} in
    record {
      apart = λ e. c.requires.apart (e ∙ ap (λ (v : View _). v.name) did.aligned.log);
      items = λ kept. sym c.keeps_failure.ensures ∙ c.if-keeps_failure.false;
      tree = λ kept. ap (λ (v : View _). v.failed) did.aligned.log ∙ sym c.keeps_failure-else-keeps_failure.ensures ∙ c.if-keeps_failure-2.false;
    }

pub returns-clause-changes : goal.returns-clause-changes
returns-clause-changes g c one two =
    let j : Joined g.row.H-Digest.Denot g.row.C-Item-Cfg.Denot = record { items = g.C.Contiguous.view c.args.journal; tree = c.in_ok-merkle.merkle; bagging = c.args.hasher; failed = false } in
    let did = (c.in_ok-merkle.ensures {u = tt}).changes in
    changes_joins g.V.Volume.tells joined.Volume joined.Volume _ _ _ (Ok c.in_ok-merkle.merkle) (Ok j) (went_none g.V.Volume.tells _) did (λ is. absurd cc) did.kept

pub returns-in_err-merkle-clause-lifted : goal.returns-in_err-merkle-clause-lifted
returns-in_err-merkle-clause-lifted g c =
    let e = c.in_err-merkle.field-0.0 in
    err_and _ e IsLifted c.from_residual.ensures.1 (c.in_err-merkle.ensures {u = tt}).lifted

pub returns-clause-replayed : goal.returns-clause-replayed
returns-clause-replayed g c told =
    let items = items_of g.C.Item.Spelled.spelling g.C.Item.Read.admits (g.C.Contiguous.view c.args.journal) (g.V.Volume.state c.args.vol.now) in
    subst (λ n. AreReadable items c.args.merkle.tree.leaves n) c.bounds-end.ensures.end ((c.in_ok-merkle.ensures {u = tt}).replayed told)

pub returns-clause-settled : goal.returns-clause-settled
returns-clause-settled g c told list durable top run held full =
    let s = g.F.Family.shape in
    let h = g.H.Hasher.hash in
    let digest = g.H.Digest.Spelled.spelling in
    let spelling = g.C.Item.Spelled.spelling in
    let view = g.C.Contiguous.view c.args.journal in
    let s0 = g.V.Volume.state c.args.vol.now in
    let s1 = g.V.Volume.state c.catch_up.new.vol in
    let leaves = c.args.merkle.tree.leaves in
    let end = c.bounds-end.result.1 in
    let ends = run_end spelling list (log_of view s0) run in
    let long : end ≤ length list = omega (arith, c.bounds-end.ensures.end, held.end_is, ends) in
    let short : length list ≤ max leaves end = omega (arith, c.bounds-end.ensures.end, held.end_is, ends) in
    subst (λ (all : List g.row.H-Digest.Denot). AllStand s h digest all durable top c.args.merkle s0 → AllStand s h digest all (length all) top c.args.merkle s1)
    (ap (leaves_of s h spelling) (take_all (max leaves end) list short)) ((c.in_ok-merkle.ensures {u = tt}).settled told list durable top run long full)
