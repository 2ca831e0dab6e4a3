use Rattle.std.proofs.Common.{◌≡◌, inl, ◌<◌, ℕ, Bool, length, Ok, Err, ◌∙◌, ap, subst}
use Rattle.journal_base.specs.Items.{items_of}
use Rattle.volume_base.specs.Log.{pruned_to}
use Rattle.journal_base.specs.View.{log_of, prune_point}
use Rattle.auth_journal.specs.Durable.{IsFromTree, IsJournalUnpruned}
use Rattle.auth_journal.specs.Joined.{Joined}
use Rattle.auth_journal.proofs.PruneLemmas.{not_failed}
use Rattle.auth_journal.proofs.LowerLemmas.{from_tree_lowers, prune_lowers, lowered_is, outside_lowered}
use Rattle.auth_journal.proofs.MutableLemmas.{pair_first, moved_same, pruned_view, pruned_held, pruned_log, pruned_list, pruned_start, volume_stays, changes_done, changes_lowered}
use Rattle.volume_base.specs.declared.error.JournalError.{JournalError}
use Rattle.auth_journal.specs.Standing.{StepsStanding, all_synced, pruned_below}
use Rattle.auth_journal.proofs.MutableLemmas.{steps_done, steps_refused}
use Rattle.auth_journal.proofs.mutable.JournalMutable.prune.Goals as goal

pub lower-requires : goal.lower-requires
lower-requires g c =
    let s = g.F.Family.shape in
    let j = c.args.self in
    let b = g.V.Volume.state c.prune.new.vol in
    let items = items_of g.H.Digest.Spelled.spelling g.H.Digest.Read.admits j.tree.log b in
    from_tree_lowers (IsJournalUnpruned {F = g.row.F.Denot} s g.V.Volume.tells j.tree items (log_of j.items b).start) c.in-Err.error (prune_lowers s g.V.Volume.tells j.tree items (log_of j.items b).start) c.in-Err.ensures.errors

pub returns-in-Ok-clause-made : goal.returns-in-Ok-clause-made
returns-in-Ok-clause-made g c =
    let j = c.args.self in
    let m = c.in-Ok.pruned in
    let a = g.V.Volume.state c.args.vol.now in
    let b = g.V.Volume.state c.prune.new.vol in
    let did = c.in-Ok.ensures in
    let sound = not_failed j.failed (λ failed. let bad = (did.kept failed).0 in cc) in
    let stays : j.items.end ≡ 0 → (m ≡ j) × (b ≡ a) = λ none. (let was = did.empty sound none in (pair_first {F = g.row.F.Denot} m j c.in-Ok.from j.items.start was.0, ap g.V.Volume.state was.1)) in
    let put : g.V.Volume.tells → 0 < j.items.end → log_of j.items b ≡ pruned_to (log_of j.items a) (prune_point j.items c.args.least a) = λ told some. subst (λ (n : ℕ). log_of j.items b ≡ pruned_to (log_of j.items a) (prune_point j.items n a)) c.new.ensures (did.pruned some told) in
    pruned_view j m c.args.least a b did.moved stays

pub returns-in-Ok-clause-held : goal.returns-in-Ok-clause-held
returns-in-Ok-clause-held g c tells was =
    let j = c.args.self in
    let m = c.in-Ok.pruned in
    let a = g.V.Volume.state c.args.vol.now in
    let b = g.V.Volume.state c.prune.new.vol in
    let did = c.in-Ok.ensures in
    let sound = not_failed j.failed (λ failed. let bad = (did.kept failed).0 in cc) in
    let stays : j.items.end ≡ 0 → (m ≡ j) × (b ≡ a) = λ none. (let was = did.empty sound none in (pair_first {F = g.row.F.Denot} m j c.in-Ok.from j.items.start was.0, ap g.V.Volume.state was.1)) in
    let put : g.V.Volume.tells → 0 < j.items.end → log_of j.items b ≡ pruned_to (log_of j.items a) (prune_point j.items c.args.least a) = λ told some. subst (λ (n : ℕ). log_of j.items b ≡ pruned_to (log_of j.items a) (prune_point j.items n a)) c.new.ensures (did.pruned some told) in
    pruned_held j m c.args.least a b did.moved stays (λ some. did.held some tells) was

pub returns-in-Ok-clause-pruned : goal.returns-in-Ok-clause-pruned
returns-in-Ok-clause-pruned g c tells was =
    let j = c.args.self in
    let m = c.in-Ok.pruned in
    let a = g.V.Volume.state c.args.vol.now in
    let b = g.V.Volume.state c.prune.new.vol in
    let did = c.in-Ok.ensures in
    let sound = not_failed j.failed (λ failed. let bad = (did.kept failed).0 in cc) in
    let stays : j.items.end ≡ 0 → (m ≡ j) × (b ≡ a) = λ none. (let was = did.empty sound none in (pair_first {F = g.row.F.Denot} m j c.in-Ok.from j.items.start was.0, ap g.V.Volume.state was.1)) in
    let put : g.V.Volume.tells → 0 < j.items.end → log_of j.items b ≡ pruned_to (log_of j.items a) (prune_point j.items c.args.least a) = λ told some. subst (λ (n : ℕ). log_of j.items b ≡ pruned_to (log_of j.items a) (prune_point j.items n a)) c.new.ensures (did.pruned some told) in
    pruned_log j m c.args.least a b did.moved stays (put tells) was

pub returns-in-Ok-clause-listed : goal.returns-in-Ok-clause-listed
returns-in-Ok-clause-listed g c tells was list run =
    let j = c.args.self in
    let m = c.in-Ok.pruned in
    let a = g.V.Volume.state c.args.vol.now in
    let b = g.V.Volume.state c.prune.new.vol in
    let did = c.in-Ok.ensures in
    let sound = not_failed j.failed (λ failed. let bad = (did.kept failed).0 in cc) in
    let stays : j.items.end ≡ 0 → (m ≡ j) × (b ≡ a) = λ none. (let was = did.empty sound none in (pair_first {F = g.row.F.Denot} m j c.in-Ok.from j.items.start was.0, ap g.V.Volume.state was.1)) in
    let put : g.V.Volume.tells → 0 < j.items.end → log_of j.items b ≡ pruned_to (log_of j.items a) (prune_point j.items c.args.least a) = λ told some. subst (λ (n : ℕ). log_of j.items b ≡ pruned_to (log_of j.items a) (prune_point j.items n a)) c.new.ensures (did.pruned some told) in
    pruned_list j m c.args.least a b did.moved stays g.C.Item.Spelled.spelling list (pruned_log j m c.args.least a b did.moved stays (put tells) was) run

pub returns-in-Ok-clause-told : goal.returns-in-Ok-clause-told
returns-in-Ok-clause-told g c =
    moved_same c.has_moved-moved.result _ _ _ _ c.args.self.items.start c.in-Ok.pruned.items.start c.args.self.tree.boundary c.in-Ok.pruned.tree.boundary
    (c.bounds-start.ensures.start ∙ ap (λ (k : Joined g.row.H-Digest.Denot g.row.C-Item-Cfg.Denot). k.items.start) c.self.view_is) (c.as_u64.ensures ∙ c.in-Ok.ensures.start)
    (c.as_u64-in-Ok.ensures ∙ c.bounds-boundary.ensures.start ∙ ap (λ (k : Joined g.row.H-Digest.Denot g.row.C-Item-Cfg.Denot). k.tree.boundary) c.self.view_is) (c.as_u64-in-Ok-2.ensures ∙ c.bounds-now.ensures.start ∙ ap (λ (k : Joined g.row.H-Digest.Denot g.row.C-Item-Cfg.Denot). k.tree.boundary) c.pruned.view_is)
    c.has_moved-moved.ensures

pub returns-in-Ok-clause-moved_true : goal.returns-in-Ok-clause-moved_true
returns-in-Ok-clause-moved_true g c tells was past =
    let j = c.args.self in
    let m = c.in-Ok.pruned in
    let a = g.V.Volume.state c.args.vol.now in
    let b = g.V.Volume.state c.prune.new.vol in
    let did = c.in-Ok.ensures in
    let sound = not_failed j.failed (λ failed. let bad = (did.kept failed).0 in cc) in
    let stays : j.items.end ≡ 0 → (m ≡ j) × (b ≡ a) = λ none. (let was = did.empty sound none in (pair_first {F = g.row.F.Denot} m j c.in-Ok.from j.items.start was.0, ap g.V.Volume.state was.1)) in
    let put : g.V.Volume.tells → 0 < j.items.end → log_of j.items b ≡ pruned_to (log_of j.items a) (prune_point j.items c.args.least a) = λ told some. subst (λ (n : ℕ). log_of j.items b ≡ pruned_to (log_of j.items a) (prune_point j.items n a)) c.new.ensures (did.pruned some told) in
    (returns-in-Ok-clause-told g c).1 (inl (pruned_start j m c.args.least a b did.moved stays (put tells) (λ some. did.held some tells) was past))

pub returns-in-Ok-clause-changes : goal.returns-in-Ok-clause-changes
returns-in-Ok-clause-changes g c sound =
    changes_done {F = g.row.F.Denot} g.V.Volume.tells (g.V.Volume.state c.args.vol.now) (g.V.Volume.state c.prune.new.vol) (c.in-Ok.pruned, c.in-Ok.from) (c.in-Ok.pruned, c.has_moved-moved.result) (c.in-Ok.ensures.changes sound)

pub returns-in-Err-clause-kept : goal.returns-in-Err-clause-kept
returns-in-Err-clause-kept g c failed =
    let was = c.in-Err.ensures.kept failed in
    (let same = volume_stays {T = (Joined g.row.H-Digest.Denot g.row.C-Item-Cfg.Denot) × ℕ} c.in-Err.error c.lower.result was.0 c.lower.ensures in ap Err same, was.1)

pub returns-in-Err-clause-errors : goal.returns-in-Err-clause-errors
returns-in-Err-clause-errors g c =
    let s = g.F.Family.shape in
    let j = c.args.self in
    let b = g.V.Volume.state c.prune.new.vol in
    let items = items_of g.H.Digest.Spelled.spelling g.H.Digest.Read.admits j.tree.log b in
    lowered_is (IsFromTree (IsJournalUnpruned {F = g.row.F.Denot} s g.V.Volume.tells j.tree items (log_of j.items b).start)) c.in-Err.error c.lower.result c.in-Err.ensures.errors c.lower.ensures

pub returns-in-Err-clause-outside : goal.returns-in-Err-clause-outside
returns-in-Err-clause-outside g c tells list joined = outside_lowered c.in-Err.error c.lower.result (c.in-Err.ensures.outside tells list joined) c.lower.ensures

pub returns-in-Err-clause-changes : goal.returns-in-Err-clause-changes
returns-in-Err-clause-changes g c sound =
    changes_lowered {S = (Joined g.row.H-Digest.Denot g.row.C-Item-Cfg.Denot) × ℕ} g.V.Volume.tells (g.V.Volume.state c.args.vol.now) (g.V.Volume.state c.prune.new.vol) c.in-Err.error c.lower.result c.lower.ensures (c.in-Err.ensures.changes sound)

pub returns-in-Ok-clause-images : goal.returns-in-Ok-clause-images
returns-in-Ok-clause-images g c tells list marks joined =
    let a = g.V.Volume.state c.args.vol.now in
    let b = g.V.Volume.state c.prune.new.vol in
    subst (λ (n : ℕ). StepsStanding {T = (Joined g.row.H-Digest.Denot g.row.C-Item-Cfg.Denot) × Bool} {E = JournalError} g.F.Family.shape g.H.Hasher.hash g.H.Digest.Spelled.spelling g.C.Item.Spelled.spelling list marks (pruned_below n (all_synced (length list) marks)) c.args.self a b (Ok (c.in-Ok.pruned, c.has_moved-moved.result))) c.new.ensures
    (λ stood. steps_done {F = g.row.F.Denot} a b (c.in-Ok.pruned, c.in-Ok.from) (c.in-Ok.pruned, c.has_moved-moved.result) (c.in-Ok.ensures.images tells list marks joined stood))

pub returns-in-Err-clause-images : goal.returns-in-Err-clause-images
returns-in-Err-clause-images g c tells list marks joined =
    let a = g.V.Volume.state c.args.vol.now in
    let b = g.V.Volume.state c.prune.new.vol in
    subst (λ (n : ℕ). StepsStanding {T = (Joined g.row.H-Digest.Denot g.row.C-Item-Cfg.Denot) × Bool} {E = JournalError} g.F.Family.shape g.H.Hasher.hash g.H.Digest.Spelled.spelling g.C.Item.Spelled.spelling list marks (pruned_below n (all_synced (length list) marks)) c.args.self a b (Err c.lower.result)) c.new.ensures
    (λ stood. steps_refused {S = (Joined g.row.H-Digest.Denot g.row.C-Item-Cfg.Denot) × ℕ} a b c.in-Err.error c.lower.result (c.in-Err.ensures.images tells list marks joined stood))
