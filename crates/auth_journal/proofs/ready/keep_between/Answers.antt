use Rattle.std.proofs.Common.{◌≡◌, ◌≤◌, inl, ℕ, min, List, Ok, take, sym, ◌∙◌, ap, subst, arith}
use Rattle.journal_base.specs.Items.{Spells}
use Rattle.journal_base.specs.View.{View, prune_point}
use Rattle.volume_base.specs.Log.{Log, end_of, pruned_to, Shrinks, Advances}
use Rattle.volume_base.specs.Volume.{LogMoves, OnlyLeft}
use Rattle.volume_base.specs.Names.{log_alone}
use Rattle.volume_base.specs.declared.error.JournalError.TheVariants as journal
use Rattle.volume_base.proofs.CallLemmas.{names_call_log, names_call_joins, names_call_idle}
use Rattle.volume_base.proofs.JoinLemmas.{went_of_reads, went_of_writes, went_joins, changes_joins}
use Rattle.merkle_full.proofs.SettleLemmas.{blob_below}
use Rattle.auth_journal.specs.Searching.{Trims}
use Rattle.auth_journal.proofs.ReadyLemmas.{keeps_follows, trimmed_none, trimmed_cut, trimmed_both, ends_pruned}
use Rattle.auth_journal.proofs.SearchLemmas.{kept_is}
use Rattle.auth_journal.proofs.ready.keep_between.Goals as goal

pub returns-clause-held : goal.returns-clause-held
returns-clause-held g c told = (c.in_ok-journal-2.ensures {u = tt}).held told (inl g.met.C.Backing.is_one_log)

pub returns-clause-kept : goal.returns-clause-kept
returns-clause-kept g c told =
    let first = g.C.Backing.config c.args.cfg in
    let seen = c.in_ok-seen.ensures {u = tt} in
    let cut = c.in_ok-journal.ensures {u = tt} in
    let pruned = c.in_ok-journal-2.ensures {u = tt} in
    let opened = g.met.C.Backing.opened_is c.in_ok-journal.journal in
    let one = ap (λ (v : View g.row.C-Item-Cfg.Denot). v.name) seen.made in
    let two = ap (λ (v : View g.row.C-Item-Cfg.Denot). v.name) (sym opened) ∙ ap (λ (v : View g.row.C-Item-Cfg.Denot). v.name) cut.made ∙ one in
    let blob = ap (λ (v : View g.row.C-Item-Cfg.Denot). v.blob) (sym opened) ∙ ap (λ (v : View g.row.C-Item-Cfg.Denot). v.blob) cut.made ∙ ap (λ (v : View g.row.C-Item-Cfg.Denot). v.blob) seen.made in
    kept_is first.name _ _ first.blob _ (g.V.Volume.state c.args.vol.now) (g.V.Volume.state c.recover.new.vol) (g.V.Volume.state c.finish.new.vol) (g.V.Volume.state c.prune.new.vol) c.args.start c.args.end one two blob
    ((seen.answers.contents told).logs first.name) (cut.cut told) (pruned.pruned told (inl g.met.C.Backing.is_one_log))

pub returns-clause-listed : goal.returns-clause-listed
returns-clause-listed g c told list run =
    let first = g.C.Backing.config c.args.cfg in
    let spelling = g.C.Item.Spelled.spelling in
    let s1 = g.V.Volume.state c.recover.new.vol in
    let s2 = g.V.Volume.state c.finish.new.vol in
    let s3 = g.V.Volume.state c.prune.new.vol in
    let seen = c.in_ok-seen.ensures {u = tt} in
    let cut = c.in_ok-journal.ensures {u = tt} in
    let pruned = c.in_ok-journal-2.ensures {u = tt} in
    let opened = g.met.C.Backing.opened_is c.in_ok-journal.journal in
    let one = ap (λ (v : View g.row.C-Item-Cfg.Denot). v.name) seen.made in
    let two = ap (λ (v : View g.row.C-Item-Cfg.Denot). v.name) (sym opened) ∙ ap (λ (v : View g.row.C-Item-Cfg.Denot). v.name) cut.made in
    let at : s1.log (g.C.Recovery.BackingRecovery.view c.in_ok-seen.seen).name ≡ (g.V.Volume.state c.args.vol.now).log first.name = ap s1.log one ∙ (seen.answers.contents told).logs first.name in
    let fronts = cut.listed told list (subst (λ (l : Log). Spells spelling list l) (sym at) run) in
    let here = pruned.listed told (inl g.met.C.Backing.is_one_log) (take c.args.end list) (subst (λ (n : List ℕ). Spells spelling (take c.args.end list) (s2.log n)) (sym two) fronts) in
    subst (λ (n : List ℕ). Spells spelling (take c.args.end list) (s3.log n)) (two ∙ one) here

pub returns-in_err-journal-2-clause-names : goal.returns-in_err-journal-2-clause-names
returns-in_err-journal-2-clause-names g c told =
    let first = g.C.Backing.config c.args.cfg in
    let names = log_alone first.name in
    let s0 = g.V.Volume.state c.args.vol.now in
    let s1 = g.V.Volume.state c.recover.new.vol in
    let s2 = g.V.Volume.state c.finish.new.vol in
    let s3 = g.V.Volume.state c.prune.new.vol in
    let seen = c.in_ok-seen.ensures {u = tt} in
    let cut = c.in_ok-journal.ensures {u = tt} in
    let opened = g.met.C.Backing.opened_is c.in_ok-journal.journal in
    let one = ap (λ (v : View g.row.C-Item-Cfg.Denot). v.name) seen.made in
    let two = ap (λ (v : View g.row.C-Item-Cfg.Denot). v.name) (sym opened) ∙ ap (λ (v : View g.row.C-Item-Cfg.Denot). v.name) cut.made ∙ one in
    names_call_joins names s0 s2 s3 (names_call_joins names s0 s1 s2 (names_call_idle names s0 s1 seen.answers.clock (seen.answers.past told) (seen.answers.contents told)) (names_call_log names _ _ s1 s2 (inl one) (cut.call.log told)))
    (names_call_log names _ _ s2 s3 (inl two) (c.in_err-journal-2.ensures.log g.met.C.Backing.is_one_log told))

pub returns-clause-names : goal.returns-clause-names
returns-clause-names g c told =
    let first = g.C.Backing.config c.args.cfg in
    let names = log_alone first.name in
    let s0 = g.V.Volume.state c.args.vol.now in
    let s1 = g.V.Volume.state c.recover.new.vol in
    let s2 = g.V.Volume.state c.finish.new.vol in
    let s3 = g.V.Volume.state c.prune.new.vol in
    let seen = c.in_ok-seen.ensures {u = tt} in
    let cut = c.in_ok-journal.ensures {u = tt} in
    let opened = g.met.C.Backing.opened_is c.in_ok-journal.journal in
    let one = ap (λ (v : View g.row.C-Item-Cfg.Denot). v.name) seen.made in
    let two = ap (λ (v : View g.row.C-Item-Cfg.Denot). v.name) (sym opened) ∙ ap (λ (v : View g.row.C-Item-Cfg.Denot). v.name) cut.made ∙ one in
    names_call_joins names s0 s2 s3 (names_call_joins names s0 s1 s2 (names_call_idle names s0 s1 seen.answers.clock (seen.answers.past told) (seen.answers.contents told)) (names_call_log names _ _ s1 s2 (inl one) (cut.call.log told)))
    (names_call_log names _ _ s2 s3 (inl two) ((c.in_ok-journal-2.ensures {u = tt}).log g.met.C.Backing.is_one_log told))

pub returns-clause-changes : goal.returns-clause-changes
returns-clause-changes g c =
    let tells = g.V.Volume.tells in
    let seen = c.in_ok-seen.ensures {u = tt} in
    let cut = c.in_ok-journal.ensures {u = tt} in
    let opened = g.met.C.Backing.opened_is c.in_ok-journal.journal in
    let fresh = ap (λ (v : View g.row.C-Item-Cfg.Denot). v.failed) (sym opened) ∙ ap (λ (v : View g.row.C-Item-Cfg.Denot). v.failed) cut.made ∙ ap (λ (v : View g.row.C-Item-Cfg.Denot). v.failed) seen.made ∙ g.met.C.Backing.fresh c.args.cfg in
    let last = (c.in_ok-journal-2.ensures {u = tt}).changes fresh in
    let went = went_joins tells _ _ _ (went_of_reads tells journal.Volume _ _ c.in_ok-seen.seen seen.answers) (went_of_writes tells journal.Volume _ _ c.in_ok-journal.journal cut.call.writes) in
    changes_joins tells journal.Volume journal.Volume _ _ _ _ (Ok c.in_ok-journal-2.journal) went last (λ is. absurd cc) last.kept

pub returns-in_err-seen-clause-log : goal.returns-in_err-seen-clause-log
returns-in_err-seen-clause-log g c told =
    let first = g.C.Backing.config c.args.cfg in
    let s0 = g.V.Volume.state c.args.vol.now in
    let answers = c.in_err-seen.ensures.answers in
    trimmed_none (min c.args.end (end_of (s0.log first.name))) c.args.start first.name s0 (g.V.Volume.state c.recover.new.vol) answers.clock (answers.past told)

pub returns-in_err-journal-clause-log : goal.returns-in_err-journal-clause-log
returns-in_err-journal-clause-log g c told =
    let first = g.C.Backing.config c.args.cfg in
    let s0 = g.V.Volume.state c.args.vol.now in
    let s1 = g.V.Volume.state c.recover.new.vol in
    let s2 = g.V.Volume.state c.finish.new.vol in
    let seen = c.in_ok-seen.ensures {u = tt} in
    let view = g.C.Recovery.BackingRecovery.view c.in_ok-seen.seen in
    let one : view.name ≡ first.name = ap (λ (v : View g.row.C-Item-Cfg.Denot). v.name) seen.made in
    let at : s1.log view.name ≡ s0.log first.name = ap s1.log one ∙ (seen.answers.contents told).logs first.name in
    let least = min c.args.end (end_of (s0.log first.name)) in
    let cut = c.in_err-journal.ensures in
    let moves = subst (λ n. LogMoves first.name (Shrinks n) s1 s2) (ap (λ (l : Log). min c.args.end (end_of l)) at) (subst (λ n. LogMoves n (Shrinks (min c.args.end (end_of (s1.log view.name)))) s1 s2) one (cut.call.log told).images) in
    keeps_follows first.name (Trims least c.args.start) s0 s2 (trimmed_cut least c.args.start first.name s0 s1 s2 seen.answers.clock (seen.answers.past told) moves)

pub returns-in_err-journal-2-clause-log : goal.returns-in_err-journal-2-clause-log
returns-in_err-journal-2-clause-log g c told =
    let first = g.C.Backing.config c.args.cfg in
    let s0 = g.V.Volume.state c.args.vol.now in
    let s1 = g.V.Volume.state c.recover.new.vol in
    let s2 = g.V.Volume.state c.finish.new.vol in
    let seen = c.in_ok-seen.ensures {u = tt} in
    let view = g.C.Recovery.BackingRecovery.view c.in_ok-seen.seen in
    let one : view.name ≡ first.name = ap (λ (v : View g.row.C-Item-Cfg.Denot). v.name) seen.made in
    let at : s1.log view.name ≡ s0.log first.name = ap s1.log one ∙ (seen.answers.contents told).logs first.name in
    let least = min c.args.end (end_of (s0.log first.name)) in
    let cut = c.in_ok-journal.ensures {u = tt} in
    let moves = subst (λ n. LogMoves first.name (Shrinks n) s1 s2) (ap (λ (l : Log). min c.args.end (end_of l)) at) (subst (λ n. LogMoves n (Shrinks (min c.args.end (end_of (s1.log view.name)))) s1 s2) one (cut.call.log told).images) in
    let s3 = g.V.Volume.state c.prune.new.vol in
    let items = g.C.Contiguous.view c.in_ok-journal.journal in
    let opened = g.met.C.Backing.opened_is c.in_ok-journal.journal in
    let two : items.name ≡ first.name = ap (λ (v : View g.row.C-Item-Cfg.Denot). v.name) (sym opened) ∙ ap (λ (v : View g.row.C-Item-Cfg.Denot). v.name) cut.made ∙ one in
    let point = prune_point items c.args.start s2 in
    let within = blob_below items.blob (min c.args.start (end_of (s2.log items.name))) in
    let last = subst (λ n. LogMoves n (Advances point) s2 s3) two (c.in_err-journal-2.ensures.log g.met.C.Backing.is_one_log told).images in
    keeps_follows first.name (Trims least c.args.start) s0 s3 (trimmed_both least c.args.start first.name point s0 s1 s2 s3 (omega (arith, within)) seen.answers.clock (seen.answers.past told) moves last)

pub returns-clause-log : goal.returns-clause-log
returns-clause-log g c told =
    let first = g.C.Backing.config c.args.cfg in
    let s0 = g.V.Volume.state c.args.vol.now in
    let s1 = g.V.Volume.state c.recover.new.vol in
    let s2 = g.V.Volume.state c.finish.new.vol in
    let seen = c.in_ok-seen.ensures {u = tt} in
    let view = g.C.Recovery.BackingRecovery.view c.in_ok-seen.seen in
    let one : view.name ≡ first.name = ap (λ (v : View g.row.C-Item-Cfg.Denot). v.name) seen.made in
    let at : s1.log view.name ≡ s0.log first.name = ap s1.log one ∙ (seen.answers.contents told).logs first.name in
    let least = min c.args.end (end_of (s0.log first.name)) in
    let cut = c.in_ok-journal.ensures {u = tt} in
    let moves = subst (λ n. LogMoves first.name (Shrinks n) s1 s2) (ap (λ (l : Log). min c.args.end (end_of l)) at) (subst (λ n. LogMoves n (Shrinks (min c.args.end (end_of (s1.log view.name)))) s1 s2) one (cut.call.log told).images) in
    let s3 = g.V.Volume.state c.prune.new.vol in
    let items = g.C.Contiguous.view c.in_ok-journal.journal in
    let opened = g.met.C.Backing.opened_is c.in_ok-journal.journal in
    let two : items.name ≡ first.name = ap (λ (v : View g.row.C-Item-Cfg.Denot). v.name) (sym opened) ∙ ap (λ (v : View g.row.C-Item-Cfg.Denot). v.name) cut.made ∙ one in
    let point = prune_point items c.args.start s2 in
    let within = blob_below items.blob (min c.args.start (end_of (s2.log items.name))) in
    let last = subst (λ n. LogMoves n (Advances point) s2 s3) two ((c.in_ok-journal-2.ensures {u = tt}).log g.met.C.Backing.is_one_log told).images in
    keeps_follows first.name (Trims least c.args.start) s0 s3 (trimmed_both least c.args.start first.name point s0 s1 s2 s3 (omega (arith, within)) seen.answers.clock (seen.answers.past told) moves last)

pub returns-clause-ends : goal.returns-clause-ends
returns-clause-ends g c told =
    let first = g.C.Backing.config c.args.cfg in
    let s0 = g.V.Volume.state c.args.vol.now in
    let s1 = g.V.Volume.state c.recover.new.vol in
    let s2 = g.V.Volume.state c.finish.new.vol in
    let seen = c.in_ok-seen.ensures {u = tt} in
    let view = g.C.Recovery.BackingRecovery.view c.in_ok-seen.seen in
    let one : view.name ≡ first.name = ap (λ (v : View g.row.C-Item-Cfg.Denot). v.name) seen.made in
    let at : s1.log view.name ≡ s0.log first.name = ap s1.log one ∙ (seen.answers.contents told).logs first.name in
    let least = min c.args.end (end_of (s0.log first.name)) in
    let cut = c.in_ok-journal.ensures {u = tt} in
    let moves = subst (λ n. LogMoves first.name (Shrinks n) s1 s2) (ap (λ (l : Log). min c.args.end (end_of l)) at) (subst (λ n. LogMoves n (Shrinks (min c.args.end (end_of (s1.log view.name)))) s1 s2) one (cut.call.log told).images) in
    let s3 = g.V.Volume.state c.prune.new.vol in
    let items = g.C.Contiguous.view c.in_ok-journal.journal in
    let opened = g.met.C.Backing.opened_is c.in_ok-journal.journal in
    let two : items.name ≡ first.name = ap (λ (v : View g.row.C-Item-Cfg.Denot). v.name) (sym opened) ∙ ap (λ (v : View g.row.C-Item-Cfg.Denot). v.name) cut.made ∙ one in
    let point = prune_point items c.args.start s2 in
    let within = blob_below items.blob (min c.args.start (end_of (s2.log items.name))) in
    let last = subst (λ n. LogMoves n (Advances point) s2 s3) two ((c.in_ok-journal-2.ensures {u = tt}).log g.met.C.Backing.is_one_log told).images in
    let only = subst (λ n. OnlyLeft (s2.log_left s2.clock n) (s2.log n)) one (cut.durable told) in
    let is = subst (λ n. s3.log n ≡ pruned_to (s2.log n) point) two ((c.in_ok-journal-2.ensures {u = tt}).pruned told (inl g.met.C.Backing.is_one_log)) in
    let high : point ≤ end_of (s2.log first.name) = omega (arith, within, ap (λ n. end_of (s2.log n)) two) in
    ends_pruned first.name point s2 s3 only last is high
