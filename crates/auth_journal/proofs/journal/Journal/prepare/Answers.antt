use Rattle.std.proofs.Common.{◌≡◌, inl, inr, ℕ, List, Err, Some, refl, sym, ◌∙◌, ap, subst, arith}
use Rattle.std.specs.Fn.{FnReturnsAt}
use Rattle.std.specs.Prelude.{string_bytes}
use Rattle.volume_base.specs.Log.{Log, end_of, cleared_at, BecomesOneOf}
use Rattle.volume_base.specs.Volume.{Map}
use Rattle.volume_base.proofs.JoinLemmas.{same_joins, went_of_reads, went_joins}
use Rattle.journal_base.specs.View.{View}
use Rattle.tree_store.specs.Stored.{TreeStands}
use Rattle.tree_core.specs.Tree.{IsOf}
use Rattle.merkle_full.specs.Opening.{stored_in}
use Rattle.merkle_full.specs.Preparing.{Opens, NotPrepared, cap_of, log_kept}
use Rattle.merkle_full.proofs.GrownLemmas.{err_same}
use Rattle.auth_journal.specs.Errors.{from_journal, from_tree}
use Rattle.auth_journal.specs.Joined.{leaves_of}
use Rattle.auth_journal.specs.Searching.{EndsAt, NotFound}
use Rattle.auth_journal.proofs.OpeningLemmas.{seen_items, seen_held, of_start, leaves_take, reached_within}
use Rattle.auth_journal.proofs.SearchLemmas.{never_some}
use Rattle.auth_journal.proofs.AlignLemmas.{changes_ok, changes_named}
use Rattle.auth_journal.specs.declared.error.Error.TheVariants as joined
use Rattle.tree_store.specs.declared.error.Error.TheVariants as tree
use Rattle.volume_base.specs.declared.error.JournalError.TheVariants as journal
use Rattle.volume_base.proofs.CallLemmas.{log_call_read, log_call_after_read}
use Rattle.auth_journal.specs.Errors.{IsLifted}
use Rattle.auth_journal.proofs.DurableLemmas.{err_and}
use Rattle.auth_journal.proofs.OpenedLemmas.{log_lifted, tree_lifted}
use Rattle.auth_journal.proofs.journal.Journal.prepare.Goals as goal

pub returns-in_err-journal-clause-refused : goal.returns-in_err-journal-clause-refused
returns-in_err-journal-clause-refused g c told =
    let e = c.in_err-journal.field-0.0 in
    let did = c.in_err-journal.ensures in
    err_same _ (from_journal e) _ c.from_residual.ensures.1 (inl (e, inl (of_start e did.errors (λ p is. never_some p (did.pruned p (ap Err is)).0)), refl))

pub returns-in_err-end-clause-refused : goal.returns-in_err-end-clause-refused
returns-in_err-end-clause-refused g c told =
    let tells = g.V.Volume.tells in
    let s0 = g.V.Volume.state c.args.vol.now in
    let s1 = g.V.Volume.state c.recover.new.vol in
    let s2 = g.V.Volume.state c.find_end.new.vol in
    let first = g.C.Backing.config c.args.journal_cfg in
    let nodes = string_bytes c.args.merkle_cfg.nodes in
    let metadata = string_bytes c.args.merkle_cfg.metadata in
    let spelling = g.C.Item.Spelled.spelling in
    let admits = g.C.Item.Read.admits in
    let says = FnReturnsAt g.P.Fn c.args.predicate in
    let cap = c.args.max_size in
    let view = g.C.Recovery.BackingRecovery.view c.in_ok-journal.journal in
    let seen = c.in_ok-journal.ensures {u = tt} in
    let logs = (seen.answers.contents told).logs first.name in
    let held = seen_held first view s0 s1 seen.made logs (seen.start told) (seen.end told) in
    let e = c.in_err-end.field-0.0 in
    err_same _ (from_journal e) _ c.from_residual-in_err-end.ensures.1 (inl (e, seen_items (λ i. NotFound i says cap e) spelling admits first view s0 s1 seen.made logs (c.in_err-end.ensures.refused told held), refl))

pub returns-then-end-gt-MAX_LEAVES-clause-refused : goal.returns-then-end-gt-MAX_LEAVES-clause-refused
returns-then-end-gt-MAX_LEAVES-clause-refused g c told =
    let tells = g.V.Volume.tells in
    let s0 = g.V.Volume.state c.args.vol.now in
    let s1 = g.V.Volume.state c.recover.new.vol in
    let s2 = g.V.Volume.state c.find_end.new.vol in
    let first = g.C.Backing.config c.args.journal_cfg in
    let nodes = string_bytes c.args.merkle_cfg.nodes in
    let metadata = string_bytes c.args.merkle_cfg.metadata in
    let spelling = g.C.Item.Spelled.spelling in
    let admits = g.C.Item.Read.admits in
    let says = FnReturnsAt g.P.Fn c.args.predicate in
    let cap = c.args.max_size in
    let view = g.C.Recovery.BackingRecovery.view c.in_ok-journal.journal in
    let seen = c.in_ok-journal.ensures {u = tt} in
    let logs = (seen.answers.contents told).logs first.name in
    let held = seen_held first view s0 s1 seen.made logs (seen.start told) (seen.end told) in
    let end = c.in_ok-end.end in
    let ends = seen_items (λ i. EndsAt i says cap end) spelling admits first view s0 s1 seen.made logs ((c.in_ok-end.ensures {u = tt}).found told held) in
    inr (end, ends, inl (c.if-end-gt-MAX_LEAVES.true, ap (λ (n : ℕ). joined.Merkle (tree.LocationOverflow n)) c.new.ensures))

pub returns-in_err-merkle-clause-refused : goal.returns-in_err-merkle-clause-refused
returns-in_err-merkle-clause-refused g c told =
    let tells = g.V.Volume.tells in
    let s0 = g.V.Volume.state c.args.vol.now in
    let s1 = g.V.Volume.state c.recover.new.vol in
    let s2 = g.V.Volume.state c.find_end.new.vol in
    let first = g.C.Backing.config c.args.journal_cfg in
    let nodes = string_bytes c.args.merkle_cfg.nodes in
    let metadata = string_bytes c.args.merkle_cfg.metadata in
    let spelling = g.C.Item.Spelled.spelling in
    let admits = g.C.Item.Read.admits in
    let says = FnReturnsAt g.P.Fn c.args.predicate in
    let cap = c.args.max_size in
    let view = g.C.Recovery.BackingRecovery.view c.in_ok-journal.journal in
    let seen = c.in_ok-journal.ensures {u = tt} in
    let logs = (seen.answers.contents told).logs first.name in
    let held = seen_held first view s0 s1 seen.made logs (seen.start told) (seen.end told) in
    let end = c.in_ok-end.end in
    let ends = seen_items (λ i. EndsAt i says cap end) spelling admits first view s0 s1 seen.made logs ((c.in_ok-end.ensures {u = tt}).found told held) in
    let read = same_joins s0 s1 s2 (seen.answers.contents told) ((c.in_ok-end.ensures {u = tt}).reads.contents told) in
    let e = c.in_err-merkle.field-0.0 in
    let not = subst (λ (l : Log). NotPrepared g.H.Digest.Spelled.spelling (g.H.Digest.Read.admits tt) g.F.Family.shape (s0.map metadata) l (cap_of (Some end)) e) (read.logs nodes)
    (subst (λ (m : Map). NotPrepared g.H.Digest.Spelled.spelling (g.H.Digest.Read.admits tt) g.F.Family.shape m (s2.log nodes) (cap_of (Some end)) e) (read.maps metadata)
    (subst (λ (n : ℕ). NotPrepared g.H.Digest.Spelled.spelling (g.H.Digest.Read.admits tt) g.F.Family.shape (s2.map metadata) (s2.log nodes) (cap_of (Some n)) e) c.new-2.ensures (c.in_err-merkle.ensures.refused told))) in
    err_same _ (from_tree e) _ c.from_residual-in_err-merkle.ensures.1 (inr (end, ends, inr (inl (e, not, refl))))

pub returns-then-leaves-start-clause-refused : goal.returns-then-leaves-start-clause-refused
returns-then-leaves-start-clause-refused g c told =
    let tells = g.V.Volume.tells in
    let s0 = g.V.Volume.state c.args.vol.now in
    let s1 = g.V.Volume.state c.recover.new.vol in
    let s2 = g.V.Volume.state c.find_end.new.vol in
    let first = g.C.Backing.config c.args.journal_cfg in
    let nodes = string_bytes c.args.merkle_cfg.nodes in
    let metadata = string_bytes c.args.merkle_cfg.metadata in
    let spelling = g.C.Item.Spelled.spelling in
    let admits = g.C.Item.Read.admits in
    let says = FnReturnsAt g.P.Fn c.args.predicate in
    let cap = c.args.max_size in
    let view = g.C.Recovery.BackingRecovery.view c.in_ok-journal.journal in
    let seen = c.in_ok-journal.ensures {u = tt} in
    let logs = (seen.answers.contents told).logs first.name in
    let held = seen_held first view s0 s1 seen.made logs (seen.start told) (seen.end told) in
    let end = c.in_ok-end.end in
    let ends = seen_items (λ i. EndsAt i says cap end) spelling admits first view s0 s1 seen.made logs ((c.in_ok-end.ensures {u = tt}).found told held) in
    let read = same_joins s0 s1 s2 (seen.answers.contents told) ((c.in_ok-end.ensures {u = tt}).reads.contents told) in
    let r = c.in_ok-merkle.merkle in
    let opens = subst (λ (l : Log). Opens g.row.F.Denot g.H.Digest.Spelled.spelling (g.H.Digest.Read.admits tt) g.F.Family.shape (s0.map metadata) l (cap_of (Some end)) r.boundary r.complete r.pruned r.tree.leaves) (read.logs nodes)
    (subst (λ (m : Map). Opens g.row.F.Denot g.H.Digest.Spelled.spelling (g.H.Digest.Read.admits tt) g.F.Family.shape m (s2.log nodes) (cap_of (Some end)) r.boundary r.complete r.pruned r.tree.leaves) (read.maps metadata)
    (subst (λ (n : ℕ). Opens g.row.F.Denot g.H.Digest.Spelled.spelling (g.H.Digest.Read.admits tt) g.F.Family.shape (s2.map metadata) (s2.log nodes) (cap_of (Some n)) r.boundary r.complete r.pruned r.tree.leaves) c.new-2.ensures ((c.in_ok-merkle.ensures {u = tt}).prepared told))) in
    let leaves : c.as_u64-leaves.result ≡ r.tree.leaves = omega arith in
    inr (end, ends, inr (inr (r.pruned, r.tree.leaves, record { boundary = r.boundary; complete = r.complete; opens = opens }, omega (arith, c.if-leaves-start.true, seen.start told, c.bounds-start.ensures.start), ap (λ (n : ℕ). joined.Journal (journal.ItemPruned n)) leaves)))

pub returns-clause-found : goal.returns-clause-found
returns-clause-found g c told =
    let tells = g.V.Volume.tells in
    let s0 = g.V.Volume.state c.args.vol.now in
    let s1 = g.V.Volume.state c.recover.new.vol in
    let s2 = g.V.Volume.state c.find_end.new.vol in
    let first = g.C.Backing.config c.args.journal_cfg in
    let nodes = string_bytes c.args.merkle_cfg.nodes in
    let metadata = string_bytes c.args.merkle_cfg.metadata in
    let spelling = g.C.Item.Spelled.spelling in
    let admits = g.C.Item.Read.admits in
    let says = FnReturnsAt g.P.Fn c.args.predicate in
    let cap = c.args.max_size in
    let view = g.C.Recovery.BackingRecovery.view c.in_ok-journal.journal in
    let seen = c.in_ok-journal.ensures {u = tt} in
    let logs = (seen.answers.contents told).logs first.name in
    let held = seen_held first view s0 s1 seen.made logs (seen.start told) (seen.end told) in
    let end = c.in_ok-end.end in
    let ends = seen_items (λ i. EndsAt i says cap end) spelling admits first view s0 s1 seen.made logs ((c.in_ok-end.ensures {u = tt}).found told held) in
    ends

pub returns-clause-opens : goal.returns-clause-opens
returns-clause-opens g c told =
    let tells = g.V.Volume.tells in
    let s0 = g.V.Volume.state c.args.vol.now in
    let s1 = g.V.Volume.state c.recover.new.vol in
    let s2 = g.V.Volume.state c.find_end.new.vol in
    let first = g.C.Backing.config c.args.journal_cfg in
    let nodes = string_bytes c.args.merkle_cfg.nodes in
    let metadata = string_bytes c.args.merkle_cfg.metadata in
    let spelling = g.C.Item.Spelled.spelling in
    let admits = g.C.Item.Read.admits in
    let says = FnReturnsAt g.P.Fn c.args.predicate in
    let cap = c.args.max_size in
    let view = g.C.Recovery.BackingRecovery.view c.in_ok-journal.journal in
    let seen = c.in_ok-journal.ensures {u = tt} in
    let logs = (seen.answers.contents told).logs first.name in
    let held = seen_held first view s0 s1 seen.made logs (seen.start told) (seen.end told) in
    let end = c.in_ok-end.end in
    let read = same_joins s0 s1 s2 (seen.answers.contents told) ((c.in_ok-end.ensures {u = tt}).reads.contents told) in
    let r = c.in_ok-merkle.merkle in
    let opens = subst (λ (l : Log). Opens g.row.F.Denot g.H.Digest.Spelled.spelling (g.H.Digest.Read.admits tt) g.F.Family.shape (s0.map metadata) l (cap_of (Some end)) r.boundary r.complete r.pruned r.tree.leaves) (read.logs nodes)
    (subst (λ (m : Map). Opens g.row.F.Denot g.H.Digest.Spelled.spelling (g.H.Digest.Read.admits tt) g.F.Family.shape m (s2.log nodes) (cap_of (Some end)) r.boundary r.complete r.pruned r.tree.leaves) (read.maps metadata)
    (subst (λ (n : ℕ). Opens g.row.F.Denot g.H.Digest.Spelled.spelling (g.H.Digest.Read.admits tt) g.F.Family.shape (s2.map metadata) (s2.log nodes) (cap_of (Some n)) r.boundary r.complete r.pruned r.tree.leaves) c.new-2.ensures ((c.in_ok-merkle.ensures {u = tt}).prepared told))) in
    opens

pub returns-in_err-journal-clause-log : goal.returns-in_err-journal-clause-log
returns-in_err-journal-clause-log g c told = log_call_read g.V.Volume.tells journal.Volume _ (BecomesOneOf (cleared_at 0)) (λ log. inl refl) _ _ _ c.in_err-journal.ensures.answers told

pub returns-then-end-gt-MAX_LEAVES-clause-log : goal.returns-then-end-gt-MAX_LEAVES-clause-log
returns-then-end-gt-MAX_LEAVES-clause-log g c told =
    let tells = g.V.Volume.tells in
    let s0 = g.V.Volume.state c.args.vol.now in
    let s1 = g.V.Volume.state c.recover.new.vol in
    let s2 = g.V.Volume.state c.find_end.new.vol in
    let first = g.C.Backing.config c.args.journal_cfg in
    let nodes = string_bytes c.args.merkle_cfg.nodes in
    let metadata = string_bytes c.args.merkle_cfg.metadata in
    let spelling = g.C.Item.Spelled.spelling in
    let admits = g.C.Item.Read.admits in
    let says = FnReturnsAt g.P.Fn c.args.predicate in
    let cap = c.args.max_size in
    let view = g.C.Recovery.BackingRecovery.view c.in_ok-journal.journal in
    let seen = c.in_ok-journal.ensures {u = tt} in
    let step = BecomesOneOf (cleared_at 0) in
    log_call_after_read tells journal.Volume nodes step (λ log. inl refl) s0 s1 _ seen.answers s2 told (log_call_read tells journal.Volume nodes step (λ log. inl refl) s1 s2 _ (c.in_ok-end.ensures {u = tt}).reads told)

pub returns-in_err-merkle-clause-log : goal.returns-in_err-merkle-clause-log
returns-in_err-merkle-clause-log g c told =
    let tells = g.V.Volume.tells in
    let s0 = g.V.Volume.state c.args.vol.now in
    let s1 = g.V.Volume.state c.recover.new.vol in
    let s2 = g.V.Volume.state c.find_end.new.vol in
    let first = g.C.Backing.config c.args.journal_cfg in
    let nodes = string_bytes c.args.merkle_cfg.nodes in
    let metadata = string_bytes c.args.merkle_cfg.metadata in
    let spelling = g.C.Item.Spelled.spelling in
    let admits = g.C.Item.Read.admits in
    let says = FnReturnsAt g.P.Fn c.args.predicate in
    let cap = c.args.max_size in
    let view = g.C.Recovery.BackingRecovery.view c.in_ok-journal.journal in
    let seen = c.in_ok-journal.ensures {u = tt} in
    let step = BecomesOneOf (cleared_at 0) in
    let s3 = g.V.Volume.state c.prepare.new.vol in
    log_call_after_read tells journal.Volume nodes step (λ log. inl refl) s0 s1 _ seen.answers s3 told (log_call_after_read tells journal.Volume nodes step (λ log. inl refl) s1 s2 _ (c.in_ok-end.ensures {u = tt}).reads s3 told (c.in_err-merkle.ensures.log told))

pub returns-then-leaves-start-clause-log : goal.returns-then-leaves-start-clause-log
returns-then-leaves-start-clause-log g c told =
    let tells = g.V.Volume.tells in
    let s0 = g.V.Volume.state c.args.vol.now in
    let s1 = g.V.Volume.state c.recover.new.vol in
    let s2 = g.V.Volume.state c.find_end.new.vol in
    let first = g.C.Backing.config c.args.journal_cfg in
    let nodes = string_bytes c.args.merkle_cfg.nodes in
    let metadata = string_bytes c.args.merkle_cfg.metadata in
    let spelling = g.C.Item.Spelled.spelling in
    let admits = g.C.Item.Read.admits in
    let says = FnReturnsAt g.P.Fn c.args.predicate in
    let cap = c.args.max_size in
    let view = g.C.Recovery.BackingRecovery.view c.in_ok-journal.journal in
    let seen = c.in_ok-journal.ensures {u = tt} in
    let step = BecomesOneOf (cleared_at 0) in
    let s3 = g.V.Volume.state c.prepare.new.vol in
    log_call_after_read tells journal.Volume nodes step (λ log. inl refl) s0 s1 _ seen.answers s3 told (log_call_after_read tells journal.Volume nodes step (λ log. inl refl) s1 s2 _ (c.in_ok-end.ensures {u = tt}).reads s3 told ((c.in_ok-merkle.ensures {u = tt}).log told))

pub returns-clause-log : goal.returns-clause-log
returns-clause-log g c told =
    let tells = g.V.Volume.tells in
    let s0 = g.V.Volume.state c.args.vol.now in
    let s1 = g.V.Volume.state c.recover.new.vol in
    let s2 = g.V.Volume.state c.find_end.new.vol in
    let first = g.C.Backing.config c.args.journal_cfg in
    let nodes = string_bytes c.args.merkle_cfg.nodes in
    let metadata = string_bytes c.args.merkle_cfg.metadata in
    let spelling = g.C.Item.Spelled.spelling in
    let admits = g.C.Item.Read.admits in
    let says = FnReturnsAt g.P.Fn c.args.predicate in
    let cap = c.args.max_size in
    let view = g.C.Recovery.BackingRecovery.view c.in_ok-journal.journal in
    let seen = c.in_ok-journal.ensures {u = tt} in
    let step = BecomesOneOf (cleared_at 0) in
    let s3 = g.V.Volume.state c.prepare.new.vol in
    log_call_after_read tells journal.Volume nodes step (λ log. inl refl) s0 s1 _ seen.answers s3 told (log_call_after_read tells journal.Volume nodes step (λ log. inl refl) s1 s2 _ (c.in_ok-end.ensures {u = tt}).reads s3 told ((c.in_ok-merkle.ensures {u = tt}).log told))

pub returns-then-leaves-start-clause-changes : goal.returns-then-leaves-start-clause-changes
returns-then-leaves-start-clause-changes g c =
    let tells = g.V.Volume.tells in
    let s0 = g.V.Volume.state c.args.vol.now in
    let s1 = g.V.Volume.state c.recover.new.vol in
    let s2 = g.V.Volume.state c.find_end.new.vol in
    let first = g.C.Backing.config c.args.journal_cfg in
    let nodes = string_bytes c.args.merkle_cfg.nodes in
    let metadata = string_bytes c.args.merkle_cfg.metadata in
    let spelling = g.C.Item.Spelled.spelling in
    let admits = g.C.Item.Read.admits in
    let says = FnReturnsAt g.P.Fn c.args.predicate in
    let cap = c.args.max_size in
    let view = g.C.Recovery.BackingRecovery.view c.in_ok-journal.journal in
    let seen = c.in_ok-journal.ensures {u = tt} in
    let went = went_joins tells s0 s1 s2 (went_of_reads tells journal.Volume s0 s1 c.in_ok-journal.journal seen.answers) (went_of_reads tells journal.Volume s1 s2 c.in_ok-end.end (c.in_ok-end.ensures {u = tt}).reads) in
    changes_named tells tree.Volume s0 s2 _ c.in_ok-merkle.merkle _ went (c.in_ok-merkle.ensures {u = tt}).changes

pub returns-clause-changes : goal.returns-clause-changes
returns-clause-changes g c =
    let tells = g.V.Volume.tells in
    let s0 = g.V.Volume.state c.args.vol.now in
    let s1 = g.V.Volume.state c.recover.new.vol in
    let s2 = g.V.Volume.state c.find_end.new.vol in
    let first = g.C.Backing.config c.args.journal_cfg in
    let nodes = string_bytes c.args.merkle_cfg.nodes in
    let metadata = string_bytes c.args.merkle_cfg.metadata in
    let spelling = g.C.Item.Spelled.spelling in
    let admits = g.C.Item.Read.admits in
    let says = FnReturnsAt g.P.Fn c.args.predicate in
    let cap = c.args.max_size in
    let view = g.C.Recovery.BackingRecovery.view c.in_ok-journal.journal in
    let seen = c.in_ok-journal.ensures {u = tt} in
    let went = went_joins tells s0 s1 s2 (went_of_reads tells journal.Volume s0 s1 c.in_ok-journal.journal seen.answers) (went_of_reads tells journal.Volume s1 s2 c.in_ok-end.end (c.in_ok-end.ensures {u = tt}).reads) in
    changes_ok tells tree.Volume joined.Volume s0 s2 _ c.in_ok-merkle.merkle _ went (c.in_ok-merkle.ensures {u = tt}).changes

pub invariant_of-result : goal.invariant_of-result
invariant_of-result g c =
    let tells = g.V.Volume.tells in
    let s0 = g.V.Volume.state c.args.vol.now in
    let s1 = g.V.Volume.state c.recover.new.vol in
    let s2 = g.V.Volume.state c.find_end.new.vol in
    let first = g.C.Backing.config c.args.journal_cfg in
    let nodes = string_bytes c.args.merkle_cfg.nodes in
    let metadata = string_bytes c.args.merkle_cfg.metadata in
    let spelling = g.C.Item.Spelled.spelling in
    let admits = g.C.Item.Read.admits in
    let says = FnReturnsAt g.P.Fn c.args.predicate in
    let cap = c.args.max_size in
    let view = g.C.Recovery.BackingRecovery.view c.in_ok-journal.journal in
    let seen = c.in_ok-journal.ensures {u = tt} in
    let did = c.in_ok-merkle.ensures {u = tt} in
    let between = (c.in_ok-end.ensures {u = tt}).between in
    record {
      apart = λ e. c.requires.apart (sym (ap (λ (v : View g.row.C-Item-Cfg.Denot). v.name) seen.made) ∙ e ∙ did.named.nodes_is);
      kept = ap (λ (v : View g.row.C-Item-Cfg.Denot). v.failed) seen.made ∙ g.met.C.Backing.fresh c.args.journal_cfg;
      reached = between.0;
      within = between.1;
      few = omega (arith, c.if-end-gt-MAX_LEAVES.false);
      low = omega arith;
    }

pub returns-clause-kept : goal.returns-clause-kept
returns-clause-kept g c told stored is =
    let s0 = g.V.Volume.state c.args.vol.now in
    let s1 = g.V.Volume.state c.recover.new.vol in
    let s2 = g.V.Volume.state c.find_end.new.vol in
    let nodes = string_bytes c.args.merkle_cfg.nodes in
    let metadata = string_bytes c.args.merkle_cfg.metadata in
    let read = same_joins s0 s1 s2 ((c.in_ok-journal.ensures {u = tt}).answers.contents told) ((c.in_ok-end.ensures {u = tt}).reads.contents told) in
    let held = ap (λ (m : Map). stored_in {F = g.row.F.Denot} m) (read.maps metadata) ∙ is in
    (c.in_ok-merkle.ensures {u = tt}).kept told stored held ∙ ap (λ (l : Log). log_kept stored l) (read.logs nodes)

pub returns-clause-within : goal.returns-clause-within
returns-clause-within g c told =
    let tells = g.V.Volume.tells in
    let s0 = g.V.Volume.state c.args.vol.now in
    let s1 = g.V.Volume.state c.recover.new.vol in
    let s2 = g.V.Volume.state c.find_end.new.vol in
    let first = g.C.Backing.config c.args.journal_cfg in
    let nodes = string_bytes c.args.merkle_cfg.nodes in
    let metadata = string_bytes c.args.merkle_cfg.metadata in
    let spelling = g.C.Item.Spelled.spelling in
    let admits = g.C.Item.Read.admits in
    let says = FnReturnsAt g.P.Fn c.args.predicate in
    let cap = c.args.max_size in
    let view = g.C.Recovery.BackingRecovery.view c.in_ok-journal.journal in
    let seen = c.in_ok-journal.ensures {u = tt} in
    let read = same_joins s0 s1 s2 (seen.answers.contents told) ((c.in_ok-end.ensures {u = tt}).reads.contents told) in
    let s3 = g.V.Volume.state c.prepare.new.vol in
    let did = c.in_ok-merkle.ensures {u = tt} in
    let r = c.in_ok-merkle.merkle in
    let logs = (did.log told).others.logs first.name c.requires.apart ∙ read.logs first.name in
    let opens = did.prepared told in
    let few = reached_within g.F.Family.shape (cap_of (Some c.new-2.result)) (end_of (log_kept opens.stored (s2.log nodes))) r.complete opens.selects.most.few in
    record {
      items = seen_held first view s0 s3 seen.made logs (seen.start told) (seen.end told);
      tree = did.within told;
      high = omega (arith, few, opens.leaves_are, c.new-2.ensures);
    }

pub returns-clause-list : goal.returns-clause-list
returns-clause-list g c told list durable top stands =
    let tells = g.V.Volume.tells in
    let s0 = g.V.Volume.state c.args.vol.now in
    let s1 = g.V.Volume.state c.recover.new.vol in
    let s2 = g.V.Volume.state c.find_end.new.vol in
    let first = g.C.Backing.config c.args.journal_cfg in
    let nodes = string_bytes c.args.merkle_cfg.nodes in
    let metadata = string_bytes c.args.merkle_cfg.metadata in
    let spelling = g.C.Item.Spelled.spelling in
    let admits = g.C.Item.Read.admits in
    let says = FnReturnsAt g.P.Fn c.args.predicate in
    let cap = c.args.max_size in
    let view = g.C.Recovery.BackingRecovery.view c.in_ok-journal.journal in
    let seen = c.in_ok-journal.ensures {u = tt} in
    let read = same_joins s0 s1 s2 (seen.answers.contents told) ((c.in_ok-end.ensures {u = tt}).reads.contents told) in
    let s = g.F.Family.shape in
    let h = g.H.Hasher.hash in
    let r = c.in_ok-merkle.merkle in
    let Q = TreeStands s h g.H.Digest.Spelled.spelling (leaves_of s h spelling list) durable top in
    let here = subst (λ (l : Log). Q l (s2.map metadata)) (sym (read.logs nodes)) (subst (λ (m : Map). Q (s0.log nodes) m) (sym (read.maps metadata)) stands) in
    subst (λ (ds : List g.row.H-Digest.Denot). IsOf s h ds r.tree) (leaves_take s h spelling r.tree.leaves list) ((c.in_ok-merkle.ensures {u = tt}).list told (leaves_of s h spelling list) durable top here)

pub returns-clause-sound : goal.returns-clause-sound
returns-clause-sound g c = (omega arith, omega (arith, c.if-end-gt-MAX_LEAVES.false))

pub returns-in_err-journal-clause-searched : goal.returns-in_err-journal-clause-searched
returns-in_err-journal-clause-searched g c told = inl c.in_err-journal.ensures.answers.clock

pub returns-in_err-end-clause-searched : goal.returns-in_err-end-clause-searched
returns-in_err-end-clause-searched g c told = inl (c.in_err-end.ensures.reads.clock ∙ (c.in_ok-journal.ensures {u = tt}).answers.clock)

pub returns-then-end-gt-MAX_LEAVES-clause-searched : goal.returns-then-end-gt-MAX_LEAVES-clause-searched
returns-then-end-gt-MAX_LEAVES-clause-searched g c told = inl ((c.in_ok-end.ensures {u = tt}).reads.clock ∙ (c.in_ok-journal.ensures {u = tt}).answers.clock)

pub returns-in_err-merkle-clause-searched : goal.returns-in_err-merkle-clause-searched
returns-in_err-merkle-clause-searched g c told =
    let s0 = g.V.Volume.state c.args.vol.now in
    let s1 = g.V.Volume.state c.recover.new.vol in
    let first = g.C.Backing.config c.args.journal_cfg in
    let spelling = g.C.Item.Spelled.spelling in
    let admits = g.C.Item.Read.admits in
    let says = FnReturnsAt g.P.Fn c.args.predicate in
    let cap = c.args.max_size in
    let view = g.C.Recovery.BackingRecovery.view c.in_ok-journal.journal in
    let seen = c.in_ok-journal.ensures {u = tt} in
    let logs = (seen.answers.contents told).logs first.name in
    let held = seen_held first view s0 s1 seen.made logs (seen.start told) (seen.end told) in
    let end = c.in_ok-end.end in
    inr (end, seen_items (λ i. EndsAt i says cap end) spelling admits first view s0 s1 seen.made logs ((c.in_ok-end.ensures {u = tt}).found told held), omega (arith, c.if-end-gt-MAX_LEAVES.false))

pub returns-then-leaves-start-clause-searched : goal.returns-then-leaves-start-clause-searched
returns-then-leaves-start-clause-searched g c told =
    let s0 = g.V.Volume.state c.args.vol.now in
    let s1 = g.V.Volume.state c.recover.new.vol in
    let first = g.C.Backing.config c.args.journal_cfg in
    let spelling = g.C.Item.Spelled.spelling in
    let admits = g.C.Item.Read.admits in
    let says = FnReturnsAt g.P.Fn c.args.predicate in
    let cap = c.args.max_size in
    let view = g.C.Recovery.BackingRecovery.view c.in_ok-journal.journal in
    let seen = c.in_ok-journal.ensures {u = tt} in
    let logs = (seen.answers.contents told).logs first.name in
    let held = seen_held first view s0 s1 seen.made logs (seen.start told) (seen.end told) in
    let end = c.in_ok-end.end in
    inr (end, seen_items (λ i. EndsAt i says cap end) spelling admits first view s0 s1 seen.made logs ((c.in_ok-end.ensures {u = tt}).found told held), omega (arith, c.if-end-gt-MAX_LEAVES.false))

pub returns-clause-searched : goal.returns-clause-searched
returns-clause-searched g c told =
    let s0 = g.V.Volume.state c.args.vol.now in
    let s1 = g.V.Volume.state c.recover.new.vol in
    let first = g.C.Backing.config c.args.journal_cfg in
    let spelling = g.C.Item.Spelled.spelling in
    let admits = g.C.Item.Read.admits in
    let says = FnReturnsAt g.P.Fn c.args.predicate in
    let cap = c.args.max_size in
    let view = g.C.Recovery.BackingRecovery.view c.in_ok-journal.journal in
    let seen = c.in_ok-journal.ensures {u = tt} in
    let logs = (seen.answers.contents told).logs first.name in
    let held = seen_held first view s0 s1 seen.made logs (seen.start told) (seen.end told) in
    let end = c.in_ok-end.end in
    inr (end, seen_items (λ i. EndsAt i says cap end) spelling admits first view s0 s1 seen.made logs ((c.in_ok-end.ensures {u = tt}).found told held), omega (arith, c.if-end-gt-MAX_LEAVES.false))

pub returns-in_err-journal-clause-lifted : goal.returns-in_err-journal-clause-lifted
returns-in_err-journal-clause-lifted g c =
    let e = c.in_err-journal.field-0.0 in
    err_and _ (from_journal e) IsLifted c.from_residual.ensures.1 (log_lifted g.row.F.Denot e)

pub returns-in_err-end-clause-lifted : goal.returns-in_err-end-clause-lifted
returns-in_err-end-clause-lifted g c =
    let e = c.in_err-end.field-0.0 in
    err_and _ (from_journal e) IsLifted c.from_residual-in_err-end.ensures.1 (log_lifted g.row.F.Denot e)

pub returns-in_err-merkle-clause-lifted : goal.returns-in_err-merkle-clause-lifted
returns-in_err-merkle-clause-lifted g c =
    let e = c.in_err-merkle.field-0.0 in
    err_and _ (from_tree e) IsLifted c.from_residual-in_err-merkle.ensures.1 (tree_lifted e c.in_err-merkle.ensures.errors)
