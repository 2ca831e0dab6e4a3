use Rattle.std.proofs.Common.{◌≡◌, ℕ, List, Ok, take, sym, ◌∙◌, ap, subst, arith}
use Rattle.volume_base.specs.Log.{Log}
use Rattle.volume_base.specs.Moments.{present}
use Rattle.volume_base.specs.Names.{log_alone, NamesCall}
use Rattle.volume_base.specs.Volume.{OnlyLeft}
use Rattle.volume_base.proofs.CallLemmas.{names_call_idle, names_call_joins}
use Rattle.volume_base.proofs.JoinLemmas.{went_of_reads, changes_of_writes, changes_joins}
use Rattle.journal_base.specs.View.{View, SameButBounds}
use Rattle.tree_store.specs.declared.error.Error.TheVariants as tree
use Rattle.merkle_full.specs.Lists.{IsFullOf}
use Rattle.merkle_full.proofs.FullLemmas.{full_later}
use Rattle.merkle_full.proofs.StandLemmas.{pair_idle, pair_none}
use Rattle.auth_journal.specs.Errors.{from_tree, IsLifted}
use Rattle.auth_journal.specs.Joined.{leaves_of}
use Rattle.auth_journal.specs.declared.error.Error.TheVariants as joined
use Rattle.auth_journal.proofs.AlignLemmas.{seated_later, outside_above, images_joined, changes_above}
use Rattle.auth_journal.proofs.DurableLemmas.{err_and}
use Rattle.auth_journal.proofs.OpenedLemmas.{aligned_lifted, flush_lifted, settle_joined}
use Rattle.auth_journal.proofs.align.catch_up.Goals as goal

pub returns-clause-aligned : goal.returns-clause-aligned
returns-clause-aligned g c =
    let one = c.in_ok-aligned.ensures {u = tt} in
    let two = (c.in_ok-synced.ensures {u = tt}).same in
    record {
      leaves = two.leaves ∙ one.longer.leaves;
      boundary = two.boundary ∙ one.beside.boundary;
      log = subst (λ (v : View _). SameButBounds v c.in_ok-synced.synced.log) one.beside.log two.log;
      metadata = two.metadata ∙ one.beside.metadata;
    }

pub returns-clause-whole : goal.returns-clause-whole
returns-clause-whole g c =
    let aligned = (c.in_ok-aligned.ensures {u = tt}).longer.leaves in
    let synced = (c.in_ok-synced.ensures {u = tt}).same.leaves in
    omega (arith, synced, aligned, c.if-last-reached.false, c.bounds-last.ensures.end, c.max-reached.ensures, c.as_u64-leaves.ensures, c.leaves.ensures.leaves)

pub returns-then-last-reached-clause-refused : goal.returns-then-last-reached-clause-refused
returns-then-last-reached-clause-refused g c told seated is =
    absurd (c.if-last-reached.true (omega (arith, is, c.bounds-last.ensures.end, c.max-reached.ensures, c.as_u64-leaves.ensures, c.leaves.ensures.leaves)))

pub returns-then-last-reached-clause-images : goal.returns-then-last-reached-clause-images
returns-then-last-reached-clause-images g c told list rest durable top run few full has = pair_none c.args.merkle.log.name c.args.merkle.metadata _ (g.V.Volume.state c.args.vol.now) has

pub returns-clause-seated : goal.returns-clause-seated
returns-clause-seated g c told seated =
    let one = c.in_ok-aligned.ensures {u = tt} in
    (c.in_ok-synced.ensures {u = tt}).seated told (seated_later g.F.Family.shape c.args.merkle c.in_ok-aligned.aligned (g.V.Volume.state c.args.vol.now) (g.V.Volume.state c.align.new.vol) one.beside one.longer.boundary ((one.reads.contents told).logs c.args.merkle.log.name) seated)

pub returns-clause-begins : goal.returns-clause-begins
returns-clause-begins g c told =
    let s0 = g.V.Volume.state c.args.vol.now in
    let s2 = g.V.Volume.state c.sync.new.vol in
    let one = c.in_ok-aligned.ensures {u = tt} in
    let held = c.in_ok-aligned.aligned.log.name in
    let name = ap (λ (v : View _). v.name) one.beside.log in
    subst (λ (n : List ℕ). (s2.log n).start ≡ (s0.log n).start) name
    (ap (λ (l : Log). l.start) ((c.in_ok-synced.ensures {u = tt}).filled told).log ∙ ap (λ (l : Log). l.start) ((one.reads.contents told).logs held))

pub returns-clause-full : goal.returns-clause-full
returns-clause-full g c told list run few full =
    let s = g.F.Family.shape in
    let h = g.H.Hasher.hash in
    let digest = g.H.Digest.Spelled.spelling in
    let admits = g.H.Digest.Read.admits tt in
    let spelling = g.C.Item.Spelled.spelling in
    let s0 = g.V.Volume.state c.args.vol.now in
    let s1 = g.V.Volume.state c.align.new.vol in
    let s2 = g.V.Volume.state c.sync.new.vol in
    let one = c.in_ok-aligned.ensures {u = tt} in
    let two = c.in_ok-synced.ensures {u = tt} in
    let t = c.in_ok-aligned.aligned in
    let all = leaves_of s h spelling (take t.tree.leaves list) in
    let read = one.reads.contents told in
    let here = full_later s h digest admits all t (present s0) (present s1) (read.logs t.log.name) (read.maps t.metadata) (one.full told list (present s0) run few full) in
    subst (λ (n : ℕ). IsFullOf s h digest admits (leaves_of s h spelling (take n list)) c.in_ok-synced.synced (present s2)) (sym two.same.leaves) (two.full told h all here)

pub returns-in_err-synced-clause-refused : goal.returns-in_err-synced-clause-refused
returns-in_err-synced-clause-refused g c told seated is =
    let one = c.in_ok-aligned.ensures {u = tt} in
    let here = seated_later g.F.Family.shape c.args.merkle c.in_ok-aligned.aligned (g.V.Volume.state c.args.vol.now) (g.V.Volume.state c.align.new.vol) one.beside one.longer.boundary ((one.reads.contents told).logs c.args.merkle.log.name) seated in
    outside_above g.V.Volume.tells _ _ _ c.in_err-synced.field-0.0 _ c.from_residual-in_err-synced.ensures.1 ((c.in_err-synced.ensures {u = tt}).bounded told here)

pub returns-clause-durable : goal.returns-clause-durable
returns-clause-durable g c told =
    let s2 = g.V.Volume.state c.sync.new.vol in
    let name = ap (λ (v : View _). v.name) (c.in_ok-aligned.ensures {u = tt}).beside.log in
    subst (λ (n : List ℕ). OnlyLeft (s2.log_left s2.clock n) (s2.log n)) name ((c.in_ok-synced.ensures {u = tt}).durable told)

pub returns-in_err-aligned-clause-names : goal.returns-in_err-aligned-clause-names
returns-in_err-aligned-clause-names g c told =
    let reads = (c.in_err-aligned.ensures {u = tt}).reads in
    names_call_idle (log_alone c.args.merkle.log.name) (g.V.Volume.state c.args.vol.now) (g.V.Volume.state c.align.new.vol) reads.clock (reads.past told) (reads.contents told)

pub returns-in_err-synced-clause-names : goal.returns-in_err-synced-clause-names
returns-in_err-synced-clause-names g c told =
    let names = log_alone c.args.merkle.log.name in
    let s0 = g.V.Volume.state c.args.vol.now in
    let s1 = g.V.Volume.state c.align.new.vol in
    let s2 = g.V.Volume.state c.sync.new.vol in
    let one = c.in_ok-aligned.ensures {u = tt} in
    let name = ap (λ (v : View _). v.name) one.beside.log in
    names_call_joins names s0 s1 s2 (names_call_idle names s0 s1 one.reads.clock (one.reads.past told) (one.reads.contents told)) (subst (λ (n : List ℕ). NamesCall (log_alone n) s1 s2) name ((c.in_err-synced.ensures {u = tt}).names told))

pub returns-clause-names : goal.returns-clause-names
returns-clause-names g c told =
    let names = log_alone c.args.merkle.log.name in
    let s0 = g.V.Volume.state c.args.vol.now in
    let s1 = g.V.Volume.state c.align.new.vol in
    let s2 = g.V.Volume.state c.sync.new.vol in
    let one = c.in_ok-aligned.ensures {u = tt} in
    let name = ap (λ (v : View _). v.name) one.beside.log in
    names_call_joins names s0 s1 s2 (names_call_idle names s0 s1 one.reads.clock (one.reads.past told) (one.reads.contents told)) (subst (λ (n : List ℕ). NamesCall (log_alone n) s1 s2) name ((c.in_ok-synced.ensures {u = tt}).names told))

pub returns-in_err-aligned-clause-images : goal.returns-in_err-aligned-clause-images
returns-in_err-aligned-clause-images g c told list rest durable top run few full has =
    let reads = (c.in_err-aligned.ensures {u = tt}).reads in
    pair_idle c.args.merkle.log.name c.args.merkle.metadata _ (g.V.Volume.state c.args.vol.now) (g.V.Volume.state c.align.new.vol) reads.clock (reads.past told) has

pub returns-in_err-synced-clause-images : goal.returns-in_err-synced-clause-images
returns-in_err-synced-clause-images g c told list rest durable top run few full has =
    let s = g.F.Family.shape in
    let h = g.H.Hasher.hash in
    let digest = g.H.Digest.Spelled.spelling in
    let admits = g.H.Digest.Read.admits tt in
    let spelling = g.C.Item.Spelled.spelling in
    let s0 = g.V.Volume.state c.args.vol.now in
    let s1 = g.V.Volume.state c.align.new.vol in
    let s2 = g.V.Volume.state c.sync.new.vol in
    let one = c.in_ok-aligned.ensures {u = tt} in
    let t = c.in_ok-aligned.aligned in
    let read = one.reads.contents told in
    let here = full_later s h digest admits (leaves_of s h spelling (take t.tree.leaves list)) t (present s0) (present s1) (read.logs t.log.name) (read.maps t.metadata) (one.full told list (present s0) run few full) in
    images_joined s h digest (λ n. leaves_of s h spelling (take n list)) rest durable top c.args.merkle t _ s0 s1 s2 one.beside one.longer.leaves one.reads.clock (one.reads.past told) has ((c.in_err-synced.ensures {u = tt}).ahead told h (leaves_of s h spelling (take t.tree.leaves list)) rest durable top here)

pub returns-clause-images : goal.returns-clause-images
returns-clause-images g c told list rest durable top run few full has =
    let s = g.F.Family.shape in
    let h = g.H.Hasher.hash in
    let digest = g.H.Digest.Spelled.spelling in
    let admits = g.H.Digest.Read.admits tt in
    let spelling = g.C.Item.Spelled.spelling in
    let s0 = g.V.Volume.state c.args.vol.now in
    let s1 = g.V.Volume.state c.align.new.vol in
    let s2 = g.V.Volume.state c.sync.new.vol in
    let one = c.in_ok-aligned.ensures {u = tt} in
    let t = c.in_ok-aligned.aligned in
    let read = one.reads.contents told in
    let here = full_later s h digest admits (leaves_of s h spelling (take t.tree.leaves list)) t (present s0) (present s1) (read.logs t.log.name) (read.maps t.metadata) (one.full told list (present s0) run few full) in
    images_joined s h digest (λ n. leaves_of s h spelling (take n list)) rest durable top c.args.merkle t _ s0 s1 s2 one.beside one.longer.leaves one.reads.clock (one.reads.past told) has ((c.in_ok-synced.ensures {u = tt}).ahead told h (leaves_of s h spelling (take t.tree.leaves list)) rest durable top here)

pub returns-in_err-synced-clause-changes : goal.returns-in_err-synced-clause-changes
returns-in_err-synced-clause-changes g c =
    let tells = g.V.Volume.tells in
    let one = c.in_ok-aligned.ensures {u = tt} in
    let fresh = ap (λ (v : View _). v.failed) one.beside.log ∙ c.requires.fresh in
    let e = c.in_err-synced.field-0.0 in
    changes_above tells _ _ _ e c.from_residual-in_err-synced.result c.from_residual-in_err-synced.ensures.1 (went_of_reads tells joined.Volume _ _ c.in_ok-aligned.aligned one.reads) (changes_of_writes tells tree.Volume _ _ _ ((c.in_err-synced.ensures {u = tt}).writes fresh))

pub returns-clause-changes : goal.returns-clause-changes
returns-clause-changes g c =
    let tells = g.V.Volume.tells in
    let one = c.in_ok-aligned.ensures {u = tt} in
    let fresh = ap (λ (v : View _). v.failed) one.beside.log ∙ c.requires.fresh in
    let then = (c.in_ok-synced.ensures {u = tt}).writes fresh in
    let t = c.in_ok-synced.synced in
    changes_joins tells tree.Volume joined.Volume _ _ _ (Ok t) (Ok t) (went_of_reads tells joined.Volume _ _ c.in_ok-aligned.aligned one.reads) (changes_of_writes tells tree.Volume _ _ (Ok t) then) (λ is. absurd cc) then.kept

pub returns-clause-replayed : goal.returns-clause-replayed
returns-clause-replayed g c told = (c.in_ok-aligned.ensures {u = tt}).replayed told

pub returns-in_err-aligned-clause-lifted : goal.returns-in_err-aligned-clause-lifted
returns-in_err-aligned-clause-lifted g c =
    let e = c.in_err-aligned.field-0.0 in
    err_and _ e IsLifted c.from_residual.ensures.1 (aligned_lifted g.V.Volume.tells _ _ _ e (c.in_err-aligned.ensures {u = tt}).refused)

pub returns-in_err-synced-clause-lifted : goal.returns-in_err-synced-clause-lifted
returns-in_err-synced-clause-lifted g c =
    let e = c.in_err-synced.field-0.0 in
    err_and _ (from_tree e) IsLifted c.from_residual-in_err-synced.ensures.1 (flush_lifted g.F.Family.shape c.in_ok-aligned.aligned e (c.in_err-synced.ensures {u = tt}).errors)

pub returns-clause-settled : goal.returns-clause-settled
returns-clause-settled g c told list durable top run few full has =
    let s = g.F.Family.shape in
    let h = g.H.Hasher.hash in
    let digest = g.H.Digest.Spelled.spelling in
    let admits = g.H.Digest.Read.admits tt in
    let spelling = g.C.Item.Spelled.spelling in
    let s0 = g.V.Volume.state c.args.vol.now in
    let s1 = g.V.Volume.state c.align.new.vol in
    let s2 = g.V.Volume.state c.sync.new.vol in
    let one = c.in_ok-aligned.ensures {u = tt} in
    let t = c.in_ok-aligned.aligned in
    let read = one.reads.contents told in
    let here = full_later s h digest admits (leaves_of s h spelling (take t.tree.leaves list)) t (present s0) (present s1) (read.logs t.log.name) (read.maps t.metadata) (one.full told list (present s0) run few full) in
    settle_joined s h digest (λ n. leaves_of s h spelling (take n list)) durable top c.args.merkle t _ s0 s1 s2 one.beside one.longer.leaves one.reads.clock (one.reads.past told) has ((c.in_ok-synced.ensures {u = tt}).settled told h (leaves_of s h spelling (take t.tree.leaves list)) durable top here)
