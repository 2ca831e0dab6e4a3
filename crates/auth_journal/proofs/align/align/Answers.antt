use Rattle.std.proofs.Common.{◌≡◌, ℕ, ◌+◌, ◌≤◌, List, [], ◌++◌, length, take, refl, sym, ◌∙◌, ap, subst, arith}
use Rattle.volume_base.specs.Log.{Log}
use Rattle.volume_base.proofs.ReadLemmas.{only_read_none, only_read_joins, reads_of}
use Rattle.journal_base.specs.Items.{items_of}
use Rattle.journal_base.specs.Reads.{AreItemsAt}
use Rattle.journal_base.specs.View.{log_of}
use Rattle.tree_core.specs.Applied.{IsLonger}
use Rattle.merkle_full.specs.Lists.{IsFullOf}
use Rattle.auth_journal.specs.Joined.{leaves_of}
use Rattle.auth_journal.specs.Reading.{positions}
use Rattle.auth_journal.specs.declared.error.Error.TheVariants as joined
use Rattle.auth_journal.proofs.AlignLemmas.{read_join, replayed, piece_unread, nothing_read, longer_joins, beside_joins, reads_above, memory_only}
use Rattle.auth_journal.proofs.OpenedLemmas.{readable_from}
use Rattle.auth_journal.proofs.align.align.Goals as goal

pub loop-leaves-init : goal.loop-leaves-init
loop-leaves-init g c =
    let first = c.args.merkle in
    let n : c.as_u64-leaves.result ≡ first.tree.leaves = omega (arith, c.as_u64-leaves.ensures, c.leaves.ensures.leaves) in
    record {
      so_far = only_read_none g.V.Volume.tells (g.V.Volume.state c.args.vol.now);
      low = omega (arith, n);
      high = omega (arith, n);
      beside = record { boundary = refl; log = refl; metadata = refl };
      longer = record { leaves = sym n; boundary = refl; nodes = λ p low. refl };
      readable = λ told. ([], nothing_read _ first.tree.leaves _ n);
      full = λ told list image run few full. subst (λ (k : ℕ). IsFullOf g.F.Family.shape g.H.Hasher.hash g.H.Digest.Spelled.spelling (g.H.Digest.Read.admits tt) (leaves_of g.F.Family.shape g.H.Hasher.hash g.C.Item.Spelled.spelling (take k list)) first image) (sym n) full;
    }

pub loop-leaves-preserved : goal.loop-leaves-preserved
loop-leaves-preserved g c =
    let s = g.F.Family.shape in
    let h = g.H.Hasher.hash in
    let digest = g.H.Digest.Spelled.spelling in
    let admits = g.H.Digest.Read.admits tt in
    let spelling = g.C.Item.Spelled.spelling in
    let view = g.C.Contiguous.view c.args.journal.now in
    let old = g.V.Volume.state c.args.vol.now in
    let first = c.args.merkle in
    let was = c.loop-leaves.invariant in
    let read = c.in_ok-items.ensures {u = tt} in
    let made = c.in_ok-merkle.ensures {u = tt} in
    let leaves = c.loop-leaves.leaves in
    let next : ℕ = leaves + c.min.result in
    let low : leaves ≤ next = omega arith in
    let high : next ≤ c.args.end = omega (arith, c.min.ensures, c.loop-leaves-test.true) in
    let xs : List g.row.C-Item.Denot = c.in_ok-items.items.items in
    let taken : c.deref.result.now ≡ xs = c.deref.ensures.value in
    let count : c.loop-leaves.merkle.tree.leaves + length c.deref.result.now ≡ next = omega (arith, was.longer.leaves, ap length taken, read.counted) in
    let items = items_of spelling g.C.Item.Read.admits view old in
    let there : g.V.Volume.tells → AreItemsAt items (positions leaves next) xs = λ told.
    subst (λ (l : Log). AreItemsAt (record { log = l; spelling = spelling; admits = g.C.Item.Read.admits view.codec }) (positions leaves next) xs) ((was.so_far.contents told).logs view.name) (read.items told) in
    record {
      so_far = only_read_joins _ _ _ _ _ _ was.so_far read.reads;
      low = omega (arith, was.low);
      high = omega (arith, high);
      beside = beside_joins first c.loop-leaves.merkle c.in_ok-merkle.merkle was.beside made.beside;
      longer = longer_joins s leaves next first.tree c.loop-leaves.merkle.tree c.in_ok-merkle.merkle.tree was.low was.longer (subst (λ n. IsLonger s n c.loop-leaves.merkle.tree c.in_ok-merkle.merkle.tree) count made.longer);
      readable = λ told. let r = was.readable told in (r.0 ++ xs, read_join items first.tree.leaves leaves next r.0 xs was.low low r.1 (there told));
      full = λ told list image run few full.
          subst (λ (all : List g.row.H-Digest.Denot). IsFullOf s h digest admits all c.in_ok-merkle.merkle image)
          (ap (λ (ys : List g.row.C-Item.Denot). leaves_of s h spelling (take leaves list ++ ys)) taken ∙ replayed s h items list leaves next xs run low (omega (arith, high, few)) (there told))
          (made.full (take leaves list) image (was.full told list image run few full));
    }

pub returns-in_err-items-clause-refused : goal.returns-in_err-items-clause-refused
returns-in_err-items-clause-refused g c =
    let view = g.C.Contiguous.view c.args.journal.now in
    let was = c.loop-leaves.invariant in
    let high : c.loop-leaves.leaves + c.min.result ≤ c.args.end = omega (arith, c.min.ensures, c.loop-leaves-test.true) in
    piece_unread g.V.Volume.tells g.C.Item.Spelled.spelling (g.C.Item.Read.admits view.codec) (log_of view (g.V.Volume.state c.args.vol.now)) (log_of view (g.V.Volume.state c.loop-leaves.vol)) c.args.merkle.tree.leaves c.loop-leaves.leaves (c.loop-leaves.leaves + c.min.result) c.args.end
    c.in_err-items.field-0.0 _ (λ told. (was.so_far.contents told).logs view.name) was.low high was.readable c.from_residual.ensures.1 (c.in_err-items.ensures {u = tt}).unread

pub returns-in_err-items-clause-reads : goal.returns-in_err-items-clause-reads
returns-in_err-items-clause-reads g c =
    reads_above g.V.Volume.tells _ _ _ c.in_err-items.field-0.0 _ c.from_residual.ensures.1 c.loop-leaves.invariant.so_far (c.in_err-items.ensures {u = tt}).reads

pub returns-in_err-merkle-clause-reads : goal.returns-in_err-merkle-clause-reads
returns-in_err-merkle-clause-reads g c =
    let run = only_read_joins _ _ _ _ _ _ c.loop-leaves.invariant.so_far (c.in_ok-items.ensures {u = tt}).reads in
    reads_of g.V.Volume.tells joined.Volume _ _ _ run (memory_only _ c.in_err-merkle.field-0.0 c.from_residual-in_err-merkle.ensures.1 (c.in_err-merkle.ensures {u = tt}).memory)

pub returns-clause-full : goal.returns-clause-full
returns-clause-full g c told list image run few full =
    let now = c.loop-leaves.invariant in
    subst (λ (n : ℕ). IsFullOf g.F.Family.shape g.H.Hasher.hash g.H.Digest.Spelled.spelling (g.H.Digest.Read.admits tt) (leaves_of g.F.Family.shape g.H.Hasher.hash g.C.Item.Spelled.spelling (take n list)) c.loop-leaves.merkle image) (sym now.longer.leaves) (now.full told list image run few full)

pub returns-clause-replayed : goal.returns-clause-replayed
returns-clause-replayed g c told =
    let view = g.C.Contiguous.view c.args.journal.now in
    let items = items_of g.C.Item.Spelled.spelling g.C.Item.Read.admits view (g.V.Volume.state c.args.vol.now) in
    let read = c.loop-leaves.invariant.readable told in
    readable_from items c.args.merkle.tree.leaves c.loop-leaves.leaves c.args.end read.0 c.loop-leaves-test.false read.1
