use Rattle.std.proofs.Common.{length, [], ◌∷◌, refl, add-one, ◌∙◌, ap}
use Rattle.std.proofs.lemmas.Option.{slice_get_read}
use Rattle.tree_shape.specs.Slow.{leaf}
use Rattle.tree_core.specs.Batches.{leaf_count, with_digests}
use Rattle.auth_journal.proofs.BatchLemmas.{added_next}
use Rattle.auth_journal.proofs.leaves.add_leaves.Goals as goal

pub loop-i-preserved : goal.loop-i-preserved
loop-i-preserved g c =
    let s = g.F.Family.shape in
    let h = g.H.Hasher.hash in
    let xs = c.args.encodings.now in
    let now = c.loop-i.batch in
    let read = slice_get_read xs (length xs) c.loop-i.i c.index-encodings-i.result refl c.loop-i-test.true c.index-encodings-i.is in
    rw add-one (added_next s h c.args.batch.now now c.add.new.self xs c.loop-i.i c.index-encodings-i.result c.loop-i.invariant read
    ((c.in-Ok.ensures {u = tt}).ok ∙ ap (λ el. with_digests now (leaf s h (leaf_count now) el ∷ [])) c.as_slice.ensures))
