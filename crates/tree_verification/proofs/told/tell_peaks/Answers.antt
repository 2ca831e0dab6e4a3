use Rattle.std.proofs.Common.{◌+◌, ◌<◌, length, map, drop, ap, arith}
use Rattle.std.proofs.lemmas.List.{drop_all}
use Rattle.tree_shape.proofs.PeakLemmas.{next_in}
use Rattle.std.specs.BTreeMap.{is_at}
use Rattle.std.specs.Ordering.{nat_cmp}
use Rattle.std.specs.Map.{lookup}
use Rattle.tree_shape.specs.Shape.{made}
use Rattle.tree_proof.specs.Cover.{cover_over}
use Rattle.tree_verification.specs.Told.{in_tree, told_nodes}
use Rattle.tree_verification.proofs.FoundLemmas.{tells-exactly}
use Rattle.tree_verification.proofs.ToldPlaced.{told-placed}
use Rattle.tree_verification.proofs.ToldLemmas.{left_first, left_digests, left_next, left_none, count-all, count-next}
use Rattle.tree_verification.proofs.told.tell_peaks.Goals as goal

pub loop-i-init : goal.loop-i-init
loop-i-init g c =
    let s = g.F.Family.shape in
    let met = g.K.Wanted.met c.args.known.now in
    let n = c.args.leaves in
    let all = c.in_ok-peaks.ensures.nodes in
    record {
      enough = omega (arith, count-all s met n _ all, c.requires.counted);
      told = λ tree hashed digests. left_first s g.H.Hasher.hash met (g.K.Known.leaf_of c.args.known.now) tree n _ _ _ all (λ p. ap (λ es. lookup (is_at (nat_cmp p)) es) c.new-nodes.ensures.empty) digests;
    }

pub tell-requires-clause-enough : goal.tell-requires-clause-enough
tell-requires-clause-enough g c =
    let peaks = c.in_ok-peaks.peaks.items in
    let i = c.loop-i.i in
    let next = c.index.result.now in
    let within : i < length peaks = omega (arith, c.loop-i-test.true, c.len-i-end.ensures) in
    let are = next_in peaks i next within c.index.ensures in
    omega (arith, c.loop-i.invariant.enough, count-next (g.K.Wanted.met c.args.known.now) _ _ next.0 next.1 are)

pub loop-i-preserved : goal.loop-i-preserved
loop-i-preserved g c =
    let s = g.F.Family.shape in
    let h = g.H.Hasher.hash in
    let met = g.K.Wanted.met c.args.known.now in
    let leaf_of = g.K.Known.leaf_of c.args.known.now in
    let n = c.args.leaves in
    let peaks = c.in_ok-peaks.peaks.items in
    let i = c.loop-i.i in
    let next = c.index.result.now in
    let within : i < length peaks = omega (arith, c.loop-i-test.true, c.len-i-end.ensures) in
    let are = next_in peaks i next within c.index.ensures in
    record {
      enough = omega (arith, c.loop-i.invariant.enough, c.in_ok-then.ensures.behind, count-next met _ _ next.0 next.1 are);
      told = λ tree hashed digests.
          let left = c.loop-i.invariant.told tree hashed digests in
          let rest = map (in_tree tree) (cover_over met (drop (i + 1) peaks)) in
          let puts = c.in_ok-then.ensures.puts tree rest hashed (left_digests s h met leaf_of tree n _ _ next.0 next.1 _ _ left are) in
          left_next s h met leaf_of tree n _ _ next.0 next.1 _ _ _ _ _ left are puts;
    }

pub returns : goal.returns
returns g c tree hashed digests =
    let s = g.F.Family.shape in
    let met = g.K.Wanted.met c.args.known.now in
    let n = c.args.leaves in
    let peaks = c.in_ok-peaks.peaks.items in
    tells-exactly s (made s n) tree _ (told_nodes s met n) (told-placed s met n g.met.F.Family.lawful)
    (left_none s g.H.Hasher.hash met (g.K.Known.leaf_of c.args.known.now) tree n _ _ _ (c.loop-i.invariant.told tree hashed digests) (drop_all c.loop-i.i peaks (omega (arith, c.loop-i-test.false, c.len-i-end.ensures))))
