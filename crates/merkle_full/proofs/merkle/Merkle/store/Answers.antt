use Rattle.std.proofs.Common.{min, inl, length, Ok, refl, sym, ◌∙◌, subst, arith}
use Rattle.journal_base.specs.Blobs.{blob_start}
use Rattle.tree_shape.specs.Shape.{made}
use Rattle.tree_store.specs.declared.error.Error.TheVariants as tree
use Rattle.volume_base.specs.Log.{end_of}
use Rattle.volume_base.specs.Moments.{present}
use Rattle.volume_base.specs.Volume.{Map, OnlyLeft}
use Rattle.volume_base.proofs.CallLemmas.{names_call_map, names_call_log, names_call_joins}
use Rattle.volume_base.proofs.JoinLemmas.{writes_joins}
use Rattle.merkle_full.specs.Pruning.{beside_map}
use Rattle.merkle_full.proofs.FullLemmas.{full_later}
use Rattle.merkle_full.proofs.PruneLemmas.{blob_low, store_stands, stored_stands}
use Rattle.merkle_full.proofs.merkle.Merkle.store.Goals as goal

pub returns-in_err-put_map-clause-names : goal.returns-in_err-put_map-clause-names
returns-in_err-put_map-clause-names g c tells = names_call_map _ _ _ (g.V.Volume.state c.args.vol.now) (g.V.Volume.state c.put_map.new.vol) (inl refl) (c.put_map.ensures.call.map tells)

pub returns-in_err-put_map-clause-images : goal.returns-in_err-put_map-clause-images
returns-in_err-put_map-clause-images g c tells h all durable top rests full only stand =
    store_stands g.F.Family.shape h g.D.Spelled.spelling (g.D.Read.admits tt) all durable top c.args.self rests.boundary (g.V.Volume.state c.args.vol.now) (g.V.Volume.state c.put_map.new.vol) c.args.map.now full only stand (c.put_map.ensures.call.map tells).images

pub returns-in_err-pruned-clause-names : goal.returns-in_err-pruned-clause-names
returns-in_err-pruned-clause-names g c tells =
    names_call_joins _ (g.V.Volume.state c.args.vol.now) (g.V.Volume.state c.put_map.new.vol) (g.V.Volume.state c.prune_log.new.vol)
    (names_call_map _ _ _ (g.V.Volume.state c.args.vol.now) (g.V.Volume.state c.put_map.new.vol) (inl refl) (c.put_map.ensures.call.map tells))
    (names_call_log _ _ _ (g.V.Volume.state c.put_map.new.vol) (g.V.Volume.state c.prune_log.new.vol) (inl refl) (c.in_err-pruned.ensures.log tells))

pub returns-clause-names : goal.returns-clause-names
returns-clause-names g c tells =
    names_call_joins _ (g.V.Volume.state c.args.vol.now) (g.V.Volume.state c.put_map.new.vol) (g.V.Volume.state c.prune_log.new.vol)
    (names_call_map _ _ _ (g.V.Volume.state c.args.vol.now) (g.V.Volume.state c.put_map.new.vol) (inl refl) (c.put_map.ensures.call.map tells))
    (names_call_log _ _ _ (g.V.Volume.state c.put_map.new.vol) (g.V.Volume.state c.prune_log.new.vol) (inl refl) ((c.in_ok-pruned.ensures {u = tt}).log tells))

pub returns-clause-full : goal.returns-clause-full
returns-clause-full g c tells h all full =
    let put = c.in_ok-put_map.ensures {u = tt} in
    let same = (put.call.map tells).others.logs c.args.self.log.name in
    (c.in_ok-pruned.ensures {u = tt}).full tells h all
    (full_later g.F.Family.shape h g.D.Spelled.spelling (g.D.Read.admits tt) all c.args.self (beside_map (g.V.Volume.state c.args.vol.now) c.args.map.now) (present (g.V.Volume.state c.put_map.new.vol)) same (put.map tells) full)

pub returns-in_err-pruned-clause-images : goal.returns-in_err-pruned-clause-images
returns-in_err-pruned-clause-images g c tells h all durable top rests full only stand =
    let s = g.F.Family.shape in
    let t = c.args.self in
    let a = g.V.Volume.state c.args.vol.now in
    let b = g.V.Volume.state c.put_map.new.vol in
    let d = g.V.Volume.state c.prune_log.new.vol in
    let put = c.in_ok-put_map.ensures {u = tt} in
    let same = (put.call.map tells).others.logs t.log.name in
    let least = min (length (made s t.boundary)) (end_of (b.log t.log.name)) in
    let full_b = full_later s h g.D.Spelled.spelling (g.D.Read.admits tt) all t (beside_map a c.args.map.now) (present b) same (put.map tells) full in
    stored_stands s h g.D.Spelled.spelling (g.D.Read.admits tt) all durable top t rests.boundary a b d c.args.map.now (blob_start t.log.blob least) (g.met.V.Volume.contents_left c.args.vol.now tells) full only stand (put.call.map tells).images same
    (subst (λ (m : Map). OnlyLeft (b.map_left b.clock t.metadata) m) (sym (put.map tells)) (put.durable tells)) full_b (omega (arith, blob_low t.log.blob least)) (c.in_err-pruned.ensures.log tells).images

pub returns-clause-images : goal.returns-clause-images
returns-clause-images g c tells h all durable top rests full only stand =
    let s = g.F.Family.shape in
    let t = c.args.self in
    let a = g.V.Volume.state c.args.vol.now in
    let b = g.V.Volume.state c.put_map.new.vol in
    let d = g.V.Volume.state c.prune_log.new.vol in
    let put = c.in_ok-put_map.ensures {u = tt} in
    let same = (put.call.map tells).others.logs t.log.name in
    let least = min (length (made s t.boundary)) (end_of (b.log t.log.name)) in
    let full_b = full_later s h g.D.Spelled.spelling (g.D.Read.admits tt) all t (beside_map a c.args.map.now) (present b) same (put.map tells) full in
    stored_stands s h g.D.Spelled.spelling (g.D.Read.admits tt) all durable top t rests.boundary a b d c.args.map.now (blob_start t.log.blob least) (g.met.V.Volume.contents_left c.args.vol.now tells) full only stand (put.call.map tells).images same
    (subst (λ (m : Map). OnlyLeft (b.map_left b.clock t.metadata) m) (sym (put.map tells)) (put.durable tells)) full_b (omega (arith, blob_low t.log.blob least)) ((c.in_ok-pruned.ensures {u = tt}).log tells).images

pub returns-clause-writes : goal.returns-clause-writes
returns-clause-writes g c sound =
    writes_joins g.V.Volume.tells tree.Volume tree.Volume tree.Volume (g.V.Volume.state c.args.vol.now) (g.V.Volume.state c.put_map.new.vol) (g.V.Volume.state c.prune_log.new.vol) _ (Ok c.in_ok-pruned.pruned) (Ok c.in_ok-pruned.pruned)
    (c.in_ok-put_map.ensures {u = tt}).call.writes ((c.in_ok-pruned.ensures {u = tt}).writes sound) (λ is. is) (λ k. k)

pub returns-clause-stored : goal.returns-clause-stored
returns-clause-stored g c tells = ((c.in_ok-pruned.ensures {u = tt}).log tells).others.maps c.args.self.metadata ∙ (c.in_ok-put_map.ensures {u = tt}).map tells
