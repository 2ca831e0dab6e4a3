use Rattle.std.proofs.Common.{min, inl, refl, sym, subst, arith}
use Rattle.std.specs.String.{string_bytes}
use Rattle.std.specs.NonZero.{non_zero_u64_get}
use Rattle.journal_base.specs.Blobs.{blob_start}
use Rattle.journal_base.specs.View.{view_of}
use Rattle.volume_base.specs.Log.{end_of}
use Rattle.volume_base.specs.Moments.{present}
use Rattle.merkle_full.specs.Full.{Full}
use Rattle.merkle_full.specs.Lists.{IsFullOf}
use Rattle.merkle_full.proofs.PruneLemmas.{blob_low, pruned_full}
use Rattle.merkle_full.proofs.merkle.Merkle.prune_log.Goals as goal

pub returns-clause-full : goal.returns-clause-full
returns-clause-full g c tells h all full =
    let s = g.F.Family.shape in
    let old = g.V.Volume.state c.args.vol.now in
    let new = g.V.Volume.state c.prune.new.vol in
    let before : Full g.row.D.Denot = record { tree = c.self.inside.mem; boundary = c.self.inside.boundary; log = view_of c.self.inside.nodes; metadata = string_bytes c.self.inside.metadata } in
    let here = subst (λ (t : Full g.row.D.Denot). IsFullOf s h g.D.Spelled.spelling (g.D.Read.admits tt) all t (present old)) (sym c.self.view_is) full in
    let did = c.in_ok-nodes.ensures {u = tt} in
    let held = did.held tells (inl tt) in
    let least = min c.size.result (end_of (old.log (string_bytes c.self.inside.nodes.name))) in
    let blob = non_zero_u64_get c.self.inside.nodes.items_per_blob in
    pruned_full s h g.D.Spelled.spelling (g.D.Read.admits tt) all before _ (present old) (present new) (blob_start blob least) refl
    (record { leaves = refl; boundary = refl; log = did.made; metadata = refl })
    (omega (arith, blob_low blob least, c.size.ensures)) (did.pruned tells (inl tt)) (did.listed tells (inl tt)) held.start_is held.end_is
    ((did.log tt tells).others.maps (string_bytes c.self.inside.metadata)) here
