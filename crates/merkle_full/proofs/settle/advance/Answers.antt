use Rattle.std.proofs.Common.{inl, ◌≤◌, min, refl, subst, arith}
use Rattle.std.specs.Prelude.{string_bytes}
use Rattle.journal_base.specs.View.{seen_of, prune_point}
use Rattle.tree_store.specs.Stored.{size, TreeStands}
use Rattle.volume_base.specs.Log.{end_of}
use Rattle.volume_base.specs.Names.{log_and_map}
use Rattle.volume_base.specs.Volume.{Map}
use Rattle.volume_base.proofs.CallLemmas.{names_call_log, names_call_map, names_call_joins}
use Rattle.volume_base.proofs.MomentLemmas.{pair_has_after, pair_keeps_joins}
use Rattle.merkle_full.proofs.SettleLemmas.{blob_below, put_back, start_moved}
use Rattle.merkle_full.proofs.settle.advance.Goals as goal

pub returns-in_err-map_replace-clause-images : goal.returns-in_err-map_replace-clause-images
returns-in_err-map_replace-clause-images g c told h all durable top is only has =
    let a = g.V.Volume.state c.args.vol.now in
    let b = g.V.Volume.state c.map_replace.new.self in
    let metadata = c.args.metadata.now in
    let here = subst (λ (m : Map). a.map_left a.clock metadata m) is ((g.met.V.Volume.contents_left c.args.vol.now told).maps metadata) in
    put_back g.F.Family.shape h g.D.Spelled.spelling all durable top (string_bytes c.args.nodes.seen.name) metadata c.args.read.now a b (c.in_err-map_replace.ensures.call.map told).images here has

pub returns-in_err-nodes-clause-names : goal.returns-in_err-nodes-clause-names
returns-in_err-nodes-clause-names g c told =
    let name = string_bytes c.args.nodes.seen.name in
    let names = log_and_map name c.args.metadata.now in
    names_call_joins names _ _ _ (names_call_map names c.args.metadata.now _ _ _ (inl refl) ((c.in_ok-map_replace.ensures {u = tt}).call.map told)) (names_call_log names name _ _ _ (inl refl) (c.in_err-nodes.ensures.call.log told))

pub returns-in_err-nodes-clause-images : goal.returns-in_err-nodes-clause-images
returns-in_err-nodes-clause-images g c told h all durable top is only has =
    let s = g.F.Family.shape in
    let spelling = g.D.Spelled.spelling in
    let a = g.V.Volume.state c.args.vol.now in
    let b = g.V.Volume.state c.map_replace.new.self in
    let d = g.V.Volume.state c.prune.new.vol in
    let name = string_bytes c.args.nodes.seen.name in
    let metadata = c.args.metadata.now in
    let read = c.args.read.now in
    let view = seen_of c.args.nodes in
    let least = c.size-position.result in
    let to = prune_point view (min least view.end) b in
    let here = subst (λ (m : Map). a.map_left a.clock metadata m) is ((g.met.V.Volume.contents_left c.args.vol.now told).maps metadata) in
    let replaced = c.in_ok-map_replace.ensures {u = tt} in
    let one = put_back s h spelling all durable top name metadata read a b (replaced.call.map told).images here has in
    let low : to ≤ size s c.args.boundary = let below = blob_below view.blob (min (min least view.end) (end_of (b.log name))) in omega (arith, below, c.size-position.ensures) in
    let two = start_moved s h spelling all durable top name metadata read c.args.boundary to b d only (c.in_err-nodes.ensures.call.log told).images low (replaced.durable told) (pair_has_after name metadata (TreeStands s h spelling all durable top) a b one) in
    pair_keeps_joins name metadata (TreeStands s h spelling all durable top) a b d one two

pub returns-clause-names : goal.returns-clause-names
returns-clause-names g c told =
    let name = string_bytes c.args.nodes.seen.name in
    let names = log_and_map name c.args.metadata.now in
    names_call_joins names _ _ _ (names_call_map names c.args.metadata.now _ _ _ (inl refl) ((c.in_ok-map_replace.ensures {u = tt}).call.map told)) (names_call_log names name _ _ _ (inl refl) ((c.in_ok-nodes.ensures {u = tt}).call.log told))

pub returns-clause-images : goal.returns-clause-images
returns-clause-images g c told h all durable top is only has =
    let s = g.F.Family.shape in
    let spelling = g.D.Spelled.spelling in
    let a = g.V.Volume.state c.args.vol.now in
    let b = g.V.Volume.state c.map_replace.new.self in
    let d = g.V.Volume.state c.prune.new.vol in
    let name = string_bytes c.args.nodes.seen.name in
    let metadata = c.args.metadata.now in
    let read = c.args.read.now in
    let view = seen_of c.args.nodes in
    let least = c.size-position.result in
    let to = prune_point view (min least view.end) b in
    let here = subst (λ (m : Map). a.map_left a.clock metadata m) is ((g.met.V.Volume.contents_left c.args.vol.now told).maps metadata) in
    let replaced = c.in_ok-map_replace.ensures {u = tt} in
    let one = put_back s h spelling all durable top name metadata read a b (replaced.call.map told).images here has in
    let low : to ≤ size s c.args.boundary = let below = blob_below view.blob (min (min least view.end) (end_of (b.log name))) in omega (arith, below, c.size-position.ensures) in
    let two = start_moved s h spelling all durable top name metadata read c.args.boundary to b d only ((c.in_ok-nodes.ensures {u = tt}).call.log told).images low (replaced.durable told) (pair_has_after name metadata (TreeStands s h spelling all durable top) a b one) in
    pair_keeps_joins name metadata (TreeStands s h spelling all durable top) a b d one two
