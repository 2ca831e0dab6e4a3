use Rattle.std.proofs.Common.{◌≡◌, inl, ℕ, List, ◌≤◌, min, Err, refl, subst, sym, ◌∙◌, ap, arith}
use Rattle.std.specs.Prelude.{string_bytes}
use Rattle.journal_base.specs.Blobs.{blob_start}
use Rattle.journal_base.specs.View.{View, seen_of}
use Rattle.tree_shape.proofs.NeededLemmas.{made_le}
use Rattle.tree_store.specs.Stored.{size, TreeStands}
use Rattle.volume_base.specs.Log.{Shrinks, end_of, cut_to, pruned_to}
use Rattle.volume_base.specs.Moments.{PairHas, PairKeeps}
use Rattle.volume_base.specs.Names.{log_and_map, NamesCall}
use Rattle.volume_base.specs.Volume.{LogCall, LogMoves, OnlyLeft}
use Rattle.volume_base.proofs.CallLemmas.{names_call_log, names_call_joins}
use Rattle.merkle_full.proofs.PrepareLemmas.{held_within}
use Rattle.merkle_full.proofs.SettleLemmas.{blob_below, cut_down, long_now, then_more, then_cut, start_settled, log_settled, start_outside}
use Rattle.merkle_full.specs.Lifted.{IsLifted}
use Rattle.merkle_full.proofs.GrownLemmas.{err_same}
use Rattle.merkle_full.proofs.LiftedLemmas.{err_lifted, outside_lifted}
use Rattle.merkle_full.proofs.settle.settled.Goals as goal

pub returns-in_err-cut-clause-images : goal.returns-in_err-cut-clause-images
returns-in_err-cut-clause-images g c told h all durable top held is only few has =
    let s = g.F.Family.shape in
    let spelling = g.D.Spelled.spelling in
    let s0 = g.V.Volume.state c.args.vol.now in
    let s1 = g.V.Volume.state c.truncate.new.vol in
    let view = seen_of c.args.nodes in
    let name = view.name in
    let metadata = c.args.metadata.now in
    let Q = TreeStands s h spelling all durable top in
    let fits : size s durable ≤ size s c.args.complete = made_le s durable c.args.complete few in
    let long = long_now s h spelling all durable top name metadata s0 (g.met.V.Volume.contents_left c.args.vol.now told) has in
    let one = cut_down s h spelling all durable top name metadata (min c.size-end.result view.end) s0 s1 (c.in_err-cut.ensures.call.log told).images (omega (arith, fits, long, held.end_is, c.size-end.ensures)) has in
    one

pub returns-in_err-kept-clause-names : goal.returns-in_err-kept-clause-names
returns-in_err-kept-clause-names g c told =
    let s1 = g.V.Volume.state c.truncate.new.vol in
    let s2 = g.V.Volume.state c.advance.new.vol in
    let name = string_bytes c.args.nodes.seen.name in
    let metadata = c.args.metadata.now in
    let names = log_and_map name metadata in
    let named = ap (λ (v : View _). v.name) (c.in_ok-cut.ensures {u = tt}).made in
    let two = names_call_joins names _ s1 s2 (names_call_log names name _ _ s1 (inl refl) ((c.in_ok-cut.ensures {u = tt}).call.log told)) (subst (λ (n : List ℕ). NamesCall (log_and_map n metadata) s1 s2) named (c.in_err-kept.ensures.names told)) in
    two

pub returns-in_err-kept-clause-images : goal.returns-in_err-kept-clause-images
returns-in_err-kept-clause-images g c told h all durable top held is only few has =
    let s = g.F.Family.shape in
    let spelling = g.D.Spelled.spelling in
    let s0 = g.V.Volume.state c.args.vol.now in
    let s1 = g.V.Volume.state c.truncate.new.vol in
    let view = seen_of c.args.nodes in
    let name = view.name in
    let metadata = c.args.metadata.now in
    let Q = TreeStands s h spelling all durable top in
    let fits : size s durable ≤ size s c.args.complete = made_le s durable c.args.complete few in
    let long = long_now s h spelling all durable top name metadata s0 (g.met.V.Volume.contents_left c.args.vol.now told) has in
    let one = cut_down s h spelling all durable top name metadata (min c.size-end.result view.end) s0 s1 ((c.in_ok-cut.ensures {u = tt}).call.log told).images (omega (arith, fits, long, held.end_is, c.size-end.ensures)) has in
    let s2 = g.V.Volume.state c.advance.new.vol in
    let named = ap (λ (v : View _). v.name) (c.in_ok-cut.ensures {u = tt}).made in
    let there = ((c.in_ok-cut.ensures {u = tt}).call.log told).others.maps metadata ∙ is in
    let two = then_more s h spelling all durable top name metadata s0 s1 s2 one (λ now. subst (λ (n : List ℕ). PairKeeps n metadata Q s1 s2) named (c.in_err-kept.ensures.images told h all durable top there only (subst (λ (n : List ℕ). PairHas s1 n metadata Q) (sym named) now))) in
    two

pub returns-in_err-journal-clause-outside : goal.returns-in_err-journal-clause-outside
returns-in_err-journal-clause-outside g c told held =
    let s = g.F.Family.shape in
    let s0 = g.V.Volume.state c.args.vol.now in
    let s1 = g.V.Volume.state c.truncate.new.vol in
    let s2 = g.V.Volume.state c.advance.new.vol in
    let view = seen_of c.args.nodes in
    let name = view.name in
    let cut = c.in_ok-cut.ensures {u = tt} in
    let kept = c.in_ok-kept.ensures {u = tt} in
    let named = ap (λ (v : View _). v.name) cut.made in
    let blobs = ap (λ (v : View _). v.blob) cut.made in
    let size_is = size s c.args.complete in
    let low : size s c.args.boundary ≤ size_is = made_le s c.args.boundary c.args.complete c.requires.low in
    let to_is : min c.size-end.result view.end ≡ size_is = omega (arith, c.size-end.ensures, c.requires.fits) in
    let point = blob_start view.blob (size s c.args.boundary) in
    let end_is = cut.end told (held_within view s0 held) in
    let moved = kept.pruned told (cut.within told) (omega (arith, low, to_is, end_is)) in
    let pruned = ap s2.log (sym named) ∙ moved ∙ ap (λ (n : List ℕ). pruned_to (s1.log n) (blob_start (seen_of c.in_ok-cut.cut).blob (size s c.args.boundary))) named ∙ ap (λ (k : ℕ). pruned_to (s1.log name) (blob_start k (size s c.args.boundary))) blobs in
    let below : point ≤ size_is = let down = blob_below view.blob (size s c.args.boundary) in omega (arith, down, low) in
    let first : (s0.log name).start ≤ size_is = let past = c.requires.past in omega (arith, past, held.start_is) in
    let last : size_is ≤ end_of (s0.log name) = omega (arith, held.end_is, c.requires.fits) in
    let both = ap (λ (v : View _). v.name) kept.made ∙ named in
    let start = start_settled (s0.log name) (s1.log name) (s2.log name) size_is (min c.size-end.result view.end) point (cut.cut told) to_is pruned first last below in
    let same = ap (λ (n : List ℕ). (s2.log n).start) both in
    start_outside c.from_residual-in_err-journal.result c.in_err-journal.field-0.0 c.from_residual-in_err-journal.ensures.1 c.in_err-journal.ensures.errors
    (λ p is. let bad = (c.in_err-journal.ensures.pruned p (ap Err is)).1 told in omega (arith, bad, start, same, c.size-end.ensures))

pub returns-in_err-journal-clause-names : goal.returns-in_err-journal-clause-names
returns-in_err-journal-clause-names g c told =
    let s1 = g.V.Volume.state c.truncate.new.vol in
    let s2 = g.V.Volume.state c.advance.new.vol in
    let name = string_bytes c.args.nodes.seen.name in
    let metadata = c.args.metadata.now in
    let names = log_and_map name metadata in
    let named = ap (λ (v : View _). v.name) (c.in_ok-cut.ensures {u = tt}).made in
    let two = names_call_joins names _ s1 s2 (names_call_log names name _ _ s1 (inl refl) ((c.in_ok-cut.ensures {u = tt}).call.log told)) (subst (λ (n : List ℕ). NamesCall (log_and_map n metadata) s1 s2) named ((c.in_ok-kept.ensures {u = tt}).names told)) in
    let s3 = g.V.Volume.state c.finish.new.vol in
    let both = ap (λ (v : View _). v.name) (c.in_ok-kept.ensures {u = tt}).made ∙ named in
    let call = subst (λ (n : List ℕ). LogCall n (Shrinks (min c.size-end.result (end_of (s2.log n)))) s2 s3) both (c.in_err-journal.ensures.call.log told) in
    names_call_joins names _ s2 s3 two (names_call_log names name _ s2 s3 (inl refl) call)

pub returns-in_err-journal-clause-images : goal.returns-in_err-journal-clause-images
returns-in_err-journal-clause-images g c told h all durable top held is only few has =
    let s = g.F.Family.shape in
    let spelling = g.D.Spelled.spelling in
    let s0 = g.V.Volume.state c.args.vol.now in
    let s1 = g.V.Volume.state c.truncate.new.vol in
    let view = seen_of c.args.nodes in
    let name = view.name in
    let metadata = c.args.metadata.now in
    let Q = TreeStands s h spelling all durable top in
    let fits : size s durable ≤ size s c.args.complete = made_le s durable c.args.complete few in
    let long = long_now s h spelling all durable top name metadata s0 (g.met.V.Volume.contents_left c.args.vol.now told) has in
    let one = cut_down s h spelling all durable top name metadata (min c.size-end.result view.end) s0 s1 ((c.in_ok-cut.ensures {u = tt}).call.log told).images (omega (arith, fits, long, held.end_is, c.size-end.ensures)) has in
    let s2 = g.V.Volume.state c.advance.new.vol in
    let named = ap (λ (v : View _). v.name) (c.in_ok-cut.ensures {u = tt}).made in
    let there = ((c.in_ok-cut.ensures {u = tt}).call.log told).others.maps metadata ∙ is in
    let two = then_more s h spelling all durable top name metadata s0 s1 s2 one (λ now. subst (λ (n : List ℕ). PairKeeps n metadata Q s1 s2) named ((c.in_ok-kept.ensures {u = tt}).images told h all durable top there only (subst (λ (n : List ℕ). PairHas s1 n metadata Q) (sym named) now))) in
    let s3 = g.V.Volume.state c.finish.new.vol in
    let end = c.size-end.result in
    let both = ap (λ (v : View _). v.name) (c.in_ok-kept.ensures {u = tt}).made ∙ named in
    let moves = subst (λ (n : List ℕ). LogMoves n (Shrinks (min end (end_of (s2.log n)))) s2 s3) both (c.in_err-journal.ensures.call.log told).images in
    then_cut s h spelling all durable top name metadata end s0 s2 s3 two moves (g.met.V.Volume.contents_left c.advance.new.vol told) (omega (arith, fits, c.size-end.ensures))

pub returns-clause-log : goal.returns-clause-log
returns-clause-log g c told held =
    let s = g.F.Family.shape in
    let s0 = g.V.Volume.state c.args.vol.now in
    let s1 = g.V.Volume.state c.truncate.new.vol in
    let s2 = g.V.Volume.state c.advance.new.vol in
    let view = seen_of c.args.nodes in
    let name = view.name in
    let cut = c.in_ok-cut.ensures {u = tt} in
    let kept = c.in_ok-kept.ensures {u = tt} in
    let named = ap (λ (v : View _). v.name) cut.made in
    let blobs = ap (λ (v : View _). v.blob) cut.made in
    let size_is = size s c.args.complete in
    let low : size s c.args.boundary ≤ size_is = made_le s c.args.boundary c.args.complete c.requires.low in
    let to_is : min c.size-end.result view.end ≡ size_is = omega (arith, c.size-end.ensures, c.requires.fits) in
    let point = blob_start view.blob (size s c.args.boundary) in
    let end_is = cut.end told (held_within view s0 held) in
    let moved = kept.pruned told (cut.within told) (omega (arith, low, to_is, end_is)) in
    let pruned = ap s2.log (sym named) ∙ moved ∙ ap (λ (n : List ℕ). pruned_to (s1.log n) (blob_start (seen_of c.in_ok-cut.cut).blob (size s c.args.boundary))) named ∙ ap (λ (k : ℕ). pruned_to (s1.log name) (blob_start k (size s c.args.boundary))) blobs in
    let below : point ≤ size_is = let down = blob_below view.blob (size s c.args.boundary) in omega (arith, down, low) in
    let first : (s0.log name).start ≤ size_is = let past = c.requires.past in omega (arith, past, held.start_is) in
    let last : size_is ≤ end_of (s0.log name) = omega (arith, held.end_is, c.requires.fits) in
    let s3 = g.V.Volume.state c.finish.new.vol in
    let both = ap (λ (v : View _). v.name) kept.made ∙ named in
    let end_cut = ap s3.log (sym both) ∙ (c.in_ok-journal.ensures {u = tt}).cut told ∙ ap (λ (n : List ℕ). cut_to (s2.log n) c.size-end.result) both in
    log_settled (s0.log name) (s1.log name) (s2.log name) size_is (min c.size-end.result view.end) point (cut.cut told) to_is pruned first last below (s3.log name) c.size-end.result end_cut c.size-end.ensures

pub returns-clause-durable : goal.returns-clause-durable
returns-clause-durable g c told =
    let s3 = g.V.Volume.state c.finish.new.vol in
    let both = ap (λ (v : View _). v.name) (c.in_ok-kept.ensures {u = tt}).made ∙ ap (λ (v : View _). v.name) (c.in_ok-cut.ensures {u = tt}).made in
    subst (λ (n : List ℕ). OnlyLeft (s3.log_left s3.clock n) (s3.log n)) both ((c.in_ok-journal.ensures {u = tt}).durable told)

pub returns-clause-names : goal.returns-clause-names
returns-clause-names g c told =
    let s1 = g.V.Volume.state c.truncate.new.vol in
    let s2 = g.V.Volume.state c.advance.new.vol in
    let name = string_bytes c.args.nodes.seen.name in
    let metadata = c.args.metadata.now in
    let names = log_and_map name metadata in
    let named = ap (λ (v : View _). v.name) (c.in_ok-cut.ensures {u = tt}).made in
    let two = names_call_joins names _ s1 s2 (names_call_log names name _ _ s1 (inl refl) ((c.in_ok-cut.ensures {u = tt}).call.log told)) (subst (λ (n : List ℕ). NamesCall (log_and_map n metadata) s1 s2) named ((c.in_ok-kept.ensures {u = tt}).names told)) in
    let s3 = g.V.Volume.state c.finish.new.vol in
    let both = ap (λ (v : View _). v.name) (c.in_ok-kept.ensures {u = tt}).made ∙ named in
    let call = subst (λ (n : List ℕ). LogCall n (Shrinks (min c.size-end.result (end_of (s2.log n)))) s2 s3) both ((c.in_ok-journal.ensures {u = tt}).call.log told) in
    names_call_joins names _ s2 s3 two (names_call_log names name _ s2 s3 (inl refl) call)

pub returns-clause-images : goal.returns-clause-images
returns-clause-images g c told h all durable top held is only few has =
    let s = g.F.Family.shape in
    let spelling = g.D.Spelled.spelling in
    let s0 = g.V.Volume.state c.args.vol.now in
    let s1 = g.V.Volume.state c.truncate.new.vol in
    let view = seen_of c.args.nodes in
    let name = view.name in
    let metadata = c.args.metadata.now in
    let Q = TreeStands s h spelling all durable top in
    let fits : size s durable ≤ size s c.args.complete = made_le s durable c.args.complete few in
    let long = long_now s h spelling all durable top name metadata s0 (g.met.V.Volume.contents_left c.args.vol.now told) has in
    let one = cut_down s h spelling all durable top name metadata (min c.size-end.result view.end) s0 s1 ((c.in_ok-cut.ensures {u = tt}).call.log told).images (omega (arith, fits, long, held.end_is, c.size-end.ensures)) has in
    let s2 = g.V.Volume.state c.advance.new.vol in
    let named = ap (λ (v : View _). v.name) (c.in_ok-cut.ensures {u = tt}).made in
    let there = ((c.in_ok-cut.ensures {u = tt}).call.log told).others.maps metadata ∙ is in
    let two = then_more s h spelling all durable top name metadata s0 s1 s2 one (λ now. subst (λ (n : List ℕ). PairKeeps n metadata Q s1 s2) named ((c.in_ok-kept.ensures {u = tt}).images told h all durable top there only (subst (λ (n : List ℕ). PairHas s1 n metadata Q) (sym named) now))) in
    let s3 = g.V.Volume.state c.finish.new.vol in
    let end = c.size-end.result in
    let both = ap (λ (v : View _). v.name) (c.in_ok-kept.ensures {u = tt}).made ∙ named in
    let moves = subst (λ (n : List ℕ). LogMoves n (Shrinks (min end (end_of (s2.log n)))) s2 s3) both ((c.in_ok-journal.ensures {u = tt}).call.log told).images in
    then_cut s h spelling all durable top name metadata end s0 s2 s3 two moves (g.met.V.Volume.contents_left c.advance.new.vol told) (omega (arith, fits, c.size-end.ensures))

pub returns-in_err-cut-clause-errors : goal.returns-in_err-cut-clause-errors
returns-in_err-cut-clause-errors g c = err_lifted c.from_residual.result c.in_err-cut.field-0.0 c.from_residual.ensures.1

pub returns-in_err-kept-clause-errors : goal.returns-in_err-kept-clause-errors
returns-in_err-kept-clause-errors g c = let e = c.in_err-kept.field-0.0 in err_same c.from_residual-in_err-kept.result e IsLifted c.from_residual-in_err-kept.ensures.1 (outside_lifted e c.in_err-kept.ensures.outside)

pub returns-in_err-journal-clause-errors : goal.returns-in_err-journal-clause-errors
returns-in_err-journal-clause-errors g c = err_lifted c.from_residual-in_err-journal.result c.in_err-journal.field-0.0 c.from_residual-in_err-journal.ensures.1
