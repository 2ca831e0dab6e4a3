use Rattle.std.proofs.Common.{◌≡◌, ◌≢◌, ℕ, List, ◌++◌, length, map, drop, refl, sym, ◌∙◌, ap, subst, arith, Ok, Err}
use Rattle.std.proofs.Math.Seq.{drop-append_seam}
use Rattle.std.proofs.lemmas.List.{map-append}
use Rattle.journal_base.specs.View.{log_of}
use Rattle.tree_shape.specs.Slow.{leaf_digests}
use Rattle.tree_core.specs.Batches.{IsSealedOf}
use Rattle.volume_base.specs.Log.{end_of, Grows}
use Rattle.volume_base.specs.Volume.{LogCall}
use Rattle.auth_journal.proofs.GrowLemmas.{items_grow, none_stands}
use Rattle.volume_base.specs.Moments.{present}
use Rattle.volume_base.specs.declared.error.JournalError.TheVariants as journal
use Rattle.merkle_full.specs.Full.{IsSeated}
use Rattle.merkle_full.specs.Lists.{AreDigests}
use Rattle.auth_journal.specs.Appending.{Appends}
use Rattle.auth_journal.specs.Joined.{Joined, IsJoinedOf, leaves_of}
use Rattle.auth_journal.specs.declared.error.Error.TheVariants as joined
use Rattle.auth_journal.proofs.AppendLemmas.{appends_not, appends_refused, appends_below, appends_ok}
use Rattle.auth_journal.proofs.BatchLemmas.{only_memory}
use Rattle.auth_journal.proofs.ErrorLemmas.{answered_size, answered_merkle, unwritten_below, memory_not_merkle}
use Rattle.auth_journal.proofs.JoinedLemmas.{appended_joined, seated_later, sound_later}
use Rattle.auth_journal.proofs.LeafLemmas.{leaves_rest, all_digests}
use Rattle.auth_journal.proofs.journal.Journal.put.Goals as goal

pub returns-in_err-merkle-clause-refused : goal.returns-in_err-merkle-clause-refused
returns-in_err-merkle-clause-refused g c e at =
    let s = g.F.Family.shape in
    memory_not_merkle _ c.in_err-merkle.field-0.0 e c.from_residual-in_err-merkle.ensures.1 (only_memory s c.self.inside.merkle.tree c.in_ok-batch.batch 0 c.in_err-merkle.field-0.0 (c.in_ok-batch.ensures {u = tt}).fits (c.in_err-merkle.ensures {u = tt}).answer) at

pub returns-in_err-journal-clause-refused : goal.returns-in_err-journal-clause-refused
returns-in_err-journal-clause-refused g c e at = answered_merkle _ c.in_err-journal.field-0.0 e c.from_residual-in_err-journal.ensures.1 at

pub invariant_of-made : goal.invariant_of-made
invariant_of-made g c =
    let j : Joined g.row.H-Digest.Denot g.row.C-Item-Cfg.Denot = record { items = g.C.Contiguous.view c.self.inside.journal; tree = c.self.inside.merkle; bagging = c.self.inside.hasher; failed = c.self.inside.failed } in
    sound_later j (record { items = g.C.Contiguous.view c.in_ok-journal.journal; tree = c.in_ok-merkle.merkle; bagging = c.self.inside.hasher; failed = c.self.inside.failed }) c.self.invariant (c.in_ok-journal.ensures {u = tt}).made (c.in_ok-merkle.ensures {u = tt}).beside refl

pub returns-in_err-batch-clause-appends : goal.returns-in_err-batch-clause-appends
returns-in_err-batch-clause-appends g c items same =
    let a = g.V.Volume.state c.args.vol.now in
    let e = c.in_err-batch.field-0.0 in
    let memory : e ≡ joined.Memory = (c.in_err-batch.ensures {u = tt}).memory in
    appends_not g.V.Volume.tells g.C.Item.Spelled.spelling c.args.self.items items a a _ e _ c.from_residual.ensures.1 (λ is. let same : joined.Memory ≡ joined.Volume = sym memory ∙ is in cc)

pub returns-in_err-merkle-clause-appends : goal.returns-in_err-merkle-clause-appends
returns-in_err-merkle-clause-appends g c items same =
    let a = g.V.Volume.state c.args.vol.now in
    appends_refused g.V.Volume.tells g.C.Item.Spelled.spelling c.args.self.items items a a g.F.Family.shape c.self.inside.merkle.tree c.in_ok-batch.batch _ c.in_err-merkle.field-0.0 _ c.from_residual-in_err-merkle.ensures.1 (c.in_err-merkle.ensures {u = tt}).answer

pub returns-in_err-journal-clause-appends : goal.returns-in_err-journal-clause-appends
returns-in_err-journal-clause-appends g c items same =
    let tells = g.V.Volume.tells in
    let spelling = g.C.Item.Spelled.spelling in
    let old = g.V.Volume.state c.args.vol.now in
    let new = g.V.Volume.state c.append_to.new.vol in
    let here = subst (λ (j : Joined g.row.H-Digest.Denot g.row.C-Item-Cfg.Denot). Appends tells journal.Volume spelling j.items (λ made. g.C.Contiguous.view made.0) items old new c.append_to.result) c.self.view_is (c.append_to.ensures.appends items same) in
    appends_below tells spelling c.args.self.items items old new (λ made. g.C.Contiguous.view made.0) _ c.append_to.result c.in_err-journal.field-0.0 c.from_residual-in_err-journal.result (c.in_err-journal.was {u = tt}) c.from_residual-in_err-journal.ensures.1 here

pub returns-clause-appends : goal.returns-clause-appends
returns-clause-appends g c items same =
    let tells = g.V.Volume.tells in
    let spelling = g.C.Item.Spelled.spelling in
    let old = g.V.Volume.state c.args.vol.now in
    let new = g.V.Volume.state c.append_to.new.vol in
    let pair : g.row.C.Denot × ℕ = (c.in_ok-journal.journal, c.in_ok-journal.first) in
    let here = subst (λ (j : Joined g.row.H-Digest.Denot g.row.C-Item-Cfg.Denot). Appends tells journal.Volume spelling j.items (λ made. g.C.Contiguous.view made.0) items old new (Ok pair)) c.self.view_is ((c.in_ok-journal.ensures {u = tt}).appends items same) in
    appends_ok tells spelling c.args.self.items items old new journal.Volume joined.Volume (λ made. g.C.Contiguous.view made.0) _ pair _ here refl

pub returns-in_err-journal-clause-unwritten : goal.returns-in_err-journal-clause-unwritten
returns-in_err-journal-clause-unwritten g c =
    unwritten_below (g.V.Volume.state c.args.vol.now) (g.V.Volume.state c.append_to.new.vol) c.append_to.result c.in_err-journal.field-0.0 _ (c.in_err-journal.was {u = tt}) c.from_residual-in_err-journal.ensures.1 c.append_to.ensures.refused

pub returns-in_err-journal-clause-overflow : goal.returns-in_err-journal-clause-overflow
returns-in_err-journal-clause-overflow g c e at =
    let state = g.V.Volume.state c.args.vol.now in
    let size = answered_size _ c.in_err-journal.field-0.0 e c.from_residual-in_err-journal.ensures.1 (c.in_err-journal.ensures {u = tt}).errors at in
    let ends = ap (λ (j : Joined g.row.H-Digest.Denot g.row.C-Item-Cfg.Denot). end_of (log_of j.items state)) c.self.view_is in
    (size.1, λ told. let past = c.append_to.ensures.overflow told (c.in_err-journal.was {u = tt} ∙ ap Err size.0) in (omega (arith, past.0, ends), omega (arith, past.1, ends)))

pub returns-clause-joined : goal.returns-clause-joined
returns-clause-joined g c tells list items same joined =
    let s = g.F.Family.shape in
    let h = g.H.Hasher.hash in
    let digest = g.H.Digest.Spelled.spelling in
    let admits = g.H.Digest.Read.admits tt in
    let spelling = g.C.Item.Spelled.spelling in
    let old = g.V.Volume.state c.args.vol.now in
    let new = g.V.Volume.state c.append_to.new.vol in
    let j : Joined g.row.H-Digest.Denot g.row.C-Item-Cfg.Denot = record { items = g.C.Contiguous.view c.self.inside.journal; tree = c.self.inside.merkle; bagging = c.self.inside.hasher; failed = c.self.inside.failed } in
    let k : Joined g.row.H-Digest.Denot g.row.C-Item-Cfg.Denot = record { items = g.C.Contiguous.view c.in_ok-journal.journal; tree = c.in_ok-merkle.merkle; bagging = c.self.inside.hasher; failed = c.self.inside.failed } in
    let here = subst (λ (j : Joined g.row.H-Digest.Denot g.row.C-Item-Cfg.Denot). IsJoinedOf s h digest admits spelling list j (present old)) (sym c.self.view_is) joined in
    let elements : map spelling list ++ c.args.encodings.now ≡ map spelling (list ++ items) = ap (λ (r : List (List ℕ)). map spelling list ++ r) (sym same) ∙ sym (map-append spelling list items) in
    let sealed : IsSealedOf s h (leaves_of s h spelling (list ++ items)) c.in_ok-batch.batch =
    subst (λ (es : List (List ℕ)). IsSealedOf s h (leaf_digests s h es) c.in_ok-batch.batch) elements ((c.in_ok-batch.ensures {u = tt}).batch (map spelling list) here.tree.tree) in
    let digests = subst (AreDigests s h admits) (sym (leaves_rest s h spelling list (list ++ items))) (all_digests s h admits (map spelling (list ++ drop (length list) (list ++ items))) (λ m. g.met.H.Digest.Digest.allowed (h.digest m) (ap length (sym (g.met.H.Hasher.same_bytes (h.digest m))) ∙ g.met.H.Hasher.one_size m))) in
    let applied = c.in_ok-merkle.ensures {u = tt} in
    let grown = applied.full h (leaves_of s h spelling list) (leaves_of s h spelling (list ++ items)) (present old) here.tree sealed digests in
    let did = (c.in_ok-journal.ensures {u = tt}).appends items same in
    appended_joined s h digest admits spelling list (list ++ items) items j k old new here c.self.invariant (did.appended tells) did.made ((c.in_ok-journal.ensures {u = tt}).held tells c.requires.some) (did.log tells).others applied.beside (sym (drop-append_seam list items)) grown

pub returns-in_err-batch-clause-images : goal.returns-in_err-batch-clause-images
returns-in_err-batch-clause-images g c tells list items marks same joined =
    let off = subst (λ (k : Joined g.row.H-Digest.Denot g.row.C-Item-Cfg.Denot). k.items.name ≢ k.tree.log.name) c.self.view_is c.self.invariant.apart in
    none_stands g.F.Family.shape g.H.Hasher.hash g.H.Digest.Spelled.spelling g.C.Item.Spelled.spelling list items c.args.self off g.met.F.Family.lawful (g.V.Volume.state c.args.vol.now) marks joined.items

pub returns-in_err-merkle-clause-images : goal.returns-in_err-merkle-clause-images
returns-in_err-merkle-clause-images g c tells list items marks same joined =
    let off = subst (λ (k : Joined g.row.H-Digest.Denot g.row.C-Item-Cfg.Denot). k.items.name ≢ k.tree.log.name) c.self.view_is c.self.invariant.apart in
    none_stands g.F.Family.shape g.H.Hasher.hash g.H.Digest.Spelled.spelling g.C.Item.Spelled.spelling list items c.args.self off g.met.F.Family.lawful (g.V.Volume.state c.args.vol.now) marks joined.items

pub returns-in_err-journal-clause-images : goal.returns-in_err-journal-clause-images
returns-in_err-journal-clause-images g c tells list items marks same joined =
    let spelling = g.C.Item.Spelled.spelling in
    let a = g.V.Volume.state c.args.vol.now in
    let b = g.V.Volume.state c.append_to.new.vol in
    let off = subst (λ (k : Joined g.row.H-Digest.Denot g.row.C-Item-Cfg.Denot). k.items.name ≢ k.tree.log.name) c.self.view_is c.self.invariant.apart in
    let call = subst (λ (k : Joined g.row.H-Digest.Denot g.row.C-Item-Cfg.Denot). LogCall k.items.name (Grows (log_of k.items a) (map spelling items)) a b) c.self.view_is ((c.append_to.ensures.appends items same).log tells) in
    items_grow g.F.Family.shape g.H.Hasher.hash g.H.Digest.Spelled.spelling spelling list items c.args.self off g.met.F.Family.lawful marks a b joined.items call.images

pub returns-clause-images : goal.returns-clause-images
returns-clause-images g c tells list items marks same joined =
    let spelling = g.C.Item.Spelled.spelling in
    let a = g.V.Volume.state c.args.vol.now in
    let b = g.V.Volume.state c.append_to.new.vol in
    let off = subst (λ (k : Joined g.row.H-Digest.Denot g.row.C-Item-Cfg.Denot). k.items.name ≢ k.tree.log.name) c.self.view_is c.self.invariant.apart in
    let call = subst (λ (k : Joined g.row.H-Digest.Denot g.row.C-Item-Cfg.Denot). LogCall k.items.name (Grows (log_of k.items a) (map spelling items)) a b) c.self.view_is ((c.append_to.ensures.appends items same).log tells) in
    items_grow g.F.Family.shape g.H.Hasher.hash g.H.Digest.Spelled.spelling spelling list items c.args.self off g.met.F.Family.lawful marks a b joined.items call.images

pub returns-clause-seated : goal.returns-clause-seated
returns-clause-seated g c tells seated =
    let s = g.F.Family.shape in
    let old = g.V.Volume.state c.args.vol.now in
    let new = g.V.Volume.state c.append_to.new.vol in
    let here = subst (λ (k : Joined g.row.H-Digest.Denot g.row.C-Item-Cfg.Denot). IsSeated s k.tree (present old)) (sym c.self.view_is) seated in
    let applied = c.in_ok-merkle.ensures {u = tt} in
    let others = ((c.in_ok-journal.ensures {u = tt}).log tells).others in
    seated_later s c.self.inside.merkle c.in_ok-merkle.merkle old new applied.beside.log applied.longer.boundary
    (others.logs c.self.inside.merkle.log.name (λ e. c.self.invariant.apart (sym e))) here
