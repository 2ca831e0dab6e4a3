use Rattle.std.proofs.Common.{◌≡◌, ◌≢◌, ◌≤◌, Global, List, ◌++◌, length, map, drop, refl, sym, ◌∙◌, ap, subst, arith, Ok, Err}
use Rattle.std.specs.declared.rc.Rc.{Rc}
use Rattle.auth_journal.specs.declared.segment.Segment.{Segment}
use Rattle.journal_base.specs.View.{log_of}
use Rattle.std.specs.Prelude.{Result, IsErrOf}
use Rattle.std.specs.Result.{IsErrAnd}
use Rattle.tree_shape.specs.Shape.{Shape}
use Rattle.tree_store.specs.Stored.{size}
use Rattle.tree_store.specs.declared.error.Error as tree_error
use Rattle.tree_store.specs.declared.error.Error.TheVariants as tree
use Rattle.tree_core.specs.Applied.{EndsAtTree, Refused, RefusedByTree}
use Rattle.tree_core.specs.Batches.{Sealed, IsSealedOf, sealed_node}
use Rattle.tree_core.specs.Tree.{Tree, IsOf}
use Rattle.volume_base.specs.Log.{end_of}
use Rattle.volume_base.specs.Moments.{present}
use Rattle.volume_base.specs.declared.error.JournalError.TheVariants as journal
use Rattle.merkle_full.specs.Lists.{AreDigests}
use Rattle.auth_journal.specs.Appending.{Appends, unapplied}
use Rattle.auth_journal.specs.Batched.{SealedItems, joined_items}
use Rattle.auth_journal.specs.Joined.{Joined, IsJoinedOf, leaves_of}
use Rattle.auth_journal.specs.declared.error.Error.{Error}
use Rattle.auth_journal.specs.declared.error.Error.TheVariants as joined
use Rattle.auth_journal.specs.Errors.{from_journal, from_tree, IsLifted}
use Rattle.auth_journal.proofs.DurableLemmas.{err_and}
use Rattle.auth_journal.proofs.GrowLemmas.{items_grow, none_stands}
use Rattle.auth_journal.proofs.LowerLemmas.{journal_lifted, refused_lifted}
use Rattle.auth_journal.proofs.AppendLemmas.{appends_refused, appends_below, appends_ok}
use Rattle.auth_journal.proofs.BatchLemmas.{unapplied_from, unapplied_of}
use Rattle.auth_journal.proofs.ErrorLemmas.{answered_size, unwritten_below}
use Rattle.auth_journal.proofs.JoinedLemmas.{appended_joined}
use Rattle.auth_journal.proofs.LeafLemmas.{length-leaves_of, leaves_rest, all_digests}
use Rattle.auth_journal.proofs.journal.Journal.apply_batch.Goals as goal

pub returns-in_err-place-clause-appends : goal.returns-in_err-place-clause-appends
returns-in_err-place-clause-appends g c =
    let a = g.V.Volume.state c.args.vol.now in
    appends_refused g.V.Volume.tells g.C.Item.Spelled.spelling c.args.self.items (unapplied c.args.batch.now c.args.self.tree.tree.leaves) a a g.F.Family.shape c.mem.result.now c.batch.inside.nodes _ c.in_err-place.field-0.0 _ c.from_residual.ensures.1 (c.in_err-place.ensures {u = tt}).answer

pub returns-in_err-merkle-clause-appends : goal.returns-in_err-merkle-clause-appends
returns-in_err-merkle-clause-appends g c =
    let a = g.V.Volume.state c.args.vol.now in
    appends_refused g.V.Volume.tells g.C.Item.Spelled.spelling c.args.self.items (unapplied c.args.batch.now c.args.self.tree.tree.leaves) a a g.F.Family.shape c.self.inside.merkle.tree c.batch.inside.nodes _ c.in_err-merkle.field-0.0 _ c.from_residual-in_err-merkle.ensures.1 (c.in_err-merkle.ensures {u = tt}).answer

pub returns-in_err-journal-clause-overflow : goal.returns-in_err-journal-clause-overflow
returns-in_err-journal-clause-overflow g c e at =
    let f : Rc (Segment g.row.C-Item.Denot) Global → List g.row.C-Item.Denot = λ r. r.value in
    let state = g.V.Volume.state c.args.vol.now in
    let b : SealedItems g.row.H-Digest.Denot g.row.C-Item.Denot = record { nodes = c.batch.inside.nodes; bagging = c.batch.inside.bagging; items = map f c.batch.inside.items.items } in
    let tree : c.mem.result.now ≡ c.args.self.tree.tree = c.mem.ensures ∙ ap (λ (j : Joined g.row.H-Digest.Denot g.row.C-Item-Cfg.Denot). j.tree.tree) c.self.view_is in
    let un = unapplied_from g.F.Family.shape c.mem.result.now c.args.self.tree.tree b c.args.batch.now c.in_ok-place.place c.leaves-leaves.ensures.sound c.batch.invariant (c.in_ok-place.ensures {u = tt}).place tree c.batch.view_is in
    let items : joined_items (drop c.in_ok-place.place (map f c.deref.result.now)) ≡ unapplied c.args.batch.now c.args.self.tree.tree.leaves =
    ap (λ ls. joined_items (drop c.in_ok-place.place (map f ls))) c.deref.ensures.value ∙ un.items in
    let size = answered_size _ c.in_err-journal.field-0.0 e c.from_residual-in_err-journal.ensures.1 (c.in_err-journal.ensures {u = tt}).errors at in (
      size.1,
      λ told.
          let past = c.append_from.ensures.overflow told (c.in_err-journal.was {u = tt} ∙ ap Err size.0) in
          let ends = ap (λ (j : Joined g.row.H-Digest.Denot g.row.C-Item-Cfg.Denot). end_of (log_of j.items state)) c.self.view_is in
          omega (arith, past, ap length items, un.counted, ends),
    )

pub returns-in_err-journal-clause-beyond : goal.returns-in_err-journal-clause-beyond
returns-in_err-journal-clause-beyond g c e at told =
    let f : Rc (Segment g.row.C-Item.Denot) Global → List g.row.C-Item.Denot = λ r. r.value in
    let state = g.V.Volume.state c.args.vol.now in
    let b : SealedItems g.row.H-Digest.Denot g.row.C-Item.Denot = record { nodes = c.batch.inside.nodes; bagging = c.batch.inside.bagging; items = map f c.batch.inside.items.items } in
    let tree : c.mem.result.now ≡ c.args.self.tree.tree = c.mem.ensures ∙ ap (λ (j : Joined g.row.H-Digest.Denot g.row.C-Item-Cfg.Denot). j.tree.tree) c.self.view_is in
    let un = unapplied_from g.F.Family.shape c.mem.result.now c.args.self.tree.tree b c.args.batch.now c.in_ok-place.place c.leaves-leaves.ensures.sound c.batch.invariant (c.in_ok-place.ensures {u = tt}).place tree c.batch.view_is in
    let items : joined_items (drop c.in_ok-place.place (map f c.deref.result.now)) ≡ unapplied c.args.batch.now c.args.self.tree.tree.leaves =
    ap (λ ls. joined_items (drop c.in_ok-place.place (map f ls))) c.deref.ensures.value ∙ un.items in
    let size = answered_size _ c.in_err-journal.field-0.0 e c.from_residual-in_err-journal.ensures.1 (c.in_err-journal.ensures {u = tt}).errors at in
    let past = c.append_from.ensures.overflow told (c.in_err-journal.was {u = tt} ∙ ap Err size.0) in
    let ends = ap (λ (j : Joined g.row.H-Digest.Denot g.row.C-Item-Cfg.Denot). end_of (log_of j.items state)) c.self.view_is in
    omega (arith, past, ap length items, ends)

pub returns-in_err-journal-clause-unwritten : goal.returns-in_err-journal-clause-unwritten
returns-in_err-journal-clause-unwritten g c =
    unwritten_below (g.V.Volume.state c.args.vol.now) (g.V.Volume.state c.append_from.new.vol) c.append_from.result c.in_err-journal.field-0.0 _ (c.in_err-journal.was {u = tt}) c.from_residual-in_err-journal.ensures.1 c.append_from.ensures.refused

pub returns-in_err-journal-clause-appends : goal.returns-in_err-journal-clause-appends
returns-in_err-journal-clause-appends g c =
    let f : Rc (Segment g.row.C-Item.Denot) Global → List g.row.C-Item.Denot = λ r. r.value in
    let tells = g.V.Volume.tells in
    let spelling = g.C.Item.Spelled.spelling in
    let old = g.V.Volume.state c.args.vol.now in
    let new = g.V.Volume.state c.append_from.new.vol in
    let view = g.C.Contiguous.view c.self.inside.journal in
    let b : SealedItems g.row.H-Digest.Denot g.row.C-Item.Denot = record { nodes = c.batch.inside.nodes; bagging = c.batch.inside.bagging; items = map f c.batch.inside.items.items } in
    let tree : c.mem.result.now ≡ c.args.self.tree.tree = c.mem.ensures ∙ ap (λ (j : Joined g.row.H-Digest.Denot g.row.C-Item-Cfg.Denot). j.tree.tree) c.self.view_is in
    let un = unapplied_from g.F.Family.shape c.mem.result.now c.args.self.tree.tree b c.args.batch.now c.in_ok-place.place c.leaves-leaves.ensures.sound c.batch.invariant (c.in_ok-place.ensures {u = tt}).place tree c.batch.view_is in
    let left = unapplied c.args.batch.now c.args.self.tree.tree.leaves in
    let items : joined_items (drop c.in_ok-place.place (map f c.deref.result.now)) ≡ left = ap (λ ls. joined_items (drop c.in_ok-place.place (map f ls))) c.deref.ensures.value ∙ un.items in
    let did = subst (λ (xs : List g.row.C-Item.Denot). Appends tells journal.Volume spelling view (λ made. g.C.Contiguous.view made) xs old new c.append_from.result) items c.append_from.ensures.appends in
    let here = subst (λ (j : Joined g.row.H-Digest.Denot g.row.C-Item-Cfg.Denot). Appends tells journal.Volume spelling j.items (λ made. g.C.Contiguous.view made) left old new c.append_from.result) c.self.view_is did in
    appends_below tells spelling c.args.self.items left old new (λ made. g.C.Contiguous.view made) _ c.append_from.result c.in_err-journal.field-0.0 c.from_residual-in_err-journal.result (c.in_err-journal.was {u = tt}) c.from_residual-in_err-journal.ensures.1 here

pub returns-clause-appends : goal.returns-clause-appends
returns-clause-appends g c =
    let f : Rc (Segment g.row.C-Item.Denot) Global → List g.row.C-Item.Denot = λ r. r.value in
    let tells = g.V.Volume.tells in
    let spelling = g.C.Item.Spelled.spelling in
    let old = g.V.Volume.state c.args.vol.now in
    let new = g.V.Volume.state c.append_from.new.vol in
    let view = g.C.Contiguous.view c.self.inside.journal in
    let b : SealedItems g.row.H-Digest.Denot g.row.C-Item.Denot = record { nodes = c.batch.inside.nodes; bagging = c.batch.inside.bagging; items = map f c.batch.inside.items.items } in
    let tree : c.mem.result.now ≡ c.args.self.tree.tree = c.mem.ensures ∙ ap (λ (j : Joined g.row.H-Digest.Denot g.row.C-Item-Cfg.Denot). j.tree.tree) c.self.view_is in
    let un = unapplied_from g.F.Family.shape c.mem.result.now c.args.self.tree.tree b c.args.batch.now c.in_ok-place.place c.leaves-leaves.ensures.sound c.batch.invariant (c.in_ok-place.ensures {u = tt}).place tree c.batch.view_is in
    let left = unapplied c.args.batch.now c.args.self.tree.tree.leaves in
    let items : joined_items (drop c.in_ok-place.place (map f c.deref.result.now)) ≡ left = ap (λ ls. joined_items (drop c.in_ok-place.place (map f ls))) c.deref.ensures.value ∙ un.items in
    let did = subst (λ (xs : List g.row.C-Item.Denot). Appends tells journal.Volume spelling view (λ made. g.C.Contiguous.view made) xs old new (Ok c.in_ok-journal.journal)) items (c.in_ok-journal.ensures {u = tt}).appends in
    let here = subst (λ (j : Joined g.row.H-Digest.Denot g.row.C-Item-Cfg.Denot). Appends tells journal.Volume spelling j.items (λ made. g.C.Contiguous.view made) left old new (Ok c.in_ok-journal.journal)) c.self.view_is did in
    appends_ok tells spelling c.args.self.items left old new journal.Volume joined.Volume (λ made. g.C.Contiguous.view made) _ c.in_ok-journal.journal _ here refl

pub returns-clause-joined : goal.returns-clause-joined
returns-clause-joined g c tells list more joined of =
    let f : Rc (Segment g.row.C-Item.Denot) Global → List g.row.C-Item.Denot = λ r. r.value in
    let s = g.F.Family.shape in
    let h = g.H.Hasher.hash in
    let digest = g.H.Digest.Spelled.spelling in
    let admits = g.H.Digest.Read.admits tt in
    let spelling = g.C.Item.Spelled.spelling in
    let old = g.V.Volume.state c.args.vol.now in
    let new = g.V.Volume.state c.append_from.new.vol in
    let j : Joined g.row.H-Digest.Denot g.row.C-Item-Cfg.Denot = record { items = g.C.Contiguous.view c.self.inside.journal; tree = c.self.inside.merkle; bagging = c.self.inside.hasher; failed = c.self.inside.failed } in
    let k : Joined g.row.H-Digest.Denot g.row.C-Item-Cfg.Denot = record { items = g.C.Contiguous.view c.in_ok-journal.journal; tree = c.in_ok-merkle.merkle; bagging = c.self.inside.hasher; failed = c.self.inside.failed } in
    let here = subst (λ (j : Joined g.row.H-Digest.Denot g.row.C-Item-Cfg.Denot). IsJoinedOf s h digest admits spelling list j (present old)) (sym c.self.view_is) joined in
    let b : SealedItems g.row.H-Digest.Denot g.row.C-Item.Denot = record { nodes = c.batch.inside.nodes; bagging = c.batch.inside.bagging; items = map f c.batch.inside.items.items } in
    let tree : c.mem.result.now ≡ c.args.self.tree.tree = c.mem.ensures ∙ ap (λ (j : Joined g.row.H-Digest.Denot g.row.C-Item-Cfg.Denot). j.tree.tree) c.self.view_is in
    let un = unapplied_from s c.mem.result.now c.args.self.tree.tree b c.args.batch.now c.in_ok-place.place c.leaves-leaves.ensures.sound c.batch.invariant (c.in_ok-place.ensures {u = tt}).place tree c.batch.view_is in
    let leaves : c.args.self.tree.tree.leaves ≡ length list = joined.tree.tree.count ∙ length-leaves_of s h spelling list in
    let put = joined_items (drop c.in_ok-place.place (map f c.deref.result.now)) in
    let is : put ≡ drop (length list) more =
    ap (λ ls. joined_items (drop c.in_ok-place.place (map f ls))) c.deref.ensures.value ∙ un.items ∙ unapplied_of s h spelling more c.args.batch.now c.args.self.tree.tree.leaves of un.past ∙ ap (λ n. drop n more) leaves in
    let sealed = subst (λ (d : SealedItems g.row.H-Digest.Denot g.row.C-Item.Denot). IsSealedOf s h (leaves_of s h spelling more) d.nodes) (sym c.batch.view_is) of.nodes in
    let digests = subst (AreDigests s h admits) (sym (leaves_rest s h spelling list more)) (all_digests s h admits (map spelling (list ++ drop (length list) more)) (λ m. g.met.H.Digest.Digest.allowed (h.digest m) (ap length (sym (g.met.H.Hasher.same_bytes (h.digest m))) ∙ g.met.H.Hasher.one_size m))) in
    let applied = c.in_ok-merkle.ensures {u = tt} in
    let grown = applied.full h (leaves_of s h spelling list) (leaves_of s h spelling more) (present old) here.tree sealed digests in
    let did = (c.in_ok-journal.ensures {u = tt}).appends in
    subst (λ (xs : List g.row.C-Item.Denot). IsJoinedOf s h digest admits spelling (list ++ xs) k (present new)) is
    (appended_joined s h digest admits spelling list more put j k old new here c.self.invariant (did.appended tells) did.made (did.held tells (record { start_is = here.start_is; end_is = here.end_is })) (did.log tells).others applied.beside is grown)

pub returns-in_err-place-clause-images : goal.returns-in_err-place-clause-images
returns-in_err-place-clause-images g c tells list marks joined =
    let off = subst (λ (k : Joined g.row.H-Digest.Denot g.row.C-Item-Cfg.Denot). k.items.name ≢ k.tree.log.name) c.self.view_is c.self.invariant.apart in
    none_stands g.F.Family.shape g.H.Hasher.hash g.H.Digest.Spelled.spelling g.C.Item.Spelled.spelling list (unapplied c.args.batch.now c.args.self.tree.tree.leaves) c.args.self off g.met.F.Family.lawful (g.V.Volume.state c.args.vol.now) marks joined.items

pub returns-in_err-merkle-clause-images : goal.returns-in_err-merkle-clause-images
returns-in_err-merkle-clause-images g c tells list marks joined =
    let off = subst (λ (k : Joined g.row.H-Digest.Denot g.row.C-Item-Cfg.Denot). k.items.name ≢ k.tree.log.name) c.self.view_is c.self.invariant.apart in
    none_stands g.F.Family.shape g.H.Hasher.hash g.H.Digest.Spelled.spelling g.C.Item.Spelled.spelling list (unapplied c.args.batch.now c.args.self.tree.tree.leaves) c.args.self off g.met.F.Family.lawful (g.V.Volume.state c.args.vol.now) marks joined.items

pub returns-in_err-journal-clause-images : goal.returns-in_err-journal-clause-images
returns-in_err-journal-clause-images g c tells list marks joined =
    let off = subst (λ (k : Joined g.row.H-Digest.Denot g.row.C-Item-Cfg.Denot). k.items.name ≢ k.tree.log.name) c.self.view_is c.self.invariant.apart in
    items_grow g.F.Family.shape g.H.Hasher.hash g.H.Digest.Spelled.spelling g.C.Item.Spelled.spelling list (unapplied c.args.batch.now c.args.self.tree.tree.leaves) c.args.self off g.met.F.Family.lawful marks (g.V.Volume.state c.args.vol.now) (g.V.Volume.state c.append_from.new.vol) joined.items
    ((returns-in_err-journal-clause-appends g c).log tells).images

pub returns-clause-images : goal.returns-clause-images
returns-clause-images g c tells list marks joined =
    let off = subst (λ (k : Joined g.row.H-Digest.Denot g.row.C-Item-Cfg.Denot). k.items.name ≢ k.tree.log.name) c.self.view_is c.self.invariant.apart in
    items_grow g.F.Family.shape g.H.Hasher.hash g.H.Digest.Spelled.spelling g.C.Item.Spelled.spelling list (unapplied c.args.batch.now c.args.self.tree.tree.leaves) c.args.self off g.met.F.Family.lawful marks (g.V.Volume.state c.args.vol.now) (g.V.Volume.state c.append_from.new.vol) joined.items
    ((returns-clause-appends g c).log tells).images

pub returns-in_err-place-clause-lifted : goal.returns-in_err-place-clause-lifted
returns-in_err-place-clause-lifted g c =
    let e = c.in_err-place.field-0.0 in
    err_and _ (from_tree e) IsLifted c.from_residual.ensures.1 (refused_lifted g.F.Family.shape c.mem.result.now c.batch.inside.nodes e (c.in_err-place.ensures {u = tt}).answer)

pub returns-in_err-merkle-clause-lifted : goal.returns-in_err-merkle-clause-lifted
returns-in_err-merkle-clause-lifted g c =
    let e = c.in_err-merkle.field-0.0 in
    err_and _ (from_tree e) IsLifted c.from_residual-in_err-merkle.ensures.1 (refused_lifted g.F.Family.shape c.self.inside.merkle.tree c.batch.inside.nodes e (c.in_err-merkle.ensures {u = tt}).answer)

pub returns-in_err-journal-clause-lifted : goal.returns-in_err-journal-clause-lifted
returns-in_err-journal-clause-lifted g c =
    let e = c.in_err-journal.field-0.0 in
    err_and _ (from_journal e) IsLifted c.from_residual-in_err-journal.ensures.1 (journal_lifted g.row.F.Denot e)

-- ---- what the tree refuses

refusal_is : {F D T : Type 0} (s : Shape) (t : Tree D) (b : Sealed D) (e d : tree_error.Error F) (result : Result T (Error F)) → RefusedByTree s t b e → IsErrAnd result (λ x. x ≡ from_tree e)
    → IsErrOf result (joined.Merkle d) → e ≡ d
refusal_is s t b e d (Ok x) why is at = absurd is
refusal_is {F} s t b e d (Err x) why is at =
    let here : x ≡ joined.Merkle d = cc in
    by e why (sym is ∙ here)
  where
    by : (r : tree_error.Error F) → RefusedByTree s t b r → from_tree r ≡ joined.Merkle d → r ≡ d
    by tree.StaleBatch told same = cc
    by (tree.AncestorDropped m n) told same = cc
    by tree.Memory told same = absurd cc
    by r told same = absurd told

pub returns-in_err-merkle-clause-refused : goal.returns-in_err-merkle-clause-refused
returns-in_err-merkle-clause-refused g c e at =
    let s = g.F.Family.shape in
    let why = (c.in_err-merkle.ensures {u = tt}).answer in
    let same = refusal_is s c.self.inside.merkle.tree c.batch.inside.nodes c.in_err-merkle.field-0.0 e _ why c.from_residual-in_err-merkle.ensures.1 at in
    let here = subst (λ (x : tree_error.Error g.row.F.Denot). RefusedByTree s c.self.inside.merkle.tree c.batch.inside.nodes x) same why in
    let there = subst (λ (j : Joined g.row.H-Digest.Denot g.row.C-Item-Cfg.Denot). RefusedByTree s j.tree.tree c.batch.inside.nodes e) c.self.view_is here in
    (subst (λ (b : SealedItems g.row.H-Digest.Denot g.row.C-Item.Denot). RefusedByTree s c.args.self.tree.tree b.nodes e) c.batch.view_is there, refl)

pub returns-in_err-merkle-clause-misfit : goal.returns-in_err-merkle-clause-misfit
returns-in_err-merkle-clause-misfit g c e at all of =
    let s = g.F.Family.shape in
    let h = g.H.Hasher.hash in
    let same = refusal_is s c.self.inside.merkle.tree c.batch.inside.nodes c.in_err-merkle.field-0.0 e _ (c.in_err-merkle.ensures {u = tt}).answer c.from_residual-in_err-merkle.ensures.1 at in
    let tree = subst (λ (j : Joined g.row.H-Digest.Denot g.row.C-Item-Cfg.Denot). IsOf s h all j.tree.tree) (sym c.self.view_is) of in
    let here = subst (λ (x : tree_error.Error g.row.F.Denot). Refused s h all c.self.inside.merkle.tree.leaves c.batch.inside.nodes x) same ((c.in_err-merkle.ensures {u = tt}).refused h all tree) in
    let there = subst (λ (j : Joined g.row.H-Digest.Denot g.row.C-Item-Cfg.Denot). Refused s h all j.tree.tree.leaves c.batch.inside.nodes e) c.self.view_is here in
    subst (λ (b : SealedItems g.row.H-Digest.Denot g.row.C-Item.Denot). Refused s h all c.args.self.tree.tree.leaves b.nodes e) c.batch.view_is there

pub returns-in_err-place-clause-misfit : goal.returns-in_err-place-clause-misfit
returns-in_err-place-clause-misfit g c e at all of =
    let s = g.F.Family.shape in
    let h = g.H.Hasher.hash in
    let mem : c.mem.result.now ≡ c.args.self.tree.tree = c.mem.ensures ∙ ap (λ (j : Joined g.row.H-Digest.Denot g.row.C-Item-Cfg.Denot). j.tree.tree) c.self.view_is in
    let same = refusal_is s c.mem.result.now c.batch.inside.nodes c.in_err-place.field-0.0 e _ (c.in_err-place.ensures {u = tt}).answer c.from_residual.ensures.1 at in
    let tree = subst (IsOf s h all) (sym mem) of in
    let here = subst (λ (x : tree_error.Error g.row.F.Denot). Refused s h all c.mem.result.now.leaves c.batch.inside.nodes x) same ((c.in_err-place.ensures {u = tt}).refused h all tree) in
    let there = subst (λ (t : Tree g.row.H-Digest.Denot). Refused s h all t.leaves c.batch.inside.nodes e) mem here in
    subst (λ (b : SealedItems g.row.H-Digest.Denot g.row.C-Item.Denot). Refused s h all c.args.self.tree.tree.leaves b.nodes e) c.batch.view_is there

-- ---- the new nodes

pub returns-clause-since : goal.returns-clause-since
returns-clause-since g c p le =
    let s = g.F.Family.shape in
    let low = subst (λ (j : Joined g.row.H-Digest.Denot g.row.C-Item-Cfg.Denot). size s j.tree.tree.leaves ≤ p) (sym c.self.view_is) le in
    (c.in_ok-merkle.ensures {u = tt}).since p low ∙ ap (λ (b : SealedItems g.row.H-Digest.Denot g.row.C-Item.Denot). sealed_node s b.nodes p) c.batch.view_is

pub returns-clause-behind : goal.returns-clause-behind
returns-clause-behind g c =
    subst (λ (b : SealedItems g.row.H-Digest.Denot g.row.C-Item.Denot). EndsAtTree g.F.Family.shape b.nodes c.in_ok-merkle.merkle.tree) c.batch.view_is (c.in_ok-merkle.ensures {u = tt}).behind
