use Rattle.std.proofs.Common.{◌≡◌, ◌≢◌, inl, length, min, ℕ, refl, sym, ◌∙◌, ap, subst, arith, Ok, Err}
use Rattle.std.specs.Prelude.{Result}
use Rattle.volume_base.specs.Log.{Log, Advances, end_of, pruned_to}
use Rattle.volume_base.specs.Names.{log_and_map}
use Rattle.volume_base.specs.Volume.{MapStays}
use Rattle.volume_base.proofs.CallLemmas.{names_call_joins, names_call_none}
use Rattle.volume_base.proofs.JoinLemmas.{changes_of_writes, changes_joins, went_of_writes, went_joins, writes_joins}
use Rattle.volume_base.proofs.NameLemmas.{durable_after}
use Rattle.journal_base.specs.Blobs.{blob_start}
use Rattle.journal_base.specs.View.{View, log_of, prune_point, IsDurable}
use Rattle.journal_base.specs.Items.{items_of}
use Rattle.tree_shape.specs.Pins.{pins}
use Rattle.tree_store.specs.declared.error.Error.TheVariants as tree
use Rattle.auth_journal.specs.Durable.{IsFromTree, IsJournalUnpruned}
use Rattle.auth_journal.specs.Errors.{IsOutside}
use Rattle.auth_journal.specs.Joined.{Joined, IsSoundJoin, leaves_of}
use Rattle.auth_journal.specs.Standing.{all_synced, pruned_below, logs_of, names_of}
use Rattle.auth_journal.specs.declared.error.Error.{Error}
use Rattle.auth_journal.specs.declared.error.Error.TheVariants as joined
use Rattle.auth_journal.proofs.DurableLemmas.{err_and, err_not_ok, fault_below, images_none}
use Rattle.auth_journal.proofs.PruneLemmas.{items_advance, images_pruned, images_failed, images_empty, point_below, items_call, tree_call, pruned_moved, map_low, nodes_stay, cut_full, cut_start, held_pruned, joined_pruned, keeps_behind, changes_done, nodes_pruned, pins_pruned, others_pruned, unpruned_tree, outside_from_tree}
use Rattle.auth_journal.proofs.ReadingLemmas.{run_end}
use Rattle.auth_journal.proofs.StandingLemmas.{logs_items, names_items, names_logs, names_tree_and_map}
use Rattle.auth_journal.proofs.journal.Journal.prune.Goals as goal

pub returns-then-end-eq0-clause-images : goal.returns-then-end-eq0-clause-images
returns-then-end-eq0-clause-images g c tells list marks joined =
    let s = g.F.Family.shape in
    let h = g.H.Hasher.hash in
    let digest = g.H.Digest.Spelled.spelling in
    let admits = g.H.Digest.Read.admits tt in
    let spelling = g.C.Item.Spelled.spelling in
    let j = c.args.self in
    let off = subst (λ (k : Joined g.row.H-Digest.Denot g.row.C-Item-Cfg.Denot). k.items.name ≢ k.tree.log.name) c.self.view_is c.self.invariant.apart in
    let a = g.V.Volume.state c.args.vol.now in
    let none : length list ≡ 0 = omega (arith, run_end spelling list (log_of j.items a) joined.items, joined.end_is, c.if-end-eq0.true, c.bounds-start.ensures.end, ap (λ (k : Joined g.row.H-Digest.Denot g.row.C-Item-Cfg.Denot). k.items.end) c.self.view_is) in
    images_empty s h digest spelling list j off marks c.args.loc a _ none

pub returns-in_err-synced-clause-images : goal.returns-in_err-synced-clause-images
returns-in_err-synced-clause-images g c tells list marks joined =
    let s = g.F.Family.shape in
    let h = g.H.Hasher.hash in
    let digest = g.H.Digest.Spelled.spelling in
    let admits = g.H.Digest.Read.admits tt in
    let spelling = g.C.Item.Spelled.spelling in
    let j = c.args.self in
    let off = subst (λ (k : Joined g.row.H-Digest.Denot g.row.C-Item-Cfg.Denot). k.items.name ≢ k.tree.log.name) c.self.view_is c.self.invariant.apart in
    let a = g.V.Volume.state c.args.vol.now in
    let b = g.V.Volume.state c.sync.new.vol in
    let below : Result (Joined g.row.H-Digest.Denot g.row.C-Item-Cfg.Denot) (Error g.row.F.Denot) = Err c.in_err-synced.field-0.0 in
    images_failed s h digest spelling list j off marks c.args.loc a b below c.from_residual.result _ c.from_residual.ensures.1 tt (c.in_err-synced.ensures.images tells list marks joined)

pub returns-in_err-cut-clause-names : goal.returns-in_err-cut-clause-names
returns-in_err-cut-clause-names g c tells =
    let j = c.args.self in
    let k = c.in_ok-synced.synced in
    let a = g.V.Volume.state c.args.vol.now in
    let b = g.V.Volume.state c.sync.new.vol in
    let d = g.V.Volume.state c.prune_items.new.vol in
    let synced = c.in_ok-synced.ensures {u = tt} in
    let point = prune_point k.items c.args.loc b in
    names_call_joins (names_of j) a b d (names_logs j a b (synced.names tells)) (names_items j b d (Advances point) (items_call j k k k synced.same (record { items = refl; tree = refl; bagging = refl; failed = refl }) (Advances point) b d (c.in_err-cut.ensures.log tells)))

pub returns-in_err-cut-clause-images : goal.returns-in_err-cut-clause-images
returns-in_err-cut-clause-images g c tells list marks joined =
    let s = g.F.Family.shape in
    let h = g.H.Hasher.hash in
    let digest = g.H.Digest.Spelled.spelling in
    let admits = g.H.Digest.Read.admits tt in
    let spelling = g.C.Item.Spelled.spelling in
    let j = c.args.self in
    let off = subst (λ (k : Joined g.row.H-Digest.Denot g.row.C-Item-Cfg.Denot). k.items.name ≢ k.tree.log.name) c.self.view_is c.self.invariant.apart in
    let a = g.V.Volume.state c.args.vol.now in
    let b = g.V.Volume.state c.sync.new.vol in
    let d = g.V.Volume.state c.prune_items.new.vol in
    let k = c.in_ok-synced.synced in
    let synced = c.in_ok-synced.ensures {u = tt} in
    let point = prune_point k.items c.args.loc b in
    let moves = (items_call j k k k synced.same (record { items = refl; tree = refl; bagging = refl; failed = refl }) (Advances point) b d (c.in_err-cut.ensures.log tells)).images in
    images_pruned s h digest spelling list j off (Error g.row.F.Denot) marks c.args.loc a b d k c.from_residual-in_err-cut.result (synced.images tells list marks joined)
    (λ has. items_advance s h digest spelling list j off (all_synced (length list) marks) point c.args.loc b d (point_below k.items c.args.loc b) moves has)

pub returns-in_err-pruned-clause-names : goal.returns-in_err-pruned-clause-names
returns-in_err-pruned-clause-names g c tells =
    let j = c.args.self in
    let a = g.V.Volume.state c.args.vol.now in
    let b = g.V.Volume.state c.sync.new.vol in
    let d = g.V.Volume.state c.prune_items.new.vol in
    let e = g.V.Volume.state c.prune_tree.new.vol in
    let k = c.in_ok-synced.synced in
    let l = c.in_ok-cut.cut in
    let synced = c.in_ok-synced.ensures {u = tt} in
    let did = c.in_ok-cut.ensures {u = tt} in
    let point = prune_point k.items c.args.loc b in
    names_call_joins (names_of j) a d e (names_call_joins (names_of j) a b d (names_logs j a b (synced.names tells)) (names_items j b d (Advances point) (items_call j k l l synced.same did.cut (Advances point) b d (did.log tells))))
    (names_tree_and_map j d e (tree_call j k l l synced.same did.cut d e (c.in_err-pruned.ensures.names tells)))

pub returns-in_err-pruned-clause-images : goal.returns-in_err-pruned-clause-images
returns-in_err-pruned-clause-images g c tells list marks joined =
    let s = g.F.Family.shape in
    let h = g.H.Hasher.hash in
    let digest = g.H.Digest.Spelled.spelling in
    let admits = g.H.Digest.Read.admits tt in
    let spelling = g.C.Item.Spelled.spelling in
    let j = c.args.self in
    let off = subst (λ (k : Joined g.row.H-Digest.Denot g.row.C-Item-Cfg.Denot). k.items.name ≢ k.tree.log.name) c.self.view_is c.self.invariant.apart in
    let a = g.V.Volume.state c.args.vol.now in
    let b = g.V.Volume.state c.sync.new.vol in
    let d = g.V.Volume.state c.prune_items.new.vol in
    let e = g.V.Volume.state c.prune_tree.new.vol in
    let k = c.in_ok-synced.synced in
    let l = c.in_ok-cut.cut in
    let synced = c.in_ok-synced.ensures {u = tt} in
    let did = c.in_ok-cut.ensures {u = tt} in
    let was = synced.joined tells list joined in
    let full = cut_full j k l l synced.same did.cut s h digest admits spelling list c.args.loc b d d was (did.pruned tells) (did.log tells) (did.held tells) did.sound.apart in
    images_pruned s h digest spelling list j off (Error g.row.F.Denot) marks c.args.loc a b e k c.from_residual-in_err-pruned.result (synced.images tells list marks joined)
    (λ has. keeps_behind j k l l synced.same did.cut s h digest admits spelling list c.args.loc b d e was (did.pruned tells) (did.log tells) (did.held tells) did.sound.apart off marks
    (g.met.V.Volume.contents_left c.prune_items.new.vol tells) (did.durable tells) (c.in_err-pruned.ensures.names tells) (λ top stand. c.in_err-pruned.ensures.images tells (leaves_of s h spelling list) (length list) top full stand) has)

pub returns-clause-names : goal.returns-clause-names
returns-clause-names g c tells =
    let j = c.args.self in
    let a = g.V.Volume.state c.args.vol.now in
    let b = g.V.Volume.state c.sync.new.vol in
    let d = g.V.Volume.state c.prune_items.new.vol in
    let e = g.V.Volume.state c.prune_tree.new.vol in
    let k = c.in_ok-synced.synced in
    let l = c.in_ok-cut.cut in
    let synced = c.in_ok-synced.ensures {u = tt} in
    let did = c.in_ok-cut.ensures {u = tt} in
    let point = prune_point k.items c.args.loc b in
    names_call_joins (names_of j) a d e (names_call_joins (names_of j) a b d (names_logs j a b (synced.names tells)) (names_items j b d (Advances point) (items_call j k l l synced.same did.cut (Advances point) b d (did.log tells))))
    (names_tree_and_map j d e (tree_call j k l l synced.same did.cut d e ((c.in_ok-pruned.ensures {u = tt}).names tells)))

pub returns-clause-images : goal.returns-clause-images
returns-clause-images g c tells list marks joined =
    let s = g.F.Family.shape in
    let h = g.H.Hasher.hash in
    let digest = g.H.Digest.Spelled.spelling in
    let admits = g.H.Digest.Read.admits tt in
    let spelling = g.C.Item.Spelled.spelling in
    let j = c.args.self in
    let off = subst (λ (k : Joined g.row.H-Digest.Denot g.row.C-Item-Cfg.Denot). k.items.name ≢ k.tree.log.name) c.self.view_is c.self.invariant.apart in
    let a = g.V.Volume.state c.args.vol.now in
    let b = g.V.Volume.state c.sync.new.vol in
    let d = g.V.Volume.state c.prune_items.new.vol in
    let e = g.V.Volume.state c.prune_tree.new.vol in
    let k = c.in_ok-synced.synced in
    let l = c.in_ok-cut.cut in
    let synced = c.in_ok-synced.ensures {u = tt} in
    let did = c.in_ok-cut.ensures {u = tt} in
    let made : (Joined g.row.H-Digest.Denot g.row.C-Item-Cfg.Denot) × ℕ = (c.in_ok-pruned.pruned, c.new-2.result) in
    let result : Result ((Joined g.row.H-Digest.Denot g.row.C-Item-Cfg.Denot) × ℕ) (Error g.row.F.Denot) = Ok made in
    let was = synced.joined tells list joined in
    let full = cut_full j k l l synced.same did.cut s h digest admits spelling list c.args.loc b d d was (did.pruned tells) (did.log tells) (did.held tells) did.sound.apart in
    images_pruned s h digest spelling list j off (Error g.row.F.Denot) marks c.args.loc a b e k result (synced.images tells list marks joined)
    (λ has. keeps_behind j k l l synced.same did.cut s h digest admits spelling list c.args.loc b d e was (did.pruned tells) (did.log tells) (did.held tells) did.sound.apart off marks
    (g.met.V.Volume.contents_left c.prune_items.new.vol tells) (did.durable tells) ((c.in_ok-pruned.ensures {u = tt}).names tells) (λ top stand. (c.in_ok-pruned.ensures {u = tt}).images tells (leaves_of s h spelling list) (length list) top full stand) has)

pub returns-in_err-pruned-clause-outside : goal.returns-in_err-pruned-clause-outside
returns-in_err-pruned-clause-outside g c tells list joined =
    let s = g.F.Family.shape in
    let h = g.H.Hasher.hash in
    let digest = g.H.Digest.Spelled.spelling in
    let admits = g.H.Digest.Read.admits tt in
    let spelling = g.C.Item.Spelled.spelling in
    let j = c.args.self in
    let a = g.V.Volume.state c.args.vol.now in
    let b = g.V.Volume.state c.sync.new.vol in
    let d = g.V.Volume.state c.prune_items.new.vol in
    let k = c.in_ok-synced.synced in
    let l = c.in_ok-cut.cut in
    let synced = c.in_ok-synced.ensures {u = tt} in
    let did = c.in_ok-cut.ensures {u = tt} in
    let was = synced.joined tells list joined in
    let full = cut_full j k l l synced.same did.cut s h digest admits spelling list c.args.loc b d d was (did.pruned tells) (did.log tells) (did.held tells) did.sound.apart in
    let low = cut_start j k l l synced.same did.cut s h digest admits spelling list c.args.loc b d d was (did.pruned tells) (did.log tells) (did.held tells) did.sound.apart in
    err_and _ c.in_err-pruned.field-0.0 IsOutside c.from_residual-in_err-pruned.ensures.1 (c.in_err-pruned.ensures.outside tells (leaves_of s h spelling list) full low)

pub returns-clause-joined : goal.returns-clause-joined
returns-clause-joined g c tells list joined =
    let s = g.F.Family.shape in
    let h = g.H.Hasher.hash in
    let digest = g.H.Digest.Spelled.spelling in
    let admits = g.H.Digest.Read.admits tt in
    let spelling = g.C.Item.Spelled.spelling in
    let j = c.args.self in
    let a = g.V.Volume.state c.args.vol.now in
    let b = g.V.Volume.state c.sync.new.vol in
    let d = g.V.Volume.state c.prune_items.new.vol in
    let e = g.V.Volume.state c.prune_tree.new.vol in
    let k = c.in_ok-synced.synced in
    let l = c.in_ok-cut.cut in
    let synced = c.in_ok-synced.ensures {u = tt} in
    let did = c.in_ok-cut.ensures {u = tt} in
    let m = c.in_ok-pruned.pruned in
    let last = c.in_ok-pruned.ensures {u = tt} in
    let was = synced.joined tells list joined in
    let full = cut_full j k l m synced.same did.cut s h digest admits spelling list c.args.loc b d e was (did.pruned tells) (did.log tells) (did.held tells) did.sound.apart in
    joined_pruned j k l m synced.same did.cut s h digest admits spelling list c.args.loc b d e was (did.pruned tells) (did.log tells) (did.held tells) did.sound.apart last.items (last.names tells) (last.full tells (leaves_of s h spelling list) full)

pub returns-clause-moved : goal.returns-clause-moved
returns-clause-moved g c some = pruned_moved c.args.self c.in_ok-synced.synced c.in_ok-cut.cut c.in_ok-pruned.pruned (c.in_ok-synced.ensures {u = tt}).same (c.in_ok-cut.ensures {u = tt}).cut (c.in_ok-pruned.ensures {u = tt}).moved

pub returns-clause-pruned : goal.returns-clause-pruned
returns-clause-pruned g c some tells =
    let j = c.args.self in
    let a = g.V.Volume.state c.args.vol.now in
    let b = g.V.Volume.state c.sync.new.vol in
    let d = g.V.Volume.state c.prune_items.new.vol in
    let e = g.V.Volume.state c.prune_tree.new.vol in
    let k = c.in_ok-synced.synced in
    let l = c.in_ok-cut.cut in
    let synced = c.in_ok-synced.ensures {u = tt} in
    let did = c.in_ok-cut.ensures {u = tt} in
    let last = c.in_ok-pruned.ensures {u = tt} in
    let off = subst (λ (i : Joined g.row.H-Digest.Denot g.row.C-Item-Cfg.Denot). i.items.name ≢ i.tree.log.name) c.self.view_is c.self.invariant.apart in
    let over = (tree_call j k l l synced.same did.cut d e (last.names tells)).others.logs j.items.name (off, tt) in
    let there = subst (λ v. log_of v d ≡ pruned_to (log_of v b) (prune_point v c.args.loc b)) synced.same.items (did.pruned tells) in
    over ∙ there ∙ ap (λ (log : Log). pruned_to log (blob_start j.items.blob (min c.args.loc (end_of log)))) (synced.contents tells)

pub returns-clause-durable : goal.returns-clause-durable
returns-clause-durable g c some tells =
    let j = c.args.self in
    let a = g.V.Volume.state c.args.vol.now in
    let b = g.V.Volume.state c.sync.new.vol in
    let d = g.V.Volume.state c.prune_items.new.vol in
    let e = g.V.Volume.state c.prune_tree.new.vol in
    let k = c.in_ok-synced.synced in
    let l = c.in_ok-cut.cut in
    let synced = c.in_ok-synced.ensures {u = tt} in
    let did = c.in_ok-cut.ensures {u = tt} in
    let last = c.in_ok-pruned.ensures {u = tt} in
    let off = subst (λ (i : Joined g.row.H-Digest.Denot g.row.C-Item-Cfg.Denot). i.items.name ≢ i.tree.log.name) c.self.view_is c.self.invariant.apart in
    let call = tree_call j k l l synced.same did.cut d e (last.names tells) in
    durable_after (log_and_map j.tree.log.name j.tree.metadata) j.items.name d e call.images (off, tt) (call.others.logs j.items.name (off, tt))
    (subst (λ v. IsDurable v d) synced.same.items (did.durable tells))

pub returns-in_err-cut-clause-changes : goal.returns-in_err-cut-clause-changes
returns-in_err-cut-clause-changes g c sound =
    let a = g.V.Volume.state c.args.vol.now in
    let b = g.V.Volume.state c.sync.new.vol in
    let d = g.V.Volume.state c.prune_items.new.vol in
    let synced = c.in_ok-synced.ensures {u = tt} in
    let error = c.in_err-cut.field-0.0 in
    let result = c.from_residual-in_err-cut.result in
    let is = c.from_residual-in_err-cut.ensures.1 in
    changes_of_writes g.V.Volume.tells joined.Volume a d result
    (writes_joins g.V.Volume.tells joined.Volume joined.Volume joined.Volume a b d _ (Err error) result (synced.writes sound) (c.in_err-cut.ensures.writes (synced.same.failed ∙ sound))
    (fault_below (λ x. x) joined.Volume joined.Volume result error (λ d same. same) is) (λ kept. err_not_ok result _ _ is))

pub returns-in_err-pruned-clause-changes : goal.returns-in_err-pruned-clause-changes
returns-in_err-pruned-clause-changes g c sound =
    let a = g.V.Volume.state c.args.vol.now in
    let b = g.V.Volume.state c.sync.new.vol in
    let d = g.V.Volume.state c.prune_items.new.vol in
    let e = g.V.Volume.state c.prune_tree.new.vol in
    let tells = g.V.Volume.tells in
    let synced = c.in_ok-synced.ensures {u = tt} in
    let did = c.in_ok-cut.ensures {u = tt} in
    let failed = synced.same.failed ∙ sound in
    let error = c.in_err-pruned.field-0.0 in
    let result = c.from_residual-in_err-pruned.result in
    let is = c.from_residual-in_err-pruned.ensures.1 in
    changes_joins tells joined.Volume joined.Volume a d e (Err error) result (went_joins tells a b d (went_of_writes tells joined.Volume a b _ (synced.writes sound)) (went_of_writes tells joined.Volume b d _ (did.writes failed)))
    (c.in_err-pruned.ensures.changes (did.cut.failed ∙ failed)) (fault_below (λ x. x) joined.Volume joined.Volume result error (λ d same. same) is) (err_not_ok result _ _ is)

pub returns-clause-changes : goal.returns-clause-changes
returns-clause-changes g c sound =
    let a = g.V.Volume.state c.args.vol.now in
    let b = g.V.Volume.state c.sync.new.vol in
    let d = g.V.Volume.state c.prune_items.new.vol in
    let e = g.V.Volume.state c.prune_tree.new.vol in
    let tells = g.V.Volume.tells in
    let synced = c.in_ok-synced.ensures {u = tt} in
    let did = c.in_ok-cut.ensures {u = tt} in
    let failed = synced.same.failed ∙ sound in
    changes_done tells joined.Volume joined.Volume a d e c.in_ok-pruned.pruned _ (went_joins tells a b d (went_of_writes tells joined.Volume a b _ (synced.writes sound)) (went_of_writes tells joined.Volume b d _ (did.writes failed)))
    ((c.in_ok-pruned.ensures {u = tt}).changes (did.cut.failed ∙ failed))

pub returns-then-self-clause-images : goal.returns-then-self-clause-images
returns-then-self-clause-images g c tells list marks was =
    let a = g.V.Volume.state c.args.vol.now in
    let result : Result ((Joined g.row.H-Digest.Denot g.row.C-Item-Cfg.Denot) × ℕ) (Error g.row.F.Denot) = Err joined.Volume in
    let sound = subst (λ (k : Joined g.row.H-Digest.Denot g.row.C-Item-Cfg.Denot). IsSoundJoin k) c.self.view_is c.self.invariant in
    images_none g.F.Family.shape g.H.Hasher.hash g.H.Digest.Spelled.spelling g.C.Item.Spelled.spelling list c.args.self sound marks (pruned_below c.args.loc (all_synced (length list) marks)) a result tt

pub returns-clause-held : goal.returns-clause-held
returns-clause-held g c some tells =
    let d = g.V.Volume.state c.prune_items.new.vol in
    let e = g.V.Volume.state c.prune_tree.new.vol in
    let synced = c.in_ok-synced.ensures {u = tt} in
    let did = c.in_ok-cut.ensures {u = tt} in
    let last = c.in_ok-pruned.ensures {u = tt} in
    held_pruned c.args.self c.in_ok-synced.synced c.in_ok-cut.cut c.in_ok-pruned.pruned synced.same did.cut d e did.sound.apart (did.held tells) last.items (last.names tells)

pub returns-then-self-clause-errors : goal.returns-then-self-clause-errors
returns-then-self-clause-errors g c = (tree.Volume, refl, inl (inl tt))

pub returns-in_err-synced-clause-errors : goal.returns-in_err-synced-clause-errors
returns-in_err-synced-clause-errors g c =
    let b = g.V.Volume.state c.sync.new.vol in
    let j = c.args.self in
    let e = c.in_err-synced.field-0.0 in
    let why = c.in_err-synced.ensures.errors in
    let P = IsJournalUnpruned {F = g.row.F.Denot} g.F.Family.shape g.V.Volume.tells j.tree (items_of g.H.Digest.Spelled.spelling g.H.Digest.Read.admits j.tree.log b) (log_of j.items b).start in
    err_and _ e (IsFromTree P) c.from_residual.ensures.1 (why.0, why.1, inl why.2)

pub returns-in_err-cut-clause-errors : goal.returns-in_err-cut-clause-errors
returns-in_err-cut-clause-errors g c =
    let d = g.V.Volume.state c.prune_items.new.vol in
    let j = c.args.self in
    let e = c.in_err-cut.field-0.0 in
    let P = IsJournalUnpruned {F = g.row.F.Denot} g.F.Family.shape g.V.Volume.tells j.tree (items_of g.H.Digest.Spelled.spelling g.H.Digest.Read.admits j.tree.log d) (log_of j.items d).start in
    err_and _ e (IsFromTree P) c.from_residual-in_err-cut.ensures.1 (outside_from_tree P e c.in_err-cut.ensures.outside (inl (inl tt)) (inl (inl tt)))

pub returns-in_err-pruned-clause-errors : goal.returns-in_err-pruned-clause-errors
returns-in_err-pruned-clause-errors g c =
    let s = g.F.Family.shape in
    let tells = g.V.Volume.tells in
    let digest = g.H.Digest.Spelled.spelling in
    let admits = g.H.Digest.Read.admits in
    let d = g.V.Volume.state c.prune_items.new.vol in
    let f = g.V.Volume.state c.prune_tree.new.vol in
    let j = c.args.self in
    let k = c.in_ok-synced.synced in
    let l = c.in_ok-cut.cut in
    let did = c.in_ok-cut.ensures {u = tt} in
    let e = c.in_err-pruned.field-0.0 in
    let P = IsJournalUnpruned {F = g.row.F.Denot} s tells j.tree (items_of digest admits j.tree.log f) (log_of j.items f).start in
    err_and _ e (IsFromTree P) c.from_residual-in_err-pruned.ensures.1
    (unpruned_tree j k l l (c.in_ok-synced.ensures {u = tt}).same did.cut s tells digest admits d f did.sound.apart did.held c.in_err-pruned.ensures.names e c.in_err-pruned.ensures.errors)

pub returns-clause-nodes : goal.returns-clause-nodes
returns-clause-nodes g c above tells list joined =
    let s = g.F.Family.shape in
    let h = g.H.Hasher.hash in
    let digest = g.H.Digest.Spelled.spelling in
    let admits = g.H.Digest.Read.admits tt in
    let spelling = g.C.Item.Spelled.spelling in
    let j = c.args.self in
    let b = g.V.Volume.state c.sync.new.vol in
    let d = g.V.Volume.state c.prune_items.new.vol in
    let k = c.in_ok-synced.synced in
    let l = c.in_ok-cut.cut in
    let m = c.in_ok-pruned.pruned in
    let synced = c.in_ok-synced.ensures {u = tt} in
    let did = c.in_ok-cut.ensures {u = tt} in
    let last = c.in_ok-pruned.ensures {u = tt} in
    let was = synced.joined tells list joined in
    let full = cut_full j k l l synced.same did.cut s h digest admits spelling list c.args.loc b d d was (did.pruned tells) (did.log tells) (did.held tells) did.sound.apart in
    nodes_pruned j k l m synced.same did.cut s (synced.nodes tells list joined) last.items (λ low. last.start low tells (leaves_of s h spelling list) full) above

pub returns-then-end-eq0-clause-nodes : goal.returns-then-end-eq0-clause-nodes
returns-then-end-eq0-clause-nodes g c above tells list joined =
    let j = c.args.self in
    let a = g.V.Volume.state c.args.vol.now in
    absurd (omega (arith, above, joined.start_is, joined.end_is, c.if-end-eq0.true, c.bounds-start.ensures.end, ap (λ (k : Joined g.row.H-Digest.Denot g.row.C-Item-Cfg.Denot). k.items.end) c.self.view_is))

pub returns-clause-pins : goal.returns-clause-pins
returns-clause-pins g c tells =
    let j = c.args.self in
    let k = c.in_ok-synced.synced in
    let l = c.in_ok-cut.cut in
    let m = c.in_ok-pruned.pruned in
    let a = g.V.Volume.state c.args.vol.now in
    let d = g.V.Volume.state c.prune_items.new.vol in
    let e = g.V.Volume.state c.prune_tree.new.vol in
    let synced = c.in_ok-synced.ensures {u = tt} in
    let did = c.in_ok-cut.ensures {u = tt} in
    pins_pruned j k l m synced.same did.cut a d e ((did.log tells).others.maps j.tree.metadata ∙ (synced.names tells).others.maps j.tree.metadata tt) ((c.in_ok-pruned.ensures {u = tt}).pins tells)

pub returns-clause-others : goal.returns-clause-others
returns-clause-others g c tells =
    let j = c.args.self in
    let k = c.in_ok-synced.synced in
    let l = c.in_ok-cut.cut in
    let m = c.in_ok-pruned.pruned in
    let a = g.V.Volume.state c.args.vol.now in
    let d = g.V.Volume.state c.prune_items.new.vol in
    let e = g.V.Volume.state c.prune_tree.new.vol in
    let s = g.F.Family.shape in
    let synced = c.in_ok-synced.ensures {u = tt} in
    let did = c.in_ok-cut.ensures {u = tt} in
    let last = c.in_ok-pruned.ensures {u = tt} in
    let begins : l.items.start ≡ m.items.start = ap (λ (v : View g.row.C-Item-Cfg.Denot). v.start) (sym last.items) in
    others_pruned j k l m synced.same did.cut (pins s l.items.start) (pins s m.items.start) a d e (ap (pins s) begins) ((did.log tells).others.maps j.tree.metadata ∙ (synced.names tells).others.maps j.tree.metadata tt) (last.others tells)

pub returns-in_err-synced-clause-names : goal.returns-in_err-synced-clause-names
returns-in_err-synced-clause-names g c tells = names_logs c.args.self (g.V.Volume.state c.args.vol.now) (g.V.Volume.state c.sync.new.vol) (c.in_err-synced.ensures.names tells)

pub returns-clause-nodes_stay : goal.returns-clause-nodes_stay
returns-clause-nodes_stay g c low tells list joined =
    let synced = c.in_ok-synced.ensures {u = tt} in
    let last = c.in_ok-pruned.ensures {u = tt} in
    nodes_stay c.args.self c.in_ok-synced.synced c.in_ok-cut.cut c.in_ok-pruned.pruned synced.same (c.in_ok-cut.ensures {u = tt}).cut (synced.nodes tells list joined) last.items (λ le. (last.stays le).0) low

pub returns-clause-map_stays : goal.returns-clause-map_stays
returns-clause-map_stays g c low tells =
    let j = c.args.self in
    let a = g.V.Volume.state c.args.vol.now in
    let b = g.V.Volume.state c.sync.new.vol in
    let d = g.V.Volume.state c.prune_items.new.vol in
    let k = c.in_ok-synced.synced in
    let l = c.in_ok-cut.cut in
    let m = c.in_ok-pruned.pruned in
    let synced = c.in_ok-synced.ensures {u = tt} in
    let did = c.in_ok-cut.ensures {u = tt} in
    let last = c.in_ok-pruned.ensures {u = tt} in
    let point = prune_point k.items c.args.loc b in
    let call = names_call_joins (logs_of j) a b d (synced.names tells) (logs_items j b d (Advances point) (items_call j k l l synced.same did.cut (Advances point) b d (did.log tells))) in
    subst (λ v. ((g.V.Volume.state v).map j.tree.metadata ≡ a.map j.tree.metadata) × MapStays j.tree.metadata a (g.V.Volume.state v))
    (sym (last.stays (map_low j k l m synced.same did.cut last.items low)).1) (call.others.maps j.tree.metadata tt, call.images.maps j.tree.metadata tt)

pub returns-then-end-eq0-clause-map_stays : goal.returns-then-end-eq0-clause-map_stays
returns-then-end-eq0-clause-map_stays g c low tells =
    let j = c.args.self in
    (refl, (names_call_none (logs_of j) (g.V.Volume.state c.args.vol.now)).images.maps j.tree.metadata tt)
