use Rattle.std.proofs.Common.{inl, length, refl, sym, ◌∙◌, ap, subst, Ok, Err}
use Rattle.std.specs.Prelude.{Result}
use Rattle.volume_base.specs.Log.{Stays}
use Rattle.volume_base.specs.Moments.{present}
use Rattle.volume_base.specs.Names.{NamesCall}
use Rattle.volume_base.specs.declared.error.JournalError.TheVariants as journal
use Rattle.volume_base.proofs.CallLemmas.{names_call_joins}
use Rattle.volume_base.proofs.JoinLemmas.{writes_joins}
use Rattle.journal_base.specs.View.{SameLog, IsDurable}
use Rattle.tree_store.specs.declared.error.Error.TheVariants as tree
use Rattle.merkle_full.specs.Flushing.{IsOfFlush}
use Rattle.merkle_full.specs.Full.{IsSeated}
use Rattle.auth_journal.specs.Durable.{IsFromTree}
use Rattle.auth_journal.specs.Errors.{IsOutside, from_journal, from_tree}
use Rattle.auth_journal.specs.Joined.{Joined, IsSoundJoin, IsJoinedOf, leaves_of}
use Rattle.auth_journal.specs.Standing.{all_synced, logs_of, StepsStanding}
use Rattle.auth_journal.specs.declared.error.Error.{Error}
use Rattle.auth_journal.specs.declared.error.Error.TheVariants as joined
use Rattle.auth_journal.proofs.DurableLemmas.{err_and, err_not_ok, log_fails, tree_still, joined_behind, items_durable, run_synced, images_synced, images_none, images_unsynced, fault_below, writes_done}
use Rattle.auth_journal.proofs.ErrorLemmas.{log_outside, tree_outside, volume_from_tree}
use Rattle.auth_journal.proofs.JoinedLemmas.{seated_later}
use Rattle.auth_journal.proofs.StandingLemmas.{logs_items, logs_tree}
use Rattle.auth_journal.proofs.journal.Journal.sync.Goals as goal

pub returns-then-self-clause-errors : goal.returns-then-self-clause-errors
returns-then-self-clause-errors g c = (tree.Volume, refl, inl tt)

pub returns-in_err-journal-clause-errors : goal.returns-in_err-journal-clause-errors
returns-in_err-journal-clause-errors g c =
    let e = c.in_err-journal.field-0.0 in
    let P = IsOfFlush g.F.Family.shape c.args.self.tree in
    err_and _ (from_journal e) (IsFromTree P) c.from_residual.ensures.1 (log_fails P e ((c.in_err-journal.ensures {u = tt}).errors g.met.C.Backing.is_one_log) (inl tt) (inl tt))

pub returns-in_err-journal-clause-images : goal.returns-in_err-journal-clause-images
returns-in_err-journal-clause-images g c tells list marks joined =
    let a = g.V.Volume.state c.args.vol.now in
    let b = g.V.Volume.state c.sync.new.vol in
    let result = c.from_residual.result in
    let j : Joined g.row.H-Digest.Denot g.row.C-Item-Cfg.Denot = record { items = g.C.Contiguous.view c.self.inside.journal; tree = c.self.inside.merkle; bagging = c.self.inside.hasher; failed = c.self.inside.failed } in
    let after = all_synced (length list) marks in
    subst (λ (k : Joined g.row.H-Digest.Denot g.row.C-Item-Cfg.Denot). StepsStanding g.F.Family.shape g.H.Hasher.hash g.H.Digest.Spelled.spelling g.C.Item.Spelled.spelling list marks after k a b result) c.self.view_is
    (images_unsynced g.F.Family.shape g.H.Hasher.hash g.H.Digest.Spelled.spelling g.C.Item.Spelled.spelling list j c.self.invariant marks after a b result ((c.in_err-journal.ensures {u = tt}).log g.met.C.Backing.is_one_log tells)
    (err_not_ok result _ ⊥ c.from_residual.ensures.1))

pub returns-in_err-merkle-clause-outside : goal.returns-in_err-merkle-clause-outside
returns-in_err-merkle-clause-outside g c tells list joined =
    let s = g.F.Family.shape in
    let h = g.H.Hasher.hash in
    let digest = g.H.Digest.Spelled.spelling in
    let admits = g.H.Digest.Read.admits tt in
    let spelling = g.C.Item.Spelled.spelling in
    let a = g.V.Volume.state c.args.vol.now in
    let b = g.V.Volume.state c.sync.new.vol in
    let e = c.in_err-merkle.field-0.0 in
    let j : Joined g.row.H-Digest.Denot g.row.C-Item-Cfg.Denot = record { items = g.C.Contiguous.view c.self.inside.journal; tree = c.self.inside.merkle; bagging = c.self.inside.hasher; failed = c.self.inside.failed } in
    let here = subst (λ (k : Joined g.row.H-Digest.Denot g.row.C-Item-Cfg.Denot). IsJoinedOf s h digest admits spelling list k (present a)) (sym c.self.view_is) joined in
    let synced = (c.in_ok-journal.ensures {u = tt}).log g.met.C.Backing.is_one_log tells in
    err_and _ (from_tree e) IsOutside c.from_residual-in_err-merkle.ensures.1
    (tree_outside e ((c.in_err-merkle.ensures {u = tt}).outside tells h (leaves_of s h spelling list) (tree_still s h digest spelling list j c.self.invariant admits a b synced.others here.tree)))

pub returns-in_err-merkle-clause-names : goal.returns-in_err-merkle-clause-names
returns-in_err-merkle-clause-names g c tells =
    let a = g.V.Volume.state c.args.vol.now in
    let b = g.V.Volume.state c.sync.new.vol in
    let d = g.V.Volume.state c.sync-2.new.vol in
    let j : Joined g.row.H-Digest.Denot g.row.C-Item-Cfg.Denot = record { items = g.C.Contiguous.view c.self.inside.journal; tree = c.self.inside.merkle; bagging = c.self.inside.hasher; failed = c.self.inside.failed } in
    subst (λ (k : Joined g.row.H-Digest.Denot g.row.C-Item-Cfg.Denot). NamesCall (logs_of k) a d) c.self.view_is
    (names_call_joins (logs_of j) a b d (logs_items j a b Stays ((c.in_ok-journal.ensures {u = tt}).log g.met.C.Backing.is_one_log tells)) (logs_tree j b d ((c.in_err-merkle.ensures {u = tt}).names tells)))

pub returns-in_err-merkle-clause-images : goal.returns-in_err-merkle-clause-images
returns-in_err-merkle-clause-images g c tells list marks joined =
    let s = g.F.Family.shape in
    let h = g.H.Hasher.hash in
    let digest = g.H.Digest.Spelled.spelling in
    let admits = g.H.Digest.Read.admits tt in
    let spelling = g.C.Item.Spelled.spelling in
    let a = g.V.Volume.state c.args.vol.now in
    let b = g.V.Volume.state c.sync.new.vol in
    let d = g.V.Volume.state c.sync-2.new.vol in
    let result = c.from_residual-in_err-merkle.result in
    let j : Joined g.row.H-Digest.Denot g.row.C-Item-Cfg.Denot = record { items = g.C.Contiguous.view c.self.inside.journal; tree = c.self.inside.merkle; bagging = c.self.inside.hasher; failed = c.self.inside.failed } in
    let here = subst (λ (k : Joined g.row.H-Digest.Denot g.row.C-Item-Cfg.Denot). IsJoinedOf s h digest admits spelling list k (present a)) (sym c.self.view_is) joined in
    let did = c.in_ok-journal.ensures {u = tt} in
    let flushed = c.in_err-merkle.ensures {u = tt} in
    let synced = did.log g.met.C.Backing.is_one_log tells in
    let tree = tree_still s h digest spelling list j c.self.invariant admits a b synced.others here.tree in
    subst (λ (k : Joined g.row.H-Digest.Denot g.row.C-Item-Cfg.Denot). StepsStanding s h digest spelling list marks (all_synced (length list) marks) k a d result) c.self.view_is
    (images_synced s h digest spelling list j c.self.invariant a b d synced (flushed.names tells) marks (g.met.V.Volume.contents_left c.sync.new.vol tells)
    (λ top. flushed.images tells h (leaves_of s h spelling list) marks.node_durable top tree) (run_synced spelling list j a b (did.contents tells) here.items) (did.durable tells) result (err_not_ok result _ _ c.from_residual-in_err-merkle.ensures.1))

pub returns-clause-joined : goal.returns-clause-joined
returns-clause-joined g c tells list joined =
    let s = g.F.Family.shape in
    let h = g.H.Hasher.hash in
    let digest = g.H.Digest.Spelled.spelling in
    let admits = g.H.Digest.Read.admits tt in
    let spelling = g.C.Item.Spelled.spelling in
    let a = g.V.Volume.state c.args.vol.now in
    let b = g.V.Volume.state c.sync.new.vol in
    let d = g.V.Volume.state c.sync-2.new.vol in
    let j : Joined g.row.H-Digest.Denot g.row.C-Item-Cfg.Denot = record { items = g.C.Contiguous.view c.self.inside.journal; tree = c.self.inside.merkle; bagging = c.self.inside.hasher; failed = c.self.inside.failed } in
    let k : Joined g.row.H-Digest.Denot g.row.C-Item-Cfg.Denot = record { items = g.C.Contiguous.view c.in_ok-journal.journal; tree = c.in_ok-merkle.merkle; bagging = c.self.inside.hasher; failed = c.self.inside.failed } in
    let here = subst (λ (i : Joined g.row.H-Digest.Denot g.row.C-Item-Cfg.Denot). IsJoinedOf s h digest admits spelling list i (present a)) (sym c.self.view_is) joined in
    let did = c.in_ok-journal.ensures {u = tt} in
    let flushed = c.in_ok-merkle.ensures {u = tt} in
    let synced = did.log g.met.C.Backing.is_one_log tells in
    let tree = tree_still s h digest spelling list j c.self.invariant admits a b synced.others here.tree in
    joined_behind s h digest spelling list j c.self.invariant a b d synced (flushed.names tells) admits k here did.made (did.contents tells) (flushed.full tells h (leaves_of s h spelling list) tree)

pub returns-clause-durable : goal.returns-clause-durable
returns-clause-durable g c tells =
    let b = g.V.Volume.state c.sync.new.vol in
    let d = g.V.Volume.state c.sync-2.new.vol in
    let j : Joined g.row.H-Digest.Denot g.row.C-Item-Cfg.Denot = record { items = g.C.Contiguous.view c.self.inside.journal; tree = c.self.inside.merkle; bagging = c.self.inside.hasher; failed = c.self.inside.failed } in
    let synced = c.in_ok-merkle.ensures {u = tt} in
    subst (λ (k : Joined g.row.H-Digest.Denot g.row.C-Item-Cfg.Denot). IsDurable k.items d × IsDurable k.tree.log d) c.self.view_is
    (items_durable j c.self.invariant b d (synced.names tells) ((c.in_ok-journal.ensures {u = tt}).durable tells), synced.durable tells)

pub returns-clause-names : goal.returns-clause-names
returns-clause-names g c tells =
    let a = g.V.Volume.state c.args.vol.now in
    let b = g.V.Volume.state c.sync.new.vol in
    let d = g.V.Volume.state c.sync-2.new.vol in
    let j : Joined g.row.H-Digest.Denot g.row.C-Item-Cfg.Denot = record { items = g.C.Contiguous.view c.self.inside.journal; tree = c.self.inside.merkle; bagging = c.self.inside.hasher; failed = c.self.inside.failed } in
    subst (λ (k : Joined g.row.H-Digest.Denot g.row.C-Item-Cfg.Denot). NamesCall (logs_of k) a d) c.self.view_is
    (names_call_joins (logs_of j) a b d (logs_items j a b Stays ((c.in_ok-journal.ensures {u = tt}).log g.met.C.Backing.is_one_log tells)) (logs_tree j b d ((c.in_ok-merkle.ensures {u = tt}).names tells)))

pub returns-clause-images : goal.returns-clause-images
returns-clause-images g c tells list marks joined =
    let s = g.F.Family.shape in
    let h = g.H.Hasher.hash in
    let digest = g.H.Digest.Spelled.spelling in
    let admits = g.H.Digest.Read.admits tt in
    let spelling = g.C.Item.Spelled.spelling in
    let a = g.V.Volume.state c.args.vol.now in
    let b = g.V.Volume.state c.sync.new.vol in
    let d = g.V.Volume.state c.sync-2.new.vol in
    let j : Joined g.row.H-Digest.Denot g.row.C-Item-Cfg.Denot = record { items = g.C.Contiguous.view c.self.inside.journal; tree = c.self.inside.merkle; bagging = c.self.inside.hasher; failed = c.self.inside.failed } in
    let here = subst (λ (k : Joined g.row.H-Digest.Denot g.row.C-Item-Cfg.Denot). IsJoinedOf s h digest admits spelling list k (present a)) (sym c.self.view_is) joined in
    let k : Joined g.row.H-Digest.Denot g.row.C-Item-Cfg.Denot = record { items = g.C.Contiguous.view c.in_ok-journal.journal; tree = c.in_ok-merkle.merkle; bagging = c.self.inside.hasher; failed = c.self.inside.failed } in
    let result : Result (Joined g.row.H-Digest.Denot g.row.C-Item-Cfg.Denot) (Error g.row.F.Denot) = Ok k in
    let did = c.in_ok-journal.ensures {u = tt} in
    let flushed = c.in_ok-merkle.ensures {u = tt} in
    let synced = did.log g.met.C.Backing.is_one_log tells in
    let tree = tree_still s h digest spelling list j c.self.invariant admits a b synced.others here.tree in
    subst (λ (i : Joined g.row.H-Digest.Denot g.row.C-Item-Cfg.Denot). StepsStanding s h digest spelling list marks (all_synced (length list) marks) i a d result) c.self.view_is
    (images_synced s h digest spelling list j c.self.invariant a b d synced (flushed.names tells) marks (g.met.V.Volume.contents_left c.sync.new.vol tells)
    (λ top. flushed.images tells h (leaves_of s h spelling list) marks.node_durable top tree) (run_synced spelling list j a b (did.contents tells) here.items) (did.durable tells) result
    (λ top. flushed.settled tells h (leaves_of s h spelling list) marks.node_durable top tree))

pub returns-clause-writes : goal.returns-clause-writes
returns-clause-writes g c sound =
    let a = g.V.Volume.state c.args.vol.now in
    let b = g.V.Volume.state c.sync.new.vol in
    let d = g.V.Volume.state c.sync-2.new.vol in
    let failed = c.self.invariant.items (ap (λ (k : Joined g.row.H-Digest.Denot g.row.C-Item-Cfg.Denot). k.failed) c.self.view_is ∙ sound) in
    let nodes = c.self.invariant.tree (ap (λ (k : Joined g.row.H-Digest.Denot g.row.C-Item-Cfg.Denot). k.failed) c.self.view_is ∙ sound) in
    writes_done g.V.Volume.tells journal.Volume tree.Volume joined.Volume a b d c.in_ok-journal.journal c.in_ok-merkle.merkle _ ((c.in_ok-journal.ensures {u = tt}).writes failed) ((c.in_ok-merkle.ensures {u = tt}).writes nodes)

pub returns-in_err-merkle-clause-contents : goal.returns-in_err-merkle-clause-contents
returns-in_err-merkle-clause-contents g c tells =
    let a = g.V.Volume.state c.args.vol.now in
    let d = g.V.Volume.state c.sync-2.new.vol in
    let j : Joined g.row.H-Digest.Denot g.row.C-Item-Cfg.Denot = record { items = g.C.Contiguous.view c.self.inside.journal; tree = c.self.inside.merkle; bagging = c.self.inside.hasher; failed = c.self.inside.failed } in
    subst (λ (k : Joined g.row.H-Digest.Denot g.row.C-Item-Cfg.Denot). SameLog k.items a d) c.self.view_is ((((c.in_err-merkle.ensures {u = tt}).names tells).others.logs j.items.name (c.self.invariant.apart, tt)) ∙ (c.in_ok-journal.ensures {u = tt}).contents tells)

pub returns-clause-contents : goal.returns-clause-contents
returns-clause-contents g c tells =
    let a = g.V.Volume.state c.args.vol.now in
    let d = g.V.Volume.state c.sync-2.new.vol in
    let j : Joined g.row.H-Digest.Denot g.row.C-Item-Cfg.Denot = record { items = g.C.Contiguous.view c.self.inside.journal; tree = c.self.inside.merkle; bagging = c.self.inside.hasher; failed = c.self.inside.failed } in
    subst (λ (k : Joined g.row.H-Digest.Denot g.row.C-Item-Cfg.Denot). SameLog k.items a d) c.self.view_is ((((c.in_ok-merkle.ensures {u = tt}).names tells).others.logs j.items.name (c.self.invariant.apart, tt)) ∙ (c.in_ok-journal.ensures {u = tt}).contents tells)

pub returns-then-self-clause-images : goal.returns-then-self-clause-images
returns-then-self-clause-images g c tells list marks was =
    let a = g.V.Volume.state c.args.vol.now in
    let result : Result (Joined g.row.H-Digest.Denot g.row.C-Item-Cfg.Denot) (Error g.row.F.Denot) = Err joined.Volume in
    let sound = subst (λ (k : Joined g.row.H-Digest.Denot g.row.C-Item-Cfg.Denot). IsSoundJoin k) c.self.view_is c.self.invariant in
    images_none g.F.Family.shape g.H.Hasher.hash g.H.Digest.Spelled.spelling g.C.Item.Spelled.spelling list c.args.self sound marks (all_synced (length list) marks) a result tt

pub returns-in_err-journal-clause-outside : goal.returns-in_err-journal-clause-outside
returns-in_err-journal-clause-outside g c tells list joined =
    let e = c.in_err-journal.field-0.0 in
    err_and _ (from_journal e) IsOutside c.from_residual.ensures.1 (log_outside g.row.F.Denot e ((c.in_err-journal.ensures {u = tt}).errors g.met.C.Backing.is_one_log))

pub returns-in_err-journal-clause-names : goal.returns-in_err-journal-clause-names
returns-in_err-journal-clause-names g c tells =
    let a = g.V.Volume.state c.args.vol.now in
    let b = g.V.Volume.state c.sync.new.vol in
    let j : Joined g.row.H-Digest.Denot g.row.C-Item-Cfg.Denot = record { items = g.C.Contiguous.view c.self.inside.journal; tree = c.self.inside.merkle; bagging = c.self.inside.hasher; failed = c.self.inside.failed } in
    subst (λ (k : Joined g.row.H-Digest.Denot g.row.C-Item-Cfg.Denot). NamesCall (logs_of k) a b) c.self.view_is (logs_items j a b Stays ((c.in_err-journal.ensures {u = tt}).log g.met.C.Backing.is_one_log tells))

pub returns-in_err-merkle-clause-writes : goal.returns-in_err-merkle-clause-writes
returns-in_err-merkle-clause-writes g c sound =
    let a = g.V.Volume.state c.args.vol.now in
    let b = g.V.Volume.state c.sync.new.vol in
    let d = g.V.Volume.state c.sync-2.new.vol in
    let none = ap (λ (k : Joined g.row.H-Digest.Denot g.row.C-Item-Cfg.Denot). k.failed) c.self.view_is ∙ sound in
    let e = c.in_err-merkle.field-0.0 in
    let result = c.from_residual-in_err-merkle.result in
    let is = c.from_residual-in_err-merkle.ensures.1 in
    writes_joins g.V.Volume.tells journal.Volume tree.Volume joined.Volume a b d _ (Err e) result ((c.in_ok-journal.ensures {u = tt}).writes (c.self.invariant.items none)) ((c.in_err-merkle.ensures {u = tt}).writes (c.self.invariant.tree none))
    (fault_below from_tree joined.Volume tree.Volume result e volume_from_tree is) (λ kept. err_not_ok result _ _ is)

pub returns-clause-nodes : goal.returns-clause-nodes
returns-clause-nodes g c tells list joined =
    let s = g.F.Family.shape in
    let h = g.H.Hasher.hash in
    let digest = g.H.Digest.Spelled.spelling in
    let admits = g.H.Digest.Read.admits tt in
    let spelling = g.C.Item.Spelled.spelling in
    let a = g.V.Volume.state c.args.vol.now in
    let b = g.V.Volume.state c.sync.new.vol in
    let j : Joined g.row.H-Digest.Denot g.row.C-Item-Cfg.Denot = record { items = g.C.Contiguous.view c.self.inside.journal; tree = c.self.inside.merkle; bagging = c.self.inside.hasher; failed = c.self.inside.failed } in
    let here = subst (λ (i : Joined g.row.H-Digest.Denot g.row.C-Item-Cfg.Denot). IsJoinedOf s h digest admits spelling list i (present a)) (sym c.self.view_is) joined in
    let synced = (c.in_ok-journal.ensures {u = tt}).log g.met.C.Backing.is_one_log tells in
    let tree = tree_still s h digest spelling list j c.self.invariant admits a b synced.others here.tree in
    (c.in_ok-merkle.ensures {u = tt}).start tells h (leaves_of s h spelling list) tree ∙ ap (λ (i : Joined g.row.H-Digest.Denot g.row.C-Item-Cfg.Denot). i.tree.log.start) c.self.view_is

pub returns-in_err-journal-clause-bounded : goal.returns-in_err-journal-clause-bounded
returns-in_err-journal-clause-bounded g c tells seated =
    let e = c.in_err-journal.field-0.0 in
    err_and _ (from_journal e) IsOutside c.from_residual.ensures.1 (log_outside g.row.F.Denot e ((c.in_err-journal.ensures {u = tt}).errors g.met.C.Backing.is_one_log))

pub returns-in_err-merkle-clause-bounded : goal.returns-in_err-merkle-clause-bounded
returns-in_err-merkle-clause-bounded g c tells seated =
    let s = g.F.Family.shape in
    let a = g.V.Volume.state c.args.vol.now in
    let b = g.V.Volume.state c.sync.new.vol in
    let t = c.self.inside.merkle in
    let e = c.in_err-merkle.field-0.0 in
    let here = subst (λ (k : Joined g.row.H-Digest.Denot g.row.C-Item-Cfg.Denot). IsSeated s k.tree (present a)) (sym c.self.view_is) seated in
    let synced = (c.in_ok-journal.ensures {u = tt}).log g.met.C.Backing.is_one_log tells in
    err_and _ (from_tree e) IsOutside c.from_residual-in_err-merkle.ensures.1
    (tree_outside e ((c.in_err-merkle.ensures {u = tt}).bounded tells (seated_later s t t a b refl refl (synced.others.logs t.log.name (λ is. c.self.invariant.apart (sym is))) here)))
