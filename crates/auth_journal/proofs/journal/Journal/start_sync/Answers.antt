use Rattle.std.proofs.Common.{inl, length, refl, sym, ◌∙◌, ap, subst, true, Err}
use Rattle.std.specs.Prelude.{Result}
use Rattle.volume_base.specs.Log.{Stays}
use Rattle.volume_base.specs.Moments.{present}
use Rattle.volume_base.specs.Names.{log_alone, NamesCall}
use Rattle.journal_base.specs.Tickets.{is_failed}
use Rattle.journal_base.specs.View.{SameLog, IsDurable}
use Rattle.tree_store.specs.declared.error.Error.TheVariants as tree
use Rattle.volume_base.proofs.CallLemmas.{names_call_joins, names_call_log}
use Rattle.merkle_full.specs.Flushing.{IsOfFlush}
use Rattle.auth_journal.specs.Durable.{IsFromTree, sync_of, outcome}
use Rattle.auth_journal.specs.Errors.{IsOutside, from_journal, from_tree}
use Rattle.auth_journal.specs.Joined.{Joined, IsSoundJoin, IsJoinedOf, leaves_of}
use Rattle.auth_journal.specs.Standing.{all_synced, logs_of, StepsStanding}
use Rattle.auth_journal.specs.declared.error.Error.{Error}
use Rattle.auth_journal.specs.declared.error.Error.TheVariants as joined
use Rattle.auth_journal.proofs.DurableLemmas.{err_and, log_fails, tree_still, items_durable, run_synced, images_none, images_synced, images_unsynced}
use Rattle.auth_journal.proofs.ErrorLemmas.{log_outside, tree_outside}
use Rattle.auth_journal.proofs.StandingLemmas.{logs_items, logs_tree}
use Rattle.auth_journal.proofs.StartedLemmas.{outcome_err, outcome_fails, sync_fails, sync_done, joined_started, writes_refused, writes_started}
use Rattle.auth_journal.proofs.journal.Journal.start_sync.Goals as goal

pub returns-then-self-clause-errors : goal.returns-then-self-clause-errors
returns-then-self-clause-errors g c = (tree.Volume, refl, inl tt)

pub returns-in_err-journal-clause-errors : goal.returns-in_err-journal-clause-errors
returns-in_err-journal-clause-errors g c =
    let e = c.in_err-journal.field-0.0 in
    let P = IsOfFlush g.F.Family.shape c.args.self.tree in
    err_and _ (from_journal e) (IsFromTree P) c.from_residual.ensures.1 (log_fails P e ((c.in_err-journal.ensures {u = tt}).errors g.met.C.Backing.is_one_log) (inl tt) (inl tt))

pub returns-in_err-journal-clause-images : goal.returns-in_err-journal-clause-images
returns-in_err-journal-clause-images g c tells list marks joined =
    let a = g.V.Volume.state c.args.vol.now in
    let b = g.V.Volume.state c.start_sync.new.vol in
    let result = outcome c.from_residual.result in
    let j : Joined g.row.H-Digest.Denot g.row.C-Item-Cfg.Denot = record { items = g.C.Contiguous.view c.self.inside.journal; tree = c.self.inside.merkle; bagging = c.self.inside.hasher; failed = c.self.inside.failed } in
    let after = all_synced (length list) marks in
    subst (λ (k : Joined g.row.H-Digest.Denot g.row.C-Item-Cfg.Denot). StepsStanding g.F.Family.shape g.H.Hasher.hash g.H.Digest.Spelled.spelling g.C.Item.Spelled.spelling list marks after k a b result) c.self.view_is
    (images_unsynced g.F.Family.shape g.H.Hasher.hash g.H.Digest.Spelled.spelling g.C.Item.Spelled.spelling list j c.self.invariant marks after a b result ((c.in_err-journal.ensures {u = tt}).log g.met.C.Backing.is_one_log tells)
    (outcome_fails c.from_residual.result _ ⊥ c.from_residual.ensures.1))

pub returns-in_err-merkle-in-Done-clause-outside : goal.returns-in_err-merkle-in-Done-clause-outside
returns-in_err-merkle-in-Done-clause-outside g c tells list joined =
    let s = g.F.Family.shape in
    let h = g.H.Hasher.hash in
    let digest = g.H.Digest.Spelled.spelling in
    let admits = g.H.Digest.Read.admits tt in
    let spelling = g.C.Item.Spelled.spelling in
    let a = g.V.Volume.state c.args.vol.now in
    let b = g.V.Volume.state c.start_sync.new.vol in
    let e = c.in_err-merkle-in-Done.field-0.0 in
    let j : Joined g.row.H-Digest.Denot g.row.C-Item-Cfg.Denot = record { items = g.C.Contiguous.view c.self.inside.journal; tree = c.self.inside.merkle; bagging = c.self.inside.hasher; failed = c.self.inside.failed } in
    let here = subst (λ (k : Joined g.row.H-Digest.Denot g.row.C-Item-Cfg.Denot). IsJoinedOf s h digest admits spelling list k (present a)) (sym c.self.view_is) joined in
    let synced = (c.in_ok-journal.ensures {u = tt}).log g.met.C.Backing.is_one_log tells in
    err_and _ (from_tree e) IsOutside c.from_residual-in_err-merkle-in-Done.ensures.1
    (tree_outside e ((c.in_err-merkle-in-Done.ensures {u = tt}).outside tells h (leaves_of s h spelling list) (tree_still s h digest spelling list j c.self.invariant admits a b synced.others here.tree)))

pub returns-in_err-merkle-in-Done-clause-names : goal.returns-in_err-merkle-in-Done-clause-names
returns-in_err-merkle-in-Done-clause-names g c tells =
    let a = g.V.Volume.state c.args.vol.now in
    let b = g.V.Volume.state c.start_sync.new.vol in
    let d = g.V.Volume.state c.start_sync-in-Done.new.vol in
    let j : Joined g.row.H-Digest.Denot g.row.C-Item-Cfg.Denot = record { items = g.C.Contiguous.view c.self.inside.journal; tree = c.self.inside.merkle; bagging = c.self.inside.hasher; failed = c.self.inside.failed } in
    subst (λ (k : Joined g.row.H-Digest.Denot g.row.C-Item-Cfg.Denot). NamesCall (logs_of k) a d) c.self.view_is
    (names_call_joins (logs_of j) a b d (logs_items j a b Stays ((c.in_ok-journal.ensures {u = tt}).log g.met.C.Backing.is_one_log tells)) (logs_tree j b d ((c.in_err-merkle-in-Done.ensures {u = tt}).names tells)))

pub returns-in_err-merkle-in-Done-clause-images : goal.returns-in_err-merkle-in-Done-clause-images
returns-in_err-merkle-in-Done-clause-images g c tells list marks joined =
    let s = g.F.Family.shape in
    let h = g.H.Hasher.hash in
    let digest = g.H.Digest.Spelled.spelling in
    let admits = g.H.Digest.Read.admits tt in
    let spelling = g.C.Item.Spelled.spelling in
    let a = g.V.Volume.state c.args.vol.now in
    let b = g.V.Volume.state c.start_sync.new.vol in
    let d = g.V.Volume.state c.start_sync-in-Done.new.vol in
    let result = outcome c.from_residual-in_err-merkle-in-Done.result in
    let j : Joined g.row.H-Digest.Denot g.row.C-Item-Cfg.Denot = record { items = g.C.Contiguous.view c.self.inside.journal; tree = c.self.inside.merkle; bagging = c.self.inside.hasher; failed = c.self.inside.failed } in
    let here = subst (λ (k : Joined g.row.H-Digest.Denot g.row.C-Item-Cfg.Denot). IsJoinedOf s h digest admits spelling list k (present a)) (sym c.self.view_is) joined in
    let did = c.in_ok-journal.ensures {u = tt} in
    let flushed = c.in_err-merkle-in-Done.ensures {u = tt} in
    let synced = did.log g.met.C.Backing.is_one_log tells in
    let tree = tree_still s h digest spelling list j c.self.invariant admits a b synced.others here.tree in
    subst (λ (k : Joined g.row.H-Digest.Denot g.row.C-Item-Cfg.Denot). StepsStanding s h digest spelling list marks (all_synced (length list) marks) k a d result) c.self.view_is
    (images_synced s h digest spelling list j c.self.invariant a b d synced (flushed.names tells) marks (g.met.V.Volume.contents_left c.start_sync.new.vol tells)
    (λ top. flushed.images tells h (leaves_of s h spelling list) marks.node_durable top tree) (run_synced spelling list j a b (did.contents tells) here.items) (did.durable c.in-Done.is tells) result (outcome_fails c.from_residual-in_err-merkle-in-Done.result _ _ c.from_residual-in_err-merkle-in-Done.ensures.1))

pub returns-in-Failed-clause-joined : goal.returns-in-Failed-clause-joined
returns-in-Failed-clause-joined g c tells list joined =
    let s = g.F.Family.shape in
    let h = g.H.Hasher.hash in
    let digest = g.H.Digest.Spelled.spelling in
    let admits = g.H.Digest.Read.admits tt in
    let spelling = g.C.Item.Spelled.spelling in
    let a = g.V.Volume.state c.args.vol.now in
    let b = g.V.Volume.state c.start_sync.new.vol in
    let j : Joined g.row.H-Digest.Denot g.row.C-Item-Cfg.Denot = record { items = g.C.Contiguous.view c.self.inside.journal; tree = c.self.inside.merkle; bagging = c.self.inside.hasher; failed = c.self.inside.failed } in
    let k : Joined g.row.H-Digest.Denot g.row.C-Item-Cfg.Denot = record { items = g.C.Contiguous.view c.in_ok-journal.journal; tree = c.self.inside.merkle; bagging = c.self.inside.hasher; failed = true } in
    let here = subst (λ (i : Joined g.row.H-Digest.Denot g.row.C-Item-Cfg.Denot). IsJoinedOf s h digest admits spelling list i (present a)) (sym c.self.view_is) joined in
    let did = c.in_ok-journal.ensures {u = tt} in
    let synced = did.log g.met.C.Backing.is_one_log tells in
    joined_started s h digest admits spelling list j k a b (is_failed c.in_ok-journal.items) here did.made (did.contents tells) (tree_still s h digest spelling list j c.self.invariant admits a b synced.others here.tree)

pub returns-in-Failed-clause-images : goal.returns-in-Failed-clause-images
returns-in-Failed-clause-images g c tells list marks joined =
    let a = g.V.Volume.state c.args.vol.now in
    let b = g.V.Volume.state c.start_sync.new.vol in
    let result : Result (Unit {0}) (Error g.row.F.Denot) = sync_of c.in_ok-journal.items in
    let j : Joined g.row.H-Digest.Denot g.row.C-Item-Cfg.Denot = record { items = g.C.Contiguous.view c.self.inside.journal; tree = c.self.inside.merkle; bagging = c.self.inside.hasher; failed = c.self.inside.failed } in
    let after = all_synced (length list) marks in
    subst (λ (k : Joined g.row.H-Digest.Denot g.row.C-Item-Cfg.Denot). StepsStanding g.F.Family.shape g.H.Hasher.hash g.H.Digest.Spelled.spelling g.C.Item.Spelled.spelling list marks after k a b result) c.self.view_is
    (images_unsynced g.F.Family.shape g.H.Hasher.hash g.H.Digest.Spelled.spelling g.C.Item.Spelled.spelling list j c.self.invariant marks after a b result ((c.in_ok-journal.ensures {u = tt}).log g.met.C.Backing.is_one_log tells)
    (sync_fails g.row.F.Denot c.in_ok-journal.items c.in-Failed.is))

pub returns-in_ok-merkle-in-Done-clause-joined : goal.returns-in_ok-merkle-in-Done-clause-joined
returns-in_ok-merkle-in-Done-clause-joined g c tells list joined =
    let s = g.F.Family.shape in
    let h = g.H.Hasher.hash in
    let digest = g.H.Digest.Spelled.spelling in
    let admits = g.H.Digest.Read.admits tt in
    let spelling = g.C.Item.Spelled.spelling in
    let a = g.V.Volume.state c.args.vol.now in
    let b = g.V.Volume.state c.start_sync.new.vol in
    let d = g.V.Volume.state c.start_sync-in-Done.new.vol in
    let j : Joined g.row.H-Digest.Denot g.row.C-Item-Cfg.Denot = record { items = g.C.Contiguous.view c.self.inside.journal; tree = c.self.inside.merkle; bagging = c.self.inside.hasher; failed = c.self.inside.failed } in
    let k : Joined g.row.H-Digest.Denot g.row.C-Item-Cfg.Denot = record { items = g.C.Contiguous.view c.in_ok-journal.journal; tree = c.in_ok-merkle-in-Done.merkle; bagging = c.self.inside.hasher; failed = c.eq.result } in
    let here = subst (λ (i : Joined g.row.H-Digest.Denot g.row.C-Item-Cfg.Denot). IsJoinedOf s h digest admits spelling list i (present a)) (sym c.self.view_is) joined in
    let did = c.in_ok-journal.ensures {u = tt} in
    let started = c.in_ok-merkle-in-Done.ensures {u = tt} in
    let synced = did.log g.met.C.Backing.is_one_log tells in
    let tree = tree_still s h digest spelling list j c.self.invariant admits a b synced.others here.tree in
    joined_started s h digest admits spelling list j k a d (is_failed c.in_ok-journal.items) here did.made ((started.names tells).others.logs j.items.name (c.self.invariant.apart, tt) ∙ did.contents tells) (started.full tells h (leaves_of s h spelling list) tree)

pub returns-in_ok-merkle-in-Done-clause-durable : goal.returns-in_ok-merkle-in-Done-clause-durable
returns-in_ok-merkle-in-Done-clause-durable g c done tells =
    let b = g.V.Volume.state c.start_sync.new.vol in
    let d = g.V.Volume.state c.start_sync-in-Done.new.vol in
    let j : Joined g.row.H-Digest.Denot g.row.C-Item-Cfg.Denot = record { items = g.C.Contiguous.view c.self.inside.journal; tree = c.self.inside.merkle; bagging = c.self.inside.hasher; failed = c.self.inside.failed } in
    let started = c.in_ok-merkle-in-Done.ensures {u = tt} in
    subst (λ (k : Joined g.row.H-Digest.Denot g.row.C-Item-Cfg.Denot). IsDurable k.items d × IsDurable k.tree.log d) c.self.view_is
    (items_durable j c.self.invariant b d (started.names tells) ((c.in_ok-journal.ensures {u = tt}).durable c.in-Done.is tells), started.durable done tells)

pub returns-in_ok-merkle-in-Done-clause-names : goal.returns-in_ok-merkle-in-Done-clause-names
returns-in_ok-merkle-in-Done-clause-names g c tells =
    let a = g.V.Volume.state c.args.vol.now in
    let b = g.V.Volume.state c.start_sync.new.vol in
    let d = g.V.Volume.state c.start_sync-in-Done.new.vol in
    let j : Joined g.row.H-Digest.Denot g.row.C-Item-Cfg.Denot = record { items = g.C.Contiguous.view c.self.inside.journal; tree = c.self.inside.merkle; bagging = c.self.inside.hasher; failed = c.self.inside.failed } in
    subst (λ (k : Joined g.row.H-Digest.Denot g.row.C-Item-Cfg.Denot). NamesCall (logs_of k) a d) c.self.view_is
    (names_call_joins (logs_of j) a b d (logs_items j a b Stays ((c.in_ok-journal.ensures {u = tt}).log g.met.C.Backing.is_one_log tells)) (logs_tree j b d ((c.in_ok-merkle-in-Done.ensures {u = tt}).names tells)))

pub returns-in_ok-merkle-in-Done-clause-images : goal.returns-in_ok-merkle-in-Done-clause-images
returns-in_ok-merkle-in-Done-clause-images g c tells list marks joined =
    let s = g.F.Family.shape in
    let h = g.H.Hasher.hash in
    let digest = g.H.Digest.Spelled.spelling in
    let admits = g.H.Digest.Read.admits tt in
    let spelling = g.C.Item.Spelled.spelling in
    let a = g.V.Volume.state c.args.vol.now in
    let b = g.V.Volume.state c.start_sync.new.vol in
    let d = g.V.Volume.state c.start_sync-in-Done.new.vol in
    let result : Result (Unit {0}) (Error g.row.F.Denot) = sync_of c.in_ok-merkle-in-Done.nodes in
    let j : Joined g.row.H-Digest.Denot g.row.C-Item-Cfg.Denot = record { items = g.C.Contiguous.view c.self.inside.journal; tree = c.self.inside.merkle; bagging = c.self.inside.hasher; failed = c.self.inside.failed } in
    let here = subst (λ (k : Joined g.row.H-Digest.Denot g.row.C-Item-Cfg.Denot). IsJoinedOf s h digest admits spelling list k (present a)) (sym c.self.view_is) joined in
    let did = c.in_ok-journal.ensures {u = tt} in
    let started = c.in_ok-merkle-in-Done.ensures {u = tt} in
    let synced = did.log g.met.C.Backing.is_one_log tells in
    let tree = tree_still s h digest spelling list j c.self.invariant admits a b synced.others here.tree in
    subst (λ (i : Joined g.row.H-Digest.Denot g.row.C-Item-Cfg.Denot). StepsStanding s h digest spelling list marks (all_synced (length list) marks) i a d result) c.self.view_is
    (images_synced s h digest spelling list j c.self.invariant a b d synced (started.names tells) marks (g.met.V.Volume.contents_left c.start_sync.new.vol tells)
    (λ top. started.images tells h (leaves_of s h spelling list) marks.node_durable top tree) (run_synced spelling list j a b (did.contents tells) here.items) (did.durable c.in-Done.is tells) result
    (sync_done g.row.F.Denot c.in_ok-merkle-in-Done.nodes _ (λ done top. started.settled done tells h (leaves_of s h spelling list) marks.node_durable top tree)))

pub returns-in_ok-merkle-in-Done-clause-writes : goal.returns-in_ok-merkle-in-Done-clause-writes
returns-in_ok-merkle-in-Done-clause-writes g c sound =
    let none = ap (λ (k : Joined g.row.H-Digest.Denot g.row.C-Item-Cfg.Denot). k.failed) c.self.view_is ∙ sound in
    writes_started g.row.F.Denot g.V.Volume.tells (g.V.Volume.state c.args.vol.now) (g.V.Volume.state c.start_sync.new.vol) (g.V.Volume.state c.start_sync-in-Done.new.vol) c.in_ok-journal.items c.in_ok-merkle-in-Done.nodes c.in-Done.is
    ((c.in_ok-journal.ensures {u = tt}).writes (c.self.invariant.items none)) ((c.in_ok-merkle-in-Done.ensures {u = tt}).writes (c.self.invariant.tree none))

pub returns-in_err-merkle-in-Done-clause-contents : goal.returns-in_err-merkle-in-Done-clause-contents
returns-in_err-merkle-in-Done-clause-contents g c tells =
    let a = g.V.Volume.state c.args.vol.now in
    let d = g.V.Volume.state c.start_sync-in-Done.new.vol in
    let j : Joined g.row.H-Digest.Denot g.row.C-Item-Cfg.Denot = record { items = g.C.Contiguous.view c.self.inside.journal; tree = c.self.inside.merkle; bagging = c.self.inside.hasher; failed = c.self.inside.failed } in
    subst (λ (k : Joined g.row.H-Digest.Denot g.row.C-Item-Cfg.Denot). SameLog k.items a d) c.self.view_is ((((c.in_err-merkle-in-Done.ensures {u = tt}).names tells).others.logs j.items.name (c.self.invariant.apart, tt)) ∙ (c.in_ok-journal.ensures {u = tt}).contents tells)

pub returns-in_ok-merkle-in-Done-clause-contents : goal.returns-in_ok-merkle-in-Done-clause-contents
returns-in_ok-merkle-in-Done-clause-contents g c tells =
    let a = g.V.Volume.state c.args.vol.now in
    let d = g.V.Volume.state c.start_sync-in-Done.new.vol in
    let j : Joined g.row.H-Digest.Denot g.row.C-Item-Cfg.Denot = record { items = g.C.Contiguous.view c.self.inside.journal; tree = c.self.inside.merkle; bagging = c.self.inside.hasher; failed = c.self.inside.failed } in
    subst (λ (k : Joined g.row.H-Digest.Denot g.row.C-Item-Cfg.Denot). SameLog k.items a d) c.self.view_is ((((c.in_ok-merkle-in-Done.ensures {u = tt}).names tells).others.logs j.items.name (c.self.invariant.apart, tt)) ∙ (c.in_ok-journal.ensures {u = tt}).contents tells)

pub returns-then-self-clause-images : goal.returns-then-self-clause-images
returns-then-self-clause-images g c tells list marks was =
    let a = g.V.Volume.state c.args.vol.now in
    let result : Result (Unit {0}) (Error g.row.F.Denot) = Err joined.Volume in
    let sound = subst (λ (k : Joined g.row.H-Digest.Denot g.row.C-Item-Cfg.Denot). IsSoundJoin k) c.self.view_is c.self.invariant in
    images_none g.F.Family.shape g.H.Hasher.hash g.H.Digest.Spelled.spelling g.C.Item.Spelled.spelling list c.args.self sound marks (all_synced (length list) marks) a result tt

pub returns-in_err-journal-clause-outside : goal.returns-in_err-journal-clause-outside
returns-in_err-journal-clause-outside g c tells list joined =
    let e = c.in_err-journal.field-0.0 in
    err_and _ (from_journal e) IsOutside c.from_residual.ensures.1 (log_outside g.row.F.Denot e ((c.in_err-journal.ensures {u = tt}).errors g.met.C.Backing.is_one_log))

pub returns-in_err-journal-clause-names : goal.returns-in_err-journal-clause-names
returns-in_err-journal-clause-names g c tells =
    let a = g.V.Volume.state c.args.vol.now in
    let b = g.V.Volume.state c.start_sync.new.vol in
    let j : Joined g.row.H-Digest.Denot g.row.C-Item-Cfg.Denot = record { items = g.C.Contiguous.view c.self.inside.journal; tree = c.self.inside.merkle; bagging = c.self.inside.hasher; failed = c.self.inside.failed } in
    subst (λ (k : Joined g.row.H-Digest.Denot g.row.C-Item-Cfg.Denot). NamesCall (logs_of k) a b) c.self.view_is (logs_items j a b Stays ((c.in_err-journal.ensures {u = tt}).log g.met.C.Backing.is_one_log tells))

pub returns-in_err-merkle-in-Done-clause-writes : goal.returns-in_err-merkle-in-Done-clause-writes
returns-in_err-merkle-in-Done-clause-writes g c sound =
    let none = ap (λ (k : Joined g.row.H-Digest.Denot g.row.C-Item-Cfg.Denot). k.failed) c.self.view_is ∙ sound in
    let e = c.in_err-merkle-in-Done.field-0.0 in
    let result = c.from_residual-in_err-merkle-in-Done.result in
    writes_refused g.row.F.Denot g.V.Volume.tells (g.V.Volume.state c.args.vol.now) (g.V.Volume.state c.start_sync.new.vol) (g.V.Volume.state c.start_sync-in-Done.new.vol) c.in_ok-journal.items e (outcome result) c.in-Done.is
    (outcome_err result _ c.from_residual-in_err-merkle-in-Done.ensures.1)
    ((c.in_ok-journal.ensures {u = tt}).writes (c.self.invariant.items none)) ((c.in_err-merkle-in-Done.ensures {u = tt}).writes (c.self.invariant.tree none))

pub returns-in-Failed-clause-untouched : goal.returns-in-Failed-clause-untouched
returns-in-Failed-clause-untouched g c failed =
    let a = g.V.Volume.state c.args.vol.now in
    let b = g.V.Volume.state c.start_sync.new.vol in
    let j : Joined g.row.H-Digest.Denot g.row.C-Item-Cfg.Denot = record { items = g.C.Contiguous.view c.self.inside.journal; tree = c.self.inside.merkle; bagging = c.self.inside.hasher; failed = c.self.inside.failed } in (
      ap (λ (k : Joined g.row.H-Digest.Denot g.row.C-Item-Cfg.Denot). k.tree) c.self.view_is,
      (λ tells. subst (λ (k : Joined g.row.H-Digest.Denot g.row.C-Item-Cfg.Denot). NamesCall (log_alone k.items.name) a b) c.self.view_is
          (names_call_log (log_alone j.items.name) j.items.name Stays a b (inl refl) ((c.in_ok-journal.ensures {u = tt}).log g.met.C.Backing.is_one_log tells))),
    )

pub returns-in-Failed-clause-names : goal.returns-in-Failed-clause-names
returns-in-Failed-clause-names g c tells =
    let a = g.V.Volume.state c.args.vol.now in
    let b = g.V.Volume.state c.start_sync.new.vol in
    let j : Joined g.row.H-Digest.Denot g.row.C-Item-Cfg.Denot = record { items = g.C.Contiguous.view c.self.inside.journal; tree = c.self.inside.merkle; bagging = c.self.inside.hasher; failed = c.self.inside.failed } in
    subst (λ (k : Joined g.row.H-Digest.Denot g.row.C-Item-Cfg.Denot). NamesCall (logs_of k) a b) c.self.view_is (logs_items j a b Stays ((c.in_ok-journal.ensures {u = tt}).log g.met.C.Backing.is_one_log tells))

pub returns-in_ok-merkle-in-Done-clause-nodes : goal.returns-in_ok-merkle-in-Done-clause-nodes
returns-in_ok-merkle-in-Done-clause-nodes g c tells list joined =
    let s = g.F.Family.shape in
    let h = g.H.Hasher.hash in
    let digest = g.H.Digest.Spelled.spelling in
    let admits = g.H.Digest.Read.admits tt in
    let spelling = g.C.Item.Spelled.spelling in
    let a = g.V.Volume.state c.args.vol.now in
    let b = g.V.Volume.state c.start_sync.new.vol in
    let j : Joined g.row.H-Digest.Denot g.row.C-Item-Cfg.Denot = record { items = g.C.Contiguous.view c.self.inside.journal; tree = c.self.inside.merkle; bagging = c.self.inside.hasher; failed = c.self.inside.failed } in
    let here = subst (λ (i : Joined g.row.H-Digest.Denot g.row.C-Item-Cfg.Denot). IsJoinedOf s h digest admits spelling list i (present a)) (sym c.self.view_is) joined in
    let synced = (c.in_ok-journal.ensures {u = tt}).log g.met.C.Backing.is_one_log tells in
    let tree = tree_still s h digest spelling list j c.self.invariant admits a b synced.others here.tree in
    (c.in_ok-merkle-in-Done.ensures {u = tt}).start tells h (leaves_of s h spelling list) tree ∙ ap (λ (i : Joined g.row.H-Digest.Denot g.row.C-Item-Cfg.Denot). i.tree.log.start) c.self.view_is

pub returns-in_ok-merkle-in-Done-clause-items : goal.returns-in_ok-merkle-in-Done-clause-items
returns-in_ok-merkle-in-Done-clause-items g c sound tells =
    let b = g.V.Volume.state c.start_sync.new.vol in
    let d = g.V.Volume.state c.start_sync-in-Done.new.vol in
    let j : Joined g.row.H-Digest.Denot g.row.C-Item-Cfg.Denot = record { items = g.C.Contiguous.view c.self.inside.journal; tree = c.self.inside.merkle; bagging = c.self.inside.hasher; failed = c.self.inside.failed } in
    subst (λ (k : Joined g.row.H-Digest.Denot g.row.C-Item-Cfg.Denot). IsDurable k.items d) c.self.view_is
    (items_durable j c.self.invariant b d ((c.in_ok-merkle-in-Done.ensures {u = tt}).names tells) ((c.in_ok-journal.ensures {u = tt}).durable c.in-Done.is tells))

pub returns-in-Failed-clause-nodes : goal.returns-in-Failed-clause-nodes
returns-in-Failed-clause-nodes g c tells list joined = ap (λ (i : Joined g.row.H-Digest.Denot g.row.C-Item-Cfg.Denot). i.tree.log.start) c.self.view_is

pub returns-in-Failed-clause-items : goal.returns-in-Failed-clause-items
returns-in-Failed-clause-items g c sound tells =
    let failed = ap (λ v. v.failed) (c.in_ok-journal.ensures {u = tt}).made in
    let is = ap is_failed c.in-Failed.is in
    absurd cc
