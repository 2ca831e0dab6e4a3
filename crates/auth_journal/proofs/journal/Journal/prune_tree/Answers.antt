use Rattle.volume_base.proofs.JoinLemmas.{went_none, changes_joins}
use Rattle.tree_shape.specs.Pins.{pins}
use Rattle.auth_journal.specs.declared.error.Error.TheVariants as joined
use Rattle.tree_store.specs.declared.error.Error.TheVariants as tree
use Rattle.std.proofs.Common.{◌≡◌, ◌<◌, ◌≤◌, Err, ℕ, max, length, refl, sym, ◌∙◌, ap, subst, arith}
use Rattle.volume_base.specs.Moments.{present}
use Rattle.merkle_full.specs.Flushing.{AllStand, IsSameTree}
use Rattle.journal_base.specs.Blobs.{blob_start}
use Rattle.journal_base.specs.Items.{items_of}
use Rattle.journal_base.specs.View.{View}
use Rattle.tree_shape.specs.Shape.{made}
use Rattle.merkle_full.specs.Full.{Full, Rests}
use Rattle.merkle_full.specs.Lists.{IsFullOf}
use Rattle.merkle_full.specs.Pruning.{at_boundary, StandsWhilePruned, KeepsPins, KeepsOthers}
use Rattle.merkle_full.proofs.PruneRun.{can_prune}
use Rattle.auth_journal.specs.Durable.{IsPrunedTo, IsFromTree, IsTreeUnpruned}
use Rattle.auth_journal.specs.Errors.{IsOutside, from_tree}
use Rattle.auth_journal.specs.Joined.{Joined}
use Rattle.auth_journal.proofs.DurableLemmas.{err_and, err_not_ok, fault_below}
use Rattle.auth_journal.proofs.ErrorLemmas.{tree_outside, volume_from_tree}
use Rattle.auth_journal.proofs.PruneLemmas.{changes_done, not_failed, same_made, pruned_same, pruned_rests, why_unpruned}
use Rattle.auth_journal.proofs.journal.Journal.prune_tree.Goals as goal

pub invariant_of-result : goal.invariant_of-result
invariant_of-result g c =
    let t = c.self.inside.merkle in
    let u = c.in_ok-merkle.merkle in
    let did = c.in_ok-merkle.ensures {u = tt} in
    let stays : c.new.result ≤ t.boundary → u ≡ t = λ le. same_made u t c.prune.result (c.in_ok-merkle.was {u = tt}) (c.prune.ensures.below (not_failed t.log.failed (λ is. let bad = (did.kept is).0 in cc)) le).0 in
    let same = (pruned_same t u c.new.result stays did.moved).log in
    record {
      apart = λ e. c.self.invariant.apart (e ∙ ap (λ (v : View _). v.name) same);
      items = c.self.invariant.items;
      tree = λ kept. ap (λ (v : View _). v.failed) same ∙ c.self.invariant.tree kept;
    }

pub returns-in_err-merkle-clause-outside : goal.returns-in_err-merkle-clause-outside
returns-in_err-merkle-clause-outside g c tells all full low =
    let s = g.F.Family.shape in
    let h = g.H.Hasher.hash in
    let digest = g.H.Digest.Spelled.spelling in
    let admits = g.H.Digest.Read.admits tt in
    let a = g.V.Volume.state c.args.vol.now in
    let b = g.V.Volume.state c.prune.new.vol in
    let at : c.new.result ≡ (g.C.Contiguous.view c.self.inside.journal).start = c.new.ensures ∙ c.bounds-start.ensures.start in
    let e = c.in_err-merkle.field-0.0 in
    let here = subst (λ (k : Joined g.row.H-Digest.Denot g.row.C-Item-Cfg.Denot). IsFullOf s h digest admits all k.tree (present a)) (sym c.self.view_is) full in
    let le : c.new.result ≤ c.self.inside.merkle.tree.leaves = omega (arith, at, low, ap (λ (k : Joined g.row.H-Digest.Denot g.row.C-Item-Cfg.Denot). k.items.start) c.self.view_is, ap (λ (k : Joined g.row.H-Digest.Denot g.row.C-Item-Cfg.Denot). k.tree.tree.leaves) c.self.view_is) in
    err_and _ (from_tree e) IsOutside c.from_residual.ensures.1 (tree_outside e ((c.in_err-merkle.ensures {u = tt}).outside (can_prune c.self.inside.merkle.tree.leaves c.new.result le) tells h all here))

pub returns-in_err-merkle-clause-images : goal.returns-in_err-merkle-clause-images
returns-in_err-merkle-clause-images g c tells all durable top full stand =
    let s = g.F.Family.shape in
    let h = g.H.Hasher.hash in
    let digest = g.H.Digest.Spelled.spelling in
    let admits = g.H.Digest.Read.admits tt in
    let a = g.V.Volume.state c.args.vol.now in
    let b = g.V.Volume.state c.prune.new.vol in
    let at : c.new.result ≡ (g.C.Contiguous.view c.self.inside.journal).start = c.new.ensures ∙ c.bounds-start.ensures.start in
    let m = c.self.inside.merkle in
    let here = subst (λ (k : Joined g.row.H-Digest.Denot g.row.C-Item-Cfg.Denot). IsFullOf s h digest admits all k.tree (present a)) (sym c.self.view_is) full in
    let stands = subst (λ (k : Joined g.row.H-Digest.Denot g.row.C-Item-Cfg.Denot). AllStand s h digest all durable top k.tree a) (sym c.self.view_is) stand in
    subst (λ (k : Joined g.row.H-Digest.Denot g.row.C-Item-Cfg.Denot). StandsWhilePruned s h digest all durable top k.items.start k.tree a b) c.self.view_is
    (subst (λ (n : ℕ). StandsWhilePruned s h digest all durable top n m a b) at ((c.in_err-merkle.ensures {u = tt}).images tells h all durable top here stands))

pub returns-clause-moved : goal.returns-clause-moved
returns-clause-moved g c =
    let s = g.F.Family.shape in
    let h = g.H.Hasher.hash in
    let digest = g.H.Digest.Spelled.spelling in
    let admits = g.H.Digest.Read.admits tt in
    let a = g.V.Volume.state c.args.vol.now in
    let b = g.V.Volume.state c.prune.new.vol in
    let at : c.new.result ≡ (g.C.Contiguous.view c.self.inside.journal).start = c.new.ensures ∙ c.bounds-start.ensures.start in
    let t = c.self.inside.merkle in
    let u = c.in_ok-merkle.merkle in
    let did = c.in_ok-merkle.ensures {u = tt} in
    let stays : c.new.result ≤ t.boundary → u ≡ t = λ le. same_made u t c.prune.result (c.in_ok-merkle.was {u = tt}) (c.prune.ensures.below (not_failed t.log.failed (λ is. let bad = (did.kept is).0 in cc)) le).0 in
    let tree = subst (λ (n : ℕ). IsSameTree (at_boundary t (max t.boundary n)) u) at (pruned_same t u c.new.result stays did.moved) in
    let k : Joined g.row.H-Digest.Denot g.row.C-Item-Cfg.Denot = record { items = g.C.Contiguous.view c.self.inside.journal; tree = u; bagging = c.self.inside.hasher; failed = c.self.inside.failed } in
    subst (λ (i : Joined g.row.H-Digest.Denot g.row.C-Item-Cfg.Denot). IsPrunedTo i k) c.self.view_is (record { items = refl; tree = tree; bagging = refl; failed = refl })

pub returns-clause-rests : goal.returns-clause-rests
returns-clause-rests g c rests =
    let t = c.self.inside.merkle in
    let u = c.in_ok-merkle.merkle in
    let did = c.in_ok-merkle.ensures {u = tt} in
    let stays : c.new.result ≤ t.boundary → u ≡ t = λ le. same_made u t c.prune.result (c.in_ok-merkle.was {u = tt}) (c.prune.ensures.below (not_failed t.log.failed (λ is. let bad = (did.kept is).0 in cc)) le).0 in
    pruned_rests t u c.new.result stays g.F.Family.shape did.rests (subst (λ (k : Joined g.row.H-Digest.Denot g.row.C-Item-Cfg.Denot). Rests g.F.Family.shape k.tree) (sym c.self.view_is) rests)

pub returns-clause-full : goal.returns-clause-full
returns-clause-full g c tells all full =
    let h = g.H.Hasher.hash in
    let a = g.V.Volume.state c.args.vol.now in
    (c.in_ok-merkle.ensures {u = tt}).full tells h all (subst (λ (k : Joined g.row.H-Digest.Denot g.row.C-Item-Cfg.Denot). IsFullOf g.F.Family.shape h g.H.Digest.Spelled.spelling (g.H.Digest.Read.admits tt) all k.tree (present a)) (sym c.self.view_is) full)

pub returns-clause-images : goal.returns-clause-images
returns-clause-images g c tells all durable top full stand =
    let s = g.F.Family.shape in
    let h = g.H.Hasher.hash in
    let digest = g.H.Digest.Spelled.spelling in
    let admits = g.H.Digest.Read.admits tt in
    let a = g.V.Volume.state c.args.vol.now in
    let b = g.V.Volume.state c.prune.new.vol in
    let at : c.new.result ≡ (g.C.Contiguous.view c.self.inside.journal).start = c.new.ensures ∙ c.bounds-start.ensures.start in
    let m = c.self.inside.merkle in
    let here = subst (λ (k : Joined g.row.H-Digest.Denot g.row.C-Item-Cfg.Denot). IsFullOf s h digest admits all k.tree (present a)) (sym c.self.view_is) full in
    let stands = subst (λ (k : Joined g.row.H-Digest.Denot g.row.C-Item-Cfg.Denot). AllStand s h digest all durable top k.tree a) (sym c.self.view_is) stand in
    subst (λ (k : Joined g.row.H-Digest.Denot g.row.C-Item-Cfg.Denot). StandsWhilePruned s h digest all durable top k.items.start k.tree a b) c.self.view_is
    (subst (λ (n : ℕ). StandsWhilePruned s h digest all durable top n m a b) at ((c.in_ok-merkle.ensures {u = tt}).images tells h all durable top here stands))

pub returns-in_err-merkle-clause-changes : goal.returns-in_err-merkle-clause-changes
returns-in_err-merkle-clause-changes g c sound =
    let tells = g.V.Volume.tells in
    let a = g.V.Volume.state c.args.vol.now in
    let b = g.V.Volume.state c.prune.new.vol in
    let failed = c.self.invariant.tree (ap (λ (k : Joined g.row.H-Digest.Denot g.row.C-Item-Cfg.Denot). k.failed) c.self.view_is ∙ sound) in
    let e = c.in_err-merkle.field-0.0 in
    let result = c.from_residual.result in
    let is = c.from_residual.ensures.1 in
    changes_joins tells tree.Volume joined.Volume a a b (Err e) result (went_none tells a) ((c.in_err-merkle.ensures {u = tt}).changes failed)
    (fault_below from_tree joined.Volume tree.Volume result e volume_from_tree is) (err_not_ok result _ _ is)

pub returns-clause-changes : goal.returns-clause-changes
returns-clause-changes g c sound =
    let tells = g.V.Volume.tells in
    let a = g.V.Volume.state c.args.vol.now in
    let b = g.V.Volume.state c.prune.new.vol in
    let failed = c.self.invariant.tree (ap (λ (k : Joined g.row.H-Digest.Denot g.row.C-Item-Cfg.Denot). k.failed) c.self.view_is ∙ sound) in
    changes_done tells tree.Volume joined.Volume a a b c.in_ok-merkle.merkle _ (went_none tells a) ((c.in_ok-merkle.ensures {u = tt}).changes failed)

pub returns-clause-start : goal.returns-clause-start
returns-clause-start g c above tells all full =
    let s = g.F.Family.shape in
    let h = g.H.Hasher.hash in
    let digest = g.H.Digest.Spelled.spelling in
    let admits = g.H.Digest.Read.admits tt in
    let a = g.V.Volume.state c.args.vol.now in
    let at : c.new.result ≡ (g.C.Contiguous.view c.self.inside.journal).start = c.new.ensures ∙ c.bounds-start.ensures.start in
    let t = c.self.inside.merkle in
    let u = c.in_ok-merkle.merkle in
    let here = subst (λ (k : Joined g.row.H-Digest.Denot g.row.C-Item-Cfg.Denot). IsFullOf s h digest admits all k.tree (present a)) (sym c.self.view_is) full in
    let low : t.boundary < c.new.result = omega (arith, above, at, ap (λ (k : Joined g.row.H-Digest.Denot g.row.C-Item-Cfg.Denot). k.items.start) c.self.view_is, ap (λ (k : Joined g.row.H-Digest.Denot g.row.C-Item-Cfg.Denot). k.tree.boundary) c.self.view_is) in
    subst (λ (k : Joined g.row.H-Digest.Denot g.row.C-Item-Cfg.Denot). u.log.start ≡ max k.tree.log.start (blob_start k.tree.log.blob (length (made s k.items.start)))) c.self.view_is
    (subst (λ (n : ℕ). u.log.start ≡ max t.log.start (blob_start t.log.blob (length (made s n)))) at ((c.in_ok-merkle.ensures {u = tt}).start low tells h all here))

pub returns-clause-pins : goal.returns-clause-pins
returns-clause-pins g c tells =
    let a = g.V.Volume.state c.args.vol.now in
    let b = g.V.Volume.state c.prune.new.vol in
    subst (λ (k : Joined g.row.H-Digest.Denot g.row.C-Item-Cfg.Denot). KeepsPins (a.map k.tree.metadata) (b.map k.tree.metadata)) c.self.view_is ((c.in_ok-merkle.ensures {u = tt}).pins tells)

pub returns-clause-others : goal.returns-clause-others
returns-clause-others g c tells =
    let s = g.F.Family.shape in
    let a = g.V.Volume.state c.args.vol.now in
    let b = g.V.Volume.state c.prune.new.vol in
    let m = c.self.inside.merkle.metadata in
    let at : c.new.result ≡ (g.C.Contiguous.view c.self.inside.journal).start = c.new.ensures ∙ c.bounds-start.ensures.start in
    subst (λ (k : Joined g.row.H-Digest.Denot g.row.C-Item-Cfg.Denot). KeepsOthers (pins s k.items.start) (a.map k.tree.metadata) (b.map k.tree.metadata)) c.self.view_is
    (subst (λ (n : ℕ). KeepsOthers (pins s n) (a.map m) (b.map m)) at ((c.in_ok-merkle.ensures {u = tt}).others tells))

pub returns-in_err-merkle-clause-errors : goal.returns-in_err-merkle-clause-errors
returns-in_err-merkle-clause-errors g c =
    let s = g.F.Family.shape in
    let tells = g.V.Volume.tells in
    let digest = g.H.Digest.Spelled.spelling in
    let admits = g.H.Digest.Read.admits in
    let b = g.V.Volume.state c.prune.new.vol in
    let at : c.new.result ≡ (g.C.Contiguous.view c.self.inside.journal).start = c.new.ensures ∙ c.bounds-start.ensures.start in
    let m = c.self.inside.merkle in
    let e = c.in_err-merkle.field-0.0 in
    let did = c.in_err-merkle.ensures {u = tt} in
    let why = why_unpruned {T = Full g.row.H-Digest.Denot} s tells m (items_of digest admits m.log b) c.new.result e (λ failed. (did.kept failed).0) (λ sound d answer. (did.refused sound d answer).0) did.errors in
    let P = λ (k : Joined g.row.H-Digest.Denot g.row.C-Item-Cfg.Denot). IsTreeUnpruned {F = g.row.F.Denot} s tells k.tree (items_of digest admits k.tree.log b) k.items.start in
    err_and _ (from_tree e) (IsFromTree (P c.args.self)) c.from_residual.ensures.1
    (e, refl, subst (λ (k : Joined g.row.H-Digest.Denot g.row.C-Item-Cfg.Denot). P k e) c.self.view_is (subst (λ (n : ℕ). IsTreeUnpruned s tells m (items_of digest admits m.log b) n e) at why))

pub returns-clause-stays : goal.returns-clause-stays
returns-clause-stays g c low =
    let at : c.new.result ≡ (g.C.Contiguous.view c.self.inside.journal).start = c.new.ensures ∙ c.bounds-start.ensures.start in
    let t = c.self.inside.merkle in
    let u = c.in_ok-merkle.merkle in
    let did = c.in_ok-merkle.ensures {u = tt} in
    let le : c.new.result ≤ t.boundary = omega (arith, low, at, ap (λ (k : Joined g.row.H-Digest.Denot g.row.C-Item-Cfg.Denot). k.items.start) c.self.view_is, ap (λ (k : Joined g.row.H-Digest.Denot g.row.C-Item-Cfg.Denot). k.tree.boundary) c.self.view_is) in
    let both = c.prune.ensures.below (not_failed t.log.failed (λ is. let bad = (did.kept is).0 in cc)) le in
    (same_made u t c.prune.result (c.in_ok-merkle.was {u = tt}) both.0 ∙ ap (λ (k : Joined g.row.H-Digest.Denot g.row.C-Item-Cfg.Denot). k.tree) c.self.view_is, both.1)
