use Rattle.auth_journal.proofs.ErrorLemmas.{volume_from_tree}
use Rattle.auth_journal.proofs.DurableLemmas.{err_not_ok, fault_below}
use Rattle.auth_journal.specs.declared.error.Error.TheVariants as joined
use Rattle.auth_journal.specs.Errors.{from_tree}
use Rattle.journal_base.specs.View.{left_of}
use Rattle.volume_base.proofs.JoinLemmas.{writes_joins}
use Rattle.tree_store.specs.declared.error.Error.TheVariants as tree
use Rattle.volume_base.specs.declared.error.JournalError.TheVariants as journal
use Rattle.std.proofs.Common.{Err, subst, sym, arith}
use Rattle.volume_base.specs.Log.{Vanishes}
use Rattle.volume_base.specs.Names.{NamesCall}
use Rattle.volume_base.proofs.CallLemmas.{names_call_joins}
use Rattle.auth_journal.specs.Joined.{Joined}
use Rattle.auth_journal.specs.Standing.{names_of, ItemsGoFirst}
use Rattle.auth_journal.proofs.PruneLemmas.{items_go, tree_goes}
use Rattle.auth_journal.proofs.StandingLemmas.{names_items, names_tree_and_map}
use Rattle.auth_journal.proofs.journal.Journal.destroy.Goals as goal

pub returns-in_err-destroy-clause-images : goal.returns-in_err-destroy-clause-images
returns-in_err-destroy-clause-images g c tells =
    let a = g.V.Volume.state c.args.vol.now in
    let b = g.V.Volume.state c.destroy.new.vol in
    let j : Joined g.row.H-Digest.Denot g.row.C-Item-Cfg.Denot = record { items = g.C.Contiguous.view c.self.inside.journal; tree = c.self.inside.merkle; bagging = c.self.inside.hasher; failed = c.self.inside.failed } in
    subst (λ (k : Joined g.row.H-Digest.Denot g.row.C-Item-Cfg.Denot). ItemsGoFirst k a b) c.self.view_is (items_go j c.self.invariant.apart a b ((c.in_err-destroy.ensures {u = tt}).log g.met.C.Backing.is_one_log tells).images)

pub returns-in_err-destroy-2-clause-images : goal.returns-in_err-destroy-2-clause-images
returns-in_err-destroy-2-clause-images g c tells =
    let a = g.V.Volume.state c.args.vol.now in
    let b = g.V.Volume.state c.destroy.new.vol in
    let d = g.V.Volume.state c.destroy-2.new.vol in
    let j : Joined g.row.H-Digest.Denot g.row.C-Item-Cfg.Denot = record { items = g.C.Contiguous.view c.self.inside.journal; tree = c.self.inside.merkle; bagging = c.self.inside.hasher; failed = c.self.inside.failed } in
    let gone = c.in_ok-destroy.ensures {u = tt} in
    subst (λ (k : Joined g.row.H-Digest.Denot g.row.C-Item-Cfg.Denot). ItemsGoFirst k a d) c.self.view_is (tree_goes j c.self.invariant.apart a b d (gone.log g.met.C.Backing.is_one_log tells).images (gone.durable tells) ((c.in_err-destroy-2.ensures {u = tt}).names tells))

pub returns-in_err-destroy-2-clause-names : goal.returns-in_err-destroy-2-clause-names
returns-in_err-destroy-2-clause-names g c tells =
    let a = g.V.Volume.state c.args.vol.now in
    let b = g.V.Volume.state c.destroy.new.vol in
    let d = g.V.Volume.state c.destroy-2.new.vol in
    let j : Joined g.row.H-Digest.Denot g.row.C-Item-Cfg.Denot = record { items = g.C.Contiguous.view c.self.inside.journal; tree = c.self.inside.merkle; bagging = c.self.inside.hasher; failed = c.self.inside.failed } in
    subst (λ (k : Joined g.row.H-Digest.Denot g.row.C-Item-Cfg.Denot). NamesCall (names_of k) a d) c.self.view_is
    (names_call_joins (names_of j) a b d (names_items j a b Vanishes ((c.in_ok-destroy.ensures {u = tt}).log g.met.C.Backing.is_one_log tells)) (names_tree_and_map j b d ((c.in_err-destroy-2.ensures {u = tt}).names tells)))

pub returns-clause-images : goal.returns-clause-images
returns-clause-images g c tells =
    let a = g.V.Volume.state c.args.vol.now in
    let b = g.V.Volume.state c.destroy.new.vol in
    let d = g.V.Volume.state c.destroy-2.new.vol in
    let j : Joined g.row.H-Digest.Denot g.row.C-Item-Cfg.Denot = record { items = g.C.Contiguous.view c.self.inside.journal; tree = c.self.inside.merkle; bagging = c.self.inside.hasher; failed = c.self.inside.failed } in
    let gone = c.in_ok-destroy.ensures {u = tt} in
    subst (λ (k : Joined g.row.H-Digest.Denot g.row.C-Item-Cfg.Denot). ItemsGoFirst k a d) c.self.view_is (tree_goes j c.self.invariant.apart a b d (gone.log g.met.C.Backing.is_one_log tells).images (gone.durable tells) ((c.in_ok-destroy-2.ensures {u = tt}).names tells))

pub returns-clause-names : goal.returns-clause-names
returns-clause-names g c tells =
    let a = g.V.Volume.state c.args.vol.now in
    let b = g.V.Volume.state c.destroy.new.vol in
    let d = g.V.Volume.state c.destroy-2.new.vol in
    let j : Joined g.row.H-Digest.Denot g.row.C-Item-Cfg.Denot = record { items = g.C.Contiguous.view c.self.inside.journal; tree = c.self.inside.merkle; bagging = c.self.inside.hasher; failed = c.self.inside.failed } in
    subst (λ (k : Joined g.row.H-Digest.Denot g.row.C-Item-Cfg.Denot). NamesCall (names_of k) a d) c.self.view_is
    (names_call_joins (names_of j) a b d (names_items j a b Vanishes ((c.in_ok-destroy.ensures {u = tt}).log g.met.C.Backing.is_one_log tells)) (names_tree_and_map j b d ((c.in_ok-destroy-2.ensures {u = tt}).names tells)))

pub returns-in_err-destroy-clause-names : goal.returns-in_err-destroy-clause-names
returns-in_err-destroy-clause-names g c tells =
    let a = g.V.Volume.state c.args.vol.now in
    let b = g.V.Volume.state c.destroy.new.vol in
    let j : Joined g.row.H-Digest.Denot g.row.C-Item-Cfg.Denot = record { items = g.C.Contiguous.view c.self.inside.journal; tree = c.self.inside.merkle; bagging = c.self.inside.hasher; failed = c.self.inside.failed } in
    subst (λ (k : Joined g.row.H-Digest.Denot g.row.C-Item-Cfg.Denot). NamesCall (names_of k) a b) c.self.view_is (names_items j a b Vanishes ((c.in_err-destroy.ensures {u = tt}).log g.met.C.Backing.is_one_log tells))

pub returns-in_err-destroy-2-clause-writes : goal.returns-in_err-destroy-2-clause-writes
returns-in_err-destroy-2-clause-writes g c =
    let a = g.V.Volume.state c.args.vol.now in
    let b = g.V.Volume.state c.destroy.new.vol in
    let d = g.V.Volume.state c.destroy-2.new.vol in
    let e = c.in_err-destroy-2.field-0.0 in
    let result = c.from_residual-in_err-destroy-2.result in
    let is = c.from_residual-in_err-destroy-2.ensures.1 in
    writes_joins g.V.Volume.tells journal.Volume tree.Volume joined.Volume a b d _ (Err e) result ((c.in_ok-destroy.ensures {u = tt}).writes) ((c.in_err-destroy-2.ensures {u = tt}).writes)
    (fault_below from_tree joined.Volume tree.Volume result e volume_from_tree is) (λ kept. err_not_ok result _ _ is)

pub returns-clause-durable_items : goal.returns-clause-durable_items
returns-clause-durable_items g c tells image left =
    let d = g.V.Volume.state c.destroy-2.new.vol in
    let j : Joined g.row.H-Digest.Denot g.row.C-Item-Cfg.Denot = record { items = g.C.Contiguous.view c.self.inside.journal; tree = c.self.inside.merkle; bagging = c.self.inside.hasher; failed = c.self.inside.failed } in
    let call = (c.in_ok-destroy-2.ensures {u = tt}).names tells in
    let here = subst (λ (k : Joined g.row.H-Digest.Denot g.row.C-Item-Cfg.Denot). left_of k.items d image) (sym c.self.view_is) left in
    (c.in_ok-destroy.ensures {u = tt}).durable tells image ((call.images.logs j.items.name (c.self.invariant.apart, tt) d.clock image call.images.past.later (omega arith)).0 here)
