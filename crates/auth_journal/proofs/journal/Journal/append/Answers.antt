use Rattle.std.proofs.Common.{◌≡◌, ◌≢◌, ℕ, List, [], ◌∷◌, refl, sym, ◌∙◌, ap, subst, arith, Err}
use Rattle.volume_base.specs.declared.error.JournalError.TheVariants as journal
use Rattle.auth_journal.specs.Errors.{from_journal}
use Rattle.auth_journal.specs.Joined.{Joined}
use Rattle.auth_journal.specs.declared.error.Error.TheVariants as joined
use Rattle.auth_journal.proofs.AppendLemmas.{appends_not, appends_handed, appends_ok}
use Rattle.auth_journal.proofs.ErrorLemmas.{handed_error}
use Rattle.auth_journal.proofs.GrowLemmas.{none_stands}
use Rattle.auth_journal.proofs.journal.Journal.append.Goals as goal

pub returns-in_err-check_room-clause-appends : goal.returns-in_err-check_room-clause-appends
returns-in_err-check_room-clause-appends g c =
    let a = g.V.Volume.state c.args.vol.now in
    let e = c.in_err-check_room.field-0.0 in
    appends_not g.V.Volume.tells g.C.Item.Spelled.spelling c.args.self.items (c.args.item.now ∷ []) a a _ e _ c.from_residual.ensures.1 (λ is. let same = sym (c.in_err-check_room.ensures {u = tt}).refused.0 ∙ is in cc)

pub returns-in_err-check_room-clause-images : goal.returns-in_err-check_room-clause-images
returns-in_err-check_room-clause-images g c tells list marks joined =
    let off = subst (λ (k : Joined g.row.H-Digest.Denot g.row.C-Item-Cfg.Denot). k.items.name ≢ k.tree.log.name) c.self.view_is c.self.invariant.apart in
    none_stands g.F.Family.shape g.H.Hasher.hash g.H.Digest.Spelled.spelling g.C.Item.Spelled.spelling list (c.args.item.now ∷ []) c.args.self off g.met.F.Family.lawful (g.V.Volume.state c.args.vol.now) marks joined.items

pub returns-in_err-encoding-clause-appends : goal.returns-in_err-encoding-clause-appends
returns-in_err-encoding-clause-appends g c =
    let a = g.V.Volume.state c.args.vol.now in
    let e = c.in_err-encoding.field-0.0 in
    let memory : e ≡ journal.Memory = (c.in_err-encoding.ensures {u = tt}).memory in
    appends_not g.V.Volume.tells g.C.Item.Spelled.spelling c.args.self.items (c.args.item.now ∷ []) a a _ (from_journal e) _ c.from_residual-in_err-encoding.ensures.1
    (λ is. let same : joined.Memory ≡ joined.Volume = sym (ap from_journal memory) ∙ is in cc)

pub returns-in_err-encoding-clause-images : goal.returns-in_err-encoding-clause-images
returns-in_err-encoding-clause-images g c tells list marks joined =
    let off = subst (λ (k : Joined g.row.H-Digest.Denot g.row.C-Item-Cfg.Denot). k.items.name ≢ k.tree.log.name) c.self.view_is c.self.invariant.apart in
    none_stands g.F.Family.shape g.H.Hasher.hash g.H.Digest.Spelled.spelling g.C.Item.Spelled.spelling list (c.args.item.now ∷ []) c.args.self off g.met.F.Family.lawful (g.V.Volume.state c.args.vol.now) marks joined.items

pub returns-in_err-made-clause-appends : goal.returns-in_err-made-clause-appends
returns-in_err-made-clause-appends g c =
    let spelling = g.C.Item.Spelled.spelling in
    let same = ap (λ (el : List ℕ). el ∷ []) (sym (c.in_ok-encoding.ensures {u = tt}).same) in
    appends_handed g.V.Volume.tells spelling c.args.self.items (c.args.item.now ∷ []) (g.V.Volume.state c.args.vol.now) (g.V.Volume.state c.put.new.vol) (λ made. made.0.items) _ c.put.result c.in_err-made.field-0.0 c.from_residual-in_err-made.result (c.in_err-made.was {u = tt}) c.from_residual-in_err-made.ensures.1 (c.put.ensures.appends (c.args.item.now ∷ []) same)

pub returns-in_err-made-clause-images : goal.returns-in_err-made-clause-images
returns-in_err-made-clause-images g c tells list marks joined =
    let same = ap (λ (el : List ℕ). el ∷ []) (sym (c.in_ok-encoding.ensures {u = tt}).same) in
    c.put.ensures.images tells list (c.args.item.now ∷ []) marks same joined

pub returns-in_err-made-clause-overflow : goal.returns-in_err-made-clause-overflow
returns-in_err-made-clause-overflow g c e at =
    let handed = handed_error _ c.in_err-made.field-0.0 (joined.Journal e) c.from_residual-in_err-made.ensures.1 at in
    let own = c.put.ensures.overflow e (c.in_err-made.was {u = tt} ∙ ap Err handed) in
    (own.0, λ told. omega (arith, (own.1 told).0, (own.1 told).1))

pub returns-clause-appends : goal.returns-clause-appends
returns-clause-appends g c =
    let spelling = g.C.Item.Spelled.spelling in
    let same = ap (λ (el : List ℕ). el ∷ []) (sym (c.in_ok-encoding.ensures {u = tt}).same) in
    let pair : (Joined g.row.H-Digest.Denot g.row.C-Item-Cfg.Denot) × ℕ = (c.in_ok-made.made, c.in_ok-made.position) in
    appends_ok g.V.Volume.tells spelling c.args.self.items (c.args.item.now ∷ []) (g.V.Volume.state c.args.vol.now) (g.V.Volume.state c.put.new.vol) joined.Volume joined.Volume (λ made. made.0.items) _ pair _ ((c.in_ok-made.ensures {u = tt}).appends (c.args.item.now ∷ []) same) refl

pub returns-clause-joined : goal.returns-clause-joined
returns-clause-joined g c tells list joined =
    let same = ap (λ (el : List ℕ). el ∷ []) (sym (c.in_ok-encoding.ensures {u = tt}).same) in
    (c.in_ok-made.ensures {u = tt}).joined tells list (c.args.item.now ∷ []) same joined

pub returns-clause-images : goal.returns-clause-images
returns-clause-images g c tells list marks joined =
    let same = ap (λ (el : List ℕ). el ∷ []) (sym (c.in_ok-encoding.ensures {u = tt}).same) in
    c.put.ensures.images tells list (c.args.item.now ∷ []) marks same joined
