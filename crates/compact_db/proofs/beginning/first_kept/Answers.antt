use Rattle.std.proofs.Common.{◌≡◌, ℕ, List, [], ◌∷◌, ◌∙◌, ap, subst}
use Rattle.journal_base.specs.View.{View, seen_of}
use Rattle.volume_base.specs.Log.{Grows}
use Rattle.volume_base.specs.Volume.{LogCall}
use Rattle.volume_base.proofs.CallLemmas.{log_call_wider, log_call_then_stays}
use Rattle.volume_base.proofs.JoinLemmas.{on_ok}
use Rattle.witness_store.specs.Witness.{text_of}
use Rattle.compact_db.proofs.BeginLemmas.{shrinks_begins, begin_call, none_cut}
use Rattle.compact_db.proofs.SettleLemmas.{durable_as}
use Rattle.compact_db.proofs.beginning.first_kept.Goals as goal

pub returns-in_err-store-clause-log : goal.returns-in_err-store-clause-log
returns-in_err-store-clause-log g c told =
    log_call_wider _ _ _ _ _ (c.in_err-store.ensures.call.log told) (shrinks_begins _ (text_of g.D.Spelled.spelling c.args.witness.now))

pub returns-in_err-store-2-clause-log : goal.returns-in_err-store-2-clause-log
returns-in_err-store-2-clause-log g c told =
    let text = text_of g.D.Spelled.spelling c.args.witness.now in
    let old = g.V.Volume.state c.args.vol.now in
    let mid = g.V.Volume.state c.open.new.vol in
    let new = g.V.Volume.state c.append.new.vol in
    let named : c.in_ok-store.store.log.name ≡ (seen_of c.args.recovery).name = ap (λ (v : View (Unit {0})). v.name) c.in_ok-store.ensures.made.0 in
    begin_call (seen_of c.args.recovery).name _ text old mid new (c.in_ok-store.ensures.call.log told) (none_cut _ _ (c.requires.empty told) (c.in_ok-store.ensures.cut told))
    (subst (λ (n : List ℕ). LogCall n (Grows (mid.log n) (text ∷ [])) mid new) named (c.append.ensures.log told))

pub returns-clause-durable : goal.returns-clause-durable
returns-clause-durable g c =
    let new = g.V.Volume.state c.sync.new.vol in
    let first : c.in_ok-store.store.log.name ≡ (seen_of c.args.recovery).name = ap (λ (v : View (Unit {0})). v.name) c.in_ok-store.ensures.made.0 in
    let named : c.in_ok-store-2.store.log.name ≡ (seen_of c.args.recovery).name = ap (λ (v : View (Unit {0})). v.name) c.in_ok-store-2.ensures.made.0 ∙ first in
    on_ok c.sync.result _ _ (λ is told. durable_as (seen_of c.args.recovery) c.in_ok-store-2.store.log new named (is told)) c.sync.ensures.durable

pub returns-clause-log : goal.returns-clause-log
returns-clause-log g c told =
    let text = text_of g.D.Spelled.spelling c.args.witness.now in
    let old = g.V.Volume.state c.args.vol.now in
    let mid = g.V.Volume.state c.open.new.vol in
    let next = g.V.Volume.state c.append.new.vol in
    let new = g.V.Volume.state c.sync.new.vol in
    let first : c.in_ok-store.store.log.name ≡ (seen_of c.args.recovery).name = ap (λ (v : View (Unit {0})). v.name) c.in_ok-store.ensures.made.0 in
    let named : c.in_ok-store-2.store.log.name ≡ (seen_of c.args.recovery).name = ap (λ (v : View (Unit {0})). v.name) c.in_ok-store-2.ensures.made.0 ∙ first in
    log_call_then_stays (seen_of c.args.recovery).name _ old next new
    (begin_call (seen_of c.args.recovery).name _ text old mid next (c.in_ok-store.ensures.call.log told) (none_cut _ _ (c.requires.empty told) (c.in_ok-store.ensures.cut told))
    (subst (λ (n : List ℕ). LogCall n (Grows (mid.log n) (text ∷ [])) mid next) first (c.append.ensures.log told)))
    (rw named at (c.sync.ensures.log told))
