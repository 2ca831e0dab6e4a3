use Rattle.std.proofs.Common.{◌≡◌, inl, inr, refl, ◌≤◌, ◌<◌, length, Some, None, Option, sym, ◌∙◌, ap, arith, List}
use Rattle.std.specs.Prelude.{slice_get}
use Rattle.journal_base.specs.Items.{items_of}
use Rattle.merkle_full.proofs.ListLemmas.{there_is, taken}
use Rattle.keyless_db.specs.DbView.{DbView}
use Rattle.keyless_db.specs.Reading.{IsChainFault, IsReadAt, IsReadFault, kept_over}
use Rattle.keyless_db.proofs.KeptLemmas.{from_database}
use Rattle.keyless_db.proofs.ApplyLemmas.{if_more}
use Rattle.keyless_db.proofs.FaultLemmas.{err_more}
use Rattle.keyless_db.proofs.SeveralLemmas.{answers_by}
use Rattle.keyless_db.proofs.StillLemmas.{held_size}
use Rattle.keyless_db.proofs.database.Keyless.value_before.Goals as goal

pub returns-clause-listed : goal.returns-clause-listed
returns-clause-listed g c tells ops list first held all front below =
    let db = c.args.self.now in
    let l = c.args.location in
    let size : c.as_u64.result ≡ db.state.size = c.as_u64.ensures ∙ ap (λ (d : DbView g.row.F.Denot g.row.H-Digest.Denot g.row.O.Denot g.row.O-Cfg.Denot). d.state.size) c.self.view_is in
    let count : db.state.size ≡ length ops = held_size held in
    let within : l < db.state.size = omega (arith, c.if-location-as_u64.false, size) in
    let entry = there_is ops l (omega (arith, within, count)) in
    let at : slice_get list l ≡ Some entry.0 = taken list (length ops) l entry.0 (ap (λ (xs : List g.row.O.Denot). slice_get xs l) (sym front) ∙ entry.1) in
    answers_by (λ (v : Option g.row.O-Value.Denot). v) _ _ c.value.result (from_database g.O.Logged.meaning list (kept_over first db) l entry.0 below within at)
    (c.value.ensures.listed tells ops entry.0 held entry.1 (all entry.0 entry.1))

pub returns-then-location-as_u64-clause-fault : goal.returns-then-location-as_u64-clause-fault
returns-then-location-as_u64-clause-fault g c =
    let size : c.as_u64.result ≡ c.args.self.now.state.size = c.as_u64.ensures ∙ ap (λ (d : DbView g.row.F.Denot g.row.H-Digest.Denot g.row.O.Denot g.row.O-Cfg.Denot). d.state.size) c.self.view_is in
    let past : c.args.self.now.state.size ≤ c.args.location = omega (arith, c.if-location-as_u64.true, size) in
    inl (refl, past, refl)

pub returns-clause-fault : goal.returns-clause-fault
returns-clause-fault g c =
    let db = c.args.self.now in
    let items = items_of g.O.Spelled.spelling g.O.Read.admits db.journal.items (g.V.Volume.state c.args.vol.now) in
    err_more c.value.result (IsReadFault g.V.Volume.tells items c.args.location) (IsChainFault g.V.Volume.tells items db.state.size None c.args.location) c.value.ensures.fault (λ e fault. inr fault)

pub returns-clause-told : goal.returns-clause-told
returns-clause-told g c =
    let db = c.args.self.now in
    let m = g.O.Logged.meaning in
    let l = c.args.location in
    let items = items_of g.O.Spelled.spelling g.O.Read.admits db.journal.items (g.V.Volume.state c.args.vol.now) in
    let size : c.as_u64.result ≡ db.state.size = c.as_u64.ensures ∙ ap (λ (d : DbView g.row.F.Denot g.row.H-Digest.Denot g.row.O.Denot g.row.O-Cfg.Denot). d.state.size) c.self.view_is in
    let within : l < db.state.size = omega (arith, c.if-location-as_u64.false, size) in
    if_more c.value.result (λ v. g.V.Volume.tells → IsReadAt m items l v) (λ v. (l < db.state.size) × (g.V.Volume.tells → IsReadAt m items l v)) c.value.ensures.told (λ v told. (within, told))
