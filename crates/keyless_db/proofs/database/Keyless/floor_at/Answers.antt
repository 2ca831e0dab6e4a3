use Rattle.std.proofs.Common.{◌≡◌, ◌-◌, ◌≤◌, Some, None, Option, Err, inl, inr, sym, ◌∙◌, ap, subst, arith}
use Rattle.std.specs.Prelude.{is_none}
use Rattle.journal_base.specs.Items.{Items, items_of}
use Rattle.merkle_full.proofs.ReadLemmas.{ReadRefused}
use Rattle.auth_journal.specs.Joined.{Joined, log_view}
use Rattle.log_model.specs.Reads.{refuse_if, unless_refused}
use Rattle.log_model.specs.declared.refusal.Refusal.TheVariants.{HistoricalFloorPruned}
use Rattle.chain_core.specs.declared.error.Error.{Error}
use Rattle.chain_core.specs.declared.error.Error.TheVariants as db_error
use Rattle.keyless_db.specs.DbView.{DbView}
use Rattle.keyless_db.specs.Reading.{AnswersAs, IsNoCommitAt, IsReadFault, from_start}
use Rattle.keyless_db.proofs.LiftLemmas.{joined_back}
use Rattle.keyless_db.proofs.ProofLemmas.{floor_kept, floor_unread, log_never_floorless, no_commit_read}
use Rattle.keyless_db.proofs.ReadLemmas.{item_refused, read_fault}
use Rattle.keyless_db.proofs.database.Keyless.floor_at.Goals as goal

pub returns-in-Ok-clause-floor : goal.returns-in-Ok-clause-floor
returns-in-Ok-clause-floor g c tells ops op held at allowed =
    let s = g.F.Family.shape in
    let m = g.O.Logged.meaning in
    let n = c.args.count in
    let a = g.V.Volume.state c.args.vol.now in
    let b = g.V.Volume.state c.read.new.vol in
    let j = c.self.inside.journal in
    let same : j ≡ c.args.self.now.journal = ap (λ (d : DbView g.row.F.Denot g.row.H-Digest.Denot g.row.O.Denot g.row.O-Cfg.Denot). d.journal) c.self.view_is in
    let here = joined_back s g.H.Hasher.hash g.H.Digest.Spelled.spelling (g.H.Digest.Read.admits tt) g.O.Spelled.spelling ops j c.args.self.now.journal same a b held.journal in
    let may = subst (λ (x : Joined g.row.H-Digest.Denot g.row.O-Cfg.Denot). g.O.Read.admits x.items.codec op) (sym same) allowed in
    let there = (c.in-Ok.ensures {u = tt}).item tells in
    let is = (c.in-Ok.ensures {u = tt}).listed tells ops op here.items there.low at may in
    let start : c.args.self.now.journal.items.start ≤ n - 1 = omega (arith, there.low, here.start_is, ap (λ (x : Joined g.row.H-Digest.Denot g.row.O-Cfg.Denot). x.items.start) same) in
    let none : m.floor op ≡ None = ap m.floor (sym is) ∙ sym c.in-None.ensures in
    inr (
      HistoricalFloorPruned n,
      ap (λ r. unless_refused r (m.floor op)) (floor_kept c.args.self.now.journal.items.start n (m.floor op) start ∙ ap (λ o. refuse_if (is_none o) (HistoricalFloorPruned n)) none),
      ap (λ k. Some (HistoricalFloorPruned k)) c.new.ensures,
    )

pub returns-clause-floor : goal.returns-clause-floor
returns-clause-floor g c tells ops op held at allowed =
    let s = g.F.Family.shape in
    let m = g.O.Logged.meaning in
    let n = c.args.count in
    let a = g.V.Volume.state c.args.vol.now in
    let b = g.V.Volume.state c.read.new.vol in
    let j = c.self.inside.journal in
    let same : j ≡ c.args.self.now.journal = ap (λ (d : DbView g.row.F.Denot g.row.H-Digest.Denot g.row.O.Denot g.row.O-Cfg.Denot). d.journal) c.self.view_is in
    let here = joined_back s g.H.Hasher.hash g.H.Digest.Spelled.spelling (g.H.Digest.Read.admits tt) g.O.Spelled.spelling ops j c.args.self.now.journal same a b held.journal in
    let may = subst (λ (x : Joined g.row.H-Digest.Denot g.row.O-Cfg.Denot). g.O.Read.admits x.items.codec op) (sym same) allowed in
    let items : Items g.row.O.Denot = items_of g.O.Spelled.spelling g.O.Read.admits (log_view j) a in
    let read = c.in-Err.ensures {u = tt} in
    let refused : ReadRefused g.V.Volume.tells items (n - 1) c.in-Err.error = record {
      pruned = λ q is. read.pruned q (ap Err is);
      past = λ q is. read.out_of_range q (ap Err is);
      corrupt = λ q is. read.corrupt q (ap Err is);
      errors = read.errors;
    } in
    let answer = item_refused g.V.Volume.tells tells items ops here.items j.items.start (n - 1) here.start_is op at may (m.value op) g.row.F.Denot c.in-Err.error refused in
    let told : AnswersAs (λ (v : Option g.row.O-Value.Denot). v) (from_start c.args.self.now.journal.items.start (n - 1) (m.value op)) (Err c.from.result) =
    subst (λ (x : Joined g.row.H-Digest.Denot g.row.O-Cfg.Denot). AnswersAs (λ (v : Option g.row.O-Value.Denot). v) (from_start x.items.start (n - 1) (m.value op)) (Err c.from.result)) same
    (subst (λ (e : Error g.row.F.Denot). AnswersAs (λ (v : Option g.row.O-Value.Denot). v) (from_start j.items.start (n - 1) (m.value op)) (Err e)) (sym c.from.ensures) answer) in
    floor_unread c.args.self.now.journal.items.start n (m.floor op) (m.value op) (m.floor op) c.from.result told

pub returns-in-Ok-clause-fault : goal.returns-in-Ok-clause-fault
returns-in-Ok-clause-fault g c =
    let m = g.O.Logged.meaning in
    let n = c.args.count in
    let a = g.V.Volume.state c.args.vol.now in
    let j = c.self.inside.journal in
    let same : j ≡ c.args.self.now.journal = ap (λ (d : DbView g.row.F.Denot g.row.H-Digest.Denot g.row.O.Denot g.row.O-Cfg.Denot). d.journal) c.self.view_is in
    let read = c.in-Ok.ensures {u = tt} in
    inr (
      ap (λ k. db_error.HistoricalFloorPruned k) c.new.ensures,
      λ told. subst (λ (x : Joined g.row.H-Digest.Denot g.row.O-Cfg.Denot). IsNoCommitAt m (items_of g.O.Spelled.spelling g.O.Read.admits x.items a) (n - 1)) same
          (no_commit_read m (items_of g.O.Spelled.spelling g.O.Read.admits (log_view j) a) (n - 1) c.in-Ok.op (read.item told) read.admitted (sym c.in-None.ensures)),
    )

pub returns-clause-fault : goal.returns-clause-fault
returns-clause-fault g c =
    let spelling = g.O.Spelled.spelling in
    let n = c.args.count in
    let a = g.V.Volume.state c.args.vol.now in
    let j = c.self.inside.journal in
    let same : j ≡ c.args.self.now.journal = ap (λ (d : DbView g.row.F.Denot g.row.H-Digest.Denot g.row.O.Denot g.row.O-Cfg.Denot). d.journal) c.self.view_is in
    let items : Items g.row.O.Denot = items_of spelling g.O.Read.admits (log_view j) a in
    let read = c.in-Err.ensures {u = tt} in
    let refused : ReadRefused g.V.Volume.tells items (n - 1) c.in-Err.error = record {
      pruned = λ q is. read.pruned q (ap Err is);
      past = λ q is. read.out_of_range q (ap Err is);
      corrupt = λ q is. read.corrupt q (ap Err is);
      errors = read.errors;
    } in
    inl (subst (λ (x : Joined g.row.H-Digest.Denot g.row.O-Cfg.Denot). IsReadFault g.V.Volume.tells (items_of spelling g.O.Read.admits x.items a) (n - 1) c.from.result) same
    (read_fault g.V.Volume.tells items (n - 1) c.in-Err.error c.from.result c.from.ensures refused))

pub returns-in-Ok-clause-uncounted : goal.returns-in-Ok-clause-uncounted
returns-in-Ok-clause-uncounted g c n at = (c.in-Ok.ensures {u = tt}).answers.kept

pub returns-clause-uncounted : goal.returns-clause-uncounted
returns-clause-uncounted g c n at = absurd (log_never_floorless c.in-Err.error c.from.result n c.from.ensures at)
