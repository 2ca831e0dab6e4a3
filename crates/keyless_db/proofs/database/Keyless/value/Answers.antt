use Rattle.std.proofs.Common.{◌≡◌, Ok, Err, sym, ◌∙◌, ap, subst}
use Rattle.volume_base.specs.declared.error.JournalError.TheVariants as journal_error
use Rattle.journal_base.specs.Items.{Items, items_of}
use Rattle.merkle_full.proofs.ReadLemmas.{ReadRefused}
use Rattle.auth_journal.specs.Joined.{Joined, log_view}
use Rattle.chain_core.specs.declared.error.Error.{Error}
use Rattle.chain_core.specs.declared.error.Error.TheVariants.{Volume}
use Rattle.keyless_db.specs.DbView.{DbView}
use Rattle.keyless_db.specs.Reading.{AnswersAs, IsReadAt, IsReadFault, from_start}
use Rattle.keyless_db.proofs.LiftLemmas.{joined_back, reads_like, volume_of_log, ok_never}
use Rattle.keyless_db.proofs.ReadLemmas.{item_read, item_refused, read_fault}
use Rattle.keyless_db.proofs.database.Keyless.value.Goals as goal

pub returns-in-Ok-clause-listed : goal.returns-in-Ok-clause-listed
returns-in-Ok-clause-listed g c tells ops op held at allowed =
    let s = g.F.Family.shape in
    let h = g.H.Hasher.hash in
    let digest = g.H.Digest.Spelled.spelling in
    let admits = g.H.Digest.Read.admits tt in
    let spelling = g.O.Spelled.spelling in
    let m = g.O.Logged.meaning in
    let a = g.V.Volume.state c.args.vol.now in
    let b = g.V.Volume.state c.read.new.vol in
    let j = c.self.inside.journal in
    let same : j ≡ c.args.self.now.journal = ap (λ (d : DbView g.row.F.Denot g.row.H-Digest.Denot g.row.O.Denot g.row.O-Cfg.Denot). d.journal) c.self.view_is in
    let here = joined_back s h digest admits spelling ops j c.args.self.now.journal same a b held.journal in
    let may = subst (λ (x : Joined g.row.H-Digest.Denot g.row.O-Cfg.Denot). g.O.Read.admits x.items.codec op) (sym same) allowed in
    let items : Items g.row.O.Denot = items_of spelling g.O.Read.admits (log_view j) a in
    let there = (c.in-Ok.ensures {u = tt}).item tells in
    let is = (c.in-Ok.ensures {u = tt}).listed tells ops op here.items there.low at may in
    let value = c.into_value.ensures ∙ ap m.value is in
    subst (λ (x : Joined g.row.H-Digest.Denot g.row.O-Cfg.Denot). from_start x.items.start c.args.location (m.value op) ≡ Ok c.into_value.result) same
    (item_read g.V.Volume.tells tells items ops here.items j.items.start c.args.location here.start_is op at may (m.value op) c.in-Ok.op there ∙ ap Ok (sym value))

pub returns-in-Err-clause-listed : goal.returns-in-Err-clause-listed
returns-in-Err-clause-listed g c tells ops op held at allowed =
    let s = g.F.Family.shape in
    let h = g.H.Hasher.hash in
    let digest = g.H.Digest.Spelled.spelling in
    let admits = g.H.Digest.Read.admits tt in
    let spelling = g.O.Spelled.spelling in
    let m = g.O.Logged.meaning in
    let a = g.V.Volume.state c.args.vol.now in
    let b = g.V.Volume.state c.read.new.vol in
    let j = c.self.inside.journal in
    let same : j ≡ c.args.self.now.journal = ap (λ (d : DbView g.row.F.Denot g.row.H-Digest.Denot g.row.O.Denot g.row.O-Cfg.Denot). d.journal) c.self.view_is in
    let here = joined_back s h digest admits spelling ops j c.args.self.now.journal same a b held.journal in
    let may = subst (λ (x : Joined g.row.H-Digest.Denot g.row.O-Cfg.Denot). g.O.Read.admits x.items.codec op) (sym same) allowed in
    let items : Items g.row.O.Denot = items_of spelling g.O.Read.admits (log_view j) a in
    let read = c.in-Err.ensures {u = tt} in
    let refused : ReadRefused g.V.Volume.tells items c.args.location c.in-Err.error = record {
      pruned = λ q is. read.pruned q (ap Err is);
      past = λ q is. read.out_of_range q (ap Err is);
      corrupt = λ q is. read.corrupt q (ap Err is);
      errors = read.errors;
    } in
    let answer = item_refused g.V.Volume.tells tells items ops here.items j.items.start c.args.location here.start_is op at may (m.value op) g.row.F.Denot c.in-Err.error refused in
    subst (λ (x : Joined g.row.H-Digest.Denot g.row.O-Cfg.Denot). AnswersAs (λ v. v) (from_start x.items.start c.args.location (m.value op)) (Err c.from.result)) same
    (subst (λ (e : Error g.row.F.Denot). AnswersAs (λ v. v) (from_start j.items.start c.args.location (m.value op)) (Err e)) (sym c.from.ensures) answer)

pub returns-in-Err-clause-fault : goal.returns-in-Err-clause-fault
returns-in-Err-clause-fault g c =
    let spelling = g.O.Spelled.spelling in
    let a = g.V.Volume.state c.args.vol.now in
    let j = c.self.inside.journal in
    let same : j ≡ c.args.self.now.journal = ap (λ (d : DbView g.row.F.Denot g.row.H-Digest.Denot g.row.O.Denot g.row.O-Cfg.Denot). d.journal) c.self.view_is in
    let items : Items g.row.O.Denot = items_of spelling g.O.Read.admits (log_view j) a in
    let read = c.in-Err.ensures {u = tt} in
    let refused : ReadRefused g.V.Volume.tells items c.args.location c.in-Err.error = record {
      pruned = λ q is. read.pruned q (ap Err is);
      past = λ q is. read.out_of_range q (ap Err is);
      corrupt = λ q is. read.corrupt q (ap Err is);
      errors = read.errors;
    } in
    subst (λ (x : Joined g.row.H-Digest.Denot g.row.O-Cfg.Denot). IsReadFault g.V.Volume.tells (items_of spelling g.O.Read.admits x.items a) c.args.location c.from.result) same
    (read_fault g.V.Volume.tells items c.args.location c.in-Err.error c.from.result c.from.ensures refused)

pub returns-in-Ok-clause-reads : goal.returns-in-Ok-clause-reads
returns-in-Ok-clause-reads g c =
    reads_like g.V.Volume.tells journal_error.Volume Volume (g.V.Volume.state c.args.vol.now) (g.V.Volume.state c.read.new.vol) (Ok c.in-Ok.op) _ tt (λ is. ok_never _ Volume _ is) (c.in-Ok.ensures {u = tt}).answers

pub returns-in-Err-clause-reads : goal.returns-in-Err-clause-reads
returns-in-Err-clause-reads g c =
    reads_like g.V.Volume.tells journal_error.Volume Volume (g.V.Volume.state c.args.vol.now) (g.V.Volume.state c.read.new.vol) (Err c.in-Err.error) _ tt (volume_of_log c.in-Err.error c.from.result c.from.ensures) (c.in-Err.ensures {u = tt}).answers

pub returns-in-Ok-clause-told : goal.returns-in-Ok-clause-told
returns-in-Ok-clause-told g c tells =
    let m = g.O.Logged.meaning in
    let a = g.V.Volume.state c.args.vol.now in
    let same : c.self.inside.journal ≡ c.args.self.now.journal = ap (λ (d : DbView g.row.F.Denot g.row.H-Digest.Denot g.row.O.Denot g.row.O-Cfg.Denot). d.journal) c.self.view_is in
    let there = (c.in-Ok.ensures {u = tt}).item tells in
    let may = (c.in-Ok.ensures {u = tt}).admitted in
    subst (λ (x : Joined g.row.H-Digest.Denot g.row.O-Cfg.Denot). IsReadAt m (items_of g.O.Spelled.spelling g.O.Read.admits x.items a) c.args.location c.into_value.result) same (c.in-Ok.op, there, may, c.into_value.ensures)
