use Rattle.std.proofs.Common.{◌∙◌, ap}
use Rattle.std.specs.Prelude.{Ok}
use Rattle.std.proofs.lemmas.Result.{IfOk-weaker}
use Rattle.log_model.specs.Machine.{batch_at}
use Rattle.list_machine.specs.Step.{step, begin, append_to, seal, hold, release, snapshot}
use Rattle.list_machine.specs.Told.{IsTold}
use Rattle.twin_batches.specs.StateOf.{AnyState}
use Rattle.twin_batches.proofs.Commanding.{commanded}
use Rattle.twin_batches.proofs.LeftBatches.{named_left}
use Rattle.twin_side.proofs.side.Side.on_batches.Goals as goal

pub returns-in-New-clause-ok : goal.returns-in-New-clause-ok
returns-in-New-clause-ok g c = commanded g.D.Database.kind c.begin.result AnyState
    (λ s. begin s c.in-New.parent) c.args.self.now.limit c.args.command.now c.args.self.now.db
    c.args.self.now.numbers c.begin.new.self.numbers
    (λ config e s. ap (step config s) c.in-New.is) (λ s told. tt) c.begin.ensures.ok

pub returns-in-Append-clause-ok : goal.returns-in-Append-clause-ok
returns-in-Append-clause-ok g c =
    let b = c.in-Append.b in
    let v = c.in-Append.value in
    commanded g.D.Database.kind c.append.result AnyState
    (λ s. append_to c.args.self.now.limit s b v (batch_at s b)) c.args.self.now.limit c.args.command.now
    c.args.self.now.db c.args.self.now.numbers c.append.new.self.numbers
    (λ config e s. ap (step config s) c.in-Append.is ∙ ap (λ n. append_to n s b v (batch_at s b)) e)
    (λ s told. tt) c.append.ensures.ok

pub returns-in-Seal-clause-ok : goal.returns-in-Seal-clause-ok
returns-in-Seal-clause-ok g c =
    let b = c.in-Seal.b in
    commanded g.D.Database.kind c.seal.result IsTold (λ s. seal c.args.self.now.limit s b c.in-Seal.metadata c.in-Seal.floor
    (batch_at s b)) c.args.self.now.limit c.args.command.now c.args.self.now.db c.args.self.now.numbers
    c.seal.new.self.numbers
    (λ config e s. ap (step config s) c.in-Seal.is ∙ ap (λ n. seal n s b c.in-Seal.metadata c.in-Seal.floor
    (batch_at s b)) e) (λ s told. told) c.seal.ensures.ok

pub returns-in-Hold-clause-ok : goal.returns-in-Hold-clause-ok
returns-in-Hold-clause-ok g c = commanded g.D.Database.kind {E = ⊥} (Ok c.hold.result) AnyState
    (λ s. hold s c.in-Hold.b (batch_at s c.in-Hold.b)) c.args.self.now.limit c.args.command.now c.args.self.now.db
    c.args.self.now.numbers c.hold.new.self.numbers
    (λ config e s. ap (step config s) c.in-Hold.is) (λ s told. tt) c.hold.ensures.ok

pub returns-in-Release-clause-ok : goal.returns-in-Release-clause-ok
returns-in-Release-clause-ok g c = commanded g.D.Database.kind {E = ⊥} (Ok c.release.result) AnyState
    (λ s. release s c.in-Release.b (batch_at s c.in-Release.b)) c.args.self.now.limit c.args.command.now
    c.args.self.now.db c.args.self.now.numbers c.release.new.self.numbers
    (λ config e s. ap (step config s) c.in-Release.is) (λ s told. tt) c.release.ensures.ok

pub returns-in-Snapshot-clause-ok : goal.returns-in-Snapshot-clause-ok
returns-in-Snapshot-clause-ok g c = commanded g.D.Database.kind c.snapshot.result AnyState snapshot c.args.self.now.limit
    c.args.command.now c.args.self.now.db c.args.self.now.numbers c.snapshot.new.self.numbers
    (λ config e s. ap (step config s) c.in-Snapshot.is) (λ s told. tt) c.snapshot.ensures.ok

pub returns-in-New-clause-refused : goal.returns-in-New-clause-refused
returns-in-New-clause-refused g c = named_left g.D.Database.kind c.begin.result c.args.self.now.numbers
    c.begin.new.self.numbers c.args.command.now _ c.in-New.is c.begin.ensures.refused

pub returns-in-Append-clause-refused : goal.returns-in-Append-clause-refused
returns-in-Append-clause-refused g c = named_left g.D.Database.kind c.append.result c.args.self.now.numbers
    c.append.new.self.numbers c.args.command.now _ c.in-Append.is c.append.ensures.refused

pub returns-in-Seal-clause-refused : goal.returns-in-Seal-clause-refused
returns-in-Seal-clause-refused g c = named_left g.D.Database.kind c.seal.result c.args.self.now.numbers
    c.seal.new.self.numbers c.args.command.now _ c.in-Seal.is c.seal.ensures.refused

pub returns-in-Hold-clause-refused : goal.returns-in-Hold-clause-refused
returns-in-Hold-clause-refused g c = named_left g.D.Database.kind {E = ⊥} (Ok c.hold.result)
    c.args.self.now.numbers c.hold.new.self.numbers c.args.command.now _ c.in-Hold.is c.hold.ensures.refused

pub returns-in-Release-clause-refused : goal.returns-in-Release-clause-refused
returns-in-Release-clause-refused g c = named_left g.D.Database.kind {E = ⊥} (Ok c.release.result)
    c.args.self.now.numbers c.release.new.self.numbers c.args.command.now _ c.in-Release.is c.release.ensures.refused

pub returns-in-Snapshot-clause-refused : goal.returns-in-Snapshot-clause-refused
returns-in-Snapshot-clause-refused g c = IfOk-weaker c.snapshot.result _ _ (λ a done why is. absurd (done why is))
    c.snapshot.ensures.done
