use Rattle.std.proofs.Common.{sym}
use Rattle.std.specs.Prelude.{Ok}
use Rattle.std.proofs.lemmas.Result.{IfOk-weaker}
use Rattle.chain_core.specs.Answers.{IsOutside}
use Rattle.command_text.specs.declared.command.Command.TheVariants as command
use Rattle.twin_batches.proofs.Commanding.{asked, asked_of, asked_told, fails_as}
use Rattle.twin_databases.specs.FullKind.{full_kind}
use Rattle.twin_side.proofs.commands.Side+Full.ask.Goals as goal

pub returns-in-Get-clause-ok : goal.returns-in-Get-clause-ok
returns-in-Get-clause-ok g c = asked full_kind _ _ c.args.self.now.db c.args.self.now.numbers c.get.result
    c.args.command.now (command.Get c.in-Get.l) c.in-Get.is c.get.ensures.ok

pub returns-in-GetMany-clause-ok : goal.returns-in-GetMany-clause-ok
returns-in-GetMany-clause-ok g c = asked full_kind _ _ c.args.self.now.db c.args.self.now.numbers c.get_many.result
    c.args.command.now (command.GetMany c.in-GetMany.ls) c.in-GetMany.is c.get_many.ensures.ok

pub returns-in-BatchGet-clause-ok : goal.returns-in-BatchGet-clause-ok
returns-in-BatchGet-clause-ok g c = asked_told full_kind _ _ c.args.self.now.db c.args.self.now.numbers c.batch_get.result
    c.args.command.now (command.BatchGet c.in-BatchGet.b c.in-BatchGet.l) c.in-BatchGet.is c.batch_get.ensures.ok

pub returns-in-BatchGetMany-clause-ok : goal.returns-in-BatchGetMany-clause-ok
returns-in-BatchGetMany-clause-ok g c = asked_told full_kind _ _ c.args.self.now.db c.args.self.now.numbers
    c.batch_get_many.result c.args.command.now (command.BatchGetMany c.in-BatchGetMany.b c.in-BatchGetMany.ls)
    c.in-BatchGetMany.is c.batch_get_many.ensures.ok

pub returns-in-Size-clause-ok : goal.returns-in-Size-clause-ok
returns-in-Size-clause-ok g c = asked_of {E = ⊥} full_kind _ _ c.args.self.now.db
    c.args.self.now.numbers (Ok c.size.result) c.args.command.now command.Size c.in-Size.is
    (λ image s is config. c.size.ensures image s is (sym (c.start.ensures image s is)))

pub returns-in-Metadata-clause-ok : goal.returns-in-Metadata-clause-ok
returns-in-Metadata-clause-ok g c = asked_of full_kind _ _ c.args.self.now.db c.args.self.now.numbers
    c.metadata.result c.args.command.now command.Metadata c.in-Metadata.is
    (IfOk-weaker c.metadata.result _ _ (λ a ok image s is config. ok image s is) c.metadata.ensures.ok)

pub returns-in-Proof-clause-ok : goal.returns-in-Proof-clause-ok
returns-in-Proof-clause-ok g c = asked full_kind _ _ c.args.self.now.db c.args.self.now.numbers c.prove.result
    c.args.command.now (command.Proof c.in-Proof.n c.in-Proof.a c.in-Proof.count) c.in-Proof.is c.prove.ensures.ok

pub returns-in-Get-clause-errors : goal.returns-in-Get-clause-errors
returns-in-Get-clause-errors g c = fails_as full_kind _ _ c.args.self.now.db c.args.self.now.numbers
    (λ e. IsOutside e) c.get.result c.get.ensures.errors

pub returns-in-GetMany-clause-errors : goal.returns-in-GetMany-clause-errors
returns-in-GetMany-clause-errors g c = fails_as full_kind _ _ c.args.self.now.db c.args.self.now.numbers
    (λ e. IsOutside e) c.get_many.result c.get_many.ensures.errors

pub returns-in-Proof-clause-errors : goal.returns-in-Proof-clause-errors
returns-in-Proof-clause-errors g c = fails_as full_kind _ _ c.args.self.now.db c.args.self.now.numbers
    (λ e. IsOutside e) c.prove.result c.prove.ensures.errors
