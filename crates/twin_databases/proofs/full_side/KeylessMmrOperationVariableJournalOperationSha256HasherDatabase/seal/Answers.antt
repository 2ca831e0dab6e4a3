use Rattle.std.proofs.lemmas.Result.{on_ok_weaker}
use Rattle.twin_databases.proofs.FullLemmas.{sealed_at, sealed_of}
use Rattle.twin_databases.proofs.full_side.KeylessMmrOperationVariableJournalOperationSha256HasherDatabase.seal.Goals as goal

pub returns-clause-inserted : goal.returns-clause-inserted
returns-clause-inserted c =
    let pool = c.args.pool.now in
    let u = c.args.batch in
    let floor = c.args.floor in
    on_ok_weaker c.merkleize.result (λ (x, put, at, from, of, marked). (
      x,
      put,
      sealed_at pool u c.new.result floor c.new.ensures _ _ x.bounds at,
      sealed_of pool u c.new.result floor c.new.ensures c.args.metadata x of marked,
    )) c.merkleize.ensures.inserted
