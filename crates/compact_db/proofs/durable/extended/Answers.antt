use Rattle.compact_db.proofs.durable.extended.Goals as goal

pub returns-in-Open-clause-images : goal.returns-in-Open-clause-images
returns-in-Open-clause-images g c opened told = rw c.in-Open.is (c.append.ensures.images told)
