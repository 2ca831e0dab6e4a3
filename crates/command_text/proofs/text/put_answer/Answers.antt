use Rattle.command_text.proofs.text.put_answer.Goals as goal

pub returns-in-Opened-clause-text : goal.returns-in-Opened-clause-text
returns-in-Opened-clause-text g c = rw c.in-Opened.is c.put_number.ensures.text

pub returns-in-SyncStarted-clause-text : goal.returns-in-SyncStarted-clause-text
returns-in-SyncStarted-clause-text g c = rw c.in-SyncStarted.is c.put-in-SyncStarted.ensures.text
