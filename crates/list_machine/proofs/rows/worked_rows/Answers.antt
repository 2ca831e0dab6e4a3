use Rattle.std.proofs.Common.{refl}
use Rattle.list_machine.proofs.rows.worked_rows.Goals as goal

pub returns-clause-fresh_opening : goal.returns-clause-fresh_opening
returns-clause-fresh_opening c = λ names. refl

pub returns-clause-first_batch : goal.returns-clause-first_batch
returns-clause-first_batch c = refl

pub returns-clause-two_batch_chain : goal.returns-clause-two_batch_chain
returns-clause-two_batch_chain c = (refl, refl)

pub returns-clause-three_operations_one_witness : goal.returns-clause-three_operations_one_witness
returns-clause-three_operations_one_witness c = λ names image has. rw (has.log, has.witness) refl

pub returns-clause-four_operations_two_witnesses : goal.returns-clause-four_operations_two_witnesses
returns-clause-four_operations_two_witnesses c = λ names image has. rw (has.log, has.witness) refl

pub returns-clause-equal_siblings : goal.returns-clause-equal_siblings
returns-clause-equal_siblings c = refl

pub returns-clause-unequal_siblings : goal.returns-clause-unequal_siblings
returns-clause-unequal_siblings c = refl

pub returns-clause-reapply_and_snapshot : goal.returns-clause-reapply_and_snapshot
returns-clause-reapply_and_snapshot c = (refl, refl)

pub returns-clause-floor_refusals : goal.returns-clause-floor_refusals
returns-clause-floor_refusals c = refl

pub returns-clause-released_ancestor : goal.returns-clause-released_ancestor
returns-clause-released_ancestor c = refl

pub returns-clause-applied_ancestor : goal.returns-clause-applied_ancestor
returns-clause-applied_ancestor c = refl

pub returns-clause-get_many_order : goal.returns-clause-get_many_order
returns-clause-get_many_order c = refl

pub returns-clause-value_limit : goal.returns-clause-value_limit
returns-clause-value_limit c = refl

pub returns-clause-prune_above_floor : goal.returns-clause-prune_above_floor
returns-clause-prune_above_floor c = (refl, refl)

pub returns-clause-prune_fifteen_batches : goal.returns-clause-prune_fifteen_batches
returns-clause-prune_fifteen_batches c = refl
