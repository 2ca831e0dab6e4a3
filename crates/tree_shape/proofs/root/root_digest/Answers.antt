use Rattle.tree_shape.proofs.root.root_digest.Goals as goal

pub returns : goal.returns
returns g c = rw (← c.byte.ensures) (c.finish.ensures _ (c.update-2.ensures _ (c.update.ensures _ (c.update_number-2.ensures _ (c.update_number.ensures _ c.begin-hasher.ensures)))))
