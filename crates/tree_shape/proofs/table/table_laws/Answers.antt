use Rattle.std.proofs.Common.{◌+◌, ap, sym}
use Rattle.tree_shape.specs.MmrSize.{length-made_mmr}
use Rattle.tree_shape.specs.MmbPlaces.{length-made_mmb}
use Rattle.tree_shape.proofs.TableLemmas.{mmr_table, mmb_table, mmb_table_size}
use Rattle.tree_shape.proofs.table.table_laws.Goals as goal

pub returns-clause-mmr_peaks : goal.returns-clause-mmr_peaks
returns-clause-mmr_peaks g n k few = mmr_table k n few

pub returns-clause-mmr_size : goal.returns-clause-mmr_size
returns-clause-mmr_size g n = length-made_mmr n

pub returns-clause-mmr_node : goal.returns-clause-mmr_node
returns-clause-mmr_node g x h = ap (λ size. size + h) (sym (length-made_mmr _))

pub returns-clause-mmb_peaks : goal.returns-clause-mmb_peaks
returns-clause-mmb_peaks g n k low high = mmb_table k n low high

pub returns-clause-mmb_size : goal.returns-clause-mmb_size
returns-clause-mmb_size g n k low high = mmb_table_size n k low high

pub returns-clause-mmb_leaf : goal.returns-clause-mmb_leaf
returns-clause-mmb_leaf g x = sym (length-made_mmb x)

pub returns-clause-mmb_node : goal.returns-clause-mmb_node
returns-clause-mmb_node g x h = ap (λ size. size + 1) (sym (length-made_mmb _))
