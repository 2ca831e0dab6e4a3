use Rattle.std.proofs.Common.{Some, ◌∷◌, ◌++◌, []}
use Rattle.chain_core.specs.Slots.{link_held, link_released}
use Rattle.chain_core.proofs.PoolLemmas.{held_goes, released_goes}
use Rattle.chain_core.proofs.MarkedPoolLemmas.{goes_keeps, put_goes_on, marked_empty, marked_held, marked_released, marked_put, marked_alone, marked_sealed, marked_first, marked_child, marked_stays}
use Rattle.chain_core.proofs.laws.marks_laws.Goals as goal

pub returns-clause-empty : goal.returns-clause-empty
returns-clause-empty g c = λ bounds. marked_empty bounds

pub returns-clause-held : goal.returns-clause-held
returns-clause-held g c =
    λ bounds pool link marked.
    (marked_held bounds pool link marked, goes_keeps pool (link_held pool link) (held_goes pool link))

pub returns-clause-released : goal.returns-clause-released
returns-clause-released g c =
    λ bounds pool link marked.
    (marked_released bounds pool link marked, goes_keeps pool (link_released pool link) (released_goes pool link))

pub returns-clause-inserted : goal.returns-clause-inserted
returns-clause-inserted g c =
    λ bounds pool link e marked at.
    (marked_put bounds pool link marked e at, goes_keeps pool (link_released pool link ++ (Some e ∷ [])) (put_goes_on pool link (Some e)))

pub returns-clause-alone : goal.returns-clause-alone
returns-clause-alone g c = λ bounds pool b none db le. marked_alone bounds pool b none db le

pub returns-clause-sealed : goal.returns-clause-sealed
returns-clause-sealed g c =
    λ bounds pool b current below floor made marked alive le same sealed.
    marked_sealed bounds g.D.Digest.bytes pool b current below floor made marked alive le same sealed

pub returns-clause-first : goal.returns-clause-first
returns-clause-first g c = λ bounds pool base. marked_first bounds pool base

pub returns-clause-child : goal.returns-clause-child
returns-clause-child g c = λ bounds pool id p base marked is same. marked_child bounds pool marked id p base is same

pub returns-clause-stays : goal.returns-clause-stays
returns-clause-stays g c =
    λ bounds pool later parent base marks marked keeps drawn on. marked_stays bounds later marked pool parent base marks keeps drawn on
