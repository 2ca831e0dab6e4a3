use Rattle.command_text.proofs.text.put_refusal.Goals as goal

pub returns-in-ValueTooLong-clause-text : goal.returns-in-ValueTooLong-clause-text
returns-in-ValueTooLong-clause-text g c = rw c.in-ValueTooLong.is c.put_number-in-ValueTooLong.ensures.text

pub returns-in-LocationOverflow-clause-text : goal.returns-in-LocationOverflow-clause-text
returns-in-LocationOverflow-clause-text g c = rw c.in-LocationOverflow.is c.put_number-in-LocationOverflow.ensures.text

pub returns-in-FloorRegressed-clause-text : goal.returns-in-FloorRegressed-clause-text
returns-in-FloorRegressed-clause-text g c = rw c.in-FloorRegressed.is c.put_two.ensures.text

pub returns-in-FloorBeyondSize-clause-text : goal.returns-in-FloorBeyondSize-clause-text
returns-in-FloorBeyondSize-clause-text g c = rw c.in-FloorBeyondSize.is c.put_two-in-FloorBeyondSize.ensures.text

pub returns-in-BelowInactivityFloor-clause-text : goal.returns-in-BelowInactivityFloor-clause-text
returns-in-BelowInactivityFloor-clause-text g c = rw c.in-BelowInactivityFloor.is c.put_number-in-BelowInactivityFloor.ensures.text

pub returns-in-ItemPruned-clause-text : goal.returns-in-ItemPruned-clause-text
returns-in-ItemPruned-clause-text g c = rw c.in-ItemPruned.is c.put_number-in-ItemPruned.ensures.text

pub returns-in-PruneBeyondMinRequired-clause-text : goal.returns-in-PruneBeyondMinRequired-clause-text
returns-in-PruneBeyondMinRequired-clause-text g c = rw c.in-PruneBeyondMinRequired.is c.put_two-in-PruneBeyondMinRequired.ensures.text

pub returns-in-HistoricalFloorPruned-clause-text : goal.returns-in-HistoricalFloorPruned-clause-text
returns-in-HistoricalFloorPruned-clause-text g c = rw c.in-HistoricalFloorPruned.is c.put_number-in-HistoricalFloorPruned.ensures.text

pub returns-in-RangeOutOfBounds-clause-text : goal.returns-in-RangeOutOfBounds-clause-text
returns-in-RangeOutOfBounds-clause-text g c = rw c.in-RangeOutOfBounds.is c.put_number-in-RangeOutOfBounds.ensures.text
