-- Two words of 64 slots each, by their direction words, are the set of that direction.
use Rattle.reach.proofs.SideLaws.{direction-row}
use Rattle.reach.proofs.of_direction.Goals as goal

pub returns : goal.returns
returns c =
    direction-row _ c.requires c.args.direction _ _ (rw c.from-number.ensures at c.slots_with.ensures) (rw c.from-number.ensures at c.slots_with-2.ensures)
