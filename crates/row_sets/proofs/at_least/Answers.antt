-- All numbers less those below i.
use Rattle.bitrow.specs.Set.{under}
use Rattle.bitrow.proofs.Sets.{less-below}
use Rattle.row_sets.proofs.at_least.Goals as goal

pub returns : goal.returns
returns c = less-below (under 256) _ c.all.ensures c.below.ensures c.except.ensures
