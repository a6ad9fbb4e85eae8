-- Two words of 64 policies make the row.
use Rattle.sets.specs.Sets.{bits}
use Rattle.container_bits.proofs.HoldingLaws.{holding-row}
use Rattle.holders.proofs.holding.Goals as goal

pub returns : goal.returns
returns c = let x = c.args in holding-row (bits x.sets.now) x.c _ _ c.holding_word.ensures c.holding_word-2.ensures
