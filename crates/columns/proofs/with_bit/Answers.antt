-- Two cases, each a law of one bit of a word.
use Rattle.store.proofs.Bits.{bit-put, bit_cut}
use Rattle.std.proofs.Common.{rules}
use Rattle.columns.proofs.with_bit.Goals as goal

pub returns-then-value : goal.returns-then-value
returns-then-value c = bit-put _ _ _ (search rules)

pub returns-else-value : goal.returns-else-value
returns-else-value c = bit_cut _ _ _ (search rules)
