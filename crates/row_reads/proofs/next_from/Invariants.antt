-- What is lowest from i on is what is lowest from the first number of word k that is not below i.
use Rattle.std.proofs.Common.{◌≡◌, ◌*◌, max}
use Rattle.bitrow.specs.Bit.{bit_at}
use Rattle.bitrow.specs.Set.{lowest_from}
use Rattle.row_reads.proofs.next_from.Given as goal

abbrev pub invariant-loop-k : goal.invariant-loop-k
invariant-loop-k l = lowest_from (bit_at l.row) l.i ≡ lowest_from (bit_at l.row) (max l.i (64 * l.k))
