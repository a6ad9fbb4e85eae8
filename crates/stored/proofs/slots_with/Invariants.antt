-- The word has those of the first k slots whose first word is this one.
use Rattle.std.proofs.Common.{◌≡◌}
use Rattle.bitrow.specs.Bit.{bit}
use Rattle.bitrow.specs.Set.{meet, under}
use Rattle.formed.specs.Tests.{firsts}
use Rattle.stored.proofs.slots_with.Given as goal

abbrev pub invariant-loop-k : goal.invariant-loop-k
invariant-loop-k l = bit l.word ≡ meet (firsts l.memory l.at l.step l.first) (under l.k)
