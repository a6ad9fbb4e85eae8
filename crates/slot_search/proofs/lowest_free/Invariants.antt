-- No slot before i was found free: the first free one from `from` on is the first one from i on.
use Rattle.std.proofs.Common.{◌≡◌, ◌-◌}
use Rattle.bitrow.specs.Set.{first_of}
use Rattle.entries.specs.Entries.{free_in}
use Rattle.slot_search.proofs.lowest_free.Given as goal

abbrev pub invariant-loop-i : goal.invariant-loop-i
invariant-loop-i l =
    let free = free_in l.memory l.start l.words in
    first_of free l.from (l.slots - l.from) ≡ first_of free l.i (l.slots - l.i)
