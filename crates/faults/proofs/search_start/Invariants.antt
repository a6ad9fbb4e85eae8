-- What is passed over is zero: the lowest byte that is not is the lowest from here on.
use Rattle.std.proofs.Common.{◌≡◌, ◌-◌}
use Rattle.block.specs.Reader.{zero_fault}
use Rattle.faults.proofs.search_start.Given as goal

abbrev pub invariant-loop-span : goal.invariant-loop-span
invariant-loop-span l = zero_fault l.block l.from l.fn.span.to ≡ zero_fault l.block l.fn.span.from l.fn.span.to

abbrev pub decreases-loop-span : goal.decreases-loop-span
decreases-loop-span l = l.fn.span.to - l.from
