-- The first k labels stand from byte 4 on.
use Rattle.std.proofs.Common.{◌≡◌}
use lib.Seq.{sets}
use Rattle.samples.specs.Samples.{rising_labels}
use Rattle.samples.proofs.put_rising_labels.Given as goal

abbrev pub invariant-loop-k : goal.invariant-loop-k
invariant-loop-k l = l.block ≡ sets l.initial.block 4 (rising_labels l.key l.k)
