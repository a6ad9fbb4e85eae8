-- The answer is that of the words from this one on, after the last key.
use Rattle.std.proofs.Common.{◌≡◌, ◌-◌, length}
use Rattle.part_tests.proofs.Turns.{left_ok}
use Rattle.part_tests.proofs.words_ok.Given as goal

abbrev pub invariant-loop-i : goal.invariant-loop-i
invariant-loop-i l = left_ok l.part l.end 0 1 (length l.part - 1) ≡ left_ok l.part l.end l.last l.i (length l.part - l.i)
