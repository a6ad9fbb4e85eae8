-- The lines of those of the bits that are left are still to be put.
use Prim.Native.Nat.{◌+◌, ◌*◌}
use Rattle.finding_lines.proofs.RowLines.{WordLines}
use Rattle.finding_lines.proofs.put_word_lines.Given as goal

abbrev pub invariant-loop-i : goal.invariant-loop-i
invariant-loop-i l = WordLines l.initial.out (l.front.pair * 65536 + l.base) l.word l.out l.put l.i-iterator.0
