-- The lines of the findings of the words that are left are still to be put.
use mathlib.Core.Path.{◌≡◌}
use Prim.Native.Nat.{◌*◌, ◌≤◌}
use Rattle.model.specs.Kinds.{kind_number}
use Rattle.finding_lines.proofs.RowLines.{RowLines}
use Rattle.finding_lines.proofs.put_row_lines.Given as goal

abbrev pub invariant-loop-word : goal.invariant-loop-word
invariant-loop-word l = record {
  lines : RowLines l.initial.out (kind_number l.fn.kind) l.a l.word-items l.out l.put l.word-index;
  most : l.word-index ≤ 4;
  base : l.base ≡ l.word-index * 64;
}
