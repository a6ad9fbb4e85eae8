-- What is left of the candidates, met with the labels that are left, is the answer.
use Rattle.std.proofs.Common.{◌+◌}
use Rattle.bitrow.specs.Bit.{bit_at}
use Rattle.store.specs.Layout.{word_at}
use Rattle.label_table.proofs.RowLaws.{Narrowing}
use Rattle.label_rows.proofs.matching.Given as goal

abbrev pub invariant-loop-word : goal.invariant-loop-word
invariant-loop-word l = Narrowing l.memory l.part (l.part + word_at l.memory l.part) (bit_at l.fn.candidates) (bit_at l.left) l.all (l.part + 1 + l.word-index)
