-- One case where a is bound, one where it is not.
use mathlib.Core.Path.{sym, ◌∙◌}
use Rattle.bitrow.proofs.Arrays.{bit-of-row}
use Rattle.matrix_rows.proofs.RowLaws.{meet-yes, meet-no}
use Rattle.matrix_rows.proofs.outward_from.Goals as goal

pub returns-then-bit_of : goal.returns-then-bit_of
returns-then-bit_of c = c.both.ensures ∙ sym (meet-yes _ _ (sym (c.bit_of.ensures ∙ bit-of-row _ _) ∙ c.if-bit_of.true))

pub returns : goal.returns
returns c = sym (meet-no _ _ (sym (c.bit_of.ensures ∙ bit-of-row _ _) ∙ c.if-bit_of.false))
