-- A free slot has an empty row; else the row is read from what was gathered, and has the container itself.
use mathlib.Core.Path.{sym, ap, ap₂, ◌∙◌}
use Rattle.bitrow.specs.Set.{join, insert}
use Rattle.bitrow.proofs.Arrays.{bit-of-row}
use Rattle.bitrow.proofs.Sets.{point}
use Rattle.matrix_rows.proofs.RowLaws.{free-row, gathered-row}
use Rattle.matrix_rows.proofs.row_from.Goals as goal

pub returns-then-not-bit_of : goal.returns-then-not-bit_of
returns-then-not-bit_of c = record { is = λ x k. c.none.ensures ∙ free-row x _ (sym (c.bit_of.ensures ∙ bit-of-row _ _) ∙ c.if-not-bit_of.true) }

pub returns : goal.returns
returns c =
    let f = sym (c.bit_of.ensures ∙ bit-of-row _ _) ∙ c.if-not-bit_of.false in
    record {
      is = λ x k. c.with.ensures ∙ ap (insert _) (c.either-others.ensures ∙ ap₂ join c.except.ensures c.both.ensures)
          ∙ gathered-row x _ c.requires (k (sym (point x.standing _) ∙ f)) f c.outward_from-there.ensures;
    }
