-- Two cases for a row of the matrix, two for a policy's set: the row itself is set anew, or what is set anew in every row.
use mathlib.Core.Path.{sym, ◌∙◌}
use borrow.Author.Rules.{rules}
use Rattle.bitrow.proofs.Rows.{row-bounded}
use Rattle.arrivals.proofs.Masks.{row-all, row-part, set_all, set-part}
use Rattle.arrivals.proofs.mask_of.Goals as goal

pub returns-then-has : goal.returns-then-has
returns-then-has c = row-all _ _ c.if-r-lt-SELECTED_ROWS.true (sym c.has.ensures ∙ c.if-has.true) c.all.ensures

pub returns-then-r-lt-SELECTED_ROWS : goal.returns-then-r-lt-SELECTED_ROWS
returns-then-r-lt-SELECTED_ROWS c =
    row-part _ _ c.if-r-lt-SELECTED_ROWS.true (sym c.has.ensures ∙ c.if-has.false) (row-bounded _ (search rules))

pub returns-then-has-2 : goal.returns-then-has-2
returns-then-has-2 c =
    set_all _ _ c.requires c.if-r-lt-SELECTED_ROWS.false (sym c.has-2.ensures ∙ c.if-has-2.true) c.all-then-has-2.ensures

pub returns : goal.returns
returns c =
    set-part c.args.touched _ c.requires c.if-r-lt-SELECTED_ROWS.false (sym c.has-2.ensures ∙ c.if-has-2.false) (row-bounded _ (search rules))
