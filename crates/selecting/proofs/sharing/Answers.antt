-- All policies, or those of the rows of a table that is filled.
use Rattle.selecting.proofs.TableLaws.{sharing-all, sharing-rows}
use Rattle.selecting.proofs.sharing.Goals as goal

pub returns-then-count-gt-MOST_JOINED-clause-row : goal.returns-then-count-gt-MOST_JOINED-clause-row
returns-then-count-gt-MOST_JOINED-clause-row c = sharing-all _ _ c.all.ensures

pub returns-then-not-fill-clause-row : goal.returns-then-not-fill-clause-row
returns-then-not-fill-clause-row c = sharing-all _ _ c.all-then-not-fill.ensures

pub returns-clause-row : goal.returns-clause-row
returns-clause-row c = sharing-rows _ _ _ _ (c.fill.ensures.rows c.if-not-fill.false) c.joined_rows.ensures
