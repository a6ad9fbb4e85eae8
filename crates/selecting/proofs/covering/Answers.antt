-- All policies, or those of one row of a table that is filled.
use Rattle.std.proofs.Common.{sym, ◌∙◌, rules}
use Rattle.bitrow.specs.Bit.{bit_at}
use Rattle.bitrow.proofs.Searches.{lowest-at}
use Rattle.selecting.proofs.TableLaws.{covering-all, covering-row}
use Rattle.selecting.proofs.covering.Goals as goal

pub returns-then-not-fill-clause-row : goal.returns-then-not-fill-clause-row
returns-then-not-fill-clause-row c = covering-all _ _ c.all.ensures

pub bounds-table-c : goal.bounds-table-c
bounds-table-c c = (lowest-at (bit_at c.args.who) 0 (sym c.in-Some.ensures)).below

pub offset_bounds-table-c : goal.offset_bounds-table-c
offset_bounds-table-c c = let h = (lowest-at (bit_at c.args.who) 0 (sym c.in-Some.ensures)).below in search rules

pub returns-in-Some-clause-row : goal.returns-in-Some-clause-row
returns-in-Some-clause-row c =
    covering-row _ _ _ _ _ (c.fill.ensures.rows c.if-not-fill.false) (lowest-at (bit_at c.args.who) 0 (sym c.in-Some.ensures)) (c.widened.ensures ∙ c.either.ensures)

pub returns-in-None-clause-row : goal.returns-in-None-clause-row
returns-in-None-clause-row c = covering-all _ _ c.all-in-None.ensures
