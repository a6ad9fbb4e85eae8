-- The container is put into one row, or no row is this label's.
use Rattle.label_table.proofs.RowLaws.{mark-found, mark-missed}
use Rattle.label_marks.proofs.mark.Goals as goal

pub returns-then-table-h-clause-marked : goal.returns-then-table-h-clause-marked
returns-then-table-h-clause-marked c =
    let p = c.place-h.ensures in
    mark-found _ _ _ p.0 _ c.requires.0 p.1 c.requires.1 c.if-table-h.true c.word_with.ensures

pub returns-else-table-h-clause-marked : goal.returns-else-table-h-clause-marked
returns-else-table-h-clause-marked c = mark-missed _ _ _ c.place-h.ensures.0 c.requires.0 c.if-table-h.false
