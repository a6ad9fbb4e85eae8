-- The containers in the first slots stand, and what their rows leave has all that those of all leave.
use Rattle.container_findings.proofs.FirstRows.{first_of_row, first-1, first-2}
use Rattle.container_findings.proofs.first_left.Goals as goal

pub returns-clause-by_all : goal.returns-clause-by_all
returns-clause-by_all c = first-1 c.requires (first_of_row _ 65535) c.pass.ensures

pub returns-clause-by_none : goal.returns-clause-by_none
returns-clause-by_none c = first-2 c.requires (first_of_row _ 65535) c.pass.ensures
