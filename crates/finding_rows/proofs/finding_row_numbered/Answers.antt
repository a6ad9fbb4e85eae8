-- What is told of containers reads the entries, and of the bits it asks nothing.
use Rattle.formed.proofs.Formed.{formed-entries}
use Rattle.finding_rows.proofs.finding_row_numbered.Goals as goal

pub container_row_numbered-requires : goal.container_row_numbered-requires
container_row_numbered-requires c = let p = c.requires in (formed-entries _ p.0, p.1.containers, p.2, c.if-number-lt5.true)
