-- What is told of containers reads the entries, and of the bits it asks nothing.
use borrow.Author.Rules.{rules}
use Rattle.formed.proofs.Formed.{formed-entries}
use Rattle.finding_rows.proofs.finding_row.Goals as goal

pub container_row-requires : goal.container_row-requires
container_row-requires c = let p = c.requires in (formed-entries _ p.0, p.1.containers, p.2, search rules)
