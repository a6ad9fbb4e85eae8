-- From 0 on a row is whole.
use borrow.Author.Rules.{rules}
use Rattle.findings.proofs.WholeRow.{whole-row}
use Rattle.findings.proofs.cut.Goals as goal

pub returns-then-from-eq0 : goal.returns-then-from-eq0
returns-then-from-eq0 c = whole-row c.args.row (search rules) c.args.from c.if-from-eq0.true
