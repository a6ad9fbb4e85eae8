-- A row is its four words, whose rows are joined one after the other.
use Rattle.std.proofs.Common.{rules}
use Rattle.selecting.proofs.TableLaws.{joined-row}
use Rattle.selecting.proofs.joined_rows.Goals as goal

pub returns : goal.returns
returns c = joined-row _ (search rules) _ c.widened.ensures c.join_word-a.ensures c.join_word-b.ensures c.join_word-c.ensures c.join_word-d.ensures
