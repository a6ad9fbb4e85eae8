-- A row is its four words, joined one after the other.
use Rattle.std.proofs.Common.{rules}
use Rattle.joins.proofs.JoinLaws.{joined-both, joined-row}
use Rattle.joins.proofs.join_rows.Goals as goal

pub returns : goal.returns
returns c =
    joined-row _ (search rules) (joined-both (joined-both (joined-both c.join_word.ensures c.join_word-2.ensures) c.join_word-3.ensures) c.join_word-4.ensures)
