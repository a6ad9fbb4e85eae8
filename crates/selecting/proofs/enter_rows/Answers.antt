-- A row is its four words, entered one after the other.
use Rattle.std.proofs.Common.{rules}
use Rattle.selecting.proofs.TableLaws.{entered-row}
use Rattle.selecting.proofs.enter_rows.Goals as goal

pub returns : goal.returns
returns c =
    entered-row _ (search rules) c.enter_word.ensures c.enter_word-2.ensures c.enter_word-3.ensures c.enter_word-4.ensures
