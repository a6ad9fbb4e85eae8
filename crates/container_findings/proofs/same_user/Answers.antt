-- Four words of 64 containers make the row.
use Rattle.std.proofs.Common.{rules}
use Rattle.bitrow.proofs.Rows.{row-bounded}
use Rattle.container_findings.proofs.UserLaws.{same-user-row}
use Rattle.container_findings.proofs.same_user.Goals as goal

pub returns : goal.returns
returns c =
    same-user-row _ _ _ (row-bounded _ (search rules)) _ _ _ _ c.same_user_word.ensures c.same_user_word-2.ensures c.same_user_word-3.ensures c.same_user_word-4.ensures
