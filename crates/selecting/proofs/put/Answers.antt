-- Only the word of the policy changes, and there only its bit.
use Rattle.std.proofs.Common.{rules}
use Rattle.selecting.proofs.RowLaws.{put-row}
use Rattle.selecting.proofs.put.Goals as goal

pub returns : goal.returns
returns c = put-row _ _ _ (search rules) c.word_with.ensures
