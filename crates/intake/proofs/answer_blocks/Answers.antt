-- What the blocks leave, and the numbers of each.
use native.Mathlib.Omega.{arith}
use Rattle.intake.proofs.BatchLaws.{blocks-left}
use Rattle.intake.proofs.answer_blocks.Goals as goal

pub returns : goal.returns
returns c = blocks-left _ _ _ _ c.requires.0 c.requires.1 c.take_blocks.ensures (omega arith)
