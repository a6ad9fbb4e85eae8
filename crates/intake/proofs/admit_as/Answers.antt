-- Where nothing came yet, the search for a free slot begins with the first.
use Rattle.formed.proofs.Formed.{formed-entries}
use Rattle.batch_blocks.proofs.Cursors.{free-from-none}
use Rattle.intake.proofs.admit_as.Goals as goal

pub place_block-requires : goal.place_block-requires
place_block-requires c = (formed-entries _ c.requires.2, free-from-none _ c.none_came.ensures)
