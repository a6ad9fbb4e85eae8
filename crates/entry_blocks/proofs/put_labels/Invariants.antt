-- The labels before this one are put.
use Rattle.entry_blocks.proofs.BlockLaws.{LabelsPut}
use Rattle.entry_blocks.proofs.put_labels.Given as goal

abbrev pub invariant-loop-word : goal.invariant-loop-word
invariant-loop-word l = LabelsPut l.labels l.initial.block l.at l.block l.word-index l.to l.total
