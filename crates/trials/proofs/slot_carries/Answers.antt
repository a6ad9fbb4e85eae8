-- Past a container's labels the words are zero, and no label is: so all eight are compared.
use Rattle.std.proofs.Common.{sym}
use Rattle.bitrow.specs.Set.{some}
use Rattle.entries.proofs.PartLabels.{carries_words}
use Rattle.trials.proofs.slot_carries.Goals as goal

pub returns : goal.returns
unfolding some
returns c = let p = c.requires in sym (carries_words _ _ _ 8 p.1 p.0.head p.0.past)
