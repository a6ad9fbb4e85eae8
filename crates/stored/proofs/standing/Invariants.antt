-- The first k words of the row are gathered.
use Rattle.model.specs.Table.{stands}
use Rattle.stored.proofs.StandingRows.{Gathered}
use Rattle.stored.proofs.standing.Given as goal

abbrev pub invariant-loop-k : goal.invariant-loop-k
invariant-loop-k g l = Gathered (stands (g.S.Slot.table l.memory)) l.row l.k
