-- The first r rows are by the rules, the others as they were.
use Rattle.formed.specs.Registry.{registry_in}
use Rattle.formed.proofs.StoredLaws.{Fit}
use Rattle.whole.proofs.WholeLaws.{Rebuilding}
use Rattle.whole.proofs.rebuild.Given as goal

abbrev pub invariant-loop-r : goal.invariant-loop-r
invariant-loop-r l = Rebuilding (registry_in l.initial.memory) l.memory l.r × Fit l.memory
