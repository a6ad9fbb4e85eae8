-- No row is from the place on and before where the search has come.
use Prim.Native.Nat.{◌-◌}
use Rattle.findings.proofs.RowSearch.{Searched}
use Rattle.findings.proofs.RowsIterator.next.Given as goal

abbrev pub invariant-loop-self : goal.invariant-loop-self
invariant-loop-self l = Searched l.fn.self l.self

abbrev pub decreases-loop-self : goal.decreases-loop-self
decreases-loop-self l = 8 - l.self.kind
