-- The rows before r are set; one whose mask is empty stays.
use Rattle.formed.specs.Registry.{registry_in}
use Rattle.arrivals.proofs.Rows.{Setting}
use Rattle.arrivals.proofs.set_touched.Given as goal

abbrev pub invariant-loop-r : goal.invariant-loop-r
invariant-loop-r l = Setting (registry_in l.initial.memory) l.touched l.memory l.r
