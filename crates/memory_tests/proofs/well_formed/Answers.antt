-- A memory of another size is not well formed; one of ours is tested as the array that it is.
use Rattle.std.proofs.Common.{sym, ap, ◌∙◌}
use Rattle.formed.specs.Registry.{well_formed}
use Rattle.formed.proofs.TestsFormed.{not-whole}
use Rattle.memory_tests.proofs.well_formed.Goals as goal

pub returns-in-None : goal.returns-in-None
returns-in-None c = sym (not-whole _ c.in-None.ensures.cases)

pub returns-in-Some : goal.returns-in-Some
returns-in-Some c = c.formed.ensures ∙ ap well_formed c.in-Some.ensures.cases.same
