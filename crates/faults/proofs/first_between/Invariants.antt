-- No fault was found so far: the first one of all is the first one from k on.
use Rattle.std.proofs.Common.{◌≡◌, ℕ, ◌≤◌, ◌<◌, Option}
use Rattle.block.specs.Fault.{first_between}
use Rattle.faults.proofs.first_between.Given as goal

abbrev pub invariant-loop-k : goal.invariant-loop-k
invariant-loop-k g l =
    (f : ℕ → Option ℕ) → ((k : ℕ) (r : Option ℕ) → l.from ≤ k → k < l.to → goal.F-post g l.search k r → r ≡ f k)
    → first_between f l.from l.to ≡ first_between f l.k l.to
