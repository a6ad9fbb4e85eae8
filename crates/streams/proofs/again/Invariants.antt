-- What follows the calls that failed for now follows the first of them.
use Rattle.streams.specs.Calls.{Settles}
use Rattle.streams.proofs.again.Given as goal

abbrev pub invariant-loop : goal.invariant-loop
invariant-loop g l = goal.F-IsAlwaysCallable g l.call
    × ((r : _) (q : _) → Settles (goal.F-step g) l.call r q → Settles (goal.F-step g) l.initial.call r q)
