use Rattle.std.proofs.Common.{of_calls}
use Rattle.streams.specs.Calls.Settles.{at_once, later}
use Rattle.streams.proofs.again.Goals as goal

pub returns-in_default : goal.returns-in_default
returns-in_default g c = c.loop.invariant.1 _ _ (at_once (search of_calls))

pub returns-in_default-2 : goal.returns-in_default-2
returns-in_default-2 g c = c.loop.invariant.1 _ _ (at_once (search of_calls))

pub loop-preserved : goal.loop-preserved
loop-preserved g c = (search of_calls, λ r q s. c.loop.invariant.1 r q (later {q = c.call.new.self} {e = c.in-Err.e} (search of_calls) s))

pub returns : goal.returns
returns g c = c.loop.invariant.1 _ _ (at_once (search of_calls))
