-- A number at which the search finds nothing is passed over; where it finds a fault, that is the first.
use mathlib.Core.Path.{sym, ◌∙◌}
use Rattle.std.proofs.Common.{of_calls}
use Rattle.block.proofs.Faults.{faults-hit, faults-skip, faults-done}
use Rattle.faults.proofs.first_between.Goals as goal

pub loop-k-preserved : goal.loop-k-preserved
loop-k-preserved g c = λ f h. let l = c.loop-k in
    l.invariant f h ∙ faults-skip f l.k c.args.to c.loop-k-test.true (sym (h l.k _ l.auto.k c.loop-k-test.true (search of_calls)))

pub returns-in-Some : goal.returns-in-Some
returns-in-Some g c = λ f h. let l = c.loop-k in
    sym (l.invariant f h ∙ faults-hit f l.k c.args.to c.in-Some.p c.loop-k-test.true (sym (h l.k _ l.auto.k c.loop-k-test.true (search of_calls))))

pub returns : goal.returns
returns g c = λ f h. let l = c.loop-k in
    sym (l.invariant f h ∙ faults-done f l.k c.args.to c.loop-k-test.false)
