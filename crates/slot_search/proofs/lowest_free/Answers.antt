-- One step of `first_of` for each way: a taken slot is passed over, the first free one is the answer, and past the last slot there is none.
use mathlib.Core.Path.{sym, ◌∙◌}
use Rattle.std.proofs.Common.{arith}
use Rattle.entries.proofs.FreeSlots.{first-end, first-hit, first-miss, zero-is-free, taken_at}
use Rattle.slot_search.proofs.lowest_free.Goals as goal

pub loop-i-preserved : goal.loop-i-preserved
loop-i-preserved c = let l = c.loop-i in l.invariant ∙ first-miss _ l.i c.args.slots (omega arith) (taken_at _ _ _ _ c.if-memory-start-eq0.false)

pub returns-then-memory-start-eq0 : goal.returns-then-memory-start-eq0
returns-then-memory-start-eq0 c =
    let l = c.loop-i in sym (l.invariant ∙ first-hit _ l.i c.args.slots (omega arith) (zero-is-free _ _ _ _ c.if-memory-start-eq0.true))

pub returns : goal.returns
returns c = let l = c.loop-i in sym (l.invariant ∙ first-end _ l.i c.args.slots (omega arith))
