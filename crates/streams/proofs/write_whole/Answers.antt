-- A call that failed put nothing, and neither did one that put no byte.
use Rattle.std.proofs.Common.{refl}
use Rattle.streams.proofs.Bytes.{written_on, written-part, appends-nothing, on_err}
use Rattle.streams.proofs.write_whole.Goals as goal

pub returns-in_err-put-clause-part : goal.returns-in_err-put-clause-part
returns-in_err-put-clause-part g c = on_err _ (written-part _ c.loop-rest.invariant (appends-nothing _ _ c.in_err-put.ensures.bytes))

pub returns-then-put-eq0-clause-part : goal.returns-then-put-eq0-clause-part
returns-then-put-eq0-clause-part g c = let h = c.in_ok-put.ensures.bytes in written-part _ c.loop-rest.invariant (rw c.if-put-eq0.true at h)

pub loop-rest-preserved : goal.loop-rest-preserved
loop-rest-preserved g c = written_on c.in_ok-put.put _ refl c.loop-rest.invariant c.in_ok-put.ensures.bytes
