-- What was written are the bytes before the rest; each turn, fewer are left.
use Rattle.std.proofs.Common.{length}
use Rattle.streams.proofs.Bytes.{Written}
use Rattle.streams.proofs.write_whole.Given as goal

abbrev pub invariant-loop-rest : goal.invariant-loop-rest
invariant-loop-rest g l = Written (g.W.Write.contents l.initial.writer) (g.W.Write.contents l.writer) l.text l.rest

abbrev pub decreases-loop-rest : goal.decreases-loop-rest
decreases-loop-rest g l = length l.rest
