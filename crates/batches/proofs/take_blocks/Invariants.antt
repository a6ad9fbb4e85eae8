-- After so many turns the batch stands after as many blocks, and the others are left.
use mathlib.Core.Path.{◌≡◌}
use Prim.Native.Nat.{◌*◌, ◌≤◌}
use lib.ListN.{length, drop}
use Rattle.std.specs.Iterator.Adapters.{enumerate_source, enumerate_count}
use Rattle.std.specs.Slice.Iter.{chunks_exact_rest, chunks_exact_size}
use Rattle.batches.specs.Progress.{BatchAt}
use Rattle.batches.proofs.take_blocks.Given as goal

abbrev pub invariant-loop-i : goal.invariant-loop-i
invariant-loop-i l = record {
  batch : BatchAt l.fn.memory l.blocks l.fn.answers l.fn.tally (enumerate_count l.i-iterator) l.memory l.answers l.progress;
  within : 512 * enumerate_count l.i-iterator ≤ length l.blocks;
  size : chunks_exact_size (enumerate_source l.i-iterator) ≡ 512;
  rest : chunks_exact_rest (enumerate_source l.i-iterator) ≡ drop (512 * enumerate_count l.i-iterator) l.blocks;
}
