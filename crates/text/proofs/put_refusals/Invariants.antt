-- The lines of the answers that are left are still to be put.
use Rattle.std.proofs.Common.{◌≡◌, ◌+◌, ◌*◌, ◌/◌, ◌≤◌, length}
use Rattle.std.specs.Slice.Iter.{chunks_exact_rest, chunks_exact_size}
use Rattle.model.specs.Calls.{pairs_of}
use Rattle.text.specs.Lines.{pair_lines}
use Rattle.text.proofs.LineLaws.{ToPut}
use Rattle.text.proofs.put_refusals.Given as goal

abbrev pub invariant-loop-answer : goal.invariant-loop-answer
invariant-loop-answer l = record {
  pairs : chunks_exact_size l.answer-iterator ≡ 2;
  numbers : l.block + length (chunks_exact_rest l.answer-iterator) / 2 ≡ l.n + length l.answers / 2;
  room : l.put + 72 * (length (chunks_exact_rest l.answer-iterator) / 2) ≤ length l.out;
  lines : ToPut l.initial.out (pair_lines l.n (pairs_of l.answers)) l.out l.put (pair_lines l.block (pairs_of (chunks_exact_rest l.answer-iterator)));
}
