-- Each turn puts the line of the next answer, where it is a refusal.
use Rattle.std.proofs.Common.{◌≡◌, List, ap, ◌∙◌, length, length-append, arith, ℕ}
use Rattle.std.specs.Slice.Iter.{chunks_exact_rest}
use Rattle.model.specs.Calls.{pairs_of}
use Rattle.text.specs.Lines.{pair_lines}
use Rattle.buffer.proofs.BufferLaws.{puts-size}
use Rattle.text.proofs.LineLaws.{to_put-less, to_put-none, pair_lines-first, pair_lines-none}
use Rattle.text.proofs.put_refusals.Goals as goal

pub loop-answer-preserved : goal.loop-answer-preserved
loop-answer-preserved c =
    let now = c.loop-answer in
    let step = c.in-Some.ensures.steps in
    let left = chunks_exact_rest c.next.new.self in
    let two : length c.in-Some.answer.now ≡ 2 = step.1.1 ∙ now.invariant.pairs in
    let fewer = ap length step.1.0 ∙ length-append c.in-Some.answer.now left in
    let lines = to_put-less now.invariant.lines (ap (λ (l : List ℕ). pair_lines now.block (pairs_of l)) step.1.0 ∙ pair_lines-first now.block _ left two) c.put_answer-put.ensures.puts (omega arith) in
    record {
      pairs = step.0 ∙ now.invariant.pairs;
      numbers = omega arith;
      room = omega (arith, puts-size lines.puts);
      lines = lines;
    }

pub returns : goal.returns
returns c =
    let now = c.loop-answer in
    let step = c.in-None.ensures.steps in
    to_put-none now.invariant.lines (pair_lines-none now.block _ (omega (arith, step.1.0)))
