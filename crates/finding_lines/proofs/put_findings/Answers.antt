-- Each turn puts the line of the next finding.
use Rattle.std.proofs.Common.{arith, get_or}
use Rattle.buffer.proofs.BufferLaws.{puts-as}
use Rattle.text.proofs.LineLaws.{to_put-less, to_put-none, code_lines-first, code_lines-none}
use Rattle.finding_lines.proofs.FrontLaws.{line-parts}
use Rattle.finding_lines.proofs.put_findings.Goals as goal

pub loop-code-preserved : goal.loop-code-preserved
loop-code-preserved c =
    let i = c.loop-code.code-index in
    record {
      front = c.next_front-front.ensures.holds;
      room = omega arith;
      lines =
          to_put-less c.loop-code.invariant.lines (code_lines-first c.args.codes.now i (omega arith))
          (puts-as c.put_line-put.ensures.puts (line-parts (get_or c.args.codes.now i 0) _ c.next_front-front.ensures.pair_value)) (omega arith);
    }

pub returns : goal.returns
returns c = to_put-none c.loop-code.invariant.lines (code_lines-none c.args.codes.now c.loop-code.code-index (omega arith))
