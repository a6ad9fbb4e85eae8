-- The lines of the findings from here on are still to be put.
use Rattle.std.proofs.Common.{◌*◌, ◌≤◌, drop}
use Rattle.text.specs.Lines.{code_lines}
use Rattle.text.proofs.LineLaws.{ToPut}
use Rattle.finding_lines.specs.Fronts.{HoldsFront}
use Rattle.finding_lines.proofs.put_findings.Given as goal

abbrev pub invariant-loop-code : goal.invariant-loop-code
invariant-loop-code l = record {
  front : HoldsFront l.front;
  room : l.put ≤ 10 * l.code-index;
  lines : ToPut l.initial.out (code_lines l.codes) l.out l.put (code_lines (drop l.code-index l.codes));
}
