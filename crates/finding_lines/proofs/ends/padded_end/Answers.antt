-- The table's entry.
use Rattle.finding_lines.proofs.EndLaws.{entry}
use Rattle.finding_lines.proofs.ends.padded_end.Goals as goal

pub returns : goal.returns
returns c = entry c.args.b c.requires
