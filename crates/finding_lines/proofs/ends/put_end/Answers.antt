-- As many bytes of the table's entry are copied as the number has digits, and one more.
use mathlib.Core.Path.{ap, ◌∙◌}
use lib.ListN.{take}
use Rattle.finding_lines.proofs.EndLaws.{end-one, end-two, end-three}
use Rattle.finding_lines.proofs.ends.put_end.Goals as goal

pub returns-then-b-ge100-clause-puts : goal.returns-then-b-ge100-clause-puts
returns-then-b-ge100-clause-puts c = end-three c.args.b c.if-b-ge100.true c.requires.0 (c.copy_from_slice.ensures.after ∙ c.padded_end-text.ensures) c.requires.1

pub returns-then-b-ge10-clause-puts : goal.returns-then-b-ge10-clause-puts
returns-then-b-ge10-clause-puts c =
    end-two c.args.b c.if-b-ge10.true c.if-b-ge100.false (c.copy_from_slice-then-b-ge10.ensures.after ∙ ap (take 3) c.padded_end-text.ensures) c.requires.1

pub returns-clause-puts : goal.returns-clause-puts
returns-clause-puts c = end-one c.args.b c.if-b-ge10.false (c.copy_from_slice-2.ensures.after ∙ ap (take 2) c.padded_end-text.ensures) c.requires.1
