-- Past all four words of the standing containers, what is left is what kinds 1 and 2 tell of.
use mathlib.Core.Path.{◌∙◌}
use Rattle.container_findings.proofs.Columns.{passed-words, passed-1, passed-2}
use Rattle.container_findings.proofs.left_of.Goals as goal

pub returns : goal.returns
returns c =
    let p = passed-words c.pass-one.ensures c.pass-two.ensures c.pass-three.ensures c.pass-four.ensures in
    record { by_all = passed-1 c.requires p; by_none = c.if_two_stand-by_none.ensures ∙ passed-2 c.requires p }
