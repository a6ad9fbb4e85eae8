-- By whether there is a label k.
use Rattle.parts.proofs.PartWords.{part-label, part-past}
use Rattle.parts.proofs.label_word.Goals as goal

pub returns-then-k-n : goal.returns-then-k-n
returns-then-k-n c =
    let key = c.number_at-key in
    let value = c.number_at-value in
    part-label _ _ _ _ key.result value.result c.if-k-n.true key.ensures.0 value.ensures.0

pub returns : goal.returns
returns c = part-past _ _ _ _ c.if-k-n.false
