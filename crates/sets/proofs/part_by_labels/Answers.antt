-- A free slot has the empty set; else what `matching` gives.
use mathlib.Core.Path.{◌∙◌}
use Rattle.sets.proofs.Candidates.{part_free, part-taken}
use Rattle.sets.proofs.part_by_labels.Goals as goal

pub returns-then-memory-at-eq0 : goal.returns-then-memory-at-eq0
returns-then-memory-at-eq0 c = c.none.ensures ∙ part_free _ _ _ _ c.if-memory-at-eq0.true

pub matching-requires : goal.matching-requires
matching-requires c = (c.requires.0, c.requires.2.part c.args.q c.requires.1, c.requires.3)

pub returns : goal.returns
returns c = c.matching.ensures ∙ part-taken _ _ _ _ c.if-memory-at-eq0.false
