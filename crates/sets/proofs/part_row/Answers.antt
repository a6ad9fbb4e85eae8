-- A free slot has the empty set; else the trial.
use mathlib.Core.Path.{◌∙◌}
use Rattle.formed.proofs.Reading.{formed-whole}
use Rattle.entries.proofs.FormedEntries.{formed-slots}
use Rattle.sets.proofs.Candidates.{part_free, part-taken}
use Rattle.sets.proofs.part_row.Goals as goal

pub returns-then-memory-at-eq0 : goal.returns-then-memory-at-eq0
returns-then-memory-at-eq0 c = c.none.ensures ∙ part_free _ _ _ _ c.if-memory-at-eq0.true

pub trial-requires : goal.trial-requires
trial-requires c = (c.requires.2.part c.args.q c.requires.1, formed-slots _ c.requires.0)

pub returns : goal.returns
returns c = c.trial.ensures ∙ part-taken _ _ _ _ c.if-memory-at-eq0.false
