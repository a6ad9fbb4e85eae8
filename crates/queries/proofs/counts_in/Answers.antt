-- The three counts are those that `counts` promises.
use mathlib.Core.Path.{sym}
use Rattle.queries.proofs.QueryLaws.{counts-answer}
use Rattle.queries.proofs.counts_in.Goals as goal

pub returns : goal.returns
returns c = sym (counts-answer _ c.requires _ _ _ c.count_standing.ensures c.count_standing-2.ensures c.pairs.ensures)
