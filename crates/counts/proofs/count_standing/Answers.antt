-- The row of the standing slots, counted.
use Rattle.std.proofs.Common.{◌∙◌}
use Rattle.counts.proofs.CountLaws.{table-counted}
use Rattle.counts.proofs.count_standing.Goals as goal

pub returns : goal.returns
returns g c = table-counted (g.met.S.Slot.tabled c.args.memory.now) _ c.standing.ensures (c.from.ensures ∙ c.count.ensures)
