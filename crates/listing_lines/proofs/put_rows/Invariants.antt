-- The lines of the findings of the rows are put row after row, while fewer are found than are wanted.
use Prim.Native.Nat.{◌*◌, ◌≤◌, ◌<◌}
use Rattle.finding_rows.specs.View.{ViewOf}
use Rattle.finding_rows.specs.Slots.{SlotsOf}
use Rattle.listing_lines.specs.RowsIn.{place_before}
use Rattle.listing_lines.proofs.LinesSoFar.{LinesSoFar}
use Rattle.listing_lines.proofs.put_rows.Given as goal

abbrev pub invariant-loop-row : goal.invariant-loop-row
invariant-loop-row l = record {
  lines : LinesSoFar l.memory (place_before l.fn.rows) l.wanted l.initial.out l.out l.row-iterator.kind l.row-iterator.slot l.row-iterator.from l.count l.put;
  fewer : l.count < l.wanted;
  room : l.put ≤ 10 * l.count;
  view : ViewOf l.memory l.view;
  slots : SlotsOf l.memory l.row-iterator.slots.now;
}
