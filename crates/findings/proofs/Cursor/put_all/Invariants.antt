-- The findings after the place, as many as the list holds, are put row after row.
use Rattle.finding_rows.specs.View.{ViewOf}
use Rattle.finding_rows.specs.Slots.{SlotsOf}
use Rattle.findings.specs.Steps.{cursor_place}
use Rattle.findings.proofs.PutSoFar.{PutSoFar}
use Rattle.findings.proofs.Cursor.put_all.Given as goal

abbrev pub invariant-loop-row : goal.invariant-loop-row
invariant-loop-row l = record {
  put : PutSoFar l.memory (cursor_place l.fn.self) l.initial.list l.list l.row-iterator.kind l.row-iterator.slot l.row-iterator.from l.count;
  view : ViewOf l.memory l.view;
  slots : SlotsOf l.memory l.row-iterator.slots.now;
}
