-- The entries of the slots before i stand in the buffer, one block behind another.
use Rattle.files.specs.Tables.{block_by}
use Rattle.files.proofs.TableLaws.{TablePut}
use Rattle.files.proofs.put_table.Given as goal

abbrev pub invariant-loop-i : goal.invariant-loop-i
invariant-loop-i g l = TablePut (block_by g.S.Slot.either) (g.S.Slot.table l.memory) l.initial.bytes l.start l.bytes l.at l.i
