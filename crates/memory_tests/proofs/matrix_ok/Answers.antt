-- A turn joins a row.
use mathlib.Core.Path.{sym, ◌∙◌}
use Rattle.bitrow.specs.Bit.{bit_at}
use Rattle.model.specs.Model.{container_slots}
use Rattle.word_tests.specs.Joined.{rows_ok}
use Rattle.formed.specs.Tests.{matrix_row_ok, matrix_ok}
use Rattle.memory_tests.proofs.Turns.{first, turn, last}
use Rattle.memory_tests.proofs.matrix_ok.Goals as goal

pub loop-a-init : goal.loop-a-init
loop-a-init c = λ s. first (matrix_row_ok c.args.memory.now s) container_slots (c.none-rows.ensures s)

pub loop-a-preserved : goal.loop-a-preserved
loop-a-preserved c = λ s.
    let l = c.loop-a in
    turn (matrix_row_ok c.args.memory.now s) container_slots (rows_ok l.rows s) _ l.a c.loop-a-test.true (c.with-next.ensures s) ∙ l.invariant s

pub returns : goal.returns
unfolding matrix_ok
returns c =
    let l = c.loop-a in
    let s = bit_at c.args.standing in
    c.ok.ensures ∙ sym (last (matrix_row_ok c.args.memory.now s) container_slots (rows_ok l.rows s) l.a c.loop-a-test.false) ∙ l.invariant s
