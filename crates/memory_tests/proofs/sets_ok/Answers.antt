-- A turn joins two rows.
use mathlib.Core.Path.{sym, ◌∙◌}
use Rattle.bitrow.specs.Bit.{bit_at}
use Rattle.model.specs.Model.{policy_slots}
use Rattle.word_tests.specs.Joined.{rows_ok}
use Rattle.formed.specs.Tests.{set_rows_ok, sets_ok}
use Rattle.memory_tests.proofs.Turns.{first, turn, last, two}
use Rattle.memory_tests.proofs.sets_ok.Goals as goal

pub loop-q-init : goal.loop-q-init
loop-q-init c = λ s. first (set_rows_ok c.args.memory.now s) policy_slots (c.none-rows.ensures s)

pub loop-q-preserved : goal.loop-q-preserved
loop-q-preserved c = λ s.
    let l = c.loop-q in
    turn (set_rows_ok c.args.memory.now s) policy_slots (rows_ok l.rows s) _ l.q c.loop-q-test.true
    (two (rows_ok l.rows s) _ _ (c.with-selected.ensures s) (c.with-both.ensures s)) ∙ l.invariant s

pub returns : goal.returns
unfolding sets_ok
returns c =
    let l = c.loop-q in
    let s = bit_at c.args.standing in
    c.ok.ensures ∙ sym (last (set_rows_ok c.args.memory.now s) policy_slots (rows_ok l.rows s) l.q c.loop-q-test.false) ∙ l.invariant s
