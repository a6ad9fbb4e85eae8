-- Both parts of a policy entered are its turn.
use Rattle.entries.proofs.FormedEntries.{formed-select, formed-allow}
use Rattle.label_table.proofs.TableLaws.{policy-entered, turn-next, turn-done}
use Rattle.label_table.proofs.enter_all.Goals as goal

pub enter_part-requires : goal.enter_part-requires
enter_part-requires c = (formed-select _ c.requires c.loop-q.q c.loop-q-test.true).within

pub enter_part-requires-in-loop-q : goal.enter_part-requires-in-loop-q
enter_part-requires-in-loop-q c = (formed-allow _ c.requires c.loop-q.q c.loop-q-test.true).within

pub loop-q-preserved : goal.loop-q-preserved
loop-q-preserved c =
    turn-next _ _ _ c.loop-q.invariant c.loop-q-test.true (policy-entered _ _ c.loop-q.q c.enter_part.ensures c.enter_part-in-loop-q.ensures)

pub returns : goal.returns
returns c = turn-done _ _ _ c.loop-q.invariant c.loop-q-test.false
