-- What is left to enter, entered in the table so far, gives the whole.
use Rattle.std.proofs.Common.{◌≡◌, ◌-◌}
use Rattle.label_table.specs.LabelTable.{in_turn, policy_entered}
use Rattle.label_table.proofs.enter_all.Given as goal

abbrev pub invariant-loop-q : goal.invariant-loop-q
invariant-loop-q l = in_turn (policy_entered l.memory) l.q (128 - l.q) l.labels ≡ in_turn (policy_entered l.memory) 0 128 l.initial.labels
