-- What is left to enter, entered in the table so far, gives the whole.
use Rattle.std.proofs.Common.{◌≡◌, ◌+◌, ◌-◌}
use Rattle.store.specs.Layout.{word_at}
use Rattle.label_table.specs.LabelTable.{in_turn, word_entered, part_entered}
use Rattle.label_table.proofs.enter_part.Given as goal

abbrev pub invariant-loop-label : goal.invariant-loop-label
invariant-loop-label l =
    let i = l.part + 1 + l.label-index in
    in_turn (word_entered l.memory) i (l.part + word_at l.memory l.part - i) l.labels ≡ part_entered l.memory l.initial.labels l.part
