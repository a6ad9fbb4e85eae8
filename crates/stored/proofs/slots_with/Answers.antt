-- A slot takes or skips its bit.
use Rattle.std.proofs.Common.{ap, ◌∙◌}
use Rattle.bitrow.specs.Bit.{bit}
use Rattle.formed.proofs.Standing.{word_none, firsts-skip, firsts-take}
use Rattle.stored.proofs.slots_with.Goals as goal
use Rattle.stored.proofs.slots_with.Goals.{then-memory-at, else-memory-at}

pub loop-k-init : goal.loop-k-init
loop-k-init c = word_none _

pub loop-k-preserved : goal.loop-k-preserved
loop-k-preserved c =
    let x = c.args in
    let l = c.loop-k in
    elim c.if-memory-at.branch [
      | then-memory-at w ↦ ap bit w.word-is ∙ firsts-take _ x.at x.step _ l.k _ l.invariant _ c.loop-k-test.true w.word_with-word.ensures w.if-memory-at.true
      | else-memory-at w ↦ ap bit w.word-is ∙ firsts-skip _ x.at x.step _ l.k _ l.invariant w.if-memory-at.false
    ]
