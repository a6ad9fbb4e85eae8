-- Each turn puts a label's key and its value.
use Rattle.std.proofs.Common.{◌+◌, ◌≤◌, arith}
use Rattle.entry_blocks.proofs.BlockLaws.{put-summed, put-room, put_next}
use Rattle.entry_blocks.proofs.put_labels.Goals as goal

pub put_number-keyed-requires : goal.put_number-keyed-requires
put_number-keyed-requires c =
    let l = c.loop-word in
    let room : l.to + 4 ≤ 510 = put-room l.invariant c.requires.0 c.loop-word-test.true in
    let small = c.requires.0.small l.word-index c.loop-word-test.true in
    (put-summed l.invariant, omega arith, omega arith)

pub loop-word-preserved : goal.loop-word-preserved
loop-word-preserved c = put_next c.loop-word.invariant c.loop-word-test.true c.put_number-keyed.ensures c.put_number-total.ensures
