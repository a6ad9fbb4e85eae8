-- A turn gathers the next word, whose slots lie within the table.
use Rattle.std.proofs.Common.{arith, rules}
use Rattle.stored.proofs.StandingRows.{gathered-none, gathered-next, gathered-all, standing-bits, word_room}
use Rattle.stored.proofs.standing.Goals as goal

pub loop-k-init : goal.loop-k-init
loop-k-init g c = gathered-none

pub slots_with-requires : goal.slots_with-requires
slots_with-requires g c = word_room (g.met.S.Slot.tabled c.args.memory.now) c.loop-k.k _ _ c.told-memory (omega arith) c.START.ensures c.WORDS-words.ensures

pub loop-k-preserved : goal.loop-k-preserved
loop-k-preserved g c =
    let t = g.met.S.Slot.tabled c.args.memory.now in
    gathered-next c.loop-k.invariant _ (omega (arith, t.in_row))
    (standing-bits t c.loop-k.k _ _ _ (omega arith) c.START.ensures c.WORDS-words.ensures (search rules) c.slots_with.ensures)

pub returns : goal.returns
returns g c = gathered-all (g.met.S.Slot.tabled c.args.memory.now) c.loop-k.invariant (omega arith)
