-- A turn stores the next word; the header and all of them are the part.
use Rattle.std.proofs.Common.{sym, arith}
use Rattle.store.proofs.Stores.{slot-none, slot_turn}
use Rattle.parts.proofs.PartWords.{part-put}
use Rattle.parts.proofs.put_part.Goals as goal

pub loop-k-init : goal.loop-k-init
loop-k-init c = sym (slot-none _ _ _)

pub loop-k-preserved : goal.loop-k-preserved
loop-k-preserved c = slot_turn _ _ _ c.loop-k.k _ _ c.loop-k.invariant c.label_word.ensures

pub returns : goal.returns
returns c =
    let a = c.args in
    part-put a.block.now a.from a.n a.memory.now c.loop-k.memory a.at c.loop-k.k a.limit c.loop-k.invariant (omega arith)
