-- The part that was lent is filled, and so the slot.
use Rattle.std.proofs.Common.{◌∙◌, ap, arith, replicate, ◌+◌}
use borrow.Rule.Slice.PartMut.{mid_len}
use Rattle.store.proofs.Stores.{slot-filled}
use Rattle.access.proofs.clear_slot.Goals as goal

pub returns : goal.returns
returns c =
    let x = c.args in
    slot-filled _ _ x.start x.n 0 c.requires (c.fill.ensures.after (λ y e. e) ∙ ap (λ n. replicate n 0) (mid_len x.start (x.start + x.n) x.memory.now c.requires ∙ omega arith))
