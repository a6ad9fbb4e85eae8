-- A whole block: what stands in its buffer are the bytes that stood there and the first of the piece.
use Rattle.std.proofs.Common.{◌≡◌, ◌+◌, ◌-◌, ◌≤◌, ℕ, List, ◌++◌, length, take, drop, refl, sym, ap, ◌∙◌, arith}
use Rattle.std.proofs.lemmas.List.{take-take, length-take}
use Rattle.std.proofs.lemmas.Slice.{put_mid-paste}
use lib.Seq.{paste}
use borrow.Rule.Slice.PartMut.{put_mid}
use Rattle.sheets.proofs.PieceLaws.{does-as, take_on, with-block}
use Rattle.report.proofs.take_one.Goals as goal

copied : (block piece new : List ℕ) (f used : ℕ) → new ≡ take used piece → used ≤ length piece → put_mid f (f + used - f) block new ≡ paste block f piece used
copied block piece new f used e h =
    put_mid-paste f (f + used - f) block new (take used piece) used e (omega arith) (omega (arith, length-take used piece))
    ∙ ap (λ (l : List ℕ). take f block ++ l ++ drop (f + used) block) (take-take used used piece (omega arith))

pub returns-clause-does : goal.returns-clause-does
returns-clause-does c =
    let a = c.args in
    let used = c.min-used.result in
    let pasted = copied a.block.now a.piece.now c.copy_from_slice.new.self a.f used c.copy_from_slice.ensures.after (omega arith) in
    does-as
    (take_on a.memory.now a.block.now a.piece.now a.ended a.n a.f (omega arith) used (omega arith) _ pasted ∙ with-block _ _ _ _ _ _ (sym c.waits.ensures ∙ c.if-waits.false) c.if-bytes-eq0.false)
    (rw c.using-2.ensures (record { memory = c.feed_block.ensures.memory; block = refl; text = c.feed_block.ensures.text; state = c.feed_block.ensures.state; used = refl }))
