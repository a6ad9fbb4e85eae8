use Rattle.std.proofs.Common.{◌≤◌, ap, length, arith}
use Rattle.streams.specs.Bytes.{left_in}
use Rattle.lister.proofs.Standing.{turned, cut_off, stopped_there, piece-within, within_after}
use Rattle.lister.proofs.turn.Goals as goal

pub returns-in-Err-clause-stopped : goal.returns-in-Err-clause-stopped
returns-in-Err-clause-stopped g c = stopped_there _ _

pub returns-in-Err-write_whole-clause-stopped : goal.returns-in-Err-write_whole-clause-stopped
returns-in-Err-write_whole-clause-stopped g c =
    let does = rw (c.piece.ensures, c.ended.ensures) at c.step-done.ensures.does in
    cut_off _ _ c.refill.new.bytes _ _ _ _ _ _ (g.R.Read.remaining c.refill.new.reader) _ _ c.in-Ok.next c.step-done.result does (c.in-Ok.ensures.bytes c.requires.buffers.0) c.in-Err-write_whole.ensures.part

pub returns-clause-within : goal.returns-clause-within
returns-clause-within g c =
    let next = c.in-Ok.next in
    let fits : c.step-done.result.used ≤ left_in next = omega (arith, ap length c.piece.ensures, piece-within c.refill.new.bytes next, c.step-done.ensures.used_in_bounds.0) in
    rw c.used.ensures (within_after next (length c.refill.new.bytes) c.step-done.result.used c.in-Ok.ensures.within fits)

pub returns-clause-went : goal.returns-clause-went
returns-clause-went g c =
    let next = c.in-Ok.next in
    let fits : c.step-done.result.used ≤ left_in next = omega (arith, ap length c.piece.ensures, piece-within c.refill.new.bytes next, c.step-done.ensures.used_in_bounds.0) in
    let does = rw (c.piece.ensures, c.ended.ensures) at c.step-done.ensures.does in
    rw c.used.ensures (turned _ _ c.refill.new.bytes _ _ _ _ _ _ (g.R.Read.remaining c.refill.new.reader) _ _ next c.step-done.result does (c.in-Ok.ensures.bytes c.requires.buffers.0) fits c.in_default.ensures.all)
