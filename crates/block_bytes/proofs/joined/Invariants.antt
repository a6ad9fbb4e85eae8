-- The bytes of the span are all zero exactly if those joined so far are, and those that are left.
use Rattle.std.proofs.Common.{◌≡◌, ◌&&◌, eqb, is_none}
use Rattle.block.specs.Reader.{zero_fault}
use Rattle.block_bytes.proofs.joined.Given as goal

abbrev pub invariant-loop-i : goal.invariant-loop-i
invariant-loop-i l =
    is_none (zero_fault l.block l.fn.span.from l.fn.span.to) ≡ (eqb l.bits 0 && is_none (zero_fault l.block l.i l.fn.span.to))
