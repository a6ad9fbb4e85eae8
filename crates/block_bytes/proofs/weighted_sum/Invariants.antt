-- The sum so far, which each byte raises by 255 * 510 at most.
use Rattle.std.proofs.Common.{◌≡◌, ◌≤◌, ◌*◌}
use Rattle.block.specs.Bytes.{weighted}
use Rattle.block_bytes.proofs.weighted_sum.Given as goal

abbrev pub invariant-loop-byte : goal.invariant-loop-byte
invariant-loop-byte l = (l.place ≡ l.byte-index) × (l.sum ≤ 130050 * l.byte-index) × (l.sum ≡ weighted l.block l.byte-index)
