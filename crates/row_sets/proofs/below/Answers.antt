-- Each word has the low bits of what is left of i past the words before it.
use Rattle.bitrow.proofs.Rows.{low-row}
use Rattle.row_sets.proofs.below.Goals as goal

pub returns : goal.returns
returns c =
    low-row _ _ _ _ _ c.saturating_sub.ensures c.saturating_sub-2.ensures c.saturating_sub-3.ensures
    c.low_bits.ensures c.low_bits-2.ensures c.low_bits-3.ensures c.low_bits-4.ensures
