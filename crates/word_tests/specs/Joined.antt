-- The test of rows that are joined.
use Rattle.std.specs.Prelude.{Bool, not, ◌&&◌, ℕ}
use Rattle.bitrow.specs.Bit.{bit_at}
use Rattle.bitrow.specs.Set.{has_some, part}
use Rattle.word_tests.specs.declared.Joined.{Joined}

-- the rows of standing slots have only bits of s, those of free slots none
unfoldable pub rows_ok : Joined → (ℕ → Bool) → Bool
rows_ok x s = part (bit_at x.owned) s && not (has_some (bit_at x.free))
