-- Rows in an array of rows.
use mathlib.Core.Path.{◌≡◌, refl}
use mathlib.Core.List.{List}
use Prim.Native.Nat.{ℕ, ◌/◌, ◌%◌}
use lib.ListN.{get_or}
use Rattle.bitrow.specs.Bit.{bit, bit_at}

-- `bit_of(rows[q][i / 64], i)` is bit i of row q: here r is row q, `get_or rows q []`
pub bit-of-row : (r : List ℕ) (i : ℕ) → bit (get_or r (i / 64) 0) (i % 64) ≡ bit_at r i
unfolding bit_at
bit-of-row r i = refl
