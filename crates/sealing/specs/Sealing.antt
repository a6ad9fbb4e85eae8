-- A block that is made from its first byte on, and the sum of which its checksum is the remainder.
use Rattle.std.specs.Prelude.{◌≡◌, List, ◌++◌, ℕ, ◌+◌, ◌*◌, ◌≤◌, length, take}
use Rattle.block.specs.Bytes.{weighted}

-- the first `at` bytes of the block d are made, and this is the sum of each of them times (its position + 1)
pub record Summed (d : List ℕ) (at sum : ℕ) : Type 0 where
  pub long : length d ≡ 512
  pub within : at ≤ 510
  pub is : sum ≡ weighted d at
  -- a byte before 510 counts for 255 * 510 at most
  pub small : sum ≤ 130050 * at

-- some bytes were put behind the first `at` of the block d: e begins with those and then with these, and this is the sum of all
pub record Lengthens (d : List ℕ) (at : ℕ) (bytes e : List ℕ) (sum : ℕ) : Type 0 where
  pub front : take (at + length bytes) e ≡ take at d ++ bytes
  pub summed : Summed e (at + length bytes) sum
