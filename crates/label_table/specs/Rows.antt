-- Rows of bits in an array.
use Rattle.std.specs.Prelude.{◌≡◌, Bool, List, [], ℕ, ◌<◌, length, get_or}
use Rattle.bitrow.specs.Bit.{bit_at}
use Rattle.bitrow.specs.Set.{nothing}

-- rows as sets
abbrev pub bits : List (List ℕ) → ℕ → ℕ → Bool
bits rows q = bit_at (get_or rows q [])

-- n rows of four words
pub record Shaped (n : ℕ) (rows : List (List ℕ)) : Type 0 where
  pub size : length rows ≡ n
  pub width : (q : ℕ) → q < n → length (get_or rows q []) ≡ 4

-- n rows that have nothing
pub record Empty (n : ℕ) (rows : List (List ℕ)) : Type 0 where
  pub shape : Shaped n rows
  pub row : (q : ℕ) → bits rows q ≡ nothing
