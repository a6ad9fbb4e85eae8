-- A word as its bits, and a row of four words as a set of numbers below 256.
use Rattle.std.specs.Prelude.{◌≡◌, Bool, true, false, List, ℕ, zero, suc, ◌/◌, ◌%◌, ◌^◌, length, get_or}
use Rattle.std.proofs.Common.{Fits}
use Rattle.std.specs.Int.{w64}

-- a binary digit as a Bool
abbrev pub digit : ℕ → Bool
digit zero = false
digit (suc n) = true

-- bit i of the word w
unfoldable pub bit : ℕ → ℕ → Bool
bit w i = digit (w / 2 ^ i % 2)

-- bit i of the row r: bit i % 64 of word i / 64, and clear past its words
unfoldable pub bit_at : List ℕ → ℕ → Bool
bit_at r i = bit (get_or r (i / 64) 0) (i % 64)

-- what a list is that a [u64; 4] holds: `search needs` makes it from what is known of a parameter or a result
pub record Row (r : List ℕ) : Type 0 where
  pub four : length r ≡ 4
  pub small : (k : ℕ) → Fits w64 (get_or r k 0)
