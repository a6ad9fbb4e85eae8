-- The bytes of a block, its numbers and its checksum.
use Rattle.std.specs.Prelude.{List, ℕ, zero, suc, ◌+◌, ◌*◌, ◌%◌, get_or}

abbrev pub byte_at : List ℕ → ℕ → ℕ
byte_at b i = get_or b i 0

-- "Numbers of two bytes have the high byte first."
abbrev pub number_at : List ℕ → ℕ → ℕ
number_at b i = byte_at b i * 256 + byte_at b (i + 1)

-- the sum over the first n bytes of byte times (its position + 1)
unfoldable pub weighted : List ℕ → ℕ → ℕ
weighted b zero = 0
weighted b (suc n) = weighted b n + byte_at b n * (n + 1)

-- "Bytes 510 and 511 hold the check: the sum over bytes 0 to 509 of byte times (its position + 1), remainder by 65521."
unfoldable pub checksum : List ℕ → ℕ
checksum b = weighted b 510 % 65521
