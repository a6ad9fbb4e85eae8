-- The block of a shape.
use Rattle.std.specs.Prelude.{ℕ, zero, suc, ◌+◌, ◌-◌, ◌%◌, min, List, [], ◌∷◌, ◌++◌, length, replicate, slice_set}
use Rattle.block.specs.Bytes.{checksum}
use Rattle.block.specs.Written.{number_bytes}
use Rattle.samples.specs.declared.Shape.{Shape}

-- the bytes of n labels with rising keys, from `key` on, and value 1
unfoldable pub rising_labels : ℕ → ℕ → List ℕ
rising_labels key zero = []
rising_labels key (suc n) = rising_labels key n ++ 0 ∷ (key + n) % 256 ∷ 0 ∷ 1 ∷ []

-- the first four bytes, then nine labels at most
unfoldable pub front : Shape → List ℕ
front s = s.kind ∷ s.one ∷ s.two ∷ s.three ∷ rising_labels s.key (min s.labels 9)

-- bytes 0 to 509: the front, then zeros, with one byte put; put past the end, it changes none
unfoldable pub body : Shape → List ℕ
body s = slice_set (front s ++ replicate (510 - length (front s)) 0) s.at s.byte

-- the body, then its checksum plus `above`
unfoldable pub block_of_shape : Shape → List ℕ
block_of_shape s = body s ++ number_bytes ((checksum (body s) + s.above) % 65521)
