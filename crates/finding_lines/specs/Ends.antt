-- The last number of a line, and the end of the line.
use Rattle.std.specs.Prelude.{List, [], ◌∷◌, ◌++◌, ℕ, take}
use Rattle.digits.specs.Decimal.{decimal, ended}
use Rattle.text.specs.Text.{newline}

-- a number with an end of line, in four bytes: behind it are zeros
unfoldable pub padded_end : ℕ → List ℕ
padded_end b = take 4 (ended (decimal b) newline ++ 0 ∷ 0 ∷ [])
