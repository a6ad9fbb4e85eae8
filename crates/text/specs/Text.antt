-- Words and numbers on a line, in ASCII.
use Rattle.std.specs.Prelude.{List, ◌++◌, ℕ}
use Rattle.digits.specs.Decimal.{decimal, ended}

abbrev pub space : ℕ
space = 32

abbrev pub newline : ℕ
newline = 10

-- a word and a number, and the byte after them
unfoldable pub named : List ℕ → ℕ → ℕ → List ℕ
named word n end = ended word space ++ ended (decimal n) end

-- three numbers on a line
unfoldable pub three_numbers : ℕ → ℕ → ℕ → List ℕ
three_numbers a b c = ended (decimal a) space ++ ended (decimal b) space ++ ended (decimal c) newline
