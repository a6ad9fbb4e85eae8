-- Numbers in decimal, in ASCII.
use Rattle.std.specs.Prelude.{cond, List, [], ◌∷◌, ◌++◌, ℕ, zero, suc, ◌+◌, ◌/◌, ◌%◌, ltb}

-- a number in decimal, the last f + 1 digits where it has more
abbrev pub decimal_by : ℕ → ℕ → List ℕ
decimal_by zero n = (48 + n % 10) ∷ []
decimal_by (suc f) n = cond (ltb n 10) ((48 + n) ∷ []) (decimal_by f (n / 10) ++ (48 + n % 10) ∷ [])

-- a number of 64 bits in decimal: it has at most 20 digits
unfoldable pub decimal : ℕ → List ℕ
decimal n = decimal_by 19 n

-- a word and the byte after it
abbrev pub ended : List ℕ → ℕ → List ℕ
ended word end = word ++ end ∷ []
