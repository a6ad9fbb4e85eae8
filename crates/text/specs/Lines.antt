-- The lines of the report, from document 01, "The program and one printed sheet".
use Rattle.std.specs.Prelude.{cond, List, [], ◌∷◌, ◌++◌, ℕ, ◌+◌, ◌/◌, ◌%◌, eqb}
use Rattle.std.proofs.Math.Option.{none, some}
use Rattle.model.specs.declared.Finding.{Finding}
use Rattle.model.specs.Calls.{Answer}
use Rattle.model.specs.Calls.{said}
use Rattle.digits.specs.Decimal.{decimal, ended}
use Rattle.text.specs.Text.{space, newline, named, three_numbers}

-- REFUSED
abbrev refused_word : List ℕ
refused_word = 82 ∷ 69 ∷ 70 ∷ 85 ∷ 83 ∷ 69 ∷ 68 ∷ []

-- CONTAINERS
abbrev containers_word : List ℕ
containers_word = 67 ∷ 79 ∷ 78 ∷ 84 ∷ 65 ∷ 73 ∷ 78 ∷ 69 ∷ 82 ∷ 83 ∷ []

-- POLICIES
abbrev policies_word : List ℕ
policies_word = 80 ∷ 79 ∷ 76 ∷ 73 ∷ 67 ∷ 73 ∷ 69 ∷ 83 ∷ []

-- PAIRS
abbrev pairs_word : List ℕ
pairs_word = 80 ∷ 65 ∷ 73 ∷ 82 ∷ 83 ∷ []

-- "A refused block n (from 1) gives `REFUSED n r`"; document 02, Note 5: "`lister` prints it as a third number after REFUSED"
unfoldable pub refused_line : ℕ → ℕ × ℕ → List ℕ
refused_line n f = named refused_word n space ++ ended (decimal f.0) space ++ ended (decimal f.1) newline

-- what the answer to block n gives
abbrev pub refused_by : ℕ → Answer → List ℕ
refused_by n a = elim (said a).refused [ none ↦ [] | some f ↦ refused_line n f ]

-- what the two numbers that answer block n give: 0 and a slot for a block that was taken, or its refusal and the position
unfoldable pub pair_line : ℕ → ℕ × ℕ → List ℕ
pair_line n p = cond (eqb p.0 0) [] (refused_line n p)

-- of the blocks after n others
unfoldable pub pair_lines : ℕ → List (ℕ × ℕ) → List ℕ
pair_lines n [] = []
pair_lines n (p ∷ ps) = pair_line (n + 1) p ++ pair_lines (n + 1) ps

-- "one line with the standing counts and PAIRS"
unfoldable pub counts_line : ℕ → ℕ → ℕ → List ℕ
counts_line c q n = named containers_word c space ++ named policies_word q space ++ named pairs_word n newline

-- "each finding line being kind, a, b"
unfoldable pub finding_line : Finding → List ℕ
finding_line g = three_numbers g.kind g.a g.b

unfoldable pub finding_lines : List Finding → List ℕ
finding_lines [] = []
finding_lines (g ∷ l) = finding_line g ++ finding_lines l

-- the line of a finding, from the finding as one number
unfoldable pub code_line : ℕ → List ℕ
code_line n = three_numbers (n / 4294967296) (n / 65536 % 65536) (n % 65536)

unfoldable pub code_lines : List ℕ → List ℕ
code_lines [] = []
code_lines (n ∷ l) = code_line n ++ code_lines l
