-- The findings of a row as a list.
use Rattle.std.specs.Prelude.{Bool, List, map, ℕ}
use Rattle.model.specs.declared.Finding.{Finding}
use Rattle.model.specs.Table.{filter, up_from}
use Rattle.model.specs.Findings.{finding}

-- the numbers of a set among the n from i on, rising
unfoldable pub members : (ℕ → Bool) → ℕ → ℕ → List ℕ
members s i n = filter s (up_from i n)

-- the findings of one kind at a, whose row of all b this is
unfoldable pub row_findings : ℕ → ℕ → (ℕ → Bool) → List Finding
row_findings k a s = map (finding k a) (members s 0 256)
