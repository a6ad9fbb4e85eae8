-- The rows of containers that belong to the places of a table of labels.
use Rattle.std.specs.Prelude.{◌≡◌, Bool, cond, List, ℕ}
use Rattle.bitrow.specs.Set.{meet, under, insert}
use Rattle.model.specs.Rules.{carries}
use Rattle.store.specs.Layout.{container_start}
use Rattle.formed.specs.Words.{label_in, part_in}
use Rattle.label_table.specs.declared.LabelTable.{LabelTable}
use Rattle.label_table.specs.LabelTable.{places, table_place, Placed}
use Rattle.label_table.specs.Rows.{bits, Shaped}

-- c put into s if the test passes
unfoldable pub put : ℕ → Bool → (ℕ → Bool) → ℕ → Bool
put c t s = cond t (insert c s) s

-- c is put into the row of each placed label that g has, and these rows are else as before
pub record Marked (labels : List ℕ) (c : ℕ) (g : ℕ → Bool) (before after : List (List ℕ)) : Type 0 where
  pub shape : Shaped places after
  pub row : (v : ℕ) → Placed labels v → bits after (table_place labels v) ≡ put c (g v) (bits before (table_place labels v))

-- the containers that carry label v
unfoldable pub carriers : List ℕ → ℕ → ℕ → Bool
carriers m v c = carries (part_in m (container_start c)) (label_in v)

-- the row of each placed label has those of its carriers that are below n
pub record LabelRows (m : List ℕ) (n : ℕ) (t : LabelTable) : Type 0 where
  pub shape : Shaped places t.rows
  pub row : (v : ℕ) → Placed t.labels v → bits t.rows (table_place t.labels v) ≡ meet (carriers m v) (under n)
