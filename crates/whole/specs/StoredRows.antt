-- The rows of the stored bits, read from what is gathered.
use Rattle.std.specs.Prelude.{◌≡◌, Bool, List, ℕ}
use Rattle.bitrow.specs.Bit.{bit_at}
use Rattle.model.specs.Table.{stands}
use Rattle.model.specs.Model.{Model, computed_bits}
use Rattle.formed.specs.Registry.{stored_bit}
use Rattle.matrix_rows.specs.declared.Gathered.{Gathered}
use Rattle.matrix_rows.specs.Rows.{Gathers}

-- row is row r of the stored bits by the rules, whatever model it is all gathered from for all that stand
pub record StoredFrom (g : Gathered) (r : ℕ) (row : List ℕ) : Type 0 where
  pub is : {m : Model} {some : ℕ → Bool} → Gathers m some g → some ≡ stands m.containers → bit_at row ≡ stored_bit (computed_bits m) r
