-- One container's bits, as its admission and its removal write them.
use Rattle.std.specs.Prelude.{Bool, List, ℕ}
use Rattle.bitrow.specs.Set.{under, meet}
use Rattle.store.specs.Layout.{matrix_band, selected_band, allowed_band}
use Rattle.store.specs.Memory.{row_set, column_set}

-- container c's bits: its row and its column of the matrix, and its bit in each policy's selected and allowed set
unfoldable pub bits_set : List ℕ → ℕ → List ℕ → List ℕ → List ℕ → List ℕ → List ℕ
bits_set m c row column selected allowed =
    column_set (column_set (column_set (row_set m c row) matrix_band c column) selected_band c selected) allowed_band c allowed

-- those below n whose set has c
unfoldable pub holding_set : ℕ → (ℕ → ℕ → Bool) → ℕ → ℕ → Bool
holding_set n sets c = meet (λ q. sets q c) (under n)
