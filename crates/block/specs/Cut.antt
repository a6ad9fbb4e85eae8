-- Bytes as blocks.
use Rattle.std.specs.Prelude.{List, [], ◌∷◌, ℕ, zero, suc, length, take, drop}

-- "Blocks of 512 bytes", a short last one among them. At most f of them.
unfoldable pub blocks_by : ℕ → List ℕ → List (List ℕ)
blocks_by zero l = []
blocks_by (suc f) [] = []
blocks_by (suc f) (x ∷ l) = take 512 (x ∷ l) ∷ blocks_by f (drop 512 (x ∷ l))

unfoldable pub blocks_of : List ℕ → List (List ℕ)
blocks_of l = blocks_by (length l) l
