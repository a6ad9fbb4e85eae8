-- Bits of the matrix set by the rules, row by row.
use Rattle.std.specs.Prelude.{◌≡◌, Bool, true, ◌&&◌, cond, List, ℕ, ◌^◌, ◌<◌}
use Rattle.bitrow.specs.Bit.{bit_at}
use Rattle.model.specs.Model.{Model, matrix_bit}
use Rattle.model.specs.Registry.{Registry, set_where}
use Rattle.store.specs.Layout.{word_at}
use Rattle.store.specs.Contents.{Contents, Holds}
use Rattle.store.specs.Memory.{with_row}
use Rattle.matrix_rows.specs.declared.Gathered.{Gathered}
use Rattle.matrix_rows.specs.Rows.{RowFrom}

-- the named bits of the matrix by the rules
unfoldable pub reset_where : Registry → (ℕ → ℕ → Bool) → Registry
reset_where r named = record {
  model = r.model;
  bits = record {
    matrix = set_where named (matrix_bit r.model) r.bits.matrix;
    selected = r.bits.selected;
    allowed = r.bits.allowed;
  };
}

-- the pairs of one of s and one of t
unfoldable pub product : (ℕ → Bool) → (ℕ → Bool) → ℕ → ℕ → Bool
product s t a b = s a && t b

-- a row with the bits of the mask made the rule's
unfoldable pub masked : (ℕ → Bool) → (ℕ → Bool) → (ℕ → Bool) → ℕ → Bool
masked mask rule old y = cond (mask y) (rule y) (old y)

-- m' is m but for row a, whose bits of the mask are made the rule's; words below 2 ^ 64 stay so
pub record RowReset (m m' : List ℕ) (a : ℕ) (mask rule : ℕ → Bool) : Type 0 where
  pub holds : (c : Contents) → Holds m c → Holds m' (with_row c a (masked mask rule (c.bits a)))
  pub fits : ((k : ℕ) → word_at m k < 2 ^ 64) → (k : ℕ) → word_at m' k < 2 ^ 64

-- what is read from g for one of some is its row of the matrix of m
pub record RowsFrom (m : Model) (some : ℕ → Bool) (g : Gathered) : Type 0 where
  pub row : {a : ℕ} {r : List ℕ} → RowFrom g a r → some a ≡ true → bit_at r ≡ matrix_bit m a
