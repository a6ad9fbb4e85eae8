-- Which bytes of a block need a look.
use Rattle.std.specs.Prelude.{◌≡◌, List, ℕ, ◌≤◌, None}
use Rattle.block.specs.Reader.{zero_fault}

-- No field of an entry reaches past byte 35 (4 + 4 * 8), and the bytes from e to 509 are zero.
pub record UsedEnd (b : List ℕ) (e : ℕ) : Type 0 where
  pub low : 36 ≤ e
  pub high : e ≤ 510
  pub rest : zero_fault b e 510 ≡ None
