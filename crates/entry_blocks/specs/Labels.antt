-- Labels that go into a block.
use Rattle.std.specs.Prelude.{ℕ, ◌+◌, ◌*◌, ◌<◌, ◌≤◌, List, length, get_or}

-- words of labels are of 32 bits, and find room from byte `at` of a block on
pub record LabelsFit (words : List ℕ) (at : ℕ) : Type 0 where
  pub room : at + 4 * length words ≤ 510
  pub small : (k : ℕ) → k < length words → get_or words k 0 < 4294967296
