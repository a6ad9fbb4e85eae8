-- What a block can say.
use Rattle.std.specs.Prelude.{List, ℕ}
use Rattle.block.specs.declared.Direction.{Direction}

-- "A label is a key (1 to 64) and a value (1 to 65535)."
pub record Label : Type 0 where
  pub key : ℕ
  pub value : ℕ

-- "A label list is in strictly rising order of key."
abbrev pub Container : Type 0
Container = List Label

pub record Policy : Type 0 where
  pub direction : Direction
  pub select : List Label
  pub allow : List Label

-- The system key is 0 where no system label is set.
pub record Settings : Type 0 where
  pub user_key : ℕ
  pub system_key : ℕ
  pub system_value : ℕ

-- What an admission block says.
pub data Entry : Type 0 where
  container : Container → Entry
  policy : Policy → Entry
