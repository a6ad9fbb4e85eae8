-- `valid_settings`, arm by arm.
use mathlib.Core.Path.{◌≡◌}
use mathlib.Core.Bool.{Bool, ◌&&◌}
use lib.Dec.{eqb, leb}
use borrow.Author.Tests.{eq-eqb, ne_eqb}
use Rattle.block.specs.Entry.{Settings}
use Rattle.block.specs.Reader.{within}
use Rattle.block.specs.Written.{valid_settings}

module _ (s : Settings) {user : Bool} (u : user ≡ within 1 64 s.user_key) where
  pub no-system : s.system_key ≡ 0 → (user && (leb s.system_key 64 && eqb s.system_value 0)) ≡ valid_settings s
  unfolding valid_settings
  no-system e = rw (u, eq-eqb s.system_key 0 e)

  pub system : {value : Bool} → value ≡ within 1 65535 s.system_value → (s.system_key ≡ 0 → ⊥)
      → (user && (leb s.system_key 64 && value)) ≡ valid_settings s
  unfolding valid_settings
  system v n = rw (u, v, ne_eqb s.system_key 0 n)
