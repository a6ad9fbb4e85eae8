-- The fields of a block of settings, one by one.
use Rattle.std.specs.Prelude.{Bool, cond, [], ◌∷◌, ℕ, eqb, leb, Option}
use Rattle.block.specs.Fault.{field, field_fault}
use Rattle.block.specs.Reader.{within}

-- "the system value, 0 with system key 0, else 1 to 65535"
abbrev pub value_fits : ℕ → ℕ → Bool
value_fits key value = cond (eqb key 0) (eqb value 0) (within 1 65535 value)

-- "byte 2 the system key, 0 for none, else 1 to 64", then the system value
abbrev pub system_fault : ℕ → ℕ → Option ℕ
system_fault key value = field_fault (field 2 (leb key 64) ∷ field 4 (value_fits key value) ∷ [])
