-- One container's bits by the rules.
use Rattle.std.specs.Prelude.{ℕ}
use Rattle.model.specs.Table.{at}
use Rattle.model.specs.Registry.{Registry, change_container}

-- container c's bits by the rules from the entries as they stand, and no other bit changed
unfoldable pub refreshed : Registry → ℕ → Registry
refreshed r c = change_container r c (at r.model.containers c)
