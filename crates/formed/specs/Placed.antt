-- The registry in the middle of a change: a slot holds what it will hold, and no stored bit has moved.
use Rattle.std.proofs.Math.Option.{Option}
use Rattle.std.specs.Prelude.{ℕ}
use Rattle.block.specs.Entry.{Container, Policy}
use Rattle.model.specs.Model.{with_container, with_policy}
use Rattle.model.specs.Registry.{Registry}

unfoldable pub container_placed : Registry → ℕ → Option Container → Registry
container_placed r c x = record { model = with_container r.model c x; bits = r.bits }

unfoldable pub policy_placed : Registry → ℕ → Option Policy → Registry
policy_placed r q x = record { model = with_policy r.model q x; bits = r.bits }
