-- What a row and a column of a model's matrix are worked out from.
use Rattle.std.specs.Prelude.{◌≡◌, Bool, List, ℕ}
use Rattle.bitrow.specs.Bit.{bit_at}
use Rattle.block.specs.declared.Direction.{Direction}
use Rattle.block.specs.declared.Direction.TheVariants.{Ingress as ingress, Egress as egress}
use Rattle.model.specs.Table.{on, at, stands}
use Rattle.model.specs.Rules.{same_direction}
use Rattle.model.specs.Model.{policy_slots, Model}
use Rattle.sets.specs.Sets.{bits}
use Rattle.rules.specs.declared.Sides.{Sides}
use Rattle.rules.specs.Lets.{union}

-- the standing policies of a direction
unfoldable pub direction_set : Model → Direction → ℕ → Bool
direction_set m d q = on (λ p. same_direction d p.direction) (at m.policies q)

abbrev pub opposite : Direction → Direction
opposite ingress = egress
opposite egress = ingress

-- what a row of the matrix is worked out from, for egress, and a column, for ingress, by the entries
pub record SidesOf (m : Model) (d : Direction) (sel : List (List ℕ)) (s : Sides) : Type 0 where
  pub standing : bit_at s.standing ≡ stands m.containers
  pub out : bit_at s.out ≡ direction_set m d
  pub back : bit_at s.back ≡ direction_set m (opposite d)
  pub chosen : bit_at s.chosen ≡ union (bit_at s.back) (bits sel) policy_slots

-- the sides of the other direction
pub record Exchanged (s : Sides) (sel : List (List ℕ)) (t : Sides) : Type 0 where
  pub standing : t.standing ≡ s.standing
  pub out : t.out ≡ s.back
  pub back : t.back ≡ s.out
  pub chosen : bit_at t.chosen ≡ union (bit_at s.out) (bits sel) policy_slots
