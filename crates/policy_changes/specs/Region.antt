-- The bits of the matrix that a policy's coming or going touches, as rows and columns.
use Rattle.std.specs.Prelude.{◌≡◌, Bool, List, ℕ}
use Rattle.bitrow.specs.Bit.{bit_at}
use Rattle.block.specs.declared.Direction.{Direction}
use Rattle.block.specs.Entry.{Policy}
use Rattle.model.specs.Table.{on, at, stands}
use Rattle.model.specs.Rules.{selects}
use Rattle.model.specs.Model.{Model}
use Rattle.model.specs.Registry.{touched}
use Rattle.formed.specs.Registry.{model_in, registry_in, image}
use Rattle.matrix_resets.specs.Resets.{product, reset_where}
use Rattle.policy_changes.specs.declared.Region.{Region}

-- the containers that p selects
unfoldable pub selection : Model → Policy → ℕ → Bool
selection m p c = on (selects p) (at m.containers c)

-- the rows and columns of r are what a policy of direction d touches that selects s, where t stand
pub record Touches (d : Direction) (s t : ℕ → Bool) (r : Region) : Type 0 where
  pub is : (m : Model) (p : Policy) → d ≡ p.direction → s ≡ selection m p → t ≡ stands m.containers → product (bit_at r.rows) (bit_at r.columns) ≡ touched m p

-- m' is m but for the bits that a policy of direction d touches that selects s: these are by the rules
pub record TouchedReset (m m' : List ℕ) (d : Direction) (s : ℕ → Bool) : Type 0 where
  pub is : (p : Policy) → d ≡ p.direction → s ≡ selection (model_in m) p → m' ≡ image (reset_where (registry_in m) (touched (model_in m) p))
