-- Rows of the matrix from what was gathered policy by policy.
use Rattle.std.specs.Prelude.{◌≡◌, Bool, true, cond, List, ℕ, length}
use Rattle.bitrow.specs.Bit.{bit_at}
use Rattle.bitrow.specs.Set.{meet}
use Rattle.block.specs.declared.Direction.TheVariants.{Ingress as ingress, Egress as egress}
use Rattle.model.specs.Table.{stands}
use Rattle.model.specs.Model.{container_slots, policy_slots, Model, matrix_bit}
use Rattle.sets.specs.Sets.{bits, Empty, SetsOf}
use Rattle.rules.specs.Lets.{union}
use Rattle.reach.specs.Sides.{direction_set}
use Rattle.joins.specs.Joins.{LinesAre}
use Rattle.matrix_rows.specs.declared.Gathered.{Gathered}

-- s, what it has of u if the test passes
unfoldable pub meet_if : Bool → (ℕ → Bool) → (ℕ → Bool) → ℕ → Bool
meet_if t s u = cond t (meet s u) s

-- nothing is gathered yet; the standing containers are these
pub record Ungathered (row : List ℕ) (g : Gathered) : Type 0 where
  pub standing : g.standing ≡ row
  pub selected : Empty policy_slots g.sets.selected
  pub allowed : Empty policy_slots g.sets.allowed
  pub out : Empty container_slots g.outs
  pub back : Empty container_slots g.backs

-- what the rows of some containers are read from is by the entries of m: each policy's two sets, what the policies of each direction
-- select, and for each container what those allow that select it, for ingress what those select that allow it
pub record Gathers (m : Model) (some : ℕ → Bool) (g : Gathered) : Type 0 where
  pub slots : length m.policies ≡ policy_slots
  pub sets : SetsOf m g.sets
  pub standing : bit_at g.standing ≡ stands m.containers
  pub bound : bit_at g.bound ≡ union (direction_set m egress) (bits g.sets.selected) policy_slots
  pub chosen : bit_at g.chosen ≡ union (direction_set m ingress) (bits g.sets.selected) policy_slots
  pub out : LinesAre policy_slots some (direction_set m egress) (bits g.sets.selected) (bits g.sets.allowed) g.outs
  pub back : LinesAre policy_slots some (direction_set m ingress) (bits g.sets.allowed) (bits g.sets.selected) g.backs

-- r is row a of the matrix, whatever model it is all gathered from, if a is one of some where it stands
pub record RowFrom (g : Gathered) (a : ℕ) (r : List ℕ) : Type 0 where
  pub is : {m : Model} {some : ℕ → Bool} → Gathers m some g → (stands m.containers a ≡ true → some a ≡ true) → bit_at r ≡ matrix_bit m a
