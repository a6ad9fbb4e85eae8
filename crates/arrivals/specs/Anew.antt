-- The stored bits that are set anew, as tables and row by row, and the registry that has them by the rules.
use Rattle.std.specs.Prelude.{◌≡◌, Bool, ◌||◌, ℕ}
use Rattle.bitrow.specs.Bit.{bit_at}
use Rattle.bitrow.specs.Set.{under, meet, join}
use Rattle.block.specs.declared.Direction.TheVariants.{Ingress as ingress, Egress as egress}
use Rattle.model.specs.Model.{Model, Bits, computed_bits}
use Rattle.model.specs.Registry.{Registry, set_where}
use Rattle.model.specs.Settled.{some_came_selects, touched_set}
use Rattle.formed.specs.Registry.{stored_bit}
use Rattle.arrivals.specs.declared.Touched.{Touched}

-- the bits of each table that are set anew
unfoldable pub anew : Touched → Bits
anew t = record {
  matrix = λ a b. bit_at t.rows a || bit_at t.columns b;
  selected = touched_set (bit_at t.containers) (bit_at t.policies);
  allowed = touched_set (bit_at t.containers) (bit_at t.policies);
}

-- those of row x of the stored bits
unfoldable pub mask_of : Touched → ℕ → ℕ → Bool
mask_of t x = meet (stored_bit (anew t) x) (under 256)

-- the bits of each table by the rule where named, else as before
unfoldable pub bits_where : Bits → Bits → Bits → Bits
bits_where named rule old = record {
  matrix = set_where named.matrix rule.matrix old.matrix;
  selected = set_where named.selected rule.selected old.selected;
  allowed = set_where named.allowed rule.allowed old.allowed;
}

unfoldable pub set_anew : Touched → Registry → Registry
set_anew t r = record { model = r.model; bits = bits_where (anew t) (computed_bits r.model) r.bits }

-- t is what the containers cs and the policies qs that came touch over the entries m, and with them pairs of free slots
pub record TouchedBy (m : Model) (cs qs : ℕ → Bool) (t : Touched) : Type 0 where
  pub rows : bit_at t.rows ≡ join cs (some_came_selects egress m qs)
  pub columns : bit_at t.columns ≡ join cs (some_came_selects ingress m qs)
  pub policies : bit_at t.policies ≡ qs
  pub containers : bit_at t.containers ≡ cs
