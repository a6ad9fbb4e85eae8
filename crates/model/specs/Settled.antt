-- What containers and policies that came touch, set once by the rules from the entries as they stand.
use Rattle.std.specs.Prelude.{Bool, ◌&&◌, ◌||◌, ℕ}
use Rattle.block.specs.declared.Direction.{Direction}
use Rattle.block.specs.declared.Direction.TheVariants.{Ingress as ingress, Egress as egress}
use Rattle.model.specs.Table.{any, on, at, stands}
use Rattle.model.specs.Rules.{selects, same_direction}
use Rattle.model.specs.Model.{Model, computed_bits}
use Rattle.model.specs.Findings.{policies_of}
use Rattle.model.specs.Registry.{Registry, set_where}

-- the policy at slot q is of direction d and selects the container at slot a
unfoldable pub selects_as : Direction → Model → ℕ → ℕ → Bool
selects_as d m q a = on (λ p. same_direction d p.direction && on (selects p) (at m.containers a)) (at m.policies q)

-- some of the policies at the slots qs is of direction d and selects the container at slot a
unfoldable pub some_came_selects : Direction → Model → (ℕ → Bool) → ℕ → Bool
some_came_selects d m qs a = any (λ q. qs q && selects_as d m q a) (policies_of m)

-- "for a container at c, row c, column c and c's bit in each policy's sets; for a policy, its two sets and the matrix rows, if egress, or
-- columns, if ingress, of the containers its select part matches, between standing containers": of all that came, over the entries m
unfoldable pub touched_pair : Model → (ℕ → Bool) → (ℕ → Bool) → ℕ → ℕ → Bool
touched_pair m cs qs a b =
    (cs a || cs b)
    || ((stands m.containers a && stands m.containers b) && (some_came_selects egress m qs a || some_came_selects ingress m qs b))

unfoldable pub touched_set : (ℕ → Bool) → (ℕ → Bool) → ℕ → ℕ → Bool
touched_set cs qs q c = qs q || cs c

-- what containers at the slots cs and policies at the slots qs touch, by the rules; all other bits as they were
unfoldable pub settled : (ℕ → Bool) → (ℕ → Bool) → Registry → Registry
settled cs qs r =
    let t = computed_bits r.model in
    record {
      model = r.model;
      bits = record {
        matrix = set_where (touched_pair r.model cs qs) t.matrix r.bits.matrix;
        selected = set_where (touched_set cs qs) t.selected r.bits.selected;
        allowed = set_where (touched_set cs qs) t.allowed r.bits.allowed;
      };
    }
