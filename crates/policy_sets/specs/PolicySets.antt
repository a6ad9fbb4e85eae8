-- What a policy's two sets are made when it comes or goes.
use Rattle.std.specs.Prelude.{◌≡◌, cond, List, ℕ, eqb}
use Rattle.model.specs.Model.{selected_bit, allowed_bit}
use Rattle.model.specs.Registry.{Registry}
use Rattle.formed.specs.Registry.{model_in, bits_in}

-- the two sets of policy q by the entries as they stand, and no other bit changed
unfoldable pub settled : Registry → ℕ → Registry
settled r q = record {
  model = r.model;
  bits = record {
    matrix = r.bits.matrix;
    selected = λ i. cond (eqb i q) (selected_bit r.model q) (r.bits.selected i);
    allowed = λ i. cond (eqb i q) (allowed_bit r.model q) (r.bits.allowed i);
  };
}

-- the sets stored for policy q are by the entries
pub record SetsStored (m : List ℕ) (q : ℕ) : Type 0 where
  pub selected : (bits_in m).selected q ≡ selected_bit (model_in m) q
  pub allowed : (bits_in m).allowed q ≡ allowed_bit (model_in m) q
