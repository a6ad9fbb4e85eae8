-- What the rows of findings over policies are worked out from.
use Rattle.std.specs.Prelude.{◌≡◌, Bool, true, List, ℕ, ◌≤◌}
use Rattle.bitrow.specs.Bit.{bit_at}
use Rattle.block.specs.declared.Direction.TheVariants.{Ingress as ingress, Egress as egress}
use Rattle.formed.specs.Registry.{model_in}
use Rattle.reach.specs.Sides.{direction_set}
use Rattle.container_findings.specs.Rows.{shown_at, policies_stand}
use Rattle.selecting.specs.Selecting.{SelectingIn}
use Rattle.policy_findings.specs.declared.PolicyView.{PolicyView}

-- its rows are those of a memory
pub record PoliciesSeen (m : List ℕ) (v : PolicyView) : Type 0 where
  pub standing : bit_at v.standing ≡ policies_stand m
  pub ingress : bit_at v.ingress ≡ direction_set (model_in m) ingress
  pub egress : bit_at v.egress ≡ direction_set (model_in m) egress
  pub selecting : SelectingIn m v.selecting

-- all but the table is as before
pub record SameRows (before after : PolicyView) : Type 0 where
  pub standing : after.standing ≡ before.standing
  pub ingress : after.ingress ≡ before.ingress
  pub egress : after.egress ≡ before.egress

-- s has each slot at which a finding over policies is
pub record SlotsWithFindings (m : List ℕ) (s : ℕ → Bool) : Type 0 where
  pub slot : (k a b : ℕ) → 5 ≤ k → shown_at m k a b ≡ true → s a ≡ true
