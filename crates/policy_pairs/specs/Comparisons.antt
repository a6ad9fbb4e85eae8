-- What two policies are compared by.
use Rattle.std.specs.Prelude.{◌≡◌, Bool, true, cond, List, ℕ, ◌<◌, eqb}
use Rattle.bitrow.specs.Bit.{bit_at}
use Rattle.bitrow.specs.Set.{has_some}
use Rattle.model.specs.Findings.{shadow, conflict}
use Rattle.formed.specs.Registry.{model_in, bits_in, EntriesFormed, well_formed}
use Rattle.policy_pairs.specs.declared.Compared.{Compared}
use Rattle.container_findings.specs.Rows.{policies_stand}

-- what kind 5, or else 6, says of two policies
unfoldable pub comparison : ℕ → List ℕ → ℕ → ℕ → Bool
comparison kind m = cond (eqb kind 5) (shadow (model_in m) (bits_in m)) (conflict (model_in m) (bits_in m))

-- a memory that says entries, and a policy that stands in it
pub record AtPolicy (m : List ℕ) (a : ℕ) : Type 0 where
  pub formed : EntriesFormed m
  pub here : policies_stand m a ≡ true
  pub below : a < 128

-- what a policy of a well-formed memory, whose sets are of standing containers, is compared by: its stored sets, neither of them empty
pub record ComparedIn (m : List ℕ) (p : Compared) : Type 0 where
  pub formed : well_formed m ≡ true
  pub at : AtPolicy m p.slot
  pub selected : bit_at p.who ≡ (bits_in m).selected p.slot
  pub allowed : bit_at p.whom ≡ (bits_in m).allowed p.slot
  pub selects_some : has_some (bit_at p.who) ≡ true
  pub allows_some : has_some (bit_at p.whom) ≡ true
