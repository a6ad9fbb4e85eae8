-- Two policies that make a finding are of one direction; in the shadow of a policy lie those alone of which it selects every container,
-- and in conflict with it are those alone that select some container with it.
use mathlib.Core.Path.{◌≡◌, refl, sym, ap, ◌∙◌}
use mathlib.Core.Bool.{Bool, true, false, true≢false}
use mathlib.Core.List.{List}
use Prim.Native.Nat.{ℕ, ◌<◌}
use Rattle.bitrow.specs.Set.{meet, has_some}
use Rattle.bitrow.proofs.Sets.{meet-at}
use Rattle.bitrow.proofs.Tests.{has_some-found, part_in-law}
use Rattle.model.specs.Findings.{one_direction}
use Rattle.model.proofs.Lists.{both}
use Rattle.formed.specs.Registry.{model_in, bits_in}
use Rattle.policy_pairs.specs.declared.Compared.{Compared}
use Rattle.policy_pairs.specs.Comparisons.{comparison, ComparedIn}
use Rattle.policy_pairs.proofs.SetTests.{shadow-is, conflict-is}
use Rattle.policy_pairs.proofs.ComparisonLaws.{comparison-5, comparison-6, comparison-apart}

pub comparison-alike : (k : ℕ) (m : List ℕ) (a b : ℕ) → comparison k m a b ≡ true → one_direction (model_in m) a b ≡ true
comparison-alike k m a b h = pick (one_direction (model_in m) a b) refl
  where
    pick : (t : Bool) → one_direction (model_in m) a b ≡ t → t ≡ true
    pick true e = refl
    pick false e = absurd (true≢false (sym h ∙ comparison-apart k m a b e))

-- a container that both select, by the stored sets
pub record Shared (m : List ℕ) (a b : ℕ) : Type 0 where
  pub container : ℕ
  pub of_one : (bits_in m).selected a container ≡ true
  pub of_other : (bits_in m).selected b container ≡ true

module _ (m : List ℕ) (p : Compared) (c : ComparedIn m p) (k b : ℕ) where
  -- shadow: all that the one selects, b selects too
  pub shadow-covered : k ≡ 5 → comparison k m p.slot b ≡ true → (d : ℕ) → d < 256 → (bits_in m).selected p.slot d ≡ true → (bits_in m).selected b d ≡ true
  shadow-covered i h =
      let some : has_some ((bits_in m).selected p.slot) ≡ true = sym (ap has_some c.selected) ∙ c.selects_some in
      let e = sym (shadow-is m c.formed p.slot b some (sym (ap has_some c.allowed) ∙ c.allows_some)) ∙ sym (comparison-5 k m p.slot b i) ∙ h in
      part_in-law ((bits_in m).selected p.slot) ((bits_in m).selected b) (both _ _ (both _ _ (both _ _ (both _ _ e).1).1).0).0

  -- conflict
  pub conflict-shared : (k ≡ 5 → ⊥) → comparison k m p.slot b ≡ true → Shared m p.slot b
  conflict-shared n h =
      let e = sym (conflict-is m c.formed p.slot b) ∙ sym (comparison-6 k m p.slot b n) ∙ h in
      let d = has_some-found (meet ((bits_in m).selected p.slot) ((bits_in m).selected b)) (both _ _ (both _ _ (both _ _ e).1).1).0 in
      let two = both _ _ (sym (meet-at ((bits_in m).selected p.slot) ((bits_in m).selected b) d.0) ∙ d.2) in
      record { container = d.0; of_one = two.0; of_other = two.1 }
