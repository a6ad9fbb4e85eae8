-- What two policies are compared by, as the words of a memory say it: their directions, and the slots of their sets.
use mathlib.Core.Path.{◌≡◌, sym, ap, ap₂, ◌∙◌}
use mathlib.Core.Bool.{true, not, cond}
use mathlib.Core.List.{List}
use Prim.Native.Nat.{ℕ, ◌≤◌, ◌<◌}
use native.Mathlib.Decide.{ℕ_discrete}
use native.Mathlib.Omega.{arith}
use lib.Dec.{eqb, ltb}
use borrow.Author.Tests.{eqb-false, not-true, eq-eqb, ne_eqb}
use Rattle.block.specs.declared.Direction.TheVariants.{Ingress as ingress, Egress as egress}
use Rattle.block.specs.Reader.{direction_of}
use Rattle.bitrow.specs.Bit.{bit_at}
use Rattle.model.specs.Table.{on}
use Rattle.model.specs.Rules.{same_direction}
use Rattle.model.specs.Findings.{one_direction}
use Rattle.store.specs.Layout.{policy_start, word_at}
use Rattle.model.proofs.Lists.{both}
use Rattle.formed.specs.Words.{policy_at}
use Rattle.formed.specs.Registry.{model_in, bits_in, registry_in, EntriesFormed, well_formed}
use Rattle.formed.proofs.Formed.{formed-memory}
use Rattle.formed.proofs.Reading.{policy-stands, formed-direction}
use Rattle.entries.proofs.Trials.{policy-at, policy-below}
use Rattle.container_findings.specs.Rows.{containers_stand, policies_stand}
use Rattle.policy_pairs.specs.Comparisons.{AtPolicy}

-- ---- sets

module _ (m : List ℕ) (ok : well_formed m ≡ true) where
  -- "no kept bit set for an empty place"
  pub selected-stands : (q c : ℕ) → (bits_in m).selected q c ≡ true → containers_stand m c ≡ true
  unfolding registry_in
  selected-stands q c e = (both (policies_stand m q) (containers_stand m c) ((formed-memory m ok).acceptable.bits.selected q c e)).1

  pub allowed-stands : (q c : ℕ) → (bits_in m).allowed q c ≡ true → containers_stand m c ≡ true
  unfolding registry_in
  allowed-stands q c e = (both (policies_stand m q) (containers_stand m c) ((formed-memory m ok).acceptable.bits.allowed q c e)).1

-- ---- directions

same_number : (x y : ℕ) → 0 < x → x ≤ 2 → 0 < y → y ≤ 2 → same_direction (direction_of x) (direction_of y) ≡ eqb y x
unfolding same_direction direction_of
same_number x y p q r s = go (ℕ_discrete x 1) (ℕ_discrete y 1)
  where
    go : Dec (x ≡ 1) → Dec (y ≡ 1) → same_direction (cond (eqb x 1) ingress egress) (cond (eqb y 1) ingress egress) ≡ eqb y x
    go (yes e) (yes f) = rw (eq-eqb x 1 e, eq-eqb y 1 f) (sym (eq-eqb y x (omega arith)))
    go (yes e) (no f) = rw (eq-eqb x 1 e, ne_eqb y 1 f) (sym (ne_eqb y x (λ z. f (omega arith))))
    go (no e) (yes f) = rw (ne_eqb x 1 e, eq-eqb y 1 f) (sym (ne_eqb y x (λ z. e (omega arith))))
    go (no e) (no f) =
        let u : x ≡ 2 = omega arith in
        let v : y ≡ 2 = omega arith in
        rw (ne_eqb x 1 e, ne_eqb y 1 f) (sym (eq-eqb y x (omega arith)))

module _ (m : List ℕ) (ok : EntriesFormed m) where
  -- the direction word of a policy that stands is 1 or 2
  pub direction-known : (q : ℕ) → policies_stand m q ≡ true → (0 < word_at m (policy_start q)) × (word_at m (policy_start q) ≤ 2)
  direction-known q h =
      let w = (both (ltb q 128) (not (eqb (word_at m (policy_start q)) 0)) (sym (policy-stands m q) ∙ h)).1 in
      let n = eqb-false (word_at m (policy_start q)) 0 (not-true (eqb (word_at m (policy_start q)) 0) w) in
      (positive (word_at m (policy_start q)) n, formed-direction m ok q (policy-below m q h))
    where
      positive : (x : ℕ) → (x ≡ 0 → ⊥) → 0 < x
      positive x n = omega arith

  -- two policies are of one direction exactly if their direction words are equal
  pub one-direction : (a b : ℕ) → policies_stand m a ≡ true → policies_stand m b ≡ true
      → one_direction (model_in m) a b ≡ eqb (word_at m (policy_start b)) (word_at m (policy_start a))
  unfolding one_direction policy_at
  one-direction a b h l =
      let x = direction-known a h in
      let y = direction-known b l in
      ap₂ (λ p q. on (λ p. on (λ q. same_direction p.direction q.direction) q) p) (policy-at m a h) (policy-at m b l)
      ∙ same_number (word_at m (policy_start a)) (word_at m (policy_start b)) x.0 x.1 y.0 y.1

-- ---- slots

-- a number of the row of standing policies
pub at-policy : (m row : List ℕ) (b : ℕ) → EntriesFormed m → bit_at row ≡ policies_stand m → bit_at row b ≡ true → AtPolicy m b
at-policy m row b ok e h =
    let t = sym (ap (λ s. s b) e) ∙ h in
    record { formed = ok; here = t; below = policy-below m b t }
