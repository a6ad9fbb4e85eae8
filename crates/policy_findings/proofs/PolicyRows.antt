-- The rows of kinds 5 to 7, at a policy that stands, are the model's definitions.
use mathlib.Core.Path.{◌≡◌, refl, sym, ap, ◌∙◌, fun_ext}
use mathlib.Core.Bool.{Bool, true, false, not, ◌&&◌, cond, and-false}
use mathlib.Core.List.{List}
use Prim.Native.Nat.{ℕ, ◌≤◌, ◌<◌}
use native.Mathlib.Decide.{ℕ_discrete}
use native.Mathlib.Omega.{arith}
use lib.Dec.{eqb, ltb}
use Rattle.bitrow.specs.Set.{nothing, meet, has_some}
use Rattle.bitrow.proofs.Sets.{meet-at}
use Rattle.bitrow.proofs.Tests.{has_some-clear, has_some-absent}
use Rattle.model.specs.declared.Kind.{Kind}
use Rattle.model.specs.declared.Kind.TheVariants.{AllReachable, AllIsolated, UserCross, SystemIsolation, Shadow, Conflict, Irrelevance}
use Rattle.model.specs.Kinds.{kind_number}
use Rattle.model.specs.Findings.{shadow, conflict, needless, irrelevance}
use Rattle.model.specs.Findings as model
use Rattle.formed.specs.Registry.{model_in, bits_in, well_formed}
use Rattle.store.proofs.Cases.{by_eqb}
use Rattle.container_findings.specs.Rows.{shown_at, policies_stand}
use Rattle.policy_pairs.specs.Comparisons.{comparison}
use Rattle.container_findings.proofs.KindRows.{of-kind}
use Rattle.policy_findings.proofs.PolicyKinds.{at_5, at-6, at_7}
use Rattle.policy_pairs.proofs.SetTests.{some-selected, some-allowed, connected-is, conflict-is}

meet-none : (s t : ℕ → Bool) → has_some s ≡ false → has_some (meet s t) ≡ false
meet-none s t e = has_some-clear (meet s t) (λ j h. meet-at s t j ∙ ap (λ x. x && t j) (has_some-absent s e j h))

-- every kind but irrelevance is below number 7
pub not-irrelevance : (kind : Kind) → (kind ≡ Irrelevance → ⊥) → kind_number kind < 7
not-irrelevance AllReachable n = omega arith
not-irrelevance AllIsolated n = omega arith
not-irrelevance UserCross n = omega arith
not-irrelevance SystemIsolation n = omega arith
not-irrelevance Shadow n = omega arith
not-irrelevance Conflict n = omega arith
not-irrelevance Irrelevance n = absurd (n refl)

-- ---- rows

module _ (m : List ℕ) (a : ℕ) (h : policies_stand m a ≡ true) where
  -- the standing policies that pass a kind's test
  passing-row : (k : ℕ) (f : ℕ → Bool) → ((b : ℕ) → shown_at m k a b ≡ (policies_stand m a && (policies_stand m b && f b)))
      → {row : ℕ → Bool} → row ≡ policies_stand m → meet row f ≡ shown_at m k a
  unfolding meet
  passing-row k f shown e = ap (λ s b. s b && f b) e ∙ fun_ext (λ b. sym (shown b ∙ ap (λ t. t && (policies_stand m b && f b)) h))

  pub comparison-row : {row : ℕ → Bool} → row ≡ policies_stand m → (k : ℕ) → 5 ≤ k → k < 7 → meet row (comparison k m a) ≡ shown_at m k a
  unfolding comparison
  comparison-row {row} e k l h =
      by_eqb (λ t. meet row (cond t (shadow (model_in m) (bits_in m)) (conflict (model_in m) (bits_in m)) a) ≡ shown_at m k a) k 5
      (λ q. of-kind m 5 k a (passing-row 5 _ (at_5 m a) e) q) (λ q. of-kind m 6 k a (passing-row 6 _ (at-6 m a) e) (omega arith))

module _ (m : List ℕ) (ok : well_formed m ≡ true) (a : ℕ) (h : policies_stand m a ≡ true) where
  -- a set of a is empty: no shadow and no conflict
  shadow-none : (has_some ((bits_in m).selected a) && has_some ((bits_in m).allowed a)) ≡ false → nothing ≡ shown_at m 5 a
  unfolding nothing shadow
  shadow-none e = fun_ext (λ b. sym (
      at_5 m a b
      ∙ rw (connected-is m ok a ∙ e) (none (policies_stand m a) (policies_stand m b) (not (eqb a b)) (model.one_direction (model_in m) a b))))
    where
      none : (p q r s : Bool) → (p && (q && (r && (s && false)))) ≡ false
      none p q r s = rw (and-false s, and-false r, and-false q) (and-false p)

  conflict-none : (has_some ((bits_in m).selected a) && has_some ((bits_in m).allowed a)) ≡ false → nothing ≡ shown_at m 6 a
  unfolding nothing
  conflict-none e = fun_ext (λ b. sym (
      at-6 m a b
      ∙ ap (λ t. policies_stand m a && (policies_stand m b && t)) (conflict-is m ok a b)
      ∙ none (has_some ((bits_in m).selected a)) (has_some ((bits_in m).allowed a)) _ e (meet-none ((bits_in m).selected a) ((bits_in m).selected b))
      (policies_stand m a) (policies_stand m b) (ltb a b) (model.one_direction (model_in m) a b) _))
    where
      none : (x y z : Bool) → (x && y) ≡ false → (x ≡ false → z ≡ false) → (p q r s t : Bool) → (p && (q && (r && (s && (z && (y && t)))))) ≡ false
      none false y z e f p q r s t = rw (f refl, and-false s, and-false r, and-false q) (and-false p)
      none true y z e f p q r s t = rw (e, and-false z, and-false s, and-false r, and-false q) (and-false p)

  -- 7.
  pub needless-row : needless (has_some ((bits_in m).selected a)) (has_some ((bits_in m).allowed a)) ≡ shown_at m 7 a
  unfolding needless irrelevance
  needless-row = fun_ext (λ b. sym (at_7 m a b ∙ rw (h, some-selected m ok a, some-allowed m ok a)))

  -- neither shadow nor conflict, where a set of a is empty
  pub compared-none : (k : ℕ) → 5 ≤ k → k < 7 → (has_some ((bits_in m).selected a) && has_some ((bits_in m).allowed a)) ≡ false → nothing ≡ shown_at m k a
  compared-none k l h e = go (ℕ_discrete k 5)
    where
      go : Dec (k ≡ 5) → nothing ≡ shown_at m k a
      go (yes p) = of-kind m 5 k a (shadow-none e) p
      go (no p) = of-kind m 6 k a (conflict-none e) (omega arith)
