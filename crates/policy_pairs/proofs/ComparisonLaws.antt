-- What kind 5, or else 6, says of two policies.
use mathlib.Core.Path.{◌≡◌, refl, ap, ◌∙◌}
use mathlib.Core.Bool.{Bool, true, false, not, ◌&&◌, cond, and-false}
use mathlib.Core.List.{List}
use Prim.Native.Nat.{ℕ, ◌≤◌}
use native.Mathlib.Omega.{arith}
use lib.Dec.{eqb, ltb}
use borrow.Author.Tests.{eq-eqb, ne_eqb, le-ltb}
use Rattle.model.specs.declared.Kind.{Kind}
use Rattle.model.specs.declared.Kind.TheVariants.{AllReachable, AllIsolated, UserCross, SystemIsolation, Shadow, Conflict, Irrelevance}
use Rattle.model.specs.Kinds.{kind_number}
use Rattle.model.specs.Findings.{one_direction, shadow, conflict}
use Rattle.formed.specs.Registry.{model_in, bits_in}
use Rattle.policy_pairs.specs.Comparisons.{comparison}

-- no kind but shadow is number 5
pub not-shadow : (kind : Kind) → (kind ≡ Shadow → ⊥) → kind_number kind ≡ 5 → ⊥
not-shadow AllReachable n e = omega arith
not-shadow AllIsolated n e = omega arith
not-shadow UserCross n e = omega arith
not-shadow SystemIsolation n e = omega arith
not-shadow Shadow n e = n refl
not-shadow Conflict n e = omega arith
not-shadow Irrelevance n e = omega arith

module _ (k : ℕ) (m : List ℕ) (a b : ℕ) where
  abbrev kind_said : Bool → Bool
  kind_said t = cond t (shadow (model_in m) (bits_in m)) (conflict (model_in m) (bits_in m)) a b

  pub comparison-5 : k ≡ 5 → comparison k m a b ≡ shadow (model_in m) (bits_in m) a b
  unfolding comparison
  comparison-5 e = ap kind_said (eq-eqb k 5 e)

  pub comparison-6 : (k ≡ 5 → ⊥) → comparison k m a b ≡ conflict (model_in m) (bits_in m) a b
  unfolding comparison
  comparison-6 e = ap kind_said (ne_eqb k 5 e)

  -- a conflict is listed once, at the lower of the two
  pub comparison-below : (k ≡ 5 → ⊥) → b ≤ a → comparison k m a b ≡ false
  unfolding conflict
  comparison-below e h = comparison-6 e ∙ shut (ltb a b) _ (le-ltb a b h)
    where
      shut : (x y : Bool) → x ≡ false → (x && y) ≡ false
      shut x y q = ap (λ t. t && y) q

  -- policies of different directions
  pub comparison-apart : one_direction (model_in m) a b ≡ false → comparison k m a b ≡ false
  unfolding comparison shadow conflict
  comparison-apart h = pick (eqb k 5)
    where
      apart : (x y : Bool) → (x && (one_direction (model_in m) a b && y)) ≡ false
      apart x y = ap (λ t. x && (t && y)) h ∙ and-false x

      pick : (t : Bool) → kind_said t ≡ false
      pick true = apart (not (eqb a b)) _
      pick false = apart (ltb a b) _
